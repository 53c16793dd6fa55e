-- Demand 2 at the calls: "the cluster list that we write loads back as the same table". Load of the bytes that an accepted ClusterInfo
-- wrote is accepted, and its table is the running one. Assumes nothing.
use Prim.Native.Nat.{ℕ}
use mathlib.Core.Path.{◌≡◌, ap, ◌∙◌}
use mathlib.Core.List.{List}
use Rattle.model.specs.State.{State, Store}
use Rattle.model.specs.Load.{load}
use Rattle.model.specs.Reading.{cluster_info, cluster_info_report}
use Rattle.model.proofs.Claims.{cluster-info-loads-back}
use Rattle.reading_reply.specs.declared.ReadingReply.{ReadingReply}
use Rattle.reading_reply.specs.Reply.{view_report}
use Rattle.reading_reply.proofs.ReportLaws.{given-says}
use Rattle.cluster_info.specs.LoadsBack.{LoadsBack}

pub written-loads-back : (s : State) (store : Store) (r : ReadingReply) (old new : List ℕ) → view_report r new ≡ cluster_info_report s store old
    → LoadsBack s r new
unfolding LoadsBack cluster_info_report
written-loads-back s store r old new e count f given first lent least most room =
    let is = given-says s store (cluster_info s) old r new count e f in
    ap (λ (list : List ℕ). load given list first lent) is.first
    ∙ cluster-info-loads-back s store is.is_sound given first lent least most room

-- both clauses of ClusterInfo follow from its equation
pub promised : (s : State) (store : Store) (r : ReadingReply) (old new : List ℕ) → view_report r new ≡ cluster_info_report s store old
    → (view_report r new ≡ cluster_info_report s store old) × LoadsBack s r new
promised s store r old new e = (e, written-loads-back s store r old new e)
