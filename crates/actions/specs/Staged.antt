-- What the code looks at of the cluster that is staged under a part number, and what it says of a change by that.
use Rattle.std.specs.Prelude.{ℕ, ◌≡◌, Bool, List, Some, None}
use Rattle.std.specs.Prelude as code
use Rattle.std.proofs.Math.Option.{Option, none, some}
use Rattle.base.specs.Refusals.{first_refusal}
use Rattle.text.specs.declared.version.Version.{Version}
use Rattle.clusters.specs.Cluster.{Cluster}
use Rattle.clusters.specs.Table.{Table}
use Rattle.actions.specs.declared.action.Change.{Change}
use Rattle.actions.specs.declared.refusals.Staged.{Staged}
use Rattle.actions.specs.Action.{Action, action_part}
use Rattle.actions.specs.Refusals.{touched, staged_refusals, action_refusals, action_refusal}
use Rattle.actions.specs.View.{action_of}

-- the definition for each case: the cluster's version and mark, or that there is none
abbrev pub staged_as : Option Cluster → code.Option Staged
staged_as (some c) = Some (record { version = c.version; stays = c.stays })
staged_as none = None

-- the first of 12, 13, 21, 14 and 15 that applies, or none
abbrev pub staged_refusal : ℕ → Option Cluster → Action → Option ℕ
staged_refusal count found a = first_refusal (staged_refusals found count a)

-- r is what a test says of a change by what is looked at of the staged cluster, whichever cluster that is and whichever the change is of
abbrev pub ByStaged : code.Option Staged → Change → (Option Cluster → Action → Bool) → Bool → Type 0
ByStaged staged change test r = (found : Option Cluster) (c : Cluster) → staged ≡ staged_as found → r ≡ test found (action_of change c)

-- the same of what looks also at the version that the change brings
abbrev pub ByVersion : {A : Type 0} → code.Option Staged → Change → Version → (Option Cluster → Action → A) → A → Type 0
ByVersion staged change version says r =
    (found : Option Cluster) (c : Cluster) → staged ≡ staged_as found → version ≡ c.version → r ≡ says found (action_of change c)

-- r is the first of 11 to 15 and 21 that applies, or none, for every list of actions of which `in_list` says whether it has the cluster
abbrev pub ByTouched : Bool → Table → Action → Option ℕ → Type 0
ByTouched in_list staged a r = (listed : List Action) → in_list ≡ touched (action_part a) listed → r ≡ first_refusal (action_refusals staged listed a)

-- n is the number of the first of 11 to 15 and 21 that applies, or 0, for every such list
abbrev pub NumberByTouched : Bool → Table → Action → ℕ → Type 0
NumberByTouched in_list staged a n = (listed : List Action) → in_list ≡ touched (action_part a) listed → n ≡ action_refusal staged listed a
