-- An ending as the model has it. Assumes nothing.
use Prim.Native.Nat.{ℕ}
use mathlib.Core.Path.{◌≡◌, refl, sym, ap, ◌∙◌}
use mathlib.Core.List.{List, [], ◌∷◌}
use mathlib.Core.Option.{Option}
use native.Mathlib.Omega.{arith}
use lib.ListN.{length}
use borrow.Author.Tests.{eq-eqb, ne_eqb}
use Rattle.checksum.specs.Sum.{sum_number}
use Rattle.model.specs.State as model
use Rattle.model.specs.State.{Store}
use Rattle.model.specs.Areas.{processing_id}
use Rattle.model.specs.Areas as areas
use Rattle.model.specs.Calls as calls
use Rattle.model.specs.Sound.{packages_most}
use Rattle.model.specs.Step as step
use Rattle.state.specs.declared.package.PackageState.{PackageState}
use Rattle.state.specs.declared.package.PackageState.TheVariants as packages
use Rattle.state.specs.declared.package.Package.{Package}
use Rattle.state.specs.declared.transfers.Transfers.{Transfers}
use Rattle.state.specs.declared.phase.Phase.{Phase}
use Rattle.state.specs.declared.session.Session.{Session}
use Rattle.state.specs.declared.work.Work.{Work}
use Rattle.state.specs.declared.state.State.{State}
use Rattle.state.specs.declared.answer.Answer.{Answer}
use Rattle.state.specs.declared.answer.Answer.TheVariants.{Processed, Inconsistent}
use Rattle.state.specs.declared.answer.Answered.{Answered}
use Rattle.state.specs.View.{view_package_state, view_packages, view_transfers, view_phase, view_entries, view_state}
use Rattle.state.specs.Exact.{in_state, with_package, with_entry, cleared_work, state}
use Rattle.state.specs.Outcome.{outcome, answered, reply_of, view_outcome}
use Rattle.state.proofs.Views.{view-cleared-work}
use Rattle.areas.specs.Changed.{package_at, with_changed}
use Rattle.areas.proofs.FoundPackage.{FoundAt}
use Rattle.areas.proofs.ChangedPackage.{view-changed}
use Rattle.work_on_payload.specs.Ending.{phase_after, ended, sum_compared}

-- ---- in the model

-- the manager's state after an ending, by the list
phase-by-list : (listed : List model.Entry) → view_phase (phase_after (length listed)) ≡ step.phase_after listed
unfolding phase_after
phase-by-list [] = refl
phase-by-list (e ∷ listed) = rw (ne_eqb (length (e ∷ listed)) 0 λ z. omega arith)

same_parts : (reply reply' : calls.Reply) (phase phase' : model.Phase) (t t' : model.Transfers) (session session' : model.Session) (work work' : Option model.Work) (store : Store)
    → reply ≡ reply' → phase ≡ phase' → t ≡ t' → session ≡ session' → work ≡ work'
    → ◌≡◌ {A = step.Outcome} (record { reply = reply; state = model.state phase t session work; store = store })
    (record { reply = reply'; state = model.state phase' t' session' work'; store = store })
same_parts reply reply' phase phase' t t' session session' work work' store a b c d e = rw (a, b, c, d, e)

-- an ending at the place of the package that is processing is the model's, with the list that the session then has
pub view-ended : (s : State) (store : Store) (i : ℕ) → FoundAt s store (processing_id (view_packages s.transfers)) i
    → length s.transfers.packages ≡ packages_most
    → (package_state : PackageState) (session : Session) (answer : Answer) (answer' : calls.Answer) (listed : List model.Entry)
    → reply_of answer ≡ calls.accepted answer' → session.beginning ≡ s.session.beginning → view_entries session ≡ listed
    → length listed ≡ session.count
    → view_outcome (outcome (ended s.transfers i package_state session answer) store)
    ≡ step.ends_processing (view_state s) store answer' (view_package_state package_state) listed
unfolding ended
view-ended s store i found long package_state session answer answer' listed reply begins list count =
    let t = s.transfers in
    let id = processing_id (view_packages t) in
    let moved : with_changed id (in_state package_state) t ≡ with_package i (in_state package_state (package_at t i)) t = unfold with_changed in rw found.place in
    same_parts _ _ _ _ _ _ _ _ _ _ store reply
    (ap (λ (n : ℕ). view_phase (phase_after n)) (sym count) ∙ phase-by-list listed)
    (ap view_transfers (sym moved) ∙ view-changed t found.inside.few long id (in_state package_state) (areas.in_state (view_package_state package_state)) λ p. refl)
    (rw (begins, list))
    view-cleared-work
