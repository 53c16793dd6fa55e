-- From wherever a list of calls begins in a sound state, the beginning table and the running table mark after it what the beginning table
-- marked before it: a session begins with the table of the one before, or with its staged table. By induction over the list. Assumes
-- nothing.
use Prim.Native.Nat.{ℕ}
use mathlib.Core.Path.{◌≡◌, refl, ap, ◌∙◌}
use mathlib.Core.Bool.{Bool, true}
use mathlib.Core.List.{List, [], ◌∷◌}
use mathlib.Core.Logic.{inl, inr}
use Rattle.clusters.specs.Table.{Table, find}
use Rattle.actions.specs.Refusals.{is_marked}
use Rattle.model.specs.State.{State, Store}
use Rattle.model.specs.Calls.{Call}
use Rattle.model.specs.Tables.{running}
use Rattle.model.specs.Sound.{sound}
use Rattle.model.specs.Step.{step}
use Rattle.model.specs.Run.{run}
use Rattle.model.proofs.transitions.Accepting.{accepted-is}
use Rattle.model.proofs.transitions.Refused.{step-cases}
use Rattle.model.proofs.soundness.SoundFacts.{sound-says}
use Rattle.model.proofs.soundness.KeptSound.{step-sound}
use Rattle.model.proofs.soundness.Marks.{staged-marks, running-marks}
use Rattle.model.proofs.journal.Returns.{beginning-after}

module _ (part : ℕ) where
  abbrev marked_at_beginning : State → Bool
  marked_at_beginning s = is_marked (find part s.session.beginning)

  same : {t u : Table} → t ≡ u → is_marked (find part t) ≡ is_marked (find part u)
  same e = ap (λ (table : Table). is_marked (find part table)) e

  step-marks : (s : State) (store : Store) (call : Call) → sound s store ≡ true → marked_at_beginning (step s store call).state ≡ marked_at_beginning s
  step-marks s store call h =
      step-cases (λ o. marked_at_beginning o.state ≡ marked_at_beginning s) s store call (λ number r. refl)
      λ a. elim (beginning-after (accepted-is s store call a)) [
        | inl e ↦ same e
        | inr ended ↦ elim ended.2 [ inl e ↦ same e | inr e ↦ same e ∙ staged-marks s store (sound-says s store h) part ]
      ]

  pub list-marks : (calls : List Call) (s : State) (store : Store) → sound s store ≡ true
      → is_marked (find part (running (run s store calls).state)) ≡ marked_at_beginning s
  unfolding run
  list-marks [] s store h = running-marks s store h part
  list-marks (call ∷ calls) s store h =
      list-marks calls (step s store call).state (step s store call).store (step-sound s store call h) ∙ step-marks s store call h
