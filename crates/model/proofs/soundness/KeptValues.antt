-- The kept values: begun, continued, noted, cleared, and when phase and packages change around them. Assumes nothing.
use mathlib.Core.Path.{◌≡◌, sym, ◌∙◌}
use mathlib.Core.Bool.{true, false}
use mathlib.Core.List.{List}
use mathlib.Core.Option.{Option, none, some}
use Prim.Native.Nat.{ℕ, ◌+◌, ◌≤◌}
use native.Mathlib.Omega.{arith}
use Rattle.base.proofs.Tests.{and_left, and_right, and_both, clash}
use Rattle.checksum.proofs.Laws.{start-within, continued-within}
use Rattle.actions.specs.Refusals.{passes}
use Rattle.actions.specs.Action.{action_within}
use Rattle.manifest.specs.Package.{Manifest}
use Rattle.package_heading.specs.Heading.{sum_most}
use Rattle.model.specs.State.{Package, Phase, is_processing, Session, Work, actions}
use Rattle.model.specs.Areas.{package_of, processing_id}
use Rattle.model.specs.Tables.{staged}
use Rattle.model.specs.Sound.{kept_sound}
use Rattle.model.specs.Step.{work_at_start, bytes_taken, work_on, with_cancel_noted}
use Rattle.model.proofs.soundness.SoundFacts.{WorkFacts, work-says, work-is}

-- ---- kept or cleared

module _ (phase : Phase) (session : Session) (ps : List Package) where
  pub kept-in-processing : (w : Work) → kept_sound phase session ps (some w) ≡ true → is_processing phase ≡ true
  unfolding kept_sound
  kept-in-processing w h = and_left _ _ h

  pub kept-says : (w : Work) → kept_sound phase session ps (some w) ≡ true → WorkFacts session ps w
  unfolding kept_sound
  kept-says w h = work-says session ps w (and_right (is_processing phase) _ h)

  pub kept-is : (w : Work) → is_processing phase ≡ true → WorkFacts session ps w → kept_sound phase session ps (some w) ≡ true
  unfolding kept_sound
  kept-is w e f = and_both _ _ e (work-is session ps w f)

  pub cleared-is : is_processing phase ≡ false → kept_sound phase session ps none ≡ true
  unfolding kept_sound
  cleared-is e = rw e

  -- outside Processing nothing is kept, so phase, session and packages may change
  pub kept-outside : (phase' : Phase) (session' : Session) (ps' : List Package) (work : Option Work) → is_processing phase ≡ false
      → is_processing phase' ≡ false → kept_sound phase session ps work ≡ true → kept_sound phase' session' ps' work ≡ true
  unfolding kept_sound
  kept-outside phase' session' ps' none e e' h = rw e'
  kept-outside phase' session' ps' (some w) e e' h = clash (kept-in-processing w h) e

  -- packages change, and the size of the one that is processing stays
  pub kept-sized : (ps' : List Package) (work : Option Work) → (package_of (processing_id ps') ps').size ≡ (package_of (processing_id ps) ps).size
      → kept_sound phase session ps work ≡ true → kept_sound phase session ps' work ≡ true
  unfolding kept_sound
  kept-sized ps' none e h = h
  kept-sized ps' (some w) e h =
      let f = kept-says w h in
      and_both _ _ (kept-in-processing w h)
      (work-is session ps' w (record { within = f.within; passed = f.passed; size = f.size ∙ sym e; done = f.done; sum = f.sum; running_sums = f.running_sums }))

-- ---- begun, continued, noted

module _ (session : Session) (ps : List Package) where
  pub begun-facts : (m : Manifest) → action_within m.action ≡ true
      → passes (staged session) (actions session.listed) m.action ≡ true → m.start + m.count ≡ (package_of (processing_id ps) ps).size
      → m.sum ≤ sum_most → WorkFacts session ps (work_at_start m)
  begun-facts m within passed size sum =
      record { within = within; passed = passed; size = size; done = omega arith; sum = sum; running_sums = start-within }

  pub continued-facts : (w : Work) (n : ℕ) (area : List ℕ) → WorkFacts session ps w → WorkFacts session ps (work_on w n area)
  continued-facts w n area f =
      record {
        within = f.within;
        passed = f.passed;
        size = f.size;
        done = omega (arith, f.done);
        sum = f.sum;
        running_sums = continued-within w.running_sums (bytes_taken w n area) f.running_sums;
      }

  pub noted-facts : (w : Work) → WorkFacts session ps w → WorkFacts session ps (with_cancel_noted w)
  noted-facts w f = record { within = f.within; passed = f.passed; size = f.size; done = f.done; sum = f.sum; running_sums = f.running_sums }
