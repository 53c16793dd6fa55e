-- `soundness::phases::phase_fits` meets its contract: a case for Processing, one for Idle and one for the others. Assumes nothing.
use mathlib.Core.Path.{sym, ap, ◌∙◌}
use mathlib.Core.Bool.{◌&&◌}
use Prim.Native.Nat.{ℕ}
use lib.Dec.{eqb, leb}
use Rattle.state.specs.View.{view_phase}
use Rattle.soundness.proofs.PhaseNumbers.{in-processing, in-idle, elsewhere}
use Rattle.soundness.proofs.phases.phase_fits.Goals as goal

pub returns-then-number-eq-PROCESSING : goal.returns-then-number-eq-PROCESSING
returns-then-number-eq-PROCESSING c listed long =
    in-processing (view_phase c.args.phase) c.args.processing listed (sym c.phase_number-number.ensures ∙ c.if-number-eq-PROCESSING.true)

pub returns-then-number-eq-IDLE : goal.returns-then-number-eq-IDLE
returns-then-number-eq-IDLE c listed long =
    ap (λ (n : ℕ). eqb c.args.processing 0 && eqb n 0) (sym long)
    ∙ in-idle (view_phase c.args.phase) c.args.processing listed (sym c.phase_number-number.ensures ∙ c.if-number-eq-IDLE.true)

pub returns : goal.returns
returns c listed long =
    ap (λ (n : ℕ). eqb c.args.processing 0 && leb 1 n) (sym long)
    ∙ elsewhere (view_phase c.args.phase) c.args.processing listed
    (λ z. c.if-number-eq-PROCESSING.false (c.phase_number-number.ensures ∙ z))
    λ z. c.if-number-eq-IDLE.false (c.phase_number-number.ensures ∙ z)
