-- What `?` returns where a check refuses: the same refusal. Assumes nothing.
use mathlib.Core.Path.{◌≡◌, ap, ◌∙◌}
use Rattle.std.specs.Prelude.{Result, Err, IsErrAnd}
use Rattle.std.proofs.lemmas.Result.{err_from_is_err_and}
use Rattle.refusal.specs.declared.Refusal.{Refusal}

pub passed-up : {A : Type 0} (r : Result A Refusal) (refusal : Refusal) → IsErrAnd r (λ (e : Refusal). e ≡ refusal) → r ≡ Err refusal
passed-up r refusal h = let given = err_from_is_err_and r h in given.1 ∙ ap Err given.2
