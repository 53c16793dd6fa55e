-- A row is one of the old four exactly if its number is 12 or above: one with a number below is of the twelve, whatever its other words
-- are. Assumes nothing.
use Prim.Native.Nat.{ℕ, zero, suc, ◌+◌}
use mathlib.Core.Path.{◌≡◌, refl, sym, ap, ◌∙◌}
use mathlib.Core.Bool.{Bool, true, false, ◌&&◌}
use mathlib.Core.List.{List}
use mathlib.Core.Option.{Option, none, some, map, some-injective}
use lib.Dec.{eqb, leb}
use lib.ListN.{length, get_or}
use Rattle.base.proofs.Tests.{none-some, cond_cases}
use Rattle.four_state.specs.MixedLists.{MixedCall, of_twelve, of_four}
use Rattle.call_rows.specs.declared.row.Row.{Row}
use Rattle.call_rows.specs.declared.row.MixedRequest.{MixedRequest}
use Rattle.call_rows.specs.declared.row.MixedRequest.TheVariants.{Twelve, Old}
use Rattle.call_rows.specs.Row.{block_of, mixed_of, request_if, has_one_number, has_no_number, requests_by_number, requested, request_within, decoded_row}

abbrev pub is_old : MixedCall → Bool
is_old (of_twelve call) = false
is_old (of_four call) = true

abbrev is_old_request : MixedRequest → Bool
is_old_request (Twelve request) = false
is_old_request (Old call) = true

-- a request, if there is one, is of the kind that a number says
abbrev OfKind : ℕ → Option MixedRequest → Type 0
OfKind number o = (request : MixedRequest) → o ≡ some request → is_old_request request ≡ leb 12 number

if-kind : (number : ℕ) (holds : Bool) (own : MixedRequest) → is_old_request own ≡ leb 12 number → OfKind number (request_if holds own)
if-kind number true own is request e = ap is_old_request (sym (some-injective _ _ e)) ∙ is
if-kind number false own is request e = none-some e

module _ (r : Row) where
  kind_at : (number : ℕ) → OfKind number (get_or (requests_by_number r) number none)
  unfolding requests_by_number
  kind_at zero = if-kind 0 (has_one_number r) _ refl
  kind_at (suc zero) = if-kind 1 true _ refl
  kind_at (suc (suc zero)) = if-kind 2 (has_one_number r) _ refl
  kind_at (suc (suc (suc zero))) = if-kind 3 (has_one_number r) _ refl
  kind_at (suc (suc (suc (suc zero)))) = if-kind 4 (has_one_number r) _ refl
  kind_at (suc (suc (suc (suc (suc zero))))) = if-kind 5 (has_one_number r) _ refl
  kind_at (suc (suc (suc (suc (suc (suc zero)))))) = if-kind 6 (has_one_number r) _ refl
  kind_at (suc (suc (suc (suc (suc (suc (suc zero))))))) = if-kind 7 (has_no_number r) _ refl
  kind_at (suc (suc (suc (suc (suc (suc (suc (suc zero)))))))) = if-kind 8 (has_no_number r) _ refl
  kind_at (suc (suc (suc (suc (suc (suc (suc (suc (suc zero))))))))) = if-kind 9 (has_no_number r) _ refl
  kind_at (suc (suc (suc (suc (suc (suc (suc (suc (suc (suc zero)))))))))) = if-kind 10 (has_no_number r) _ refl
  kind_at (suc (suc (suc (suc (suc (suc (suc (suc (suc (suc (suc zero))))))))))) = if-kind 11 (leb r.first 1 && has_one_number r) _ refl
  kind_at (suc (suc (suc (suc (suc (suc (suc (suc (suc (suc (suc (suc zero)))))))))))) = if-kind 12 (has_no_number r) _ refl
  kind_at (suc (suc (suc (suc (suc (suc (suc (suc (suc (suc (suc (suc (suc zero))))))))))))) = if-kind 13 (has_one_number r) _ refl
  kind_at (suc (suc (suc (suc (suc (suc (suc (suc (suc (suc (suc (suc (suc (suc zero)))))))))))))) = if-kind 14 (has_no_number r) _ refl
  kind_at (suc (suc (suc (suc (suc (suc (suc (suc (suc (suc (suc (suc (suc (suc (suc zero))))))))))))))) = if-kind 15 (has_no_number r) _ refl
  kind_at (suc (suc (suc (suc (suc (suc (suc (suc (suc (suc (suc (suc (suc (suc (suc (suc k)))))))))))))))) = λ request e. none-some e

  kind-of-request : (room : ℕ) → OfKind r.call (request_within r room)
  unfolding request_within requested
  kind-of-request room =
      cond_cases (OfKind r.call) (leb (r.start + r.length) room) (requested r) none
      (λ t. cond_cases (OfKind r.call) (eqb r.reserved 0) (get_or (requests_by_number r) r.call none) none (λ t. kind_at r.call) λ f request e. none-some e)
      λ f request e. none-some e

  kind-of : (block : List ℕ) (o : Option MixedRequest) → OfKind r.call o → (call : MixedCall) → map (λ (request : MixedRequest). mixed_of request block) o ≡ some call
      → is_old call ≡ leb 12 r.call
  kind-of block none kind call e = none-some e
  kind-of block (some (Twelve request)) kind call e = ap is_old (sym (some-injective _ _ e)) ∙ kind (Twelve request) refl
  kind-of block (some (Old old)) kind call e = ap is_old (sym (some-injective _ _ e)) ∙ kind (Old old) refl

  pub kind-by-number : (bytes : List ℕ) (call : MixedCall) → decoded_row r bytes ≡ some call → is_old call ≡ leb 12 r.call
  unfolding decoded_row
  kind-by-number bytes = kind-of (block_of r bytes) (request_within r (length bytes)) (kind-of-request (length bytes))
