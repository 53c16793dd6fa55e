-- The packages that a deletion keeps: how one pass over an array moves them to the front, and what the transfers that remain stand
-- for. The pass's invariant is `Keeping`. Assumes nothing.
use Prim.Native.Nat.{ℕ, ◌+◌, ◌≤◌, ◌<◌}
use mathlib.Core.Path.{◌≡◌, refl, sym, ap, ◌∙◌}
use mathlib.Core.Bool.{true, false}
use mathlib.Core.List.{List, [], ◌∷◌, ◌++◌, map, append-nil}
use native.Mathlib.Numerals.{add-one}
use native.Mathlib.Omega.{arith}
use lib.ListN.{length, take, get_or, set, length-take, length-append}
use lib.Seq.{take-suc}
use Rattle.base.proofs.Tests.{bool_cases}
use Rattle.model.specs.State as model
use Rattle.model.specs.Areas.{remaining}
use Rattle.model.specs.Sound.{packages_most}
use Rattle.model.specs.Step.{with_packages}
use Rattle.state.specs.declared.package.Package.{Package}
use Rattle.state.specs.declared.transfers.Transfers.{Transfers}
use Rattle.state.specs.View.{view_package, view_packages, view_transfers}
use Rattle.state.proofs.Views.{packages-few}
use Rattle.areas.specs.declared.deletion.Deletion.{Deletion}
use Rattle.areas.specs.FirstPlaces.{put_first}
use Rattle.areas.specs.Deletion.{keeps, kept, remaining_transfers}
use Rattle.areas.proofs.FirstPlaces.{put-first-more, take-first}

-- ---- the packages that are kept

module _ (deletion : Deletion) where
  kept_append : (ps qs : List Package) → kept deletion (ps ++ qs) ≡ kept deletion ps ++ kept deletion qs
  unfolding kept
  kept_append [] qs = refl
  kept_append (p ∷ ps) qs =
      let ih = kept_append ps qs in
      bool_cases (keeps deletion (view_package p)) (λ k. rw k (ap (λ (l : List Package). p ∷ l) ih)) λ k. rw k ih

  pub length-kept : (ps : List Package) → length (kept deletion ps) ≤ length ps
  unfolding kept
  length-kept [] = omega arith
  length-kept (p ∷ ps) =
      let ih = length-kept ps in
      bool_cases (keeps deletion (view_package p)) (λ k. rw k (omega arith)) λ k. rw k (omega arith)

  -- of the first i + 1: those of the first i, and the one at i where it is kept
  module _ (ps : List Package) (i : ℕ) (d : Package) (below : i < length ps) where
    one_more : kept deletion (take (i + 1) ps) ≡ kept deletion (take i ps) ++ kept deletion (get_or ps i d ∷ [])
    one_more = rw (add-one, take-suc ps i d below) (kept_append (take i ps) (get_or ps i d ∷ []))

    kept_next : keeps deletion (view_package (get_or ps i d)) ≡ true
        → kept deletion (take (i + 1) ps) ≡ kept deletion (take i ps) ++ get_or ps i d ∷ []
    unfolding kept
    kept_next k = one_more ∙ rw k

    kept-passed : keeps deletion (view_package (get_or ps i d)) ≡ false → kept deletion (take (i + 1) ps) ≡ kept deletion (take i ps)
    unfolding kept
    kept-passed k = one_more ∙ rw k (append-nil (kept deletion (take i ps)))

-- ---- one pass over the packages

-- of the first i packages those that are kept stand at the front, in so many places, and every other place is as it was
pub record Keeping (deletion : Deletion) (ps : List Package) (i places : ℕ) (packages : List Package) : Type 0 where
  pub low : places ≤ i
  pub counted : places ≡ length (kept deletion (take i ps))
  pub front : packages ≡ put_first (kept deletion (take i ps)) ps

pub keeping-begins : (deletion : Deletion) (ps : List Package) → Keeping deletion ps 0 0 ps
unfolding kept
keeping-begins deletion ps = record { low = omega arith; counted = refl; front = refl }

module _ {deletion : Deletion} {ps : List Package} {i places : ℕ} {packages : List Package} (k : Keeping deletion ps i places packages) (d : Package) (below : i < length ps) where
  pub keeping-moves : keeps deletion (view_package (get_or ps i d)) ≡ true
      → Keeping deletion ps (i + 1) (places + 1) (set packages places (get_or ps i d))
  keeping-moves h =
      let front = kept deletion (take i ps) in
      let p = get_or ps i d in
      let next : kept deletion (take (i + 1) ps) ≡ front ++ p ∷ [] = kept_next deletion ps i d below h in
      let short : length front < length ps = omega (arith, k.counted, k.low) in
      record {
        low = omega (arith, k.low);
        counted = rw (next, length-append, k.counted);
        front = rw (next, k.counted, k.front) (put-first-more front ps p short);
      }

  pub keeping-passes : keeps deletion (view_package (get_or ps i d)) ≡ false → Keeping deletion ps (i + 1) places packages
  keeping-passes h =
      let next = kept-passed deletion ps i d below h in
      record { low = omega (arith, k.low); counted = rw next k.counted; front = rw next k.front }

pub keeping-ends : {deletion : Deletion} {t : Transfers} {i places : ℕ} {packages : List Package}
    → Keeping deletion t.packages i places packages → i ≡ t.count
    → ◌≡◌ {A = Transfers} (record { packages = packages; count = places; next = t.next }) (remaining_transfers deletion t)
unfolding remaining_transfers
keeping-ends k end = rw (k.counted, k.front, end)

-- ---- what they stand for

module _ (deletion : Deletion) where
  view-kept : (ps : List Package) → map view_package (kept deletion ps) ≡ remaining (keeps deletion) (map view_package ps)
  unfolding kept remaining
  view-kept [] = refl
  view-kept (p ∷ ps) =
      let ih = view-kept ps in
      bool_cases (keeps deletion (view_package p)) (λ k. rw k (ap (λ l. view_package p ∷ l) ih)) λ k. rw k ih

  pub view-remaining-packages : (t : Transfers) → t.count ≤ packages_most
      → view_packages (remaining_transfers deletion t) ≡ remaining (keeps deletion) (view_packages t)
  unfolding remaining_transfers
  view-remaining-packages t few =
      let counting = take t.count t.packages in
      let remain = kept deletion counting in
      let short : length remain ≤ packages_most = omega (arith, length-kept deletion counting, length-take t.count t.packages) in
      packages-few (remaining_transfers deletion t) short
      ∙ ap (map view_package) (take-first remain t.packages (length remain) refl)
      ∙ view-kept counting
      ∙ ap (remaining (keeps deletion)) (sym (packages-few t few))

  -- the transfers that remain are the model's
  pub view-remaining : (t : Transfers) → t.count ≤ packages_most
      → view_transfers (remaining_transfers deletion t) ≡ with_packages (remaining (keeps deletion) (view_packages t)) (view_transfers t)
  unfolding remaining_transfers
  view-remaining t few = ap (λ (ps : List model.Package). with_packages ps (view_transfers t)) (view-remaining-packages t few)
