-- The payload bytes that Work takes: those of the store from the area's start on are those of the area. Assumes nothing.
use Prim.Native.Nat.{ℕ, zero, suc, ◌+◌, ◌-◌, ◌≤◌}
use mathlib.Core.Path.{◌≡◌, sym, ap, ◌∙◌}
use mathlib.Core.Bool.{true}
use mathlib.Core.List.{List, [], ◌∷◌}
use native.Mathlib.Nat.{add_assoc}
use native.Mathlib.Omega.{arith}
use lib.ListN.{take, drop}
use lib.Seq.{take-nil, take-take, drop-drop}
use Rattle.checksum.specs.declared.Sums.{Sums}
use Rattle.checksum.specs.Sum.{continued, sums_within}
use Rattle.checksum.proofs.Laws.{continued-within}
use Rattle.model.specs.State.{Store}
use Rattle.model.specs.Step.{taken, bytes_taken}
use Rattle.state.specs.declared.work.Work.{Work}
use Rattle.state.specs.View.{kept_work}
use Rattle.work_on_payload.specs.Payload.{work_on}

-- the kept values with other running sums and bytes done
abbrev with_sums : Work → Sums → ℕ → Work
with_sums w sums done =
    record { action = w.action; start = w.start; count = w.count; sum = w.sum; running_sums = sums; done = done; cancel_noted = w.cancel_noted }

-- what the code sums up, from the area's start plus the payload's start plus the bytes done on: count is what `count_taken` gave
pub summed : (w : Work) (n area count : ℕ) (store : Store) (sums : Sums) → count ≡ taken (kept_work w) n
    → (let from = area + w.start + w.done in sums ≡ continued w.running_sums (take (from + count - from) (drop from store)))
    → with_sums w sums (w.done + count) ≡ work_on w n (drop area store)
summed w n area count store sums e f =
    let from = area + w.start + w.done in
    let many : from + count - from ≡ count = omega arith in
    let there : drop from store ≡ drop (w.start + w.done) (drop area store) =
    ap (λ (at : ℕ). drop at store) (add_assoc area w.start w.done) ∙ sym (drop-drop (w.start + w.done) area store) in
    rw (f, many, there, e)

-- the running sums stay within their limit
pub summed-within : (w after : Work) (n : ℕ) (l : List ℕ) → sums_within w.running_sums ≡ true → after ≡ work_on w n l
    → sums_within after.running_sums ≡ true
summed-within w after n l within e = rw e (continued-within w.running_sums (bytes_taken (kept_work w) n l) within)

-- a part that ends within the first n
part-inside : (count at n : ℕ) (l : List ℕ) → at + count ≤ n → take count (drop at (take n l)) ≡ take count (drop at l)
part-inside count zero n l h = take-take count n l (omega arith)
part-inside count (suc at) n [] h = rw (take-nil n)
part-inside count (suc at) zero (x ∷ l) h = absurd (omega arith)
part-inside count (suc at) (suc n) (x ∷ l) h = part-inside count at n l (omega arith)

-- bytes that are taken of those from the area's start on are the area's
pub taken-inside : (w : Work) (n size : ℕ) (l : List ℕ) → w.done ≤ w.count → w.start + w.count ≡ size
    → work_on w n l ≡ work_on w n (take size l)
taken-inside w n size l done whole =
    ap (λ (bytes : List ℕ). with_sums w (continued w.running_sums bytes) (w.done + taken (kept_work w) n))
    (sym (part-inside (taken (kept_work w) n) (w.start + w.done) size l (omega arith)))
