-- The first bytes of an input decide what is printed of it, where they are more than a list can have. Assumes nothing.
use Prim.Native.Nat.{ℕ, ◌≤◌, ◌<◌}
use mathlib.Core.Path.{◌≡◌, refl, sym, ap, ◌∙◌}
use mathlib.Core.Bool.{true}
use mathlib.Core.List.{List, []}
use mathlib.Core.Option.{Option, none, some}
use native.Mathlib.Omega.{arith}
use lib.Dec.{leb}
use lib.ListN.{length, take, length-take}
use lib.Seq.{length-sets, length-take-le, take_all}
use borrow.Author.Tests.{leb-true, leb-false}
use Rattle.io.specs.Counts.{IsPrefixLen}
use Rattle.base.proofs.Tests.{bool_cases}
use Rattle.text.specs.Put.{Put}
use Rattle.clusters.specs.Table.{Table}
use Rattle.cluster_list.specs.Read.{read_list, read_list_most}
use Rattle.cluster_list.specs.Write.{written_list_most}
use Rattle.cluster_list.proofs.ReadLengths.{read-most}
use Rattle.model.specs.State.{State}
use Rattle.model.specs.Load.{is_bad_load, loaded_state}
use Rattle.clist.specs.Answer.{first_id, answer_to, ReadInto}
use Rattle.clist.proofs.Printed.{refused-answer, answer-most}

no-longer-list : (input : List ℕ) → read_list_most < length input → read_list input ≡ none
no-longer-list input h = go (read_list input) (read-most input)
  where
    go : (o : Option Table) → ((t : Table) → o ≡ some t → length input ≤ read_list_most) → o ≡ none
    go none most = refl
    go (some t) most = absurd (omega (arith, most t refl))

bad-load : (input : List ℕ) → read_list_most < length input → is_bad_load input first_id [] ≡ true
unfolding is_bad_load
bad-load input h = rw (no-longer-list input h)

module _ (given : State) (size : ℕ) (h : read_list_most < size) (input : List ℕ) where
  both-refused : size < length input → answer_to given (take size input) ≡ answer_to given input
  both-refused long =
      refused-answer (take size input) given (bad-load (take size input) (simp length-take (omega arith)))
      ∙ sym (refused-answer input given (bad-load input (omega arith)))

  first-bytes-decide : answer_to given (take size input) ≡ answer_to given input
  first-bytes-decide =
      bool_cases (leb (length input) size)
      (λ e. ap (answer_to given) (take_all size input (leb-true (length input) size e)))
      (λ e. both-refused (leb-false (length input) size e))

-- ---- the ways out of `put_answer_to_read`

module _ (read old new : List ℕ) (next : ℕ) (p : (given : State) → Put old 0 (answer_to given read) next new) where
  pub answers : (size : ℕ) → read_list_most < size → (given : State) (input : List ℕ) → ReadInto size input read
      → Put old 0 (answer_to given input) next new
  answers size h given input e =
      let same : answer_to given read ≡ answer_to given input = ap (answer_to given) e ∙ first-bytes-decide given size h input in
      rw same at (p given)

  -- what is printed is a part of the buffer
  pub answer-inside : written_list_most ≤ length old → IsPrefixLen next new
  answer-inside h =
      let any = loaded_state [] first_id in
      let inside : next ≤ length new =
      omega (arith, (p any).behind, answer-most read any, ap length (p any).bytes ∙ length-sets old 0 (answer_to any read)) in
      (inside, sym (length-take-le next new inside))
