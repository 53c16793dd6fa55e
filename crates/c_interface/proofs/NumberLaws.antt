-- What `load_and_run` promises, by the number: each promise of the exported function follows from the one of its name. Assumes nothing.
use Prim.Native.Nat.{ℕ}
use mathlib.Core.Path.{◌≡◌, refl, sym, ap, subst, ◌∙◌}
use mathlib.Core.List.{List}
use mathlib.Core.Option.{Option}
use native.Mathlib.Omega.{arith}
use Rattle.clusters.specs.declared.table.Table.{Table}
use Rattle.clusters.specs.Exact.{empty_table}
use Rattle.model.specs.State.{Store}
use Rattle.state.specs.declared.state.State.{State}
use Rattle.state.specs.Exact.{loaded_state}
use Rattle.four_state.specs.MixedLists.{MixedCall}
use Rattle.call_list.specs.declared.ListReply.{ListReply}
use Rattle.call_list.specs.declared.ListReply.TheVariants.{Made, BadLoad, Malformed, ShortAnswers}
use Rattle.state.specs.declared.answer.Answered.{Answered}
use Rattle.call_list.specs.Replies.{load_reply}
use Rattle.call_list.specs.WholeList.{list_outcome}
use Rattle.call_list.specs.Loaded.{load_and_run_outcome, DemandMetIfMade, LoadReplied}
use Rattle.c_interface.specs.Results.{result_number, load_reply_by}
use Rattle.c_interface.specs.LoadAndRun.{nothing_loaded, numbered_outcome, numbered, load_and_run_numbered, LoadRepliedBy, DemandMetBy0}

-- the state that Load is handed
pub from_nothing : (table : Table) (s : State) → table ≡ empty_table → s ≡ loaded_state table 0 → s ≡ nothing_loaded
from_nothing table s empty loaded = loaded ∙ ap (λ (t : Table). loaded_state t 0) empty

-- the number says what the reply says of Load
load-reply-by-number : (reply : ListReply) → load_reply_by (result_number reply) ≡ load_reply reply
load-reply-by-number Made = refl
load-reply-by-number BadLoad = refl
load-reply-by-number Malformed = refl
load-reply-by-number ShortAnswers = refl

-- 0 is the number of no other reply
made-by-0 : (reply : ListReply) → result_number reply ≡ 0 → reply ≡ Made
made-by-0 Made e = refl
made-by-0 BadLoad e = absurd (omega arith)
made-by-0 Malformed e = absurd (omega arith)
made-by-0 ShortAnswers e = absurd (omega arith)

module _ (list : List ℕ) (first : ℕ) (store : Store) (words : List ℕ) (given : Option (List MixedCall)) (store' : Store) (words' : List ℕ) where
  -- the clauses of `load_and_run` from a state
  abbrev Replied : State → Answered ListReply → Type 0
  Replied s r =
      (list_outcome r store' words' ≡ load_and_run_outcome s list first store words given)
      × (LoadReplied s list first store r.answer × DemandMetIfMade s list first store words given r store' words')

  -- and those of the exported function
  abbrev Numbered : ℕ → Type 0
  Numbered number =
      (numbered_outcome number store' words' ≡ load_and_run_numbered list first store words given)
      × (LoadRepliedBy list first store number × DemandMetBy0 list first store words given number store' words')

  by-its-number : (r : Answered ListReply) → Replied nothing_loaded r → Numbered (result_number r.answer)
  by-its-number r c = (
    ap numbered c.0,
    (
      λ reply is. c.1.0 reply (sym (load-reply-by-number r.answer) ∙ is),
      λ calls is zero. record { state = r.state; met = c.1.1 calls is (made-by-0 r.answer zero) },
    ),
  )

  pub by_number : (s : State) (r : Answered ListReply) (number : ℕ) → s ≡ nothing_loaded → Replied s r → number ≡ result_number r.answer
      → Numbered number
  by_number s r number nothing c is =
      subst Numbered (sym is) (by-its-number r (subst (λ (x : State). Replied x r) nothing c))
