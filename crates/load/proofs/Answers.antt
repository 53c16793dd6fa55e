-- What Load gives on the code's structs, by what its tests show: refused by a long store, by id 0 and by an ill-formed list, else the
-- loaded state. Assumes nothing.
use Prim.Native.Nat.{ℕ, ◌≤◌, ◌<◌}
use mathlib.Core.Path.{◌≡◌, sym, ap, ◌∙◌}
use mathlib.Core.Bool.{true, false, not, ◌&&◌, ◌||◌}
use mathlib.Core.List.{List}
use mathlib.Core.Option.{none, some}
use lib.Dec.{leb, ltb}
use lib.ListN.{length, replicate}
use borrow.Author.Tests.{lt-ltb, lt-leb}
use Rattle.std.specs.Prelude.{Option as CodeOption, Some, None}
use Rattle.base.specs.Refusals.{first_refusal}
use Rattle.base.proofs.Tests.{or-second}
use Rattle.clusters.specs.declared.table.Table.{Table as TableStruct}
use Rattle.clusters.specs.View.{view_table}
use Rattle.clusters.specs.Struct.{struct_table}
use Rattle.cluster_list.specs.Read.{read_list, table_read, list_read}
use Rattle.model.specs.State.{Store}
use Rattle.model.specs.Load.{is_none, is_bad_load}
use Rattle.model.specs.Sound.{store_most, id_most}
use Rattle.model.proofs.soundness.LoadSound.{loads-is}
use Rattle.state.specs.declared.state.State.{State}
use Rattle.state.specs.declared.answer.Answer.TheVariants.{Done}
use Rattle.state.specs.declared.answer.Answer.{Answer}
use Rattle.state.specs.declared.answer.Answered.{Answered}
use Rattle.state.specs.View.{view_state}
use Rattle.state.specs.Exact.{loaded_state}
use Rattle.state.specs.Outcome.{outcome, answered, refused_by, settled}
use Rattle.load.specs.Exact.{load}

-- ---- refused

module _ (s : State) (list : List ℕ) (first : ℕ) (store : Store) (r : Answered Answer) (refused : r ≡ refused_by s 20) where
  bad-refused : is_bad_load list first store ≡ true → outcome r store ≡ load s list first store
  unfolding load settled first_refusal
  bad-refused bad = rw (refused, bad)

  pub long-refused : store_most < length store → outcome r store ≡ load s list first store
  unfolding is_bad_load
  long-refused h =
      let ids = not (leb 1 first && leb first id_most) in
      bad-refused (or-second (is_none (read_list list)) (ids || ltb store_most (length store)) (or-second ids _ (lt-ltb store_most (length store) h)))

  pub no-id-refused : first < 1 → outcome r store ≡ load s list first store
  unfolding is_bad_load
  no-id-refused h =
      let id-zero : leb 1 first ≡ false = lt-leb 1 first h in
      bad-refused (or-second (is_none (read_list list)) (not (leb 1 first && leb first id_most) || ltb store_most (length store)) (rw id-zero))

  pub ill-refused : (read : CodeOption TableStruct) → table_read read ≡ read_list list → read ≡ None → outcome r store ≡ load s list first store
  unfolding is_bad_load
  ill-refused read e ill =
      let unread : read_list list ≡ none = sym e ∙ ap table_read ill in
      bad-refused (rw unread)

-- ---- accepted

pub loads : (s : State) (list : List ℕ) (first : ℕ) (store after : Store) (r : Answered Answer) (read : CodeOption TableStruct) (given : TableStruct) (loaded : State)
    → length store ≤ store_most → 1 ≤ first → first ≤ id_most
    → table_read read ≡ read_list list → read ≡ list_read (read_list list) → read ≡ Some given
    → loaded ≡ loaded_state given first → after ≡ replicate (length store) 0 → r ≡ answered Done loaded
    → outcome r after ≡ load s list first store
unfolding load settled first_refusal list_read
loads s list first store after r read given loaded room least most e exact well f zero answered-so =
    let table = view_table given in
    let is_read : read_list list ≡ some table = sym e ∙ ap table_read well in
    let both : ◌≡◌ {A = CodeOption TableStruct} (Some given) (Some (struct_table table)) = sym well ∙ exact ∙ ap list_read is_read in
    let same : given ≡ struct_table table = cc in
    let good : is_bad_load list first store ≡ false = loads-is (view_state s) list first store table is_read least most room in
    rw (answered-so, f, zero, good, is_read)
    (ap (λ (t : TableStruct). outcome (answered Done (loaded_state t first)) (replicate (length store) 0)) same)
