-- What is done to the bytes of the store, by position. "Only Load, an accepted block and deleting write the store."
-- Each is total: a part that does not lie in the store, and a move up, leave the store as it was.
use Rattle.std.specs.Prelude.{ℕ, ◌+◌, ◌-◌, cond, ◌&&◌, List, leb, length, take, drop, replicate}
use Rattle.model.specs.State.{Store}
use Rattle.model.specs.Areas.{overwritten}

-- "The block is written": a block in the place of the bytes from a position on
unfoldable pub written : ℕ → List ℕ → Store → Store
written at block store = cond (leb (at + length block) (length store)) (overwritten at block store) store

-- "fills the bytes between .. with 0": 0 in the place of the bytes from a position up to another
unfoldable pub cleared : ℕ → ℕ → Store → Store
cleared from to store = written from (replicate (to - from) 0) store

-- "moves later areas down whole": the bytes from a position on, as many as the count, in the place of those from a lower position on
unfoldable pub moved_down : ℕ → ℕ → ℕ → Store → Store
moved_down from to count store =
    cond (leb to from && leb (from + count) (length store)) (overwritten to (take count (drop from store)) store) store
