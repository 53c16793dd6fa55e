-- `start_waves::rounds::put_entry` meets its contract: two stores. Assumes nothing.
use native.Mathlib.Numerals.{add-one}
use native.Mathlib.Omega.{arith}
use lib.ListN.{length-set}
use Rattle.start_waves.proofs.rounds.put_entry.Goals as goal

pub bounds-buffer-at-2 : goal.bounds-buffer-at-2
bounds-buffer-at-2 c = simp length-set (omega arith)

pub returns : goal.returns
returns c = rw add-one
