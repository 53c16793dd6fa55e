-- A table that was read, in a buffer with room for the longest list, in the form in which the code knows it. Assumes nothing.
use Prim.Native.Nat.{ℕ, ◌≤◌}
use mathlib.Core.Path.{◌≡◌, ap, ◌∙◌}
use mathlib.Core.List.{List}
use native.Mathlib.Omega.{arith}
use lib.ListN.{length}
use lib.Seq.{length-sets}
use Rattle.std.specs.Prelude.{Option, Some}
use Rattle.text.specs.Put.{Put}
use Rattle.clusters.specs.View.{view_table}
use Rattle.clusters.specs.declared.table.Table.{Table as TableStruct}
use Rattle.cluster_list.specs.Read.{read_list, list_read}
use Rattle.cluster_list.specs.Write.{write_list, written_list_most}
use Rattle.cluster_list.proofs.Within.{list-read-within}
use Rattle.cluster_list.proofs.Lengths.{list-most}

module _ (s : List ℕ) (r : Option TableStruct) (table : TableStruct) (e : r ≡ list_read (read_list s)) (is : r ≡ Some table) where
  -- its list fits
  pub list-fits : (room : ℕ) → written_list_most ≤ room → length (write_list (view_table table)) ≤ room
  list-fits room h = omega (arith, list-most _ (list-read-within s r table e is))

  -- what was written is a part of the buffer
  pub list_inside : (old new : List ℕ) (next : ℕ) → Put old 0 (write_list (view_table table)) next new → written_list_most ≤ length old → next ≤ length new
  list_inside old new next p h =
      omega (
        arith,
        p.behind,
        list-most _ (list-read-within s r table e is),
        ap length p.bytes ∙ length-sets old 0 (write_list (view_table table)),
      )
