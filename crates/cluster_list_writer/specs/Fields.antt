-- The parts of a line. No other crate's definition cites them.
use Rattle.std.specs.Prelude.{ℕ, List, [], ◌∷◌, ◌++◌}
use Rattle.base.specs.Quoted.{comma}
use Rattle.text.specs.Digits.{digits}
use Rattle.text.specs.Version.{version_text}
use Rattle.clusters.specs.Cluster.{Cluster}
use Rattle.cluster_list.specs.Write.{five_names, line_in, mark_text, need_cells}

-- fields with a comma behind each: what stands in front of the last field of a line
unfoldable pub fields_text : List (List ℕ) → List ℕ
fields_text [] = []
fields_text (w ∷ ws) = w ++ comma ∷ fields_text ws

-- the line that a cluster begins with
abbrev pub first_line : Cluster → List ℕ
first_line c = line_in five_names (digits c.part ∷ version_text c.version ∷ need_cells c.needs) (mark_text c.stays)
