-- "Our writer uses the name order above and puts a cluster's first need on the cluster's line, each further one on a line below." A.2:
-- "a fifth name in the cluster list and in our writer's order the last".
use Rattle.std.specs.Prelude.{ℕ, Bool, true, false, List, [], ◌∷◌, ◌++◌, drop}
use Rattle.base.specs.Quoted.{bytes}
use Rattle.text.specs.Digits.{digits}
use Rattle.text.specs.Version.{version_text}
use Rattle.rows.specs.Line.{line_text}
use Rattle.rows.specs.Names.{cluster_names}
use Rattle.clusters.specs.declared.cluster.Need.{Need}
use Rattle.clusters.specs.Cluster.{Cluster}
use Rattle.clusters.specs.Table.{Table}

-- the form of a list: the four names of before, or "the five-name form"
pub data Form : Type 0 where
  four_names five_names : Form

-- the line with these fields, and behind them, "the last", the one of the mark where the form has it
abbrev pub line_in : Form → List (List ℕ) → List ℕ → List ℕ
line_in four_names fields mark = line_text fields
line_in five_names fields mark = line_text (fields ++ mark ∷ [])

-- "the name order above", and `stays` the last
abbrev pub names_line : Form → List ℕ
names_line form = line_in form cluster_names (bytes "stays")

-- "a mark, `stays`, 0 or 1"
abbrev pub mark_text : Bool → List ℕ
mark_text false = bytes "0"
mark_text true = bytes "1"

-- the fields needs and least of a line: those of the first of the needs, if there is one
abbrev pub need_cells : List Need → List (List ℕ)
need_cells [] = [] ∷ [] ∷ []
need_cells (n ∷ ns) = digits n.part ∷ version_text n.least ∷ []

-- the line of a need below the cluster's line. "A need line leaves it empty", the mark
unfoldable pub need_line_text : Form → Need → List ℕ
need_line_text form n = line_in form ([] ∷ [] ∷ need_cells (n ∷ [])) []

unfoldable pub need_lines_text : Form → List Need → List ℕ
need_lines_text form [] = []
need_lines_text form (n ∷ ns) = need_line_text form n ++ need_lines_text form ns

-- the lines of a cluster: "a cluster's first need on the cluster's line, each further one on a line below"
unfoldable pub cluster_lines : Form → Cluster → List ℕ
cluster_lines form c =
    line_in form (digits c.part ∷ version_text c.version ∷ need_cells c.needs) (mark_text c.stays)
    ++ need_lines_text form (drop 1 c.needs)

unfoldable pub clusters_text : Form → Table → List ℕ
clusters_text form [] = []
clusters_text form (c ∷ t) = cluster_lines form c ++ clusters_text form t

-- a table as a list of a form
unfoldable pub list_text : Form → Table → List ℕ
list_text form t = names_line form ++ clusters_text form t

-- what we write: "a written list is compared against the five-name form from now on"
abbrev pub write_list : Table → List ℕ
write_list t = list_text five_names t

-- how many bytes the longest list has that is written: the names line of 34, and 64 clusters of a line of 82 and three of 43
-- (proofs/Longest.antt)
abbrev pub written_list_most : ℕ
written_list_most = 13538
