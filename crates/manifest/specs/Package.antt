-- "Packages in the store": the text of a package, whose first value line is the crate package_heading's.
use Rattle.std.specs.Prelude.{ℕ, zero, suc, ◌+◌, Bool, cond, ◌&&◌, List, eqb, length, drop, get_or, Option, Some, None}
use Rattle.base.specs.Quoted.{LF}
use Rattle.text.specs.Then.{and_then_read, and_then_some}
use Rattle.rows.specs.declared.columns.ClusterColumns.{ClusterColumns}
use Rattle.rows.specs.declared.columns.PackageColumns.{PackageColumns}
use Rattle.rows.specs.Field.{cell, is_empty}
use Rattle.rows.specs.Line.{line_from}
use Rattle.rows.specs.Columns.{package_columns}
use Rattle.clusters.specs.declared.cluster.Need.{Need}
use Rattle.actions.specs.declared.action.Change.{Change}
use Rattle.actions.specs.declared.action.Change.TheVariants.{Install, Update, Remove}
use Rattle.clusters.specs.Cluster.{Cluster, with_need}
use Rattle.actions.specs.Action.{Action}
use Rattle.actions.specs.View.{action_of}
use Rattle.cluster_list.specs.Cells.{need_fields}
use Rattle.package_heading.specs.Heading.{Heading, first_line}

-- what the text of a package says: the action, the payload's start within the area, count and sum
pub record Manifest : Type 0 where
  pub action : Action
  pub start : ℕ
  pub count : ℕ
  pub sum : ℕ

-- what reading an area finds: 9, 10, or a package
pub data PackageRead : Type 0 where
  ill_formed inconsistent : PackageRead
  consistent : Manifest → PackageRead

-- cluster and version of the line that a text begins with are empty
abbrev pub no_cluster : ClusterColumns → List ℕ → Bool
no_cluster columns l = is_empty (cell columns.cluster l) && is_empty (cell columns.version l)

-- action, payload and sum of that line are empty
abbrev pub no_payload : PackageColumns → List ℕ → Bool
no_payload columns l = is_empty (cell columns.action l) && (is_empty (cell columns.payload l) && is_empty (cell columns.sum l))

-- "Value lines after the first fill only needs and least, both."
unfoldable pub only_need : PackageColumns → List ℕ → Option Need
only_need columns l =
    cond (no_payload columns l && no_cluster columns.cluster_columns l)
    (and_then_read None (need_fields columns.cluster_columns l) λ need _. need)
    None

-- the cluster with the needs of further value lines, and where the payload starts
pub record Text : Type 0 where
  pub cluster : Cluster
  pub start : ℕ

-- "an empty line" stands at a position: its LF alone. Past the end `get_or` gives 0, which is no LF
abbrev pub is_empty_line : List ℕ → ℕ → Bool
is_empty_line s at = eqb (get_or s at 0) LF

-- at most the given number of further value lines from a position on, "an empty line, then the payload"
unfoldable pub further_lines : ℕ → PackageColumns → List ℕ → ℕ → Cluster → Option Text
further_lines zero columns s at c = cond (is_empty_line s at) (Some (record { cluster = c; start = at + 1 })) None
further_lines (suc lines) columns s at c =
    cond (is_empty_line s at) (Some (record { cluster = c; start = at + 1 }))
    (and_then_some None (line_from 6 at (drop at s)) λ next.
    and_then_some None (only_need columns (drop at s)) λ n.
    further_lines lines columns s next.at (with_need c n))

-- "1 to 4 value lines"; for remove "there is one value line"
abbrev pub further_most : Change → ℕ
further_most Install = 3
further_most Update = 3
further_most Remove = 0

-- "bytes behind the empty line aren't exactly the payload count": 10
unfoldable pub package_with : List ℕ → Heading → Text → PackageRead
package_with s h t =
    cond (eqb (t.start + h.count) (length s))
    (consistent (record { action = action_of h.change t.cluster; start = t.start; count = h.count; sum = h.sum }))
    inconsistent

-- the package whose first value line is read, from the position behind it on
abbrev pub package_behind : PackageColumns → List ℕ → ℕ → Heading → PackageRead
package_behind columns s next h =
    and_then_some ill_formed (further_lines (further_most h.change) columns s next h.cluster) λ t.
    package_with s h t

-- the package whose names line is read, from the position behind it on
abbrev pub package_from : PackageColumns → List ℕ → ℕ → PackageRead
package_from columns s first =
    and_then_some ill_formed (line_from 6 first (drop first s)) λ next.
    and_then_some ill_formed (first_line columns (drop first s)) λ h.
    package_behind columns s next.at h

-- a package's area: names line, value lines, an empty line, the payload. "text before the payload ill-formed": 9
unfoldable pub read_package : List ℕ → PackageRead
read_package s =
    and_then_some ill_formed (line_from 6 0 s) λ first.
    and_then_some ill_formed (package_columns 7 s) λ columns.
    package_from columns s first.at
