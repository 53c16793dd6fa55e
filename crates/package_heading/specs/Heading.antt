-- "Packages in the store": the first value line of a package.
use Rattle.std.specs.Prelude.{ℕ, Bool, cond, ◌&&◌, List, [], eqb, length, Option, Some, None}
use Rattle.base.specs.Quoted.{bytes}
use Rattle.text.specs.declared.cursor.Cursor.{Cursor}
use Rattle.text.specs.Number.{cursor, whole_number}
use Rattle.text.specs.Version.{whole_version}
use Rattle.text.specs.Word.{same_bytes}
use Rattle.text.specs.Then.{and_then_read}
use Rattle.rows.specs.declared.columns.ClusterColumns.{ClusterColumns}
use Rattle.rows.specs.declared.columns.PackageColumns.{PackageColumns}
use Rattle.rows.specs.Field.{cell, is_empty}
use Rattle.actions.specs.declared.action.Change.{Change}
use Rattle.actions.specs.declared.action.Change.TheVariants.{Install, Update, Remove}
use Rattle.clusters.specs.Cluster.{Cluster, cluster}
use Rattle.clusters.specs.View.{no_version}
use Rattle.cluster_list.specs.Cells.{part_field, need_fields, needs_filled}

-- "Action is `install`, `update` or `remove`." The cursor is the one behind the word
unfoldable pub change_of : List ℕ → Option (Change × Cursor)
change_of w =
    cond (same_bytes w (bytes "install")) (Some (Install, cursor (length w)))
    (cond (same_bytes w (bytes "update")) (Some (Update, cursor (length w)))
    (cond (same_bytes w (bytes "remove")) (Some (Remove, cursor (length w))) None))

-- what the first value line says. Of a remove the version is cleared and there are no needs
pub record Heading : Type 0 where
  pub change : Change
  pub cluster : Cluster
  pub count : ℕ
  pub sum : ℕ

abbrev pub heading : Change → Cluster → ℕ → ℕ → Heading
heading change cluster count sum = record { change = change; cluster = cluster; count = count; sum = sum }

-- version, needs and least of the line that a text begins with are empty
abbrev pub only_part : ClusterColumns → List ℕ → Bool
only_part columns l = is_empty (cell columns.version l) && (is_empty (cell columns.needs l) && is_empty (cell columns.least l))

-- "For `remove`, version, needs and least are empty, payload is 0"
unfoldable pub remove_heading : PackageColumns → List ℕ → ℕ → ℕ → ℕ → Option Heading
remove_heading columns l part count sum =
    cond (only_part columns.cluster_columns l && eqb count 0)
    (Some (heading Remove (cluster part no_version []) count sum))
    None

-- install and update have a version; "On the first these two are both filled or both empty."
unfoldable pub cluster_heading : Change → PackageColumns → List ℕ → ℕ → ℕ → ℕ → Option Heading
cluster_heading change columns l part count sum =
    and_then_read None (whole_version (cell columns.cluster_columns.version l)) λ version _.
    and_then_read None (need_fields columns.cluster_columns l) λ need _.
    Some (heading change (cluster part version (needs_filled need)) count sum)

-- what the action makes of the first value line
abbrev pub heading_of : Change → PackageColumns → List ℕ → ℕ → ℕ → ℕ → Option Heading
heading_of Install = cluster_heading Install
heading_of Update = cluster_heading Update
heading_of Remove = remove_heading

-- "Payload is 0 to 16,777,216, sum 0 to 65,535."
abbrev pub payload_most : ℕ
payload_most = 16777216

abbrev pub sum_most : ℕ
sum_most = 65535

-- payload and sum of the first value line, and what its action makes of it
abbrev pub payload_heading : Change → PackageColumns → List ℕ → ℕ → Option Heading
payload_heading change columns l part =
    and_then_read None (whole_number payload_most (cell columns.payload l)) λ count _.
    and_then_read None (whole_number sum_most (cell columns.sum l)) λ sum _.
    heading_of change columns l part count sum

-- the first value line, which a text begins with
unfoldable pub first_line : PackageColumns → List ℕ → Option Heading
first_line columns l =
    and_then_read None (change_of (cell columns.action l)) λ change _.
    and_then_read None (part_field (cell columns.cluster_columns.cluster l)) λ part _.
    payload_heading change columns l part
