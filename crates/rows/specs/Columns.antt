-- The names line: the names "each once, in any order". A line with as many fields as there are names that has each name among
-- them has each once.
use Rattle.std.specs.Prelude.{ℕ, zero, suc, ◌+◌, cond, List, Option, Some, None}
use Rattle.base.specs.Quoted.{bytes}
use Rattle.text.specs.Then.{and_then_some}
use Rattle.text.specs.Word.{same_bytes}
use Rattle.rows.specs.declared.columns.ClusterColumns.{ClusterColumns}
use Rattle.rows.specs.declared.columns.PackageColumns.{PackageColumns}
use Rattle.rows.specs.Field.{cell}

-- the first field of a line from number k on that is the name, among as many as the first argument says
unfoldable pub column_from : ℕ → ℕ → List ℕ → List ℕ → Option ℕ
column_from zero k name l = None
column_from (suc fields) k name l = cond (same_bytes (cell k l) name) (Some k) (column_from fields (k + 1) name l)

-- "The names are `cluster`, `version`, `needs`, `least`, each once, in any order."
unfoldable pub cluster_columns : ℕ → List ℕ → Option ClusterColumns
cluster_columns fields l =
    and_then_some None (column_from fields 0 (bytes "cluster") l) λ cluster.
    and_then_some None (column_from fields 0 (bytes "version") l) λ version.
    and_then_some None (column_from fields 0 (bytes "needs") l) λ needs.
    and_then_some None (column_from fields 0 (bytes "least") l) λ least.
    Some (record { cluster = cluster; version = version; needs = needs; least = least })

-- "`action`, `cluster`, `version`, `payload`, `sum`, `needs`, `least` (any order, each once)"
unfoldable pub package_columns : ℕ → List ℕ → Option PackageColumns
package_columns fields l =
    and_then_some None (cluster_columns fields l) λ c.
    and_then_some None (column_from fields 0 (bytes "action") l) λ action.
    and_then_some None (column_from fields 0 (bytes "payload") l) λ payload.
    and_then_some None (column_from fields 0 (bytes "sum") l) λ sum.
    Some (record { action = action; payload = payload; sum = sum; cluster_columns = c })
