-- The names line in the order in which document 01 prints the names: its end and its columns, by computation. Assumes nothing.
use Prim.Native.Nat.{ℕ}
use mathlib.Core.Path.{◌≡◌, refl}
use mathlib.Core.List.{List, [], ◌∷◌, ◌++◌}
use Rattle.std.specs.Prelude.{Some, None}
use Rattle.base.specs.Quoted.{bytes, LF}
use Rattle.text.specs.Number.{cursor}
use Rattle.text.specs.Word.{same_bytes}
use Rattle.rows.specs.declared.columns.ClusterColumns.{ClusterColumns}
use Rattle.rows.specs.Field.{ends_field, field, behind_field, cell}
use Rattle.rows.specs.Line.{line_from, line_text}
use Rattle.rows.specs.Columns.{column_from, cluster_columns, package_columns}
use Rattle.rows.specs.ListColumns.{four_columns, five_columns, list_columns}
use Rattle.rows.specs.Names.{cluster_names, list_names, package_names}

pub cluster-names-text : line_text cluster_names ≡ bytes "cluster,version,needs,least" ++ LF ∷ []
unfolding line_text
cluster-names-text = refl

pub list-names-text : line_text list_names ≡ bytes "cluster,version,needs,least,stays" ++ LF ∷ []
unfolding line_text
list-names-text = refl

pub package-names-text : line_text package_names ≡ bytes "action,cluster,version,payload,sum,needs,least" ++ LF ∷ []
unfolding line_text
package-names-text = refl

-- the columns in that order
abbrev pub in_order : ClusterColumns
in_order = record { cluster = 0; version = 1; needs = 2; least = 3 }

module _ (rest : List ℕ) where
  pub four-names : list_columns (bytes "cluster,version,needs,least" ++ LF ∷ rest)
      ≡ Some (record { cluster_columns = in_order; stays = None }, cursor 28)
  unfolding list_columns four_columns line_from cluster_columns column_from cell field behind_field ends_field same_bytes
  four-names = refl

  pub five-names : list_columns (bytes "cluster,version,needs,least,stays" ++ LF ∷ rest)
      ≡ Some (record { cluster_columns = in_order; stays = Some 4 }, cursor 34)
  unfolding list_columns five_columns line_from cluster_columns column_from cell field behind_field ends_field same_bytes
  five-names = refl

  pub package-names-columns : package_columns 7 (bytes "action,cluster,version,payload,sum,needs,least" ++ LF ∷ rest)
      ≡ Some (record {
        action = 0;
        payload = 3;
        sum = 4;
        cluster_columns = record { cluster = 1; version = 2; needs = 5; least = 6 };
      })
  unfolding package_columns cluster_columns column_from cell field behind_field ends_field same_bytes
  package-names-columns = refl
