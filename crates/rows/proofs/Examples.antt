-- Fields, lines and names lines at their boundaries, computed: what is accepted, and what is refused beside it. Assumes nothing.
use Prim.Native.Nat.{ℕ}
use Prim.Native.String.{String}
use mathlib.Core.Path.{refl}
use mathlib.Core.Bool.{true, false}
use mathlib.Core.List.{List, [], ◌∷◌}
use Rattle.std.specs.Prelude.{Option, Some, None, option_map}
use Rattle.base.specs.Quoted.{bytes}
use Rattle.base.proofs.Tables.{◌gives◌, AllHold, in_lines}
use Rattle.rows.specs.declared.columns.ClusterColumns.{ClusterColumns}
use Rattle.rows.specs.declared.columns.PackageColumns.{PackageColumns}
use Rattle.rows.specs.declared.list_columns.ListColumns.{ListColumns}
use Rattle.rows.specs.Field.{cell, is_empty, plain_field}
use Rattle.rows.specs.Line.{line_from, line_text}
use Rattle.rows.specs.Columns.{cluster_columns, package_columns}
use Rattle.rows.specs.ListColumns.{list_columns}
use Rattle.rows.specs.Names.{cluster_names, list_names, package_names, times_named, times_in}
use Rattle.rows.specs.Open.{computing}

-- ---- fields and lines

-- "Fields are parted by commas; every line ends in LF."
abbrev field_number : ℕ → List ℕ
field_number k = cell k (in_lines ("ab,,c d" ∷ "e" ∷ []))

fields-computed : AllHold field_number (0 gives bytes "ab" ∷ 1 gives [] ∷ 2 gives bytes "c d" ∷ 3 gives bytes "e" ∷ 4 gives [] ∷ [])
unfolding computing
fields-computed = refl

empty-computed : AllHold (λ (text : String). is_empty (bytes text)) ("" gives true ∷ " " gives false ∷ "0" gives false ∷ [])
empty-computed = refl

plain-computed : AllHold plain_field
    (bytes "" gives true ∷ bytes "1.0" gives true ∷ bytes "1,0" gives false ∷ bytes "," gives false ∷ in_lines ("1" ∷ []) gives false ∷ [])
unfolding computing
plain-computed = refl

-- where a line of three fields ends that begins at position 5
abbrev end_of_three : List ℕ → Option ℕ
end_of_three text = option_map (λ next. next.at) (line_from 2 5 text)

lines-computed : AllHold end_of_three
    (in_lines ("a,b,c" ∷ []) gives Some 11
    ∷ in_lines (",," ∷ "rest" ∷ []) gives Some 8
    ∷ in_lines ("a,b" ∷ []) gives None
    ∷ in_lines ("a,b,c,d" ∷ []) gives None
    ∷ in_lines ("a,b," ∷ "c" ∷ []) gives Some 10
    ∷ bytes "a,b,c" gives None
    ∷ in_lines ("" ∷ []) gives None
    ∷ [] gives None
    ∷ [])
unfolding computing
lines-computed = refl

written-computed : AllHold line_text
    ((bytes "a" ∷ [] ∷ bytes "bc" ∷ []) gives in_lines ("a,,bc" ∷ []) ∷ (bytes "a" ∷ []) gives in_lines ("a" ∷ []) ∷ [] gives in_lines ("" ∷ []) ∷ [])
unfolding computing
written-computed = refl

-- ---- names lines

abbrev cluster_named : String → Option ClusterColumns
cluster_named names = cluster_columns 4 (in_lines (names ∷ "," ∷ []))

abbrev columns : ℕ → ℕ → ℕ → ℕ → ClusterColumns
columns cluster version needs least = record { cluster = cluster; version = version; needs = needs; least = least }

-- "The names are `cluster`, `version`, `needs`, `least`, each once, in any order."
cluster-names-computed : AllHold cluster_named
    ("cluster,version,needs,least" gives Some (columns 0 1 2 3)
    ∷ "least,needs,version,cluster" gives Some (columns 3 2 1 0)
    ∷ "version,cluster,least,needs" gives Some (columns 1 0 3 2)
    ∷ "cluster,cluster,needs,least" gives None
    ∷ "cluster,version,needs,needs" gives None
    ∷ "cluster,version,needs," gives None
    ∷ ",version,needs,least" gives None
    ∷ "cluster,version,need,least" gives None
    ∷ "Cluster,version,needs,least" gives None
    ∷ "cluster, version,needs,least" gives None
    ∷ "cluster,version,needs,sum" gives None
    ∷ [])
unfolding computing
cluster-names-computed = refl

abbrev list_named : List ℕ → Option (ListColumns × ℕ)
list_named text = option_map (λ found. (found.0, found.1.at)) (list_columns text)

-- the columns of these places, and where the names line ends
abbrev ends : ClusterColumns → Option ℕ → ℕ → Option (ListColumns × ℕ)
ends c stays next = Some (record { cluster_columns = c; stays = stays }, next)

-- "a fifth name in the cluster list"; "A four-name list still loads": the number of fields decides
list-names-computed : AllHold (λ (names : String). list_named (in_lines (names ∷ "," ∷ [])))
    ("cluster,version,needs,least" gives ends (columns 0 1 2 3) None 28
    ∷ "version,cluster,least,needs" gives ends (columns 1 0 3 2) None 28
    ∷ "cluster,version,needs,least,stays" gives ends (columns 0 1 2 3) (Some 4) 34
    ∷ "stays,cluster,version,needs,least" gives ends (columns 1 2 3 4) (Some 0) 34
    ∷ "least,needs,stays,version,cluster" gives ends (columns 4 3 1 0) (Some 2) 34
    ∷ "cluster,stays,version,least,needs" gives ends (columns 0 2 4 3) (Some 1) 34
    ∷ "cluster,version,needs,stays" gives None
    ∷ "stays,version,needs,least" gives None
    ∷ "cluster,version,needs,needs" gives None
    ∷ "cluster,version,needs,least,least" gives None
    ∷ "cluster,version,needs,stays,stays" gives None
    ∷ "cluster,cluster,needs,least,stays" gives None
    ∷ "cluster,version,needs,least," gives None
    ∷ "cluster,version,needs,least,sum" gives None
    ∷ "cluster,version,needs,least,Stays" gives None
    ∷ "cluster,version,needs,least, stays" gives None
    ∷ "cluster,version,needs,least,stay" gives None
    ∷ "cluster,version,needs" gives None
    ∷ "cluster,version,needs,least,stays," gives None
    ∷ "cluster,version,needs,least,stays,sum" gives None
    ∷ "" gives None
    ∷ [])
unfolding computing
list-names-computed = refl

-- a names line without LF
list-ends-computed : AllHold (λ (text : String). list_named (bytes text))
    ("cluster,version,needs,least" gives None ∷ "cluster,version,needs,least,stays" gives None ∷ "" gives None ∷ [])
unfolding computing
list-ends-computed = refl

-- a name that the names line lacks and the next line begins with is no name of the list
list-lines-computed : AllHold (λ (lines : List String). list_named (in_lines lines))
    (("cluster,version,needs,sum" ∷ "least" ∷ []) gives None
    ∷ ("cluster,version,needs,sum,stays" ∷ "least" ∷ []) gives None
    ∷ ("cluster,version,needs,least,sum" ∷ "stays" ∷ []) gives None
    ∷ ("cluster,version,needs,least" ∷ "stays" ∷ []) gives ends (columns 0 1 2 3) None 28
    ∷ [])
unfolding computing
list-lines-computed = refl

abbrev package_named : String → Option PackageColumns
package_named names = package_columns 7 (in_lines (names ∷ "," ∷ []))

abbrev all_columns : ℕ → ℕ → ℕ → ClusterColumns → PackageColumns
all_columns action payload sum c = record { action = action; payload = payload; sum = sum; cluster_columns = c }

-- "`action`, `cluster`, `version`, `payload`, `sum`, `needs`, `least` (any order, each once)"
package-names-computed : AllHold package_named
    ("action,cluster,version,payload,sum,needs,least" gives Some (all_columns 0 3 4 (columns 1 2 5 6))
    ∷ "least,needs,sum,payload,version,cluster,action" gives Some (all_columns 6 3 2 (columns 5 4 1 0))
    ∷ "action,action,version,payload,sum,needs,least" gives None
    ∷ "cluster,cluster,version,payload,sum,needs,least" gives None
    ∷ "action,cluster,version,payload,payload,needs,least" gives None
    ∷ "action,cluster,version,payload,,needs,least" gives None
    ∷ "action,cluster,version,,sum,needs,least" gives None
    ∷ ",cluster,version,payload,sum,needs,least" gives None
    ∷ "ACTION,cluster,version,payload,sum,needs,least" gives None
    ∷ [])
unfolding computing
package-names-computed = refl

-- how often a name stands in a line
times-computed : AllHold (λ (name : String). times_named 3 (bytes name) (in_lines ("sum,a,sum,sum" ∷ [])))
    ("sum" gives 2 ∷ "a" gives 1 ∷ "b" gives 0 ∷ "su" gives 0 ∷ [])
unfolding computing
times-computed = refl

-- each name is in its list of names once, and no other is
cluster-names-listed : AllHold (λ (name : String). times_in (bytes name) cluster_names)
    ("cluster" gives 1 ∷ "version" gives 1 ∷ "needs" gives 1 ∷ "least" gives 1 ∷ "stays" gives 0 ∷ "sum" gives 0 ∷ "" gives 0 ∷ [])
unfolding computing
cluster-names-listed = refl

list-names-listed : AllHold (λ (name : String). times_in (bytes name) list_names)
    ("cluster" gives 1 ∷ "version" gives 1 ∷ "needs" gives 1 ∷ "least" gives 1 ∷ "stays" gives 1 ∷ "sum" gives 0 ∷ "" gives 0 ∷ [])
unfolding computing
list-names-listed = refl

package-names-listed : AllHold (λ (name : String). times_in (bytes name) package_names)
    ("action" gives 1
    ∷ "cluster" gives 1
    ∷ "version" gives 1
    ∷ "payload" gives 1
    ∷ "sum" gives 1
    ∷ "needs" gives 1
    ∷ "least" gives 1
    ∷ "" gives 0
    ∷ [])
unfolding computing
package-names-listed = refl
