-- Lists at the boundaries of each rule, computed: what is accepted, and what is refused beside it. Assumes nothing.
use Prim.Native.Nat.{ℕ, zero, suc, ◌+◌}
use Prim.Native.String.{String}
use mathlib.Core.Path.{refl}
use mathlib.Core.Bool.{Bool, true, false}
use mathlib.Core.List.{List, [], ◌∷◌, ◌++◌}
use mathlib.Core.Option.{Option, none, some}
use lib.ListN.{length}
use Rattle.std.specs.Prelude.{Option as CodeOption, Some, None}
use Rattle.base.specs.Quoted.{bytes, LF}
use Rattle.base.proofs.Tables.{◌gives◌, AllHold, in_lines}
use Rattle.text.specs.declared.cursor.Cursor.{Cursor}
use Rattle.text.specs.Version.{version}
use Rattle.text.specs.Digits.{digits}
use Rattle.text.specs.Number.{cursor}
use Rattle.text.specs.Then.{and_then_read}
use Rattle.clusters.specs.Cluster.{cluster, marked_cluster, need}
use Rattle.clusters.specs.Table.{Table}
use Rattle.clusters.specs.declared.cluster.Need.{Need}
use Rattle.cluster_list.specs.Cells.{part_field, need_of}
use Rattle.cluster_list.specs.Read.{and_then_table, read_list}
use Rattle.cluster_list.specs.Write.{Form, four_names, five_names, list_text, write_list}
use Rattle.cluster_list.specs.FourNames.{unmarked, no_marks}
use Rattle.cluster_list.specs.Open.{computing}

-- the table that a list with the four names and these value lines says
abbrev table_of : List String → Option Table
table_of lines = read_list (in_lines ("cluster,version,needs,least" ∷ lines))

-- the marks of a table's clusters
abbrev marks_of : Table → List Bool
marks_of [] = []
marks_of (c ∷ t) = c.stays ∷ marks_of t

-- how many clusters a list has; and one with these value lines
abbrev clusters_in : List ℕ → Option ℕ
clusters_in text = and_then_table none (read_list text) λ t. some (length t)

abbrev clusters_of : List String → Option ℕ
clusters_of lines = clusters_in (in_lines ("cluster,version,needs,least" ∷ lines))

-- ---- fields

-- "a part number 1 to 4,294,967,295"
abbrev part_of : String → Option ℕ
part_of text = and_then_read none (part_field (bytes text)) λ part _. some part

parts-computed : AllHold part_of
    ("0" gives none
    ∷ "1" gives some 1
    ∷ "01" gives none
    ∷ "4294967295" gives some 4294967295
    ∷ "4294967296" gives none
    ∷ "42949672950" gives none
    ∷ "" gives none
    ∷ [])
unfolding computing
parts-computed = refl

-- "both filled or both empty"
abbrev need_in : String × String → CodeOption (CodeOption Need × Cursor)
need_in fields = need_of (bytes fields.0) (bytes fields.1)

needs-computed : AllHold need_in
    (("20", "1.0.4.0") gives Some (Some (need 20 (version 1 0 4 0)), cursor 7)
    ∷ ("4294967295", "0.0.0.0") gives Some (Some (need 4294967295 (version 0 0 0 0)), cursor 7)
    ∷ ("", "") gives Some (None, cursor 0)
    ∷ ("20", "") gives None
    ∷ ("", "1.0.4.0") gives None
    ∷ ("0", "1.0.4.0") gives None
    ∷ ("4294967296", "1.0.4.0") gives None
    ∷ ("20", "1.0.4") gives None
    ∷ [])
unfolding computing
needs-computed = refl

-- ---- value lines

-- "A line that begins a cluster has both of these filled or both empty."
cluster-lines-computed : AllHold table_of
    (("1,1.0.0.3,20,1.0.0.0" ∷ []) gives some (cluster 1 (version 1 0 0 3) (need 20 (version 1 0 0 0) ∷ []) ∷ [])
    ∷ ("1,1.0.0.3,," ∷ []) gives some (cluster 1 (version 1 0 0 3) [] ∷ [])
    ∷ ("1,1.0.0.3,1,1.0.0.0" ∷ []) gives some (cluster 1 (version 1 0 0 3) (need 1 (version 1 0 0 0) ∷ []) ∷ [])
    ∷ ("1,1.0.0.3,20," ∷ []) gives none
    ∷ ("1,1.0.0.3,,1.0.0.0" ∷ []) gives none
    ∷ ("1,,," ∷ []) gives none
    ∷ ("1,,20,1.0.0.0" ∷ []) gives none
    ∷ (",1.0.0.3,," ∷ []) gives none
    ∷ (",1.0.0.3,20,1.0.0.0" ∷ []) gives none
    ∷ ("0,1.0.0.3,," ∷ []) gives none
    ∷ ("x,1.0.0.3,," ∷ []) gives none
    ∷ ("1,1.0.0,," ∷ []) gives none
    ∷ ("1,1.0.0.3," ∷ []) gives none
    ∷ ("1,1.0.0.3,,," ∷ []) gives none
    ∷ ("1,1.0.0.3,,,0" ∷ []) gives none
    ∷ [])
unfolding computing
cluster-lines-computed = refl

-- lines below a cluster without a need
abbrev below : List String → Option Table
below lines = table_of ("7,1.0.0.0,," ∷ lines)

-- "A line with cluster and version empty adds a need to the cluster above it, with needs and least filled."
need-lines-computed : AllHold below
    ((",,20,1.0.0.0" ∷ []) gives some (cluster 7 (version 1 0 0 0) (need 20 (version 1 0 0 0) ∷ []) ∷ [])
    ∷ (",,20,1.0.0.0" ∷ ",,7,2.0.0.0" ∷ []) gives some (cluster 7 (version 1 0 0 0) (need 20 (version 1 0 0 0) ∷ need 7 (version 2 0 0 0) ∷ []) ∷ [])
    ∷ ("8,1.0.0.0,," ∷ ",,7,2.0.0.0" ∷ []) gives some (cluster 7 (version 1 0 0 0) [] ∷ cluster 8 (version 1 0 0 0) (need 7 (version 2 0 0 0) ∷ []) ∷ [])
    ∷ ("8,,20,1.0.0.0" ∷ []) gives none
    ∷ (",1.0.0.0,20,1.0.0.0" ∷ []) gives none
    ∷ (",,20," ∷ []) gives none
    ∷ (",,20,1.0.0.0," ∷ []) gives none
    ∷ (",,,1.0.0.0" ∷ []) gives none
    ∷ (",,," ∷ []) gives none
    ∷ ("" ∷ []) gives none
    ∷ [])
unfolding computing
need-lines-computed = refl

-- ---- marks

-- the marks of the table that a list says
abbrev marks_in : List ℕ → Option (List Bool)
marks_in text = and_then_table none (read_list text) λ t. some (marks_of t)

-- "a mark, `stays`, 0 or 1": that of the cluster on the one value line, which has this field of the mark, in a list of the five names
abbrev mark_on : List ℕ → Option (List Bool)
mark_on mark = marks_in (in_lines ("cluster,version,needs,least,stays" ∷ []) ++ (bytes "7,1.0.0.0,,," ++ (mark ++ LF ∷ [])))

marks-computed : AllHold (λ (mark : String). mark_on (bytes mark))
    ("0" gives some (false ∷ [])
    ∷ "1" gives some (true ∷ [])
    ∷ "" gives none
    ∷ "2" gives none
    ∷ "00" gives none
    ∷ "01" gives none
    ∷ "+1" gives none
    ∷ " 1" gives none
    ∷ "1 " gives none
    ∷ [])
unfolding computing
marks-computed = refl

-- "A need line leaves it empty.": a need line with this field of the mark
abbrev need_with_mark : String → Option (List Bool)
need_with_mark mark =
    marks_in (in_lines ("cluster,version,needs,least,stays" ∷ "7,1.0.0.0,,,1" ∷ []) ++ (bytes ",,20,1.0.0.0," ++ (bytes mark ++ LF ∷ [])))

need-marks-computed : AllHold need_with_mark ("" gives some (true ∷ []) ∷ "0" gives none ∷ "1" gives none ∷ " " gives none ∷ [])
unfolding computing
need-marks-computed = refl

-- the names in other orders, `stays` first and in the middle; every value line has as many fields as there are names; a list of four
-- names has all marks 0
abbrev cluster_and_need : Bool → Option Table
cluster_and_need stays = some (marked_cluster 7 (version 1 0 0 0) (need 20 (version 1 0 4 0) ∷ need 7 (version 2 0 0 0) ∷ []) stays ∷ [])

orders-computed : AllHold (λ (lines : List String). read_list (in_lines lines))
    (("cluster,version,needs,least,stays" ∷ "7,1.0.0.0,20,1.0.4.0,1" ∷ ",,7,2.0.0.0," ∷ []) gives cluster_and_need true
    ∷ ("stays,cluster,version,needs,least" ∷ "1,7,1.0.0.0,20,1.0.4.0" ∷ ",,,7,2.0.0.0" ∷ []) gives cluster_and_need true
    ∷ ("least,version,stays,needs,cluster" ∷ "1.0.4.0,1.0.0.0,0,20,7" ∷ "2.0.0.0,,,7," ∷ []) gives cluster_and_need false
    ∷ ("least,version,stays,needs,cluster" ∷ "1.0.4.0,1.0.0.0,0,20,7" ∷ "2.0.0.0,,0,7," ∷ []) gives none
    ∷ ("least,version,needs,cluster" ∷ "1.0.4.0,1.0.0.0,20,7" ∷ "2.0.0.0,,7," ∷ []) gives cluster_and_need false
    ∷ ("cluster,version,needs,least,stays" ∷ "7,1.0.0.0,20,1.0.4.0" ∷ []) gives none
    ∷ ("cluster,version,needs,least,stays" ∷ "7,1.0.0.0,20,1.0.4.0,1" ∷ ",,7,2.0.0.0" ∷ []) gives none
    ∷ ("cluster,version,needs,least,stays" ∷ "7,1.0.0.0,20,1.0.4.0,1," ∷ []) gives none
    ∷ ("cluster,version,needs,least" ∷ "7,1.0.0.0,20,1.0.4.0,1" ∷ []) gives none
    ∷ ("cluster,version,needs,least" ∷ "7,1.0.0.0,20,1.0.4.0,0" ∷ []) gives none
    ∷ ("cluster,version,needs,least" ∷ "7,1.0.0.0,20,1.0.4.0" ∷ ",,7,2.0.0.0," ∷ []) gives none
    ∷ [])
unfolding computing
orders-computed = refl

-- ---- how many

-- "0 to 4 needs": with the first on the cluster's line, and with none there
abbrev need_lines : ℕ → List String
need_lines zero = []
need_lines (suc n) = ",,20,1.0.0.0" ∷ need_lines n

needs-counted : AllHold clusters_of
    (("7,1.0.0.0,20,1.0.0.0" ∷ need_lines 3) gives some 1
    ∷ ("7,1.0.0.0,20,1.0.0.0" ∷ need_lines 4) gives none
    ∷ ("7,1.0.0.0,," ∷ need_lines 4) gives some 1
    ∷ ("7,1.0.0.0,," ∷ need_lines 5) gives none
    ∷ need_lines 1 gives none
    ∷ [])
unfolding computing
needs-counted = refl

-- "in rising part number"
order-computed : AllHold clusters_of
    (("7,1.0.0.0,," ∷ "8,1.0.0.0,," ∷ []) gives some 2
    ∷ ("7,1.0.0.0,," ∷ "7,1.0.0.0,," ∷ []) gives none
    ∷ ("7,1.0.0.0,," ∷ "6,1.0.0.0,," ∷ []) gives none
    ∷ ("6,1.0.0.0,," ∷ "8,1.0.0.0,," ∷ "7,1.0.0.0,," ∷ []) gives none
    ∷ [])
unfolding computing
order-computed = refl

-- "at most 64 clusters": so many, with the part numbers from `part` on
abbrev many_lines : ℕ → ℕ → List ℕ
many_lines zero part = []
many_lines (suc n) part = digits part ++ (bytes ",0.0.0.0,," ++ LF ∷ many_lines n (part + 1))

many-computed : AllHold (λ (n : ℕ). clusters_in (in_lines ("cluster,version,needs,least" ∷ []) ++ many_lines n 1)) (64 gives some 64 ∷ 65 gives none ∷ [])
unfolding computing
many-computed = refl

-- ---- the text as a whole

-- "every line ends in LF"; "No value lines is the empty table."
texts-computed : AllHold clusters_in
    (in_lines ("cluster,version,needs,least" ∷ []) gives some 0
    ∷ bytes "cluster,version,needs,least" gives none
    ∷ [] gives none
    ∷ in_lines ("" ∷ []) gives none
    ∷ (in_lines ("cluster,version,needs,least" ∷ []) ++ bytes "1,1.0.0.0,,") gives none
    ∷ in_lines ("" ∷ "cluster,version,needs,least" ∷ []) gives none
    ∷ in_lines ("cluster,version,needs,least" ∷ "" ∷ []) gives none
    ∷ in_lines ("cluster,version,needs" ∷ []) gives none
    ∷ in_lines ("cluster,version,needs,least," ∷ []) gives none
    ∷ in_lines ("cluster,version,needs,least,stays" ∷ []) gives some 0
    ∷ bytes "cluster,version,needs,least,stays" gives none
    ∷ in_lines ("cluster,version,needs,least,sum" ∷ []) gives none
    ∷ in_lines ("cluster,version,needs,stays" ∷ []) gives none
    ∷ in_lines ("cluster,version,needs,least,least" ∷ []) gives none
    ∷ in_lines ("cluster,version,needs,stays,stays" ∷ []) gives none
    ∷ in_lines ("cluster,version,needs,least,stays," ∷ []) gives none
    ∷ in_lines ("cluster,version,needs,least,stays,stays" ∷ []) gives none
    ∷ in_lines ("cluster,version,needs,needs" ∷ []) gives none
    ∷ in_lines (",cluster,version,needs" ∷ "least,7,1.0.0.0," ∷ []) gives none
    ∷ [])
unfolding computing
texts-computed = refl

-- the example of document 01: names in another order, and what our writer writes; marks, and no marks, as they are written
abbrev rewritten : List String → Option (List ℕ)
rewritten lines = and_then_table none (read_list (in_lines lines)) λ t. some (write_list t)

example-computed : AllHold rewritten
    (("version,cluster,least,needs" ∷ "1.0.0.3,11,1.0.0.0,20" ∷ "1.0.4.0,20,," ∷ [])
    gives some (in_lines ("cluster,version,needs,least,stays" ∷ "11,1.0.0.3,20,1.0.0.0,0" ∷ "20,1.0.4.0,,,0" ∷ []))
    ∷ ("cluster,version,needs,least" ∷ "5,0.0.0.1,," ∷ ",,1,1.0.0.0" ∷ ",,2,2.0.0.0" ∷ ",,3,3.0.0.0" ∷ "6,0.0.0.2,," ∷ [])
    gives some (in_lines ("cluster,version,needs,least,stays" ∷ "5,0.0.0.1,1,1.0.0.0,0" ∷ ",,2,2.0.0.0," ∷ ",,3,3.0.0.0," ∷ "6,0.0.0.2,,,0" ∷ []))
    ∷ ("stays,cluster,version,needs,least" ∷ "1,20,1.0.4.0,," ∷ "0,21,1.0.0.0,20,1.0.0.0" ∷ ",,,20,1.0.4.0" ∷ [])
    gives some (in_lines ("cluster,version,needs,least,stays" ∷ "20,1.0.4.0,,,1" ∷ "21,1.0.0.0,20,1.0.0.0,0" ∷ ",,20,1.0.4.0," ∷ []))
    ∷ ("cluster,version,needs,least,stays" ∷ []) gives some (in_lines ("cluster,version,needs,least,stays" ∷ []))
    ∷ ("cluster,version,needs,least" ∷ []) gives some (in_lines ("cluster,version,needs,least,stays" ∷ []))
    ∷ [])
unfolding computing
example-computed = refl

-- "A four-name list still loads, with all marks 0.": a table with a mark in both forms, and the marks that are read
abbrev marked : Table
marked = marked_cluster 20 (version 1 0 4 0) [] true ∷ cluster 21 (version 1 0 0 0) (need 20 (version 1 0 0 0) ∷ need 20 (version 1 0 4 0) ∷ []) ∷ []

forms-computed : AllHold (λ (form : Form). list_text form marked)
    (four_names gives in_lines ("cluster,version,needs,least" ∷ "20,1.0.4.0,," ∷ "21,1.0.0.0,20,1.0.0.0" ∷ ",,20,1.0.4.0" ∷ [])
    ∷ five_names gives in_lines ("cluster,version,needs,least,stays" ∷ "20,1.0.4.0,,,1" ∷ "21,1.0.0.0,20,1.0.0.0,0" ∷ ",,20,1.0.4.0," ∷ [])
    ∷ [])
unfolding computing
forms-computed = refl

forms-read : AllHold (λ (form : Form). marks_in (list_text form marked))
    (four_names gives some (false ∷ false ∷ []) ∷ five_names gives some (true ∷ false ∷ []) ∷ [])
unfolding computing
forms-read = refl

-- with all marks 0 a table has its clusters, versions and needs as before
unmarked-computed : AllHold unmarked
    ((cluster 19 (version 1 0 0 0) [] ∷ marked)
    gives (cluster 19 (version 1 0 0 0) []
    ∷ cluster 20 (version 1 0 4 0) []
    ∷ cluster 21 (version 1 0 0 0) (need 20 (version 1 0 0 0) ∷ need 20 (version 1 0 4 0) ∷ [])
    ∷ [])
    ∷ [] gives []
    ∷ [])
unfolding computing
unmarked-computed = refl

no-marks-computed : AllHold no_marks
    (marked gives false
    ∷ (cluster 19 (version 1 0 4 0) [] ∷ marked) gives false
    ∷ unmarked marked gives true
    ∷ [] gives true
    ∷ [])
unfolding computing
no-marks-computed = refl
