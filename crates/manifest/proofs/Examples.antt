-- Packages at the boundaries of each rule, computed: what is accepted, and what is refused beside it. The rules of the first value
-- line have theirs in the crate package_heading. Assumes nothing.
use Prim.Native.Nat.{ℕ, zero, suc}
use Prim.Native.String.{String}
use mathlib.Core.Path.{refl}
use mathlib.Core.List.{List, [], ◌∷◌, ◌++◌}
use Rattle.base.specs.Quoted.{bytes}
use Rattle.base.proofs.Tables.{◌gives◌, AllHold, in_lines}
use Rattle.text.specs.Version.{version}
use Rattle.clusters.specs.declared.cluster.Need.{Need}
use Rattle.clusters.specs.Cluster.{Cluster, cluster, need}
use Rattle.actions.specs.Action.{Action, install, update, remove}
use Rattle.manifest.specs.Package.{PackageRead, ill_formed, inconsistent, consistent, read_package}
use Rattle.manifest.specs.Open.{computing}

-- a package with these lines and this payload
abbrev package_of : List String → String → PackageRead
package_of lines payload = read_package (in_lines lines ++ bytes payload)

-- cluster 30 at 1.0.0.0 with these needs
abbrev thirty : List Need → Cluster
thirty needs = cluster 30 (version 1 0 0 0) needs

abbrev twenty : Need
twenty = need 20 (version 1 0 4 0)

-- an action with its payload's start, count and sum
abbrev says : Action → ℕ → ℕ → ℕ → PackageRead
says action start count sum = consistent (record { action = action; start = start; count = count; sum = sum })

-- ---- the names line

abbrev named : String → PackageRead
named names = package_of (names ∷ "install,30,1.0.0.0,0,0,20,1.0.4.0" ∷ "" ∷ []) ""

-- "(any order, each once)"; the other orders of the same columns say another line
names-computed : AllHold named
    ("action,cluster,version,payload,sum,needs,least" gives says (install (thirty (twenty ∷ []))) 82 0 0
    ∷ "action,cluster,version,sum,payload,needs,least" gives says (install (thirty (twenty ∷ []))) 82 0 0
    ∷ "action,needs,least,payload,sum,cluster,version"
    gives says (install (cluster 20 (version 1 0 4 0) (need 30 (version 1 0 0 0) ∷ []))) 82 0 0
    ∷ "cluster,action,version,payload,sum,needs,least" gives ill_formed
    ∷ "action,cluster,version,payload,payload,needs,least" gives ill_formed
    ∷ "action,cluster,version,payload,,needs,least" gives ill_formed
    ∷ "action,cluster,version,payload,sum,needs" gives ill_formed
    ∷ "action,cluster,version,payload,sum,needs,least," gives ill_formed
    ∷ "action,cluster,version,payload,sum,needs,least,least" gives ill_formed
    ∷ "" gives ill_formed
    ∷ [])
unfolding computing
names-computed = refl

-- a name at the beginning of the next line is none of the names line's
name-behind-computed : AllHold (λ (lines : List String). package_of lines "")
    (("sum,action,cluster,version,payload,least,needs" ∷ "0,install,30,1.0.0.0,0,," ∷ "" ∷ []) gives says (install (thirty [])) 73 0 0
    ∷ (",action,cluster,version,payload,sum,needs" ∷ "least,install,30,1.0.0.0,0,0," ∷ "" ∷ []) gives ill_formed
    ∷ [])
unfolding computing
name-behind-computed = refl

-- A.2 gives its name to "the cluster list" alone: a package has no mark, neither behind its seven names nor in the place of one
no-mark-computed : AllHold (λ (lines : List String). package_of lines "")
    (("action,cluster,version,payload,sum,needs,least,stays" ∷ "install,30,1.0.0.0,0,0,,,0" ∷ "" ∷ []) gives ill_formed
    ∷ ("action,cluster,version,payload,sum,needs,stays" ∷ "install,30,1.0.0.0,0,0,," ∷ "" ∷ []) gives ill_formed
    ∷ ("action,cluster,version,payload,sum,needs,least" ∷ "install,30,1.0.0.0,0,0,,,0" ∷ "" ∷ []) gives ill_formed
    ∷ [])
unfolding computing
no-mark-computed = refl

-- ---- the value lines

-- the lines of a package behind its names line
abbrev lined : List String → PackageRead
lined lines = package_of ("action,cluster,version,payload,sum,needs,least" ∷ lines) ""

abbrev need_lines : ℕ → List String
need_lines zero = "" ∷ []
need_lines (suc n) = ",,,,,20,1.0.4.0" ∷ need_lines n

-- "1 to 4 value lines, an empty line"
counts-computed : AllHold lined
    (("install,30,1.0.0.0,0,0,," ∷ need_lines 0) gives says (install (thirty [])) 73 0 0
    ∷ ("install,30,1.0.0.0,0,0,20,1.0.4.0" ∷ need_lines 3) gives says (install (thirty (twenty ∷ twenty ∷ twenty ∷ twenty ∷ []))) 130 0 0
    ∷ ("install,30,1.0.0.0,0,0,20,1.0.4.0" ∷ need_lines 4) gives ill_formed
    ∷ ("install,30,1.0.0.0,0,0,," ∷ need_lines 3) gives says (install (thirty (twenty ∷ twenty ∷ twenty ∷ []))) 121 0 0
    ∷ ("install,30,1.0.0.0,0,0,," ∷ need_lines 4) gives ill_formed
    ∷ ("update,30,1.0.0.0,0,0,," ∷ need_lines 3) gives says (update (thirty (twenty ∷ twenty ∷ twenty ∷ []))) 120 0 0
    ∷ ("update,30,1.0.0.0,0,0,," ∷ need_lines 4) gives ill_formed
    ∷ ("" ∷ []) gives ill_formed
    ∷ [] gives ill_formed
    ∷ ("install,30,1.0.0.0,0,0,," ∷ []) gives ill_formed
    ∷ ("install,30,1.0.0.0,0,0,20,1.0.4.0" ∷ ",,,,,20,1.0.4.0" ∷ []) gives ill_formed
    ∷ [])
unfolding computing
counts-computed = refl

-- a further line below the first of an install
abbrev further : String → PackageRead
further line = lined ("install,30,1.0.0.0,0,0,," ∷ line ∷ "" ∷ [])

-- "Value lines after the first fill only needs and least, both."
further-computed : AllHold further
    (",,,,,20,1.0.4.0" gives says (install (thirty (twenty ∷ []))) 89 0 0
    ∷ "install,,,,,20,1.0.4.0" gives ill_formed
    ∷ ",30,,,,20,1.0.4.0" gives ill_formed
    ∷ ",,1.0.0.0,,,20,1.0.4.0" gives ill_formed
    ∷ ",,,0,,20,1.0.4.0" gives ill_formed
    ∷ ",,,,0,20,1.0.4.0" gives ill_formed
    ∷ ",,,,,20," gives ill_formed
    ∷ ",,,,,,1.0.4.0" gives ill_formed
    ∷ ",,,,,," gives ill_formed
    ∷ ",,,,,0,1.0.4.0" gives ill_formed
    ∷ ",,,,,4294967296,1.0.4.0" gives ill_formed
    ∷ ",,,,,20,1.0.4" gives ill_formed
    ∷ ",,,,20,1.0.4.0" gives ill_formed
    ∷ ",,,,,20,1.0.4.0," gives ill_formed
    ∷ [])
unfolding computing
further-computed = refl

-- for `remove` "there is one value line"; a first line has seven fields
firsts-computed : AllHold lined
    (("remove,30,,0,0,," ∷ "" ∷ []) gives says (remove 30) 65 0 0
    ∷ ("remove,30,,0,9,," ∷ "" ∷ []) gives says (remove 30) 65 0 9
    ∷ ("remove,30,,0,0,," ∷ ",,,,,20,1.0.4.0" ∷ "" ∷ []) gives ill_formed
    ∷ ("remove,30,,0,0,," ∷ ",,,,,," ∷ "" ∷ []) gives ill_formed
    ∷ ("remove,30,,0,0,," ∷ []) gives ill_formed
    ∷ ("remove,30,1.0.0.0,0,0,," ∷ "" ∷ []) gives ill_formed
    ∷ ("install,30,1.0.0.0,0,0," ∷ "" ∷ []) gives ill_formed
    ∷ ("install,30,1.0.0.0,0,0,,," ∷ "" ∷ []) gives ill_formed
    ∷ [])
unfolding computing
firsts-computed = refl

-- ---- the payload

abbrev carrying : String → PackageRead
carrying payload =
    package_of ("action,cluster,version,payload,sum,needs,least" ∷ "install,30,1.0.0.0,5,51440,20,1.0.4.0" ∷ "" ∷ []) payload

-- "bytes behind the empty line aren't exactly the payload count": 10
payloads-computed : AllHold carrying
    ("abcde" gives says (install (thirty (twenty ∷ []))) 86 5 51440
    ∷ "abcd" gives inconsistent
    ∷ "abcdef" gives inconsistent
    ∷ "" gives inconsistent
    ∷ [])
unfolding computing
payloads-computed = refl

-- what is ill-formed is 9, whatever stands behind it; and the text is read to its end before the payload is counted
before-payload-computed : AllHold (λ (lines : List String). package_of ("action,cluster,version,payload,sum,needs,least" ∷ lines) "abc")
    (("install,30,1.0.0.0,5,0,20," ∷ "" ∷ []) gives ill_formed
    ∷ ("install,30,1.0.0.0,5,0,," ∷ []) gives ill_formed
    ∷ ("install,30,1.0.0.0,5,0,," ∷ "" ∷ []) gives inconsistent
    ∷ ("remove,30,,0,0,," ∷ "" ∷ []) gives inconsistent
    ∷ ("install,30,1.0.0.0,3,0,," ∷ "" ∷ []) gives says (install (thirty [])) 73 3 0
    ∷ [])
unfolding computing
before-payload-computed = refl
