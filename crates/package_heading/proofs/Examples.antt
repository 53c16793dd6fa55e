-- First value lines at the boundaries of each rule, computed: what is accepted, and what is refused beside it. Assumes nothing.
use Prim.Native.Nat.{ℕ}
use Prim.Native.String.{String}
use mathlib.Core.Path.{refl}
use mathlib.Core.List.{[], ◌∷◌}
use Rattle.std.specs.Prelude.{Option, Some, None}
use Rattle.base.specs.Quoted.{bytes}
use Rattle.base.proofs.Tables.{◌gives◌, AllHold, in_lines}
use Rattle.text.specs.declared.version.Version.{Version}
use Rattle.text.specs.Number.{cursor}
use Rattle.text.specs.Version.{version}
use Rattle.rows.specs.declared.columns.PackageColumns.{PackageColumns}
use Rattle.actions.specs.declared.action.Change.{Change}
use Rattle.actions.specs.declared.action.Change.TheVariants.{Install, Update, Remove}
use Rattle.clusters.specs.Cluster.{cluster, need}
use Rattle.package_heading.specs.Heading.{Heading, heading, change_of, first_line}
use Rattle.package_heading.specs.Open.{computing}

-- the columns in the order in which document 01 prints the names
abbrev printed : PackageColumns
printed = record { action = 0; payload = 3; sum = 4; cluster_columns = record { cluster = 1; version = 2; needs = 5; least = 6 } }

abbrev read : String → Option Heading
read line = first_line printed (in_lines (line ∷ []))

-- what a first line says of cluster 30 without a need, and with the need of cluster 20 at 1.0.4.0
abbrev alone : Change → Version → ℕ → ℕ → Heading
alone change v count sum = heading change (cluster 30 v []) count sum

abbrev with_need : Change → Version → ℕ → ℕ → Heading
with_need change v count sum =
    heading change (cluster 30 v (need 20 (version 1 0 4 0) ∷ [])) count sum

-- "Action is `install`, `update` or `remove`."
actions-computed : AllHold (λ (word : String). change_of (bytes word))
    ("install" gives Some (Install, cursor 7)
    ∷ "update" gives Some (Update, cursor 6)
    ∷ "remove" gives Some (Remove, cursor 6)
    ∷ "Install" gives None
    ∷ "UPDATE" gives None
    ∷ "delete" gives None
    ∷ "removed" gives None
    ∷ "instal" gives None
    ∷ "" gives None
    ∷ [])
unfolding computing
actions-computed = refl

-- "On the first these two are both filled or both empty."
installs-computed : AllHold read
    ("install,30,1.0.0.0,5,51440,20,1.0.4.0" gives Some (with_need Install (version 1 0 0 0) 5 51440)
    ∷ "install,30,1.0.0.0,5,51440,," gives Some (alone Install (version 1 0 0 0) 5 51440)
    ∷ "update,30,1.0.0.1,0,0,20,1.0.4.0" gives Some (with_need Update (version 1 0 0 1) 0 0)
    ∷ "update,30,1.0.0.1,0,0,," gives Some (alone Update (version 1 0 0 1) 0 0)
    ∷ "install,30,1.0.0.0,5,51440,20," gives None
    ∷ "install,30,1.0.0.0,5,51440,,1.0.4.0" gives None
    ∷ "update,30,1.0.0.0,5,51440,20," gives None
    ∷ "install,30,,5,51440,," gives None
    ∷ "update,30,,0,0,," gives None
    ∷ "install,,1.0.0.0,5,51440,," gives None
    ∷ ",30,1.0.0.0,5,51440,," gives None
    ∷ "install,30,1.0.0.0,,51440,," gives None
    ∷ "install,30,1.0.0.0,5,,," gives None
    ∷ "Install,30,1.0.0.0,5,51440,," gives None
    ∷ [])
unfolding computing
installs-computed = refl

-- "For `remove`, version, needs and least are empty, payload is 0"; its sum is any
removes-computed : AllHold read
    ("remove,30,,0,0,," gives Some (alone Remove (version 0 0 0 0) 0 0)
    ∷ "remove,30,,0,65535,," gives Some (alone Remove (version 0 0 0 0) 0 65535)
    ∷ "remove,30,1.0.0.0,0,0,," gives None
    ∷ "remove,30,,0,0,20," gives None
    ∷ "remove,30,,0,0,,1.0.4.0" gives None
    ∷ "remove,30,,0,0,20,1.0.4.0" gives None
    ∷ "remove,30,,1,0,," gives None
    ∷ "remove,30,,,0,," gives None
    ∷ "remove,,,0,0,," gives None
    ∷ [])
unfolding computing
removes-computed = refl

-- "Payload is 0 to 16,777,216, sum 0 to 65,535."
limits-computed : AllHold read
    ("install,30,1.0.0.0,16777216,65535,," gives Some (alone Install (version 1 0 0 0) 16777216 65535)
    ∷ "install,30,1.0.0.0,16777217,65535,," gives None
    ∷ "install,30,1.0.0.0,16777216,65536,," gives None
    ∷ "install,30,1.0.0.0,0,0,," gives Some (alone Install (version 1 0 0 0) 0 0)
    ∷ "install,30,1.0.0.0,00,0,," gives None
    ∷ "install,30,1.0.0.0,0,00,," gives None
    ∷ "install,30,1.0.0.0,-1,0,," gives None
    ∷ [])
unfolding computing
limits-computed = refl

-- "a part number 1 to 4,294,967,295", of a cluster and of a need
abbrev read_part : String → Option ℕ
read_part line = elim (read line) [ None ↦ None | Some h ↦ Some h.cluster.part ]

parts-computed : AllHold read_part
    ("install,0,1.0.0.0,0,0,," gives None
    ∷ "install,1,1.0.0.0,0,0,," gives Some 1
    ∷ "install,4294967295,1.0.0.0,0,0,," gives Some 4294967295
    ∷ "install,4294967296,1.0.0.0,0,0,," gives None
    ∷ "remove,0,,0,0,," gives None
    ∷ "remove,1,,0,0,," gives Some 1
    ∷ "remove,4294967295,,0,0,," gives Some 4294967295
    ∷ "remove,4294967296,,0,0,," gives None
    ∷ "install,1,1.0.0.0,0,0,4294967295,0.0.0.0" gives Some 1
    ∷ "install,1,1.0.0.0,0,0,4294967296,0.0.0.0" gives None
    ∷ "install,1,1.0.0.0,0,0,0,0.0.0.0" gives None
    ∷ [])
unfolding computing
parts-computed = refl
