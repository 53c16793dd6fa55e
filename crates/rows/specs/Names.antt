-- The names of both formats, and how often a name stands in a line: what the laws of proofs/NamesOnce.antt say of a names line.
use Rattle.std.specs.Prelude.{ℕ, zero, suc, ◌+◌, cond, List, [], ◌∷◌}
use Rattle.base.specs.Quoted.{bytes}
use Rattle.text.specs.Word.{same_bytes}
use Rattle.rows.specs.Field.{field, behind_field}

-- "The names are `cluster`, `version`, `needs`, `least`": those of a list of four names, and a package has them too
abbrev pub cluster_names : List (List ℕ)
cluster_names = bytes "cluster" ∷ bytes "version" ∷ bytes "needs" ∷ bytes "least" ∷ []

-- A.2: "a fifth name in the cluster list and in our writer's order the last"
abbrev pub list_names : List (List ℕ)
list_names = bytes "cluster" ∷ bytes "version" ∷ bytes "needs" ∷ bytes "least" ∷ bytes "stays" ∷ []

-- "a names line of `action`, `cluster`, `version`, `payload`, `sum`, `needs`, `least`"
abbrev pub package_names : List (List ℕ)
package_names =
    bytes "action"
    ∷ bytes "cluster"
    ∷ bytes "version"
    ∷ bytes "payload"
    ∷ bytes "sum"
    ∷ bytes "needs"
    ∷ bytes "least"
    ∷ []

-- how many of the given number of fields that a text begins with are the name
unfoldable pub times_named : ℕ → List ℕ → List ℕ → ℕ
times_named zero name l = 0
times_named (suc fields) name l = cond (same_bytes (field l) name) 1 0 + times_named fields name (behind_field l)

-- how often a name is in a list of names
unfoldable pub times_in : List ℕ → List (List ℕ) → ℕ
times_in name [] = 0
times_in name (other ∷ names) = cond (same_bytes other name) 1 0 + times_in name names
