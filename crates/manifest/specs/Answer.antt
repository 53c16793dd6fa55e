-- The answer of the reader in the code.
use Rattle.std.specs.Prelude.{ℕ, ◌+◌, ◌≡◌, List, Result, Ok, Err}
use Rattle.base.specs.Refusals.{first_refusal, number_or_zero}
use Rattle.clusters.specs.declared.cluster.Cluster.{Cluster as ClusterStruct}
use Rattle.clusters.specs.Cluster.{Cluster}
use Rattle.clusters.specs.Struct.{struct_cluster}
use Rattle.actions.specs.Struct.{cleared_action, struct_action}
use Rattle.package_heading.specs.declared.heading.Heading.{Heading as HeadingStruct}
use Rattle.package_heading.specs.Found.{plain_heading}
use Rattle.manifest.specs.declared.package.PackageError.{PackageError}
use Rattle.manifest.specs.declared.package.PackageError.TheVariants.{IllFormed, Inconsistent}
use Rattle.manifest.specs.declared.package.PackageRead.{PackageRead as PackageReadStruct}
use Rattle.manifest.specs.Package.{PackageRead, ill_formed, inconsistent, consistent, package_with}
use Rattle.manifest.specs.Refused.{package_refusals}

-- 9 or 10, and 0 for neither
abbrev pub refusal_number : PackageRead → ℕ
refusal_number read = number_or_zero (first_refusal (package_refusals read))

-- the numbers of the code's errors
abbrev pub error_number : PackageError → ℕ
error_number IllFormed = 9
error_number Inconsistent = 10

-- the number of an answer of the code: that of its error, and 0 of a package
abbrev pub answer_number : Result PackageReadStruct PackageError → ℕ
answer_number (Ok read) = 0
answer_number (Err error) = error_number error

abbrev pub cleared : PackageReadStruct
cleared = record { action = cleared_action; start = 0; count = 0; sum = 0 }

-- what was read as the struct of the code, unused places cleared; all of it is cleared where there is no package
unfoldable pub package_read : PackageRead → PackageReadStruct
package_read ill_formed = cleared
package_read inconsistent = cleared
package_read (consistent m) = record { action = struct_action m.action; start = m.start; count = m.count; sum = m.sum }

-- the answer of the code
unfoldable pub package_answer : PackageRead → Result PackageReadStruct PackageError
package_answer ill_formed = Err IllFormed
package_answer inconsistent = Err Inconsistent
package_answer (consistent m) = Ok (package_read (consistent m))

-- r is the package whose text ends with the empty line at a place, with the cluster that the struct stands for
abbrev pub PackageEnding : List ℕ → HeadingStruct → ClusterStruct → ℕ → Result PackageReadStruct PackageError → Type 0
PackageEnding area heading cluster at r =
    (plain : Cluster) → cluster ≡ struct_cluster plain
    → r ≡ package_answer (package_with area (plain_heading heading) (record { cluster = plain; start = at + 1 }))
