-- What the answer of the reader in the code says of the package that was read, or of its refusal. Assumes nothing.
use mathlib.Core.Path.{◌≡◌, refl}
use mathlib.Core.Option.{none, some}
use Rattle.std.specs.Prelude.{Ok, Err}
use Rattle.base.specs.Refusals.{first_refusal}
use Rattle.manifest.specs.declared.package.PackageRead.{PackageRead as PackageReadStruct}
use Rattle.manifest.specs.declared.package.PackageError.{PackageError}
use Rattle.manifest.specs.Package.{PackageRead, ill_formed, inconsistent, consistent}
use Rattle.manifest.specs.Refused.{package_refusals}
use Rattle.manifest.specs.Answer.{error_number, package_read, package_answer}

pub read-ok : (read : PackageRead) (o : PackageReadStruct) → Ok o ≡ package_answer read
    → (none ≡ first_refusal (package_refusals read)) × (o ≡ package_read read)
unfolding package_answer first_refusal
read-ok ill_formed o e = absurd (cc)
read-ok inconsistent o e = absurd (cc)
read-ok (consistent m) o e = (refl, cc)

pub read-error : (read : PackageRead) (error : PackageError) → Err error ≡ package_answer read
    → some (error_number error) ≡ first_refusal (package_refusals read)
unfolding package_answer first_refusal
read-error ill_formed error e = cc
read-error inconsistent error e = cc
read-error (consistent m) error e = absurd (cc)
