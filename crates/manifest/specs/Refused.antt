-- How what is read of an area is refused: 9 and 10, in the order in which they are checked.
use Rattle.std.specs.Prelude.{Bool, true, false, List, [], ◌∷◌}
use Rattle.base.specs.Refusals.{Refusal, refuse◌when◌}
use Rattle.manifest.specs.Package.{PackageRead, ill_formed, inconsistent, consistent}

abbrev pub is_ill_formed : PackageRead → Bool
is_ill_formed ill_formed = true
is_ill_formed inconsistent = false
is_ill_formed (consistent m) = false

abbrev pub is_inconsistent : PackageRead → Bool
is_inconsistent ill_formed = false
is_inconsistent inconsistent = true
is_inconsistent (consistent m) = false

-- "9. InvalidManifest: Exit, Process or Payload; text before the payload ill-formed."; "10. PackageInconsistent: the same calls;
-- bytes behind the empty line aren't exactly the payload count."
abbrev pub package_refusals : PackageRead → List Refusal
package_refusals read = (refuse 9 when is_ill_formed read) ∷ (refuse 10 when is_inconsistent read) ∷ []
