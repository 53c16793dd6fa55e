-- The transfers with the package of an id changed, as structs.
use Rattle.std.specs.Prelude.{ℕ, get_or, None, Some}
use Rattle.place_in_list.specs.Place.{Found}
use Rattle.state.specs.declared.package.Package.{Package}
use Rattle.state.specs.declared.transfers.Transfers.{Transfers}
use Rattle.state.specs.View.{cleared_package, view_packages}
use Rattle.state.specs.Exact.{with_package}
use Rattle.areas.specs.Place.{place_of}

-- the package at a place
abbrev pub package_at : Transfers → ℕ → Package
package_at t i = get_or t.packages i cleared_package

-- a change at the place that a search answers: the definition for each case of the enum
abbrev pub changed_at : (Package → Package) → Transfers → Found → Transfers
changed_at change t (Some i) = with_package i (change (package_at t i)) t
changed_at change t None = t

-- the transfers with the package of an id changed; where no package has the id, InvalidTransferId is checked before it counts
unfoldable pub with_changed : ℕ → (Package → Package) → Transfers → Transfers
with_changed id change t = changed_at change t (place_of id (view_packages t))
