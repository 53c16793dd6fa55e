-- An area in the store.
use Rattle.std.specs.Prelude.{ℕ, ◌+◌, ◌≤◌, ◌<◌, take, drop}
use Rattle.manifest.specs.Package.{PackageRead, read_package}
use Rattle.model.specs.State.{Store}
use Rattle.model.specs.Areas.{declared}
use Rattle.model.specs.Sound.{store_most, packages_most}
use Rattle.state.specs.declared.package.Package.{Package}
use Rattle.state.specs.declared.transfers.Transfers.{Transfers}
use Rattle.state.specs.View.{view_packages}

-- what soundness says of the area of the package p at i in a store of a length: "areas fit the store", within its limit. A call that found
-- its package meets it (proofs/FoundPackage.antt)
pub record AreaInside (t : Transfers) (i : ℕ) (p : Package) (store_length : ℕ) : Type 0 where
  pub few : t.count ≤ packages_most
  pub below : i < t.count
  pub area : declared (take i (view_packages t)) + p.size ≤ store_length
  pub room : store_length ≤ store_most

-- what the text in the area of the package p at i reads as
abbrev pub read_at : Transfers → ℕ → Package → Store → PackageRead
read_at t i p store = read_package (take p.size (drop (declared (take i (view_packages t))) store))
