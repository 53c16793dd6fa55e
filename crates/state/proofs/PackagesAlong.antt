-- The packages that a loop goes along: the one at a place, and those from a place on. Assumes nothing.
use Prim.Native.Nat.{ℕ, ◌+◌, ◌≤◌, ◌<◌}
use mathlib.Core.Path.{◌≡◌, ap, ◌∙◌}
use mathlib.Core.List.{[], ◌∷◌}
use native.Mathlib.Omega.{arith}
use lib.ListN.{length, take, drop, get_or, length-map, length-take, get_or-map}
use lib.Seq.{get_or-take}
use Rattle.base.proofs.Counted.{from_step, from_end}
use Rattle.model.specs.Sound.{packages_most}
use Rattle.state.specs.declared.transfers.Transfers.{Transfers}
use Rattle.state.specs.View.{view_package, cleared_package, view_packages}
use Rattle.state.proofs.Views.{packages-few}

module _ (t : Transfers) (few : t.count ≤ packages_most) (long : length t.packages ≡ packages_most) where
  pub packages-length : length (view_packages t) ≡ t.count
  packages-length = rw (packages-few t few) (simp (length-map, length-take) (omega arith))

  pub package-at : (i : ℕ) → i < t.count
      → get_or (view_packages t) i (view_package cleared_package) ≡ view_package (get_or t.packages i cleared_package)
  package-at i h =
      rw (packages-few t few)
      (get_or-map view_package (take t.count t.packages) i cleared_package
      ∙ ap view_package (get_or-take t.count t.packages i cleared_package h))

  -- from i on: the package at i, then those from i + 1 on
  pub packages-step : (i : ℕ) → i < t.count
      → drop i (view_packages t) ≡ view_package (get_or t.packages i cleared_package) ∷ drop (i + 1) (view_packages t)
  packages-step i h = rw (packages-few t few) (from_step view_package t.packages t.count (omega arith) i cleared_package h)

  pub packages-end : (i : ℕ) → t.count ≤ i → drop i (view_packages t) ≡ []
  packages-end i h = rw (packages-few t few) (from_end view_package t.packages t.count (omega arith) i h)
