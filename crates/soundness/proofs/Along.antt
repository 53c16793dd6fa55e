-- A list seen through a function, as a loop over it goes along: the element at a place, then those left. Assumes nothing.
use Prim.Native.Nat.{ℕ, ◌+◌, ◌≤◌, ◌<◌}
use mathlib.Core.Path.{◌≡◌}
use mathlib.Core.List.{List, [], ◌∷◌, map}
use native.Mathlib.Numerals.{add-one}
use lib.ListN.{length, take, drop, get_or, length-map, get_or-map, drop_of_length-le}
use lib.Seq.{drop-cons}
use Rattle.model.specs.Sound.{packages_most}
use Rattle.state.specs.declared.transfers.Transfers.{Transfers}
use Rattle.state.specs.declared.package.Package.{Package}
use Rattle.state.specs.View.{view_package, cleared_package, view_packages}
use Rattle.state.proofs.Views.{packages-few}

module _ {A B : Type 0} (f : A → B) (xs : List A) (i : ℕ) where
  pub seen-step : (d : A) → i < length xs → drop i (map f xs) ≡ f (get_or xs i d) ∷ drop (i + 1) (map f xs)
  seen-step d h =
      let l : i < length (map f xs) = rw (length-map xs f) h in
      rw (drop-cons (map f xs) i (f d) l, get_or-map f xs i d, add-one)

  pub seen-end : length xs ≤ i → drop i (map f xs) ≡ []
  seen-end h = drop_of_length-le (map f xs) {i = i} (rw (length-map xs f) h)

-- the packages that the code goes along
abbrev pub listed : Transfers → List Package
listed t = take t.count t.packages

module _ (t : Transfers) (few : t.count ≤ packages_most) (i : ℕ) where
  pub package-step : i < length (listed t) → drop i (view_packages t) ≡ view_package (get_or (listed t) i cleared_package) ∷ drop (i + 1) (view_packages t)
  package-step h = rw (packages-few t few) (seen-step view_package (listed t) i cleared_package h)

  pub package-end : length (listed t) ≤ i → drop i (view_packages t) ≡ []
  package-end h = rw (packages-few t few) (seen-end view_package (listed t) i h)
