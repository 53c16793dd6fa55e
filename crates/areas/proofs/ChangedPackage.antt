-- The package of an id changed: at its place among the structs it is the model's change by the id. Assumes nothing.
use Prim.Native.Nat.{ℕ, ◌≤◌, ◌<◌}
use mathlib.Core.Path.{◌≡◌, refl, sym, ap, ◌∙◌}
use mathlib.Core.List.{List, [], ◌∷◌}
use mathlib.Core.Option.{none}
use native.Mathlib.Omega.{arith}
use lib.Dec.{eqb}
use lib.ListN.{length}
use Rattle.base.proofs.Tests.{bool_cases}
use Rattle.std.specs.Prelude.{None, Some}
use Rattle.place_in_list.specs.Place.{Found}
use Rattle.clusters.specs.Exact.{put_at}
use Rattle.clusters.proofs.Arrays.{set-put}
use Rattle.model.specs.State as model
use Rattle.model.specs.State.{Store}
use Rattle.model.specs.Areas.{find, changed}
use Rattle.model.specs.Sound.{packages_most}
use Rattle.model.specs.Step.{with_packages}
use Rattle.model.proofs.store.PackageAtIndex.{first_below, first-changed}
use Rattle.state.specs.declared.package.Package.{Package}
use Rattle.state.specs.declared.transfers.Transfers.{Transfers}
use Rattle.state.specs.declared.state.State.{State}
use Rattle.state.specs.declared.answer.Answer.{Answer}
use Rattle.state.specs.declared.answer.Answered.{Answered}
use Rattle.state.specs.View.{view_package, cleared_package, view_packages, view_transfers}
use Rattle.state.specs.Exact.{with_package, with_transfers}
use Rattle.state.specs.Outcome.{outcome, answered}
use Rattle.state.proofs.Views.{view-with-package}
use Rattle.areas.specs.Place.{place_of}
use Rattle.areas.specs.Changed.{package_at, changed_at, with_changed}
use Rattle.state.proofs.PackagesAlong.{packages-length, package-at}
use Rattle.areas.proofs.FoundPackage.{place-first, nothing-found, FoundAt}

-- where no package has the id a change by the id changes nothing
nothing-changed : (id : ℕ) (change : model.Package → model.Package) (ps : List model.Package) → find id ps ≡ none → ps ≡ changed id change ps
unfolding find changed
nothing-changed id change [] e = refl
nothing-changed id change (p ∷ ps) e =
    let ih : find id ps ≡ none → ps ≡ changed id change ps = nothing-changed id change ps in
    bool_cases (eqb id p.id) (λ b. let z : ◌≡◌ {A = ℕ} 0 1 = cc (rw b at e) in absurd (omega arith))
    λ b. rw b (ap (λ (l : List model.Package). p ∷ l) (ih (rw b at e)))

module _ (t : Transfers) (few : t.count ≤ packages_most) (long : length t.packages ≡ packages_most) (id : ℕ) where
  -- the package changed at its place is the model's package changed by its id
  pub view-changed : (change : Package → Package) (change' : model.Package → model.Package)
      → ((p : Package) → view_package (change p) ≡ change' (view_package p))
      → view_transfers (with_changed id change t) ≡ with_packages (changed id change' (view_packages t)) (view_transfers t)
  unfolding with_changed
  view-changed change change' same = go (place_of id (view_packages t)) refl
    where
      ps : List model.Package
      ps = view_packages t

      by-packages : {l : List model.Package} → l ≡ changed id change' ps → with_packages l (view_transfers t) ≡ with_packages (changed id change' ps) (view_transfers t)
      by-packages e = ap (λ (l : List model.Package). with_packages l (view_transfers t)) e

      go : (r : Found) → place_of id ps ≡ r → view_transfers (changed_at change t r) ≡ with_packages (changed id change' ps) (view_transfers t)
      go None e = by-packages (nothing-changed id change' ps (nothing-found id ps e))
      go (Some i) e =
          let first = place-first id ps i e in
          let below : i < t.count = omega (arith, first_below first, packages-length t few long) in
          by-packages
          (view-with-package t i (change (package_at t i)) few below (omega arith)
          ∙ ap (λ (p : model.Package). put_at i p ps) (same (package_at t i) ∙ ap change' (sym (package-at t few long i below)))
          ∙ sym (first-changed first change' (view_package cleared_package) ∙ set-put ps i _ (first_below first)))

-- a call that changes the package at its place changes the package of the id; stored is the store then
pub given-at : (s : State) (store : Store) (id i : ℕ) (change : Package → Package) (answer : Answer) (r : Answered Answer) (stored store' : Store)
    → FoundAt s store id i → r ≡ answered answer (with_transfers (with_package i (change (package_at s.transfers i)) s.transfers) s)
    → store' ≡ stored → outcome r store' ≡ outcome (answered answer (with_transfers (with_changed id change s.transfers) s)) stored
unfolding with_changed
given-at s store id i change answer r stored store' found e same = rw (e, same, found.place)
