-- The structs of specs/Exact.antt as the model's values that they stand for. Assumes nothing.
use Prim.Native.Nat.{ℕ, ◌≤◌, ◌<◌}
use mathlib.Core.Path.{◌≡◌, refl, ap}
use mathlib.Core.List.{[], ◌∷◌, ◌++◌, map}
use mathlib.Core.Option.{none}
use lib.Dec.{leb}
use lib.ListN.{length, take, length-map}
use Rattle.base.proofs.Counted.{counted-fits, counted-few}
use Rattle.clusters.specs.declared.table.Table.{Table}
use Rattle.clusters.specs.Exact.{put_at}
use Rattle.clusters.specs.View.{view_table}
use Rattle.model.specs.Areas as areas
use Rattle.model.specs.Load as load
use Rattle.model.specs.Sound.{packages_most}
use Rattle.state.specs.declared.package.Package.{Package}
use Rattle.state.specs.declared.transfers.Transfers.{Transfers}
use Rattle.state.specs.declared.session.Entry.{Entry}
use Rattle.state.specs.declared.session.Session.{Session}
use Rattle.state.specs.View.{view_package, cleared_package, view_packages, entries_most, view_entry, cleared_entry, view_entries, view_session, is_cleared_work, view_work, view_state}
use Rattle.state.specs.Exact.{with_package, with_new_package, new_session, with_entry, cleared_work, loaded_state}
use Rattle.state.proofs.CountedArrays.{one_more, one-changed}

-- ---- packages

-- a count above the room makes more packages than there may be, and only that does
pub packages-fit : (t : Transfers) → leb (length (view_packages t)) packages_most ≡ leb t.count packages_most
packages-fit t = rw length-map (counted-fits packages_most t.count cleared_package t.packages)

pub packages-few : (t : Transfers) → t.count ≤ packages_most → view_packages t ≡ map view_package (take t.count t.packages)
packages-few t h = ap (map view_package) (counted-few packages_most t.count cleared_package t.packages h)

pub view-with-new-package : (t : Transfers) (size : ℕ) → t.count < packages_most
    → view_packages (with_new_package size t) ≡ view_packages t ++ areas.new_package t.next size ∷ []
view-with-new-package t size h = one_more view_package packages_most cleared_package t.count _ t.packages h

pub view-with-package : (t : Transfers) (i : ℕ) (p : Package) → t.count ≤ packages_most → i < t.count → i < length t.packages
    → view_packages (with_package i p t) ≡ put_at i (view_package p) (view_packages t)
view-with-package t i p h below long = one-changed view_package packages_most cleared_package t.count i p t.packages h below long

-- ---- sessions

pub entries-few : (session : Session) → session.count ≤ entries_most
    → view_entries session ≡ map view_entry (take session.count session.entries)
entries-few session h = ap (map view_entry) (counted-few entries_most session.count cleared_entry session.entries h)

pub view-new-session : (table : Table) → view_session (new_session table) ≡ record { beginning = view_table table; listed = [] }
view-new-session table = refl

pub view-with-entry : (session : Session) (entry : Entry) → session.count < entries_most
    → view_entries (with_entry session entry) ≡ view_entries session ++ view_entry entry ∷ []
view-with-entry session entry h = one_more view_entry entries_most cleared_entry session.count entry session.entries h

-- ---- the kept values and the whole

pub view-cleared-work : view_work cleared_work ≡ none
unfolding is_cleared_work
view-cleared-work = refl

pub view-loaded-state : (table : Table) (first : ℕ) → view_state (loaded_state table first) ≡ load.loaded_state (view_table table) first
unfolding is_cleared_work
view-loaded-state table first = refl
