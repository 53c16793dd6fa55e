-- What is looked at of the cluster that is staged under a part number, and what it stands for. Assumes nothing.
use Prim.Native.Nat.{ℕ}
use Rattle.std.specs.Prelude.{Some, None, is_some}
use Rattle.std.specs.Prelude as code
use mathlib.Core.Path.{◌≡◌, refl, sym, ap, ◌∙◌}
use mathlib.Core.Bool.{Bool, true, false, not, true≢false, false≢true}
use mathlib.Core.List.{List}
use mathlib.Core.Option.{Option, none, some}
use mathlib.Core.Logic.{◌⊎◌, inl, inr}
use lib.ListN.{length}
use Rattle.base.specs.Refusals.{first_refusal}
use Rattle.base.proofs.RefusalNumbers.{first-on}
use Rattle.text.specs.declared.version.Version.{Version}
use Rattle.clusters.specs.Version.{above}
use Rattle.clusters.specs.Cluster.{Cluster}
use Rattle.clusters.specs.Table.{Table, find}
use Rattle.actions.specs.declared.action.Change.{Change}
use Rattle.actions.specs.declared.action.Change.TheVariants.{Install, Update, Remove}
use Rattle.actions.specs.declared.refusals.Staged.{Staged}
use Rattle.actions.specs.Action.{Action, update, remove, action_part}
use Rattle.actions.specs.Refusals.{touched, is_staged, cluster_stays, old_version, staged_refusals, action_refusals}
use Rattle.actions.specs.Staged.{staged_as}
use Rattle.actions.specs.View.{action_of}

pub not-staged : (staged : Option Cluster) → is_staged staged ≡ false → staged ≡ none
not-staged none e = refl
not-staged (some d) e = absurd (true≢false e)

pub staged-is : (staged : Option Cluster) → is_staged staged ≡ true → (d : Cluster) × (staged ≡ some d)
staged-is none e = absurd (false≢true e)
staged-is (some d) e = (d, refl)

-- what is looked at stands for a staged cluster, or for none
pub is-there : (found : Option Cluster) (staged : code.Option Staged) → staged ≡ staged_as found → is_some staged ≡ is_staged found
is-there none staged e = rw e
is-there (some d) staged e = rw e

pub is-not-there : (found : Option Cluster) (staged : code.Option Staged) (r : Bool) → staged ≡ staged_as found → is_some staged ≡ not r → r ≡ not (is_staged found)
is-not-there found staged true e h = ap not (sym h ∙ is-there found staged e)
is-not-there found staged false e h = ap not (sym h ∙ is-there found staged e)

-- ---- the action that a change to a cluster is

pub part_of : (change : Change) (c : Cluster) → action_part (action_of change c) ≡ c.part
part_of Install c = refl
part_of Update c = refl
part_of Remove c = refl

pub by-change : {A : Type 0} (f : Action → A) (change known : Change) (c : Cluster) (x : A) → change ≡ known → x ≡ f (action_of known c) → x ≡ f (action_of change c)
by-change f change known c x e q = q ∙ ap (λ (k : Change). f (action_of k c)) (sym e)

pub by-either : {A : Type 0} (f : Action → A) (change first second : Change) (c : Cluster) (x : A) → (change ≡ first) ⊎ (change ≡ second)
    → x ≡ f (action_of first c) → x ≡ f (action_of second c) → x ≡ f (action_of change c)
by-either f change first second c x h p q = elim h [ inl e ↦ by-change f change first c x e p | inr e ↦ by-change f change second c x e q ]

-- ---- 21

pub stays-nothing : (found : Option Cluster) (c : Cluster) (change : Change) → None ≡ staged_as found → false ≡ cluster_stays found (action_of change c)
unfolding cluster_stays
stays-nothing none c Install e = refl
stays-nothing none c Update e = refl
stays-nothing none c Remove e = refl
stays-nothing (some d) c change e = absurd (cc)

pub stays-remove : (found : Option Cluster) (part : ℕ) (old : Staged) → Some old ≡ staged_as found → old.stays ≡ cluster_stays found (remove part)
unfolding cluster_stays
stays-remove none part old e = absurd (cc)
stays-remove (some d) part old e = cc

pub stays-other : (found : Option Cluster) (c : Cluster) (change : Change) → (change ≡ Remove → ⊥) → false ≡ cluster_stays found (action_of change c)
unfolding cluster_stays
stays-other found c Install n = refl
stays-other found c Update n = refl
stays-other found c Remove n = absurd (n refl)

-- ---- 14

pub old-nothing : (found : Option Cluster) (c : Cluster) (change : Change) → None ≡ staged_as found → false ≡ old_version found (action_of change c)
unfolding old_version
old-nothing none c Install e = refl
old-nothing none c Update e = refl
old-nothing none c Remove e = refl
old-nothing (some d) c change e = absurd (cc)

pub old-update : (found : Option Cluster) (c : Cluster) (version : Version) (old : Staged) → version ≡ c.version → Some old ≡ staged_as found
    → not (above version old.version) ≡ old_version found (update c)
unfolding old_version
old-update none c version old same e = absurd (cc)
old-update (some d) c version old same e = let v : old.version ≡ d.version = cc in rw (same, v)

pub old-other : (found : Option Cluster) (c : Cluster) (change : Change) → (change ≡ Update → ⊥) → false ≡ old_version found (action_of change c)
unfolding old_version
old-other found c Install n = refl
old-other found c Update n = absurd (n refl)
old-other found c Remove n = refl

-- ---- 11 to 15 and 21

module _ (t : Table) (listed : List Action) (a : Action) where
  -- past 11, by what the table has under the part number and by the number of its clusters
  pub told-untouched : (part count : ℕ) (x : Option ℕ) → touched (action_part a) listed ≡ false → part ≡ action_part a → count ≡ length t
      → x ≡ first_refusal (staged_refusals (find part t) count a) → x ≡ first_refusal (action_refusals t listed a)
  unfolding action_refusals
  told-untouched part count x u p l told = first-on x 11 _ _ u (rw (p, l) at told)
