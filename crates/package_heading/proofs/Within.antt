-- What is read from the first value line is within the limits. Assumes nothing.
use mathlib.Core.Path.{◌≡◌, refl}
use mathlib.Core.Bool.{true, ◌&&◌}
use mathlib.Core.List.{List}
use Prim.Native.Nat.{ℕ, ◌≤◌}
use native.Mathlib.Omega.{arith}
use lib.Dec.{eqb}
use lib.ListN.{length}
use Rattle.std.specs.Prelude.{Option, Some, None}
use Rattle.base.proofs.Tests.{cond_cases}
use Rattle.text.specs.Number.{whole_number}
use Rattle.text.specs.Version.{whole_version}
use Rattle.text.proofs.ThenLaws.{then-cases}
use Rattle.text.proofs.Meaning.{whole-number-most, whole-version-limits}
use Rattle.rows.specs.declared.columns.PackageColumns.{PackageColumns}
use Rattle.rows.specs.Field.{cell}
use Rattle.actions.specs.declared.action.Change.{Change}
use Rattle.actions.specs.declared.action.Change.TheVariants.{Install, Update, Remove}
use Rattle.clusters.specs.Cluster.{Cluster, part_within, cluster_within, cluster}
use Rattle.actions.specs.Action.{action_within}
use Rattle.actions.specs.View.{action_of}
use Rattle.cluster_list.specs.Cells.{part_field, need_fields, needs_filled}
use Rattle.cluster_list.proofs.FirstNeed.{few-filled}
use Rattle.cluster_list.proofs.CellsWithin.{part-read-within, needs-read-within}
use Rattle.cluster_list.proofs.Within.{cluster-is-within}
use Rattle.package_heading.specs.Heading.{Heading, payload_most, sum_most, change_of, only_part, remove_heading, cluster_heading, heading_of, first_line}

-- the action within its limits, with at most the one need of the line; payload count and sum
pub record HeadingFacts (h : Heading) : Type 0 where
  pub within : action_within (action_of h.change h.cluster) ≡ true
  pub few : length h.cluster.needs ≤ 1
  pub count : h.count ≤ payload_most
  pub sum : h.sum ≤ sum_most

abbrev pub HeadingWithin : Option Heading → Type 0
HeadingWithin None = Unit {0}
HeadingWithin (Some h) = HeadingFacts h

-- a change that has a cluster
pub data HasCluster : Change → Type 0 where
  installs : HasCluster Install
  updates : HasCluster Update

pub action-fine : {change : Change} → HasCluster change → (c : Cluster) → cluster_within c ≡ true → action_within (action_of change c) ≡ true
unfolding action_within
action-fine installs c h = h
action-fine updates c h = h

module _ (columns : PackageColumns) (l : List ℕ) (part count sum : ℕ) (fine : part_within part ≡ true) (fits : count ≤ payload_most) (small : sum ≤ sum_most) where
  remove-within : HeadingWithin (remove_heading columns l part count sum)
  unfolding remove_heading action_within
  remove-within =
      cond_cases HeadingWithin (only_part columns.cluster_columns l && eqb count 0) _ _
      (λ b. record { within = fine; few = omega arith; count = fits; sum = small }) λ b. tt

  cluster-within : (change : Change) → HasCluster change → HeadingWithin (cluster_heading change columns l part count sum)
  unfolding cluster_heading
  cluster-within change has =
      then-cases HeadingWithin None (whole_version (cell columns.cluster_columns.version l)) _ tt λ version next e.
      let version-fine = whole-version-limits (cell columns.cluster_columns.version l) version next _ refl e in
      then-cases HeadingWithin None (need_fields columns.cluster_columns l) _ tt λ need after f.
      record {
        within =
            action-fine has _
            (cluster-is-within (cluster part version (needs_filled need)) fine version-fine (omega (arith, few-filled need)) (needs-read-within _ _ need after f));
        few = few-filled need;
        count = fits;
        sum = small;
      }

  heading-within : (change : Change) → HeadingWithin (heading_of change columns l part count sum)
  heading-within Install = cluster-within Install installs
  heading-within Update = cluster-within Update updates
  heading-within Remove = remove-within

pub first-line-within : (columns : PackageColumns) (l : List ℕ) → HeadingWithin (first_line columns l)
unfolding first_line
first-line-within columns l =
    then-cases HeadingWithin None (change_of (cell columns.action l)) _ tt λ change _ a.
    then-cases HeadingWithin None (part_field (cell columns.cluster_columns.cluster l)) _ tt λ part behind e.
    then-cases HeadingWithin None (whole_number payload_most (cell columns.payload l)) _ tt λ count behind-count f.
    then-cases HeadingWithin None (whole_number sum_most (cell columns.sum l)) _ tt λ sum behind_sum g.
    heading-within columns l part count sum
    (part-read-within _ part behind e)
    (whole-number-most payload_most (cell columns.payload l) count behind-count _ refl f)
    (whole-number-most sum_most (cell columns.sum l) sum behind_sum _ refl g)
    change
