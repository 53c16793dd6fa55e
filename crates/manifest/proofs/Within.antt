-- What is read from a package's text is within the limits, the text with the payload is the whole area, and the struct that
-- the code gives stands for it. Assumes nothing.
use mathlib.Core.Path.{◌≡◌, refl, subst}
use mathlib.Core.Bool.{true, ◌&&◌}
use mathlib.Core.List.{List, [], ◌∷◌}
use Prim.Native.Nat.{ℕ, zero, suc, ◌+◌, ◌≤◌}
use native.Mathlib.Omega.{arith}
use lib.Dec.{eqb}
use lib.ListN.{length, drop, length-append}
use borrow.Author.Tests.{eqb-true}
use Rattle.std.specs.Prelude.{Option, Some, None}
use Rattle.base.proofs.Tests.{cond_cases}
use Rattle.text.proofs.ThenLaws.{then-cases, then-cases-some}
use Rattle.text.specs.declared.cursor.Cursor.{Cursor}
use Rattle.rows.specs.declared.columns.PackageColumns.{PackageColumns}
use Rattle.rows.specs.Line.{line_from}
use Rattle.rows.specs.Columns.{package_columns}
use Rattle.clusters.specs.declared.cluster.Need.{Need}
use Rattle.actions.specs.declared.action.Change.{Change}
use Rattle.actions.specs.declared.action.Change.TheVariants.{Install, Update, Remove}
use Rattle.clusters.specs.Cluster.{Cluster, with_need, need_within, needs_most, cluster_within}
use Rattle.actions.specs.Action.{action_within}
use Rattle.actions.specs.Struct.{struct_action}
use Rattle.actions.proofs.Structs.{view-struct-action}
use Rattle.actions.specs.View.{view_action, action_of}
use Rattle.cluster_list.specs.Cells.{need_fields}
use Rattle.cluster_list.proofs.CellsWithin.{need-read-within}
use Rattle.cluster_list.proofs.Within.{with-need-within}
use Rattle.package_heading.specs.Heading.{payload_most, sum_most, first_line}
use Rattle.package_heading.proofs.Within.{HeadingFacts, HeadingWithin, HasCluster, installs, updates, action-fine, first-line-within}
use Rattle.manifest.specs.Package.{Manifest, PackageRead, ill_formed, inconsistent, consistent, no_cluster, no_payload, only_need, Text, is_empty_line, further_lines, further_most, package_with, read_package}

-- ---- the further value lines

abbrev NeedIn : Option Need → Type 0
NeedIn None = Unit {0}
NeedIn (Some n) = need_within n ≡ true

only-need-within : (columns : PackageColumns) (l : List ℕ) → NeedIn (only_need columns l)
unfolding only_need
only-need-within columns l =
    cond_cases NeedIn (no_payload columns l && no_cluster columns.cluster_columns l) _ _
    (λ b. then-cases NeedIn None (need_fields columns.cluster_columns l) _ tt λ need next e. read need next e)
    λ b. tt
  where
    read : (need : Option Need) (next : Cursor) → need_fields columns.cluster_columns l ≡ Some (need, next) → NeedIn need
    read None next e = tt
    read (Some n) next e = need-read-within _ _ (Some n) next e n refl

abbrev TextWithin : Change → Option Text → Type 0
TextWithin change None = Unit {0}
TextWithin change (Some t) = action_within (action_of change t.cluster) ≡ true

cluster-lines-within : (change : Change) → HasCluster change → (lines : ℕ) (columns : PackageColumns) (s : List ℕ) (at : ℕ) (c : Cluster)
    → cluster_within c ≡ true → length c.needs + lines ≤ needs_most → TextWithin change (further_lines lines columns s at c)
unfolding further_lines
cluster-lines-within change has zero columns s at c h r =
    cond_cases (TextWithin change) (is_empty_line s at) _ _ (λ b. action-fine has c h) λ b. tt
cluster-lines-within change has (suc lines) columns s at c h r =
    let ih : (next : ℕ) (d : Cluster) → cluster_within d ≡ true → length d.needs + lines ≤ needs_most → TextWithin change (further_lines lines columns s next d) = cluster-lines-within change has lines columns s in
    cond_cases (TextWithin change) (is_empty_line s at) _ _ (λ b. action-fine has c h) λ b.
    then-cases-some (TextWithin change) None (line_from 6 at (drop at s)) _ tt λ next e.
    then-cases-some (TextWithin change) None (only_need columns (drop at s)) _ tt λ n f.
    ih next.at (with_need c n)
    (with-need-within c n h (subst NeedIn f (only-need-within columns (drop at s))) (omega arith))
    (rw (length-append c.needs (n ∷ [])) (omega arith))

text-within : (change : Change) (columns : PackageColumns) (s : List ℕ) (at : ℕ) (c : Cluster) → action_within (action_of change c) ≡ true
    → length c.needs ≤ 1 → TextWithin change (further_lines (further_most change) columns s at c)
unfolding further_lines action_within
text-within Install columns s at c h r = cluster-lines-within Install installs 3 columns s at c h (omega arith)
text-within Update columns s at c h r = cluster-lines-within Update updates 3 columns s at c h (omega arith)
text-within Remove columns s at c h r = cond_cases (TextWithin Remove) (is_empty_line s at) _ _ (λ b. h) λ b. tt

-- ---- the whole area

abbrev ReadWithin : List ℕ → PackageRead → Type 0
ReadWithin s ill_formed = Unit {0}
ReadWithin s inconsistent = Unit {0}
ReadWithin s (consistent m) = (action_within m.action ≡ true) × (m.start + m.count ≡ length s) × (m.count ≤ payload_most) × (m.sum ≤ sum_most)

package-within : (s : List ℕ) → ReadWithin s (read_package s)
unfolding read_package package_with
package-within s =
    then-cases-some (ReadWithin s) ill_formed (line_from 6 0 s) _ tt λ first a.
    then-cases-some (ReadWithin s) ill_formed (package_columns 7 s) _ tt λ columns b.
    then-cases-some (ReadWithin s) ill_formed (line_from 6 first.at (drop first.at s)) _ tt λ next c.
    then-cases-some (ReadWithin s) ill_formed (first_line columns (drop first.at s)) _ tt λ h d.
    let facts : HeadingFacts h = subst HeadingWithin d (first-line-within columns (drop first.at s)) in
    then-cases-some (ReadWithin s) ill_formed (further_lines (further_most h.change) columns s next.at h.cluster) _ tt λ t e.
    let within = subst (TextWithin h.change) e (text-within h.change columns s next.at h.cluster facts.within facts.few) in
    cond_cases (ReadWithin s) (eqb (t.start + h.count) (length s)) _ _ (λ f. (within, eqb-true _ _ f, facts.count, facts.sum)) λ f. tt

-- what is read is within the limits, and text and payload are the whole area
pub read_package-within : (bytes : List ℕ) (m : Manifest) → read_package bytes ≡ consistent m
    → (action_within m.action ≡ true) × (m.start + m.count ≡ length bytes) × (m.count ≤ payload_most) × (m.sum ≤ sum_most)
read_package-within bytes m e = subst (ReadWithin bytes) e (package-within bytes)

-- and the action in the struct of the code stands for the action that was read
pub read_package-viewed : (bytes : List ℕ) (m : Manifest) → read_package bytes ≡ consistent m → view_action (struct_action m.action) ≡ m.action
read_package-viewed bytes m e = view-struct-action m.action (read_package-within bytes m e).0
