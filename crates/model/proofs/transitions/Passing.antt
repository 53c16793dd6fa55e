-- An action passes 11 to 15 and 21 exactly when it is applicable, by the facts that document 01 and A.2 demand. Assumes nothing.
use mathlib.Core.Path.{◌≡◌, sym, ap, ◌∙◌}
use mathlib.Core.Bool.{true, not}
use mathlib.Core.List.{List}
use mathlib.Core.Option.{Option, none, some}
use borrow.Author.Tests.{leb-false, lt-leb, not-false}
use Rattle.base.specs.Refusals.{first_refusal, none_applies}
use Rattle.base.proofs.Refusals.{accepted-none}
use Rattle.clusters.specs.Version.{above}
use Rattle.clusters.specs.Cluster.{Cluster}
use Rattle.clusters.specs.Table.{Table, find}
use Rattle.actions.specs.Action.{Action, install, update, remove}
use Rattle.actions.specs.Refusals.{cluster_present, cluster_absent, is_marked, cluster_stays, old_version, table_full, action_refusals, passes}
use Rattle.actions.proofs.StagedLaws.{not-staged, staged-is}
use Rattle.model.specs.Accepted.{Applicable, installs, updates, removes}
use Rattle.model.proofs.soundness.Accepted.{first-passed, rest-passed}

old-version : (c d : Cluster) (found : Option Cluster) → found ≡ some d → old_version found (update c) ≡ not (above c.version d.version)
unfolding old_version
old-version c d found e = rw (old_version, e)

module _ (onto : Table) (listed : List Action) where
  facts : (a : Action) → first_refusal (action_refusals onto listed a) ≡ none → Applicable onto listed a
  unfolding action_refusals cluster_present cluster_absent cluster_stays table_full
  facts (install c) h =
      let h12 = rest-passed _ _ h in
      let h15 = rest-passed _ _ (rest-passed _ _ (rest-passed _ _ (rest-passed _ _ h12))) in
      installs c (first-passed _ _ h) (not-staged (find c.part onto) (first-passed _ _ h12)) (leb-false _ _ (first-passed _ _ h15))
  facts (update c) h =
      let h13 = rest-passed _ _ (rest-passed _ _ h) in
      let one = staged-is (find c.part onto) (not-false _ (first-passed _ _ h13)) in
      let newer = first-passed _ _ (rest-passed _ _ (rest-passed _ _ h13)) in
      updates c one.0 (first-passed _ _ h) one.1 (not-false _ (sym (old-version c one.0 (find c.part onto) one.1) ∙ newer))
  facts (remove part) h =
      let h13 = rest-passed _ _ (rest-passed _ _ h) in
      let one = staged-is (find part onto) (not-false _ (first-passed _ _ h13)) in
      let unmarked = first-passed _ _ (rest-passed _ _ h13) in
      removes part one.0 (first-passed _ _ h) one.1 (ap is_marked (sym one.1) ∙ unmarked)

  pub passing : (a : Action) → passes onto listed a ≡ true → Applicable onto listed a
  unfolding passes
  passing a h = facts a (accepted-none _ h)

  pub applicable-passes : {a : Action} → Applicable onto listed a → passes onto listed a ≡ true
  unfolding passes none_applies action_refusals cluster_present cluster_absent cluster_stays old_version table_full
  applicable-passes (installs c free missing few) = rw (free, missing, lt-leb _ _ few)
  applicable-passes (updates c d free one newer) = rw (free, one, newer)
  applicable-passes (removes part d free one goes) = rw (free, one, goes)
