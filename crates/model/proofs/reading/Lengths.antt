-- How long each report is at most, for a sound state. Assumes nothing.
use Prim.Native.Nat.{ℕ, ◌+◌, ◌*◌, ◌≤◌}
use mathlib.Core.Path.{◌≡◌, refl}
use mathlib.Core.Bool.{Bool, true}
use mathlib.Core.List.{List, [], ◌∷◌}
use native.Mathlib.Omega.{arith}
use lib.Dec.{leb}
use lib.ListN.{length, length-append, length-map}
use borrow.Author.Tests.{leb-true}
use Rattle.base.specs.Quoted.{bytes}
use Rattle.base.proofs.Tests.{cond_cases, and_left, and_right}
use Rattle.text.specs.Digits.{digits}
use Rattle.text.proofs.DigitLaws.{ten-digits}
use Rattle.rows.specs.Line.{line_text}
use Rattle.clusters.specs.Cluster.{part_within, cluster_within}
use Rattle.actions.specs.Action.{Action, install, update, remove, action_part, action_within, actions_within}
use Rattle.cluster_list.specs.Write.{written_list_most}
use Rattle.cluster_list.proofs.Lengths.{list-most}
use Rattle.model.specs.State.{PackageState, Package, State, Store, actions}
use Rattle.model.specs.Areas.{is_processed, count_in}
use Rattle.model.specs.Tables.{running}
use Rattle.model.specs.Sound.{packages_most, sound}
use Rattle.model.specs.Reading.{package_records, cluster_info, change_word, change_lines, change_info, change_info_most}
use Rattle.model.proofs.soundness.SoundFacts.{sound-says}
use Rattle.model.proofs.soundness.RunningWithin.{running-within}

pub packages-length : (s : State) → length (package_records s) ≡ length s.transfers.packages
unfolding package_records
packages-length s = length-map s.transfers.packages _

names-length : length (line_text (bytes "cluster" ∷ bytes "change" ∷ [])) ≡ 15
unfolding line_text
names-length = refl

count_most : (is : PackageState → Bool) (ps : List Package) → count_in is ps ≤ length ps
unfolding count_in
count_most is [] = omega arith
count_most is (p ∷ ps) =
    let ih = count_most is ps in
    cond_cases (λ (n : ℕ). n + count_in is ps ≤ length (p ∷ ps)) (is p.state) 1 0 (λ b. omega (arith, ih)) λ b. omega (arith, ih)

action-part-within : (a : Action) → action_within a ≡ true → part_within (action_part a) ≡ true
unfolding action_within cluster_within
action-part-within (install c) h = and_left (part_within c.part) _ h
action-part-within (update c) h = and_left (part_within c.part) _ h
action-part-within (remove part) h = h

word-most : (a : Action) → length (change_word a) ≤ 7
word-most (install c) = omega arith
word-most (update c) = omega arith
word-most (remove part) = omega arith

-- a part number has at most 10 digits, so a line has at most 19 bytes
change-line-most : (a : Action) → action_within a ≡ true → length (line_text (digits (action_part a) ∷ change_word a ∷ [])) ≤ 19
unfolding line_text part_within
change-line-most a h =
    let few = ten-digits (action_part a) (leb-true _ _ (and_right (leb 1 (action_part a)) _ (action-part-within a h))) in
    simp length-append (omega (arith, few, word-most a))

change-lines-most : (acts : List Action) → actions_within acts ≡ true → length (change_lines acts) ≤ 19 * length acts
unfolding actions_within change_lines
change-lines-most [] h = omega arith
change-lines-most (a ∷ rest) h =
    omega (
      arith,
      length-append (line_text (digits (action_part a) ∷ change_word a ∷ [])) (change_lines rest),
      change-line-most a (and_left (action_within a) _ h),
      change-lines-most rest (and_right (action_within a) _ h),
    )

module _ (s : State) (store : Store) (h : sound s store ≡ true) where
  pub packages-most : length (package_records s) ≤ packages_most
  packages-most = let ok = sound-says s store h in omega (arith, packages-length s, ok.few)

  pub cluster-info-most : length (cluster_info s) ≤ written_list_most
  unfolding cluster_info
  cluster-info-most = list-most (running s) (running-within s store h)

  -- 15 + 16 × 19; `LongestChangeInfo` has one that is as long
  pub change-info-most : length (change_info s) ≤ change_info_most
  unfolding change_info
  change-info-most =
      let ok = sound-says s store h in
      omega (
        arith,
        names-length,
        length-append (line_text (bytes "cluster" ∷ bytes "change" ∷ [])) (change_lines (actions s.session.listed)),
        change-lines-most (actions s.session.listed) ok.within,
        length-map s.session.listed (λ e. e.action),
        ok.entries,
        count_most is_processed s.transfers.packages,
        ok.few,
      )
