-- The rules of the definitions by computation, each at its limits from both sides: a table of cases for each. Assumes nothing.
use Prim.Native.Nat.{ℕ}
use mathlib.Core.Path.{◌≡◌, refl}
use mathlib.Core.Bool.{Bool, true, false, not, ◌&&◌}
use mathlib.Core.List.{List, [], ◌∷◌, map}
use mathlib.Core.Option.{Option, none, some}
use Rattle.base.specs.Refusals.{Refusal, first_refusal, none_applies}
use Rattle.text.specs.Version.{version, version_within}
use Rattle.clusters.specs.Version.{above}
use Rattle.clusters.specs.Cluster.{Cluster, cluster, need, with_mark, part_within, needs_within, cluster_within}
use Rattle.clusters.specs.Table.{Table, find}
use Rattle.base.proofs.Tables.{◌gives◌, AllHold}
use Rattle.clusters.proofs.Examples.{plain, plain_to}
use Rattle.actions.specs.declared.action.Change.TheVariants.{Install, Update, Remove}
use Rattle.actions.specs.Action.{Action, install, update, remove, insert, replace, take_out, apply, apply_all, action_within, actions_within}
use Rattle.actions.specs.Refusals.{touched, cluster_present, cluster_absent, cluster_stays, is_marked, is_staged, old_version, table_full, action_refusals, action_refusal, passes, pass_in_turn}
use Rattle.actions.specs.View.{action_of}
use Rattle.actions.proofs.Marks.{applying}

-- ---- what an action does to a table

abbrev three : Table
three = plain 10 ∷ plain 20 ∷ plain 30 ∷ []

-- another version and needs than those in the table
abbrev newer : ℕ → Cluster
newer part = cluster part (version 1 0 4 1) (need 20 (version 1 0 4 0) ∷ [])

-- "install adds the cluster with the package's version and needs"
pub inserted : AllHold (λ part. insert (newer part) three) (
    5 gives (newer 5 ∷ three)
    ∷ 15 gives (plain 10 ∷ newer 15 ∷ plain 20 ∷ plain 30 ∷ [])
    ∷ 25 gives (plain 10 ∷ plain 20 ∷ newer 25 ∷ plain 30 ∷ [])
    ∷ 35 gives (plain 10 ∷ plain 20 ∷ plain 30 ∷ newer 35 ∷ [])
    ∷ [])
unfolding insert
inserted = refl

pub inserted_first : insert (newer 10) [] ≡ newer 10 ∷ []
unfolding insert
inserted_first = refl

-- "update replaces both"; one that is not there changes nothing
pub replaced : AllHold (λ part. replace (newer part) three) (
    10 gives (newer 10 ∷ plain 20 ∷ plain 30 ∷ [])
    ∷ 20 gives (plain 10 ∷ newer 20 ∷ plain 30 ∷ [])
    ∷ 30 gives (plain 10 ∷ plain 20 ∷ newer 30 ∷ [])
    ∷ 15 gives three
    ∷ [])
unfolding replace
replaced = refl

-- "remove takes the cluster out"
pub taken_out : AllHold (λ part. take_out part three) (
    10 gives (plain 20 ∷ plain 30 ∷ [])
    ∷ 20 gives (plain 10 ∷ plain 30 ∷ [])
    ∷ 30 gives (plain 10 ∷ plain 20 ∷ [])
    ∷ 15 gives three
    ∷ [])
unfolding take_out
taken_out = refl

-- each action, and actions in order
pub applied : AllHold (apply_all three) (
    [] gives three
    ∷ (install (newer 15) ∷ []) gives insert (newer 15) three
    ∷ (update (newer 20) ∷ []) gives replace (newer 20) three
    ∷ (remove 20 ∷ []) gives take_out 20 three
    ∷ (install (plain 15) ∷ update (newer 15) ∷ remove 10 ∷ []) gives (newer 15 ∷ plain 20 ∷ plain 30 ∷ [])
    ∷ (remove 20 ∷ install (newer 20) ∷ []) gives (plain 10 ∷ newer 20 ∷ plain 30 ∷ [])
    ∷ [])
unfolding insert replace take_out apply apply_all
applied = refl

-- a cluster that stays, and the table of three with one such
abbrev staying : Cluster → Cluster
staying c = with_mark c true

abbrev middle_stays : Table
middle_stays = plain 10 ∷ staying (plain 20) ∷ plain 30 ∷ []

-- A.2: "Install gives 0, update keeps it", whatever mark the action's own cluster has; what an action is not about keeps its mark
pub marks_after : AllHold (λ a. apply a middle_stays) (
    install (newer 15) gives (plain 10 ∷ newer 15 ∷ staying (plain 20) ∷ plain 30 ∷ [])
    ∷ install (staying (newer 15)) gives (plain 10 ∷ newer 15 ∷ staying (plain 20) ∷ plain 30 ∷ [])
    ∷ update (newer 20) gives (plain 10 ∷ staying (newer 20) ∷ plain 30 ∷ [])
    ∷ update (staying (newer 20)) gives (plain 10 ∷ staying (newer 20) ∷ plain 30 ∷ [])
    ∷ update (newer 30) gives (plain 10 ∷ staying (plain 20) ∷ newer 30 ∷ [])
    ∷ update (staying (newer 30)) gives (plain 10 ∷ staying (plain 20) ∷ newer 30 ∷ [])
    ∷ update (staying (newer 15)) gives middle_stays
    ∷ remove 10 gives (staying (plain 20) ∷ plain 30 ∷ [])
    ∷ remove 20 gives (plain 10 ∷ plain 30 ∷ [])
    ∷ [])
unfolding insert replace take_out apply
marks_after = refl

-- the limits of a cluster for an install and an update, of a part number for a remove
pub action_limits : AllHold action_within (
    install (plain 1) gives true
    ∷ install (plain 0) gives false
    ∷ update (plain 1) gives true
    ∷ update (cluster 1 (version 0 0 65536 0) []) gives false
    ∷ update (cluster 1 (version 0 0 0 4294967295) []) gives true
    ∷ update (cluster 1 (version 0 0 0 4294967296) []) gives false
    ∷ remove 1 gives true
    ∷ remove 4294967295 gives true
    ∷ remove 0 gives false
    ∷ remove 4294967296 gives false
    ∷ [])
unfolding version_within part_within needs_within cluster_within action_within
action_limits = refl

pub list_limits : AllHold actions_within (
    [] gives true
    ∷ (remove 1 ∷ remove 2 ∷ []) gives true
    ∷ (remove 0 ∷ remove 2 ∷ []) gives false
    ∷ (remove 1 ∷ remove 0 ∷ []) gives false
    ∷ [])
unfolding part_within action_within actions_within
list_limits = refl

-- the three changes
pub changes : AllHold (λ change. action_of change (newer 10)) (
    Install gives install (newer 10)
    ∷ Update gives update (newer 10)
    ∷ Remove gives remove 10
    ∷ [])
changes = refl

-- ---- 11 to 15 and 21

-- some action of the list is about the cluster
pub list_touches : AllHold (λ part. touched part (install (plain 10) ∷ update (plain 20) ∷ remove 30 ∷ [])) (
    10 gives true
    ∷ 20 gives true
    ∷ 30 gives true
    ∷ 15 gives false
    ∷ [])
unfolding touched
list_touches = refl

-- the order in which they are asked: "Checked in this order", 21 "directly after 13"
pub order : (staged : Table) (listed : List Action) (a : Action)
    → map (λ (r : Refusal). r.number) (action_refusals staged listed a) ≡ 11 ∷ 12 ∷ 13 ∷ 21 ∷ 14 ∷ 15 ∷ []
unfolding action_refusals
order staged listed a = refl

-- an action on a staged table, after listed actions
record Asked : Type 0 where
  staged : Table
  listed : List Action
  action : Action

abbrev asked : Table → List Action → Action → Asked
asked staged listed action = record { staged = staged; listed = listed; action = action }

-- the number that it is refused with, or 0, all the numbers that apply, and whether it passes
record Answered : Type 0 where
  first : ℕ
  all : List ℕ
  passing : Bool

abbrev answered : Asked → Answered
answered q = record {
  first = action_refusal q.staged q.listed q.action;
  all = applying (action_refusals q.staged q.listed q.action);
  passing = passes q.staged q.listed q.action;
}

abbrev accepted : Answered
accepted = record { first = 0; all = []; passing = true }

-- refused by a number, with those behind it that apply too
abbrev refused_by : ℕ → List ℕ → Answered
refused_by first others = record { first = first; all = first ∷ others; passing = false }

-- the cluster one version below the staged one
abbrev older : ℕ → Cluster
older part = cluster part (version 1 0 3 4294967295) []

abbrev full : Table
full = plain_to 64

-- each of 11 to 15 alone, at its limits, and each two that can apply at once
pub refusals : AllHold answered (
    -- 11
    asked three (update (plain 20) ∷ []) (remove 20) gives refused_by 11 []
    ∷ asked three (update (plain 20) ∷ []) (remove 10) gives accepted
    -- 12
    ∷ asked three [] (install (plain 20)) gives refused_by 12 []
    ∷ asked three [] (install (plain 15)) gives accepted
    -- 13
    ∷ asked three [] (update (plain 15)) gives refused_by 13 []
    ∷ asked three [] (remove 15) gives refused_by 13 []
    ∷ asked three [] (remove 20) gives accepted
    -- 14: one version below, the same, one above; the main version below, and the one above
    ∷ asked three [] (update (older 20)) gives refused_by 14 []
    ∷ asked three [] (update (plain 20)) gives refused_by 14 []
    ∷ asked three [] (update (newer 20)) gives accepted
    ∷ asked three [] (update (cluster 20 (version 0 65535 0 0) [])) gives refused_by 14 []
    ∷ asked three [] (update (cluster 20 (version 2 0 0 0) [])) gives accepted
    -- 15: an install, and only that
    ∷ asked (plain_to 63) [] (install (plain 65)) gives accepted
    ∷ asked full [] (install (plain 65)) gives refused_by 15 []
    ∷ asked full [] (update (newer 64)) gives accepted
    ∷ asked full [] (remove 64) gives accepted
    -- two and three at once
    ∷ asked three (install (plain 20) ∷ []) (install (plain 20)) gives refused_by 11 (12 ∷ [])
    ∷ asked three (remove 15 ∷ []) (update (plain 15)) gives refused_by 11 (13 ∷ [])
    ∷ asked three (remove 15 ∷ []) (remove 15) gives refused_by 11 (13 ∷ [])
    ∷ asked three (update (plain 20) ∷ []) (update (plain 20)) gives refused_by 11 (14 ∷ [])
    ∷ asked full (remove 65 ∷ []) (install (plain 65)) gives refused_by 11 (15 ∷ [])
    ∷ asked full [] (install (plain 64)) gives refused_by 12 (15 ∷ [])
    ∷ asked full (install (plain 64) ∷ []) (install (plain 64)) gives refused_by 11 (12 ∷ 15 ∷ [])
    ∷ [])
unfolding first_refusal none_applies above find touched cluster_present cluster_absent cluster_stays old_version table_full action_refusals action_refusal passes
refusals = refl

-- one of the staged clusters is marked
pub staged_marks : AllHold (λ part. is_marked (find part middle_stays)) (
    10 gives false
    ∷ 20 gives true
    ∷ 15 gives false
    ∷ [])
unfolding find
staged_marks = refl

abbrev full_all_stay : Table
full_all_stay = map staying full

-- A.2: "21 Stays, directly after 13, for remove of a cluster marked 1"
pub marks_refuse : AllHold answered (
    -- a marked one, one that is not marked, one that is not staged
    asked middle_stays [] (remove 20) gives refused_by 21 []
    ∷ asked middle_stays [] (remove 10) gives accepted
    ∷ asked middle_stays [] (remove 30) gives accepted
    ∷ asked middle_stays [] (remove 15) gives refused_by 13 []
    -- 11 comes before, and the list touches another
    ∷ asked middle_stays (update (newer 20) ∷ []) (remove 20) gives refused_by 11 (21 ∷ [])
    ∷ asked middle_stays (update (newer 20) ∷ []) (remove 10) gives accepted
    ∷ asked middle_stays (update (newer 10) ∷ []) (remove 20) gives refused_by 21 []
    ∷ asked middle_stays (remove 15 ∷ []) (remove 15) gives refused_by 11 (13 ∷ [])
    -- no install and no update has 21
    ∷ asked middle_stays [] (install (plain 20)) gives refused_by 12 []
    ∷ asked middle_stays [] (update (older 20)) gives refused_by 14 []
    ∷ asked middle_stays [] (update (plain 20)) gives refused_by 14 []
    ∷ asked middle_stays [] (update (newer 20)) gives accepted
    -- a full table
    ∷ asked full_all_stay [] (install (plain 65)) gives refused_by 15 []
    ∷ asked full_all_stay [] (install (plain 64)) gives refused_by 12 (15 ∷ [])
    ∷ asked full_all_stay [] (remove 64) gives refused_by 21 []
    ∷ asked full_all_stay [] (remove 65) gives refused_by 13 []
    ∷ asked full_all_stay [] (update (newer 64)) gives accepted
    -- the mark of the action's own cluster plays no part, nor that of a listed one
    ∷ asked three [] (install (staying (plain 15))) gives accepted
    ∷ asked three [] (install (staying (plain 20))) gives refused_by 12 []
    ∷ asked three [] (update (staying (newer 20))) gives accepted
    ∷ asked three [] (update (staying (plain 20))) gives refused_by 14 []
    ∷ asked three (update (staying (newer 20)) ∷ []) (remove 20) gives refused_by 11 []
    ∷ asked three (update (staying (newer 20)) ∷ []) (remove 10) gives accepted
    ∷ [])
unfolding first_refusal none_applies above find touched cluster_present cluster_absent cluster_stays old_version table_full action_refusals action_refusal passes
marks_refuse = refl

-- no two of 12, 13, 21, 14 and 15 apply at once but 12 and 15
pub record Excluded (staged : Option Cluster) (count : ℕ) (a : Action) : Type 0 where
  pub present_absent : cluster_present staged a && cluster_absent staged a ≡ false
  pub present_stays : cluster_present staged a && cluster_stays staged a ≡ false
  pub present_old : cluster_present staged a && old_version staged a ≡ false
  pub absent_stays : cluster_absent staged a && cluster_stays staged a ≡ false
  pub absent_old : cluster_absent staged a && old_version staged a ≡ false
  pub absent_full : cluster_absent staged a && table_full count a ≡ false
  pub stays_old : cluster_stays staged a && old_version staged a ≡ false
  pub stays_full : cluster_stays staged a && table_full count a ≡ false
  pub old_full : old_version staged a && table_full count a ≡ false

and_no : (b : Bool) → b && false ≡ false
and_no true = refl
and_no false = refl

-- 21 goes with a remove alone, 14 with an update and 15 with an install
pub excluded : (staged : Option Cluster) (count : ℕ) (a : Action) → Excluded staged count a
unfolding cluster_present cluster_absent cluster_stays old_version table_full
excluded staged count (install c) = let no = and_no (is_staged staged) in record {
  present_absent = no;
  present_stays = no;
  present_old = no;
  absent_stays = refl;
  absent_old = refl;
  absent_full = refl;
  stays_old = refl;
  stays_full = refl;
  old_full = refl;
}
excluded none count (update c) = record {
  present_absent = refl;
  present_stays = refl;
  present_old = refl;
  absent_stays = refl;
  absent_old = refl;
  absent_full = refl;
  stays_old = refl;
  stays_full = refl;
  old_full = refl;
}
excluded (some d) count (update c) = record {
  present_absent = refl;
  present_stays = refl;
  present_old = refl;
  absent_stays = refl;
  absent_old = refl;
  absent_full = refl;
  stays_old = refl;
  stays_full = refl;
  old_full = and_no (not (above c.version d.version));
}
excluded none count (remove part) = record {
  present_absent = refl;
  present_stays = refl;
  present_old = refl;
  absent_stays = refl;
  absent_old = refl;
  absent_full = refl;
  stays_old = refl;
  stays_full = refl;
  old_full = refl;
}
excluded (some d) count (remove part) = let no = and_no d.stays in record {
  present_absent = refl;
  present_stays = refl;
  present_old = refl;
  absent_stays = refl;
  absent_old = refl;
  absent_full = refl;
  stays_old = no;
  stays_full = no;
  old_full = refl;
}

-- ---- in turn

-- actions on a table, after listed actions
abbrev in_turn : Table × List Action × List Action → Bool
in_turn q = pass_in_turn q.0 q.1 q.2

-- "pass 11 to 15 in turn": each after those before it
pub turns : AllHold in_turn (
    (three, [], []) gives true
    ∷ (three, [], update (newer 20) ∷ remove 30 ∷ install (plain 15) ∷ []) gives true
    -- each is refused by itself: the first, the last
    ∷ (three, [], update (plain 20) ∷ remove 30 ∷ []) gives false
    ∷ (three, [], remove 30 ∷ update (plain 20) ∷ []) gives false
    -- the same cluster twice, in the list and before it
    ∷ (three, [], update (newer 20) ∷ remove 20 ∷ []) gives false
    ∷ (three, [], install (plain 15) ∷ remove 10 ∷ update (newer 15) ∷ []) gives false
    ∷ (three, remove 20 ∷ [], update (newer 20) ∷ []) gives false
    -- a cluster that stays, updated, removed, and removed behind its update; marks in the actions
    ∷ (middle_stays, [], update (newer 20) ∷ remove 30 ∷ []) gives true
    ∷ (middle_stays, [], remove 30 ∷ remove 20 ∷ []) gives false
    ∷ (middle_stays, [], update (newer 20) ∷ remove 20 ∷ []) gives false
    ∷ (three, [], install (staying (plain 15)) ∷ update (staying (newer 10)) ∷ remove 20 ∷ []) gives true
    -- the table after those before: full, and with room again
    ∷ (plain_to 63, [], install (plain 64) ∷ []) gives true
    ∷ (plain_to 63, [], install (plain 64) ∷ install (plain 65) ∷ []) gives false
    ∷ (full, [], remove 1 ∷ install (plain 65) ∷ []) gives true
    ∷ (full, [], install (plain 65) ∷ remove 1 ∷ []) gives false
    ∷ [])
unfolding none_applies above find insert replace take_out apply touched cluster_present cluster_absent cluster_stays old_version table_full action_refusals passes pass_in_turn
turns = refl
