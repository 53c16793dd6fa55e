-- "Until the first accepted Load the program holds a state that is not sound, and a store of no bytes.": that it does, that each of the
-- twelve calls is then refused by 1 and changes nothing, and what the old calls and the old status answer. Assumes nothing.
use mathlib.Core.Path.{◌≡◌, refl, sym, ap, ◌∙◌}
use mathlib.Core.Bool.{Bool, true, false, ◌&&◌}
use mathlib.Core.List.{[], ◌++◌}
use lib.ListN.{take}
use Rattle.base.specs.Refusals.{first_refusal}
use Rattle.clusters.specs.declared.table.Table.{Table}
use Rattle.clusters.specs.Table as clusters
use Rattle.clusters.specs.View.{view_table}
use Rattle.model.specs.Load as model
use Rattle.model.specs.State as model-state
use Rattle.model.specs.State.{Store}
use Rattle.model.specs.Calls.{Call}
use Rattle.model.specs.Sound.{store_sound, transfers_sound, sound_for}
use Rattle.state.specs.declared.state.State.{State}
use Rattle.state.specs.Exact.{loaded_state}
use Rattle.state.specs.View.{view_state}
use Rattle.state.specs.declared.answer.Answer.TheVariants.{Refused}
use Rattle.state.specs.Outcome.{Outcome, refused_by}
use Rattle.state.proofs.Views.{view-loaded-state}
use Rattle.state.proofs.Outcomes.{called-unsound}
use Rattle.manager.specs.Accepts.{accepts}
use Rattle.four_state.specs.declared.call.OldCall.{OldCall}
use Rattle.four_state.specs.OldCalls.{status_of, unsound_answer, old_answers}
use Rattle.four_state.specs.Exact.{exact_begun_unless}
use Rattle.script_calls.specs.declared.kept.Kept.{Kept}
use Rattle.script_calls.specs.declared.kept.LineAnswer.TheVariants as line-answer
use Rattle.script_calls.specs.Kept.{NothingLoaded, keeps, nothing_changed, answered_with, old_answered_with, line_outcome}
use Rattle.script_calls.specs.Line.{calling, calling_old}

and-false : (a : Bool) → a && false ≡ false
and-false true = refl
and-false false = refl

-- a state whose next id is 0 is not sound
no-id : (t : clusters.Table) → sound_for (model.loaded_state t 0) 0 ≡ false
unfolding sound_for transfers_sound
no-id t = and-false (store_sound [] 0)

pub first-unsound : (t : Table) (s : State) → s ≡ loaded_state t 0 → sound_for (view_state s) 0 ≡ false
first-unsound t s e =
    ap (λ (x : State). sound_for (view_state x) 0) e
    ∙ ap (λ (x : model-state.State). sound_for x 0) (view-loaded-state t 0)
    ∙ no-id (view_table t)

-- a call of a state that is not sound, with no byte lent
refused-call : (s : State) (bytes : Store) (call : Call) → sound_for (view_state s) 0 ≡ false
    → calling call (keeps s 0) bytes ≡ line_outcome (answered_with (refused_by s 1) 0) bytes
unfolding calling
refused-call s bytes call u =
    ap (λ (o : Outcome). line_outcome (answered_with o.answered 0) (o.store ++ bytes)) (sym (called-unsound s [] call (accepts s [] call) u))

-- "1. BadState: any call but Load; the state isn't sound"
pub refused-before-load : (k : Kept) (bytes : Store) (call : Call) → NothingLoaded k
    → calling call k bytes ≡ line_outcome (nothing_changed (line-answer.Answer (Refused 1)) k) bytes
refused-before-load k bytes call nothing =
    let none_lent : k ≡ keeps k.state 0 = ap (keeps k.state) nothing.no_bytes in
    ap (λ (q : Kept). calling call q bytes) none_lent
    ∙ refused-call k.state bytes call nothing.unsound
    ∙ ap (λ (q : Kept). line_outcome (nothing_changed (line-answer.Answer (Refused 1)) q) bytes) (sym none_lent)

-- ---- "Before the first Load the old lines are answered `old 255` for status, `old 1` for cancel, `old 2` for the others."

old-unsound : (s : State) (bytes : Store) (call : OldCall) → sound_for (view_state s) 0 ≡ false
    → calling_old call (keeps s 0) bytes ≡ line_outcome (old_answered_with (unsound_answer call) s 0) bytes
unfolding calling_old exact_begun_unless old_answers first_refusal
old-unsound s bytes call u = rw u

pub old-before-load : (k : Kept) (bytes : Store) (call : OldCall) → NothingLoaded k
    → calling_old call k bytes ≡ line_outcome (nothing_changed (line-answer.Old (unsound_answer call)) k) bytes
old-before-load k bytes call nothing =
    let none_lent : k ≡ keeps k.state 0 = ap (keeps k.state) nothing.no_bytes in
    ap (λ (q : Kept). calling_old call q bytes) none_lent
    ∙ old-unsound k.state bytes call nothing.unsound
    ∙ ap (λ (q : Kept). line_outcome (nothing_changed (line-answer.Old (unsound_answer call)) q) bytes) (sym none_lent)

pub status-before-load : (k : Kept) (bytes : Store) → NothingLoaded k → status_of (view_state k.state) (take k.store_length bytes) ≡ 255
unfolding status_of
status-before-load k bytes nothing = rw (nothing.no_bytes, nothing.unsound)
