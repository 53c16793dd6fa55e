-- `soundness::sound::sound` meets its contract: each part is told what it needs by those before it. Assumes nothing.
use borrow.Author.Rules.{rules}
use mathlib.Core.Path.{◌≡◌}
use mathlib.Core.Bool.{true}
use lib.ListN.{length}
use Rattle.base.proofs.Counted.{unmapped}
use Rattle.base.proofs.Ladder.{told-no, told-yes}
use Rattle.state.specs.View.{entries_most}
use Rattle.soundness.proofs.Whole.{transfers_part, list_part, transfers-unsound, list-unsound, session-decides, few-packages, rising, room-in-list}
use Rattle.soundness.proofs.sound.sound.Goals.{Else-not-list_sound, Else-not-transfers_sound, Start}
use Rattle.soundness.proofs.sound.sound.Goals as goal

long : (c : Start) → length c.args.s.session.entries ≡ entries_most
long c = search (rules, unmapped)

checked : (c : Else-not-transfers_sound) → (transfers_part c.args.s c.args.store_length ≡ true)
checked c = told-yes _ _ c.transfers_sound.ensures c.if-not-transfers_sound.false-raw

listed : (c : Else-not-list_sound) → (list_part c.args.s c.args.store_length ≡ true)
listed c = told-yes _ _ c.list_sound.ensures c.if-not-list_sound.false-raw

pub returns-then-not-transfers_sound : goal.returns-then-not-transfers_sound
returns-then-not-transfers_sound c =
    transfers-unsound c.args.s c.args.store_length (told-no _ _ c.transfers_sound.ensures c.if-not-transfers_sound.true-raw)

pub list_sound-requires : goal.list_sound-requires
list_sound-requires c =
    few-packages c.args.s c.args.store_length (checked (goal.at.list_sound-requires c).Else-not-transfers_sound)

pub returns-then-not-list_sound : goal.returns-then-not-list_sound
returns-then-not-list_sound c =
    list-unsound c.args.s c.args.store_length (checked (goal.at.returns-then-not-list_sound c).Else-not-transfers_sound) (told-no _ _ c.list_sound.ensures c.if-not-list_sound.true-raw)

pub session_and_kept_sound-requires : goal.session_and_kept_sound-requires
session_and_kept_sound-requires c =
    (few-packages c.args.s c.args.store_length (checked (goal.at.session_and_kept_sound-requires c).Else-not-transfers_sound), rising c.args.s c.args.store_length (checked (goal.at.session_and_kept_sound-requires c).Else-not-transfers_sound), room-in-list c.args.s c.args.store_length (checked (goal.at.session_and_kept_sound-requires c).Else-not-transfers_sound) (long (goal.at.session_and_kept_sound-requires c).Start) (listed (goal.at.session_and_kept_sound-requires c).Else-not-list_sound))

pub returns : goal.returns
returns c =
    session-decides c.args.s c.args.store_length (checked (goal.at.returns c).Else-not-transfers_sound) (listed (goal.at.returns c).Else-not-list_sound) _ c.session_and_kept_sound.ensures
