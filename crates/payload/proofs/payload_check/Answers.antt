-- `payload::payload_check` meets its contract: 1 of an unsound state, and of a sound one what the checks behind it give. Assumes nothing.
use Rattle.base.proofs.Ladder.{told}
use Rattle.payload.proofs.PayloadLaws.{unsound-check, sound-check}
use Rattle.payload.proofs.payload_check.Goals as goal

pub returns-then-not-sound : goal.returns-then-not-sound
returns-then-not-sound c = unsound-check _ _ _ _ (told _ _ _ c.sound.ensures c.if-not-sound.true) c.number.ensures

pub payload_check_on_sound-requires : goal.payload_check_on_sound-requires
payload_check_on_sound-requires c = told _ _ _ c.sound.ensures c.if-not-sound.false

pub returns : goal.returns
returns c = sound-check _ _ _ _ (told _ _ _ c.sound.ensures c.if-not-sound.false) c.payload_check_on_sound.ensures
