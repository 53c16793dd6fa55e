-- `payload::payload` meets its contract: the empty part at the store's start of an unsound state, and of a sound one the part at the
-- place that the checks after refusal 1 give. Assumes nothing.
use mathlib.Core.Path.{refl, sym}
use Rattle.base.proofs.Ladder.{told}
use Rattle.payload.specs.Place.{no_place}
use Rattle.payload.proofs.Parts.{part_at}
use Rattle.payload.proofs.PayloadLaws.{sound-place, unsound-place, promised}
use Rattle.payload.proofs.payload.Goals as goal

pub returns-then-not-sound-clause-meaning : goal.returns-then-not-sound-clause-meaning
returns-then-not-sound-clause-meaning c = (promised _ c.args.store _ _ no_place (sym (unsound-place _ _ _ (told _ _ _ c.sound.ensures c.if-not-sound.true))) (part_at _ no_place no_place _ refl refl)).0

pub returns-then-not-sound-clause-part : goal.returns-then-not-sound-clause-part
returns-then-not-sound-clause-part c = (promised _ c.args.store _ _ no_place (sym (unsound-place _ _ _ (told _ _ _ c.sound.ensures c.if-not-sound.true))) (part_at _ no_place no_place _ refl refl)).1

pub payload_on_sound-requires : goal.payload_on_sound-requires
payload_on_sound-requires c = told _ _ _ c.sound.ensures c.if-not-sound.false

pub returns-clause-meaning : goal.returns-clause-meaning
returns-clause-meaning c = (promised _ _ _ _ _ (sound-place _ _ _ (told _ _ _ c.sound.ensures c.if-not-sound.false)) c.payload_on_sound.ensures).0

pub returns-clause-part : goal.returns-clause-part
returns-clause-part c = (promised _ _ _ _ _ (sound-place _ _ _ (told _ _ _ c.sound.ensures c.if-not-sound.false)) c.payload_on_sound.ensures).1
