-- `progress::progress` meets its contract: 1 of an unsound state, and of a sound one what is given behind it. Assumes nothing.
use borrow.Author.Rules.{rules}
use Rattle.base.proofs.Ladder.{told-yes}
use Rattle.progress.proofs.KeptProgress.{unsound, on-sound}
use Rattle.progress.proofs.progress.Goals as goal

pub returns-then-not-sound : goal.returns-then-not-sound
returns-then-not-sound c = search unsound

pub progress_on_sound-requires : goal.progress_on_sound-requires
progress_on_sound-requires c = search told-yes

pub returns : goal.returns
returns c = search on-sound
