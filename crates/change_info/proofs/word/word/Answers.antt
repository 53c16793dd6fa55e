-- `change_info::word::word` meets its contract: a word for each change. Assumes nothing.
use native.Mathlib.Omega.{arith}
use mathlib.Core.Path.{sym}
use Rattle.actions.specs.declared.action.Change.TheVariants.{Install, Update, Remove}
use Rattle.change_info.proofs.LineParts.{word-is}
use Rattle.change_info.proofs.word.word.Goals as goal

pub returns-in-Install : goal.returns-in-Install
returns-in-Install c = record { meaning = sym (word-is c.args.a Install c.in-Install.is); most = omega arith }

pub returns-in-Update : goal.returns-in-Update
returns-in-Update c = record { meaning = sym (word-is c.args.a Update c.in-Update.is); most = omega arith }

pub returns-in-Remove : goal.returns-in-Remove
returns-in-Remove c = record { meaning = sym (word-is c.args.a Remove c.in-Remove.is); most = omega arith }
