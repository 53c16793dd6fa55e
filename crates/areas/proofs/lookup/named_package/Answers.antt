-- `areas::lookup::named_package` meets its contract: the same two tests in the same order. Assumes nothing.
use Rattle.base.proofs.RefusalNumbers.{numbers}
use Rattle.areas.proofs.FoundPackage.{named-refused, named-placed}
use Rattle.areas.proofs.lookup.named_package.Goals as goal

pub returns-then-not-allowed-clause-refused : goal.returns-then-not-allowed-clause-refused
returns-then-not-allowed-clause-refused c = search numbers

pub returns : goal.returns
returns c = record { refused = search (named-refused, numbers); place = named-placed c.find.result _ _ _ c.find.ensures.place c.ok_or.ensures.value }
