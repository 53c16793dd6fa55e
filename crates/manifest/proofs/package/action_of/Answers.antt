-- `manifest::package::action_of` meets its contract: one law for each change. Assumes nothing.
use Rattle.std.proofs.Common.{inl, inr}
use Rattle.manifest.proofs.PackageLaws.{actions}
use Rattle.manifest.proofs.package.action_of.Goals as goal

pub returns-in-Install : goal.returns-in-Install
returns-in-Install c = λ plain e. elim c.in-Install.is [ inl h ↦ search actions | inr h ↦ search actions ]

pub returns-in-Remove : goal.returns-in-Remove
returns-in-Remove c = λ plain e. search actions
