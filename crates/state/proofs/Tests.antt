-- What the derived `==` of PackageState says of a package's state, and that of Change of an action. For any value. Assumes nothing.
use mathlib.Core.Path.{◌≡◌, refl}
use denote.Enum.Bare.{sameb}
use Rattle.actions.specs.declared.action.Change.{Change}
use Rattle.actions.specs.declared.action.Change.TheVariants as change
use Rattle.actions.specs.contracts.action.Change as action
use Rattle.model.specs.Areas.{is_transferring, is_transferred, is_being_processed, is_processed}
use Rattle.state.specs.declared.phase.Phase.{Phase}
use Rattle.state.specs.declared.phase.Phase.TheVariants as phase
use Rattle.state.specs.contracts.phase.PhasePartialEq.TheImpl.{eq-value}
use Rattle.state.specs.declared.package.PackageState.{PackageState}
use Rattle.state.specs.declared.package.PackageState.TheVariants.{Transferring, Transferred, Processing, Processed}
use Rattle.state.specs.contracts.package.PackageState.{the_type}
use Rattle.model.specs.State as model
use Rattle.state.specs.View.{view_package_state, view_phase, is_install}

pub same-transferring : (s : PackageState) → sameb the_type s Transferring ≡ is_transferring (view_package_state s)
same-transferring Transferring = refl
same-transferring Transferred = refl
same-transferring Processing = refl
same-transferring Processed = refl

pub same-transferred : (s : PackageState) → sameb the_type s Transferred ≡ is_transferred (view_package_state s)
same-transferred Transferring = refl
same-transferred Transferred = refl
same-transferred Processing = refl
same-transferred Processed = refl

pub same-processing : (s : PackageState) → sameb the_type s Processing ≡ is_being_processed (view_package_state s)
same-processing Transferring = refl
same-processing Transferred = refl
same-processing Processing = refl
same-processing Processed = refl

pub same-processed : (s : PackageState) → sameb the_type s Processed ≡ is_processed (view_package_state s)
same-processed Transferring = refl
same-processed Transferred = refl
same-processed Processing = refl
same-processed Processed = refl

pub same-install : (c : Change) → sameb action.the_type c change.Install ≡ is_install c
same-install change.Install = refl
same-install change.Update = refl
same-install change.Remove = refl

pub same-phase : (p : Phase) → eq-value.it p phase.Processing ≡ model.is_processing (view_phase p)
same-phase phase.Idle = refl
same-phase phase.Ready = refl
same-phase phase.Processing = refl
same-phase phase.Activating = refl
same-phase phase.Verifying = refl
same-phase phase.Activated = refl
same-phase (phase.RollingBack origin) = refl
same-phase phase.RolledBack = refl
same-phase (phase.CleaningUp origin) = refl
