-- The refusals of a call by their numbers, and what a check answers by the number that it refuses with.
use Rattle.std.specs.Prelude.{ℕ, Result, Ok, Err}
use Rattle.std.proofs.Math.Option.{Option, none, some}
use Rattle.refusal.specs.declared.Refusal.{Refusal}
use Rattle.refusal.specs.declared.Refusal.TheVariants.{BadState, ServiceBusy, OperationNotPermitted, InvalidTransferId, WrongPackageState, IncorrectBlock, IncorrectSize, InsufficientData, InvalidManifest, PackageInconsistent, ClusterTouched, ClusterPresent, ClusterAbsent, Stays, OldVersion, TableFull, TransfersFull, InsufficientMemory, IdsSpent, BadLoad}

-- "1. BadState" to "20. BadLoad", and A.2: "21 Stays, directly after 13"
abbrev pub number_of : Refusal → ℕ
number_of BadState = 1
number_of ServiceBusy = 2
number_of OperationNotPermitted = 3
number_of InvalidTransferId = 4
number_of WrongPackageState = 5
number_of IncorrectBlock = 6
number_of IncorrectSize = 7
number_of InsufficientData = 8
number_of InvalidManifest = 9
number_of PackageInconsistent = 10
number_of ClusterTouched = 11
number_of ClusterPresent = 12
number_of ClusterAbsent = 13
number_of Stays = 21
number_of OldVersion = 14
number_of TableFull = 15
number_of TransfersFull = 16
number_of InsufficientMemory = 17
number_of IdsSpent = 18
number_of BadLoad = 20

-- "a refusal is the number alone": the number that a check refuses with; none where it passes
abbrev pub refused_with : {A : Type 0} → Result A Refusal → Option ℕ
refused_with (Ok value) = none
refused_with (Err refusal) = some (number_of refusal)
