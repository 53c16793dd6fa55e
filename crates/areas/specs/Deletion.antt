-- What a deletion keeps. "DeleteTransfer(id)."; "deletes all Processed packages"
use Rattle.std.specs.Prelude.{Bool, not, cond, List, [], ◌∷◌, eqb, length, take}
use Rattle.model.specs.State as model
use Rattle.model.specs.Areas.{is_processed}
use Rattle.state.specs.declared.package.Package.{Package}
use Rattle.state.specs.declared.transfers.Transfers.{Transfers}
use Rattle.state.specs.View.{view_package}
use Rattle.areas.specs.FirstPlaces.{put_first}
use Rattle.areas.specs.declared.deletion.Deletion.{Deletion}
use Rattle.areas.specs.declared.deletion.Deletion.TheVariants.{WithId, AllProcessed}

-- the packages that each deletion keeps: the definition for each case of the enum
abbrev pub keeps : Deletion → model.Package → Bool
keeps (WithId id) p = not (eqb id p.id)
keeps AllProcessed p = not (is_processed p.state)

-- those that a deletion keeps, in their order
unfoldable pub kept : Deletion → List Package → List Package
kept deletion [] = []
kept deletion (p ∷ ps) = cond (keeps deletion (view_package p)) (p ∷ kept deletion ps) (kept deletion ps)

-- the kept packages at the front
unfoldable pub remaining_transfers : Deletion → Transfers → Transfers
remaining_transfers deletion t =
    let remain = kept deletion (take t.count t.packages) in
    record { packages = put_first remain t.packages; count = length remain; next = t.next }
