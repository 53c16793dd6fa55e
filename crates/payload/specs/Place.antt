-- Where the payload's part of the store lies.
use Rattle.std.specs.Prelude.{ℕ, ◌+◌}
use Rattle.std.proofs.Math.Option.{Option, none, some}
use Rattle.base.specs.Refusals.{first_refusal}
use Rattle.model.specs.State.{State, Store}
use Rattle.model.specs.Areas.{area_start}
use Rattle.model.specs.Step.{area_read, manifest_of}
use Rattle.model.specs.Reading.{further_payload_refusals, payload_refusals}
use Rattle.payload.specs.declared.place.PayloadPlace.{PayloadPlace}

-- "empty when refused": the empty part at the store's start
abbrev pub no_place : PayloadPlace
no_place = record { start = 0; count = 0 }

module _ (s : State) (store : Store) (id : ℕ) where
  -- the payload's start within its area, behind the areas before it
  abbrev pub place_in_store : PayloadPlace
  place_in_store =
      let m = manifest_of (area_read s store id) in
      record { start = area_start id s.transfers.packages + m.start; count = m.count }

  abbrev pub place_unless : Option ℕ → PayloadPlace
  place_unless (some number) = no_place
  place_unless none = place_in_store

  unfoldable pub place : PayloadPlace
  place = place_unless (first_refusal (payload_refusals s store id))

  -- the same after refusal 1, of a sound state
  unfoldable pub place_on_sound : PayloadPlace
  place_on_sound = place_unless (first_refusal (further_payload_refusals s store id))
