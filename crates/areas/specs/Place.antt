-- Where packages stand in their list.
use Rattle.std.specs.Prelude.{ℕ, Bool, List, eqb, length, unwrap_or}
use Rattle.std.specs.List.{position_from}
use Rattle.place_in_list.specs.Place.{Found}
use Rattle.model.specs.State.{Package}
use Rattle.model.specs.Areas.{is_being_processed}

-- a package has the id
abbrev pub has_id : ℕ → Package → Bool
has_id id p = eqb id p.id

-- the place of the package with an id
unfoldable pub place_of : ℕ → List Package → Found
place_of id ps = position_from (has_id id) 0 ps

-- a package is Processing
abbrev pub in_processing : Package → Bool
in_processing p = is_being_processed p.state

-- the place of the package whose id the model calls `processing_id`; where no package is processing, the number of packages. "one package
-- is Processing .. exactly in state Processing"
unfoldable pub processing_place : List Package → ℕ
processing_place ps = unwrap_or (position_from in_processing 0 ps) (length ps)
