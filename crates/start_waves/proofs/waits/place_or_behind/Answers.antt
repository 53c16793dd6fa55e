-- `start_waves::waits::place_or_behind` meets its contract. Assumes nothing.
use mathlib.Core.Path.{ap, ◌∙◌}
use Rattle.std.specs.Prelude.{unwrap_or}
use Rattle.place_in_list.specs.Place.{Found}
use Rattle.clusters.specs.Table.{clusters_most}
use Rattle.start_waves.proofs.waits.place_or_behind.Goals as goal

pub returns : goal.returns
returns c = c.unwrap_or.ensures ∙ ap (λ (r : Found). unwrap_or r clusters_most) c.place_of.ensures
