-- `cluster_list_writer::put::put_pair` meets its contract: each part put behind the one before, with its room. Assumes nothing.
use native.Mathlib.Omega.{arith}
use mathlib.Core.List.{[], ◌∷◌}
use Rattle.base.specs.Quoted.{comma}
use Rattle.text.specs.Digits.{digits}
use Rattle.text.specs.Version.{version_text}
use Rattle.text.proofs.PutPair.{Pair, room-first-part, room-between, room-second-part, room-behind, pair_put}
use Rattle.cluster_list_writer.specs.Fields.{fields_text}
use Rattle.cluster_list_writer.proofs.Texts.{pair_of}
use Rattle.cluster_list_writer.proofs.put.put_pair.Goals.{Start}
use Rattle.cluster_list_writer.proofs.put.put_pair.Goals as goal

pair : (c : Start) → (let part = digits c.args.part in let version = version_text c.args.version in
    Pair (fields_text (part ∷ version ∷ [])) part comma version comma)
pair c = pair_of (digits c.args.part) (version_text c.args.version)

pub put_number-behind_part-requires : goal.put_number-behind_part-requires
put_number-behind_part-requires c = search (room-first-part (pair (goal.at.put_number-behind_part-requires c).Start))

pub bounds-buf-behind_part : goal.bounds-buf-behind_part
bounds-buf-behind_part c = search (room-between (pair (goal.at.bounds-buf-behind_part c).Start))

pub put_version-behind_version-requires : goal.put_version-behind_version-requires
put_version-behind_version-requires c = search (room-second-part (pair (goal.at.put_version-behind_version-requires c).Start))

pub bounds-buf-behind_version : goal.bounds-buf-behind_version
bounds-buf-behind_version c = search (room-behind (pair (goal.at.bounds-buf-behind_version c).Start))

pub returns : goal.returns
returns c = search (pair_put (pair (goal.at.returns c).Start))

-- each text that is put ends within the buffer, so the place behind it fits
pub overflow_add-behind_part : goal.overflow_add-behind_part
overflow_add-behind_part c =
    let texts = pair (goal.at.overflow_add-behind_part c).Start in
    omega (arith, room-between texts _ _ c.requires _ _ c.put_number-behind_part.ensures)

pub overflow_add-result : goal.overflow_add-result
overflow_add-result c =
    let texts = pair (goal.at.overflow_add-result c).Start in
    let put = pair_put texts _ _ c.requires _ _ c.put_number-behind_part.ensures _ _ c.put_version-behind_version.ensures in
    omega (arith, put.behind)
