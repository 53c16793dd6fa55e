-- `text::write::put_version` meets its contract: four texts put one behind the other. Assumes nothing.
use Rattle.text.specs.Version.{version_text}
use Rattle.text.proofs.PutLaws.{put_then}
use Rattle.text.proofs.write.put_version.Goals as goal

pub returns : goal.returns
unfolding version_text
returns c = search put_then
