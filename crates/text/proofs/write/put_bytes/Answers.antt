-- `text::write::put_bytes` meets its contract: a text copied into a part. Assumes nothing.
use Rattle.text.proofs.PutLaws.{put_copied}
use Rattle.text.proofs.write.put_bytes.Goals as goal

pub returns : goal.returns
returns c = search put_copied
