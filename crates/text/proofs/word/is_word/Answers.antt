-- `text::word::is_word` meets its contract: what `check::same` ensures says which answer `same_bytes` gives. Assumes nothing.
use Rattle.text.proofs.WordLaws.{same-bytes-decides}
use Rattle.text.proofs.word.is_word.Goals as goal

pub returns : goal.returns
returns c = search same-bytes-decides
