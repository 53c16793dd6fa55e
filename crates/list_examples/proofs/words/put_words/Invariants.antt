-- `list_examples::words::put_words` meets its contract. The invariant: no more words were put than the slice has room for. Assumes nothing.
use Rattle.std.proofs.Common.{◌≤◌, length}
use Rattle.list_examples.proofs.words.put_words.Given as goal

abbrev pub invariant-loop-word : goal.invariant-loop-word
invariant-loop-word l =
    (goal.iterator-loop-word).can_next l.word-iterator
    × (goal.iterator-loop-word).is_finite l.word-iterator
    × (l.count ≤ length l.words)
