-- The first word, or none.
use Rattle.std.proofs.Common.{refl}
use Rattle.reader.proofs.FirstLaws.{front_word}
use Rattle.reader.proofs.word_and_rest.Goals as goal

pub returns : goal.returns
returns c = rw c.unwrap_or.ensures (front_word _ _ refl refl c.next_word.ensures)
