-- The records that are left are told by the words that are left.
use Rattle.std.proofs.Common.{length}
use Rattle.reader.proofs.LoopLaws.{RecordsLeft}
use Rattle.reader.proofs.put_records.Given as goal

abbrev pub invariant-loop-word : goal.invariant-loop-word
invariant-loop-word l = RecordsLeft l.text l.records.items l.left

abbrev pub decreases-loop-word : goal.decreases-loop-word
decreases-loop-word l = length l.left
