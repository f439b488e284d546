-- The type bytes that are left are told by the words that are left.
use Rattle.reader.proofs.LoopLaws.{TypesLeft}
use Rattle.reader.proofs.types.Given as goal

abbrev pub invariant-loop : goal.invariant-loop
invariant-loop l = TypesLeft l.text l.types.items l.left l.counter
