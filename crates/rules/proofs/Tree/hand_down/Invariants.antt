-- One more operand in each turn; no two operands of a node are one.
use Rattle.rules.specs.Scope.{HandedDown}
use Rattle.rules.proofs.Tree.hand_down.Given as goal

abbrev pub invariant-loop-k : goal.invariant-loop-k
invariant-loop-k l = HandedDown l.self.s.now l.i.0 l.k l.over l.fn.table l.table
