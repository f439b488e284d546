-- Operands come first, left to right, so that a node's type goes by types that the table has.
use Rattle.std.proofs.Common.{◌≡◌, ◌+◌, ◌-◌}
use Rattle.sheet.specs.Bytes.{nodes, operand}
use Rattle.rules.specs.Types.{Settled}
use Rattle.rules.proofs.ScopedTree.+settle.Given as goal

-- the nodes left
abbrev pub decreases-settle : goal.decreases-settle
decreases-settle l = nodes l.self.tree.s.now - l.i.0

abbrev pub invariant-loop : goal.invariant-loop
invariant-loop l =
    let s = l.self.tree.s.now in
    (l.next.0 ≡ operand s l.i.0 l.counter) × Settled s (l.i.0 + 1) l.next.0 l.fn.table l.table
