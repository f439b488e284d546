-- The records left fall, so reading ends; the operands read lead to where the next one starts.
use Rattle.std.proofs.Common.{◌≡◌, ◌+◌, ◌-◌, ◌<◌, ◌≤◌}
use Rattle.sheet.specs.Prefix.{times, end}
use Rattle.sheet.specs.Bytes.{arity_at}
use Rattle.sheet.proofs.+expression.Given as goal

-- the records left
abbrev pub decreases-expression : goal.decreases-expression
decreases-expression l = l.n - l.at

abbrev pub invariant-loop : goal.invariant-loop
invariant-loop l = (l.at < l.next) × (l.next ≤ l.n) × (l.next ≡ times l.counter (end (arity_at l.s) l.n) (l.at + 1))
