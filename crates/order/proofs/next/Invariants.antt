-- None of the nodes before node i is ready; the needs of node i before need k are marked.
use Rattle.std.proofs.Common.{◌≡◌, ℕ, ◌<◌, ◌≤◌, false, true, get_or}
use Rattle.table.specs.Order.{ready}
use Rattle.sheet.specs.Bytes.{nodes}
use Rattle.order.specs.Needs.{needs, Given}
use Rattle.order.proofs.FunctionLaws.{mark}
use Rattle.order.proofs.next.Given as goal

abbrev pub invariant-nodes : goal.invariant-nodes
invariant-nodes l = Given l.s l.ends → l.n ≤ nodes l.s → (j : ℕ) → j < l.i → ready (needs l.s) (mark l.placed.marks) j ≡ false

abbrev pub invariant-loop-k : goal.invariant-loop-k
invariant-loop-k l = Given l.s l.ends → l.i < nodes l.s → (j : ℕ) → j < l.k → mark l.placed.marks (get_or (needs l.s l.i) j 0) ≡ true
