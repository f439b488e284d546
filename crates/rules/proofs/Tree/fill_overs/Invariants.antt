-- A node's number is its parent's, and one more where the parent counts; it is there before the node is reached.
use Rattle.std.proofs.Common.{Bool}
use Rattle.rules.specs.Scope.{counted, Tests}
use Rattle.rules.proofs.FunctionLaws.{Reached, Small, Over}
use Rattle.rules.proofs.Tree.fill_overs.Given as goal

abbrev pub invariant-loop-i : goal.invariant-loop-i
invariant-loop-i g l =
    let s = l.self.s.now in
    Reached s Small l.i l.table × ((d : Bool) → Tests s (goal.F-post g l.counts) (counted s d) → Reached s (Over s (counted s d)) l.i l.table)
