-- Rule 8 holds.
use Rattle.std.proofs.Common.{sym}
use Rattle.rules.proofs.CheckLaws.{scope-passed}
use Rattle.rules.proofs.Tree.tree_rules.Goals as goal

pub invariant_of-types_and_guard : goal.invariant_of-types_and_guard
invariant_of-types_and_guard c = record { scoped = (scope-passed _).0 (sym c.in_ok-scope.ensures) }
