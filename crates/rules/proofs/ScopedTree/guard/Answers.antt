-- The FBYs count.
use Rattle.std.proofs.Common.{rules, true}
use Rattle.rules.specs.Scope.{counted}
use Rattle.rules.proofs.ScopedTree.guard.Goals as goal

pub ruled-requires-clause-callable : goal.ruled-requires-clause-callable
unfolding counted
ruled-requires-clause-callable c i h _ _ _ _ _ = (c.fill_overs.ensures true (λ j b u p. search rules), h)
