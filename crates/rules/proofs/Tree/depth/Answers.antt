-- Each node counts.
use Rattle.std.proofs.Common.{rules, false}
use Rattle.rules.specs.Scope.{counted}
use Rattle.rules.proofs.Tree.depth.Goals as goal

pub ruled-requires-clause-callable : goal.ruled-requires-clause-callable
unfolding counted
ruled-requires-clause-callable c i h _ _ _ _ _ = (c.fill_overs.ensures false (λ j b u p. search rules), h)
