-- After i nodes, each FBY among them has in its cell what is given for it.
use Rattle.engine.proofs.FillLaws.{Filled}
use Rattle.engine.proofs.fill.Given as goal

abbrev pub invariant-loop-i : goal.invariant-loop-i
invariant-loop-i g l = Filled l.s (goal.F-post g l.given) l.fn.cells l.cells l.j l.i
