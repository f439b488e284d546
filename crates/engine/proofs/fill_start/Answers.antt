-- Literals are given.
use Rattle.std.proofs.Common.{rules}
use Rattle.meaning.specs.Equations.{literal}
use Rattle.meaning.specs.Cells.{start_cells}
use Rattle.engine.proofs.fill_start.Goals as goal

pub returns : goal.returns
unfolding start_cells
returns c = c.fill.ensures (literal c.args.s.now) (λ i l f v p. search rules)
