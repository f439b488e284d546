-- What is read at what order's `need` answers is that need's value.
use Rattle.std.proofs.Common.{ap, ◌∙◌, pos}
use Rattle.number.proofs.Bridge.{back_ok}
use Rattle.table.specs.Equations.{at}
use Rattle.engine.proofs.FunctionLaws.{given}
use Rattle.engine.proofs.Accepted.need.Goals as goal

pub returns : goal.returns
returns c =
    let a = c.args in
    λ l. back_ok c.entry.type_inv ∙ c.entry.ensures.2 ∙ ap (at (pos 0) a.values.now) (c.entry.ensures.1 ∙ c.need.ensures (given a.self) c.requires l)
