-- A right order worked solves the tick's equations; after that each FBY's cell gets its operand's value.
use Rattle.std.proofs.Common.{arith}
use Rattle.rules.proofs.CheckLaws.{scoped_of}
use Rattle.meaning.specs.Cells.{held}
use Rattle.meaning.proofs.MeaningLaws.{work_solves}
use Rattle.engine.proofs.FunctionLaws.{given}
use Rattle.engine.proofs.Accepted.step.Goals as goal

pub returns : goal.returns
returns c =
    let p = c.requires in
    let a = c.args in
    let s = a.self.s.now in
    record {
      size = omega arith;
      values =
          rw c.work_nodes.ensures
          (work_solves s (scoped_of (given a.self).sound) a.row.now (held s a.cells.now) a.order.now p.right_order a.values.now p.values_len);
      cells = c.store.ensures;
    }
