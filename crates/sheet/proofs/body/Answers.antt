-- Each test of the code is a part of "the rest is 6 times 1 to 512".
use Rattle.std.proofs.Common.{arith}
use Rattle.finite.proofs.Tests.{fails}
use Rattle.sheet.specs.Ruling.{rule}
use Rattle.sheet.specs.Form.{whole_body, body}
use Rattle.sheet.proofs.FormLaws.{body-whole}
use Rattle.sheet.proofs.body.Goals as goal
use Rattle.sheet.proofs.body.Goals.{then-n-lt1-via-then-n-lt1, then-n-lt1-via-else-n-lt1+then-n-gt-NODES, then-n-lt1-via-else-n-lt1+else-n-gt-NODES+then-columns-n}

pub returns-then-n-lt1 : goal.returns-then-n-lt1
unfolding body rule
returns-then-n-lt1 c =
    rw (fails (whole_body c.args.s.now) (λ t.
    let whole = (body-whole _).0 t in
    elim c.then-n-lt1.branch [
      | then-n-lt1-via-then-n-lt1 w ↦ omega arith
      | then-n-lt1-via-else-n-lt1+then-n-gt-NODES w ↦ omega arith
      | then-n-lt1-via-else-n-lt1+else-n-gt-NODES+then-columns-n w ↦ w.if-columns-n.true (omega arith)
    ]))

pub returns : goal.returns
unfolding body rule
returns c = rw ((body-whole c.args.s.now).1 (omega arith, omega arith, omega arith))
