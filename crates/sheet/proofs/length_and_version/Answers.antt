-- Each test of the code is a test of the rule.
use Rattle.std.proofs.Common.{length, arith, lt-ltb, le-ltb, ne_eqb, eq-eqb}
use Rattle.sheet.specs.Ruling.{rule, ◌then◌}
use Rattle.sheet.specs.Bytes.{stated}
use Rattle.sheet.specs.Form.{length_version}
use Rattle.sheet.proofs.length_and_version.Goals as goal
use Rattle.sheet.proofs.length_and_version.Goals.{then-s-lt4-via-then-s-lt4, then-s-lt4-via-else-s-lt4+then-from-s}

pub returns-then-s-lt4 : goal.returns-then-s-lt4
unfolding length_version rule ◌then◌
returns-then-s-lt4 c =
    let s = c.args.s.now in
    elim c.then-s-lt4.branch [
      | then-s-lt4-via-then-s-lt4 w ↦ simp (lt-ltb _ _ w.if-s-lt4.true)
      | then-s-lt4-via-else-s-lt4+then-from-s w ↦ simp (le-ltb _ _ w.if-s-lt4.false, ne_eqb (stated s) (length s) (λ e. w.if-from-s.true (omega arith)))
    ]

pub returns-then-byte-ne1 : goal.returns-then-byte-ne1
unfolding length_version rule ◌then◌
returns-then-byte-ne1 c =
    let s = c.args.s.now in
    simp (le-ltb _ _ c.if-s-lt4.false, eq-eqb (stated s) (length s) (omega arith), ← c.byte-3.ensures, ne_eqb _ _ c.if-byte-ne1.true)

pub returns : goal.returns
unfolding length_version rule ◌then◌
returns c =
    let s = c.args.s.now in
    simp (le-ltb _ _ c.if-s-lt4.false, eq-eqb (stated s) (length s) (omega arith), ← c.byte-3.ensures, eq-eqb _ _ c.if-byte-ne1.false)
