-- Each test of the code is a test of the rule.
use Rattle.std.proofs.Common.{lt-ltb, le-ltb}
use Rattle.sheet.specs.Ruling.{rule, ◌then◌}
use Rattle.sheet.specs.Form.{column_types}
use Rattle.sheet.proofs.column_types.Goals as goal
use Rattle.sheet.proofs.column_types.Goals.{then-columns-gt-COLUMNS-via-then-columns-gt-COLUMNS, then-columns-gt-COLUMNS-via-else-columns-gt-COLUMNS+then-s-columns}

pub returns-then-columns-gt-COLUMNS : goal.returns-then-columns-gt-COLUMNS
unfolding column_types rule ◌then◌
returns-then-columns-gt-COLUMNS c =
    elim c.then-columns-gt-COLUMNS.branch [
      | then-columns-gt-COLUMNS-via-then-columns-gt-COLUMNS w ↦ simp (← c.columns-columns.ensures.0, lt-ltb _ _ w.if-columns-gt-COLUMNS.true)
      | then-columns-gt-COLUMNS-via-else-columns-gt-COLUMNS+then-s-columns w ↦
          simp (← c.columns-columns.ensures.0, le-ltb _ _ w.if-columns-gt-COLUMNS.false, lt-ltb _ _ w.if-s-columns.true)
    ]

pub returns : goal.returns
unfolding column_types rule ◌then◌
returns c =
    simp (← c.columns-columns.ensures.0, le-ltb _ _ c.if-columns-gt-COLUMNS.false, le-ltb _ _ c.if-s-columns.false) (rw c.columns-columns.ensures.0 c.type_bytes.ensures)
