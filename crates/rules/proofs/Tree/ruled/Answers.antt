-- The first node that breaks the rule is the place.
use Rattle.std.proofs.Common.{sym, ◌∙◌, arith}
use mathlib.Core.Path.{ap₂}
use Rattle.sheet.specs.Ruling.{refused}
use Rattle.sheet.proofs.RulingLaws.{each_refused}
use Rattle.rules.proofs.Tree.ruled.Goals as goal

pub returns-then-breaks : goal.returns-then-breaks
returns-then-breaks g c =
    let hit = sym (c.requires.tests _ _ (omega arith) c.breaks.ensures) ∙ c.if-breaks.true in
    ap₂ refused c.refusal.ensures.0 c.refusal.ensures.1 ∙ each_refused _ _ _ _ c.loop-i.i (omega arith) (omega arith) hit c.loop-i.invariant
