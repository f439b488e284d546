-- A turn puts a type byte, and the loop ends after the most, or at a word that is no type.
use Rattle.std.proofs.Common.{◌≡◌, ◌-◌, sym, ◌∙◌, refl, arith}
use Rattle.std.proofs.lemmas.Option.{cond_some}
use Rattle.sheet.specs.Ceilings.{max_columns}
use Rattle.listing.specs.Telling.{types_told}
use Rattle.listing.proofs.TellingLaws.{types-end}
use Rattle.reader.proofs.LoopLaws.{no_type, types_step, types_all}
use Rattle.reader.proofs.types.Goals as goal
use Rattle.reader.proofs.types.Goals.{else-loop-test, then-loop-test+in_default}

pub loop-preserved : goal.loop-preserved
loop-preserved c =
    let is = cond_some _ _ _ (sym c.type_told.ensures ∙ c.in-Some.is) in
    rw (c.push.ensures.items, ← is.1) (types_step c.loop.invariant c.loop-test.true c.word_and_rest-in-loop.ensures is.0)

pub returns : goal.returns
unfolding types_told
returns c =
    types_all c.loop.invariant
    (elim c.loop-test.branch [
      | else-loop-test w ↦ let none : max_columns - c.loop.counter ≡ 0 = omega (arith, w.loop-test.false) in rw none refl
      | then-loop-test+in_default w ↦
          let front = w.word_and_rest-in-loop.ensures in
          types-end _ _ (rw front.word_is at (no_type _ w.type_told.ensures w.in_default.not-Some))
    ])
