-- Where the first expression ends is the rule's place.
use Rattle.std.proofs.Common.{◌≡◌, ◌+◌, min, arith, ne_eqb, eq-eqb}
use Rattle.sheet.specs.Ruling.{rule}
use Rattle.sheet.specs.Bytes.{end_of}
use Rattle.sheet.specs.Form.{shape}
use Rattle.sheet.proofs.shape.Goals as goal

pub returns-in-None : goal.returns-in-None
unfolding shape rule end_of
returns-in-None c =
    let n = c.nodes-n.result in
    let place : min (n + 1) n ≡ n = omega arith in
    simp (← c.nodes-n.ensures, ← c.in-None.ensures.end, ne_eqb (n + 1) n (omega arith), place)

pub returns-in-Some : goal.returns-in-Some
unfolding shape rule end_of
returns-in-Some c =
    let k = c.in-Some.k in
    let n = c.nodes-n.result in
    let place : min k n ≡ k = omega arith in
    simp (← c.nodes-n.ensures, ← c.in-Some.ensures.end, ne_eqb k n (omega arith), place)

pub returns-in-Some-2 : goal.returns-in-Some-2
unfolding shape rule end_of
returns-in-Some-2 c =
    simp (← c.nodes-n.ensures, ← c.in-Some.ensures.end, eq-eqb c.in-Some.k c.nodes-n.result (omega (arith, c.in-Some.ensures.within)))
