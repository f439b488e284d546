-- The first byte that does not part starts the word, and the next that parts ends it.
use Rattle.std.proofs.Common.{◌≡◌, ◌-◌, length, take, drop, Some, None, ◌∙◌, arith, length-drop, rules, tests}
use Rattle.std.proofs.Math.Seq.{take_all}
use Rattle.std.proofs.lemmas.Iterator.{YieldsList-from_slice}
use Rattle.std.proofs.lemmas.Iterator.Search.{position_from_yields_List}
use Rattle.std.proofs.lemmas.List.Sums.{prefix_len-le-length}
use Rattle.listing.specs.Telling.{parts}
use Rattle.listing.proofs.SplitLaws.{apart}
use Rattle.reader.proofs.FirstLaws.{position_some, position_none, position_or, first_none, first_some}
use Rattle.reader.proofs.next_word.Goals as goal

pub returns-in_err-from : goal.returns-in_err-from
returns-in_err-from c =
    let found =
    position_from_yields_List apart _ _ c.position.result c.position.ensures.ran (YieldsList-from_slice _ c.iter.ensures.rest) (λ x b q k. search (rules, tests)) in
    let none : c.from_residual.result ≡ None = search rules in
    rw none (first_none _ (position_none found (search rules)))

pub returns : goal.returns
returns c =
    let text = c.args.text.now in
    let from = c.in_ok-from.from in
    let found =
    position_from_yields_List apart _ _ c.position.result c.position.ensures.ran (YieldsList-from_slice _ c.iter.ensures.rest) (λ x b q k. search (rules, tests)) in
    let is : c.position.result ≡ Some from = search rules in
    let start = position_some found is in
    let whole : take (length text - from) (drop from text) ≡ drop from text = take_all _ (drop from text) (omega (arith, length-drop from text)) in
    let parting =
    rw whole at
    (position_from_yields_List parts _ _ c.position-2.result c.position-2.ensures.ran (YieldsList-from_slice _ c.iter-2.ensures.rest) (λ x b q k. search (rules, tests))) in
    let end = rw whole at c.unwrap_or-to.ensures in
    rw (c.split_at.ensures.front, c.split_at.ensures.back, whole)
    (first_some text start.0 start.1 (end ∙ position_or parting (prefix_len-le-length _ (drop from text))))
