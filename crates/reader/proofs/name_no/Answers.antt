-- The first name that the word is, is the lowest.
use Rattle.std.proofs.Common.{◌≡◌, true, false, ◌∙◌, rules, tests}
use Rattle.std.proofs.lemmas.Iterator.{first_from_Range}
use Rattle.finite.proofs.LowestLaws.{lowest_found}
use Rattle.listing.specs.Telling.{named, name_no}
use Rattle.reader.proofs.name_no.Goals as goal

pub returns : goal.returns
unfolding name_no
returns c =
    let word = c.args.word.now in
    c.unwrap_or.ensures
    ∙ lowest_found (λ n. named n word) 0 19 c.find.result
    (first_from_Range _ _ _ c.find.result (λ n. named n word ≡ true) (λ n. named n word ≡ false) c.find.ensures.ran (λ x q k. search (rules, tests)) (λ x q k. search (rules, tests)))
