-- Whether the listing, made in room for any, is the text.
use Rattle.std.proofs.Common.{◌≡◌, refl, ◌∙◌, arith, rules}
use Rattle.sheet.specs.Ruling.{passed, passes}
use Rattle.sheet.specs.Form.{form}
use Rattle.sheet.proofs.FormLaws.{form_iff}
use Rattle.listing.specs.Answers.{lists}
use Rattle.writer.proofs.WriterLaws.{own_listing}
use Rattle.writer.proofs.lists.Goals as goal

pub put_listing-requires : goal.put_listing-requires
put_listing-requires c =
    let formed : form c.args.s.now ≡ passed = search rules in
    (omega arith, (form_iff _).0 formed)

pub returns : goal.returns
unfolding lists passes
returns c =
    let formed : form c.args.s.now ≡ passed = search rules in
    let own = own_listing (λ at. omega (arith, c.type_inv.s at)) ((form_iff _).0 formed) c.new-own.ensures c.put_listing.ensures in
    rw formed (c.eq.ensures ∙ rw (c.as_slice.ensures.value, own) refl)
