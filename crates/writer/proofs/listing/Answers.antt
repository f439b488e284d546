-- The listing, in room for any.
use Rattle.std.proofs.Common.{sym, arith}
use Rattle.sheet.proofs.FormLaws.{form_iff}
use Rattle.writer.proofs.WriterLaws.{own_listing}
use Rattle.writer.proofs.listing.Goals as goal

pub put_listing-requires : goal.put_listing-requires
put_listing-requires c = (omega arith, (form_iff _).0 (sym c.in_ok-form.ensures))

pub returns-clause-text : goal.returns-clause-text
returns-clause-text c =
    own_listing (λ at. omega (arith, c.type_inv.s at)) ((form_iff _).0 (sym c.in_ok-form.ensures)) c.new-out.ensures c.put_listing.ensures
