-- `exchange::sheetlist` meets its contract: the writer's refusal, or its listing and a line feed.
use Rattle.std.proofs.Common.{◌++◌, arith}
use Rattle.text.specs.Text.{feed}
use Rattle.listing.specs.Listing.{listing}
use Rattle.listing.specs.Answers.{writer_rules}
use Rattle.exchange.specs.Exchange.{sheetlist}
use Rattle.exchange.proofs.ExchangeLaws.{prints_refusal, prints_result, listing-short}
use Rattle.exchange.proofs.sheetlist.Goals as goal

pub returns-in-Ok : goal.returns-in-Ok
unfolding writer_rules sheetlist
returns-in-Ok c =
    let s = c.args.input.now in
    prints_result (listing-short s (λ at. omega (arith, c.type_inv.input at))) c.in-Ok.ensures c.put.ensures (omega arith)

pub returns-in-Err : goal.returns-in-Err
unfolding writer_rules sheetlist
returns-in-Err c =
    let s = c.args.input.now in
    prints_refusal (listing-short s (λ at. omega (arith, c.type_inv.input at))) c.in-Err.ensures c.put_refusal.ensures (listing s ++ feed)
