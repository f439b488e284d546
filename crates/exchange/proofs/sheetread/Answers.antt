-- `exchange::sheetread` meets its contract: the reader's refusal, or the sheet it told, of the input without its line feed.
use Rattle.std.proofs.Common.{arith, append-nil}
use Rattle.text.proofs.LentLaws.{append_none}
use Rattle.listing.specs.Telling.{sheet_told}
use Rattle.listing.specs.Answers.{reader_rules}
use Rattle.exchange.specs.Exchange.{text_in, sheetread}
use Rattle.exchange.proofs.ExchangeLaws.{prints_refusal, prints_result, told-short}
use Rattle.exchange.proofs.sheetread.Goals as goal

pub returns-in-Ok : goal.returns-in-Ok
unfolding reader_rules sheetread
returns-in-Ok c =
    let t = text_in c.args.input.now in
    rw (append-nil (sheet_told t)) at
    (prints_result (told-short t) (rw c.text_in.ensures at c.in-Ok.ensures) (append_none _ _) (omega arith))

pub returns-in-Err : goal.returns-in-Err
unfolding reader_rules sheetread
returns-in-Err c =
    let t = text_in c.args.input.now in
    prints_refusal (told-short t) (rw c.text_in.ensures at c.in-Err.ensures) c.put_refusal.ensures (sheet_told t)
