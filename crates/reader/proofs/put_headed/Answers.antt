-- The head, the type bytes and the records fit.
use Rattle.std.proofs.Common.{◌≡◌, suc, ◌+◌, ◌/◌, ◌%◌, ◌≤◌, ◌++◌, length, get_or, arith, rules, length-append}
use Rattle.sheet.specs.Ceilings.{max_sheet}
use Rattle.text.proofs.TextLaws.{append_then, append_first}
use Rattle.listing.specs.Telling.{headed}
use Rattle.reader.proofs.put_headed.Goals as goal

pub returns : goal.returns
unfolding headed
returns c =
    let types = c.args.types.now in
    let records = c.args.records.now in
    let high : get_or c.to_be_bytes.result 0 0 ≡ (4 + length types + length records) / 256 = search rules in
    let low : get_or c.to_be_bytes.result 1 0 ≡ (4 + length types + length records) % 256 = search rules in
    let fits : suc (suc (suc (suc (length (types ++ records))))) ≤ max_sheet = omega (arith, c.requires.few, length-append types records) in
    rw (← high, ← low) (append_first c.requires.empty (append_then c.put.ensures (append_then c.put-2.ensures c.put-3.ensures)) fits)
