-- What is printed of a refusal.
use Rattle.std.proofs.Common.{◌≡◌, sym}
use Rattle.sheet.specs.Ruling.{refused, number_of, place_of}
use Rattle.console.specs.Sheetrun.{input_rules}
use Rattle.console.proofs.LineLaws.{prints_refusal}
use Rattle.console.proofs.sheetrun.Goals as goal

pub returns-in-Err : goal.returns-in-Err
returns-in-Err c =
    let turned : input_rules c.args.input.now ≡ refused (number_of c.in-Err.r) (place_of c.in-Err.r) = sym c.in-Err.ensures.rules in
    prints_refusal _ _ _ turned c.put_refusal.ensures
