-- The input's rules in their order.
use Rattle.std.proofs.Common.{sym}
use Rattle.sheet.specs.Ruling.{passes}
use Rattle.rules.specs.Check.{sheet}
use Rattle.rules.proofs.CheckLaws.{rules_exactly, check_exactly}
use Rattle.console.specs.Sheetrun.{rows_in, ticks}
use Rattle.console.proofs.put_accepted.Goals as goal

pub invariant_of-accepted : goal.invariant_of-accepted
unfolding passes sheet
invariant_of-accepted c =
    let k = (check_exactly _ _).0 (sym c.in_ok-sheet.ensures) in
    let own = sym k.1 in
    record {
      passes = rw ((rules_exactly _).1 k.0);
      answered = own;
      few_nodes = rw own k.0.formed.few;
      few_columns = rw own k.0.formed.narrow;
      few_slots = rw own k.0.few;
    }

pub returns-clause-text : goal.returns-clause-text
unfolding rows_in ticks
returns-clause-text c = rw (← c.cut.ensures.sheet, ← c.cut.ensures.rest) c.put_rest.ensures.text
