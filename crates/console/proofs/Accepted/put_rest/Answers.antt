-- The row faults in their order, then the rows.
use Rattle.std.proofs.Common.{ℕ, length, ap, ◌∙◌}
use Rattle.console.specs.Sheetrun.{ticks_by}
use Rattle.console.proofs.AcceptedLaws.{columns_are}
use Rattle.console.proofs.InputLaws.{rest_whole, rest_fits}
use Rattle.console.proofs.Accepted.put_rest.Goals as goal

pub put_ints-requires-clause-rest_len : goal.put_ints-requires-clause-rest_len
put_ints-requires-clause-rest_len c =
    let a = c.args.self in
    let h = c.broken_rows.ensures in
    let l = c.if-ticks-gt-ROWS.false in
    (rest_whole a _ h c.if-broken_rows.false c.ticks_in-ticks.ensures, l, rest_fits a _ h c.if-broken_rows.false c.ticks_in-ticks.ensures l)

pub returns-clause-text : goal.returns-clause-text
returns-clause-text c =
    rw (c.ticks_in-ticks.ensures ∙ ap (λ (n : ℕ). ticks_by n (length c.args.rest.now)) (columns_are c.args.self)) at c.put_ints.ensures.text
