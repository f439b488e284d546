-- Before node i come slot s i slots, and none of them breaks the rule.
use Rattle.std.proofs.Common.{◌≡◌, ℕ, ◌<◌, ◌≤◌, false}
use Rattle.rules.specs.Slots.{slot}
use Rattle.engine.specs.Rows.{bad_cell}
use Rattle.engine.proofs.test_cells.Given as goal

abbrev pub invariant-loop-i : goal.invariant-loop-i
invariant-loop-i l = (l.j ≤ l.i) × (l.j ≡ slot l.s l.i) × ((k : ℕ) → k < l.j → bad_cell l.s l.cells k ≡ false)
