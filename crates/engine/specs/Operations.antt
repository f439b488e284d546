-- The operations Start, Tick and Run of document 01: their rules, their answers, and the end contents of every lent slice.
use Rattle.std.specs.Prelude.{ℕ, ◌*◌, ◌≡◌, true, List, ltb, ℤ, pos, length, Result, Ok}
use Rattle.finite.specs.Lists.{gather}
use Rattle.table.specs.Equations.{at}
use Rattle.sheet.specs.Ruling.{Ruling, passed, refused, rule, lent, lent_place, ◌then◌, told, said, at_end, turned, answer}
use Rattle.sheet.specs.Bytes.{nodes, columns}
use Rattle.sheet.specs.declared.Lent.TheVariants.{Rows, Cells, Order, Values, Outputs}
use Rattle.sheet.specs.declared.Refusal.{Refusal}
use Rattle.rules.specs.Slots.{slots}
use Rattle.rules.specs.Check.{rules}
use Rattle.order.specs.Orders.{ordered}
use Rattle.meaning.specs.Equations.{Solves, Means}
use Rattle.meaning.specs.Verdicts.{failures, lowest_failing, failing_ticks}
use Rattle.meaning.specs.Cells.{start_cells, next_cells, held}
use Rattle.engine.specs.Rows.{row_rule, cell_rule, row_at}
use Rattle.engine.specs.declared.Answer.{Answer}

-- "256 rows in one run"
abbrev pub max_rows : ℕ
max_rows = 256

-- START

unfoldable pub start_rules : List ℕ → (size : ℕ) → Ruling
start_rules s size = rules s then lent Cells size (slots s)

pub record Start (s : List ℕ) (old : List ℤ) (r : Result (Unit {0}) Refusal) (new : List ℤ) : Type 0 where
  pub answer : told r ≡ start_rules s (length old)
  pub cells : new ≡ at_end (start_rules s (length old)) (start_cells s) old

-- TICK

-- the four slices of a tick, by their lengths
unfoldable pub lent_rules : List ℕ → (row cells order values : ℕ) → Ruling
lent_rules s row cells order values =
    lent Rows row (columns s) then lent Cells cells (slots s) then lent Order order (nodes s) then lent Values values (nodes s)

-- rules 12 to 15 of a tick, and all of its rules
unfoldable pub tick_tests : List ℕ → (row cells : List ℤ) → (order : List ℕ) → (values : ℕ) → Ruling
tick_tests s row cells order values =
    lent_rules s (length row) (length cells) (length order) values then row_rule s row then cell_rule s cells then ordered s order

unfoldable pub tick_rules : List ℕ → (row cells : List ℤ) → (order : List ℕ) → (values : ℕ) → Ruling
tick_rules s row cells order values = rules s then tick_tests s row cells order values

-- "answers the root's value and verdicts", from a tick's values
unfoldable pub answer_of : List ℕ → (v : ℕ → ℤ) → Answer
answer_of s v = record { root = v 0; failures = failures s v; lowest = lowest_failing s v }

-- the slices after a tick: the values of the rules with each FBY's value read from its slot, and the cells replaced
pub record Worked (s : List ℕ) (row before cells' values' : List ℤ) : Type 0 where
  pub size : length values' ≡ nodes s
  pub values : Solves s row (held s before) (at (pos 0) values')
  pub cells : cells' ≡ next_cells s (at (pos 0) values')

abbrev pub TickLeft : Ruling → (s : List ℕ) (row cells values cells' values' : List ℤ) → Type 0
TickLeft passed s row cells values cells' values' = Worked s row cells cells' values'
TickLeft (refused number place) s row cells values cells' values' = (cells' ≡ cells) × (values' ≡ values)

pub record Tick (s : List ℕ) (row cells : List ℤ) (order : List ℕ) (values : List ℤ) (r : Result Answer Refusal) (cells' values' : List ℤ) : Type 0 where
  pub answer : said r ≡ answer (tick_rules s row cells order (length values)) (answer_of s (at (pos 0) values'))
  pub left : TickLeft (tick_rules s row cells order (length values)) s row cells values cells' values'

-- RUN

-- rules 12 and 13 of a run ("outputs at most 256 and rows T times C"), and all of its rules
unfoldable pub run_tests : List ℕ → (rows : List ℤ) → (T : ℕ) → Ruling
run_tests s rows T = lent Rows (length rows) (T * columns s) then rule (ltb max_rows T) 12 (lent_place Outputs) then row_rule s rows

unfoldable pub run_rules : List ℕ → (rows : List ℤ) → (T : ℕ) → Ruling
run_rules s rows T = rules s then run_tests s rows T

-- the end of a run that no rule refuses: whatever values meet the equations (of a sound sheet exactly one set does: `meaning` in proofs/Demands),
-- their failing ticks are counted, and their roots are the outputs
pub record WorkedAll (s : List ℕ) (rows : List ℤ) (T : ℕ) (r : Result ℕ Refusal) (new : List ℤ) : Type 0 where
  pub answer : (X : ℕ → ℕ → ℤ) → Means s (row_at s rows) X → r ≡ Ok (failing_ticks s X T)
  pub outputs : (X : ℕ → ℕ → ℤ) → Means s (row_at s rows) X → new ≡ gather (λ t. true) (λ t. X t 0) T

-- a refusal names no values: a refused sheet may have none that meet the equations
abbrev pub RunLeft : Ruling → (s : List ℕ) (rows old : List ℤ) (r : Result ℕ Refusal) (new : List ℤ) → Type 0
RunLeft passed s rows old r new = WorkedAll s rows (length old) r new
RunLeft (refused number place) s rows old r new = (said r ≡ turned number place) × (new ≡ old)

pub record Run (s : List ℕ) (rows old : List ℤ) (r : Result ℕ Refusal) (new : List ℤ) : Type 0 where
  pub left : RunLeft (run_rules s rows (length old)) s rows old r new
