-- The demands, as theorems about whatever the contracts of House order, Start, Tick and Run allow. That Check accepts exactly the sheets of
-- which document 01's rules hold is `check_exactly` of rules, and that each of them has an order of work is `order_exists` of order.
use Prim.Native.Nat.{ℕ, zero, suc, ◌≤◌, ◌<◌}
use mathlib.Core.Path.{◌≡◌, sym, ap, ◌∙◌}
use mathlib.Core.Logic.{◌↔◌}
use mathlib.Core.Bool.{true, not}
use mathlib.Core.List.{List}
use native.Mathlib.Numerals.{add-one}
use native.Mathlib.Omega.{arith}
use Rattle.std.proofs.Common.{Result, Ok, Err}
use lib.IntN.{ℤ, pos}
use lib.ListN.{length, get_or}
use lib.Seq.{ext_get_or}
use Rattle.finite.specs.Lists.{gather}
use Rattle.table.specs.Equations.{at}
use Rattle.sheet.specs.Ruling.{Ruling, passed, refused, told, said, at_end, turned, answer, number_of, place_of}
use Rattle.sheet.specs.Bytes.{nodes, columns}
use Rattle.sheet.specs.Form.{Formed}
use Rattle.sheet.specs.declared.Refusal.{Refusal}
use Rattle.sheet.proofs.RulingLaws.{answer-accepted, answer-turned, one_said, one_answer}
use Rattle.rules.specs.Types.{mistyped}
use Rattle.rules.specs.Slots.{slots}
use Rattle.rules.specs.Check.{Sound}
use Rattle.rules.proofs.TypeLaws.{type_at-is}
use Rattle.rules.proofs.CheckLaws.{scoped_of}
use Rattle.order.specs.Orders.{RightOrder, house_order, house_rules, HouseOrder}
use Rattle.order.proofs.GroundLaws.{needs-end}
use Rattle.order.proofs.OrderLaws.{house_right}
use Rattle.meaning.specs.Equations.{delayed, Means}
use Rattle.meaning.specs.Verdicts.{verdict, failing_ticks}
use Rattle.meaning.specs.Cells.{start_cells, held, cells_at}
use Rattle.meaning.specs.Admitted.{AdmittedRow, AdmittedHeld}
use Rattle.meaning.proofs.MeaningLaws.{tick_same, meaning_one}
use Rattle.meaning.proofs.CellLaws.{length_at, held_at, stream_start, stream_step}
use Rattle.meaning.proofs.TypedLaws.{start_bits, next_bits}
use Rattle.meaning.proofs.VerdictLaws.{verdict-same, failures-same, lowest_failing-same}
use Rattle.engine.specs.Rows.{row_at}
use Rattle.engine.specs.Operations.{start_rules, Start, tick_rules, answer_of, Worked, Tick, run_rules, Run}
use Rattle.engine.specs.declared.Answer.{Answer}
use Rattle.engine.proofs.RuleLaws.{by-ruling, house_exactly, start_exactly, Ready, tick_exactly, order_exactly, run_exactly}

-- exactly one set of values meets the equations of an accepted sheet
pub meaning : {s : List ℕ} → Sound s → (rows : ℕ → List ℤ) →
    (X : ℕ → ℕ → ℤ) × Means s rows X × ((Y : ℕ → ℕ → ℤ) → Means s rows Y → (t i : ℕ) → i < nodes s → Y t i ≡ X t i)
meaning z = meaning_one z.formed (scoped_of z) (needs-end z)

-- ---- House order and Start: a refusal answers its number and place and changes no lent memory; else the slice holds what it is to hold

module _ {s old : List ℕ} {r : Result (Unit {0}) Refusal} {new : List ℕ} (k : HouseOrder s old r new) where
  pub refused-house : (number place : ℕ) → house_rules s (length old) ≡ refused number place → (told r ≡ refused number place) × (new ≡ old)
  unfolding at_end
  refused-house number place e = (k.answer ∙ e, rw e at k.order)

  pub no_house : (x : Refusal) → r ≡ Err x → new ≡ old
  no_house x e = (refused-house (number_of x) (place_of x) (sym k.answer ∙ rw e)).1

  pub house_given : Sound s → length old ≡ nodes s → (r ≡ Ok tt) × (new ≡ house_order s) × RightOrder s new
  unfolding at_end
  house_given z l =
      let p = (house_exactly s (length old)).1 (z, l) in
      let e : new ≡ house_order s = rw p at k.order in
      (one_answer r (Ok tt) (k.answer ∙ p), e, rw e (house_right z))

module _ {s : List ℕ} {old : List ℤ} {r : Result (Unit {0}) Refusal} {new : List ℤ} (k : Start s old r new) where
  pub refused-start : (number place : ℕ) → start_rules s (length old) ≡ refused number place → (told r ≡ refused number place) × (new ≡ old)
  unfolding at_end
  refused-start number place e = (k.answer ∙ e, rw e at k.cells)

  pub no_start : (x : Refusal) → r ≡ Err x → new ≡ old
  no_start x e = (refused-start (number_of x) (place_of x) (sym k.answer ∙ rw e)).1

  pub start_given : Sound s → length old ≡ slots s → (r ≡ Ok tt) × (new ≡ start_cells s)
  unfolding at_end
  start_given z l = let p = (start_exactly s (length old)).1 (z, l) in (one_answer r (Ok tt) (k.answer ∙ p), rw p at k.cells)

-- ---- Tick, from any cells

module _ {s : List ℕ} {row cells : List ℤ} {order : List ℕ} {values : List ℤ} {r : Result Answer Refusal} {cells' values' : List ℤ}
    (k : Tick s row cells order values r cells' values') where
  abbrev ruling : Ruling
  ruling = tick_rules s row cells order (length values)

  -- a refusal answers its number and place and changes no lent memory
  pub refused_tick : (number place : ℕ) → tick_rules s row cells order (length values) ≡ refused number place →
      (said r ≡ turned number place) × (cells' ≡ cells) × (values' ≡ values)
  unfolding answer
  refused_tick number place e = let l = rw e at k.left in (rw e at k.answer, l.0, l.1)

  -- a refused call is no tick
  pub no_tick : (x : Refusal) → r ≡ Err x → (cells' ≡ cells) × (values' ≡ values)
  no_tick x e =
      let l = refused_tick (number_of x) (place_of x) (answer-turned ruling (answer_of s (at (pos 0) values')) _ _ (rw e at k.answer)) in (l.1, l.2)

  -- else "Tick's values are those of the rules with each FBY's value read from its slot", and it answers the root's value and verdicts
  pub tick_values : tick_rules s row cells order (length values) ≡ passed → (r ≡ Ok (answer_of s (at (pos 0) values'))) × Worked s row cells cells' values'
  unfolding answer
  tick_values p = (one_said r (Ok _) (rw p at k.answer), rw p at k.left)

  -- any right order is accepted, no other is
  pub order-accepted : Ready s row cells → length values ≡ nodes s → ((a : Answer) × (r ≡ Ok a)) ↔ RightOrder s order
  order-accepted ready l =
      let exactly = order_exactly s row cells order (length values) ready l in (
        λ d. exactly.0 ((answer-accepted ruling _ d.0).0 (sym k.answer ∙ rw d.1)).0,
        λ o. (_, (tick_values (exactly.1 o)).0),
      )

worked_same : {s : List ℕ} {row before cells₁ cells₂ values₁ values₂ : List ℤ} → Sound s →
    Worked s row before cells₁ values₁ → Worked s row before cells₂ values₂ → values₁ ≡ values₂
worked_same {s} {row} {before} {values₁ = v} {values₂ = w} z p q =
    ext_get_or (pos 0) v w (p.size ∙ sym q.size)
    (λ i l. tick_same s (scoped_of z) row (held s before) (needs-end z) (at (pos 0) v) (at (pos 0) w) p.values q.values i (omega (arith, p.size)))

-- two accepted ticks of one sheet, row and cells: whichever right orders, and whatever the values held, they answer and leave the same
module _ {s : List ℕ} {row cells : List ℤ} {order₁ order₂ : List ℕ} {values₁ values₂ : List ℤ} {r₁ r₂ : Result Answer Refusal} {cells₁ cells₂ new₁ new₂ : List ℤ}
    (k₁ : Tick s row cells order₁ values₁ r₁ cells₁ new₁) (k₂ : Tick s row cells order₂ values₂ r₂ cells₂ new₂) where
  pub ticks_equal : tick_rules s row cells order₁ (length values₁) ≡ passed → tick_rules s row cells order₂ (length values₂) ≡ passed →
      (r₁ ≡ r₂) × (cells₁ ≡ cells₂) × (new₁ ≡ new₂)
  ticks_equal p₁ p₂ =
      let (a₁, w₁) = tick_values k₁ p₁ in
      let (a₂, w₂) = tick_values k₂ p₂ in
      let e : new₁ ≡ new₂ = worked_same ((tick_exactly s row cells order₁ (length values₁)).0 p₁).0.sound w₁ w₂ in
      (a₁ ∙ rw e (sym a₂), w₁.cells ∙ rw e (sym w₂.cells), e)

  pub orders_equal : Ready s row cells → RightOrder s order₁ → RightOrder s order₂ → length values₁ ≡ nodes s → length values₂ ≡ nodes s →
      (r₁ ≡ r₂) × (cells₁ ≡ cells₂) × (new₁ ≡ new₂)
  orders_equal ready o₁ o₂ l₁ l₂ = ticks_equal ((order_exactly s row cells order₁ _ ready l₁).1 o₁) ((order_exactly s row cells order₂ _ ready l₂).1 o₂)

-- ---- Ticks from a fresh start

-- T ticks after a start, each with a row, an order and lent values of its own
pub record Calls (s : List ℕ) (T : ℕ) (rows : ℕ → List ℤ) (orders : ℕ → List ℕ) (lent : ℕ → List ℤ)
    (r : ℕ → Result Answer Refusal) (cells values : ℕ → List ℤ) : Type 0 where
  -- document 01's rules 1 to 11 hold of the sheet
  pub sound : Sound s
  -- the rows have C entries, and 0 or 1 in bool columns
  pub wide : (t : ℕ) → t < T → length (rows t) ≡ columns s
  pub bits : (t : ℕ) → t < T → AdmittedRow s (rows t)
  -- the orders are right, and each may be another
  pub right : (t : ℕ) → t < T → RightOrder s (orders t)
  -- the lent values have N entries, whatever they hold
  pub sized : (t : ℕ) → t < T → length (lent t) ≡ nodes s
  -- Start was lent S cells, whatever they held, answered, and left the cells of tick 0
  pub old : List ℤ
  pub enough : length old ≡ slots s
  pub judged : Result (Unit {0}) Refusal
  pub started : Start s old judged (cells 0)
  -- Tick was lent the cells as they were left, answered r t, and left the next cells and the values
  pub ticked : (t : ℕ) → t < T → Tick s (rows t) (cells t) (orders t) (lent t) (r t) (cells (suc t)) (values t)

-- what tick t answered and left is what X says
pub record Meant (s : List ℕ) (X : ℕ → ℕ → ℤ) (t : ℕ) (r : Result Answer Refusal) (before after values : List ℤ) : Type 0 where
  -- it was not refused, and answered the root's value and verdicts
  pub answer : r ≡ Ok (answer_of s (X t))
  -- every node's value, and every node's verdict
  pub size : length values ≡ nodes s
  pub value : (i : ℕ) → i < nodes s → get_or values i (pos 0) ≡ X t i
  pub verdicts : (i : ℕ) → i < nodes s → verdict s (at (pos 0) values) i ≡ verdict s (X t) i
  -- every slot, before the tick and after it
  pub slots-before : before ≡ cells_at s X t
  pub slots-after : after ≡ cells_at s X (suc t)

answer-same : {s : List ℕ} → Formed s → (v w : ℕ → ℤ) → ((i : ℕ) → i < nodes s → v i ≡ w i) → answer_of s v ≡ answer_of s w
unfolding answer_of
answer-same f v w same = rw (same 0 f.some, failures-same f v w same, lowest_failing-same f v w same)

module _ {s : List ℕ} (z : Sound s) (T : ℕ) (rows : ℕ → List ℤ) (bits : (t : ℕ) → t < T → AdmittedRow s (rows t)) (X : ℕ → ℕ → ℤ) (m : Means s rows X) where
  -- bool FBYs answer 0 or 1
  delayed_bits : (t : ℕ) → t ≤ T → AdmittedHeld s (delayed s X t)
  unfolding delayed mistyped
  delayed_bits zero b = start_bits z.formed (scoped_of z) (λ i l. ap not (z.types i l)) (type_at-is z.formed (scoped_of z))
  delayed_bits (suc t) b =
      next_bits z.formed (scoped_of z) (λ i l. ap not (z.types i l)) (type_at-is z.formed (scoped_of z))
      (rows t) (bits t b) (delayed s X t) (delayed_bits t (omega arith)) (X t) (needs-end z) (m t)

  -- a tick in a right order from the cells that X says
  pub tick_meant : (t : ℕ) → t < T → {cells lent cells' values : List ℤ} {order : List ℕ} {r : Result Answer Refusal} →
      length (rows t) ≡ columns s → RightOrder s order → length lent ≡ nodes s → Tick s (rows t) cells order lent r cells' values →
      cells ≡ cells_at s X t → Meant s X t r cells cells' values
  tick_meant t b {cells} {values = values} wide right sized k c =
      let ready : Ready s (rows t) cells =
      record {
        sound = z;
        row_size = wide;
        cells-size = rw c (length_at s X t);
        row_bits = bits t b;
        cell_bits = λ i l f q. rw (c, held_at s i l f X t) (delayed_bits t (omega arith) i l f q);
      } in
      let (a, w) = tick_values k ((order_exactly s _ _ _ _ ready sized).1 right) in
      let (same, next) = stream_step z.formed (scoped_of z) (needs-end z) rows X m t cells (at (pos 0) values) c w.values in
      record {
        answer = a ∙ ap Ok (answer-same z.formed (at (pos 0) values) (X t) same);
        size = w.size;
        value = same;
        verdicts = verdict-same z.formed (at (pos 0) values) (X t) same;
        slots-before = c;
        slots-after = w.cells ∙ rw add-one at next;
      }

module _ {s : List ℕ} {T : ℕ} {rows : ℕ → List ℤ} {orders : ℕ → List ℕ} {lent : ℕ → List ℤ} {r : ℕ → Result Answer Refusal} {cells values : ℕ → List ℤ}
    (k : Calls s T rows orders lent r cells values) (X : ℕ → ℕ → ℤ) (m : Means s rows X) where
  turn : (t : ℕ) → t < T → cells t ≡ cells_at s X t → Meant s X t (r t) (cells t) (cells (suc t)) (values t)
  turn t b = tick_meant k.sound T rows k.bits X m t b (k.wide t b) (k.right t b) (k.sized t b) (k.ticked t b)

  cells_meant : (t : ℕ) → t ≤ T → cells t ≡ cells_at s X t
  cells_meant zero b = (start_given k.started k.sound k.enough).1 ∙ stream_start s X
  cells_meant (suc t) b = (turn t b (cells_meant t (omega arith))).slots-after

  -- from a fresh start, at every tick, every node's value, every slot and every verdict is what the stream meaning says
  pub history : (t : ℕ) → t < T → Meant s X t (r t) (cells t) (cells (suc t)) (values t)
  history t b = turn t b (cells_meant t (omega arith))

-- any right orders, a new one each tick, give equal answers, values (and so verdicts) and slots
pub histories_equal : {s : List ℕ} {T : ℕ} {rows : ℕ → List ℤ} {orders₁ orders₂ : ℕ → List ℕ} {lent₁ lent₂ : ℕ → List ℤ}
    {r₁ r₂ : ℕ → Result Answer Refusal} {cells₁ cells₂ values₁ values₂ : ℕ → List ℤ} →
    Calls s T rows orders₁ lent₁ r₁ cells₁ values₁ → Calls s T rows orders₂ lent₂ r₂ cells₂ values₂ →
    (t : ℕ) → t < T → (r₁ t ≡ r₂ t) × (values₁ t ≡ values₂ t) × (cells₁ t ≡ cells₂ t) × (cells₁ (suc t) ≡ cells₂ (suc t))
histories_equal {s} {rows = rows} {values₁ = v} {values₂ = w} k₁ k₂ t b =
    let (X, m, one) = meaning k₁.sound rows in
    let h₁ = history k₁ X m t b in
    let h₂ = history k₂ X m t b in (
      h₁.answer ∙ sym h₂.answer,
      ext_get_or (pos 0) (v t) (w t) (h₁.size ∙ sym h₂.size)
          (λ i l. let n : i < nodes s = omega (arith, h₁.size) in h₁.value i n ∙ sym (h₂.value i n)),
      h₁.slots-before ∙ sym h₂.slots-before,
      h₁.slots-after ∙ sym h₂.slots-after,
    )

-- ---- Run

module _ {s : List ℕ} {rows old : List ℤ} {r : Result ℕ Refusal} {new : List ℤ} (k : Run s rows old r new) where
  pub refused_run : (number place : ℕ) → run_rules s rows (length old) ≡ refused number place → (said r ≡ turned number place) × (new ≡ old)
  refused_run number place e = rw e at k.left

  -- else the outputs are the root's values, and the failing ticks are counted, by the stream meaning
  pub run_values : run_rules s rows (length old) ≡ passed → (X : ℕ → ℕ → ℤ) → Means s (row_at s rows) X →
      (r ≡ Ok (failing_ticks s X (length old))) × (new ≡ gather (λ t. true) (λ t. X t 0) (length old))
  run_values p X m = let w = rw p at k.left in (w.answer X m, w.outputs X m)

  pub no_run : (x : Refusal) → r ≡ Err x → new ≡ old
  no_run x e =
      by-ruling (run_rules s rows (length old))
      (λ p.
      let (X, m, one) = meaning ((run_exactly s rows (length old)).0 p).0 (row_at s rows) in
      let z : ◌≡◌ {A = ℕ} 0 1 = cc (run_values p X m).0 in absurd (omega arith))
      (λ number place q. (refused_run number place q).1)
