-- The operations' rules as plain statements: what a sheet, rows, cells, an order and the lent slices must be to be accepted.
use Prim.Native.Nat.{ℕ, zero, suc, ◌+◌, ◌*◌, ◌/◌, ◌%◌, ◌≤◌, ◌<◌}
use mathlib.Core.Path.{◌≡◌, refl, sym, ap}
use mathlib.Core.Logic.{◌↔◌}
use mathlib.Core.Bool.{Bool, true, false, not}
use mathlib.Core.List.{List}
use native.Mathlib.Decide.{ℕ_discrete}
use native.Mathlib.Nat.{mul-zero, zero-mul, suc-mul, mul-le-mul_right, mod-lt, mod-eq_of_lt, mul-add-mod_self_right, div-add-mod', div-lt_iff_lt-mul}
use native.Mathlib.Omega.{arith}
use lib.Dec.{ltb, eqb}
use lib.IntN.{ℤ, pos}
use lib.ListN.{length, get_or, drop}
use lib.Seq.{get_or-take, get_or-drop, take_all}
use borrow.Author.Tests.{ltb-false, le-ltb, not-false, eqb-true, eq-eqb}
use Rattle.finite.specs.Count.{count}
use Rattle.finite.proofs.Tests.{by-test, not-both}
use Rattle.finite.proofs.CountLaws.{count_yes, count_no, count_lt}
use Rattle.finite.proofs.GatherLaws.{gather-at}
use Rattle.number.specs.Operators.{is_bit}
use Rattle.sheet.specs.declared.Lent.{Lent}
use Rattle.sheet.specs.declared.Lent.TheVariants.{Rows, Cells, Order, Values}
use Rattle.sheet.specs.Ruling.{lent, lent_place, Ruling, passed, refused, rule, ◌then◌}
use Rattle.sheet.specs.Bytes.{nodes, columns, column_type}
use Rattle.sheet.specs.declared.ValueType.{ValueType}
use Rattle.sheet.specs.declared.ValueType.TheVariants.{Bool as bool, Int as int}
use Rattle.sheet.proofs.RulingLaws.{rule-passed, each-passed, then_passed}
use Rattle.rules.specs.Scope.{fby_at}
use Rattle.rules.specs.Types.{type_at, is_bool}
use Rattle.rules.specs.Slots.{slot, slots}
use Rattle.rules.specs.Check.{Sound}
use Rattle.rules.proofs.CheckLaws.{rules_exactly}
use Rattle.order.specs.Orders.{RightOrder, ordered, house_rules}
use Rattle.order.proofs.OrderLaws.{ordered_exactly}
use Rattle.meaning.specs.Cells.{held}
use Rattle.meaning.specs.Admitted.{AdmittedRow, AdmittedHeld}
use Rattle.engine.specs.Rows.{faulty, bad_entry, row_rule, row_at, slot_types, bad_cell, cell_rule}
use Rattle.engine.specs.Operations.{max_rows, start_rules, lent_rules, tick_tests, tick_rules, run_tests, run_rules}

-- ---- 13 and 14: bool columns and bool slots hold 0 or 1

fault_free : (t : ValueType) (v : ℤ) → (faulty t v ≡ false) ↔ (is_bool t ≡ true → is_bit v ≡ true)
fault_free bool v = (λ e q. not-false (is_bit v) e, λ h. ap not (h refl))
fault_free int v = (λ e q. not-both false q refl, λ h. refl)

-- rows with an entry have a column
some : (T c n : ℕ) → n < T * c → 0 < c
some T zero n u = absurd (omega (arith, mul-zero T))
some T (suc c) n u = omega arith

module _ (s : List ℕ) (rows : List ℤ) (T : ℕ) (l : length rows ≡ T * columns s) where
  -- entry c of row t
  entry : (t c : ℕ) → c < columns s →
      (bad_entry s rows (t * columns s + c) ≡ false) ↔ (is_bool (column_type s c) ≡ true → is_bit (get_or (row_at s rows t) c (pos 0)) ≡ true)
  unfolding bad_entry row_at
  entry t c u =
      rw (mul-add-mod_self_right, mod-eq_of_lt u, get_or-take (columns s) (drop (t * columns s) rows) c (pos 0) u, get_or-drop)
      (fault_free (column_type s c) (get_or rows (t * columns s + c) (pos 0)))

  pub admitted_rows : (row_rule s rows ≡ passed) ↔ ((t : ℕ) → t < T → AdmittedRow s (row_at s rows t))
  unfolding row_rule
  admitted_rows =
      let tried = each-passed 13 (bad_entry s rows) 0 (length rows) in (
        λ p t b c u. (entry t c u).0 (tried.0 p (t * columns s + c) (omega arith) (omega (arith, mul-le-mul_right (columns s) b, suc-mul t (columns s)))),
        λ h. tried.1 (λ n _ u.
            let b : n < T * columns s = omega arith in
            let k = some T (columns s) n b in
            let low = mod-lt n k in
            rw div-add-mod' at ((entry (n / columns s) (n % columns s) low).1 (h (n / columns s) ((div-lt_iff_lt-mul k).1 b) (n % columns s) low))),
      )

pub admitted_row : (s : List ℕ) (row : List ℤ) → length row ≡ columns s → (row_rule s row ≡ passed) ↔ AdmittedRow s row
unfolding row_at
admitted_row s row l =
    let tried = admitted_rows s row 1 (omega arith) in
    let alone : row_at s row 0 ≡ row = rw (zero-mul (columns s)) (take_all (columns s) row (omega arith)) in
    (λ p. rw alone at (tried.0 p 0 (omega arith)), λ h. tried.1 (λ t b. let e : t ≡ 0 = omega arith in rw (e, alone) h))

-- the number that passes with j before it
counted-at : (p : ℕ → Bool) (n j : ℕ) → j < count p n → (i : ℕ) × (i < n) × (p i ≡ true) × (count p i ≡ j)
unfolding count
counted-at p zero j l = absurd (omega arith)
counted-at p (suc n) j l =
    let older : j < count p n → (i : ℕ) × (i < suc n) × (p i ≡ true) × (count p i ≡ j) =
    λ h. let r = counted-at p n j h in (r.0, omega (arith, r.1), r.2, r.3) in
    by-test (p n)
    (λ t. elim (ℕ_discrete j (count p n)) [ yes e ↦ (n, omega arith, t, sym e) | no e ↦ older (omega (arith, e, count_yes p n t)) ])
    (λ f. older (omega (arith, count_no p n f)))

pub admitted_cells : (s : List ℕ) (cells : List ℤ) → (cell_rule s cells ≡ passed) ↔ AdmittedHeld s (held s cells)
unfolding cell_rule bad_cell slot_types held slot slots
admitted_cells s cells =
    let tried = each-passed 14 (bad_cell s cells) 0 (slots s) in
    let here : (i : ℕ) → i < nodes s → fby_at s i ≡ true → (bad_cell s cells (slot s i) ≡ false) ↔ (is_bool (type_at s i) ≡ true → is_bit (held s cells i) ≡ true) =
    λ i l t. rw (gather-at (fby_at s) (type_at s) int (nodes s) i l t) (fault_free (type_at s i) (held s cells i)) in (
      λ p i l t. (here i l t).0 (tried.0 p (slot s i) (omega arith) (omega (arith, count_lt (fby_at s) (nodes s) i l t))),
      λ h. tried.1 (λ j _ u. let (i, l, t, e) = counted-at (fby_at s) (nodes s) j (omega arith) in rw e at ((here i l t).1 (h i l t))),
    )

-- ---- all rules of an operation

-- by cases on a ruling, with the equation
pub by-ruling {ℓ} : {X : Type ℓ} (q : Ruling) → (q ≡ passed → X) → ((number place : ℕ) → q ≡ refused number place → X) → X
by-ruling passed f g = f refl
by-ruling (refused number place) f g = g number place refl

-- two rulings as plain statements
both : {A B : Type 0} {a b : Ruling} → (a ≡ passed) ↔ A → (b ≡ passed) ↔ B → (a then b ≡ passed) ↔ (A × B)
both {a = a} {b = b} f g =
    let e = then_passed a b in
    (λ p. (f.0 (e.0 p).0, g.0 (e.0 p).1), λ k. e.1 (f.1 k.0, g.1 k.1))

lent-passed : (slice : Lent) (size right : ℕ) → (lent slice size right ≡ passed) ↔ (size ≡ right)
lent-passed slice size right =
    let r = rule-passed (not (eqb size right)) 12 (lent_place slice) in
    (λ p. eqb-true size right (not-false _ (r.0 p)), λ e. r.1 (ap not (eq-eqb size right e)))

pub lent_exactly : (s : List ℕ) (row cells order values : ℕ) →
    (lent_rules s row cells order values ≡ passed) ↔ ((row ≡ columns s) × ((cells ≡ slots s) × ((order ≡ nodes s) × (values ≡ nodes s))))
unfolding lent_rules
lent_exactly s row cells order values =
    both (lent-passed Rows row (columns s)) (both (lent-passed Cells cells (slots s)) (both (lent-passed Order order (nodes s)) (lent-passed Values values (nodes s))))

pub house_exactly : (s : List ℕ) (size : ℕ) → (house_rules s size ≡ passed) ↔ (Sound s × (size ≡ nodes s))
unfolding house_rules
house_exactly s size = both (rules_exactly s) (lent-passed Order size (nodes s))

pub start_exactly : (s : List ℕ) (size : ℕ) → (start_rules s size ≡ passed) ↔ (Sound s × (size ≡ slots s))
unfolding start_rules
start_exactly s size = both (rules_exactly s) (lent-passed Cells size (slots s))

-- a sheet, a row and cells that a tick accepts
pub record Ready (s : List ℕ) (row cells : List ℤ) : Type 0 where
  -- rules 1 to 11
  pub sound : Sound s
  -- "Right lengths: one row C, cells S"
  pub row_size : length row ≡ columns s
  pub cells-size : length cells ≡ slots s
  -- bool columns and bool slots hold 0 or 1
  pub row_bits : AdmittedRow s row
  pub cell_bits : AdmittedHeld s (held s cells)

module _ (s : List ℕ) (row cells : List ℤ) (order : List ℕ) (values : ℕ) where
  pub tick_exactly : (tick_rules s row cells order values ≡ passed) ↔ (Ready s row cells × (values ≡ nodes s) × RightOrder s order)
  unfolding tick_rules tick_tests
  tick_exactly =
      let bits = both {a = row_rule s row} {b = cell_rule s cells then ordered s order} (λ p. p, λ p. p) (both (admitted_cells s cells) (λ p. p, λ p. p)) in
      let tried = both (rules_exactly s) (both (lent_exactly s (length row) (length cells) (length order) values) bits) in (
        λ p.
            let (z, ((w, (c, (o, v))), (r₁₃, (r₁₄, r₁₅)))) = tried.0 p in (
              record { sound = z; row_size = w; cells-size = c; row_bits = (admitted_row s row w).0 r₁₃; cell_bits = r₁₄ },
              v,
              (ordered_exactly s order).0 (o, r₁₅),
            ),
        λ k.
            let (z, v, right) = k in
            let o = (ordered_exactly s order).1 right in
            tried.1 (z.sound, ((z.row_size, (z.cells-size, (o.0, v))), ((admitted_row s row z.row_size).1 z.row_bits, (z.cell_bits, o.1)))),
      )

  -- every right order is accepted, and no other is
  pub order_exactly : Ready s row cells → values ≡ nodes s → (tick_rules s row cells order values ≡ passed) ↔ RightOrder s order
  order_exactly k e = (λ p. (tick_exactly.0 p).2, λ o. tick_exactly.1 (k, e, o))

pub run_exactly : (s : List ℕ) (rows : List ℤ) (T : ℕ) →
    (run_rules s rows T ≡ passed) ↔ (Sound s × (length rows ≡ T * columns s) × (T ≤ max_rows) × ((t : ℕ) → t < T → AdmittedRow s (row_at s rows t)))
unfolding run_rules run_tests
run_exactly s rows T =
    let many = rule-passed (ltb max_rows T) 12 5 in
    let few : (rule (ltb max_rows T) 12 5 ≡ passed) ↔ (T ≤ max_rows) = (λ p. ltb-false max_rows T (many.0 p), λ l. many.1 (le-ltb max_rows T l)) in
    let tried = both (rules_exactly s) (both (lent-passed Rows (length rows) (T * columns s)) (both {b = row_rule s rows} few (λ p. p, λ p. p))) in (
      λ p. let (z, (l, (f, r₁₃))) = tried.0 p in (z, l, f, (admitted_rows s rows T l).0 r₁₃),
      λ k. let (z, l, f, b) = k in tried.1 (z, (l, (f, (admitted_rows s rows T l).1 b))),
    )
