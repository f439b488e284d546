-- Laws of the ticks that are printed, of what Run tells of the rows, and of the text that they make.
use Prim.Native.Nat.{ℕ, suc, ◌+◌, ◌*◌, ◌≤◌, ◌<◌}
use mathlib.Core.Path.{◌≡◌, refl, ap, sym, ◌∙◌}
use mathlib.Core.List.{List, []}
use native.Mathlib.Numerals.{add-one}
use native.Mathlib.Omega.{arith}
use Rattle.std.proofs.Common.{Result, Ok, Err}
use lib.IntN.{ℤ}
use lib.ListN.{length, take, drop, length-drop, length-append}
use lib.Seq.{length-take-le}
use borrow.Author.Tests.{le-ltb, eq-eqb}
use Rattle.finite.specs.Lists.{joined}
use Rattle.text.specs.Text.{Adds}
use Rattle.text.proofs.TextLaws.{append_first, append_then, append_next, append_none}
use Rattle.sheet.specs.Ruling.{passed, refused, rule, ◌then◌, told, said, turned, number_of, place_of}
use Rattle.sheet.specs.Bytes.{nodes, columns}
use Rattle.sheet.specs.declared.Refusal.{Refusal}
use Rattle.rules.specs.Check.{Sound}
use Rattle.rules.proofs.CheckLaws.{rules_exactly}
use Rattle.order.specs.Orders.{RightOrder}
use Rattle.meaning.specs.Equations.{Means}
use Rattle.meaning.specs.Cells.{start_cells}
use Rattle.meaning.proofs.CellLaws.{length-start, length_at, stream_start}
use Rattle.engine.specs.Rows.{row_rule, row_at}
use Rattle.engine.specs.Operations.{max_rows, run_tests, run_rules, answer_of, Tick, Run}
use Rattle.engine.specs.declared.Answer.{Answer}
use Rattle.engine.proofs.RuleLaws.{by-ruling, run_exactly}
use Rattle.engine.proofs.RunLaws.{row_end}
use Rattle.engine.proofs.Demands.{meaning, tick_meant, Meant, run_values, refused_run}
use Rattle.console.specs.declared.Accepted.{Accepted}
use Rattle.console.specs.Sheetrun.{ok_line, tick_line, tick_lines, PrintedBy, max_output}
use Rattle.console.specs.Printing.{max_line, LinesPut, TicksPut}
use Rattle.console.proofs.LineLaws.{ok_length}
use Rattle.console.proofs.AcceptedLaws.{sound, nodes_are, columns_are, slots_are, root_is}

-- ---- the ticks

pub run_sound : {s : List ℕ} (rows : List ℤ) (T : ℕ) → run_rules s rows T ≡ passed → Sound s
run_sound {s} rows T p = ((run_exactly s rows T).0 p).0

row_wide : (s : List ℕ) (rows : List ℤ) (T : ℕ) {t : ℕ} → length rows ≡ T * columns s → t < T → length (row_at s rows t) ≡ columns s
unfolding row_at
row_wide s rows T {t} l b =
    length-take-le (columns s) (drop (t * columns s) rows) (rw length-drop (omega (arith, row_end T {t = t} {c = columns s} l refl b)))

pub ticks_none : {s : List ℕ} {rows cells values : List ℤ} {out : List ℕ} → cells ≡ start_cells s → length values ≡ nodes s → TicksPut s rows 0 cells values out out
unfolding tick_lines joined
ticks_none {s} c v =
    record {
      cells-size = rw c (length-start s);
      values-size = v;
      lines = λ X m. (c ∙ stream_start s X, record { appends = append_none _ _; short = omega arith });
    }

module _ {s : List ℕ} {rows : List ℤ} {T : ℕ} (p : run_rules s rows T ≡ passed) {t : ℕ} {cells values : List ℤ} {before after : List ℕ}
    (d : TicksPut s rows t cells values before after) (b : t < T) {row : List ℤ} {order : List ℕ} {r : Result Answer Refusal} {cells' values' : List ℤ}
    (e : row ≡ row_at s rows t) (right : RightOrder s order) (k : Tick s row cells order values r cells' values') where
  meant : (X : ℕ → ℕ → ℤ) → Means s (row_at s rows) X → Meant s X t r cells cells' values'
  meant X m =
      let (z, l, few, bits) = (run_exactly s rows T).0 p in
      tick_meant z T (row_at s rows) bits X m t b (row_wide s rows T l b) right d.values-size (rw e at k) (d.lines X m).0

  -- no tick is refused
  pub tick_answers : (a : Answer) × (r ≡ Ok a)
  tick_answers =
      let (X, m, one) = meaning ((run_exactly s rows T).0 p).0 (row_at s rows) in (_, (meant X m).answer)

  pub tick_done : {x : Refusal} → r ≡ Err x → ⊥
  tick_done x =
      let (a, answered) = tick_answers in
      let z : ◌≡◌ {A = ℕ} 0 1 = cc answered in omega arith

  -- one more, with its line
  pub ticks_more : {a : Answer} {last : List ℕ} → r ≡ Ok a → Adds max_output (tick_line t a.root a.lowest) after last →
      length (tick_line t a.root a.lowest) ≤ max_line → TicksPut s rows (t + 1) cells' values' before last
  unfolding tick_lines joined answer_of
  ticks_more {a} q u short =
      let (X₀, m₀, one) = meaning ((run_exactly s rows T).0 p).0 (row_at s rows) in
      let h = meant X₀ m₀ in
      record {
        cells-size = rw h.slots-after (length_at s X₀ (suc t));
        values-size = h.size;
        lines = λ X m.
            let g = meant X m in
            let same : a ≡ answer_of s (X t) = cc g.answer in
            let l = (d.lines X m).1 in (
              rw add-one g.slots-after,
              record {
                appends = append_next _ t l.appends (rw same at u);
                short = rw add-one (simp length-append (omega (arith, l.short, rw same at short)));
              },
            );
      }

-- ---- a run

-- of a sound sheet and whole rows, not too many, a run tries rule 13 alone
pub sound_rows : {s : List ℕ} → Sound s → (rows : List ℤ) (T : ℕ) → length rows ≡ T * columns s → T ≤ max_rows → run_rules s rows T ≡ row_rule s rows
unfolding run_rules run_tests rule ◌then◌
sound_rows {s} z rows T whole few = rw ((rules_exactly s).1 z, eq-eqb (length rows) (T * columns s) whole, le-ltb max_rows T few)

pub run_rows : (a : Accepted) (rows : List ℤ) (T : ℕ) → (length rows ≡ T * columns a.s.now) × (T ≤ max_rows) → run_rules a.s.now rows T ≡ row_rule a.s.now rows
run_rows a rows T h = sound_rows (sound a) rows T h.0 h.1

module _ {s : List ℕ} (z : Sound s) {rows old : List ℤ} {r : Result ℕ Refusal} {new : List ℤ} (k : Run s rows old r new)
    (T : ℕ) (n : length old ≡ T) (whole : length rows ≡ T * columns s) (few : T ≤ max_rows) where
  told_run : run_rules s rows (length old) ≡ row_rule s rows
  told_run = rw n (sound_rows z rows T whole few)

  -- a run that is finished passed its rules
  pub run_passed : {failing : ℕ} → r ≡ Ok failing → row_rule s rows ≡ passed
  run_passed e =
      by-ruling (row_rule s rows) (λ p. p)
      (λ number place q. let c : ◌≡◌ {A = ℕ} 0 1 = cc (refused_run k number place (told_run ∙ q)).0 in absurd (omega arith))

  -- and one that is refused broke rule 13
  pub run_refused : {x : Refusal} → r ≡ Err x → row_rule s rows ≡ refused (number_of x) (place_of x)
  run_refused {x} e =
      by-ruling (row_rule s rows)
      (λ p.
      let (X, m, one) = meaning z (row_at s rows) in
      let c : ◌≡◌ {A = ℕ} 0 1 = cc (run_values k (told_run ∙ p) X m).0 in absurd (omega arith))
      (λ number place q.
      let t : said {A = ℕ} (Err x) ≡ turned number place = rw e at (refused_run k number place (told_run ∙ q)).0 in
      q ∙ cc)

-- what an answer's refusal is told
turned_told : {A : Type 0} (r : Result A Refusal) (number place : ℕ) → said r ≡ turned number place → told r ≡ refused number place
turned_told (Ok a) number place e = let z : ◌≡◌ {A = ℕ} 0 1 = cc in absurd (omega arith)
turned_told (Err r) number place e = cc

-- Run's answer, of whole rows, not too many, tells whether rule 13 passes
pub run_told : (a : Accepted) {rows new : List ℤ} {r : Result ℕ Refusal} (T : ℕ) (xs : List ℤ) → Run a.s.now rows (take T xs) r new → T ≤ length xs →
    (length rows ≡ T * columns a.s.now) × (T ≤ max_rows) → told r ≡ row_rule a.s.now rows
run_told a {rows} {r = r} T xs k l h =
    let e : run_rules a.s.now rows (length (take T xs)) ≡ row_rule a.s.now rows = rw (length-take-le T xs l) (run_rows a rows T h) in
    by-ruling (run_rules a.s.now rows (length (take T xs)))
    (λ p. let (X, m, one) = meaning (sound a) (row_at a.s.now rows) in ap told (run_values k p X m).0 ∙ sym p ∙ e)
    (λ number place q. turned_told r number place (refused_run k number place q).0 ∙ sym q ∙ e)

-- ---- all of the text

-- a first line and the lines of T ticks, for whatever values meet the equations
pub run_printed : (a : Accepted) (rows : List ℤ) (T : ℕ) {before between after : List ℕ} → run_rules a.s.now rows T ≡ passed → before ≡ [] →
    Adds max_output (ok_line a.sheet.nodes a.sheet.columns a.sheet.slots a.sheet.root) before between →
    ((X : ℕ → ℕ → ℤ) → Means a.s.now (row_at a.s.now rows) X → LinesPut a.s.now X T between after) → PrintedBy passed a.s.now rows T after
run_printed a rows T p e first lines X m =
    let few : T ≤ max_rows = ((run_exactly a.s.now rows T).0 p).2 in
    let l = lines X m in
    let line : length (ok_line a.sheet.nodes a.sheet.columns a.sheet.slots a.sheet.root) ≤ 20 =
    ok_length _ _ _ a.sheet.root (omega (arith, a.few_nodes)) (omega (arith, a.few_columns)) (omega (arith, a.few_slots)) in
    rw (← nodes_are a, ← columns_are a, ← slots_are a, ← root_is a)
    (append_first e (append_then first l.appends) (simp length-append (omega (arith, line, l.short, few))))
