-- The ticks of a run: what the lent slices hold after some of them, for whatever values meet the equations.
use Prim.Native.Nat.{ℕ, ◌+◌, ◌-◌, ◌*◌, ◌≤◌, ◌<◌}
use mathlib.Core.Path.{◌≡◌, refl, ap, ◌∙◌}
use mathlib.Core.Bool.{true, cond}
use mathlib.Core.List.{List, ◌++◌}
use native.Mathlib.Nat.{suc-mul, mul-le-mul_right}
use native.Mathlib.Numerals.{add-one}
use native.Mathlib.Omega.{arith}
use Rattle.std.proofs.Common.{Ok}
use lib.Dec.{ltb}
use lib.IntN.{ℤ, pos}
use lib.ListN.{length, set, take, drop, length-set}
use Rattle.finite.specs.Count.{count}
use Rattle.finite.specs.Lists.{gather}
use Rattle.finite.proofs.ListLaws.{write_more, write_all}
use Rattle.finite.proofs.GatherLaws.{length_gather_all, gather_step_yes}
use Rattle.table.specs.Equations.{at}
use Rattle.sheet.specs.Bytes.{nodes, columns}
use Rattle.rules.specs.Slots.{slots}
use Rattle.rules.specs.Check.{Sound}
use Rattle.rules.proofs.CheckLaws.{scoped_of}
use Rattle.order.proofs.GroundLaws.{needs-end}
use Rattle.meaning.specs.Equations.{Means}
use Rattle.meaning.specs.Cells.{start_cells, cells_at}
use Rattle.meaning.specs.Verdicts.{failures, failing_ticks}
use Rattle.meaning.proofs.CellLaws.{length-start, length-next, stream_start, stream_step}
use Rattle.meaning.proofs.VerdictLaws.{failures-same}
use Rattle.engine.specs.Rows.{row_at}
use Rattle.engine.specs.Operations.{max_rows, Worked, WorkedAll}

-- the row of tick t ends within T rows of c entries, and the part of them from there is the row
pub row_end : (T : ℕ) {t c n m : ℕ} → n ≡ T * m → c ≡ m → t < T → t * c + c ≤ n
row_end T {t} {c} {n} {m} e q l = rw q (omega (arith, mul-le-mul_right m l, suc-mul t m))

pub row_is : (s : List ℕ) (rows : List ℤ) (t c : ℕ) → c ≡ columns s → take (t * c + c - t * c) (drop (t * c) rows) ≡ row_at s rows t
unfolding row_at
row_is s rows t c e = let z : t * c + c - t * c ≡ c = omega arith in rw (z, e)

-- after some ticks, of which some failed
pub record After (s : List ℕ) (rows lent outputs cells values : List ℤ) (ticks failing : ℕ) : Type 0 where
  pub few : length lent ≤ max_rows
  pub within : ticks ≤ length lent
  pub outputs-size : length outputs ≡ length lent
  pub cells-size : length cells ≡ slots s
  pub values-size : length values ≡ nodes s
  pub means : (X : ℕ → ℕ → ℤ) → Means s (row_at s rows) X →
      (failing ≡ failing_ticks s X ticks) × (outputs ≡ gather (λ t. true) (λ t. X t 0) ticks ++ drop ticks lent) × (cells ≡ cells_at s X ticks)

pub after_none : {s : List ℕ} {rows lent cells values : List ℤ} {ticks failing : ℕ} → length lent ≤ max_rows → cells ≡ start_cells s → length values ≡ nodes s → ticks ≡ 0 → failing ≡ 0 →
    After s rows lent lent cells values ticks failing
unfolding failing_ticks count gather
after_none {s} few c v t f =
    rw (c, t, f)
    record {
      few = few;
      within = omega arith;
      outputs-size = refl;
      cells-size = length-start s;
      values-size = v;
      means = λ X m. (refl, refl, stream_start s X);
    }

module _ {s : List ℕ} {rows lent outputs cells values : List ℤ} {ticks failing : ℕ} (d : After s rows lent outputs cells values ticks failing) where
  -- one tick more, over the cells and the values, with its output and its count of failures
  pub after_more : Sound s → ticks < length lent → {outputs' cells' values' row : List ℤ} {ticks' failing' n : ℕ} {out : ℤ} →
      row ≡ row_at s rows ticks → Worked s row cells cells' values' → out ≡ at (pos 0) values' 0 → n ≡ failures s (at (pos 0) values') →
      outputs' ≡ set outputs ticks out → ticks' ≡ ticks + 1 → failing' ≡ cond (ltb 0 n) 1 0 + failing → After s rows lent outputs' cells' values' ticks' failing'
  unfolding failing_ticks count
  after_more z l {cells' = cells'} {values' = values'} {n = n} r w o e u t f =
      rw (u, t, f)
      record {
        few = d.few;
        within = omega arith;
        outputs-size = simp length-set d.outputs-size;
        cells-size = ap length w.cells ∙ length-next s (at (pos 0) values');
        values-size = w.size;
        means = λ X m.
            let (fs, os, cs) = d.means X m in
            let (same, next) = stream_step z.formed (scoped_of z) (needs-end z) (row_at s rows) X m ticks cells (at (pos 0) values') cs (rw r at w.values) in (
              rw (e, failures-same z.formed (at (pos 0) values') (X ticks) same, fs, add-one),
              rw (o ∙ same 0 z.formed.some, os, gather_step_yes (λ t. true) (λ t. X t 0) ticks refl)
                  (write_more (gather (λ t. true) (λ t. X t 0) ticks) lent ticks (X ticks 0) (length_gather_all (λ t. X t 0) ticks) l),
              w.cells ∙ next,
            );
      }

  pub after-all : length lent ≤ ticks → WorkedAll s rows (length lent) (Ok failing) outputs
  after-all l =
      let e : ticks ≡ length lent = omega (arith, d.within) in
      record {
        answer = λ X m. ap Ok ((d.means X m).0 ∙ ap (failing_ticks s X) e);
        outputs = λ X m. (d.means X m).1 ∙ write_all (gather (λ t. true) (λ t. X t 0) ticks) lent ticks l ∙ ap (gather (λ t. true) (λ t. X t 0)) e;
      }
