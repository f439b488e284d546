-- A loop that fills the lent cells: by node number, a cell for each FBY.
use Prim.Native.Nat.{ℕ, ◌+◌, ◌≤◌, ◌<◌}
use mathlib.Core.Path.{◌≡◌, refl, sym, ap, ◌∙◌}
use mathlib.Core.Bool.{Bool, true, false}
use mathlib.Core.List.{List, ◌++◌}
use native.Mathlib.Omega.{arith}
use lib.IntN.{ℤ}
use lib.ListN.{length, set, drop, length-set}
use Rattle.finite.specs.Count.{count}
use Rattle.finite.specs.Lists.{gather}
use Rattle.finite.proofs.CountLaws.{count_lt, count_step_yes, count_step_no}
use Rattle.finite.proofs.ListLaws.{write_all}
use Rattle.finite.proofs.GatherLaws.{gather_store, gather_step_no}
use Rattle.sheet.specs.Bytes.{nodes, kind_at, is_fby}
use Rattle.sheet.specs.declared.Node.{Node}
use Rattle.sheet.specs.declared.Kind.{Kind}
use Rattle.rules.specs.Scope.{fby_at}
use Rattle.rules.specs.Slots.{slots}
use Rattle.engine.specs.Cells.{Gives}

-- the FBYs before node i have their cells, which are j, and the others are as lent
pub record Filled (s : List ℕ) (post : Node → ℤ → Type 0) (lent cells : List ℤ) (j i : ℕ) : Type 0 where
  pub under : i ≤ nodes s
  pub few : j ≤ i
  pub size : length cells ≡ length lent
  pub next : j ≡ count (fby_at s) i
  pub written : (f : ℕ → ℤ) → Gives s post f → cells ≡ gather (fby_at s) f i ++ drop j lent

pub filled_none : (s : List ℕ) (post : Node → ℤ → Type 0) (lent : List ℤ) → Filled s post lent lent 0 0
unfolding count gather
filled_none s post lent = record { under = omega arith; few = omega arith; size = refl; next = refl; written = λ f g. refl }

module _ {s : List ℕ} {post : Node → ℤ → Type 0} {lent cells : List ℤ} {j i : ℕ} (room : length lent ≡ slots s) (d : Filled s post lent cells j i) where
  pub filled-all : nodes s ≤ i → (f : ℕ → ℤ) → Gives s post f → cells ≡ gather (fby_at s) f (nodes s)
  unfolding slots
  filled-all l f g =
      let e : i ≡ nodes s = omega (arith, d.under) in
      d.written f g ∙ write_all (gather (fby_at s) f i) lent j (omega (arith, d.next, ap (count (fby_at s)) e)) ∙ ap (gather (fby_at s) f) e

  -- one node more, which is tested
  module _ {kind : Kind} {b : Bool} (l : i < nodes s) (k : kind ≡ kind_at s i) (t : b ≡ is_fby kind) where
    pub filled-past : {cells' : List ℤ} {j' : ℕ} → b ≡ false → cells' ≡ cells → j' ≡ j → Filled s post lent cells' j' (i + 1)
    filled-past other c n =
        let e : fby_at s i ≡ false = sym (t ∙ ap is_fby k) ∙ other in
        rw (c, n)
        record {
          under = omega arith;
          few = omega (arith, d.few);
          size = d.size;
          next = d.next ∙ sym (count_step_no (fby_at s) i e);
          written = λ f g. rw (gather_step_no (fby_at s) f i e) (d.written f g);
        }

    module _ (fby : b ≡ true) where
      here : fby_at s i ≡ true
      here = sym (t ∙ ap is_fby k) ∙ fby

      pub filled-room : j < length cells
      unfolding slots
      filled-room = omega (arith, d.next, d.size, count_lt (fby_at s) (nodes s) i l here)

      pub filled_more : {cells' : List ℤ} {j' : ℕ} {v : ℤ} → post (record { 0 = i }) v → cells' ≡ set cells j v → j' ≡ j + 1 → Filled s post lent cells' j' (i + 1)
      filled_more q c n =
          rw (c, n)
          record {
            under = omega arith;
            few = omega (arith, d.few);
            size = simp length-set d.size;
            next = rw (count_step_yes (fby_at s) i here) (omega (arith, d.next));
            written = λ f g. rw (g (record { 0 = i }) l here _ q, d.written f g, d.next, ← count_step_yes (fby_at s) i here) (gather_store (fby_at s) f lent i here (omega (arith, d.next, d.size, filled-room)));
          }
