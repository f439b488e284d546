-- Laws of the table of closings that a loop over the nodes fills: counted_none begins it, counted_yes and counted_no are a turn, counted_all ends it.
use Prim.Native.Nat.{ℕ, ◌+◌, ◌-◌, ◌≤◌, ◌<◌}
use mathlib.Core.Path.{◌≡◌, sym, ap, ◌∙◌}
use mathlib.Core.Bool.{true, false}
use mathlib.Core.List.{List}
use native.Mathlib.Omega.{arith}
use lib.ListN.{length, get_or, set, replicate, get_or-replicate, length-replicate, length-set}
use borrow.Author.Tests.{eq-eqb, ne_eqb}
use Rattle.finite.specs.Count.{count}
use Rattle.finite.proofs.Tests.{and_both, and_not_l, and_not_r}
use Rattle.finite.proofs.CountLaws.{count_none, count_le, count_step_yes, count_step_no}
use Rattle.finite.proofs.ListLaws.{stored}
use Rattle.sheet.specs.Ceilings.{max_nodes}
use Rattle.sheet.specs.Bytes.{nodes, kind_at, end_of}
use Rattle.sheet.specs.Form.{Formed}
use Rattle.sheet.proofs.SheetLaws.{end_after, end-within}
use Rattle.listing.specs.Listing.{opens, closes, closings, Closings}

-- of the nodes below a, the table has how many close after each node
pub record Counted (s : List ℕ) (a : ℕ) (table : List ℕ) : Type 0 where
  pub within : a ≤ nodes s
  pub room : length table ≡ max_nodes
  pub counts : (i : ℕ) → i < nodes s → get_or table i 0 ≡ count (closes s i) a

pub counted_none : {s : List ℕ} → Formed s → Counted s 0 (replicate max_nodes 0)
counted_none {s} f =
    record {
      within = omega arith;
      room = simp length-replicate;
      counts = λ i l. get_or-replicate max_nodes i 0 0 (omega (arith, f.few)) ∙ sym (count_none (closes s i) 0 (λ j h. absurd (omega arith)));
    }

module _ {s : List ℕ} {a : ℕ} {table : List ℕ} (old : Counted s a table) where
  pub counted_all : nodes s ≤ a → Closings s table
  unfolding closings
  counted_all u i h = let e : a ≡ nodes s = omega (arith, old.within) in old.counts i h ∙ ap (count (closes s i)) e

  pub counted_no : a < nodes s → opens (kind_at s a) ≡ false → Counted s (a + 1) table
  unfolding closes
  counted_no h e =
      record {
        within = omega arith;
        room = old.room;
        counts = λ i l. old.counts i l ∙ sym (count_step_no (closes s i) a (and_not_l (opens (kind_at s a)) _ e));
      }

  -- node a's expression ends where `past` says
  module _ {past : ℕ} (f : Formed s) (h : a < nodes s) (p : past ≡ end_of s a) where
    pub past_some : 0 < past
    past_some = omega (arith, p, end_after s a h)

    last_node : past - 1 < nodes s
    last_node = omega (arith, p, end-within f a h, past_some)

    pub past_within : past - 1 < max_nodes
    past_within = omega (arith, last_node, f.few)

    pub past_few : get_or table (past - 1) 0 < 65535
    past_few = omega (arith, old.counts (past - 1) last_node, count_le (closes s (past - 1)) a, f.few)

    pub counted_yes : opens (kind_at s a) ≡ true → Counted s (a + 1) (set table (past - 1) (get_or table (past - 1) 0 + 1))
    unfolding closes
    counted_yes o =
        let last : end_of s a ≡ past - 1 + 1 = omega (arith, p, past_some) in
        record {
          within = omega arith;
          room = simp length-set old.room;
          counts = λ i l.
              stored (λ j. count (closes s j) (a + 1)) 0 table (past - 1) _ (omega (arith, past_within, old.room))
              (ap (λ (n : ℕ). n + 1) (old.counts (past - 1) last_node)
              ∙ sym (count_step_yes (closes s (past - 1)) a (and_both (opens (kind_at s a)) _ o (eq-eqb _ _ last))))
              i
              (λ n. old.counts i l
              ∙ sym (count_step_no (closes s i) a (and_not_r (opens (kind_at s a)) _ (ne_eqb (end_of s a) (i + 1) (λ q. n (omega arith))))));
        }
