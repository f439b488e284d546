-- What functions' proofs cite: what `operand` answers by a table of a sound sheet's ends, a node's needs one by one and by the marks, and the
-- house order and an order under test, part by part.
use Prim.Native.Nat.{ℕ, ◌+◌, ◌≤◌, ◌<◌}
use mathlib.Core.Path.{◌≡◌, sym, ap, ◌∙◌}
use mathlib.Core.Logic.{◌↔◌}
use mathlib.Core.Bool.{Bool, true, false, not, ◌&&◌}
use mathlib.Core.List.{List, ◌++◌}
use native.Mathlib.Numerals.{add-one}
use native.Mathlib.Omega.{arith}
use lib.Dec.{ltb}
use lib.ListN.{length, get_or, set, take, drop, replicate}
use lib.Seq.{take-suc}
use Rattle.std.specs.Bool.{IsTrue}
use borrow.Author.Count.{below_none, below_more}
use borrow.Author.Tests.{lt-ltb, le-ltb}
use Rattle.finite.specs.Lists.{all, member}
use Rattle.finite.proofs.Tests.{same_test}
use Rattle.finite.proofs.MemberLaws.{all-at, member-at, all_by_index, all_not_at, marks_none, marks_more}
use Rattle.table.specs.Order.{ready, house_part, misplaced}
use Rattle.table.proofs.OrderLaws.{fit_by}
use Rattle.sheet.specs.Ceilings.{max_nodes}
use Rattle.sheet.specs.Bytes.{nodes, kind_at, arity, operand, operand_by}
use Rattle.sheet.specs.declared.Kind.{Kind}
use Rattle.sheet.proofs.SheetLaws.{operand_by_table}
use Rattle.order.specs.Needs.{needs, need_count, Met, Given}
use Rattle.order.proofs.NeedsLaws.{need_by, needs-count, need_at}

-- what the function `operand` answers is the operand
pub operand_is : (s ends : List ℕ) → Given s ends → (i k : ℕ) → i < nodes s → k < arity (kind_at s i) → operand_by ends i k ≡ operand s i k
operand_is s ends g i k h l = operand_by_table g.sound.formed ends g.ends i h k l

-- need k of a node of a kind, and where it is operand m
module _ {s ends : List ℕ} (g : Given s ends) (i : ℕ) (h : i < nodes s) where
  module _ (kind : Kind) (e : kind_at s i ≡ kind) where
    pub need_is : (k r : ℕ) → k < need_count (kind_at s i) → r ≡ need_by s i kind k → r ≡ get_or (needs s i) k 0
    unfolding needs
    need_is k r l found = found ∙ rw (← e) (sym (need_at s i (kind_at s i) k l))

    pub own_need : (k m r : ℕ) → operand s i m ≡ need_by s i kind k → m < arity kind → k < need_count (kind_at s i)
        → (i < max_nodes → r ≡ operand_by ends i m) → r ≡ get_or (needs s i) k 0
    own_need k m r q l n found =
        need_is k r n (found (omega (arith, g.sound.formed.few)) ∙ operand_is s ends g i m h (rw e l) ∙ q)

-- the marks as a test of numbers
abbrev pub mark : List Bool → ℕ → Bool
mark marks k = get_or marks k false

-- the needs of node i, each by its place and all by the list
module _ (s : List ℕ) (marks : List Bool) (i : ℕ) where
  many : length (needs s i) ≡ need_count (kind_at s i)
  unfolding needs
  many = needs-count s i (kind_at s i)

  pub all_met : Met s marks i → all (mark marks) (needs s i) ≡ true
  all_met h = all_by_index (mark marks) (needs s i) (λ k l. h k (omega (arith, many)))

  pub not_met : (k : ℕ) → k < need_count (kind_at s i) → mark marks (get_or (needs s i) k 0) ≡ false → all (mark marks) (needs s i) ≡ false
  not_met k l = all_not_at (mark marks) (needs s i) k (omega (arith, many))

  pub met_is : (b : Bool) → (IsTrue b ↔ Met s marks i) → b ≡ all (mark marks) (needs s i)
  met_is b e =
      same_test b (all (mark marks) (needs s i)) (λ t. all_met (e.0 t))
      (λ t. e.1 (λ k l. all-at (mark marks) (needs s i) t (get_or (needs s i) k 0) (member-at (needs s i) k (omega (arith, many)))))

-- ---- the house order while it is built

abbrev pub part : List ℕ → ℕ → List ℕ
part s p = house_part (nodes s) (needs s) p

-- the order has the first p positions of the house order, and the marks agree with these
pub record Filled (s old order : List ℕ) (marks : List Bool) (p : ℕ) : Type 0 where
  pub written : order ≡ part s p ++ drop p old
  pub agree : (k : ℕ) → mark marks k ≡ member k (part s p)

-- ---- an order while it is tested

abbrev pub bad : (s order : List ℕ) → ℕ → Bool
bad s order = misplaced (nodes s) (needs s) order

-- no entry before position p is misplaced, and the marks agree with these entries
pub record Tried (s order : List ℕ) (seen : List Bool) (p : ℕ) : Type 0 where
  pub none : (q : ℕ) → q < p → bad s order q ≡ false
  pub agree : (k : ℕ) → mark seen k ≡ member k (take p order)

-- the entry at position p
module _ (s order : List ℕ) (seen : List Bool) (p : ℕ) (t : Tried s order seen p) where
  tested : bad s order p ≡ not (ltb (get_or order p 0) (nodes s) && ready (needs s) (mark seen) (get_or order p 0))
  unfolding misplaced
  tested = ap not (fit_by (nodes s) (needs s) (mark seen) (take p order) t.agree (get_or order p 0))

  pub bad_over : nodes s ≤ get_or order p 0 → bad s order p ≡ true
  bad_over h = tested ∙ rw (le-ltb (get_or order p 0) (nodes s) h)

  pub bad_ready : (b : Bool) → get_or order p 0 < nodes s → ready (needs s) (mark seen) (get_or order p 0) ≡ b → bad s order p ≡ not b
  bad_ready b h e = tested ∙ rw (lt-ltb (get_or order p 0) (nodes s) h, e)

  pub tried_more : p < length order → bad s order p ≡ false → get_or order p 0 < length seen → Tried s order (set seen (get_or order p 0) true) (p + 1)
  tried_more l b h =
      record {
        none = below_more _ _ t.none b;
        agree = rw (add-one, take-suc order p 0 l) (marks_more seen (take p order) (get_or order p 0) h t.agree);
      }

pub none_tried : (s order : List ℕ) (seen : List Bool) → seen ≡ replicate max_nodes false → Tried s order seen 0
none_tried s order seen e = record { none = below_none _; agree = rw e (marks_none max_nodes) }
