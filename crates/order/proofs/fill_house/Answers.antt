-- The next entry is the house order's next, and it is marked.
use Rattle.std.proofs.Common.{◌≡◌, ℕ, ◌+◌, ◌<◌, Bool, true, List, [], ◌∷◌, ◌++◌, length, refl, sym, ap, ◌∙◌, arith}
use lib.ListN.{set}
use Rattle.finite.specs.Lowest.{lowest}
use Rattle.finite.proofs.MemberLaws.{marks_none, marks_more}
use Rattle.finite.proofs.ListLaws.{write_more, write_all}
use Rattle.table.specs.Order.{ready, next, house_part, house}
use Rattle.table.proofs.HouseLaws.{part_length, part_more, next_by, next_under}
use Rattle.sheet.specs.Ceilings.{max_nodes}
use Rattle.sheet.specs.Bytes.{nodes}
use Rattle.order.specs.Needs.{needs, Given}
use Rattle.order.specs.Orders.{house_order}
use Rattle.order.proofs.GroundLaws.{needs-end}
use Rattle.order.proofs.FunctionLaws.{mark, part, Filled}
use Rattle.order.proofs.fill_house.Goals as goal

-- the node that the marks tell is the house order's next
next_is : {s ends : List ℕ} → Given s ends → (old order : List ℕ) (marks : List Bool) (p : ℕ) → length old ≡ nodes s → p < length old → Filled s old order marks p
    → (lowest (ready (needs s) (mark marks)) 0 (length old) ≡ next (nodes s) (needs s) (part s p)) × (lowest (ready (needs s) (mark marks)) 0 (length old) < nodes s)
next_is {s} g old order marks p e l f =
    let here : lowest (ready (needs s) (mark marks)) 0 (length old) ≡ next (nodes s) (needs s) (part s p) =
    rw e (sym (next_by (nodes s) (needs s) (mark marks) (part s p) f.agree)) in
    (here, rw here (next_under (nodes s) (needs s) (needs-end g.sound) p (omega arith)))

filled_more : {s ends : List ℕ} → Given s ends → (old order : List ℕ) (marks : List Bool) (p i : ℕ) → length old ≡ nodes s → p < length old → length marks ≡ max_nodes
    → i ≡ lowest (ready (needs s) (mark marks)) 0 (length old) → Filled s old order marks p → Filled s old (set order p i) (set marks i true) (p + 1)
filled_more {s} g old order marks p i e l m found f =
    let n = next_is g old order marks p e l f in
    let here : i ≡ next (nodes s) (needs s) (part s p) = found ∙ n.0 in
    let node : i < nodes s = rw found n.1 in
    let more : part s (p + 1) ≡ part s p ++ (i ∷ []) = part_more (nodes s) (needs s) p ∙ ap (λ (j : ℕ). part s p ++ (j ∷ [])) (sym here) in
    record {
      written = rw (more, f.written) (write_more (part s p) old p i (part_length (nodes s) (needs s) p) l);
      agree = rw more (marks_more marks (part s p) i (omega (arith, g.sound.formed.few)) f.agree);
    }

pub loop-entry-init : goal.loop-entry-init
unfolding house_part
loop-entry-init c g e = record { written = refl; agree = rw c.new-placed.ensures (marks_none max_nodes) }

pub loop-entry-preserved : goal.loop-entry-preserved
loop-entry-preserved c g e =
    let l = c.loop-entry in
    rw c.put.ensures
    (filled_more g _ l.order l.placed.marks l.entry-index _ e (omega arith) l.placed.whole (c.in-Some.ensures g (omega arith)) (l.invariant g e))

pub returns-in_default : goal.returns-in_default
returns-in_default c g e =
    let l = c.loop-entry in
    let n = next_is g _ l.order l.placed.marks l.entry-index e (omega arith) (l.invariant g e) in
    absurd (omega (arith, n.1, c.in_default.ensures g (omega arith)))

pub returns : goal.returns
unfolding house_order house
returns c g e =
    let l = c.loop-entry in
    (l.invariant g e).written ∙ write_all (part c.args.s.now l.entry-index) c.args.order.now l.entry-index (omega arith)
    ∙ ap (part c.args.s.now) (omega arith)
