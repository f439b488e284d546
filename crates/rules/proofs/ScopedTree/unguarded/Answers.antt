-- More FBYs stand above the VAR than above the REC exactly when one stands between.
use Rattle.std.proofs.Common.{◌≡◌, ℕ, ◌<◌, true, false, not, leb, ltb, get_or, ◌∙◌, sym, ltb-true, ltb-false}
use borrow.Author.Tests.{le-leb, lt-leb}
use Rattle.finite.proofs.Tests.{by-test}
use Rattle.sheet.specs.Bytes.{nodes, kind_at, argument, is_var}
use Rattle.rules.specs.Scope.{over, fby_at, is_rec}
use Rattle.rules.specs.Check.{breaks}
use Rattle.rules.proofs.GuardLaws.{over_delays, guarded_counts, scoped-above, rec_no_fby}
use Rattle.rules.proofs.ScopedTree.unguarded.Goals as goal

not_more : (a b : ℕ) → leb a b ≡ not (ltb b a)
not_more a b =
    by-test (ltb b a)
    (λ t. rw t (lt-leb a b (ltb-true b a t)))
    (λ f. rw f (le-leb a b (ltb-false b a f)))

pub returns-then-not-is_rec : goal.returns-then-not-is_rec
unfolding breaks
returns-then-not-is_rec c =
    let s = c.args.self.tree.s.now in
    let v : is_var (kind_at s c.args.i.0) ≡ true = rw (← c.kind.ensures) (sym c.if-not-is_var.ensures) in
    let n = c.binder-b.ensures c.requires.i_bound v in
    let other : is_rec (kind_at s (argument s c.args.i.0)) ≡ false = rw (← n.0, ← c.kind-2.ensures) (sym c.if-not-is_rec.ensures) in
    rw (v, other)

pub returns : goal.returns
unfolding breaks
returns c =
    let f = c.args.self.tree.formed in
    let p = c.requires in
    let s = c.args.self.tree.s.now in
    let i = c.args.i.0 in
    let overs = c.args.overs.now in
    let b = argument s i in
    let v : is_var (kind_at s i) ≡ true = rw (← c.kind.ensures) (sym c.if-not-is_var.ensures) in
    let n = c.binder-b.ensures p.i_bound v in
    let rec : is_rec (kind_at s b) ≡ true = rw (← n.0, ← c.kind-2.ensures) (sym c.if-not-is_rec.ensures) in
    let counts : (j : ℕ) → j < nodes s → get_or overs j 0 ≡ over s (fby_at s) j = λ j h. p.overs j h ∙ over_delays s j in
    rw (v, rec, guarded_counts s b i (scoped-above f b i (c.args.self.scoped i p.i_bound v)) (rec_no_fby (kind_at s b) rec))
    (rw (c.from.ensures, c.from-2.ensures, n.0, counts i p.i_bound, counts b (rw n.0 at n.1)) (not_more (over s (fby_at s) i) (over s (fby_at s) b)))
