-- Check accepts exactly the sheets of which document 01's rules 1 to 11 hold, and what its answer says tells the answer.
use Prim.Native.Nat.{ℕ, zero, suc, ◌≤◌, ◌<◌}
use mathlib.Core.Path.{◌≡◌, ap}
use mathlib.Core.Logic.{◌↔◌}
use mathlib.Core.Bool.{Bool, true, false, not, ◌&&◌}
use mathlib.Core.List.{List}
use native.Mathlib.Omega.{arith}
use Rattle.std.proofs.Common.{Result}
use lib.Dec.{leb}
use borrow.Author.Tests.{ltb-false, le-ltb, leb-false, lt-leb, not-false}
use Rattle.finite.specs.Count.{count}
use Rattle.finite.proofs.Tests.{by-test, and_l, and_r, and_both, and_cases, and_not_l}
use Rattle.finite.proofs.CountLaws.{count_yes, count_no, count_lt}
use Rattle.sheet.specs.Ceilings.{max_depth, max_slots}
use Rattle.sheet.specs.Ruling.{passed, refused, accepted, turned, said}
use Rattle.sheet.specs.Bytes.{nodes, kind_at, argument, is_var}
use Rattle.sheet.specs.declared.Sheet.{Sheet}
use Rattle.sheet.specs.declared.Refusal.{Refusal}
use Rattle.sheet.proofs.RulingLaws.{each-passed, then_passed, answer-accepted, answer-turned, one_said}
use Rattle.sheet.proofs.FormLaws.{form_iff}
use Rattle.rules.specs.Scope.{depth, scoped, is_rec, guarded, fby_at}
use Rattle.rules.specs.Types.{mistyped}
use Rattle.rules.specs.Slots.{slot, slots}
use Rattle.rules.specs.Check.{breaks, Scoped, rule_number, ruled, tree_rules, rules, sheet, check, Sound}
use Rattle.rules.specs.declared.Rule.{Rule}
use Rattle.rules.specs.declared.Rule.TheVariants.{Depth, Scope, Types, Unguarded, Slots}
use Rattle.rules.proofs.GuardLaws.{scoped-is, guarded-is}

-- a rule "a only where b", which is broken where a passes and b fails
only_where : (a b : Bool) → ((a && not b) ≡ false) ↔ (a ≡ true → b ≡ true)
only_where a b = (λ e t. not-false b (rw t at e), λ h. by-test a (λ t. rw (t, h t)) (and_not_l a (not b)))

-- m at most pass below n, where none passes that has m of them before it
count-few : (p : ℕ → Bool) (m n : ℕ) → ((i : ℕ) → i < n → (p i && leb m (count p i)) ≡ false) → count p n ≤ m
unfolding count
count-few p m zero h = omega arith
count-few p m (suc n) h =
    let old : count p n ≤ m = count-few p m n (λ i l. h i (omega arith)) in
    and_cases (p n) _ (h n (omega arith))
    (λ f. omega (arith, count_no p n f))
    (λ t f. omega (arith, count_yes p n t, leb-false m (count p n) f))

-- the scope of a sound sheet, as a test
pub scoped_of : {s : List ℕ} → Sound s → Scoped s
scoped_of {s} k i h v = (scoped-is s (argument s i) i).1 (k.scope i h v)

module _ (s : List ℕ) where
  -- ---- each rule passes exactly where its statement holds

  kept : (r : Rule) → (ruled s r ≡ passed) ↔ ((i : ℕ) → i < nodes s → breaks s r i ≡ false)
  kept r =
      let e = each-passed (rule_number r) (breaks s r) 0 (nodes s) in
      (λ p i h. e.0 p i (omega arith) (omega arith), λ k. e.1 (λ i l u. k i (omega arith)))

  pub scope-passed : (ruled s Scope ≡ passed) ↔ Scoped s
  unfolding breaks
  scope-passed =
      let rule : (i : ℕ) → (breaks s Scope i ≡ false) ↔ (is_var (kind_at s i) ≡ true → scoped s (argument s i) i ≡ true) =
      λ i. only_where (is_var (kind_at s i)) (scoped s (argument s i) i) in
      (λ p i h. (rule i).0 ((kept Scope).0 p i h), λ k. (kept Scope).1 (λ i h. (rule i).1 (k i h)))

  -- "over 64 FBY nodes": no FBY has 64 before it
  slots-passed : (ruled s Slots ≡ passed) ↔ (slots s ≤ max_slots)
  unfolding breaks slot slots
  slots-passed = (
    λ p. count-few (fby_at s) max_slots (nodes s) ((kept Slots).0 p),
    λ l. (kept Slots).1 (λ i h. by-test (fby_at s i)
        (λ t. rw (t, lt-leb max_slots (count (fby_at s) i) (omega (arith, count_lt (fby_at s) (nodes s) i h t))))
        (and_not_l (fby_at s i) _)),
  )

  -- ---- and Check accepts exactly where all hold

  sound : rules s ≡ passed → Sound s
  unfolding rules tree_rules breaks mistyped
  sound e =
      let r₁ = (then_passed _ _).0 e in
      let rest = (then_passed _ _).0 r₁.1 in
      let r₇ = (then_passed _ _).0 rest.0 in
      let r₈ = (then_passed _ _).0 r₇.1 in
      let r₉ = (then_passed _ _).0 r₈.1 in
      record {
        formed = (form_iff s).0 r₁.0;
        shallow = λ i h. ltb-false max_depth (depth s i) ((kept Depth).0 r₇.0 i h);
        scope = λ i h v. (scoped-is s (argument s i) i).0 (scope-passed.0 r₈.0 i h v);
        types = λ i h. not-false _ ((kept Types).0 r₉.0 i h);
        guard = λ i h v r. (guarded-is s (argument s i) i).0
            ((only_where (is_var (kind_at s i) && is_rec (kind_at s (argument s i))) _).0 ((kept Unguarded).0 r₉.1 i h) (and_both (is_var (kind_at s i)) _ v r));
        few = slots-passed.0 rest.1;
      }

  passing : Sound s → rules s ≡ passed
  unfolding rules tree_rules breaks mistyped
  passing k =
      let guard : (i : ℕ) → i < nodes s → breaks s Unguarded i ≡ false =
      λ i h. let var : Bool = is_var (kind_at s i) in
      let rec : Bool = is_rec (kind_at s (argument s i)) in
      (only_where (var && rec) (guarded s (argument s i) i)).1
      (λ t. (guarded-is s (argument s i) i).1 (k.guard i h (and_l var rec t) (and_r var rec t))) in
      let tree : tree_rules s ≡ passed =
      (then_passed _ _).1 (
        (kept Depth).1 (λ i h. le-ltb max_depth (depth s i) (k.shallow i h)),
        (then_passed _ _).1 (scope-passed.1 (scoped_of k), (then_passed _ _).1 ((kept Types).1 (λ i h. ap not (k.types i h)), (kept Unguarded).1 guard)),
      ) in
      (then_passed _ _).1 ((form_iff s).1 k.formed, (then_passed _ _).1 (tree, slots-passed.1 k.few))

  pub rules_exactly : (rules s ≡ passed) ↔ Sound s
  rules_exactly = (sound, passing)

  -- accepted, with an answer that is the sheet's
  pub check_exactly : (z : Sheet) → (check s ≡ accepted z) ↔ (Sound s × (sheet s ≡ z))
  unfolding check
  check_exactly z =
      let e = answer-accepted (rules s) (sheet s) z in
      (λ a. (sound (e.0 a).0, (e.0 a).1), λ k. e.1 (passing k.0, k.1))

-- what Check's answer says tells the answer
pub one_checked : (a b : Result Sheet Refusal) → said a ≡ said b → a ≡ b
one_checked = one_said

-- a refusal of Check is that of rules 1 to 11
pub check-turned : (s : List ℕ) (number place : ℕ) → turned number place ≡ check s → rules s ≡ refused number place
unfolding check
check-turned s number place = answer-turned (rules s) (sheet s) number place
