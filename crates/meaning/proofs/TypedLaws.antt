-- Where types fit, bool nodes hold 0 or 1.
use Prim.Native.Nat.{ℕ, zero, suc, ◌<◌}
use mathlib.Core.Path.{◌≡◌, refl, sym, ap, ◌∙◌}
use mathlib.Core.Bool.{true, false}
use mathlib.Core.List.{List, []}
use native.Mathlib.Omega.{arith}
use lib.Dec.{ltb}
use lib.IntN.{ℤ}
use borrow.Author.Tests.{ltb-true, leb-true, not-true, not-false}
use Rattle.finite.specs.Lists.{member}
use Rattle.finite.proofs.Tests.{not-both, and_r}
use Rattle.finite.proofs.MemberLaws.{snoc_new}
use Rattle.finite.proofs.GatherLaws.{gather-member}
use Rattle.number.specs.Word.{signed}
use Rattle.number.specs.Operators.{operands, is_bit, applied}
use Rattle.number.specs.declared.Operator.{Operator}
use Rattle.number.specs.declared.Operator.TheVariants.{Not, And, Or, Xor, If, Eq, Lt, Le, Add, Sub, Mul, Div, Neg, Mod}
use Rattle.number.proofs.OperatorLaws.{applied-bit, if_bit}
use Rattle.table.specs.Order.{Grounded}
use Rattle.sheet.specs.Bytes.{nodes, columns, kind_at, argument, operand, is_var, is_fby}
use Rattle.sheet.specs.Form.{holds, known, bad_record, Formed}
use Rattle.sheet.specs.declared.ValueType.{ValueType}
use Rattle.sheet.specs.declared.ValueType.TheVariants.{Bool as bool, Int as int}
use Rattle.sheet.specs.declared.Kind.{Kind}
use Rattle.sheet.specs.declared.Kind.TheVariants.{Const, Input, Var, Op, Fby, Rec, Let, Check, Contract, Unknown}
use Rattle.rules.specs.Scope.{fby_at, binds, scoped}
use Rattle.rules.specs.Types.{named_type, operator_type, type_by, type_rule, type_at, is_bool, same_type, fits, well_typed, mistyped}
use Rattle.rules.specs.Check.{Scoped}
use Rattle.order.specs.Needs.{named_need, needs_by, needs}
use Rattle.meaning.specs.Equations.{literal, value_by, Solves}
use Rattle.meaning.specs.Local.{local_by, local_value}
use Rattle.meaning.specs.Admitted.{AdmittedRow, AdmittedHeld}
use Rattle.meaning.proofs.LocalLaws.{fby_kind, named, solves_iff}
use Rattle.meaning.proofs.MeaningLaws.{fby_operand}

-- ---- bits by types

same_bool : (a b : ValueType) → same_type a b ≡ true → is_bool a ≡ is_bool b
same_bool bool b e = sym e
same_bool int b e = sym (not-true (is_bool b) e)

-- a bool argument is 0 or 1
argument-bit : (t : ValueType) (n : ℕ) → is_bool t ≡ true → holds t n ≡ true → is_bit (signed n) ≡ true
argument-bit bool zero e h = refl
argument-bit bool (suc zero) e h = refl
argument-bit bool (suc (suc n)) e h = absurd (omega (arith, leb-true (suc (suc n)) 1 h))
argument-bit int n e h = not-both false e refl

-- an operator of type bool, whose operand k has the type T k and the value x k
operator_bit : (o : Operator) (T : ℕ → ValueType) (x : ℕ → ℤ) → fits o (T 0) (T 1) (T 2) ≡ true → is_bool (operator_type o (T 1)) ≡ true →
    ((k : ℕ) → k < operands o → is_bool (T k) ≡ true → is_bit (x k) ≡ true) → is_bit (applied o (x 0) (x 1) (x 2)) ≡ true
unfolding fits operator_type
operator_bit Not T x f e h = applied-bit Not (x 0) (x 1) (x 2) refl
operator_bit And T x f e h = applied-bit And (x 0) (x 1) (x 2) refl
operator_bit Or T x f e h = applied-bit Or (x 0) (x 1) (x 2) refl
operator_bit Xor T x f e h = applied-bit Xor (x 0) (x 1) (x 2) refl
operator_bit If T x f e h =
    let same : is_bool (T 1) ≡ is_bool (T 2) = same_bool (T 1) (T 2) (and_r (is_bool (T 0)) _ f) in
    if_bit (x 0) (x 1) (x 2) (h 1 (omega arith) e) (h 2 (omega arith) (sym same ∙ e))
operator_bit Eq T x f e h = applied-bit Eq (x 0) (x 1) (x 2) refl
operator_bit Lt T x f e h = applied-bit Lt (x 0) (x 1) (x 2) refl
operator_bit Le T x f e h = applied-bit Le (x 0) (x 1) (x 2) refl
operator_bit Add T x f e h = not-both false e refl
operator_bit Sub T x f e h = not-both false e refl
operator_bit Mul T x f e h = not-both false e refl
operator_bit Div T x f e h = not-both false e refl
operator_bit Neg T x f e h = not-both false e refl
operator_bit Mod T x f e h = not-both false e refl

module _ {s : List ℕ} (f : Formed s) (sc : Scoped s)
    (well : (i : ℕ) → i < nodes s → mistyped s i ≡ false) (types : (i : ℕ) → i < nodes s → type_at s i ≡ type_rule s i (type_at s)) where
  -- ---- what rules 5 and 9 say of a node of a kind

  module _ (i : ℕ) (l : i < nodes s) (k : Kind) (e : kind_at s i ≡ k) where
    record_known : known (columns s) k (argument s i) ≡ true
    unfolding bad_record
    record_known = rw (← e) (not-false _ (f.records i l))

    type_fits : well_typed k (type_at s (operand s i 0)) (type_at s (operand s i 1)) (type_at s (operand s i 2)) ≡ true
    unfolding mistyped
    type_fits = rw (← e) (not-false _ (well i l))

    bool_by : is_bool (type_at s i) ≡ is_bool (type_by s (type_at s) i k)
    bool_by = rw e at (ap is_bool (types i l))

  -- a bool FBY has a bit for its first value, and a bool operand
  fby_bit : (i : ℕ) → i < nodes s → fby_at s i ≡ true → is_bool (type_at s i) ≡ true →
      (is_bit (literal s i) ≡ true) × (is_bool (type_at s (operand s i 0)) ≡ true)
  unfolding known well_typed type_by literal
  fby_bit i l b q =
      let (t, e) = fby_kind (kind_at s i) b in
      let r : is_bool t ≡ true = sym (bool_by i l (Fby t) e) ∙ q in
      (argument-bit t (argument s i) r (record_known i l (Fby t) e), same_bool (type_at s (operand s i 0)) t (type_fits i l (Fby t) e) ∙ r)

  -- the first values
  pub start_bits : AdmittedHeld s (literal s)
  start_bits i l b q = (fby_bit i l b q).0

  module _ (row : List ℤ) (ar : AdmittedRow s row) (held : ℕ → ℤ) (ah : AdmittedHeld s held) (v : ℕ → ℤ) where
    -- a bool node holds 0 or 1
    abbrev Bit : ℕ → Type 0
    Bit i = is_bool (type_at s i) ≡ true → is_bit (v i) ≡ true

    var_bit : (i b : ℕ) → b < nodes s → (k : Kind) → kind_at s b ≡ k → binds s b k i ≡ true → Bit (named_need s b k) →
        is_bool (named_type s (type_at s) b k) ≡ true → is_bit (v (named_need s b k)) ≡ true
    unfolding binds named_need named_type type_by
    var_bit i b l (Const t) e p h q = not-both false p refl
    var_bit i b l Input e p h q = not-both false p refl
    var_bit i b l Var e p h q = not-both false p refl
    var_bit i b l (Op o) e p h q = not-both false p refl
    var_bit i b l (Fby t) e p h q = not-both false p refl
    var_bit i b l (Rec t) e p h q = h (bool_by b l (Rec t) e ∙ q)
    var_bit i b l Let e p h q = h q
    var_bit i b l Check e p h q = not-both false p refl
    var_bit i b l Contract e p h q = h q
    var_bit i b l Unknown e p h q = not-both false p refl

    node_bit : (i : ℕ) → i < nodes s → (k : Kind) → kind_at s i ≡ k → ((j : ℕ) → member j (needs_by s i k) ≡ true → Bit j) →
        is_bool (type_at s i) ≡ true → is_bit (local_by s row (held i) v i k) ≡ true
    unfolding local_by value_by needs_by is_var is_fby known well_typed type_by literal scoped
    node_bit i l (Const t) e h q = argument-bit t (argument s i) (sym (bool_by i l (Const t) e) ∙ q) (record_known i l (Const t) e)
    node_bit i l Input e h q = ar (argument s i) (ltb-true _ _ (record_known i l Input e)) (sym (bool_by i l Input e) ∙ q)
    node_bit i l Var e h q =
        let b : ℕ = argument s i in
        var_bit i b (named s sc i l (rw e)) (kind_at s b) refl (and_r (ltb b (nodes s)) _ (sc i l (rw e))) (h _ (snoc_new [] _)) (sym (bool_by i l Var e) ∙ q)
    node_bit i l (Op o) e h q =
        operator_bit o (λ k. type_at s (operand s i k)) (λ k. v (operand s i k)) (type_fits i l (Op o) e) (sym (bool_by i l (Op o) e) ∙ q)
        (λ k b. h (operand s i k) (gather-member (λ k. true) (operand s i) (operands o) k b refl))
    node_bit i l (Fby t) e h q = ah i l (rw e) q
    node_bit i l (Rec t) e h q =
        h _ (snoc_new [] _) (same_bool (type_at s (operand s i 0)) t (type_fits i l (Rec t) e) ∙ sym (bool_by i l (Rec t) e) ∙ q)
    node_bit i l Let e h q = h _ (snoc_new [] _) (sym (bool_by i l Let e) ∙ q)
    node_bit i l Check e h q = h _ (snoc_new [] _) (sym (bool_by i l Check e) ∙ q)
    node_bit i l Contract e h q = h _ (snoc_new [] _) (sym (bool_by i l Contract e) ∙ q)
    node_bit i l Unknown e h q = refl

    module _ (g : Grounded (nodes s) (needs s)) (m : Solves s row held v) where
      pub bits : (i : ℕ) → i < nodes s → is_bool (type_at s i) ≡ true → is_bit (v i) ≡ true
      unfolding local_value needs
      bits = g Bit (λ i l h q. ap is_bit ((solves_iff s sc row held v).0 m i l) ∙ node_bit i l (kind_at s i) refl h q)

      -- so what the FBYs hold stays admitted from tick to tick
      pub next_bits : AdmittedHeld s (λ i. v (operand s i 0))
      next_bits i l b q = bits (operand s i 0) (fby_operand f i l b) (fby_bit i l b q).1
