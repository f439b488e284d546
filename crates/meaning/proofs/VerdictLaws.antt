-- Verdicts, and what is counted of them, go by the values of nodes alone.
use Prim.Native.Nat.{ℕ, ◌<◌}
use mathlib.Core.Path.{◌≡◌, refl}
use mathlib.Core.List.{List}
use native.Mathlib.Omega.{arith}
use lib.Dec.{ltb}
use lib.IntN.{ℤ}
use denote.Enum.Bare.{sameb}
use borrow.Author.Tests.{ltb-true}
use Rattle.finite.specs.Lowest.{lowest}
use Rattle.finite.proofs.Tests.{by-test}
use Rattle.finite.proofs.CountLaws.{count_cong}
use Rattle.finite.proofs.LowestLaws.{lowest-same}
use Rattle.sheet.specs.Bytes.{nodes, kind_at, arity, operand}
use Rattle.sheet.specs.Form.{Formed}
use Rattle.sheet.specs.declared.Kind.{Kind}
use Rattle.sheet.specs.declared.Kind.TheVariants.{Const, Input, Var, Op, Fby, Rec, Let, Check, Contract, Unknown}
use Rattle.sheet.proofs.SheetLaws.{operand_node}
use Rattle.meaning.specs.Verdicts.{verdict_by, verdict, is_pass, failing, failures, lowest_failing}
use Rattle.meaning.specs.declared.Verdict.{Verdict}
use Rattle.meaning.specs.declared.Verdict.TheVariants.{Pass, Fail, Caller, Body}
use Rattle.meaning.specs.contracts.Verdict.{the_type}

-- whether a verdict is PASS, by the derived comparison
pub is_pass-same : (v : Verdict) → sameb the_type v Pass ≡ is_pass v
is_pass-same Pass = refl
is_pass-same Fail = refl
is_pass-same Caller = refl
is_pass-same Body = refl

module _ {s : List ℕ} (f : Formed s) (v w : ℕ → ℤ) (same : (i : ℕ) → i < nodes s → v i ≡ w i) where
  by_operands : (i : ℕ) (k : Kind) → ((n : ℕ) → n < arity k → v (operand s i n) ≡ w (operand s i n)) → verdict_by s v i k ≡ verdict_by s w i k
  unfolding verdict_by arity
  by_operands i (Const t) h = refl
  by_operands i Input h = refl
  by_operands i Var h = refl
  by_operands i (Op o) h = refl
  by_operands i (Fby t) h = refl
  by_operands i (Rec t) h = refl
  by_operands i Let h = refl
  by_operands i Check h = rw (h 0 (omega arith))
  by_operands i Contract h = rw (h 0 (omega arith), h 2 (omega arith))
  by_operands i Unknown h = refl

  pub verdict-same : (i : ℕ) → i < nodes s → verdict s v i ≡ verdict s w i
  unfolding verdict
  verdict-same i l = by_operands i (kind_at s i) (λ n b. same (operand s i n) (operand_node f i l n b))

  failing-same : (i : ℕ) → i < nodes s → failing s v i ≡ failing s w i
  failing-same i l = rw (verdict-same i l)

  pub failures-same : failures s v ≡ failures s w
  unfolding failures
  failures-same = count_cong (failing s v) (failing s w) (nodes s) failing-same

  pub lowest_failing-same : lowest_failing s v ≡ lowest_failing s w
  unfolding lowest_failing
  lowest_failing-same =
      rw (lowest-same (failing s v) (failing s w) 0 (nodes s) (λ i l u. failing-same i (omega arith)))
      (let i : ℕ = lowest (failing s w) 0 (nodes s) in
      by-test (ltb i (nodes s)) (λ t. rw (t, verdict-same i (ltb-true i (nodes s) t))) (λ n. rw n))
