-- "Verdicts, for every node at every tick", from a tick's values v.
use Rattle.std.specs.Prelude.{ℕ, Bool, true, false, cond, not, List, ℤ, ltb, Option, Some, None}
use Rattle.finite.specs.Lowest.{lowest}
use Rattle.finite.specs.Count.{count}
use Rattle.number.specs.Operators.{truth}
use Rattle.sheet.specs.Bytes.{nodes, kind_at, operand}
use Rattle.sheet.specs.declared.Node.{Node}
use Rattle.sheet.specs.declared.Kind.{Kind}
use Rattle.sheet.specs.declared.Kind.TheVariants.{Const, Input, Var, Op, Fby, Rec, Let, Check, Contract, Unknown}
use Rattle.meaning.specs.declared.Verdict.{Verdict}
use Rattle.meaning.specs.declared.Verdict.TheVariants.{Pass, Fail, Caller, Body}

-- "A CONTRACT whose rely is false at this tick is CALLER; one whose rely is true and guarantee false at this tick is BODY"
abbrev pub contract_verdict : (rely guarantee : Bool) → Verdict
contract_verdict rely guarantee = cond rely (cond guarantee Pass Body) Caller

-- "a CHECK whose condition is false is FAIL .. All else is PASS"
unfoldable pub verdict_by : List ℕ → (v : ℕ → ℤ) → (i : ℕ) → Kind → Verdict
verdict_by s v i (Const t) = Pass
verdict_by s v i Input = Pass
verdict_by s v i Var = Pass
verdict_by s v i (Op o) = Pass
verdict_by s v i (Fby t) = Pass
verdict_by s v i (Rec t) = Pass
verdict_by s v i Let = Pass
verdict_by s v i Check = cond (truth (v (operand s i 0))) Pass Fail
verdict_by s v i Contract = contract_verdict (truth (v (operand s i 0))) (truth (v (operand s i 2)))
verdict_by s v i Unknown = Pass

unfoldable pub verdict : List ℕ → (v : ℕ → ℤ) → (i : ℕ) → Verdict
verdict s v i = verdict_by s v i (kind_at s i)

abbrev pub is_pass : Verdict → Bool
is_pass Pass = true
is_pass Fail = false
is_pass Caller = false
is_pass Body = false

abbrev pub failing : List ℕ → (v : ℕ → ℤ) → (i : ℕ) → Bool
failing s v i = not (is_pass (verdict s v i))

-- "the count of nodes not PASS"
unfoldable pub failures : List ℕ → (v : ℕ → ℤ) → ℕ
failures s v = count (failing s v) (nodes s)

-- "the lowest such node with its verdict, or that there is none"
unfoldable pub lowest_failing : List ℕ → (v : ℕ → ℤ) → Option (Node × Verdict)
lowest_failing s v = let i = lowest (failing s v) 0 (nodes s) in cond (ltb i (nodes s)) (Some (record { 0 = i }, verdict s v i)) None

-- "the number of ticks with any verdict other than PASS", of the first T, where X t i is node i's value at tick t
unfoldable pub failing_ticks : List ℕ → (X : ℕ → ℕ → ℤ) → (T : ℕ) → ℕ
failing_ticks s X T = count (λ t. ltb 0 (failures s (X t))) T
