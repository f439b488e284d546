-- The equations in the form that an order of work goes by. Document 01's equation of a VAR of a REC reads the REC's operand, but the VAR's need
-- is the REC node: here each right side looks at needs alone. Both forms have the same solutions.
use Rattle.std.specs.Prelude.{ℕ, cond, List, ℤ}
use Rattle.table.specs.Streams.{Machine}
use Rattle.sheet.specs.Bytes.{nodes, kind_at, argument, operand, is_var}
use Rattle.sheet.specs.declared.Kind.{Kind}
use Rattle.rules.specs.Scope.{fby_at}
use Rattle.order.specs.Needs.{named_need, needs}
use Rattle.meaning.specs.Equations.{literal, value_by}

-- as `value_by` and `value`, but a VAR reads what it needs
unfoldable pub local_by : List ℕ → (row : List ℤ) → (delayed : ℤ) → (v : ℕ → ℤ) → (i : ℕ) → Kind → ℤ
local_by s row delayed v i k = cond (is_var k) (v (named_need s (argument s i) (kind_at s (argument s i)))) (value_by s row delayed v i k)

unfoldable pub local_value : List ℕ → (row : List ℤ) → (delayed : ℤ) → (v : ℕ → ℤ) → (i : ℕ) → ℤ
local_value s row delayed v i = local_by s row delayed v i (kind_at s i)

-- the right sides of a tick's equations, where FBY i answers `held i`
abbrev pub sides : List ℕ → (row : List ℤ) → (held : ℕ → ℤ) → (i : ℕ) → (v : ℕ → ℤ) → ℤ
sides s row held i v = local_value s row (held i) v i

-- the sheet over ticks, with what each node remembers from tick to tick: a FBY its operand's value
unfoldable pub machine : List ℕ → Machine ℤ ℤ (List ℤ)
machine s =
    record {
      N = nodes s;
      needs = needs s;
      init = literal s;
      rhs = λ row i m v. local_value s row m v i;
      upd = λ i m v. cond (fby_at s i) (v (operand s i 0)) m;
    }
