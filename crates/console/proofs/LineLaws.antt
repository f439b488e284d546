-- Laws of the lines: how long they are, and of what is printed of a refusal.
use Prim.Native.Nat.{ℕ, ◌≤◌, ◌<◌}
use mathlib.Core.Path.{◌≡◌}
use mathlib.Core.List.{List, ◌++◌}
use native.Mathlib.Omega.{arith}
use Rattle.std.proofs.Common.{Option}
use lib.IntN.{ℤ}
use lib.ListN.{length, length-append}
use mir.Syntax.{w32}
use mir.Val.{SFits}
use Rattle.text.specs.Text.{space, decimal, Puts, Prints}
use Rattle.text.proofs.TextLaws.{decimal-length, integer-length}
use Rattle.text.proofs.LentLaws.{is_word, prints}
use Rattle.sheet.specs.Ruling.{Ruling, refused}
use Rattle.sheet.specs.declared.Node.{Node}
use Rattle.sheet.specs.declared.ValueType.{ValueType}
use Rattle.words.specs.Words.{refused_line}
use Rattle.words.proofs.WordLaws.{type_length}
use Rattle.meaning.specs.declared.Verdict.{Verdict}
use Rattle.meaning.specs.declared.Verdict.TheVariants.{Pass, Fail, Caller, Body}
use Rattle.console.specs.Sheetrun.{ok_line, verdict_word, lowest_words, tick_line, PrintedBy, max_output}
use Rattle.console.specs.Printing.{max_line}

pub ok_length : (N C S : ℕ) (t : ValueType) → N < 1000 → C < 1000 → S < 1000 → length (ok_line N C S t) ≤ 20
unfolding ok_line
ok_length N C S t n c s =
    simp length-append
    (omega (arith, decimal-length 2 N (omega arith), decimal-length 2 C (omega arith), decimal-length 2 S (omega arith), type_length t))

verdict_length : (v : Verdict) → length (verdict_word v) ≤ 6
verdict_length Pass = omega arith
verdict_length Fail = omega arith
verdict_length Caller = omega arith
verdict_length Body = omega arith

pub failing_length : (i : ℕ) (v : Verdict) → i < 65536 → length (verdict_word v ++ (space ++ decimal i)) ≤ 12
failing_length i v l = simp length-append (omega (arith, decimal-length 4 i (omega arith), verdict_length v))

pub tick_line_length : (t : ℕ) (v : ℤ) (w : Option (Node × Verdict)) → t < 1000 → SFits w32 v → length (lowest_words w) ≤ 12 → length (tick_line t v w) ≤ max_line
unfolding tick_line
tick_line_length t v w l f h = simp length-append (omega (arith, decimal-length 2 t (omega arith), integer-length v f))

-- ---- what is printed

pub prints_refusal : {q : Ruling} {number place : ℕ} {before after : List ℕ} {r : ℕ} (s : List ℕ) (rows : List ℤ) (T : ℕ) → q ≡ refused number place →
    Puts 33 (refused_line number place) before after 0 r → Prints max_output (PrintedBy q s rows T) before after r
prints_refusal {q} s rows T e p = rw e (prints p max_output (PrintedBy (refused _ _) s rows T) (is_word p max_output (omega arith)))
