-- Laws of appending, of what then is printed, and of numbers in decimal.
use Rattle.std.proofs.Common.{◌≡◌, ℕ, zero, suc, ◌+◌, ◌*◌, ◌/◌, ◌%◌, ◌^◌, ◌≤◌, ◌<◌, cond, ltb, List, [], ◌∷◌, ◌++◌, length, get_or, take, drop, ℤ, pos, negsuc, refl, sym, ap, ◌∙◌, append-nil, append_assoc, pow-suc, add-one, arith, length-append, length-drop, drop-cons, w32, SFits, ltb-true, ltb-false, lt-ltb, le-ltb}
use lib.Seq.{take_at, length-take-le}
use Rattle.std.proofs.Math.Seq.{take_all}
use Rattle.finite.specs.Lists.{joined}
use Rattle.finite.proofs.Tests.{by-test}
use Rattle.text.specs.Text.{decimal_by, decimal, integer, digits_after, digits, Adds, Copied, Prints}

-- ---- appending

-- nothing
pub append_none : (room : ℕ) (xs : List ℕ) → Adds room [] xs xs
append_none room xs = record { appended = λ h. sym (append-nil xs) }

-- one word after the other
pub append_then : {room : ℕ} {u v a b c : List ℕ} → Adds room u a b → Adds room v b c → Adds room (u ++ v) a c
append_then {room} {u} {v} {a} {b} p q =
    record {
      appended = λ h.
          let first : b ≡ a ++ u = p.appended (omega (arith, length-append u v)) in
          rw (q.appended (omega (arith, ap length first, length-append u v, length-append a u)), first) (append_assoc a u v);
    }

-- a word appended to nothing
pub append_first : {room : ℕ} {word before after : List ℕ} → before ≡ [] → Adds room word before after → length word ≤ room → after ≡ word
append_first e p l = rw e at (p.appended (omega (arith, ap length e)))

-- one list more of lists one after the other
pub append_next : {room : ℕ} {a b c : List ℕ} (f : ℕ → List ℕ) (n : ℕ) → Adds room (joined f n) a b → Adds room (f n) b c
    → Adds room (joined f (n + 1)) a c
unfolding joined
append_next f n p q = rw (add-one n) (append_then p q)

-- none of them yet
pub append_start : {room : ℕ} {a : List ℕ} (f : ℕ → List ℕ) → Adds room (joined f 0) a a
unfolding joined
append_start f = append_none _ _

-- ---- what is printed

-- the text is all that is printed, if there is room for it
pub prints_copied : {text before after : List ℕ} {r : ℕ} (room : ℕ) (P : List ℕ → Type 0) → Copied text before after r →
    (room ≤ length before → length text ≤ room × P text) → Prints room P before after r
prints_copied {text} {before} {after} {r} room P k h =
    let whole : length (take r text) ≡ r = length-take-le r text (omega (arith, k.count)) in
    let size : length after ≡ length before = rw k.contents (simp length-append (omega (arith, k.count, whole, length-drop r before))) in
    let inside : r ≤ length after = omega (arith, k.count, size) in
    record {
      same_length = size;
      inside = inside;
      counted = sym (length-take-le r after inside);
      text = λ l.
          let all : take r text ≡ text = take_all r text (omega (arith, k.count, (h l).0)) in
          rw (k.contents, take_at (take r text) (drop r before) r whole, all) (h l).1;
    }

-- ---- numbers in decimal

-- a digit takes no turn
one_digit : (turns n : ℕ) → n < 10 → decimal_by turns n ≡ (48 + n) ∷ []
unfolding decimal_by
one_digit zero n l = refl
one_digit (suc turns) n l = rw (lt-ltb n 10 l)

-- as many turns as the number are enough
enough : (s t n : ℕ) → n ≤ s → n ≤ t → decimal_by s n ≡ decimal_by t n
unfolding decimal_by
enough zero t n l k = sym (one_digit t n (omega arith))
enough (suc s) zero n l k = one_digit (suc s) n (omega arith)
enough (suc s) (suc t) n l k = rw (enough s t (n / 10) (omega arith) (omega arith))

pub decimal-is : (n : ℕ) → decimal n ≡ cond (ltb n 10) ((48 + n) ∷ []) (decimal (n / 10) ++ ((48 + n % 10) ∷ []))
unfolding decimal decimal_by
decimal-is zero = refl
decimal-is (suc n) = rw (enough n (suc n / 10) (suc n / 10) (omega arith) (omega arith))

pub decimal_digit : (n : ℕ) → n < 10 → decimal n ≡ (48 + n) ∷ []
decimal_digit n l = decimal-is n ∙ rw (lt-ltb n 10 l)

pub decimal_more : (n : ℕ) → 10 ≤ n → decimal n ≡ decimal (n / 10) ++ ((48 + n % 10) ∷ [])
decimal_more n l = decimal-is n ∙ rw (le-ltb n 10 l)

-- a number below 10 to the power of k + 1 has k + 1 digits at most
pub decimal-length : (k n : ℕ) → n < 10 ^ suc k → length (decimal n) ≤ suc k
decimal-length zero n l = rw (decimal_digit n l) (omega arith)
decimal-length (suc k) n l =
    by-test (ltb n 10)
    (λ t. rw (decimal_digit n (ltb-true n 10 t)) (omega arith))
    (λ f. rw (decimal_more n (ltb-false n 10 f), length-append)
    (omega (arith, decimal-length k (n / 10) (omega (arith, pow-suc 10 (suc k))))))

-- a number of 32 bits with a sign has 11 characters at most
pub integer-length : (v : ℤ) → SFits w32 v → length (integer v) ≤ 11
unfolding integer
integer-length (pos n) f = omega (arith, decimal-length 9 n (omega arith))
integer-length (negsuc n) f = omega (arith, decimal-length 9 (suc n) (omega arith))

-- the room that a number of 64 bits takes, and one of 32 bits with a sign
pub decimal_room : (n : ℕ) → n < 18446744073709551616 → length (decimal n) ≤ 20
decimal_room n l = decimal-length 19 n (omega arith)

pub integer_room : (v : ℤ) → SFits w32 v → length (integer v) ≤ 11
integer_room v f = integer-length v f

-- ---- numbers read

-- as the code computes it
pub digits_more : (n : ℕ) (word : List ℕ) (i : ℕ) → i < length word →
    digits_after n (drop i word) ≡ digits_after ((n * 10 % 4294967296 + get_or word i 0 % 16) % 4294967296) (drop (i + 1) word)
unfolding digits_after
digits_more n word i l =
    let e : (n * 10 + get_or word i 0 % 16) % 4294967296 ≡ (n * 10 % 4294967296 + get_or word i 0 % 16) % 4294967296 = omega arith in
    rw (← e, drop-cons word i 0 l, add-one) refl

digits_last : (n : ℕ) (word : List ℕ) (b : ℕ) → digits_after n (word ++ (b ∷ [])) ≡ (digits_after n word * 10 + b % 16) % 4294967296
unfolding digits_after
digits_last n [] b = refl
digits_last n (d ∷ word) b = digits_last ((n * 10 + d % 16) % 4294967296) word b

-- the digit of a byte, and a number from its digits
last_digit : (n : ℕ) → n < 4294967296 → (n / 10 * 10 + (48 + n % 10) % 16) % 4294967296 ≡ n
last_digit n h =
    let low : (48 + n % 10) % 16 ≡ n % 10 = omega arith in
    let all : n / 10 * 10 + n % 10 ≡ n = omega arith in
    rw (low, all) (omega arith)

-- as many turns as there may be digits
digits_by : (k n : ℕ) → n < 10 ^ suc k → n < 4294967296 → digits (decimal n) ≡ n
unfolding digits digits_after
digits_by zero n l h = rw (decimal_digit n l) (omega arith)
digits_by (suc k) n l h =
    by-test (ltb n 10)
    (λ t. rw (decimal_digit n (ltb-true n 10 t)) (omega (arith, ltb-true n 10 t)))
    (λ f. let rest : digits_after 0 (decimal (n / 10)) ≡ n / 10 = digits_by k (n / 10) (omega (arith, pow-suc 10 (suc k))) (omega arith) in
    rw (decimal_more n (ltb-false n 10 f), digits_last, rest) (last_digit n h))

-- a number below 2 ^ 32 is read back
pub digits_decimal : (n : ℕ) → n < 4294967296 → digits (decimal n) ≡ n
digits_decimal n l = digits_by 9 n (omega arith) l
