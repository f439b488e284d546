-- Laws of appending to the text in a lent buffer, for a chain of appends, for the text that it leaves and for what then is printed.
use Prim.Native.Nat.{ℕ, ◌+◌, ◌≤◌, ◌<◌}
use mathlib.Core.Path.{◌≡◌, refl, sym, ap, subst, ◌∙◌}
use mathlib.Core.List.{List, [], ◌∷◌, ◌++◌, append-nil, append_assoc}
use native.Mathlib.Numerals.{add-one}
use native.Mathlib.Omega.{arith}
use lib.ListN.{length, take, drop, set, replicate, length-append, length-set, replicate-append-replicate}
use lib.Seq.{take_at, length-take-le}
use Rattle.finite.specs.Lists.{joined}
use Rattle.finite.proofs.ListLaws.{write_more, write_length}
use Rattle.text.specs.Text.{Holds, Appends, Puts, Prints}

-- ---- appending

-- nothing
pub append_none : (xs : List ℕ) (at : ℕ) → Appends [] xs xs at at
append_none xs at =
    record {
      same_length = refl;
      inside = λ h. h;
      more = λ {text} h f. record { contents = rw (append-nil text) h.contents; count = rw (append-nil text) h.count };
    }

-- one word after the other
pub append_then : {u v a b c : List ℕ} {at m r : ℕ} → Appends u a b at m → Appends v b c m r → Appends (u ++ v) a c at r
append_then {u} {v} p q =
    record {
      same_length = q.same_length ∙ p.same_length;
      inside = λ h. omega (arith, q.inside (omega (arith, p.inside h, p.same_length)), p.same_length);
      more = λ {text} h f.
          rw (← append_assoc text u v)
          (q.more (p.more h (omega (arith, length-append u v))) (omega (arith, length-append u v, length-append text u)));
    }

-- one byte, stored
pub append-byte : (xs : List ℕ) (at b : ℕ) → at < length xs → Appends (b ∷ []) xs (set xs at b) at (at + 1)
append-byte xs at b l =
    record {
      same_length = length-set xs at b;
      inside = λ h. omega arith;
      more = λ {text} {old} h f.
          let room : length text < length old = omega arith in
          record {
            contents = rw (h.contents, h.count, length-append) (write_more text old (length text) b refl room);
            count = rw length-append (omega (arith, h.count));
          };
    }

-- one byte, where there is no room
pub append_full : (xs : List ℕ) (at b : ℕ) → length xs ≤ at → Appends (b ∷ []) xs xs at at
append_full xs at b l =
    record {
      same_length = refl;
      inside = λ h. h;
      more = λ {text} {old} h f.
          let same : length xs ≡ length old = ap length h.contents ∙ write_length text old (length text) refl (omega arith) in
          absurd (omega (arith, h.count));
    }

-- ---- what a loop appends

module _ {a b c : List ℕ} {at m r : ℕ} where
  -- one byte more of a row of one byte
  pub append-more : (x n : ℕ) → Appends (replicate n x) a b at m → Appends (x ∷ []) b c m r → Appends (replicate (n + 1) x) a c at r
  append-more x n p q = subst (λ (w : List ℕ). Appends w a c at r) (replicate-append-replicate n 1 x) (append_then p q)

  -- one list more of lists one after the other
  pub append-next : (f : ℕ → List ℕ) (n : ℕ) → Appends (joined f n) a b at m → Appends (f n) b c m r → Appends (joined f (n + 1)) a c at r
  unfolding joined
  append-next f n p q = rw (add-one n) (append_then p q)

pub append-start : (f : ℕ → List ℕ) (xs : List ℕ) (at : ℕ) → Appends (joined f 0) xs xs at at
unfolding joined
append-start f xs at = append_none xs at

-- ---- the text that appends leave

-- before the first append the text is empty
pub holds_none : (old : List ℕ) → Holds [] old old 0
holds_none old = record { contents = refl; count = refl }

-- what is printed of the buffer is the text
pub holds_text : {text old out : List ℕ} {at : ℕ} → Holds text old out at → take at out ≡ text
holds_text {text} {old} h = rw h.contents (take_at text (drop (length text) old) _ (sym h.count))

-- what is written of the buffer lies in it
module _ {word before after : List ℕ} {r : ℕ} (w : Appends word before after 0 r) where
  pub written_inside : r ≤ length after
  written_inside = omega (arith, w.inside (omega arith), w.same_length)

  pub written_length : r ≡ length (take r after)
  written_length = sym (length-take-le r after written_inside)

-- ---- what is printed

pub puts_then : {m n : ℕ} {u v a b c : List ℕ} {at k r : ℕ} → Puts m u a b at k → Puts n v b c k r → Puts (m + n) (u ++ v) a c at r
puts_then {u = u} {v = v} p q = record { appends = append_then p.appends q.appends; short = rw (length-append u v) (omega (arith, p.short, q.short)) }

module _ {most : ℕ} {word before after : List ℕ} {r : ℕ} (p : Puts most word before after 0 r) where
  -- the buffer's first bytes are the word
  pub is_word : (room : ℕ) → most ≤ room → room ≤ length before → take r after ≡ word
  is_word room l h = holds_text (p.appends.more (holds_none before) (omega (arith, p.short)))

  pub prints : (room : ℕ) (P : List ℕ → Type 0) → (room ≤ length before → P (take r after)) → Prints room P before after r
  prints room P text =
      record { same_length = p.appends.same_length; inside = written_inside p.appends; counted = written_length p.appends; text = text }
