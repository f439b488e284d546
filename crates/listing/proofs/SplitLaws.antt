-- Laws of the words of a text: of texts one after the other, of one word, and of none.
use Prim.Native.Nat.{ℕ, zero, suc, ◌<◌}
use mathlib.Core.Path.{◌≡◌, refl, ◌∙◌}
use mathlib.Core.Bool.{Bool, true, not}
use mathlib.Core.List.{List, [], ◌∷◌, ◌++◌, append-nil}
use native.Mathlib.Omega.{arith}
use lib.ListN.{length, replicate}
use borrow.Author.Tests.{not-true}
use Rattle.finite.specs.Lists.{all}
use Rattle.finite.proofs.Tests.{by-test, and_l, and_r}
use Rattle.listing.specs.Telling.{parts, grown, split, filled, words}

-- a byte that is part of a word
abbrev pub apart : ℕ → Bool
apart b = not (parts b)

split-some : (t : List ℕ) → 0 < length (split t)
unfolding split
split-some [] = omega arith
split-some (b ∷ t) = by-test (parts b) (λ p. rw p (omega arith)) (λ p. rw p (some (split t)))
  where
    some : (ws : List (List ℕ)) → 0 < length (grown b ws)
    some [] = omega arith
    some (w ∷ ws) = omega arith

grown-more : (b : ℕ) (ws vs : List (List ℕ)) → 0 < length ws → grown b (ws ++ vs) ≡ grown b ws ++ vs
grown-more b [] vs l = absurd (omega arith)
grown-more b (w ∷ ws) vs l = refl

split_part : (x : List ℕ) (b : ℕ) (y : List ℕ) → parts b ≡ true → split (x ++ (b ∷ y)) ≡ split x ++ split y
unfolding split
split_part [] b y e = rw e
split_part (c ∷ x) b y e =
    by-test (parts c) (λ p. rw (p, split_part x b y e)) (λ p. rw (p, split_part x b y e) (grown-more c (split x) (split y) (split-some x)))

filled_more : (ws vs : List (List ℕ)) → filled (ws ++ vs) ≡ filled ws ++ filled vs
unfolding filled
filled_more [] vs = refl
filled_more ([] ∷ ws) vs = filled_more ws vs
filled_more ((b ∷ w) ∷ ws) vs = rw (filled_more ws vs)

pub words_part : (x : List ℕ) (b : ℕ) (y : List ℕ) → parts b ≡ true → words (x ++ (b ∷ y)) ≡ words x ++ words y
unfolding words
words_part x b y e = rw (split_part x b y e) (filled_more (split x) (split y))

-- a byte that parts, before anything
pub words-after : (b : ℕ) (y : List ℕ) → parts b ≡ true → words (b ∷ y) ≡ words y
unfolding words split filled
words-after b y e = rw e

pub words_nil : words [] ≡ []
unfolding words split filled
words_nil = refl

split_one : (w : List ℕ) → all apart w ≡ true → split w ≡ w ∷ []
unfolding split all
split_one [] e = refl
split_one (b ∷ w) e = rw (not-true (parts b) (and_l (apart b) (all apart w) e), split_one w (and_r (apart b) (all apart w) e))

-- a text that is not empty and none of whose bytes part is its only word
pub words_one : (w : List ℕ) → all apart w ≡ true → 0 < length w → words w ≡ w ∷ []
unfolding words filled
words_one [] e l = absurd (omega arith)
words_one (b ∷ w) e l = rw (split_one (b ∷ w) e)

-- a text of which every byte parts has no words
words_none : (t : List ℕ) → all parts t ≡ true → words t ≡ []
unfolding all
words_none [] e = words_nil
words_none (b ∷ t) e = words-after b t (and_l (parts b) (all parts t) e) ∙ words_none t (and_r (parts b) (all parts t) e)

-- such bytes after a text
pub words_closed : (x : List ℕ) (b n : ℕ) → parts b ≡ true → words (x ++ replicate n b) ≡ words x
words_closed x b zero e = rw (append-nil x)
words_closed x b (suc n) e =
    words_part x b (replicate n b) e ∙ rw (words_closed [] b n e, words_nil) (append-nil (words x))
