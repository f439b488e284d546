-- Laws of a text's first word: what stands from the first byte that does not part to the next that does.
use Rattle.std.proofs.Common.{◌≡◌, ℕ, suc, ◌+◌, ◌<◌, ◌≤◌, not, cond, List, [], ◌∷◌, length, take, drop, Option, Some, None, MatchOption, Bor, sym, refl, ap, ◌∙◌, arith, unwrap_or, ltb, ltb-true, ltb-false, drop_of_length-le, length-drop}
use Rattle.std.specs.List.{position_or_len}
use Rattle.std.proofs.lemmas.List.Folds.{length-prefix_len}
use Rattle.std.proofs.lemmas.Option.{none-some, cond_some}
use Rattle.finite.proofs.Tests.{by-test}
use Rattle.listing.specs.Telling.{parts, split, filled, words}
use Rattle.listing.proofs.SplitLaws.{apart, words-after, words_nil}
use Rattle.reader.specs.Reading.{FirstWord, FrontWord}

one_more : (n : ℕ) → 1 + n ≡ suc n
one_more n = omega arith

-- the bytes that part before the first word are passed over
lead : (t : List ℕ) → words (drop (position_or_len apart t) t) ≡ words t
lead [] = refl
lead (b ∷ t) =
    by-test (parts b) (λ p. rw (p, one_more (position_or_len apart t)) (lead t ∙ sym (words-after b t p))) (λ p. rw p)

-- what comes after the word of which the first bytes are cut off
rest : List ℕ → List (List ℕ)
rest [] = []
rest (b ∷ t) = split t

split_first : (t : List ℕ) → split t ≡ take (position_or_len parts t) t ∷ rest (drop (position_or_len parts t) t)
unfolding split rest
split_first [] = refl
split_first (b ∷ t) = by-test (parts b) (λ p. rw p) (λ p. rw (p, split_first t, one_more (position_or_len parts t)))

rest_words : (t : List ℕ) → filled (rest (drop (position_or_len parts t) t)) ≡ words (drop (position_or_len parts t) t)
unfolding rest words split filled
rest_words [] = refl
rest_words (b ∷ t) = by-test (parts b) (λ p. rw p (sym (words-after b t p))) (λ p. rw (p, one_more (position_or_len parts t)) (rest_words t))

word-some : (t : List ℕ) → position_or_len apart t < length t → 0 < position_or_len parts (drop (position_or_len apart t) t)
word-some [] l = absurd (omega arith)
word-some (b ∷ t) l =
    by-test (parts b)
    (λ p. rw (p, one_more (position_or_len apart t)) (word-some t (omega (arith, rw (p, one_more (position_or_len apart t)) at l))))
    (λ p. rw (p, p) (omega arith))

filled_word : (w : List ℕ) (ws : List (List ℕ)) → 0 < length w → filled (w ∷ ws) ≡ w ∷ filled ws
unfolding filled
filled_word [] ws l = absurd (omega arith)
filled_word (b ∷ w) ws l = refl

word_here : (t : List ℕ) → 0 < position_or_len parts t → words t ≡ take (position_or_len parts t) t ∷ words (drop (position_or_len parts t) t)
unfolding words
word_here t l =
    let k = position_or_len parts t in
    ap filled (split_first t) ∙ filled_word (take k t) (rest (drop k t)) (omega (arith, l, length-prefix_len (λ b. not (parts b)) t))
    ∙ ap (λ (ws : List (List ℕ)). take k t ∷ ws) (rest_words t)

-- what `position` answers
pub position_some : {k n i : ℕ} {o : Option ℕ} → o ≡ cond (ltb k n) (Some k) None → o ≡ Some i → (i ≡ k) × (i < n)
position_some {k} {n} {i} e h =
    let is = cond_some (ltb k n) k i (sym e ∙ h) in (sym is.1, omega (arith, ltb-true k n is.0, is.1))

pub position_none : {k n : ℕ} {o : Option ℕ} → o ≡ cond (ltb k n) (Some k) None → o ≡ None → n ≤ k
position_none {k} {n} e h =
    by-test (ltb k n) (λ t. absurd (none-some k (sym h ∙ e ∙ rw t refl))) (λ f. ltb-false k n f)

pub position_or : {k n : ℕ} {o : Option ℕ} → o ≡ cond (ltb k n) (Some k) None → k ≤ n → unwrap_or o n ≡ k
position_or {k} {n} e l = by-test (ltb k n) (λ t. rw (e, t)) (λ f. rw (e, f) (omega (arith, ltb-false k n f)))

module _ (t : List ℕ) where
  pub first_none : length t ≤ position_or_len apart t → words t ≡ []
  first_none l = sym (lead t) ∙ rw (drop_of_length-le t l) words_nil

  pub first_some : {from to : ℕ} → from ≡ position_or_len apart t → from < length t → to ≡ position_or_len parts (drop from t)
      → FirstWord t (take to (drop from t)) (drop to (drop from t))
  first_some {from} {to} e l h =
      let some : 0 < position_or_len parts (drop from t) = rw e (word-some t (rw e at l)) in
      record {
        words_are = sym (lead t) ∙ rw (← e, h) (word_here (drop from t) some);
        shorter = omega (arith, some, h, length-drop to (drop from t), length-drop from t);
      }

-- the word of a text that may have none
pub front_word : {t : List ℕ} (o : Option (Bor (List ℕ) × Bor (List ℕ))) (none : Bor (List ℕ) × Bor (List ℕ)) → none.0.now ≡ [] → none.1.now ≡ []
    → MatchOption o (words t ≡ []) (λ found. FirstWord t found.0.now found.1.now) → FrontWord t (unwrap_or o none).0.now (unwrap_or o none).1.now
front_word None none e h k = record { word_is = rw k e; rest_are = rw (k, h, words_nil); within = rw h (omega arith) }
front_word (Some found) none e h k =
    record { word_is = rw k.words_are refl; rest_are = rw k.words_are refl; within = omega (arith, k.shorter) }
