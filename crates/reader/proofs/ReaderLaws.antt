-- A record that words tell has six bytes.
use Rattle.std.proofs.Common.{◌≡◌, ℕ, eqb, List, length}
use Rattle.finite.proofs.Tests.{by-test}
use Rattle.listing.specs.Telling.{constant_record, name_record, record_told, record_of, is_number, is_constant, numbered, name_no}

constant_record-length : (kind : ℕ) (w : List ℕ) → length (constant_record kind w) ≡ 6
unfolding constant_record record_of
constant_record-length kind w = by-test (is_number w) (λ t. rw t) (λ f. rw f)

name_record-length : (n : ℕ) (v : List ℕ) → length (name_record n v) ≡ 6
unfolding name_record record_of
name_record-length n v =
    by-test (eqb n 14) (λ t. rw t (constant_record-length 4 v)) (λ f. rw f (by-test (eqb n 15) (λ t. rw t) (λ f. rw f)))

pub record_length : (w v : List ℕ) → length (record_told w v) ≡ 6
unfolding record_told record_of
record_length w v =
    by-test (is_constant w) (λ t. rw t (constant_record-length 0 w))
    (λ f. rw f (by-test (numbered 118 w) (λ t. rw t)
    (λ f. rw f (by-test (numbered 105 w) (λ t. rw t) (λ f. rw f (name_record-length (name_no w) v))))))
