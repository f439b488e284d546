-- Rules 1 to 6 pass exactly where the plain statements of `Formed` hold.
use Prim.Native.Nat.{ℕ, ◌+◌, ◌-◌, ◌*◌, ◌≤◌, ◌<◌}
use mathlib.Core.Path.{◌≡◌, sym, ap}
use mathlib.Core.Logic.{◌↔◌}
use mathlib.Core.Bool.{Bool, true, false, not, ◌&&◌, ◌||◌}
use mathlib.Core.List.{List}
use native.Mathlib.Omega.{arith}
use lib.ListN.{length}
use lib.Dec.{ltb, leb, eqb}
use borrow.Author.Tests.{ltb-false, le-ltb, leb-true, le-leb, eqb-true, eq-eqb, not-false}
use Rattle.finite.proofs.Tests.{and_l, and_r, and_both, or_left, or_right}
use Rattle.sheet.specs.Ceilings.{max_columns, max_nodes}
use Rattle.sheet.specs.Ruling.{Ruling, passed, ◌then◌}
use Rattle.sheet.specs.Bytes.{byte, stated, columns, nodes, end_of}
use Rattle.sheet.specs.Form.{untyped, whole_body, bad_record, length_version, column_types, body, records, shape, form, Formed}
use Rattle.sheet.proofs.RulingLaws.{rule-passed, each-passed, then_passed}

both : {a b : Ruling} → a ≡ passed → b ≡ passed → a then b ≡ passed
both p q = (then_passed _ _).1 (p, q)

module _ (s : List ℕ) where
  -- the bytes after the columns, as a test and plainly
  pub body-whole : (whole_body s ≡ true) ↔ ((4 + columns s + 6 * nodes s ≡ length s) × (1 ≤ nodes s) × (nodes s ≤ max_nodes))
  unfolding whole_body
  body-whole =
      let fits : Bool = eqb (4 + columns s + 6 * nodes s) (length s) in
      let some : Bool = leb 1 (nodes s) in (
        λ e. (eqb-true _ _ (and_l fits some (and_l (fits && some) _ e)), leb-true _ _ (and_r fits some (and_l (fits && some) _ e)), leb-true _ _ (and_r (fits && some) _ e)),
        λ h. and_both (fits && some) _ (and_both fits some (eq-eqb _ _ h.0) (le-leb _ _ h.1)) (le-leb _ _ h.2),
      )

  -- a body that passes has no more nodes than the ceiling
  pub body_few : passed ≡ body s → nodes s ≤ max_nodes
  unfolding body
  body_few e = (body-whole.0 (not-false _ ((rule-passed _ _ _).0 (sym e)))).2

  formed : form s ≡ passed → Formed s
  unfolding form length_version column_types body records shape
  formed e =
      let r₁ = (then_passed _ _).0 e in
      let r₃ = (then_passed _ _).0 r₁.1 in
      let r₄ = (then_passed _ _).0 r₃.1 in
      let r₅ = (then_passed _ _).0 r₄.1 in
      let length-version = (then_passed _ _).0 r₁.0 in
      let column-types = (then_passed _ _).0 r₃.0 in
      let whole = body-whole.0 (not-false _ ((rule-passed _ _ _).0 r₄.0)) in
      record {
        sized = eqb-true _ _ (not-false _ (or_right (ltb (length s) 4) _ ((rule-passed _ _ _).0 length-version.0)));
        version = eqb-true _ _ (not-false _ ((rule-passed _ _ _).0 length-version.1));
        narrow = ltb-false _ _ (or_left (ltb max_columns (columns s)) _ ((rule-passed _ _ _).0 column-types.0));
        types = λ c h. ltb-false 1 _ ((each-passed _ _ _ _).0 column-types.1 (4 + c) (omega arith) (omega arith));
        whole = whole.0;
        some = whole.1;
        few = whole.2;
        records = λ i h. (each-passed _ _ _ _).0 r₅.0 i (omega arith) (omega arith);
        root = eqb-true _ _ (not-false _ ((rule-passed _ _ _).0 r₅.1));
      }

  accepted : Formed s → form s ≡ passed
  unfolding form length_version column_types body records shape
  accepted f =
      let r₁ : (ltb (length s) 4 || not (eqb (stated s) (length s))) ≡ false = simp (le-ltb (length s) 4 (omega arith), eq-eqb _ _ f.sized) in
      let r₂ : not (eqb (byte s 2) 1) ≡ false = ap not (eq-eqb _ _ f.version) in
      let r₃ : (ltb max_columns (columns s) || ltb (length s) (4 + columns s)) ≡ false = simp (le-ltb _ _ f.narrow, le-ltb (length s) (4 + columns s) (omega arith)) in
      let types : (i : ℕ) → 4 ≤ i → i < 4 + columns s → untyped s i ≡ false =
      λ i l u. le-ltb 1 _ (let e : 4 + (i - 4) ≡ i = omega arith in rw e at (f.types (i - 4) (omega arith))) in
      let r₄ : not (whole_body s) ≡ false = ap not (body-whole.1 (f.whole, f.some, f.few)) in
      let r₅ : (i : ℕ) → 0 ≤ i → i < 0 + nodes s → bad_record s i ≡ false = λ i l u. f.records i (omega arith) in
      let r₆ : not (eqb (end_of s 0) (nodes s)) ≡ false = ap not (eq-eqb _ _ f.root) in
      both (both ((rule-passed _ _ _).1 r₁) ((rule-passed _ _ _).1 r₂))
      (both (both ((rule-passed _ _ _).1 r₃) ((each-passed _ _ _ _).1 types))
      (both ((rule-passed _ _ _).1 r₄) (both ((each-passed _ _ _ _).1 r₅) ((rule-passed _ _ _).1 r₆))))

  pub form_iff : (form s ≡ passed) ↔ Formed s
  form_iff = (formed, accepted)
