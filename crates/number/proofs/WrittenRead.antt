-- What is read was written: where a number is read, the bytes up to the next place are that number's bytes.
-- So a number has one written form.
use mathlib.Core.Path.{◌≡◌, refl, sym, ◌∙◌, ap}
use mathlib.Core.List.{List, ◌∷◌, ◌++◌}
use mathlib.Core.Logic.{⊎_elim}
use Prim.Native.Nat.{ℕ, zero, suc, ◌+◌, ◌*◌, ◌/◌, ◌%◌, ◌^◌, ◌<◌, ◌≤◌}
use native.Mathlib.Nat.{pow-succ', one-le-pow}
use native.Mathlib.Omega.{arith}
use lib.Dec.{ltb, leb, eqb}
use lib.ListN.{length, get_or, take, drop}
use lib.Seq.{take-append_seam}
use borrow.Author.Tests.{ltb-true, ltb-false, leb-true, leb-false, eqb-true, eqb-false}
use Rattle.number.specs.Form.{limit, Bytes, bytes_from, bytes_of}
use Rattle.number.specs.Properties.{OneForm}
use Rattle.number.specs.Reading.{Found, number, refused, number_at}
use Rattle.number.specs.Inner.{later_at}
use Rattle.number.proofs.Lists.{either, opened}
use Rattle.number.proofs.Sizes.{from_last, from_more}
use Rattle.number.proofs.Steps.{before, never, first_none, first_last, first_more, later_none, later_zero, later_last, later_more, later_no_more}

-- the bytes from place at on are those of v, and then those from next on
pub record Holds (s : List ℕ) (at v next : ℕ) : Type 0 where
  pub small : v < limit
  pub bytes : drop at s ≡ bytes_of v ++ drop next s
  pub within : next ≤ length s

-- the same after a byte that says more, where f bytes may follow the one at this place
record HoldsLater (f : ℕ) (s : List ℕ) (at v next : ℕ) : Type 0 where
  pub some : 0 < v
  pub small : v < 128 ^ suc f
  pub bytes : drop at s ≡ bytes_from f v ++ drop next s
  pub within : next ≤ length s

-- what the rest gave, where the whole gave a number
record Rest (b v next : ℕ) (d : Found) : Type 0 where
  pub value : ℕ
  pub told : d ≡ number value next
  pub is : v ≡ b % 128 + 128 * value

rest_of : (b v next : ℕ) (d : Found) → before b d ≡ number v next → Rest b v next d
rest_of b v next (number w k) e = record { value = w; told = cc; is = cc }
rest_of b v next (refused n) e = let z : ◌≡◌ {A = ℕ} 0 1 = cc in absurd (omega arith)

at_least : (f : ℕ) → 128 ≤ 128 ^ suc f
at_least f = omega (arith, pow-succ' 128 f, one-le-pow f 128 (omega arith))

module _ (s : List ℕ) (bytes : Bytes s) where
  -- a number of one byte
  single : (f at v next : ℕ) → at < length s → v < 128 → v ≡ get_or s at 0 → at + 1 ≡ next → drop at s ≡ bytes_from f v ++ drop next s
  single f at v next h l ev en =
      opened s at v h ev ∙ ap (λ (k : ℕ). v ∷ drop k s) en ∙ ap (λ (g : List ℕ). g ++ drop next s) (sym (from_last f v l))

  later_single : (f at v next : ℕ) → at < length s → get_or s at 0 < 128 → later_at (suc f) s at ≡ number v next → HoldsLater f s at v next
  later_single f at v next h l e =
      ⊎_elim (λ t. never (later_zero f s at _ h refl (eqb-true _ 0 t)) e)
      (λ t.
      let ne : get_or s at 0 ≡ 0 → ⊥ = eqb-false _ 0 t in
      let z : later_at (suc f) s at ≡ number (get_or s at 0) (at + 1) = later_last f s at _ h refl l ne in
      let ev : v ≡ get_or s at 0 = cc in
      let en : at + 1 ≡ next = cc in
      record {
        some = omega (arith, ne);
        small = omega (arith, at_least f);
        bytes = single f at v next h (omega arith) ev en;
        within = omega arith;
      })
      (either (eqb (get_or s at 0) 0))

  -- a byte that says more, before what was written later
  more_before : (f at v next : ℕ) → at < length s → 128 ≤ get_or s at 0 → Rest (get_or s at 0) v next (later_at (suc f) s (at + 1))
      → ((w : ℕ) → later_at (suc f) s (at + 1) ≡ number w next → HoldsLater f s (at + 1) w next) → HoldsLater (suc f) s at v next
  more_before f at v next h l r go =
      let w : HoldsLater f s (at + 1) r.value next = go r.value r.told in
      let b : get_or s at 0 < 256 = omega (arith, bytes at) in
      let lv : 128 ≤ v = omega (arith, r.is, w.some) in
      let ev : v / 128 ≡ r.value = omega (arith, r.is) in
      let em : 128 + v % 128 ≡ get_or s at 0 = omega (arith, r.is) in
      let p : 128 ^ suc (suc f) ≡ 128 * 128 ^ suc f = pow-succ' 128 (suc f) in
      let g : bytes_from (suc f) v ≡ get_or s at 0 ∷ bytes_from f r.value =
      from_more f v lv ∙ ap (λ (x : ℕ). x ∷ bytes_from f (v / 128)) em ∙ ap (λ (x : ℕ). get_or s at 0 ∷ bytes_from f x) ev in
      record {
        some = omega arith;
        small = omega (arith, r.is, w.small);
        bytes =
            opened s at _ h refl ∙ ap (λ (x : List ℕ). get_or s at 0 ∷ x) w.bytes
            ∙ ap (λ (x : List ℕ). x ++ drop next s) (sym g);
        within = w.within;
      }

  -- nothing is read past the end
  inside : (at v next : ℕ) → number_at s at ≡ number v next → at < length s
  inside at v next e = ⊎_elim (λ t. never (first_none s at (leb-true _ _ t)) e) (λ t. leb-false _ _ t) (either (leb (length s) at))

  later_inside : (f at v next : ℕ) → later_at (suc f) s at ≡ number v next → at < length s
  later_inside f at v next e =
      ⊎_elim (λ t. never (later_none f s at (leb-true _ _ t)) e) (λ t. leb-false _ _ t) (either (leb (length s) at))

  later_holds : (f at v next : ℕ) → later_at (suc f) s at ≡ number v next → HoldsLater f s at v next
  later_holds zero at v next e =
      let h : at < length s = later_inside zero at v next e in
      ⊎_elim (λ t. later_single zero at v next h (ltb-true _ _ t) e)
      (λ t. never (later_more 0 s at _ h refl (ltb-false _ _ t) ∙ ap (before (get_or s at 0)) (later_no_more s (at + 1))) e)
      (either (ltb (get_or s at 0) 128))
  later_holds (suc f) at v next e =
      let h : at < length s = later_inside (suc f) at v next e in
      ⊎_elim (λ t. later_single (suc f) at v next h (ltb-true _ _ t) e)
      (λ t.
      more_before f at v next h (ltb-false _ _ t) (rest_of _ v next _ (sym (later_more (suc f) s at _ h refl (ltb-false _ _ t)) ∙ e))
      (λ w e'. later_holds f (at + 1) w next e'))
      (either (ltb (get_or s at 0) 128))

  pub written_read : (at v next : ℕ) → number_at s at ≡ number v next → Holds s at v next
  unfolding bytes_of
  written_read at v next e =
      let h : at < length s = inside at v next e in
      ⊎_elim
      (λ t.
      let l : get_or s at 0 < 128 = ltb-true _ _ t in
      let z : number_at s at ≡ number (get_or s at 0) (at + 1) = first_last s at _ h refl l in
      let ev : v ≡ get_or s at 0 = cc in
      let en : at + 1 ≡ next = cc in
      record { small = omega arith; bytes = single 4 at v next h (omega arith) ev en; within = omega arith })
      (λ t.
      let l : 128 ≤ get_or s at 0 = ltb-false _ _ t in
      let w : HoldsLater 4 s at v next =
      more_before 3 at v next h l (rest_of _ v next _ (sym (first_more s at _ h refl l) ∙ e)) (λ w e'. later_holds 3 (at + 1) w next e') in
      record { small = w.small; bytes = w.bytes; within = w.within })
      (either (ltb (get_or s at 0) 128))

-- the bytes there are those that would be written
pub one_form : OneForm number_at
one_form s bytes at v next e = ap (take (length (bytes_of v))) (written_read s bytes at v next e).bytes ∙ take-append_seam (bytes_of v) (drop next s)
