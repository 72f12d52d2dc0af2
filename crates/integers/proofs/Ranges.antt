-- Ranges of integers, tested by `le_z` and `lt_z`, as bounds on both parts; and conjunctions of tests taken
-- apart and put together.
use mathlib.Core.Path.{◌≡◌, refl, sym, ◌∙◌}
use mathlib.Core.Bool.{Bool, true, false, ◌&&◌, false≢true, and-false}
use Prim.Native.Nat.{ℕ, zero, suc, ◌+◌, ◌≤◌, ◌<◌}
use native.Mathlib.Omega.{arith}
use lib.Dec.{leb, eqb}
use lib.IntN.{ℤ, pos, neg_ℤ}
use lib.Signed.{le_z, lt_z}
use borrow.Author.Tests.{le-leb, lt-leb, ne_eqb}
use Rattle.integers.proofs.Parts.{pos_part, neg_part, one_part, pos_part_neg, neg_part_neg, le_parts, parts_le, lt_parts, parts_lt}

pub and_true : (a b : Bool) → a && b ≡ true → (a ≡ true) × (b ≡ true)
and_true true b e = (refl, e)
and_true false b e = absurd (false≢true e)

pub true_and : {a b : Bool} → a ≡ true → b ≡ true → a && b ≡ true
true_and {a = true} e f = f
true_and {a = false} e f = absurd (false≢true e)

-- a test without which the whole does not hold, where the whole holds
pub tested : (b : Bool) {whole : Bool} → (b ≡ false → whole ≡ false) → whole ≡ true → b ≡ true
tested true h e = refl
tested false h e = absurd (false≢true (sym (h refl) ∙ e))

-- 0, of the numbers up to m
pub zero_only : (m n : ℕ) → leb n 0 ≡ leb n m && eqb n 0
zero_only m zero = sym (simp (le-leb 0 m (omega arith)))
zero_only m (suc n) = lt-leb (suc n) 0 (omega arith) ∙ sym (simp (ne_eqb (suc n) 0 (λ h. omega arith)) (and-false (leb (suc n) m)))

module _ (l h z : ℤ) where
  -- l ≤ z ≤ h
  pub bounds_parts : (le_z l z && le_z z h) ≡ true → (pos_part l + neg_part z ≤ pos_part z + neg_part l) × (pos_part z + neg_part h ≤ pos_part h + neg_part z)
  bounds_parts e =
      let p = and_true (le_z l z) (le_z z h) e in
      (le_parts l z p.0, le_parts z h p.1)

  pub parts_bounds : pos_part l + neg_part z ≤ pos_part z + neg_part l → pos_part z + neg_part h ≤ pos_part h + neg_part z → (le_z l z && le_z z h) ≡ true
  parts_bounds a b = true_and (parts_le l z a) (parts_le z h b)

module _ (l h : ℕ) (z : ℤ) where
  -- -l ≤ z ≤ h
  pub within_parts : (le_z (neg_ℤ (pos l)) z && le_z z (pos h)) ≡ true → (pos_part z ≤ h) × (neg_part z ≤ l)
  within_parts e =
      let p = and_true (le_z (neg_ℤ (pos l)) z) (le_z z (pos h)) e in
      omega (arith, le_parts (neg_ℤ (pos l)) z p.0, le_parts z (pos h) p.1, pos_part_neg (pos l), neg_part_neg (pos l), one_part z)

  pub parts_within : pos_part z ≤ h → neg_part z ≤ l → (le_z (neg_ℤ (pos l)) z && le_z z (pos h)) ≡ true
  parts_within a b =
      true_and
      (parts_le (neg_ℤ (pos l)) z (omega (arith, pos_part_neg (pos l), neg_part_neg (pos l))))
      (parts_le z (pos h) (omega arith))

  -- -l < z < h
  pub between_parts : 0 < l → 0 < h → (lt_z (neg_ℤ (pos l)) z && lt_z z (pos h)) ≡ true → (pos_part z < h) × (neg_part z < l)
  between_parts k m e =
      let p = and_true (lt_z (neg_ℤ (pos l)) z) (lt_z z (pos h)) e in
      omega (arith, lt_parts (neg_ℤ (pos l)) z p.0, lt_parts z (pos h) p.1, pos_part_neg (pos l), neg_part_neg (pos l), one_part z)

  pub parts_between : pos_part z < h → neg_part z < l → (lt_z (neg_ℤ (pos l)) z && lt_z z (pos h)) ≡ true
  parts_between a b =
      true_and
      (parts_lt (neg_ℤ (pos l)) z (omega (arith, pos_part_neg (pos l), neg_part_neg (pos l))))
      (parts_lt z (pos h) (omega arith))
