-- The mapping of signed numbers and its inverse: each undoes the other. And how the code works them out in
-- the bits of any width.
use mathlib.Core.Path.{◌≡◌, refl, ◌∙◌, ap, subst}
use mathlib.Core.Bool.{true, false}
use mathlib.Core.Logic.{⊎_elim}
use Prim.Native.Nat.{ℕ, zero, suc, ◌+◌, ◌*◌, ◌/◌, ◌%◌, ◌^◌, ◌<◌}
use native.Mathlib.Omega.{arith}
use lib.Dec.{T, eqb}
use lib.IntN.{ℤ, pos, negsuc, neg_ℤ, ◌-ℤ◌, ◌*ℤ◌}
use lib.Signed.{lt_z}
use mir.Syntax.{Width, w8, w16, w32, w64, w128}
use mir.Val.{SFits, bits, hbits, to_z, of_z}
use mir.Facts.{to_z-of_z, to_z_pos}
use borrow.Author.Tests.{ltb-true, le-ltb, eqb-true, eqb-false, eq-eqb, ne_eqb}
use Rattle.number.specs.Mapping.{mapped, unmapped}
use Rattle.number.proofs.Lists.{either}

pub even : (n : ℕ) → n % 2 ≡ 0 → unmapped n ≡ pos (n / 2)
unfolding unmapped
even n h = simp (eq-eqb (n % 2) 0 h)

pub odd : (n : ℕ) → (n % 2 ≡ 0 → ⊥) → unmapped n ≡ negsuc (n / 2)
unfolding unmapped
odd n h = simp (ne_eqb (n % 2) 0 h)

pub unmapped_mapped : (z : ℤ) → unmapped (mapped z) ≡ z
unfolding mapped
unmapped_mapped (pos v) = even _ (omega arith) ∙ ap pos (omega arith)
unmapped_mapped (negsuc k) = odd _ (λ h. omega arith) ∙ ap negsuc (omega arith)

pub mapped_unmapped : (n : ℕ) → mapped (unmapped n) ≡ n
unfolding mapped
mapped_unmapped n =
    ⊎_elim (λ t. let h : n % 2 ≡ 0 = eqb-true _ 0 t in ap mapped (even n h) ∙ omega arith)
    (λ t. let h : n % 2 ≡ 0 → ⊥ = eqb-false _ 0 t in ap mapped (odd n h) ∙ omega (arith, h))
    (either (eqb (n % 2) 0))

-- ---- in the bits of a width

double : (w : Width) → 2 ^ bits w ≡ 2 * 2 ^ hbits w
double w8 = refl
double w16 = refl
double w32 = refl
double w64 = refl
double w128 = refl

pub unmapped_fits : {w : Width} (n : ℕ) → n < 2 ^ bits w → SFits w (unmapped n)
unmapped_fits {w} n h =
    ⊎_elim (λ t. rw (even n (eqb-true _ 0 t)) (record { sfits = omega (arith, double w) }))
    (λ t. rw (odd n (eqb-false _ 0 t)) (record { sfits = omega (arith, double w) }))
    (either (eqb (n % 2) 0))

minus : (k : ℕ) → negsuc 0 -ℤ negsuc k ≡ pos k
minus k = simp (le-ltb (suc k) 1 (omega arith)) (ap pos (omega arith))

below : (h : ℕ) → negsuc 0 -ℤ pos h ≡ negsuc h
below zero = refl
below (suc h) = ap negsuc (omega arith)

pub from_twice : (k : ℕ) → negsuc 0 -ℤ negsuc (2 * k + 1) ≡ pos (2 * k + 1)
from_twice k = minus (2 * k + 1)

twice : (k : ℕ) → pos 2 *ℤ negsuc k ≡ negsuc (2 * k + 1)
twice k = let e : 2 * suc k ≡ suc (2 * k + 1) = omega arith in ap (λ (n : ℕ). neg_ℤ (pos n)) e

module _ (w : Width) where
  -- a negative z: 2 z is -2 (k + 1) for a natural number k, and z is written as 2 k + 1
  pub record Negative (z : ℤ) : Type 0 where
    pub k : ℕ
    pub doubled : pos 2 *ℤ z ≡ negsuc (2 * k + 1)
    pub small : k < 2 ^ hbits w
    pub form : mapped z ≡ 2 * k + 1

  pub negative : (z : ℤ) → SFits w z → lt_z z (pos 0) ≡ true → Negative z
  unfolding mapped
  negative (pos n) f t = let z : n < 0 = ltb-true n 0 t in absurd (omega arith)
  negative (negsuc k) f t = record { k = k; doubled = twice k; small = omega (arith, f.sfits); form = omega arith }

  -- z not negative is written as 2 z
  pub record Natural (z : ℤ) : Type 0 where
    pub n : ℕ
    pub is : z ≡ pos n
    pub small : n < 2 ^ hbits w
    pub form : mapped z ≡ 2 * n

  pub natural : (z : ℤ) → SFits w z → lt_z z (pos 0) ≡ false → Natural z
  unfolding mapped
  natural (pos n) f t = record { n = n; is = refl; small = omega (arith, f.sfits); form = refl }
  natural (negsuc k) f t = absurd (subst T t tt)

  -- -1 less half of an odd number
  pub down_fits : {h : ℕ} → h < 2 ^ hbits w → SFits w (negsuc 0 -ℤ to_z w h)
  down_fits l = rw (to_z_pos w l, below) (record { sfits = l })

  pub down : {h : ℕ} → h < 2 ^ hbits w → to_z w (of_z w (negsuc 0 -ℤ to_z w h)) ≡ negsuc h
  down {h} l = to_z-of_z (down_fits l) ∙ rw (to_z_pos w l) (below h)
