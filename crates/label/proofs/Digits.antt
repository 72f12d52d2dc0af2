-- Laws of decimal digits: written and read back.
use Rattle.std.proofs.Common.{◌≡◌, ℕ, ◌+◌, ◌-◌, ◌*◌, ◌/◌, ◌%◌, ◌^◌, ◌<◌, ◌≤◌, Bool, true, false, ltb, leb, ◌⊎◌, sym, refl, ◌∙◌, inl, inr, ⊎_elim, arith, ltb-false, ltb-true, le-leb, leb-true}
use native.Mathlib.Nat.{div-div-eq-div-mul}
use Rattle.integers.proofs.Ranges.{and_true}
use Rattle.label.specs.Label.{digit, digit_zero}
use Rattle.label.specs.Inner.{is_digit, pair_of, Alike, same, large, no_pair}

-- ---- the last two digits of a longer number

pub tens_of_year : (n : ℕ) → digit (n % 100 / 10) ≡ digit (n / 10)
tens_of_year n = omega (arith, div-div-eq-div-mul n 10 10)

pub units_of_year : (n : ℕ) → digit (n % 100) ≡ digit n
units_of_year n = omega arith

-- ---- pairs

abbrev IsDigit : ℕ → Type 0
IsDigit b = (digit_zero ≤ b) × (b ≤ digit_zero + 9)

digit_true : (b : ℕ) → IsDigit b → is_digit b ≡ true
digit_true b p = rw (le-leb digit_zero b p.0, le-leb b (digit_zero + 9) p.1)

-- a pair of digits, and what it reads as
pub record Pair (a b : ℕ) : Type 0 where
  pub tens : IsDigit a
  pub units : IsDigit b
  pub number : pair_of a b ≡ 10 * (a - digit_zero) + (b - digit_zero)

module _ (a b : ℕ) where
  pub pair_digits : IsDigit a → IsDigit b → pair_of a b ≡ 10 * (a - digit_zero) + (b - digit_zero)
  unfolding pair_of
  pair_digits p q = rw (digit_true a p, digit_true b q)

  -- two bytes are digits, or read as 10,000
  pub pair_either : Pair a b ⊎ (pair_of a b ≡ no_pair)
  unfolding pair_of
  pair_either = by_test (is_digit a) refl (is_digit b) refl
    where
      within : (x : ℕ) → is_digit x ≡ true → IsDigit x
      within x e = let p = and_true (leb digit_zero x) (leb x (digit_zero + 9)) e in (leb-true digit_zero x p.0, leb-true x (digit_zero + 9) p.1)

      by_test : (s : Bool) → is_digit a ≡ s → (t : Bool) → is_digit b ≡ t → Pair a b ⊎ (pair_of a b ≡ no_pair)
      by_test true p true q =
          inl (record { tens = within a p; units = within b q; number = pair_digits (within a p) (within b q) })
      by_test true p false q = inr (rw (p, q))
      by_test false p t q = inr (rw p)

  pair_most : pair_of a b ≤ no_pair
  pair_most = ⊎_elim (λ (p : Pair a b). omega (arith, p.number)) (λ (e : pair_of a b ≡ no_pair). omega arith) pair_either

  pub bounded : {r : ℕ} → r ≡ pair_of a b → r ≤ no_pair
  bounded e = rw e pair_most

  -- two digits that were written read as the number
  pub pair_of_two : (v : ℕ) → v < 100 → a ≡ digit (v / 10) → b ≡ digit v → pair_of a b ≡ v
  pair_of_two v h p q = pair_digits (omega arith, omega arith) (omega arith, omega arith) ∙ omega arith

  -- two bytes that read as less than 10,000 are the digits of what they read as
  pub two_of_pair : pair_of a b < no_pair → (pair_of a b < 100) × (a ≡ digit (pair_of a b / 10)) × (b ≡ digit (pair_of a b))
  two_of_pair h =
      ⊎_elim
      (λ (p : Pair a b). (omega (arith, p.number), omega (arith, p.number), omega (arith, p.number)))
      (λ (e : pair_of a b ≡ no_pair). absurd (omega arith))
      pair_either

-- a difference that is not negative wraps to itself
unwrapped : (x k v : ℕ) → x < 2 ^ 32 → k ≤ v → (x + k) % 2 ^ 32 ≡ v → x + k ≡ v
unwrapped x k v h l e = omega arith

-- what `pair` computes: u is b less the digit 0, and n is 10 a + u less ten of it, both wrapped at 2 ^ 32
module _ (a b u : ℕ) (hb : b < 256) (hu : u < 2 ^ 32) (eu : (u + digit_zero) % 2 ^ 32 ≡ b) where
  pub pair_refused : 9 < u → Alike no_pair (pair_of a b)
  pair_refused h = ⊎_elim (λ (p : Pair a b). absurd (omega (arith, p.units))) (λ (e : pair_of a b ≡ no_pair). same (sym e)) (pair_either a b)

  module _ (n : ℕ) (ha : a < 256) (hn : n < 2 ^ 32) (en : (n + 10 * digit_zero) % 2 ^ 32 ≡ 10 * a + u) (small : u ≤ 9) where
    unit : u + digit_zero ≡ b
    unit = omega arith

    pub pair_read : Alike n (pair_of a b)
    pair_read =
        ⊎_elim
        (λ (p : Pair a b).
        let whole : n + 10 * digit_zero ≡ 10 * a + u = unwrapped n (10 * digit_zero) (10 * a + u) hn (omega (arith, p.tens)) en in
        same (omega (arith, unit, p.tens, p.number)))
        (λ (e : pair_of a b ≡ no_pair). by_size (ltb n 100) refl e)
        (pair_either a b)
      where
        by_size : (t : Bool) → ltb n 100 ≡ t → pair_of a b ≡ no_pair → Alike n (pair_of a b)
        by_size true l e =
            let below : n < 100 = ltb-true n 100 l in
            absurd (omega (arith, unit, e, pair_digits a b (omega (arith, unit), omega (arith, unit)) (omega (arith, unit), omega (arith, unit))))
        by_size false l e = large (ltb-false n 100 l) (omega (arith, e))

-- ---- alike numbers

pub alike_small : {m n : ℕ} → Alike m n → m < 100 → m ≡ n
alike_small (same e) h = e
alike_small (large p q) h = absurd (omega arith)

pub small_alike : {m n : ℕ} → Alike m n → n < 100 → m ≡ n
small_alike (same e) h = e
small_alike (large p q) h = absurd (omega arith)

-- what `bounded_pair` makes of it
pub pair_kept : (a b : ℕ) {n : ℕ} → Alike n (pair_of a b) → 100 ≤ n → no_pair ≡ pair_of a b
pair_kept a b w h =
    ⊎_elim
    (λ (p : Pair a b). absurd (omega (arith, small_alike w (omega (arith, p.tens, p.units, p.number)), p.number)))
    sym
    (pair_either a b)
