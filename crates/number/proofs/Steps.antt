-- What stands at a place, by the byte there: one law for each case of the first byte (`first-..`) and of one
-- that follows a byte that says more (`later-..`).
use mathlib.Core.Path.{◌≡◌, refl, sym, ◌∙◌, ap}
use mathlib.Core.Bool.{Bool, true, false, cond}
use mathlib.Core.List.{List, ◌∷◌}
use Prim.Native.Nat.{ℕ, suc, ◌+◌, ◌*◌, ◌%◌, ◌<◌, ◌≤◌}
use native.Mathlib.Nat.{mul-add, mul_assoc, add_assoc}
use native.Mathlib.Omega.{arith}
use lib.Dec.{leb, eqb, leb-suc-suc, leb-suc-zero, leb-zero}
use lib.ListN.{length, get_or, take, drop, drop_of_length-le}
use borrow.Author.Tests.{le-leb, lt-leb, lt-ltb, eq-eqb, ne_eqb}
use Rattle.number.specs.Reading.{Found, number, refused, leading_more, value_of, judged, number_at}
use Rattle.number.specs.Inner.{judged_later, later_at, onto}
use Rattle.number.proofs.Lists.{opened}

-- a byte that says more, before what the rest gives
abbrev pub before : ℕ → Found → Found
before b (number v k) = number (b % 128 + 128 * v) k
before b (refused n) = refused n

-- a byte that says more, on top of what was read
pub onto_before : (low unit b : ℕ) (x : Found) → onto low unit (before b x) ≡ onto (low + unit * (b % 128)) (unit * 128) x
onto_before low unit b (number v k) =
    ap (λ (m : ℕ). number m k)
    (ap (λ (m : ℕ). low + m) (mul-add unit (b % 128) (128 * v)) ∙ sym (add_assoc low (unit * (b % 128)) (unit * (128 * v)))
    ∙ ap (λ (m : ℕ). low + unit * (b % 128) + m) (sym (mul_assoc unit 128 v)))
onto_before low unit b (refused n) = refl

-- no refusal is a number
pub never : {X : Type 0} {d : Found} {r v next : ℕ} → d ≡ refused r → d ≡ number v next → X
never p q = let z : ◌≡◌ {A = ℕ} 0 1 = cc in absurd (omega arith)

-- ---- how many bytes say more

leading_more_lem : (b : ℕ) (bs : List ℕ) → 128 ≤ b → leading_more (b ∷ bs) ≡ suc (leading_more bs)
unfolding leading_more
leading_more_lem b bs h = simp (le-leb 128 b h)

leading_last : (b : ℕ) (bs : List ℕ) → b < 128 → leading_more (b ∷ bs) ≡ 0
unfolding leading_more
leading_last b bs h = simp (lt-leb 128 b h)

-- ---- the three refusals, one after the other

abbrev pub checked : Bool → Bool → Bool → Found → Found
checked t u w x = cond t (refused 11) (cond u (refused 10) (cond w (refused 11) x))

before_checked : (b : ℕ) (t u w : Bool) (x : Found) → checked t u w (before b x) ≡ before b (checked t u w x)
before_checked b true u w x = refl
before_checked b false true w x = refl
before_checked b false false true x = refl
before_checked b false false false x = refl

-- a byte that says more leaves one byte less for the rest
module _ (at b : ℕ) (bs : List ℕ) (k : ℕ) where
  longer : number (value_of (take (suc (suc k)) (b ∷ bs))) (at + suc (suc k)) ≡ before b (number (value_of (take (suc k) bs)) (at + 1 + suc k))
  unfolding value_of
  longer = ap (number (b % 128 + 128 * value_of (take (suc k) bs))) (omega arith)

  judged_more : judged at (b ∷ bs) (suc k) ≡ before b (judged_later 4 (at + 1) bs k)
  unfolding judged judged_later
  judged_more =
      rw (leb-suc-suc 4 k, leb-suc-suc (length bs) k, lt-ltb 0 (suc k) (omega arith), longer)
      (before_checked b (leb 4 k) (leb (length bs) k) (eqb (get_or bs k 0) 0) _)

  judged_later_more : (f : ℕ) → judged_later (suc f) at (b ∷ bs) (suc k) ≡ before b (judged_later f (at + 1) bs k)
  unfolding judged_later
  judged_later_more f =
      rw (leb-suc-suc f k, leb-suc-suc (length bs) k, longer)
      (before_checked b (leb f k) (leb (length bs) k) (eqb (get_or bs k 0) 0) _)

-- ---- the first byte

module _ (s : List ℕ) (at : ℕ) where
  pub first_none : length s ≤ at → number_at s at ≡ refused 10
  unfolding number_at judged leading_more
  first_none h = ap (λ (bs : List ℕ). judged at bs (leading_more bs)) (drop_of_length-le s h)

  module _ (b : ℕ) (h : at < length s) (e : b ≡ get_or s at 0) where
    here₁ : number_at s at ≡ judged at (b ∷ drop (at + 1) s) (leading_more (b ∷ drop (at + 1) s))
    unfolding number_at
    here₁ = ap (λ (bs : List ℕ). judged at bs (leading_more bs)) (opened s at b h e)

    pub first_last : b < 128 → number_at s at ≡ number b (at + 1)
    unfolding judged value_of
    first_last l =
        here₁ ∙ ap (judged at (b ∷ drop (at + 1) s)) (leading_last b _ l) ∙ simp (leb-suc-zero) (ap (λ (v : ℕ). number v (at + 1)) (omega arith))

    pub first_more : 128 ≤ b → number_at s at ≡ before b (later_at 4 s (at + 1))
    unfolding later_at
    first_more l = here₁ ∙ ap (judged at (b ∷ drop (at + 1) s)) (leading_more_lem b _ l) ∙ judged_more at b (drop (at + 1) s) (leading_more (drop (at + 1) s))

-- ---- a byte after one that says more

pub later_no_more : (s : List ℕ) (at : ℕ) → later_at 0 s at ≡ refused 11
unfolding later_at judged_later
later_no_more s at = simp (leb-zero)

module _ (f : ℕ) (s : List ℕ) (at : ℕ) where
  pub later_none : length s ≤ at → later_at (suc f) s at ≡ refused 10
  unfolding later_at judged_later leading_more
  later_none h = ap (λ (bs : List ℕ). judged_later (suc f) at bs (leading_more bs)) (drop_of_length-le s h) ∙ simp (leb-suc-zero)

  module _ (b : ℕ) (h : at < length s) (e : b ≡ get_or s at 0) where
    here₂ : later_at (suc f) s at ≡ judged_later (suc f) at (b ∷ drop (at + 1) s) (leading_more (b ∷ drop (at + 1) s))
    unfolding later_at
    here₂ = ap (λ (bs : List ℕ). judged_later (suc f) at bs (leading_more bs)) (opened s at b h e)

    pub later_zero : b ≡ 0 → later_at (suc f) s at ≡ refused 11
    unfolding judged_later
    later_zero z =
        here₂ ∙ ap (judged_later (suc f) at (b ∷ drop (at + 1) s)) (leading_last b _ (omega arith)) ∙ simp (leb-suc-zero, eq-eqb b 0 z)

    pub later_last : b < 128 → (b ≡ 0 → ⊥) → later_at (suc f) s at ≡ number b (at + 1)
    unfolding judged_later value_of
    later_last l z =
        here₂ ∙ ap (judged_later (suc f) at (b ∷ drop (at + 1) s)) (leading_last b _ l)
        ∙ simp (leb-suc-zero, ne_eqb b 0 z) (ap (λ (v : ℕ). number v (at + 1)) (omega arith))

    pub later_more : 128 ≤ b → later_at (suc f) s at ≡ before b (later_at f s (at + 1))
    unfolding later_at
    later_more l =
        here₂ ∙ ap (judged_later (suc f) at (b ∷ drop (at + 1) s)) (leading_more_lem b _ l)
        ∙ judged_later_more at b (drop (at + 1) s) (leading_more (drop (at + 1) s)) f
