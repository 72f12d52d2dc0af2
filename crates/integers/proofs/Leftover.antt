-- Two sums that are carried one into the other, in one step and in many. Each step adds r to a small sum that
-- starts less than b from 0 at l, and carries the whole multiples of b in it, dropping the fraction towards
-- zero, as units into a large sum beside its own a; of that the multiples of w are carried on. What j steps
-- carry is one division each.
use mathlib.Core.Path.{◌≡◌, refl, sym, ◌∙◌, ap}
use mathlib.Core.Logic.{◌⊎◌, inl, inr, ⊎_elim}
use Prim.Native.Nat.{ℕ, zero, suc, ◌*◌, ◌/◌, ◌≤◌, ◌<◌}
use native.Mathlib.Nat.{div-eq_of_lt, div-lt_iff_lt-mul, mul-le-mul_left, suc-mul, mul-suc}
use native.Mathlib.Omega.{arith}
use lib.IntN.{ℤ, pos, negsuc, ◌+ℤ◌, ◌*ℤ◌, suc_ℤ-*ℤ, +ℤ_assoc}
use lib.Signed.{quot_z, rem_z}
use Rattle.integers.proofs.Parts.{pos_part, neg_part, parts, pos_part_add, neg_part_add, pos_part_quot, neg_part_quot}
use Rattle.integers.proofs.Linear.{self, add, times}
use Rattle.integers.proofs.Carrying.{Way, rises, falls, rest, same, rest_lt, rem_rest, carry_step, rest_step, steps_way}

-- the small sum with j steps, the units in it, and what they leave
abbrev pub sums : ℤ → ℤ → ℕ → ℤ
sums l r j = l +ℤ pos j *ℤ r

abbrev pub units : ℕ → ℤ → ℤ → ℕ → ℤ
units b l r j = quot_z (sums l r j) (pos b)

abbrev pub left : ℕ → ℤ → ℤ → ℕ → ℤ
left b l r j = rem_z (sums l r j) (pos b)

-- the unit of the step after j steps
abbrev pub unit : ℕ → ℤ → ℤ → ℕ → ℤ
unit b l r j = quot_z (left b l r j +ℤ r) (pos b)

-- the large sum with the units of j steps and j of its own
abbrev pub large_sums : ℕ → ℤ → ℤ → ℤ → ℤ → ℕ → ℤ
large_sums b l r p a j = p +ℤ units b l r j +ℤ pos j *ℤ a

less : {x y b : ℕ} → 0 < b → x < y * b → x / b < y
less h l = (div-lt_iff_lt-mul h).1 l

one_sign : (r : ℤ) → (pos_part r ≡ 0) ⊎ (neg_part r ≡ 0)
one_sign (pos n) = inr refl
one_sign (negsuc n) = inl refl

-- a step of a and at most one unit v, after j of a and units u, where all units go one way
way_of : {w : ℕ} (p a u v : ℤ) (j : ℕ) → (pos_part p < w) × (neg_part p < w) → (pos_part u ≤ j) × (neg_part u ≤ j) → (pos_part v ≤ 1) × (neg_part v ≤ 1)
    → ((pos_part u ≡ 0) × (pos_part v ≡ 0)) ⊎ ((neg_part u ≡ 0) × (neg_part v ≡ 0)) → Way (p +ℤ u +ℤ pos j *ℤ a) (a +ℤ v) w
way_of p (pos zero) u v j hp hu hv (inl e) = falls (simp parts (omega arith)) (simp parts (omega arith))
way_of p (pos zero) u v j hp hu hv (inr e) = rises (simp parts (omega arith)) (simp parts (omega arith))
way_of p (pos (suc x)) u v j hp hu hv e = rises (simp parts (omega arith)) (simp parts (omega (arith, mul-suc j x)))
way_of p (negsuc x) u v j hp hu hv e = falls (simp parts (omega arith)) (simp parts (omega (arith, mul-suc j x)))

module _ (b : ℕ) (h : 0 < b) (l r : ℤ) (hl : (pos_part l < b) × (neg_part l < b)) (hr : (pos_part r < b) × (neg_part r < b)) (j : ℕ) where
  next_sums : sums l r (suc j) ≡ sums l r j +ℤ r
  next_sums = rw (suc_ℤ-*ℤ (pos j) r) (sym (+ℤ_assoc l (pos j *ℤ r) r))

  sums_way : Way (sums l r j) r b
  sums_way = steps_way l r j hl.0 hl.1

  pub left_lt : (pos_part (left b l r j) < b) × (neg_part (left b l r j) < b)
  left_lt = rw (rem_rest b h (sums l r j)) (rest_lt b h (sums l r j))

  pub next_left : left b l r (suc j) ≡ rest (left b l r j +ℤ r) b
  next_left =
      rem_rest b h (sums l r (suc j)) ∙ ap (λ (z : ℤ). rest z b) next_sums ∙ rest_step b h sums_way
      ∙ ap (λ (z : ℤ). rest (z +ℤ r) b) (sym (rem_rest b h (sums l r j)))

  pub next_units : units b l r (suc j) ≡ units b l r j +ℤ unit b l r j
  next_units =
      ap (λ (z : ℤ). quot_z z (pos b)) next_sums ∙ carry_step b h sums_way
      ∙ ap (λ (z : ℤ). units b l r j +ℤ quot_z (z +ℤ r) (pos b)) (sym (rem_rest b h (sums l r j)))

  -- j steps carry at most j units, and one at most one
  pub units_parts : (pos_part (units b l r j) ≤ j) × (neg_part (units b l r j) ≤ j)
  units_parts =
      let u : pos_part r ≤ b = omega arith in
      let d : neg_part r ≤ b = omega arith in
      let x : pos_part (sums l r j) < suc j * b = simp parts (omega (arith, mul-le-mul_left j u, suc-mul j b)) in
      let y : neg_part (sums l r j) < suc j * b = simp parts (omega (arith, mul-le-mul_left j d, suc-mul j b)) in
      simp (pos_part_quot, neg_part_quot) (omega (arith, less h x), omega (arith, less h y))

  unit_parts : (pos_part (unit b l r j) ≤ 1) × (neg_part (unit b l r j) ≤ 1)
  unit_parts =
      let x : pos_part (left b l r j +ℤ r) < 2 * b = rw pos_part_add (omega (arith, left_lt)) in
      let y : neg_part (left b l r j +ℤ r) < 2 * b = rw neg_part_add (omega (arith, left_lt)) in
      simp (pos_part_quot, neg_part_quot) (omega (arith, less h x), omega (arith, less h y))

  -- they all go the way of r
  none_up : pos_part r ≡ 0 → (pos_part (units b l r j) ≡ 0) × (pos_part (unit b l r j) ≡ 0)
  none_up e =
      let x : pos_part (sums l r j) < b = simp (parts, e) (omega arith) in
      let y : pos_part (left b l r j +ℤ r) < b = rw pos_part_add (omega (arith, e, left_lt)) in
      simp pos_part_quot (div-eq_of_lt x, div-eq_of_lt y)

  none_down : neg_part r ≡ 0 → (neg_part (units b l r j) ≡ 0) × (neg_part (unit b l r j) ≡ 0)
  none_down e =
      let x : neg_part (sums l r j) < b = simp (parts, e) (omega arith) in
      let y : neg_part (left b l r j +ℤ r) < b = rw neg_part_add (omega (arith, e, left_lt)) in
      simp neg_part_quot (div-eq_of_lt x, div-eq_of_lt y)

  module _ (w : ℕ) (hw : 0 < w) (p a : ℤ) (hp : (pos_part p < w) × (neg_part p < w)) where
    next_large : large_sums b l r p a (suc j) ≡ large_sums b l r p a j +ℤ (a +ℤ unit b l r j)
    next_large =
        let u : ℤ = units b l r j in
        let v : ℤ = unit b l r j in
        rw next_units (same
        (add (add (self p) (add (self u) (self v))) (times (suc j) (self a)))
        (add (add (add (self p) (self u)) (times j (self a))) (add (self a) (self v)))
        (omega (arith, suc-mul j (pos_part a), suc-mul j (neg_part a))))

    -- the large sum goes one way: that of a, or of r where a is 0
    large_way : Way (large_sums b l r p a j) (a +ℤ unit b l r j) w
    large_way = way_of p a (units b l r j) (unit b l r j) j hp units_parts unit_parts (⊎_elim (λ e. inl (none_up e)) (λ e. inr (none_down e)) (one_sign r))

    -- one step more
    pub next_carried : quot_z (large_sums b l r p a (suc j)) (pos w) ≡ quot_z (large_sums b l r p a j) (pos w) +ℤ quot_z (rest (large_sums b l r p a j) w +ℤ (a +ℤ unit b l r j)) (pos w)
    next_carried = rw next_large (carry_step w hw large_way)

    pub next_rest : rest (large_sums b l r p a (suc j)) w ≡ rest (rest (large_sums b l r p a j) w +ℤ (a +ℤ unit b l r j)) w
    next_rest = rw next_large (rest_step w hw large_way)
