-- Carrying in one step and in many. A sum starts less than b from 0 and takes steps that all go one way;
-- after each step the multiples of b in it are carried, dropping the fraction towards zero. What is carried
-- in all is what one division of the whole sum carries. For steps that lead away from 0 that is so since all
-- the fractions have one sign; steps that lead towards 0 carry nothing, since the sum is still less than b
-- from 0. So the signs need not be told apart where this is used.
use mathlib.Core.Path.{◌≡◌, refl, sym, ap}
use Prim.Native.Nat.{ℕ, suc, ◌+◌, ◌*◌, ◌/◌, ◌%◌, ◌<◌}
use native.Mathlib.Nat.{div-eq_of_lt, mul-add-div_right, zero-div, div-add-mod', mod-lt, mod-eq_of_lt, zero-mod, add-mul}
use native.Mathlib.Omega.{arith}
use lib.IntN.{ℤ, pos, negsuc, ◌+ℤ◌, ◌-ℤ◌, ◌*ℤ◌, +ℤ_idr, +ℤ_idl}
use lib.Signed.{quot_z, rem_z}
use Rattle.integers.proofs.Parts.{pos_part, neg_part, parts, one_part, eq_parts, pos_part_add, neg_part_add, pos_part_neg, neg_part_neg, pos_part_quot, neg_part_quot, pos_part_rem, neg_part_rem}
use Rattle.integers.proofs.Linear.{Diff, self, add, sub, times_r}

-- what a division leaves of a sum
abbrev pub rest : ℤ → ℕ → ℤ
rest s b = s -ℤ quot_z s (pos b) *ℤ pos b

-- A step d from a sum s goes one way, and s is less than b from 0 on the side that the step comes from.
pub data Way (s d : ℤ) (b : ℕ) : Type 0 where
  rises : neg_part d ≡ 0 → neg_part s < b → Way s d b
  falls : pos_part d ≡ 0 → pos_part s < b → Way s d b

-- the same for natural numbers, whose sums only rise
div_step : (n u : ℕ) {b : ℕ} → 0 < b → (n + u) / b ≡ n / b + (n % b + u) / b
div_step n u {b} h =
    let e : n + u ≡ n / b * b + (n % b + u) = omega (arith, div-add-mod' n b) in
    rw e (mul-add-div_right h (n / b) (n % b + u))

pub same : {x y : ℤ} {p n q m : ℕ} → Diff x p n → Diff y q m → p + m ≡ q + n → x ≡ y
same {x} {y} f g h = eq_parts x y (omega (arith, f.eq, g.eq))

module _ (b : ℕ) (h : 0 < b) where
  small : (z : ℤ) → pos_part z < b → neg_part z < b → quot_z z (pos b) ≡ pos 0
  small z x y = eq_parts (quot_z z (pos b)) (pos 0) (simp (parts, div-eq_of_lt x, div-eq_of_lt y))

  rest_pos_part : (s : ℤ) → pos_part (rest s b) ≡ pos_part s % b
  rest_pos_part s = simp parts (omega (arith, one_part s, div-add-mod' (pos_part s) b, div-add-mod' (neg_part s) b))

  rest_neg_part : (s : ℤ) → neg_part (rest s b) ≡ neg_part s % b
  rest_neg_part s = simp parts (omega (arith, one_part s, div-add-mod' (pos_part s) b, div-add-mod' (neg_part s) b))

  pub rest_lt : (s : ℤ) → (pos_part (rest s b) < b) × (neg_part (rest s b) < b)
  rest_lt s = simp (rest_pos_part, rest_neg_part) (mod-lt (pos_part s) h, mod-lt (neg_part s) h)

  -- the remainder of the division is that
  pub rem_rest : (s : ℤ) → rem_z s (pos b) ≡ rest s b
  rem_rest s = eq_parts (rem_z s (pos b)) (rest s b) (omega (arith, rest_pos_part s, rest_neg_part s, pos_part_rem s b, neg_part_rem s b))

  -- the sum less than b from 0: nothing is carried yet
  from_small : (s d : ℤ) → pos_part s < b → neg_part s < b → quot_z (s +ℤ d) (pos b) ≡ quot_z s (pos b) +ℤ quot_z (rest s b +ℤ d) (pos b)
  from_small s d x y =
      let e : rest s b ≡ s = eq_parts (rest s b) s (omega (arith, rest_pos_part s, rest_neg_part s, mod-eq_of_lt x, mod-eq_of_lt y)) in
      rw (e, small s x y) (sym (+ℤ_idl (quot_z (s +ℤ d) (pos b))))

  -- no step at all
  by_nothing : (s : ℤ) → quot_z (s +ℤ pos 0) (pos b) ≡ quot_z s (pos b) +ℤ quot_z (rest s b +ℤ pos 0) (pos b)
  by_nothing s = rw (+ℤ_idr s, +ℤ_idr (rest s b), small (rest s b) (rest_lt s).0 (rest_lt s).1) (sym (+ℤ_idr (quot_z s (pos b))))

  rise : (n u : ℕ) → quot_z (pos n +ℤ pos u) (pos b) ≡ quot_z (pos n) (pos b) +ℤ quot_z (rest (pos n) b +ℤ pos u) (pos b)
  rise n u =
      let e : rest (pos n) b ≡ pos (n % b) = eq_parts (rest (pos n) b) (pos (n % b)) (omega (arith, rest_pos_part (pos n), rest_neg_part (pos n), zero-mod b)) in
      rw e (ap pos (div_step n u h))

  fall : (n v : ℕ) → quot_z (negsuc n +ℤ negsuc v) (pos b) ≡ quot_z (negsuc n) (pos b) +ℤ quot_z (rest (negsuc n) b +ℤ negsuc v) (pos b)
  fall n v =
      let q : ℤ = quot_z (rest (negsuc n) b +ℤ negsuc v) (pos b) in
      let x : pos_part (rest (negsuc n) b +ℤ negsuc v) ≡ 0 = rw pos_part_add (omega (arith, rest_pos_part (negsuc n), zero-mod b)) in
      let y : neg_part (rest (negsuc n) b +ℤ negsuc v) ≡ suc n % b + suc v = rw neg_part_add (omega (arith, rest_pos_part (negsuc n), rest_neg_part (negsuc n), zero-mod b)) in
      let x' : pos_part q ≡ 0 = rw (pos_part_quot, x) (zero-div b) in
      let y' : neg_part q ≡ (suc n % b + suc v) / b = rw (neg_part_quot, y) in
      let g : suc (suc (n + v)) ≡ suc n + suc v = omega arith in
      eq_parts (quot_z (negsuc n +ℤ negsuc v) (pos b)) (quot_z (negsuc n) (pos b) +ℤ q) (simp (pos_part_add, neg_part_add, pos_part_neg, neg_part_neg, x', y', g, div_step (suc n) (suc v) h) (omega arith))

  pub carry_step : {s d : ℤ} → Way s d b → quot_z (s +ℤ d) (pos b) ≡ quot_z s (pos b) +ℤ quot_z (rest s b +ℤ d) (pos b)
  carry_step {s = pos n} {d = pos u} (rises x y) = rise n u
  carry_step {s = pos n} {d = negsuc v} (rises x y) = absurd (omega arith)
  carry_step {s = negsuc n} {d} (rises x y) = from_small (negsuc n) d h y
  carry_step {s = pos n} {d} (falls x y) = from_small (pos n) d y h
  carry_step {s = negsuc n} {d = pos u} (falls x y) = let z : u ≡ 0 = x in rw z (by_nothing (negsuc n))
  carry_step {s = negsuc n} {d = negsuc v} (falls x y) = fall n v

  -- what is left after a step
  pub rest_step : {s d : ℤ} → Way s d b → rest (s +ℤ d) b ≡ rest (rest s b +ℤ d) b
  rest_step {s} {d} w =
      let q : ℤ = quot_z s (pos b) in
      let t : ℤ = quot_z (rest s b +ℤ d) (pos b) in
      let e : quot_z (s +ℤ d) (pos b) ≡ q +ℤ t = carry_step w in
      rw e (same
      (sub (add (self s) (self d)) (times_r b (add (self q) (self t))))
      (sub (add (sub (self s) (times_r b (self q))) (self d)) (times_r b (self t)))
      (omega (arith, add-mul (pos_part q) (pos_part t) b, add-mul (neg_part q) (neg_part t) b)))

-- after j equal steps from less than b, the next one goes on the same way
pub steps_way : {b : ℕ} (p a : ℤ) (j : ℕ) → pos_part p < b → neg_part p < b → Way (p +ℤ pos j *ℤ a) a b
steps_way p (pos x) j h l = rises refl (simp parts (omega arith))
steps_way p (negsuc x) j h l = falls refl (simp parts (omega arith))
