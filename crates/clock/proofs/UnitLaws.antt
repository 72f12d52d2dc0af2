-- The unit that the leftover reaches at a tick. Leftover and remainder together are less than two units, so
-- that it is a quotient; at most one goes into the phase, and what it leaves is less than a unit again.
use mathlib.Core.Path.{◌≡◌, refl, ◌∙◌, ap}
use mathlib.Core.Bool.{Bool, true, false}
use Prim.Native.Nat.{ℕ, ◌+◌, ◌-◌, ◌*◌, ◌/◌, ◌≤◌, ◌<◌}
use native.Mathlib.Nat.{div-eq_of_lt, mul-add-div_right, mul-le-mul_right}
use native.Mathlib.Omega.{arith}
use lib.IntN.{ℤ, pos, neg_ℤ, ◌-ℤ◌, ◌*ℤ◌, +ℤ_idl}
use lib.Signed.{le_z, quot_z}
use mir.Syntax.{w32}
use mir.Val.{SFits, to_z, of_z, bool_byte}
use mir.Facts.{to_z-of_z}
use Rattle.integers.proofs.Parts.{pos_part, neg_part, parts, one_part, eq_parts, sfits_parts, pos_part_add, neg_part_add, pos_part_neg, neg_part_neg, pos_part_quot, neg_part_quot, le_parts, not_le_parts}
use Rattle.integers.proofs.Carrying.{rest, rest_lt}
use Rattle.state.specs.Device.{device_of}
use Rattle.state.specs.declared.device.Device.{Device}
use Rattle.state.specs.declared.state.Clock.{Clock}
use Rattle.state.proofs.DeviceLaws.{divisor_pos, fits_divisor}
use Rattle.state.proofs.Ok.{Parts, Ok}
use Rattle.clock.specs.Tick.{leftover_sum, unit_in, unit_reached, leftover_left}

module _ (d : ℕ) (h : 0 < d) where
  -- between one unit and two there is one
  one_whole : (n : ℕ) → d ≤ n → n < 2 * d → n / d ≡ 1
  one_whole n low high =
      let e : n ≡ 1 * d + (n - d) = omega arith in
      let r : n - d < d = omega arith in
      ap (λ (x : ℕ). x / d) e ∙ mul-add-div_right h 1 (n - d) ∙ ap (λ (x : ℕ). 1 + x) (div-eq_of_lt r)

  module _ (z : ℤ) (up : pos_part z < 2 * d) (down : neg_part z < 2 * d) where
    by_tests : (a b : Bool) → le_z (pos d) z ≡ a → le_z z (neg_ℤ (pos d)) ≡ b → unit_in d z ≡ quot_z z (pos d)
    unfolding unit_in
    by_tests true b e f =
        let l = le_parts (pos d) z e in
        let one : pos_part z / d ≡ 1 = one_whole (pos_part z) (omega (arith, l)) up in
        let none : neg_part z / d ≡ 0 = div-eq_of_lt (omega (arith, l, one_part z)) in
        simp e (eq_parts (pos 1) (quot_z z (pos d)) (omega (arith, pos_part_quot z d, neg_part_quot z d, one, none)))
    by_tests false true e f =
        let l = le_parts z (neg_ℤ (pos d)) f in
        let low : d ≤ neg_part z = omega (arith, l, pos_part_neg (pos d), neg_part_neg (pos d)) in
        let none : pos_part z / d ≡ 0 = div-eq_of_lt (omega (arith, low, one_part z)) in
        let one : neg_part z / d ≡ 1 = one_whole (neg_part z) low down in
        simp (e, f) (eq_parts (neg_ℤ (pos 1)) (quot_z z (pos d)) (omega (arith, pos_part_quot z d, neg_part_quot z d, one, none)))
    by_tests false false e f =
        let l = not_le_parts (pos d) z e in
        let m = not_le_parts z (neg_ℤ (pos d)) f in
        let x : pos_part z / d ≡ 0 = div-eq_of_lt (omega (arith, l, one_part z)) in
        let y : neg_part z / d ≡ 0 = div-eq_of_lt (omega (arith, m, pos_part_neg (pos d), neg_part_neg (pos d), one_part z)) in
        simp (e, f) (eq_parts (pos 0) (quot_z z (pos d)) (omega (arith, pos_part_quot z d, neg_part_quot z d, x, y)))

    unit_quot : unit_in d z ≡ quot_z z (pos d)
    unit_quot = by_tests (le_z (pos d) z) (le_z z (neg_ℤ (pos d))) refl refl

  -- the code's two tests as numbers
  by_numbers : (z : ℤ) (a b : Bool) → le_z (pos d) z ≡ a → le_z z (neg_ℤ (pos d)) ≡ b
      → to_z w32 (bool_byte (le_z (pos d) z)) -ℤ to_z w32 (bool_byte (le_z z (neg_ℤ (pos d)))) ≡ unit_in d z
  unfolding unit_in
  by_numbers z true true e f = absurd (omega (arith, h, le_parts (pos d) z e, le_parts z (neg_ℤ (pos d)) f, pos_part_neg (pos d), neg_part_neg (pos d)))
  by_numbers z true false e f = simp (e, f)
  by_numbers z false true e f = simp (e, f)
  by_numbers z false false e f = simp (e, f)

-- a unit is at most one, whatever the parts
unit_most : (d : ℕ) (z : ℤ) (a b : Bool) → le_z (pos d) z ≡ a → le_z z (neg_ℤ (pos d)) ≡ b → (pos_part (unit_in d z) ≤ 1) × (neg_part (unit_in d z) ≤ 1)
unfolding unit_in
unit_most d z true b e f = simp e (omega arith)
unit_most d z false true e f = simp (e, f) (omega arith)
unit_most d z false false e f = simp (e, f) (omega arith)

module _ (c : Clock) (k : Ok c) where
  abbrev device : Device
  device = device_of c.kind

  pub sum_parts : (pos_part (leftover_sum c) < 2 * device.divisor) × (neg_part (leftover_sum c) < 2 * device.divisor)
  sum_parts = rw (pos_part_add, neg_part_add) (omega (arith, k.leftover, k.remainder))

  pub unit_eq : unit_reached c ≡ quot_z (leftover_sum c) (pos device.divisor)
  unit_eq = unit_quot device.divisor (divisor_pos c.kind) (leftover_sum c) sum_parts.0 sum_parts.1

  pub unit_parts : (pos_part (unit_reached c) ≤ 1) × (neg_part (unit_reached c) ≤ 1)
  unit_parts = unit_most device.divisor (leftover_sum c) (le_z (pos device.divisor) (leftover_sum c)) (le_z (leftover_sum c) (neg_ℤ (pos device.divisor))) refl refl

  pub unit_tests : to_z w32 (bool_byte (le_z (pos device.divisor) (leftover_sum c))) -ℤ to_z w32 (bool_byte (le_z (leftover_sum c) (neg_ℤ (pos device.divisor)))) ≡ unit_reached c
  unit_tests = by_numbers device.divisor (divisor_pos c.kind) (leftover_sum c) (le_z (pos device.divisor) (leftover_sum c)) (le_z (leftover_sum c) (neg_ℤ (pos device.divisor))) refl refl

  pub left_eq : leftover_left c ≡ rest (leftover_sum c) device.divisor
  left_eq = ap (λ (u : ℤ). leftover_sum c -ℤ u *ℤ pos device.divisor) unit_eq

  pub left_within : Parts device (leftover_left c)
  left_within =
      let w = rest_lt device.divisor (divisor_pos c.kind) (leftover_sum c) in
      rw left_eq (record { up = w.0; down = w.1 })

  -- the steps by which they are worked out fit
  pub fits_leftover : SFits w32 c.leftover.0
  fits_leftover = sfits_parts c.leftover.0 (omega arith)

  pub fits_remainder : SFits w32 c.remainder.0
  fits_remainder = sfits_parts c.remainder.0 (omega arith)

  pub fits_minus : SFits w32 (neg_ℤ (pos device.divisor))
  fits_minus = sfits_parts (neg_ℤ (pos device.divisor)) (simp parts (omega arith))

  pub fits_parts : SFits w32 (leftover_sum c)
  fits_parts = sfits_parts (leftover_sum c) (omega (arith, sum_parts))

  pub fits_unit : SFits w32 (unit_reached c)
  fits_unit = sfits_parts (unit_reached c) (omega (arith, unit_parts))

  pub fits_whole_unit : SFits w32 (unit_reached c *ℤ pos device.divisor)
  fits_whole_unit = sfits_parts (unit_reached c *ℤ pos device.divisor) (simp parts (omega (arith, unit_parts, mul-le-mul_right device.divisor unit_parts.0, mul-le-mul_right device.divisor unit_parts.1)))

  pub fits_parts_left : SFits w32 (leftover_left c)
  fits_parts_left = sfits_parts (leftover_left c) (omega (arith, left_within))

  -- .. and are read back as they are
  pub read_leftover : to_z w32 (of_z w32 c.leftover.0) ≡ c.leftover.0
  read_leftover = to_z-of_z fits_leftover

  pub read_remainder : to_z w32 (of_z w32 c.remainder.0) ≡ c.remainder.0
  read_remainder = to_z-of_z fits_remainder

  pub read_divisor : to_z w32 (of_z w32 (pos device.divisor)) ≡ pos device.divisor
  read_divisor = to_z-of_z (fits_divisor c.kind)

  pub read_minus : to_z w32 (of_z w32 (pos 0 -ℤ pos device.divisor)) ≡ neg_ℤ (pos device.divisor)
  read_minus = rw (+ℤ_idl (neg_ℤ (pos device.divisor))) (to_z-of_z fits_minus)

  pub read_parts : to_z w32 (of_z w32 (leftover_sum c)) ≡ leftover_sum c
  read_parts = to_z-of_z fits_parts

  pub read_unit : to_z w32 (of_z w32 (unit_reached c)) ≡ unit_reached c
  read_unit = to_z-of_z fits_unit

  pub read_whole_unit : to_z w32 (of_z w32 (unit_reached c *ℤ pos device.divisor)) ≡ unit_reached c *ℤ pos device.divisor
  read_whole_unit = to_z-of_z fits_whole_unit

  pub read_parts_left : to_z w32 (of_z w32 (leftover_left c)) ≡ leftover_left c
  read_parts_left = to_z-of_z fits_parts_left

-- What the code computes of a unit is read back as it is.
pub ruleset unitReads = (read_leftover, read_remainder, read_divisor, read_minus, read_parts, unit_tests, read_unit, read_whole_unit, read_parts_left)
