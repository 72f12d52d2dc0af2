-- A tick before its rollover: its numbers fit 32 bits, and the clock stays in its ranges.
use mathlib.Core.Path.{◌≡◌}
use Prim.Native.Nat.{ℕ, ◌+◌, ◌≤◌, ◌<◌}
use native.Mathlib.Omega.{arith}
use lib.IntN.{ℤ, pos, ◌+ℤ◌, ◌*ℤ◌}
use lib.Signed.{non_neg}
use lib.Dec.{T, lit<}
use mir.Syntax.{w32}
use mir.Val.{Fits, SFits, to_z, of_z}
use mir.Facts.{to_z-of_z, to_z_pos}
use Rattle.integers.proofs.Parts.{pos_part, neg_part, parts, sfits_parts, abs_parts, non_neg_parts, pos_part_add, neg_part_add, pos_part_quot, neg_part_quot, times_pos_part, times_neg_part}
use Rattle.integers.proofs.Carrying.{rest_lt}
use Rattle.state.specs.Device.{device_of}
use Rattle.state.specs.declared.state.Clock.{Clock}
use Rattle.state.proofs.Ok.{Ok}
use Rattle.clock.specs.Tick.{phase_sum, carry, phase_left, micros_grown, advanced}
use Rattle.clock.proofs.UnitLaws.{unit_parts, left_within, read_unit}

module _ (c : Clock) (k : Ok c) where
  pub fits_phase : SFits w32 c.phase.0
  fits_phase = sfits_parts c.phase.0 (omega arith)

  pub fits_adjustment : SFits w32 c.adjustment.0
  fits_adjustment = sfits_parts c.adjustment.0 (omega arith)

  pub fits_both : SFits w32 (c.phase.0 +ℤ c.adjustment.0)
  fits_both = sfits_parts (c.phase.0 +ℤ c.adjustment.0) (simp parts (omega arith))

  sum_sizes : (pos_part (phase_sum c) ≤ 571472896) × (neg_part (phase_sum c) ≤ 437255168)
  sum_sizes = simp parts (omega (arith, unit_parts c k))

  pub fits_sum : SFits w32 (phase_sum c)
  fits_sum = sfits_parts (phase_sum c) (omega (arith, sum_sizes))

  -- from -1 to 2 whole microseconds
  pub carry_parts : (pos_part (carry c) ≤ 2) × (neg_part (carry c) ≤ 1)
  carry_parts = simp (pos_part_quot, neg_part_quot) (omega (arith, sum_sizes))

  pub fits_carry : SFits w32 (carry c)
  fits_carry = sfits_parts (carry c) (omega (arith, carry_parts))

  pub fits_whole : SFits w32 (carry c *ℤ pos 268435456)
  fits_whole = sfits_parts (carry c *ℤ pos 268435456) (simp (times_pos_part, times_neg_part) (omega (arith, carry_parts)))

  -- the phase that is left is in its range
  pub left_parts : (pos_part (phase_left c) < 268435456) × (neg_part (phase_left c) < 268435456)
  left_parts = rest_lt 268435456 (lit< tt) (phase_sum c)

  pub fits_left : SFits w32 (phase_left c)
  fits_left = sfits_parts (phase_left c) (omega (arith, left_parts))

  abbrev after : ℤ
  after = pos (c.micros.0 + (device_of c.kind).tick.0) +ℤ carry c

  pub after_parts : (pos_part after ≤ c.micros.0 + (device_of c.kind).tick.0 + 2) × (neg_part after ≡ 0)
  after_parts = rw (pos_part_add, neg_part_add) (omega (arith, carry_parts))

  pub fits_after : SFits w32 after
  fits_after = sfits_parts after (omega (arith, after_parts))

  pub after_non_neg : T (non_neg after)
  after_non_neg = non_neg_parts after after_parts.1

  pub grown_most : micros_grown c ≤ 1000001 + (device_of c.kind).tick.0
  grown_most = omega (arith, abs_parts after, after_parts)

  pub fits_grown : Fits w32 (micros_grown c)
  fits_grown = record { fits = omega (arith, grown_most) }

  pub fits_micros : SFits w32 (pos (c.micros.0 + (device_of c.kind).tick.0))
  fits_micros = record { sfits = omega arith }

  -- microseconds after the tick, by those before and the whole microseconds carried
  pub grown_eq : micros_grown c + neg_part (carry c) ≡ c.micros.0 + (device_of c.kind).tick.0 + pos_part (carry c)
  grown_eq = omega (arith, abs_parts after, after_parts, pos_part_add (pos (c.micros.0 + (device_of c.kind).tick.0)) (carry c), carry_parts)

  pub advanced_ok : {us : ℕ} → us ≤ 999999 → Ok (advanced c us)
  advanced_ok h = search (left_parts, left_within c k)

  -- The steps are read back as they are.
  pub read_phase : to_z w32 (of_z w32 c.phase.0) ≡ c.phase.0
  read_phase = to_z-of_z fits_phase

  pub read_adjustment : to_z w32 (of_z w32 c.adjustment.0) ≡ c.adjustment.0
  read_adjustment = to_z-of_z fits_adjustment

  pub read_both : to_z w32 (of_z w32 (c.phase.0 +ℤ c.adjustment.0)) ≡ c.phase.0 +ℤ c.adjustment.0
  read_both = to_z-of_z fits_both

  pub read_sum : to_z w32 (of_z w32 (phase_sum c)) ≡ phase_sum c
  read_sum = to_z-of_z fits_sum

  pub read_carry : to_z w32 (of_z w32 (carry c)) ≡ carry c
  read_carry = to_z-of_z fits_carry

  pub read_whole : to_z w32 (of_z w32 (carry c *ℤ pos 268435456)) ≡ carry c *ℤ pos 268435456
  read_whole = to_z-of_z fits_whole

  pub read_left : to_z w32 (of_z w32 (phase_left c)) ≡ phase_left c
  read_left = to_z-of_z fits_left

  pub read_micros : to_z w32 (c.micros.0 + (device_of c.kind).tick.0) ≡ pos (c.micros.0 + (device_of c.kind).tick.0)
  read_micros = to_z_pos w32 fits_micros.sfits

  pub read_after : to_z w32 (of_z w32 after) ≡ after
  read_after = to_z-of_z fits_after

-- What the code computes of a tick is read back as it is.
pub ruleset tickReads = (read_phase, read_adjustment, read_both, read_unit, read_sum, read_carry, read_whole, read_left, read_micros, read_after)
