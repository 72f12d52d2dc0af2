-- A jump goes on by single ticks: what a tick makes of the clock after a jump of j ticks, a jump of j + 1
-- makes of the clock as it was.
use mathlib.Core.Path.{◌≡◌, sym, ◌∙◌, ap}
use Prim.Native.Nat.{ℕ, suc, ◌+◌, ◌-◌, ◌*◌, ◌≤◌, ◌<◌}
use native.Mathlib.Nat.{mul-le-mul_left, mul-le-mul_right, mod-eq_of_lt}
use native.Mathlib.Omega.{arith}
use lib.Dec.{T, lit<}
use lib.IntN.{ℤ, pos, nat_abs, ◌+ℤ◌, ◌*ℤ◌, +ℤ_assoc, +ℤ_idr}
use lib.Signed.{non_neg, quot_z, rem_z}
use mir.Syntax.{w32, w64}
use mir.Val.{Fits, SFits, to_z, of_z}
use mir.Facts.{to_z_pos, to_z-of_z}
use Rattle.integers.proofs.Parts.{pos_part, neg_part, parts, one_part, eq_parts, sfits_parts, abs_parts, non_neg_parts, pos_part_add, neg_part_add, pos_part_quot, neg_part_quot, pos_part_rem, neg_part_rem, times_pos_part, times_neg_part}
use Rattle.integers.proofs.Linear.{self, add, times}
use Rattle.integers.proofs.Carrying.{rest, rest_lt}
use Rattle.integers.proofs.Leftover as kept
use Rattle.state.specs.Device.{device_of}
use Rattle.state.specs.Inner.{longest_tick}
use Rattle.state.specs.declared.device.Device.{Device}
use Rattle.state.specs.declared.state.Clock.{Clock}
use Rattle.state.proofs.DeviceLaws.{divisor_pos}
use Rattle.state.proofs.Ok.{Parts, Ok}
use Rattle.clock.specs.Tick.{unit_reached, leftover_left, carry, phase_left, micros_grown}
use Rattle.clock.specs.Inner.{Within, advance_of, moved_to, leftover_sums, units_reached, leftover_later, phase_sums, carries, phase_later, micros_later, jump_of}
use Rattle.clock.proofs.UnitLaws.{unit_eq, left_eq, read_leftover, read_remainder}
use Rattle.clock.proofs.TickLaws.{read_phase, read_adjustment, grown_eq}

-- the clock j ticks later, where none of them reaches the end of the second
abbrev pub jumped : ℕ → Clock → Clock
jumped j c = moved_to c (jump_of j c)

-- the clock a tick later, where it does not reach the end of the second
abbrev pub stepped : Clock → Clock
stepped c = moved_to c (advance_of c)

-- ---- the numbers of a jump

module _ (c : Clock) (k : Ok c) (j : ℕ) where
  abbrev device : Device
  device = device_of c.kind

  -- a tick reaches one unit at most
  pub units_parts : (pos_part (units_reached j c) ≤ j) × (neg_part (units_reached j c) ≤ j)
  units_parts =
      kept.units_parts device.divisor (divisor_pos c.kind) c.leftover.0 c.remainder.0 (k.leftover.up, k.leftover.down) (k.remainder.up, k.remainder.down) j

  pub later_within : Parts device (leftover_later j c)
  later_within =
      let l = kept.left_lt device.divisor (divisor_pos c.kind) c.leftover.0 c.remainder.0 (k.leftover.up, k.leftover.down) (k.remainder.up, k.remainder.down) j in
      record { up = l.0; down = l.1 }

  pub sums_parts : (pos_part (phase_sums j c) ≤ 268435455 + (pos_part device.most.0 + 1) * j) × (neg_part (phase_sums j c) ≤ 268435455 + 168819713 * j)
  sums_parts =
      let l : neg_part c.adjustment.0 ≤ 168819712 = omega arith in
      let e = add (add (self c.phase.0) (self (units_reached j c))) (times j (self c.adjustment.0)) in
      omega (arith, e.eq, one_part (phase_sums j c), units_parts, mul-le-mul_left j k.adjustment.size.0, mul-le-mul_left j l)

  pub carries_parts : (268435456 * pos_part (carries j c) ≤ pos_part (phase_sums j c)) × (neg_part (carries j c) ≤ j)
  carries_parts = simp (pos_part_quot, neg_part_quot) (omega (arith, sums_parts))

  pub left_parts : (pos_part (phase_later j c) < 268435456) × (neg_part (phase_later j c) < 268435456)
  left_parts = rest_lt 268435456 (lit< tt) (phase_sums j c)

  abbrev pub later : ℤ
  later = pos (c.micros.0 + (device_of c.kind).tick.0 * j) +ℤ carries j c

  pub later_parts : (pos_part later + neg_part (carries j c) ≡ c.micros.0 + (device_of c.kind).tick.0 * j + pos_part (carries j c)) × (neg_part later ≡ 0)
  later_parts =
      omega (
        arith,
        pos_part_add (pos (c.micros.0 + (device_of c.kind).tick.0 * j)) (carries j c),
        neg_part_add (pos (c.micros.0 + (device_of c.kind).tick.0 * j)) (carries j c),
        carries_parts,
        mul-le-mul_right j k.device.tick.0,
      )

  pub later_eq : micros_later j c + neg_part (carries j c) ≡ c.micros.0 + (device_of c.kind).tick.0 * j + pos_part (carries j c)
  later_eq = omega (arith, abs_parts later, later_parts)

  -- the ticks are no longer than the longest, and the phase is less than a microsecond
  pub later_most : 268435456 * micros_later j c ≤ 268435456 * c.micros.0 + longest_tick device * j + 268435455
  later_most =
      let m : nat_abs device.most.0 ≡ pos_part device.most.0 = omega (arith, abs_parts device.most.0, k.device.signs) in
      omega (arith, later_eq, carries_parts, sums_parts, ap (λ (x : ℕ). x * j) m)

  pub jumped_ok : Within j c → Ok (jumped j c)
  jumped_ok w = let h : micros_later j c ≤ 999999 = omega (arith, later_most, w) in search (left_parts, later_within, h)

-- ---- they fit their types, where none but the last tick can reach the end of the second

module _ (c : Clock) (k : Ok c) where
  pub wide_adjustment : SFits w64 c.adjustment.0
  wide_adjustment = sfits_parts c.adjustment.0 (omega arith)

  pub read_wide_adjustment : to_z w64 (of_z w64 c.adjustment.0) ≡ c.adjustment.0
  read_wide_adjustment = to_z-of_z wide_adjustment

module _ (c : Clock) (k : Ok c) (j : ℕ) (w : Within (j - 1) c) where
  few : j ≤ 1025
  few =
      let l : 261993005056 ≤ longest_tick (device_of c.kind) = omega (arith, k.device.tick) in
      omega (arith, w, mul-le-mul_right (j - 1) l)

  -- ---- the leftover

  pub fits_count : SFits w32 (pos j)
  fits_count = record { sfits = omega (arith, few) }

  pub read_count : to_z w32 j ≡ pos j
  read_count = to_z_pos w32 fits_count.sfits

  product_parts : (pos_part (pos j *ℤ c.remainder.0) ≤ 64 * j) × (neg_part (pos j *ℤ c.remainder.0) ≤ 64 * j)
  product_parts =
      let u : pos_part c.remainder.0 ≤ 64 = omega arith in
      let d : neg_part c.remainder.0 ≤ 64 = omega arith in
      simp parts (omega (arith, mul-le-mul_left j u), omega (arith, mul-le-mul_left j d))

  pub fits_product : SFits w32 (pos j *ℤ c.remainder.0)
  fits_product = sfits_parts (pos j *ℤ c.remainder.0) (omega (arith, few, product_parts))

  pub read_product : to_z w32 (of_z w32 (pos j *ℤ c.remainder.0)) ≡ pos j *ℤ c.remainder.0
  read_product = to_z-of_z fits_product

  pub fits_parts : SFits w32 (leftover_sums j c)
  fits_parts =
      let e = add (self c.leftover.0) (self (pos j *ℤ c.remainder.0)) in
      sfits_parts (leftover_sums j c) (omega (arith, few, product_parts, e.eq, one_part (leftover_sums j c)))

  pub read_parts : to_z w32 (of_z w32 (leftover_sums j c)) ≡ leftover_sums j c
  read_parts = to_z-of_z fits_parts

  pub fits_units : SFits w32 (units_reached j c)
  fits_units = sfits_parts (units_reached j c) (omega (arith, few, units_parts c k j))

  pub read_units : to_z w32 (of_z w32 (units_reached j c)) ≡ units_reached j c
  read_units = to_z-of_z fits_units

  pub fits_leftover_later : SFits w32 (leftover_later j c)
  fits_leftover_later = sfits_parts (leftover_later j c) (omega (arith, later_within c k j))

  pub read_leftover_later : to_z w32 (of_z w32 (leftover_later j c)) ≡ leftover_later j c
  read_leftover_later = to_z-of_z fits_leftover_later

  -- ---- phase and microseconds

  pub read_ticks : to_z w64 j ≡ pos j
  read_ticks = to_z_pos w64 (omega (arith, few))

  begin_parts : (pos_part (c.phase.0 +ℤ units_reached j c) ≤ 268436480) × (neg_part (c.phase.0 +ℤ units_reached j c) ≤ 268436480)
  begin_parts = rw (pos_part_add, neg_part_add) (omega (arith, few, units_parts c k j))

  -- the phase with the units
  pub fits_begin : SFits w32 (c.phase.0 +ℤ units_reached j c)
  fits_begin = sfits_parts (c.phase.0 +ℤ units_reached j c) (omega (arith, begin_parts))

  pub read_begin : to_z w32 (of_z w32 (c.phase.0 +ℤ units_reached j c)) ≡ c.phase.0 +ℤ units_reached j c
  read_begin = to_z-of_z fits_begin

  pub wide_begin : SFits w64 (c.phase.0 +ℤ units_reached j c)
  wide_begin = sfits_parts (c.phase.0 +ℤ units_reached j c) (omega (arith, begin_parts))

  pub read_wide_begin : to_z w64 (of_z w64 (c.phase.0 +ℤ units_reached j c)) ≡ c.phase.0 +ℤ units_reached j c
  read_wide_begin = to_z-of_z wide_begin

  -- the ticks' own microseconds
  passed : (device_of c.kind).tick.0 * j ≤ 4003650
  passed = omega (arith, few, mul-le-mul_right j k.device.tick.1)

  pub fits_passed : Fits w64 ((device_of c.kind).tick.0 * j)
  fits_passed = record { fits = omega (arith, passed) }

  pub fits_together : Fits w64 (c.micros.0 + (device_of c.kind).tick.0 * j)
  fits_together = record { fits = omega (arith, passed) }

  pub fits_counted : SFits w64 (pos (c.micros.0 + (device_of c.kind).tick.0 * j))
  fits_counted = record { sfits = omega (arith, passed) }

  pub read_micros : to_z w64 (c.micros.0 + (device_of c.kind).tick.0 * j) ≡ pos (c.micros.0 + (device_of c.kind).tick.0 * j)
  read_micros = to_z_pos w64 (omega (arith, passed))

  most_of_all : pos_part (device_of c.kind).most.0 * j ≤ 310613376000
  most_of_all = omega (arith, few, mul-le-mul_right j k.device.sizes.0)

  pub fits_steps : SFits w64 (pos j *ℤ c.adjustment.0)
  fits_steps = sfits_parts (pos j *ℤ c.adjustment.0) (simp parts (omega (arith, few, most_of_all, mul-le-mul_left j k.adjustment.size.0, mul-le-mul_left j k.adjustment.size.1, mul-le-mul_left j k.device.sizes.1)))

  pub read_steps : to_z w64 (of_z w64 (pos j *ℤ c.adjustment.0)) ≡ pos j *ℤ c.adjustment.0
  read_steps = to_z-of_z fits_steps

  pub fits_sums : SFits w64 (phase_sums j c)
  fits_sums = sfits_parts (phase_sums j c) (omega (arith, few, most_of_all, sums_parts c k j))

  pub read_sums : to_z w64 (of_z w64 (phase_sums j c)) ≡ phase_sums j c
  read_sums = to_z-of_z fits_sums

  carries_sizes : (pos_part (carries j c) ≤ 3075) × (neg_part (carries j c) ≤ 1025)
  carries_sizes = omega (arith, few, most_of_all, sums_parts c k j, carries_parts c k j)

  pub fits_carries : SFits w64 (carries j c)
  fits_carries = sfits_parts (carries j c) (omega (arith, carries_sizes))

  pub read_carries : to_z w64 (of_z w64 (carries j c)) ≡ carries j c
  read_carries = to_z-of_z fits_carries

  pub fits_wholes : SFits w64 (carries j c *ℤ pos 268435456)
  fits_wholes = sfits_parts (carries j c *ℤ pos 268435456) (simp (times_pos_part, times_neg_part) (omega (arith, carries_sizes)))

  pub read_wholes : to_z w64 (of_z w64 (carries j c *ℤ pos 268435456)) ≡ carries j c *ℤ pos 268435456
  read_wholes = to_z-of_z fits_wholes

  pub fits_left : SFits w64 (phase_later j c)
  fits_left = sfits_parts (phase_later j c) (omega (arith, left_parts c k j))

  pub read_left : to_z w64 (of_z w64 (phase_later j c)) ≡ phase_later j c
  read_left = to_z-of_z fits_left

  pub fits_phase_left : SFits w32 (phase_later j c)
  fits_phase_left = sfits_parts (phase_later j c) (omega (arith, left_parts c k j))

  pub read_phase_left : to_z w32 (of_z w32 (phase_later j c)) ≡ phase_later j c
  read_phase_left = to_z-of_z fits_phase_left

  -- the last of the ticks adds no more than one can
  later_size : micros_later j c ≤ 1003907
  later_size =
      let h : j ≤ j - 1 + 1 = omega arith in
      let l : longest_tick (device_of c.kind) ≤ 1048811928577 = omega (arith, k.device.tick, k.device.sizes, k.device.signs, abs_parts (device_of c.kind).most.0) in
      omega (arith, w, l, later_most c k j, mul-le-mul_left (longest_tick (device_of c.kind)) h)

  pub fits_later : SFits w64 (later c k j)
  fits_later = sfits_parts (later c k j) (omega (arith, later_parts c k j, abs_parts (later c k j), later_size))

  pub read_later : to_z w64 (of_z w64 (later c k j)) ≡ later c k j
  read_later = to_z-of_z fits_later

  pub later_non_neg : T (non_neg (later c k j))
  later_non_neg = non_neg_parts (later c k j) (later_parts c k j).1

  pub fits_micros_later : Fits w32 (micros_later j c)
  fits_micros_later = record { fits = omega (arith, later_size) }

-- What the code computes is read back as it is.
pub ruleset leftoverReads = (read_leftover, read_remainder, read_product, read_parts, read_units, read_leftover_later)

pub ruleset jumpReads = (read_phase, read_adjustment, read_begin, read_wide_begin, read_wide_adjustment, read_micros, read_units, read_steps, read_sums, read_carries, read_wholes, read_left, read_phase_left, read_later)

-- ---- one tick more

module _ (c : Clock) (k : Ok c) (j : ℕ) (w : Within j c) where
  abbrev D : ℕ
  D = (device_of c.kind).divisor

  abbrev here : Clock
  here = jumped j c

  there : Ok here
  there = jumped_ok c k j w

  -- the unit that the next tick reaches, and what the leftover is after it
  next_unit : kept.unit D c.leftover.0 c.remainder.0 j ≡ unit_reached here
  next_unit = sym (unit_eq here there)

  next_leftover : leftover_later (suc j) c ≡ leftover_left here
  next_leftover =
      kept.next_left D (divisor_pos c.kind) c.leftover.0 c.remainder.0 (k.leftover.up, k.leftover.down) (k.remainder.up, k.remainder.down) j
      ∙ sym (left_eq here there)

  -- what it adds to the phase
  step_eq : phase_later j c +ℤ (c.adjustment.0 +ℤ kept.unit D c.leftover.0 c.remainder.0 j) ≡ phase_later j c +ℤ c.adjustment.0 +ℤ unit_reached here
  step_eq =
      ap (λ (u : ℤ). phase_later j c +ℤ (c.adjustment.0 +ℤ u)) next_unit ∙ sym (+ℤ_assoc (phase_later j c) c.adjustment.0 (unit_reached here))

  next_left : phase_later (suc j) c ≡ phase_left here
  next_left =
      kept.next_rest D (divisor_pos c.kind) c.leftover.0 c.remainder.0 (k.leftover.up, k.leftover.down) (k.remainder.up, k.remainder.down) j 268435456 (lit< tt) c.phase.0 c.adjustment.0 k.phase
      ∙ ap (λ (z : ℤ). rest z 268435456) step_eq

  next_carries : carries (suc j) c ≡ carries j c +ℤ carry here
  next_carries =
      kept.next_carried D (divisor_pos c.kind) c.leftover.0 c.remainder.0 (k.leftover.up, k.leftover.down) (k.remainder.up, k.remainder.down) j 268435456 (lit< tt) c.phase.0 c.adjustment.0 k.phase
      ∙ ap (λ (z : ℤ). carries j c +ℤ quot_z z (pos 268435456)) step_eq

  next_micros : micros_later (suc j) c ≡ micros_grown here
  next_micros =
      omega (
        arith,
        later_eq c k j,
        later_eq c k (suc j),
        grown_eq here there,
        ap pos_part next_carries,
        ap neg_part next_carries,
        pos_part_add (carries j c) (carry here),
        neg_part_add (carries j c) (carry here),
      )

  pub next_jump : jump_of (suc j) c ≡ advance_of here
  next_jump = rw (next_micros, next_left, next_leftover)

  pub next_jumped : jumped (suc j) c ≡ stepped here
  next_jumped = ap (moved_to c) next_jump

-- ---- no ticks

none_added : (z a : ℤ) → z +ℤ pos 0 *ℤ a ≡ z
none_added z a = eq_parts (z +ℤ pos 0 *ℤ a) z (simp parts (omega (arith, one_part z)))

module _ (c : Clock) (k : Ok c) where
  no_leftover : leftover_later 0 c ≡ c.leftover.0
  no_leftover =
      let l = c.leftover.0 in
      let d = (device_of c.kind).divisor in
      ap (λ (z : ℤ). rem_z z (pos d)) (none_added l c.remainder.0)
      ∙ eq_parts (rem_z l (pos d)) l (omega (arith, pos_part_rem l d, neg_part_rem l d, mod-eq_of_lt k.leftover.up, mod-eq_of_lt k.leftover.down))

  no_units : units_reached 0 c ≡ pos 0
  no_units = eq_parts (units_reached 0 c) (pos 0) (omega (arith, units_parts c k 0))

  no_phase : phase_later 0 c ≡ c.phase.0
  no_phase =
      let p = c.phase.0 in
      ap (λ (z : ℤ). rest z 268435456) (none_added (p +ℤ units_reached 0 c) c.adjustment.0 ∙ ap (λ (u : ℤ). p +ℤ u) no_units ∙ +ℤ_idr p)
      ∙ eq_parts (rest p 268435456) p (simp parts (omega (arith, one_part p)))

  pub jumped_none : jumped 0 c ≡ c
  jumped_none =
      let e : micros_later 0 c ≡ c.micros.0 = omega (arith, later_eq c k 0, carries_parts c k 0, sums_parts c k 0) in
      rw (e, no_phase, no_leftover)
