-- What `in_range` says, as bounds that `omega` reads, and back.
use mathlib.Core.Path.{◌≡◌}
use mathlib.Core.Bool.{true, ◌||◌, and-false}
use Prim.Native.Nat.{ℕ, ◌+◌, ◌≤◌, ◌<◌}
use native.Mathlib.Omega.{arith}
use lib.Dec.{eqb, lit<}
use lib.IntN.{ℤ}
use borrow.Author.Tests.{leb-true, le-leb}
use Rattle.integers.proofs.Parts.{pos_part, neg_part, one_part}
use Rattle.integers.proofs.Ranges.{tested, true_and, within_parts, parts_within, between_parts, parts_between, bounds_parts, parts_bounds}
use Rattle.state.specs.Device.{kind_range, device_of}
use Rattle.state.specs.State.{second_range, micros_range, phase_range, offset_range, frequency_range, adjustment_range, constant_range, flag_range, interval_range, zero_unless_flag, error_range, status_range, parts_range, in_range}
use Rattle.state.specs.declared.device.Device.{Device}
use Rattle.state.specs.declared.state.Clock.{Clock}
use Rattle.state.proofs.DeviceLaws.{Laws, laws, divisor_pos}

-- an adjustment of a device
pub record Adjusted (d : Device) (a : ℤ) : Type 0 where
  pub low : pos_part d.least.0 + neg_part a ≤ pos_part a + neg_part d.least.0
  pub high : pos_part a + neg_part d.most.0 ≤ pos_part d.most.0 + neg_part a
  pub size : (pos_part a ≤ pos_part d.most.0) × (neg_part a ≤ neg_part d.least.0)

-- the same from its two ends
pub adjusted : (kind : ℕ) (a : ℤ) → (pos_part (device_of kind).least.0 + neg_part a ≤ pos_part a + neg_part (device_of kind).least.0) × (pos_part a + neg_part (device_of kind).most.0 ≤ pos_part (device_of kind).most.0 + neg_part a)
    → Adjusted (device_of kind) a
adjusted kind a h = omega (arith, laws kind, one_part a)

-- parts of a phase unit, fewer than make one
pub record Parts (d : Device) (z : ℤ) : Type 0 where
  pub up : pos_part z < d.divisor
  pub down : neg_part z < d.divisor

parts_of : (kind : ℕ) (z : ℤ) → parts_range (device_of kind) z ≡ true → Parts (device_of kind) z
parts_of kind z e =
    let p = between_parts (device_of kind).divisor (device_of kind).divisor z (divisor_pos kind) (divisor_pos kind) e in
    record { up = p.0; down = p.1 }

pub record Ok (c : Clock) : Type 0 where
  pub kind : c.kind ≤ 1
  pub seconds : c.seconds ≤ 4294967295
  pub micros : c.micros.0 ≤ 999999
  pub phase : (pos_part c.phase.0 < 268435456) × (neg_part c.phase.0 < 268435456)
  pub offset : (pos_part c.offset.0 ≤ 2097135616) × (neg_part c.offset.0 ≤ 2097135616)
  pub frequency : (pos_part c.frequency.0 ≤ 1677721600) × (neg_part c.frequency.0 ≤ 1677721600)
  pub adjustment : Adjusted (device_of c.kind) c.adjustment.0
  pub constant : c.constant ≤ 4
  pub updated : c.updated ≤ 1
  pub interval : c.interval ≤ 1024
  pub update : eqb c.updated 1 || eqb c.interval 0 ≡ true
  pub maxerror : c.maxerror.0 ≤ 16000000
  pub esterror : c.esterror.0 ≤ 16000000
  pub status : c.status ≤ 4
  pub remainder : Parts (device_of c.kind) c.remainder.0
  pub leftover : Parts (device_of c.kind) c.leftover.0
  pub device : Laws (device_of c.kind)

-- each bound by its own test: without it the clock would not be in range
pub ok : (c : Clock) → in_range c ≡ true → Ok c
unfolding in_range
ok c e =
    let d = device_of c.kind in
    record {
      kind = leb-true _ _ (tested (kind_range c.kind) (λ t. simp t) e);
      seconds = leb-true _ _ (tested (second_range c.seconds) (λ t. simp (t, and-false)) e);
      micros = leb-true _ _ (tested (micros_range c.micros.0) (λ t. simp (t, and-false)) e);
      phase =
          between_parts _ _ c.phase.0 (lit< tt) (lit< tt)
          (tested (phase_range c.phase.0) (λ t. simp (t, and-false)) e);
      offset =
          within_parts _ _ c.offset.0
          (tested (offset_range c.offset.0) (λ t. simp (t, and-false)) e);
      frequency =
          within_parts _ _ c.frequency.0
          (tested (frequency_range c.frequency.0) (λ t. simp (t, and-false)) e);
      adjustment =
          adjusted c.kind c.adjustment.0
          (bounds_parts d.least.0 d.most.0 c.adjustment.0
          (tested (adjustment_range (device_of c.kind) c.adjustment.0) (λ t. simp (t, and-false)) e));
      constant = leb-true _ _ (tested (constant_range c.constant) (λ t. simp (t, and-false)) e);
      updated = leb-true _ _ (tested (flag_range c.updated) (λ t. simp (t, and-false)) e);
      interval = leb-true _ _ (tested (interval_range c.interval) (λ t. simp (t, and-false)) e);
      update = tested (zero_unless_flag c.updated c.interval) (λ t. simp (t, and-false)) e;
      maxerror = leb-true _ _ (tested (error_range c.maxerror.0) (λ t. simp (t, and-false)) e);
      esterror = leb-true _ _ (tested (error_range c.esterror.0) (λ t. simp (t, and-false)) e);
      status = leb-true _ _ (tested (status_range c.status) (λ t. simp (t, and-false)) e);
      remainder =
          parts_of c.kind c.remainder.0
          (tested (parts_range (device_of c.kind) c.remainder.0) (λ t. simp (t, and-false)) e);
      leftover =
          parts_of c.kind c.leftover.0
          (tested (parts_range (device_of c.kind) c.leftover.0) (λ t. simp (t, and-false)) e);
      device = laws c.kind;
    }

pub ok_back : (c : Clock) → Ok c → in_range c ≡ true
unfolding in_range
ok_back c k = search (true_and, le-leb, parts_between, parts_within, parts_bounds)
