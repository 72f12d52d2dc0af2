-- What the bounds take from a device and its measure, beyond the clock's laws: the book's units by the
-- device's constants, and how long a tick is at least and at most. No other proof of this crate looks at a
-- device's numbers.
use mathlib.Core.Path.{◌≡◌, refl}
use mathlib.Core.Bool.{Bool, true, false, cond}
use Prim.Native.Nat.{ℕ, ◌+◌, ◌-◌, ◌*◌, ◌≤◌, ◌<◌}
use native.Mathlib.Omega.{arith}
use lib.Dec.{eqb}
use Rattle.integers.proofs.Parts.{pos_part, neg_part}
use Rattle.state.specs.Device.{recorder256, recorder1024, device_of}
use Rattle.state.specs.declared.device.Device.{Device}
use Rattle.bounds.specs.Measure.{Measure, measure256, measure1024, measure_of, EachInUnits}

-- the time of the shortest and of the longest tick, with a unit of the leftover (phase units)
pub shortest : Device → ℕ
shortest d = 268435456 * d.tick.0 + pos_part d.least.0 - neg_part d.least.0 - 1

pub longest : Device → ℕ
longest d = 268435456 * d.tick.0 + pos_part d.most.0 + 1

pub record MeasureLaws (d : Device) (m : Measure) : Type 0 where
  -- a phase unit is as many units of exact time as the device's divisor says
  pub per_micro : m.per_micro ≡ 268435456 * d.divisor
  -- the tick of every device has as many units of exact time, which are 1/rate of 2^-24 us
  pub tick : m.tick ≡ 16777216000000
  pub parts : m.parts ≡ d.rate
  pub short : shortest d + neg_part d.least.0 + 1 ≡ 268435456 * d.tick.0 + pos_part d.least.0
  pub long : longest d ≡ 268435456 * d.tick.0 + pos_part d.most.0 + 1
  -- rate - 2 of the longest ticks, after a rollover that began them late, do not make a second
  pub fewest : d.rate * longest d + 268435456 * (d.tick.0 + 3) ≤ 268435456000000 + 2 * longest d
  -- rate + 1 of the shortest make more than a second
  pub mostly : 268435724435456 < (d.rate + 1) * shortest d
  -- the least that a tick moves the clock forward
  pub forward : (m.least ≤ d.tick.0) × (268435456 * m.least ≤ shortest d)

by_test : (b : Bool) → MeasureLaws (cond b recorder1024 recorder256) (cond b measure1024 measure256)
unfolding shortest longest
by_test true = omega arith
by_test false = omega arith

pub measured : (kind : ℕ) → MeasureLaws (device_of kind) (measure_of kind)
unfolding device_of measure_of
measured kind = by_test (eqb kind 1)

pub in_units : EachInUnits
in_units = ((refl, refl, refl), (refl, refl, refl))
