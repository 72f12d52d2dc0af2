-- What the proofs take from a device: a few laws on its constants, which the device of each kind meets. No
-- other proof of this crate looks at a device's numbers.
use mathlib.Core.Path.{◌≡◌}
use mathlib.Core.Bool.{Bool, true, false, cond}
use Prim.Native.Nat.{ℕ, ◌+◌, ◌*◌, ◌/◌, ◌≤◌, ◌<◌}
use native.Mathlib.Omega.{arith}
use lib.Dec.{eqb}
use lib.IntN.{pos}
use mir.Syntax.{w32}
use mir.Val.{SFits}
use Rattle.integers.proofs.Parts.{pos_part, neg_part, sfits_parts}
use Rattle.state.specs.Device.{recorder256, recorder1024, device_of}
use Rattle.state.specs.declared.device.Device.{Device}

-- the most that share and frequency can move the adjustment from its base, each way (phase units)
abbrev pub reach : Device → ℕ
reach d = d.scale * 2047984 + 1677721600 / d.divisor

pub record Laws (d : Device) : Type 0 where
  -- a phase unit is as many units of 1/rate of 2^-24 us as the divisor says
  pub rate : d.rate ≡ 16 * d.divisor
  -- 1/rate of an offset unit is 2^10 of them
  pub share : d.divisor * d.scale ≡ 1024
  -- `rate` ticks with the base alone make a second
  pub second : d.divisor * (268435456 * d.tick.0 + pos_part d.base.0) ≡ 16777216000000
  -- the greatest frequency is a whole number of phase units a tick
  pub frequency : 1677721600 ≤ d.divisor * (1677721600 / d.divisor)
  -- the range of the adjustment is what share and frequency can reach
  pub most : pos_part d.most.0 ≡ pos_part d.base.0 + reach d
  pub least : pos_part d.least.0 + reach d ≡ pos_part d.base.0 + neg_part d.least.0
  pub signs : (neg_part d.base.0 ≡ 0) × (neg_part d.most.0 ≡ 0)
  -- bounds that hold on every device
  pub sizes : (pos_part d.most.0 ≤ 303037440) × (neg_part d.least.0 ≤ 168819712) × (d.scale ≤ 64) × (16 ≤ d.divisor) × (d.divisor ≤ 64)
  pub tick : (976 ≤ d.tick.0) × (d.tick.0 ≤ 3906)

by_test : (b : Bool) → Laws (cond b recorder1024 recorder256)
by_test true = omega arith
by_test false = omega arith

pub laws : (kind : ℕ) → Laws (device_of kind)
unfolding device_of
laws kind = by_test (eqb kind 1)

module _ (kind : ℕ) where
  pub fits_base : SFits w32 (device_of kind).base.0
  fits_base = sfits_parts (device_of kind).base.0 (omega (arith, laws kind))

  pub fits_least : SFits w32 (device_of kind).least.0
  fits_least = sfits_parts (device_of kind).least.0 (omega (arith, laws kind))

  pub fits_most : SFits w32 (device_of kind).most.0
  fits_most = sfits_parts (device_of kind).most.0 (omega (arith, laws kind))

  pub fits_scale : SFits w32 (pos (device_of kind).scale)
  fits_scale = record { sfits = omega (arith, laws kind) }

  pub fits_divisor : SFits w32 (pos (device_of kind).divisor)
  fits_divisor = record { sfits = omega (arith, laws kind) }

  pub divisor_pos : 0 < (device_of kind).divisor
  divisor_pos = omega (arith, laws kind)
