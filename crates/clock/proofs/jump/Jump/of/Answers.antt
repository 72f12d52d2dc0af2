-- `clock::jump::Jump::of`: as many ticks as are asked for, or as many as leave all but the last within the
-- second.
use Prim.Native.Nat.{ℕ, ◌+◌, ◌-◌, ◌*◌, ◌/◌, ◌≤◌, ◌<◌}
use native.Mathlib.Nat.{mul-le-mul_left, mul-le-mul_right, mul-div-le}
use native.Mathlib.Omega.{arith}
use Rattle.state.proofs.Ok.{ok}
use Rattle.clock.proofs.jump.Jump.of.Goals as goal

-- r longest ticks m (phase units), in 2^-32, go into a microsecond
module _ (us r m : ℕ) (h : us ≤ 999999) (fits : r ≤ 4294967296) (least : r * m ≤ 4294967296 * 268435456) where
  abbrev left : ℕ
  left = 999999 - us

  product : left * r ≤ 4294963001032704
  product =
      let h : left ≤ 999999 = omega arith in
      omega (arith, mul-le-mul_right r h)

  -- by so many ticks the microseconds that are left are not used up
  some_left : m * (left * r / 4294967296) ≤ 268435456 * left
  some_left = omega (arith, mul-le-mul_left m (mul-div-le (left * r) 4294967296), mul-le-mul_left left least)

  -- nor by fewer
  pub within : (j : ℕ) → 0 < j → j ≤ left * r / 4294967296 + 1 → 268435456 * us + m * (j - 1) ≤ 268435456 * 999999
  within j some most =
      let e : j - 1 ≤ left * r / 4294967296 = omega arith in
      omega (arith, some_left, mul-le-mul_left m e)

pub overflow_sub-j : goal.overflow_sub-j
overflow_sub-j c = (ok _ c.args.s.in_range).micros

pub invariant_of-result : goal.invariant_of-result
invariant_of-result c =
    let p = c.per_micro.ensures in
    let e = c.min.ensures in
    record { within = within _ _ _ (ok _ c.args.s.in_range).micros p.0 p.1 _ (omega (arith, e, c.requires)) (omega (arith, e)) }
