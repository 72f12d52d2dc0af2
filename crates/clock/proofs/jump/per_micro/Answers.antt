-- `clock::jump::per_micro`: so many of the longest ticks are no more than a microsecond, on either device.
use native.Mathlib.Omega.{arith}
use borrow.Author.Tests.{ne_eqb}
use Rattle.state.specs.Device.{device_of}
use Rattle.clock.proofs.jump.per_micro.Goals as goal

pub returns-in-1 : goal.returns-in-1
unfolding device_of
returns-in-1 c = simp c.in-1.is (omega arith)

pub returns-in_default : goal.returns-in_default
unfolding device_of
returns-in_default c = simp (ne_eqb _ _ c.in_default.in_default-own.rest.1) (omega arith)
