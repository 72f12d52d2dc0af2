-- What a tick answers, by its four cases.
use mathlib.Core.Path.{◌≡◌, refl}
use mathlib.Core.Bool.{Bool, true, false}
use Prim.Native.Nat.{◌-◌, ◌≤◌, ◌<◌}
use native.Mathlib.Omega.{arith}
use lib.Dec.{eqb}
use borrow.Author.Tests.{leb-true, leb-false, eqb-false}
use Rattle.state.specs.State.{in_range, last_second}
use Rattle.state.specs.declared.state.Clock.{Clock}
use Rattle.state.proofs.Ok.{Ok, ok}
use Rattle.clock.specs.Rollover.{rolled_over}
use Rattle.clock.specs.Tick.{tick_of, tick_refusal, ticked, advanced, rolls_over, micros_grown}

pub data TickCase (c : Clock) : Type 0 where
  out : in_range c ≡ false → tick_of c ≡ record { refusal = 1; clock = c } → TickCase c
  last : Ok c → rolls_over c ≡ true → tick_of c ≡ record { refusal = 3; clock = c } → TickCase c
  plain : Ok c → rolls_over c ≡ false → micros_grown c < 1000000 → tick_of c ≡ record { refusal = 0; clock = advanced c (micros_grown c) } → TickCase c
  rolls : Ok c → rolls_over c ≡ true → 1000000 ≤ micros_grown c → c.seconds < 4294967295
      → tick_of c ≡ record { refusal = 0; clock = rolled_over (advanced c (micros_grown c - 1000000)) } → TickCase c

module _ (c : Clock) where
  by_second : (b : Bool) → in_range c ≡ true → rolls_over c ≡ true → eqb c.seconds last_second ≡ b → TickCase c
  unfolding tick_of tick_refusal ticked
  by_second true t l s = last (ok c t) l (simp (t, l, s))
  by_second false t l s = rolls (ok c t) l (leb-true _ _ l) (omega (arith, ok c t, eqb-false c.seconds 4294967295 s)) (simp (t, l, s))

  by_micros : (b : Bool) → in_range c ≡ true → rolls_over c ≡ b → TickCase c
  unfolding tick_of tick_refusal ticked
  by_micros true t l = by_second (eqb c.seconds last_second) t l refl
  by_micros false t l = plain (ok c t) l (leb-false _ _ l) (simp (t, l))

  by_range : (b : Bool) → in_range c ≡ b → TickCase c
  unfolding tick_of tick_refusal ticked
  by_range true t = by_micros (rolls_over c) t refl
  by_range false t = out t (simp t)

  pub tick_case : TickCase c
  tick_case = by_range (in_range c) refl
