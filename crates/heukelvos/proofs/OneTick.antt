-- A run of one tick is that tick.
use mathlib.Core.Path.{◌≡◌, ◌∙◌}
use mathlib.Core.Bool.{cond, true}
use lib.Dec.{eqb}
use Rattle.state.specs.State.{in_range}
use Rattle.clock.specs.Tick.{tick_of}
use Rattle.clock.specs.Ticks.{ticks_of}
use Rattle.state.specs.declared.state.Clock.{Clock}
use Rattle.state.proofs.Ok.{ok_back}
use Rattle.clock.proofs.TickCases.{TickCase, out, last, plain, rolls, tick_case}
use Rattle.clock.proofs.RunLaws.{ticked_in_range, ticks_none, ticks_one_more}

by_case : (c : Clock) → TickCase c → cond (eqb (tick_of c).refusal 0) (ticks_of 0 (tick_of c).clock) (tick_of c) ≡ tick_of c
by_case c (out t e) = simp e
by_case c (last k l e) = simp e
by_case c (plain k l less e) = let t : in_range (tick_of c).clock ≡ true = ticked_in_range c (ok_back c k) (plain k l less e) in rw e (ticks_none _ (rw e at t))
by_case c (rolls k l more less e) = let t : in_range (tick_of c).clock ≡ true = ticked_in_range c (ok_back c k) (rolls k l more less e) in rw e (ticks_none _ (rw e at t))

pub one_tick : (c : Clock) → ticks_of 1 c ≡ tick_of c
one_tick c = ticks_one_more c 0 ∙ by_case c (tick_case c)
