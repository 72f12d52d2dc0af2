-- `clock::sound::Sound::overflow`: a tick that reaches the end of its second, by whether that is the last
-- one.
use borrow.Author.Tests.{eq-eqb, ne_eqb}
use Prim.Native.Nat.{◌-◌}
use native.Mathlib.Omega.{arith}
use Rattle.state.proofs.Ok.{ok, ok_back}
use Rattle.clock.specs.Tick.{tick_of, tick_refusal, ticked, advanced, micros_grown}
use Rattle.clock.proofs.TickLaws.{advanced_ok, grown_most}
use Rattle.clock.proofs.sound.Sound.overflow.Goals as goal

pub returns-then-self-eq-LAST_SECOND : goal.returns-then-self-eq-LAST_SECOND
unfolding tick_of tick_refusal
returns-then-self-eq-LAST_SECOND c =
    simp (c.args.self.in_range, c.requires.full, eq-eqb _ _ c.if-self-eq-LAST_SECOND.true)

pub at-requires : goal.at-requires
at-requires c =
    let d = c.args.self.clock in
    let k = ok d c.args.self.in_range in
    rw (c.less_a_second.ensures, c.requires.ticked) (ok_back (advanced d (micros_grown d - 1000000)) (advanced_ok d k (omega (arith, grown_most d k))))

pub returns : goal.returns
unfolding tick_of tick_refusal ticked
returns c =
    simp (c.args.self.in_range, c.requires.full, c.rollover-rolled.ensures, c.at.ensures, c.less_a_second.ensures, c.requires.ticked, ne_eqb _ _ c.if-self-eq-LAST_SECOND.false)
