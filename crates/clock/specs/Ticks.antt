-- Many ticks in one call: of `0 n` of a history (document 01, "Replay program"), and of a recorder that
-- catches up after a sleep (document 02, Req 01). Both are one run of single ticks.
use Rattle.std.specs.Prelude.{Bool, false, ◌&&◌, cond, not, ℕ, zero, suc, eqb, ltb}
use Rattle.state.specs.State.{in_range}
use Rattle.state.specs.Refusal.{refused_state, refused_ceiling, refuse}
use Rattle.state.specs.declared.state.Clock.{Clock}
use Rattle.state.specs.declared.outcome.Outcome.{Outcome}
use Rattle.clock.specs.Tick.{rolls_over, tick_of}
use Rattle.clock.specs.declared.run.CaughtUp.{CaughtUp}

-- a run that ends at c before any tick was accepted, by a tick that was refused with k, or by none (k is 0)
abbrev pub ended : ℕ → Clock → CaughtUp
ended k c = record { refusal = 0; count = 0; tick_refusal = k; clock = c }

-- a run with one accepted tick before it
abbrev pub one_more : CaughtUp → CaughtUp
one_more r = record { refusal = r.refusal; count = suc r.count; tick_refusal = r.tick_refusal; clock = r.clock }

-- "It answers how many ticks were accepted, and state and count equal those of ticking one by one until
-- ceiling, rollover or first refusal. A tick's refusal 3 is answered beside the count, the accepted ticks
-- stand". Up to n single ticks of c; where `stop`, none after a tick that rolls the second over. The ceiling
-- is looked at before the tick.
unfoldable pub ran_of : (stop : Bool) → ℕ → Clock → CaughtUp
ran_of stop zero c = ended 0 c
ran_of stop (suc n) c =
    cond (eqb (tick_of c).refusal 0)
    (one_more (cond (stop && rolls_over c) (ended 0 (tick_of c).clock) (ran_of stop n (tick_of c).clock)))
    (ended (tick_of c).refusal c)

-- "a ceiling of up to 65,536 ticks"
abbrev pub greatest_ceiling : ℕ
greatest_ceiling = 65536

-- 1 "a state field lies outside its range"; "above 65,536 is a new refusal 16, after 1"
abbrev pub catch_up_refusal : Clock → ℕ → ℕ
catch_up_refusal c ceiling =
    refuse (not (in_range c)) refused_state (refuse (ltb greatest_ceiling ceiling) refused_ceiling 0)

-- "unless said, a refused call's other answers are zeros", and it hands back the clock that it got
abbrev pub refused_catch_up : ℕ → Clock → CaughtUp
refused_catch_up k c = record { refusal = k; count = 0; tick_refusal = 0; clock = c }

-- What a catch-up answers; "the call itself is not refused" by a tick that is. "Ceiling 0 is accepted and
-- does nothing".
unfoldable pub catch_up_of : Clock → ℕ → Bool → CaughtUp
catch_up_of c ceiling stop =
    cond (eqb (catch_up_refusal c ceiling) 0) (ran_of stop ceiling c) (refused_catch_up (catch_up_refusal c ceiling) c)

-- "`0 n` up to n single ticks, stopping at the first refusal, the accepted ones standing": the refusal of the
-- first tick that is refused, or 0, and the clock after those before it. Of no tick: 1 "a state field lies
-- outside its range" all the same.
unfoldable pub ticks_of : ℕ → Clock → Outcome
ticks_of n c =
    cond (in_range c)
    (record { refusal = (ran_of false n c).tick_refusal; clock = (ran_of false n c).clock })
    (record { refusal = refused_state; clock = c })
