-- A refused event hands back the clock that it got.
use mathlib.Core.Path.{◌≡◌, refl}
use mathlib.Core.Bool.{Bool, true, false, ◌&&◌, cond, true≢false}
use Prim.Native.Nat.{ℕ, zero, suc}
use lib.Dec.{eqb}
use Rattle.clock.specs.Tick.{rolls_over, tick_of}
use Rattle.clock.specs.Ticks.{catch_up_of, catch_up_refusal, ended, one_more, ran_of, refused_catch_up}
use Rattle.clock.specs.Setting.{setting_of}
use Rattle.state.specs.declared.state.Clock.{Clock}
use Rattle.clock.specs.declared.run.CaughtUp.{CaughtUp}
use Rattle.request.specs.Request.{request_of}
use Rattle.event.specs.Event.{step_of}
use Rattle.event.specs.declared.event.Call.TheVariants.{Tick, Setting, Request, Reading}
use Rattle.event.specs.declared.event.Event.{Event}
use Rattle.event.specs.declared.event.Event.TheVariants.{Call, CatchUp}

pub tick_same : (c : Clock) → eqb (tick_of c).refusal 0 ≡ false → (tick_of c).clock ≡ c
unfolding tick_of
tick_same c refused = simp refused

-- a run is not refused itself
either : (accepted stops : Bool) (x y z : CaughtUp) → x.refusal ≡ 0 → y.refusal ≡ 0 → z.refusal ≡ 0
    → (cond accepted (one_more (cond stops x y)) z).refusal ≡ 0
either true true x y z p q r = p
either true false x y z p q r = q
either false stops x y z p q r = r

pub ran_accepted : (stop : Bool) (n : ℕ) (c : Clock) → (ran_of stop n c).refusal ≡ 0
unfolding ran_of
ran_accepted stop zero c = refl
ran_accepted stop (suc n) c =
    either (eqb (tick_of c).refusal 0) (stop && rolls_over c) (ended 0 (tick_of c).clock) (ran_of stop n (tick_of c).clock) (ended (tick_of c).refusal c)
    refl (ran_accepted stop n (tick_of c).clock) refl

by_refusal : (accepted : Bool) (k : ℕ) (c : Clock) (r : CaughtUp) → r.refusal ≡ 0
    → eqb (cond accepted r (refused_catch_up k c)).refusal 0 ≡ false → (cond accepted r (refused_catch_up k c)).clock ≡ c
by_refusal true k c r p refused = absurd (true≢false (rw p at refused))
by_refusal false k c r p refused = refl

pub catch_up_same : (c : Clock) (n : ℕ) (stop : Bool) → eqb (catch_up_of c n stop).refusal 0 ≡ false → (catch_up_of c n stop).clock ≡ c
unfolding catch_up_of
catch_up_same c n stop = by_refusal (eqb (catch_up_refusal c n) 0) (catch_up_refusal c n) c (ran_of stop n c) (ran_accepted stop n c)

pub step_same : (c : Clock) (e : Event) → eqb (step_of c e).refusal 0 ≡ false → (step_of c e).clock ≡ c
unfolding setting_of request_of
step_same c (Call Tick) refused = tick_same c refused
step_same c (Call (Setting s u)) refused = simp refused
step_same c (Call (Request r)) refused = simp refused
step_same c (Call Reading) refused = refl
step_same c (CatchUp ceiling stop) refused = catch_up_same c ceiling stop refused
