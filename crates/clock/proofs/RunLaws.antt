-- A run of ticks by turns: jumps within a second, and the tick after each, whatever it does.
use mathlib.Core.Path.{◌≡◌, refl, sym, ◌∙◌, ap}
use mathlib.Core.Bool.{Bool, true, false, ◌&&◌, cond}
use Prim.Native.Nat.{ℕ, zero, suc, ◌+◌, ◌-◌, ◌≤◌, ◌<◌}
use native.Mathlib.Nat.{mul-le-mul_left}
use native.Mathlib.Omega.{arith}
use lib.Dec.{eqb}
use borrow.Author.Tests.{le-leb, lt-leb, eq-eqb, ne_eqb}
use Rattle.state.specs.Device.{device_of}
use Rattle.state.specs.State.{in_range}
use Rattle.state.specs.Inner.{longest_tick}
use Rattle.state.specs.declared.state.Clock.{Clock}
use Rattle.state.specs.declared.outcome.Outcome.{Outcome}
use Rattle.state.proofs.Ok.{Ok, ok, ok_back}
use Rattle.clock.specs.Rollover.{rolled_over}
use Rattle.clock.specs.Tick.{advanced, micros_grown, rolls_over, tick_of, tick_refusal, ticked}
use Rattle.clock.specs.Ticks.{ended, one_more, ran_of, ticks_of}
use Rattle.state.specs.declared.refusal.Refusal.TheVariants.{Last}
use Rattle.clock.specs.Inner.{Within, advance_of, moved_to, less_a_second, jump_of, adds, ran, end_refusal, ends_run, TurnOf}
use Rattle.clock.specs.declared.timer.Advance.{Advance}
use Rattle.clock.specs.declared.jump.Jump.{Jump}
use Rattle.clock.specs.declared.run.CaughtUp.{CaughtUp}
use Rattle.clock.specs.declared.run.End.{End}
use Rattle.clock.specs.declared.run.End.TheVariants as E
use Rattle.clock.proofs.TickCases.{TickCase, out, last, plain, rolls, tick_case}
use Rattle.clock.proofs.TickLaws.{advanced_ok, grown_most}
use Rattle.clock.proofs.RollLaws.{rolled_ok}
use Rattle.clock.proofs.JumpLaws.{jumped, stepped, jumped_ok, jumped_none, next_jump, next_jumped}

-- the clock after a tick of a clock in range is in range, accepted or not
pub ticked_in_range : (c : Clock) → in_range c ≡ true → TickCase c → in_range (tick_of c).clock ≡ true
ticked_in_range c t (out f e) = rw e t
ticked_in_range c t (last k l e) = rw e t
ticked_in_range c t (plain k l less e) = rw e (ok_back _ (advanced_ok c k (omega arith)))
ticked_in_range c t (rolls k l more less e) = rw e (ok_back _ (rolled_ok _ (advanced_ok c k (omega (arith, grown_most c k))) less))

pub adds_none : (r : CaughtUp) → adds 0 r ≡ r
adds_none r = let e : 0 + r.count ≡ r.count = omega arith in rw e

adds_more : (j : ℕ) (r : CaughtUp) → adds j (one_more r) ≡ adds (suc j) r
adds_more j r = let e : j + suc r.count ≡ suc j + r.count = omega arith in rw e

pub adds_adds : (a b : ℕ) (r : CaughtUp) → adds a (adds b r) ≡ adds (a + b) r
adds_adds a b r = let e : a + (b + r.count) ≡ a + b + r.count = omega arith in rw e

-- a refused tick hands back the clock that it got
refused_kept : (c : Clock) → ((tick_of c).refusal ≡ 0 → ⊥) → (tick_of c).clock ≡ c
unfolding tick_of
refused_kept c h = simp (ne_eqb (tick_refusal c) 0 h)

-- one tick of a run
module _ (c : Clock) (n : ℕ) (stop : Bool) where
  run_refused : ((tick_of c).refusal ≡ 0 → ⊥) → ran_of stop (suc n) c ≡ ended (tick_of c).refusal c
  unfolding ran_of
  run_refused h = simp (ne_eqb (tick_of c).refusal 0 h)

  run_accepted : (tick_of c).refusal ≡ 0
      → ran_of stop (suc n) c ≡ one_more (cond (stop && rolls_over c) (ended 0 (tick_of c).clock) (ran_of stop n (tick_of c).clock))
  unfolding ran_of
  run_accepted h = simp h

no_stop : (stop : Bool) → stop && false ≡ false
no_stop true = refl
no_stop false = refl

all_stop : (stop : Bool) → stop && true ≡ stop
all_stop true = refl
all_stop false = refl

-- a tick within the second, of a clock in range
module _ (c : Clock) (t : in_range c ≡ true) (l : rolls_over c ≡ false) where
  plain_tick : tick_of c ≡ record { refusal = 0; clock = stepped c }
  unfolding tick_of tick_refusal ticked
  plain_tick = simp (t, l)

  plain_run : (n : ℕ) (stop : Bool) → ran_of stop (suc n) c ≡ one_more (ran_of stop n (stepped c))
  plain_run n stop = run_accepted c n stop (ap (λ (o : Outcome). o.refusal) plain_tick) ∙ simp (plain_tick, l, no_stop stop)

-- fewer ticks reach no farther
pub fewer_within : (c : Clock) {i j : ℕ} → i ≤ j → Within j c → Within i c
fewer_within c h w = omega (arith, w, mul-le-mul_left (longest_tick (device_of c.kind)) h)

-- j ticks within the second, and the rest
module _ (c : Clock) (k : Ok c) (n : ℕ) (stop : Bool) where
  later_run : (j m : ℕ) → j + m ≡ n → Within j c → ran_of stop n c ≡ adds j (ran_of stop m (jumped j c))
  later_run zero m e w = let e' : n ≡ m = omega (arith, e) in rw (e', jumped_none c k) (sym (adds_none (ran_of stop m c)))
  later_run (suc j) m e w =
      let w' : Within j c = fewer_within c (omega arith) w in
      let t : in_range (jumped j c) ≡ true = ok_back (jumped j c) (jumped_ok c k j w') in
      let h = next_jump c k j w' in
      let l : rolls_over (jumped j c) ≡ false = lt-leb 1000000 (micros_grown (jumped j c)) (omega (arith, jumped_ok c k (suc j) w, ap (λ (a : Advance). a.micros.0) h)) in
      later_run j (suc m) (omega (arith, e)) w'
      ∙ ap (adds j) (plain_run (jumped j c) t l m stop)
      ∙ adds_more j (ran_of stop m (stepped (jumped j c)))
      ∙ ap (λ (d : Clock). adds (suc j) (ran_of stop m d)) (sym (next_jumped c k j w'))

-- A turn: j ticks within the second, and the tick after them.
module _ (n j m : ℕ) (c : Clock) (t : in_range c ≡ true) (e : j + suc m ≡ n) (w : Within j c) where
  abbrev here : Clock
  here = jumped j c

  k : Ok c
  k = ok c t

  pub here_in_range : in_range here ≡ true
  here_in_range = ok_back _ (jumped_ok c k j w)

  split : (stop : Bool) → ran_of stop n c ≡ adds j (ran_of stop (suc m) here)
  split stop = later_run c k n stop j (suc m) e w

  left : n - suc j ≡ m
  left = omega (arith, e)

  -- the tick stays within the second
  plain_turn : rolls_over here ≡ false → TurnOf n c E.Within (suc j) (jumped (suc j) c)
  plain_turn l =
      record {
        most = omega (arith, e);
        some = λ h. omega arith;
        run = λ stop.
            split stop ∙ ap (adds j) (plain_run here here_in_range l m stop) ∙ adds_more j (ran_of stop m (stepped here))
            ∙ rw (left, next_jumped c k j w);
      }

  -- it rolls over
  roll_turn : rolls_over here ≡ true → (tick_of here).refusal ≡ 0 → TurnOf n c E.Rolled (suc j) (tick_of here).clock
  roll_turn l h =
      record {
        most = omega (arith, e);
        some = λ h. omega arith;
        run = λ stop. split stop ∙ ap (adds j) (run_accepted here m stop h)
            ∙ adds_more j (cond (stop && rolls_over here) (ended 0 (tick_of here).clock) (ran_of stop m (tick_of here).clock)) ∙ rw (left, l, all_stop stop);
      }

  -- it is refused, since the second is the last of all
  last_turn : (tick_of here).refusal ≡ 3 → TurnOf n c (E.Refused Last) j (tick_of here).clock
  last_turn h =
      let some : (tick_of here).refusal ≡ 0 → ⊥ = λ z. absurd (omega (arith, h, z)) in
      record {
        most = omega (arith, e);
        some = λ z. absurd (omega (arith, z));
        run = λ stop. split stop ∙ ap (adds j) (run_refused here m stop some) ∙ simp (h, refused_kept here some);
      }

-- The same of what the code computes, of a jump that counts the last tick: a is where it leads to.
module _ (n : ℕ) (jump : Jump) (some : 0 < jump.ticks) (most : jump.ticks ≤ n) where
  abbrev j : ℕ
  j = jump.ticks

  abbrev begin : Clock
  begin = jump.from.clock

  abbrev before : Clock
  before = jumped (j - 1) begin

  abbrev known : in_range begin ≡ true
  known = jump.from.in_range

  counted : suc (j - 1) ≡ j
  counted = omega (arith, some)

  rest_eq : j - 1 + suc (n - j) ≡ n
  rest_eq = omega (arith, some, most)

  pub before_in_range : in_range before ≡ true
  before_in_range = here_in_range n (j - 1) (n - j) begin known rest_eq jump.within

  module _ (a : Advance) (e : a ≡ jump_of j begin) where
    grown : a ≡ advance_of before
    grown = e ∙ ap (λ (i : ℕ). jump_of i begin) (sym counted) ∙ next_jump begin (ok begin known) (j - 1) jump.within

    grown_micros : a.micros.0 ≡ micros_grown before
    grown_micros = ap (λ (x : Advance). x.micros.0) grown

    -- the last of the ticks stays within the second
    module _ (less : a.micros.0 < 1000000) where
      pub stays_in_range : in_range (moved_to begin a) ≡ true
      stays_in_range =
          let k = ok before before_in_range in
          let h : micros_grown before ≤ 999999 = omega (arith, less, grown_micros) in
          rw grown (ok_back (advanced before (micros_grown before)) (advanced_ok before k h))

      pub stays_turn : {d : Clock} → d ≡ moved_to begin a → TurnOf n begin E.Within j d
      stays_turn s =
          let l : rolls_over before ≡ false = lt-leb 1000000 (micros_grown before) (omega (arith, less, grown_micros)) in
          rw (s, e) (rw counted at (plain_turn n (j - 1) (n - j) begin known rest_eq jump.within l))

    -- it reaches the end of the second
    module _ (more : 1000000 ≤ a.micros.0) where
      rolls_there : rolls_over before ≡ true
      rolls_there = le-leb 1000000 (micros_grown before) (omega (arith, more, grown_micros))

      pub rest_in_range : in_range (moved_to begin (less_a_second a)) ≡ true
      rest_in_range =
          let k = ok before before_in_range in
          rw grown (ok_back (advanced before (micros_grown before - 1000000)) (advanced_ok before k (omega (arith, grown_most before k))))

      module _ (earlier : begin.seconds < 4294967295) where
        tick_rolls : tick_of before ≡ record { refusal = 0; clock = rolled_over (moved_to begin (less_a_second a)) }
        unfolding tick_of tick_refusal ticked
        tick_rolls = rw grown (simp (before_in_range, rolls_there, ne_eqb begin.seconds 4294967295 (λ h. omega arith)))

        pub rolled_turn : {d : Clock} → d ≡ rolled_over (moved_to begin (less_a_second a)) → TurnOf n begin E.Rolled j d
        rolled_turn h =
            let l = roll_turn n (j - 1) (n - j) begin known rest_eq jump.within rolls_there (ap (λ (x : Outcome). x.refusal) tick_rolls) in
            rw h (rw (counted, tick_rolls) at l)

      module _ (last : begin.seconds ≡ 4294967295) where
        tick_refused : tick_of before ≡ record { refusal = 3; clock = before }
        unfolding tick_of tick_refusal
        tick_refused = simp (before_in_range, rolls_there, eq-eqb begin.seconds 4294967295 last)

        pub refused_turn : {d : Clock} → d ≡ before → TurnOf n begin (E.Refused Last) (j - 1) d
        refused_turn h =
            let l = last_turn n (j - 1) (n - j) begin known rest_eq jump.within (ap (λ (x : Outcome). x.refusal) tick_refused) in
            rw h (rw tick_refused at l)

-- A run of up to n ticks that has `left` of them to come at the clock c, after a turn.
module _ (stop : Bool) (n left : ℕ) (c : Clock) (e : End) (j : ℕ) (d : Clock) (most : left ≤ n) (k : TurnOf left c e j d) where
  after_turn : n - left + j ≡ n - (left - j)
  after_turn = omega (arith, most, k.most)

  pub run_ends : ends_run stop e ≡ true → adds (n - left) (ran_of stop left c) ≡ ran (n - (left - j)) (end_refusal e) d
  run_ends h =
      let z : n - left + (j + 0) ≡ n - (left - j) = omega (arith, after_turn) in
      rw (k.run stop, h, z)

  pub run_goes_on : ends_run stop e ≡ false
      → adds (n - left) (ran_of stop left c) ≡ adds (n - (left - j)) (ran_of stop (left - j) d)
  run_goes_on h = rw (k.run stop, h, sym after_turn) (adds_adds (n - left) j (ran_of stop (left - j) d))

pub run_none : (stop : Bool) (n : ℕ) (c : Clock) → n ≤ 0 → ran_of stop n c ≡ ended 0 c
unfolding ran_of
run_none stop n c h = let e : n ≡ 0 = omega (arith, h) in rw e

-- No more ticks are accepted than the ceiling.
one_tick_most : (accepted stops : Bool) (n k : ℕ) (c d : Clock) (r : CaughtUp) → r.count ≤ n
    → (cond accepted (one_more (cond stops (ended 0 d) r)) (ended k c)).count ≤ suc n
one_tick_most true true n k c d r h = omega arith
one_tick_most true false n k c d r h = omega (arith, h)
one_tick_most false stops n k c d r h = omega arith

pub run_most : (stop : Bool) (n : ℕ) (c : Clock) → (ran_of stop n c).count ≤ n
unfolding ran_of
run_most stop zero c = omega arith
run_most stop (suc n) c =
    one_tick_most (eqb (tick_of c).refusal 0) (stop && rolls_over c) n (tick_of c).refusal c (tick_of c).clock (ran_of stop n (tick_of c).clock) (run_most stop n (tick_of c).clock)

-- Many ticks one after the other, for who counts them singly.
pub ticks_none : (c : Clock) → in_range c ≡ true → ticks_of 0 c ≡ record { refusal = 0; clock = c }
unfolding ticks_of ran_of
ticks_none c t = simp t

module _ (c : Clock) (n : ℕ) (t : in_range c ≡ true) where
  one_more_lem : (tick_of c).refusal ≡ 0 → ticks_of (suc n) c ≡ ticks_of n (tick_of c).clock
  unfolding ticks_of
  one_more_lem h = simp (t, run_accepted c n false h, ticked_in_range c t (tick_case c))

  none_more : ((tick_of c).refusal ≡ 0 → ⊥) → ticks_of (suc n) c ≡ record { refusal = (tick_of c).refusal; clock = c }
  unfolding ticks_of
  none_more h = simp (t, run_refused c n false h)

by_tick : (c : Clock) (n : ℕ) → TickCase c → ticks_of (suc n) c ≡ cond (eqb (tick_of c).refusal 0) (ticks_of n (tick_of c).clock) (tick_of c)
unfolding ticks_of
by_tick c n (out t e) = simp (t, e)
by_tick c n (last k l e) = none_more c n (ok_back c k) (λ h. absurd (omega (arith, rw e at h))) ∙ simp e
by_tick c n (plain k l less e) = one_more_lem c n (ok_back c k) (rw e refl) ∙ simp e
by_tick c n (rolls k l more less e) = one_more_lem c n (ok_back c k) (rw e refl) ∙ simp e

pub ticks_one_more : (c : Clock) (n : ℕ) → ticks_of (suc n) c ≡ cond (eqb (tick_of c).refusal 0) (ticks_of n (tick_of c).clock) (tick_of c)
ticks_one_more c n = by_tick c n (tick_case c)
