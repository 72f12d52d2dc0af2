-- A catch-up by the single ticks in its place: by induction on the ceiling, the first tick and then the
-- others.
use mathlib.Core.Path.{◌≡◌, refl, sym, ◌∙◌, ap}
use mathlib.Core.Bool.{Bool, true, false, ◌&&◌, true≢false}
use Prim.Native.Nat.{ℕ, zero, suc, ◌<◌}
use native.Mathlib.Omega.{arith}
use lib.Dec.{eqb}
use borrow.Author.Tests.{eqb-true, eqb-false}
use Rattle.integers.proofs.Ranges.{and_true}
use Rattle.state.specs.State.{in_range}
use Rattle.clock.specs.Tick.{rolls_over, tick_of}
use Rattle.clock.specs.Ticks.{ran_of, one_more, catch_up_refusal, catch_up_of}
use Rattle.state.specs.declared.state.Clock.{Clock}
use Rattle.clock.specs.declared.run.CaughtUp.{CaughtUp}
use Rattle.clock.proofs.TickCases.{TickCase, out, last, plain, rolls, tick_case}
use Rattle.clock.proofs.RunLaws.{ticked_in_range}
use Rattle.event.specs.Event.{answer_of, step_many, step_of}
use Rattle.event.specs.declared.event.Call.TheVariants.{Tick}
use Rattle.event.specs.declared.event.Event.{Event}
use Rattle.event.specs.declared.event.Event.TheVariants.{Call, CatchUp}
use Rattle.bounds.specs.Calls.{after_by, after}
use Rattle.bounds.specs.Singly.{single_ticks, single_calls}
use Rattle.bounds.specs.MadeSingly.{EndsAt, at_ceiling, at_rollover, at_refusal, Ticked, AnswersAs}

-- a tick of a clock in range is refused with 3 alone
only_three : (c : Clock) → in_range c ≡ true → TickCase c → ((tick_of c).refusal ≡ 0 → ⊥) → (tick_of c).refusal ≡ 3
only_three c k (out t e) h = absurd (true≢false (sym k ∙ t))
only_three c k (last o l e) h = simp e
only_three c k (plain o t l e) h = absurd (h (simp e))
only_three c k (rolls o t l s e) h = absurd (h (simp e))

-- where a catch-up is accepted the clock is in range
accepted_in_range : (c : Clock) (ceiling : ℕ) (b : Bool) → in_range c ≡ b → eqb (catch_up_refusal c ceiling) 0 ≡ true → in_range c ≡ true
accepted_in_range c ceiling true k t = k
accepted_in_range c ceiling false k t = absurd (true≢false (sym t ∙ simp k))

module _ (stop : Bool) where
  abbrev Run : ℕ → Clock → Type 0
  Run n c = Ticked c n stop (step_many (ran_of stop n c))

  none : (c : Clock) → Run 0 c
  unfolding ran_of after_by single_ticks
  none c =
      record {
        clock = refl;
        accepted = λ j h. absurd (omega (arith, h));
        most = omega arith;
        onward = λ j h. absurd (omega (arith, h));
        ends = at_ceiling refl refl;
      }

  module _ (c : Clock) where
    -- what holds of the first tick and of those after it holds of all
    accepted_all : (m : ℕ) → (tick_of c).refusal ≡ 0 → ((j : ℕ) → j < m → (answer_of (after (tick_of c).clock (single_ticks j)) Tick).refusal ≡ 0)
        → (j : ℕ) → j < suc m → (answer_of (after c (single_ticks j)) Tick).refusal ≡ 0
    unfolding after_by single_ticks
    accepted_all m z f zero h = z
    accepted_all m z f (suc j) h = f j (omega (arith, h))

    onward_all : (m : ℕ) → (stop && rolls_over c) ≡ false → ((j : ℕ) → suc j < m → (stop && rolls_over (after (tick_of c).clock (single_ticks j))) ≡ false)
        → (j : ℕ) → suc j < suc m → (stop && rolls_over (after c (single_ticks j))) ≡ false
    unfolding after_by single_ticks
    onward_all m o f zero h = o
    onward_all m o f (suc j) h = f j (omega (arith, h))

    ends_later : (n : ℕ) (r : CaughtUp) → EndsAt (tick_of c).clock n stop (step_many r) → EndsAt c (suc n) stop (step_many (one_more r))
    unfolding after_by single_ticks
    ends_later n r (at_ceiling e z) = at_ceiling (ap suc e) z
    ends_later n r (at_rollover s j e o z) = at_rollover s (suc j) (ap suc e) o z
    ends_later n r (at_refusal l e z) = at_refusal (omega (arith, l)) e z

    module _ (n : ℕ) where
      refused : eqb (tick_of c).refusal 0 ≡ false → (tick_of c).refusal ≡ 3 → Run (suc n) c
      unfolding ran_of after_by single_ticks
      refused t e =
          simp t
          (record {
            clock = refl;
            accepted = λ j h. absurd (omega (arith, h));
            most = omega arith;
            onward = λ j h. absurd (omega (arith, h));
            ends = at_refusal (omega arith) e (omega (arith, e));
          })

      stopped : eqb (tick_of c).refusal 0 ≡ true → (stop && rolls_over c) ≡ true → Run (suc n) c
      unfolding ran_of after_by single_ticks
      stopped t o =
          let s = and_true stop (rolls_over c) o in
          simp (t, o)
          (record {
            clock = refl;
            accepted = accepted_all 0 (eqb-true _ _ t) (λ j h. absurd (omega (arith, h)));
            most = omega arith;
            onward = λ j h. absurd (omega (arith, h));
            ends = at_rollover s.0 0 refl s.1 refl;
          })

      gone_on : eqb (tick_of c).refusal 0 ≡ true → (stop && rolls_over c) ≡ false → Run n (tick_of c).clock → Run (suc n) c
      unfolding ran_of after_by single_ticks
      gone_on t o r =
          simp (t, o)
          (record {
            clock = r.clock;
            accepted = accepted_all _ (eqb-true _ _ t) r.accepted;
            most = omega (arith, r.most);
            onward = onward_all _ o r.onward;
            ends = ends_later n (ran_of stop n (tick_of c).clock) r.ends;
          })

      by_rollover : eqb (tick_of c).refusal 0 ≡ true → (o : Bool) → (stop && rolls_over c) ≡ o → Run n (tick_of c).clock → Run (suc n) c
      by_rollover t true o r = stopped t o
      by_rollover t false o r = gone_on t o r

      by_refusal : in_range c ≡ true → (t : Bool) → eqb (tick_of c).refusal 0 ≡ t → Run n (tick_of c).clock → Run (suc n) c
      by_refusal k true t r = by_rollover t (stop && rolls_over c) refl r
      by_refusal k false t r = refused t (only_three c k (tick_case c) (eqb-false _ _ t))

  ticked : (n : ℕ) (c : Clock) → in_range c ≡ true → Run n c
  ticked zero c k = none c
  ticked (suc n) c k = by_refusal c n k (eqb (tick_of c).refusal 0) refl (ticked n (tick_of c).clock (ticked_in_range c k (tick_case c)))

  -- a run is not refused
  later_accepted : (n : ℕ) (c : Clock) → (ran_of stop n (tick_of c).clock).refusal ≡ 0 → (t o : Bool) → eqb (tick_of c).refusal 0 ≡ t → (stop && rolls_over c) ≡ o
      → (ran_of stop (suc n) c).refusal ≡ 0
  unfolding ran_of
  later_accepted n c z true true t o = simp (t, o)
  later_accepted n c z true false t o = simp (t, o) z
  later_accepted n c z false o t e = simp t

  run_accepted : (n : ℕ) (c : Clock) → (ran_of stop n c).refusal ≡ 0
  unfolding ran_of
  run_accepted zero c = refl
  run_accepted (suc n) c = later_accepted n c (run_accepted n (tick_of c).clock) (eqb (tick_of c).refusal 0) (stop && rolls_over c) refl refl

  module _ (c : Clock) (ceiling : ℕ) where
    in_range_lem : eqb (catch_up_refusal c ceiling) 0 ≡ true → in_range c ≡ true
    in_range_lem t = accepted_in_range c ceiling (in_range c) refl t

    by_call : (b : Bool) → eqb (catch_up_refusal c ceiling) 0 ≡ b → AnswersAs step_of c c (CatchUp ceiling stop)
    unfolding catch_up_of
    by_call true t = simp t ((λ z. ticked ceiling c (in_range_lem t)), (λ n. absurd (n (run_accepted ceiling c))))
    by_call false t = simp t ((λ z. absurd (eqb-false (catch_up_refusal c ceiling) 0 t z)), (λ n. record { count = refl; tick_refusal = refl; clock = refl }))

    clock_by_call : (b : Bool) → eqb (catch_up_refusal c ceiling) 0 ≡ b
        → (step_of c (CatchUp ceiling stop)).clock ≡ after c (single_calls c (CatchUp ceiling stop))
    unfolding catch_up_of after_by single_ticks
    clock_by_call true t = simp t (ticked ceiling c (in_range_lem t)).clock
    clock_by_call false t = simp t

pub answers_as : (c : Clock) (e : Event) → AnswersAs step_of c c e
answers_as c (Call e) = refl
answers_as c (CatchUp ceiling stop) = by_call stop c ceiling (eqb (catch_up_refusal c ceiling) 0) refl

-- the clock after an event is the clock after its single calls
pub clock_singly : (c : Clock) (e : Event) → (step_of c e).clock ≡ after c (single_calls c e)
unfolding after_by
clock_singly c (Call e) = refl
clock_singly c (CatchUp ceiling stop) = clock_by_call stop c ceiling (eqb (catch_up_refusal c ceiling) 0) refl
