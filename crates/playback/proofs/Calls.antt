-- The clock of a run is the clock after the list of its calls, so that demand 3 holds of every history.
use mathlib.Core.Path.{◌≡◌, refl, sym, ◌∙◌, ap}
use mathlib.Core.Bool.{Bool, true, false, ◌&&◌}
use mathlib.Core.List.{List, [], ◌∷◌, ◌++◌, append_assoc}
use Prim.Native.Nat.{ℕ, zero, suc, ◌+◌, ◌-◌, ◌<◌, ◌≤◌}
use native.Mathlib.Omega.{arith}
use lib.Dec.{leb, ltb, eqb}
use lib.ListN.{length}
use borrow.Author.Tests.{le-leb, lt-leb, le-ltb, leb-true, leb-false, ltb-true, ltb-false}
use Rattle.clock.specs.Tick.{tick_of}
use Rattle.clock.specs.Reading.{told_of, shown}
use Rattle.state.specs.Device.{kind256}
use Rattle.state.specs.State.{in_range, fresh_clock}
use Rattle.state.specs.declared.state.Clock.{Clock}
use Rattle.event.specs.Event.{step_of}
use Rattle.event.proofs.Kept.{tick_same}
use Rattle.event.specs.declared.event.Call.TheVariants.{Reading}
use Rattle.event.specs.declared.event.Event as call
use Rattle.event.specs.declared.event.Event.TheVariants.{Call as single}
use Rattle.bounds.specs.Calls.{after_by, clock_after}
use Rattle.bounds.specs.Singly.{single_ticks, as_events}
use Rattle.bounds.proofs.Runs.{after_append}
use Rattle.bounds.proofs.Theorem.{demand3}
use Rattle.history.specs.declared.Event.{Event}
use Rattle.history.specs.declared.Event.TheVariants.{Ticks, Summary, Call}
use Rattle.history.specs.Event.{Found, found, refused, event_at, asks_summary}
use Rattle.history.specs.Properties.{Past}
use Rattle.history.proofs.Extent.{event_past}
use Rattle.clock.specs.Ticks.{ran_of, ticks_of}
use Rattle.clock.proofs.RunLaws.{ticks_one_more}
use Rattle.playback.specs.Lines.{print_line}
use Rattle.summary.specs.Summary.{quarters, empty_summary}
use Rattle.summary.specs.Afresh.{carried_by, carried}
use Rattle.summary.specs.declared.cells.Summary as summary
use Rattle.summary.proofs.Carrying.{carried_append, ticks_carried}
use Rattle.playback.specs.Event.{outcome_of, line_of, summary_after}
use Rattle.playback.specs.Run.{Advanced, longest_history, start_of_run, end_of, past, step, run_after, lines_of}
use Rattle.playback.specs.Run.{steps_to_end, replay_of}
use Rattle.playback.specs.Calls.{calls_of_event, calls_from, calls_of_first, all_calls, replayer, joined}
use Rattle.playback.specs.Calls.{PrintAt, Tells, Demand3OfEveryHistory}
use Rattle.playback.specs.declared.run.Run.{Run}
use Rattle.playback.proofs.LineLaws.{reading_sound, line_print}
use Rattle.playback.proofs.RunLaws.{step_ended, step_long, step_end, step_quarter, step_found}
use Rattle.playback.proofs.RunLaws.{lines_more, run_ended, start_ends}

-- ---- the clock after the calls of an event

abbrev after : Clock → List call.Event → Clock
after c es = after_by step_of c es

abbrev ticks : ℕ → List call.Event
ticks n = as_events (single_ticks n)

-- a tick that is refused hands back the clock, and so do those after it
refused_ticks : (n : ℕ) (c : Clock) → eqb (tick_of c).refusal 0 ≡ false → after c (ticks n) ≡ c
unfolding after_by single_ticks as_events
refused_ticks zero c t = refl
refused_ticks (suc n) c t = ap (λ (d : Clock). after d (ticks n)) (tick_same c t) ∙ refused_ticks n c t

by_tick : (n : ℕ) (c : Clock) → after (tick_of c).clock (ticks n) ≡ (ticks_of n (tick_of c).clock).clock → (b : Bool) → eqb (tick_of c).refusal 0 ≡ b
    → after c (ticks (suc n)) ≡ (ticks_of (suc n) c).clock
unfolding after_by single_ticks as_events
by_tick n c h true t = rw (ticks_one_more c n) (simp t h)
by_tick n c h false t = rw (ticks_one_more c n) (simp t (refused_ticks (suc n) c t ∙ sym (tick_same c t)))

no_tick : (c : Clock) (b : Bool) → in_range c ≡ b → c ≡ (ticks_of 0 c).clock
unfolding ticks_of ran_of
no_tick c true t = simp t
no_tick c false t = simp t

ticks_after : (n : ℕ) (c : Clock) → after c (ticks n) ≡ (ticks_of n c).clock
unfolding after_by single_ticks as_events
ticks_after zero c = no_tick c (in_range c) refl
ticks_after (suc n) c = by_tick n c (ticks_after n (tick_of c).clock) (eqb (tick_of c).refusal 0) refl

event_after : (c : Clock) (e : Event) → after c (calls_of_event e) ≡ (outcome_of c e).clock
unfolding after_by outcome_of
event_after c (Ticks n) = ticks_after n c
event_after c Summary = refl
event_after c (Call e) = refl

-- the summary that is carried along them
event_carried : (c : Clock) (e : Event) (m : summary.Summary) → carried c (calls_of_event e) m ≡ summary_after c e m
unfolding carried_by summary_after
event_carried c (Ticks n) m = ticks_carried c n m
event_carried c Summary m = refl
event_carried c (Call e) m = refl

-- ---- the clock after the calls of the events so far

-- the run has come no further: it has the same clock and summary, at the same place
pub record Rests (now r : Run) : Type 0 where
  pub clock : now.clock ≡ r.clock
  pub place : now.place ≡ r.place
  pub summary : now.summary ≡ r.summary

rests_then : {a b c : Run} → Rests a b → Rests b c → Rests a c
rests_then x y = record { clock = x.clock ∙ y.clock; place = x.place ∙ y.place; summary = x.summary ∙ y.summary }

rests_as : {a b : Run} → a ≡ b → Rests a b
rests_as e =
    record { clock = ap (λ (x : Run). x.clock) e; place = ap (λ (x : Run). x.place) e; summary = ap (λ (x : Run). x.summary) e }

rests_ended : (r : Run) → Rests (end_of r) r
rests_ended r = record { clock = refl; place = refl; summary = refl }

module _ (s : List ℕ) (fits : length s ≤ longest_history) where
  -- at the end of the bytes a step moves nothing but the quarter-hour
  by_quarter : (r : Run) → r.ended ≡ false → length s ≤ r.place → (b : Bool) → (asks_summary s && ltb r.quarter quarters) ≡ b
      → Rests (step s r).run r
  by_quarter r going over true t = rw (step_quarter s r going fits over t) (record { clock = refl; place = refl; summary = refl })
  by_quarter r going over false t = rw (step_end s r going fits over t) (rests_ended r)

  step_rests : (r : Run) → length s ≤ r.place → (b : Bool) → r.ended ≡ b → Rests (step s r).run r
  step_rests r over true t = rests_as (ap (λ (a : Advanced). a.run) (step_ended s r t))
  step_rests r over false t = by_quarter r t over _ refl

  pub rests : (k : ℕ) (r : Run) → length s ≤ r.place → Rests (run_after k s r) r
  unfolding run_after
  rests zero r over = rests_as refl
  rests (suc k) r over =
      let x = step_rests r over r.ended refl in
      rests_then (rests k (step s r).run (omega (arith, x.place))) x

  -- what a run does next, and which calls it makes
  data Next (r : Run) : Type 0 where
    stops : ((k : ℕ) → calls_from k s r.place ≡ []) → ((k : ℕ) → Rests (run_after k s r) r) → Next r
    goes : (e : Event) (next : ℕ) → ((k : ℕ) → calls_from (suc k) s r.place ≡ calls_of_event e ++ calls_from k s next)
        → (step s r).run ≡ past r e next → Next r

  none_at_end : (at : ℕ) → length s ≤ at → (k : ℕ) → calls_from k s at ≡ []
  unfolding calls_from
  none_at_end at h zero = refl
  none_at_end at h (suc k) = simp (le-leb _ _ h)

  none_refused : (at n : ℕ) → at < length s → event_at s at ≡ refused n → (k : ℕ) → calls_from k s at ≡ []
  unfolding calls_from
  none_refused at n h i zero = refl
  none_refused at n h i (suc k) = simp (lt-leb _ _ h, i)

  some_found : (at : ℕ) (e : Event) (next : ℕ) → at < length s → event_at s at ≡ found e next → (k : ℕ)
      → calls_from (suc k) s at ≡ calls_of_event e ++ calls_from k s next
  unfolding calls_from
  some_found at e next h i k = simp (lt-leb _ _ h, i)

  module _ (r : Run) (going : r.ended ≡ false) where
    -- undecodable bytes end it
    rests_refused : (n : ℕ) → r.place < length s → event_at s r.place ≡ refused n → (k : ℕ) → Rests (run_after k s r) r
    unfolding run_after
    rests_refused n h i zero = rests_as refl
    rests_refused n h i (suc k) =
        let e = ap (λ (a : Advanced). a.run) (step_found s r going fits h i) in
        rests_then (rests_as (ap (run_after k s) e ∙ run_ended s k (end_of r) refl)) (rests_ended r)

    by_found : r.place < length s → (x : Found) → event_at s r.place ≡ x → Next r
    by_found h (found e next) i = goes e next (some_found r.place e next h i) (rw (step_found s r going fits h i))
    by_found h (refused n) i = stops (none_refused r.place n h i) (rests_refused n h i)

    by_place : (b : Bool) → leb (length s) r.place ≡ b → Next r
    by_place true t = let h = leb-true _ _ t in stops (none_at_end r.place h) (λ k. rests k r h)
    by_place false t = by_found (leb-false _ _ t) (event_at s r.place) refl

    next_of : Next r
    next_of = by_place (leb (length s) r.place) refl

  -- the clock and the summary after k steps
  record From (k : ℕ) (r : Run) : Type 0 where
    clock : (run_after k s r).clock ≡ after r.clock (calls_from k s r.place)
    summary : (run_after k s r).summary ≡ carried r.clock (calls_from k s r.place) r.summary

  AllFrom : ℕ → Type 0
  AllFrom k = (r : Run) → r.ended ≡ false → From k r

  from_more : (k : ℕ) → AllFrom k → (r : Run) → Next r → From (suc k) r
  unfolding AllFrom run_after after_by carried_by
  from_more k f r (stops none x) =
      record {
        clock = (x (suc k)).clock ∙ ap (after r.clock) (sym (none (suc k)));
        summary = (x (suc k)).summary ∙ ap (λ (es : List call.Event). carried r.clock es r.summary) (sym (none (suc k)));
      }
  from_more k f r (goes v next some e) =
      let g = f (past r v next) refl in
      record {
        clock =
            ap (λ (x : Run). (run_after k s x).clock) e
            ∙ g.clock
            ∙ ap (λ (d : Clock). after d (calls_from k s next)) (sym (event_after r.clock v))
            ∙ sym (after_append step_of r.clock (calls_of_event v) (calls_from k s next))
            ∙ ap (after r.clock) (sym (some k));
        summary =
            ap (λ (x : Run). (run_after k s x).summary) e
            ∙ g.summary
            ∙ ap (λ (d : Clock). carried d (calls_from k s next) (summary_after r.clock v r.summary)) (sym (event_after r.clock v))
            ∙ ap (carried (after r.clock (calls_of_event v)) (calls_from k s next)) (sym (event_carried r.clock v r.summary))
            ∙ sym (carried_append r.clock (calls_of_event v) (calls_from k s next) r.summary)
            ∙ ap (λ (es : List call.Event). carried r.clock es r.summary) (sym (some k));
      }

  from : (k : ℕ) → AllFrom k
  unfolding AllFrom run_after after_by carried_by calls_from
  from zero r going = record { clock = refl; summary = refl }
  from (suc k) r going = from_more k (from k) r (next_of r going)

  -- the calls of k events and of m more, from where the run stands after k steps
  CallsOn : ℕ → ℕ → Type 0
  CallsOn m k = (r : Run) → r.ended ≡ false
      → calls_from (k + m) s r.place ≡ calls_from k s r.place ++ calls_from m s (run_after k s r).place

  calls_more : (m k : ℕ) → CallsOn m k → (r : Run) → Next r
      → calls_from (suc k + m) s r.place ≡ calls_from (suc k) s r.place ++ calls_from m s (run_after (suc k) s r).place
  unfolding CallsOn run_after
  calls_more m k f r (stops none x) =
      none (suc k + m)
      ∙ sym (none m)
      ∙ ap (calls_from m s) (sym (x (suc k)).place)
      ∙ ap (λ (es : List call.Event). es ++ calls_from m s (run_after (suc k) s r).place) (sym (none (suc k)))
  calls_more m k f r (goes v next some e) =
      let i : suc k + m ≡ suc (k + m) = omega arith in
      ap (λ (j : ℕ). calls_from j s r.place) i
      ∙ some (k + m)
      ∙ ap (λ (es : List call.Event). calls_of_event v ++ es) (f (past r v next) refl)
      ∙ sym (append_assoc (calls_of_event v) (calls_from k s next) _)
      ∙ ap (λ (x : Run). (calls_of_event v ++ calls_from k s next) ++ calls_from m s (run_after k s x).place) (sym e)
      ∙ ap (λ (es : List call.Event). es ++ calls_from m s (run_after (suc k) s r).place) (sym (some k))

  calls_on : (m k : ℕ) → CallsOn m k
  unfolding CallsOn run_after calls_from
  calls_on m zero r going = let i : zero + m ≡ m = omega arith in ap (λ (j : ℕ). calls_from j s r.place) i
  calls_on m (suc k) r going = calls_more m k (calls_on m k) r (next_of r going)

-- an accepted reading tells what the clock shows, and that is printed
reading_shown : (c : Clock) → (step_of c (single Reading)).refusal ≡ 0 → (step_of c (single Reading)).reading ≡ shown c
unfolding told_of
reading_shown c z = simp (reading_sound c Reading refl z)

print_shown : (c : Clock) → (step_of c (single Reading)).refusal ≡ 0 → line_of c (Call Reading) ≡ print_line c
print_shown c z = sym (line_print c Reading refl z)

module _ (s : List ℕ) where
  -- nothing is run of a history that is too long
  long_rests : longest_history < length s → (k : ℕ) → Rests (run_after k s start_of_run) start_of_run
  unfolding run_after
  long_rests h zero = rests_as refl
  long_rests h (suc k) =
      rests_then
      (rests_as (ap (λ (a : Advanced). run_after k s a.run) (step_long s start_of_run refl h) ∙ run_ended s k (end_of start_of_run) refl))
      (rests_ended start_of_run)

  -- the clock and the summary after the first k steps
  record First (k : ℕ) : Type 0 where
    clock : (run_after k s start_of_run).clock ≡ clock_after kind256 (calls_of_first k s)
    summary : (run_after k s start_of_run).summary ≡ carried (fresh_clock kind256) (calls_of_first k s) empty_summary

  by_length : (k : ℕ) (b : Bool) → ltb longest_history (length s) ≡ b → First k
  unfolding calls_of_first after_by carried_by AllFrom
  by_length k true t = let x = long_rests (ltb-true _ _ t) k in record { clock = simp t x.clock; summary = simp t x.summary }
  by_length k false t =
      let x = from s (ltb-false _ _ t) k start_of_run refl in
      record { clock = simp t x.clock; summary = simp t x.summary }

  first_of : (k : ℕ) → First k
  first_of k = by_length k (ltb longest_history (length s)) refl

  clocks : (k : ℕ) → (run_after k s start_of_run).clock ≡ clock_after kind256 (calls_of_first k s)
  clocks k = (first_of k).clock

  pub summaries : (k : ℕ) → (run_after k s start_of_run).summary ≡ carried (fresh_clock kind256) (calls_of_first k s) empty_summary
  summaries k = (first_of k).summary

  module _ (k : ℕ) (p : PrintAt s k) where
    abbrev now : Run
    now = run_after k s start_of_run

    fits : length s ≤ longest_history
    fits = omega arith

    inside : Past s now.place p.next
    inside = event_past s now.place _ _ p.print

    before_end : (b : Bool) → leb (steps_to_end s) k ≡ b → k < steps_to_end s
    before_end true t = absurd (let e = start_ends s k (leb-true _ _ t) in let w : ◌≡◌ {A = ℕ} 0 1 = cc p.going in omega arith)
    before_end false t = leb-false (steps_to_end s) k t

    more : ℕ
    more = steps_to_end s - suc k

    counted : steps_to_end s ≡ k + suc more
    unfolding more
    counted = omega (arith, before_end (leb (steps_to_end s) k) refl)

    among : all_calls s ≡ calls_of_first k s ++ (single Reading ∷ calls_from more s p.next)
    unfolding calls_of_first CallsOn
    among =
        simp (le-ltb longest_history (length s) fits)
        (ap (λ (j : ℕ). calls_from j s 0) counted
        ∙ calls_on s fits (suc more) k start_of_run refl
        ∙ ap (λ (es : List call.Event). calls_from k s 0 ++ es)
        (some_found s fits now.place (Call Reading) p.next (omega (arith, inside)) p.print more))

    accepted : (step_of (clock_after kind256 (calls_of_first k s)) (single Reading)).refusal ≡ 0
    accepted = (demand3.fresh kind256 refl (calls_of_first k s)).first.accepted

    shown_line : (step s now).line ≡ print_line (clock_after kind256 (calls_of_first k s))
    shown_line =
        ap (λ (a : Advanced). a.line) (step_found s now p.going fits (omega (arith, inside)) p.print)
        ∙ ap (λ (c : Clock). line_of c (Call Reading)) (clocks k)
        ∙ print_shown (clock_after kind256 (calls_of_first k s)) accepted

    tells : Tells step_of replayer s k
    tells =
        record {
          listed = record { later = calls_from more s p.next; among = cc among };
          refusal = cc accepted;
          reading = cc (reading_shown (clock_after kind256 (calls_of_first k s)) accepted);
          line = cc shown_line;
        }

-- the lines of a run are those of its steps
lines_joined : (s : List ℕ) (k : ℕ) → lines_of k s start_of_run ≡ joined k (λ j. replayer.line j s)
unfolding lines_of joined
lines_joined s zero = refl
lines_joined s (suc k) =
    lines_more s k start_of_run
    ∙ ap (λ (ws : List ℕ). ws ++ (step s (run_after k s start_of_run)).line) (lines_joined s k)

pub demand3_of_history : Demand3OfEveryHistory
unfolding replay_of
demand3_of_history s =
    record {
      demand = demand3.fresh kind256 refl _;
      clock = cc (clocks s (steps_to_end s));
      clocks = λ k. cc (clocks s k);
      prints = tells s;
      output = cc (lines_joined s (steps_to_end s));
    }
