-- Clocks that document 01 shuts out by name: "a clock that refuses everything, and a reading that is always
-- zero [..]; a tick that does nothing [..]; a rollover that pays the first share and later only pretends".
-- And others, each of which lacks a part of demand 3. For each, a list of events at which demand 3 would
-- fail, on a clock of either kind.
use Rattle.std.specs.Prelude.{ℕ, ◌+◌, ◌%◌, Bool, false, not, ◌&&◌, cond, List, [], ◌∷◌, eqb, pos, nat_abs}
use Rattle.state.specs.Units.{offset_units_per_micro, micros}
use Rattle.state.specs.Device.{kind256, kind1024}
use Rattle.state.specs.State.{Correction, fresh_clock, time_of, tuning_of, update_of, errors_of, whole, status_bad}
use Rattle.clock.specs.Reading.{no_reading}
use Rattle.state.specs.declared.state.Clock.{Clock}
use Rattle.clock.specs.declared.reading.Reading as shows
use Rattle.event.specs.Event.{step_of}
use Rattle.event.specs.declared.event.Call.{Call as Single}
use Rattle.event.specs.declared.event.Call.TheVariants.{Tick, Reading}
use Rattle.event.specs.declared.event.Event.{Event}
use Rattle.event.specs.declared.event.Event.TheVariants.{Call, CatchUp}
use Rattle.event.specs.declared.event.Stepped.{Stepped}
use Rattle.bounds.specs.Calls.{Answers, ticks, rolls}
use Rattle.bounds.specs.Singly.{single_ticks, as_events}
use Rattle.bounds.specs.Measure.{measure_of}
use Rattle.cases.specs.Cases.{asks, set}
use Rattle.bounds.specs.Demand.{ThirdBound, Demand3}

-- an answer, but for its clock
abbrev pub leaving : Clock → Stepped → Stepped
leaving c a =
    record {
      refusal = a.refusal;
      count = a.count;
      tick_refusal = a.tick_refusal;
      clock = c;
      reading = a.reading;
    }

-- The rules, but that a single call of a sort leaves another clock: f of the clock that it got and of the one
-- that it should leave. Catch-ups follow the rules.
abbrev pub call_leaves : (Clock → Single → Bool) → (Clock → Clock → Clock) → Answers
call_leaves sort f c (Call e) =
    let a = step_of c (Call e) in
    cond (sort c e) (leaving (f c a.clock) a) a
call_leaves sort f c (CatchUp ceiling stop) = step_of c (CatchUp ceiling stop)

-- a clock, but for its correction
abbrev pub corrected : Correction → Clock → Clock
corrected correction c =
    whole
    (record {
      kind = c.kind;
      time = time_of c;
      correction = correction;
      tuning = tuning_of c;
      update = update_of c;
      errors = errors_of c;
      status = c.status;
    })

-- every call is refused, with 1
abbrev pub refuses_everything : Answers
refuses_everything c e = record { refusal = 1; count = 0; tick_refusal = 0; clock = c; reading = no_reading }

-- every call does what it should, and is said to be refused
abbrev pub says_refused : Answers
says_refused c e =
    record {
      refusal = 1;
      count = (step_of c e).count;
      tick_refusal = (step_of c e).tick_refusal;
      clock = (step_of c e).clock;
      reading = (step_of c e).reading;
    }

-- the rules, but for what is read
abbrev pub reads : (Clock → shows.Reading → shows.Reading) → Answers
reads f c e =
    record {
      refusal = (step_of c e).refusal;
      count = (step_of c e).count;
      tick_refusal = (step_of c e).tick_refusal;
      clock = (step_of c e).clock;
      reading = f c (step_of c e).reading;
    }

-- the reading is always zero, and accepted
abbrev pub reads_zero : Answers
reads_zero = reads (λ c r. no_reading)

-- a microsecond more
abbrev pub one_micro_more : shows.Reading → shows.Reading
one_micro_more r =
    record {
      seconds = r.seconds;
      micros = micros (r.micros.0 + 1);
      status = r.status;
      maxerror = r.maxerror;
      esterror = r.esterror;
    }

-- a reading tells a microsecond more as long as the status is BAD
abbrev pub ahead_while_bad : Answers
ahead_while_bad = reads (λ c r. cond (eqb c.status status_bad) (one_micro_more r) r)

-- an accepted tick does nothing
abbrev pub idles : Answers
idles = call_leaves ticks (λ got left. got)

-- the ticks of a catch-up are counted, and not made
abbrev pub counts_only : Answers
counts_only c (Call e) = step_of c (Call e)
counts_only c (CatchUp ceiling stop) = leaving c (step_of c (CatchUp ceiling stop))

-- Something has been taken off the offset that was asked for: what is left is no longer whole microseconds.
-- (Of the offset asked for below that is so from the first share on.)
abbrev pub begun : Clock → Bool
begun c = not (eqb (nat_abs c.offset.0 % offset_units_per_micro) 0)

-- no share in the adjustment, at frequency 0
abbrev pub unpaid : Clock → Clock
unpaid c =
    corrected
    (record { offset = c.offset; adjustment = (fresh_clock c.kind).adjustment; remainder = c.remainder })
    c

-- the first share is paid; each later one is taken off the offset, and not paid
abbrev pub pretends : Answers
pretends = call_leaves (λ c e. rolls c e && begun c) (λ got left. unpaid left)

-- each share is paid, and not taken off the offset
abbrev pub keeps_offset : Answers
keeps_offset =
    call_leaves rolls
    (λ got left.
    corrected
    (record { offset = got.offset; adjustment = left.adjustment; remainder = left.remainder })
    left)

-- the greatest offset, asked just before a rollover that pays its first share
abbrev pub asked : List Event → List Event
asked events = Call (set 0 999999) ∷ Call (asks (pos 127999)) ∷ events

-- and ticks past the next rollover, which only pretends
abbrev pub pretence : ℕ → List Event
pretence kind = asked (as_events (single_ticks ((measure_of kind).parts + 24)))

-- and ticks of which the first and the last roll over: the second between them, in which the first share is
-- paid, is the shorter for it
abbrev pub paid_second : ℕ → ℕ
paid_second kind = (measure_of kind).parts

-- None of them meets demand 3. A clock that refuses everything, one that says so, and a reading that is
-- always zero fail the first bound after a tick, and "a rollover that pays the first share and later only
-- pretends ([..] 3's first bound, whose exact time counts every share)". A clock whose offset stays while it
-- is paid fails the second, at a tick of the list and at one of the single ticks that the bound puts in the
-- place of a catch-up; and a reading that is ahead, and then no longer, the third. "A tick that does nothing
-- ([..] 3's forward bound)" fails that bound too, as does a catch-up that only counts.
pub record ShutOut (kind : ℕ) : Type 0 where
  pub refusing : Demand3 refuses_everything kind (Call Tick ∷ []) → ⊥
  pub saying : Demand3 says_refused kind (Call Tick ∷ []) → ⊥
  pub zeros : Demand3 reads_zero kind (Call Tick ∷ []) → ⊥
  pub pretending : Demand3 pretends kind (pretence kind) → ⊥
  pub keeping : Demand3 keeps_offset kind (asked (as_events (single_ticks (paid_second kind)))) → ⊥
  pub keeping_within : Demand3 keeps_offset kind (asked (CatchUp (paid_second kind) false ∷ [])) → ⊥
  pub ahead :
      Demand3 ahead_while_bad kind (Call (set 5 0) ∷ Call Reading ∷ Call (asks (pos 0)) ∷ Call Reading ∷ []) → ⊥
  pub idle : ThirdBound idles kind (Call Reading ∷ Call Tick ∷ Call Reading ∷ []) → ⊥
  pub counting : ThirdBound counts_only kind (Call Reading ∷ CatchUp 1 false ∷ Call Reading ∷ []) → ⊥

abbrev pub ShutOutOfEachKind : Type 0
ShutOutOfEachKind = ShutOut kind256 × ShutOut kind1024
