-- Clocks that the other promises over lists shut out, and the quantifiers of demand 3 itself: for each
-- promise a clock that is wrong in the way that it speaks of, on the devices of one kind alone.
use Rattle.std.specs.Prelude.{ℕ, ◌+◌, ◌-◌, true, ◌&&◌, not, cond, eqb, pos, nat_abs}
use Rattle.state.specs.Units.{micros, phase_parts, micros_per_second}
use Rattle.state.specs.Device.{kind256, kind1024, device_of}
use Rattle.state.specs.State.{Moment, Update, time_of, correction_of, tuning_of, update_of, errors_of, whole}
use Rattle.state.specs.State.{no_update, last_micro, status_bad}
use Rattle.state.specs.Refusal.{refused_soon}
use Rattle.state.specs.declared.state.Clock.{Clock}
use Rattle.state.specs.declared.units.PhaseUnits.{PhaseUnits}
use Rattle.state.specs.declared.units.PhaseParts.{PhaseParts}
use Rattle.clock.specs.Tick.{rolls_over}
use Rattle.event.specs.Event.{answer_of, step_of}
use Rattle.event.specs.declared.event.Call.{Call as Single}
use Rattle.event.specs.declared.event.Call.TheVariants.{Tick}
use Rattle.event.specs.declared.event.Event.TheVariants.{Call, CatchUp}
use Rattle.event.specs.declared.event.Stepped.{Stepped}
use Rattle.bounds.specs.Calls.{Answers, is_tick, ticks, sets, rolls, count_among, ticks_among}
use Rattle.bounds.specs.Singly.{singly_from}
use Rattle.bounds.specs.Demand.{Demand3By}
use Rattle.bounds.specs.BookTicks.{Counts, book_ticks, TicksSinceSettingBy}
use Rattle.bounds.specs.Lossless.{NothingLostBy}
use Rattle.bounds.specs.MadeSingly.{MadeSinglyBy}
use Rattle.bounds.specs.Seconds.{TicksOfASecondBy}
use Rattle.bounds.specs.Interval.{IntervalBy}
use Rattle.bounds.specs.Apart.{TooSoonBy, OffsetsApartBy}
use Rattle.bounds.specs.WrongClocks.{leaving, call_leaves, reads, reads_zero, one_micro_more, counts_only}

-- wrong on clocks of a kind, and by the rules on others: so that what shuts it out speaks of that kind
abbrev pub on_kind : {E : Type 0} → ℕ → (rules wrong : Clock → E → Stepped) → Clock → E → Stepped
on_kind kind rules wrong c e = cond (eqb c.kind kind) (wrong c e) (rules c e)

abbrev pub time_from : ℕ → ℕ → PhaseUnits → PhaseParts → Moment
time_from s u p l = record { seconds = s; micros = micros u; phase = p; leftover = l }

-- a clock, but for its time
abbrev pub timed : Moment → Clock → Clock
timed time c =
    whole
    (record {
      kind = c.kind;
      time = time;
      correction = correction_of c;
      tuning = tuning_of c;
      update = update_of c;
      errors = errors_of c;
      status = c.status;
    })

-- a clock, but for its earlier update
abbrev pub updated : Update → Clock → Clock
updated update c =
    whole
    (record {
      kind = c.kind;
      time = time_of c;
      correction = correction_of c;
      tuning = tuning_of c;
      update = update;
      errors = errors_of c;
      status = c.status;
    })

-- a setting is a second late on a clock that has an offset left and no earlier update; no list on a fresh
-- clock leads to one, but a record may
abbrev pub sets_late : Answers
sets_late =
    call_leaves (λ c e. sets c e && eqb c.updated 0 && not (eqb (nat_abs c.offset.0) 0))
    (λ got left. timed (time_from (left.seconds + 1) left.micros.0 left.phase left.leftover) left)

-- the leftover is dropped at each tick, as before Req 06
abbrev pub drops_leftover : Answers
drops_leftover =
    call_leaves ticks
    (λ got left. timed (time_from left.seconds left.micros.0 left.phase (phase_parts (pos 0))) left)

-- the clock holds its time, and each reading tells a microsecond more
abbrev pub ahead_always : Answers
ahead_always = reads (λ c r. one_micro_more r)

-- a reading tells a microsecond more as long as the status is BAD and the time a whole number of them: so it
-- is off by one alone, as the first bound allows, and the third bound fails once the status is no longer BAD
abbrev pub ahead_while_whole : Answers
ahead_while_whole =
    reads
    (λ c r.
    cond (eqb c.status status_bad && eqb (nat_abs c.phase.0) 0 && eqb (nat_abs c.leftover.0) 0)
    (one_micro_more r)
    r)

-- rollovers are not counted
abbrev pub counts_no_rollover : Answers
counts_no_rollover = call_leaves rolls (λ got left. updated (update_of got) left)

-- a rollover leaves no earlier update
abbrev pub forgets_at_rollover : Answers
forgets_at_rollover = call_leaves rolls (λ got left. updated no_update left)

-- no call leaves an earlier update
abbrev pub holds_no_update : Answers
holds_no_update = call_leaves (λ c e. true) (λ got left. updated no_update left)

-- the rules, but that a catch-up answers otherwise: f of the clock that it got, of its ceiling and of what it
-- should answer
abbrev pub catch_up_answers : (Clock → ℕ → Stepped → Stepped) → Answers
catch_up_answers f c (Call e) = step_of c (Call e)
catch_up_answers f c (CatchUp ceiling stop) = f c ceiling (step_of c (CatchUp ceiling stop))

-- an answer, but for its count and the refusal of its last tick
abbrev pub counting : ℕ → ℕ → Stepped → Stepped
counting n refused a =
    record {
      refusal = a.refusal;
      count = n;
      tick_refusal = refused;
      clock = a.clock;
      reading = a.reading;
    }

-- a catch-up tells its ceiling as its count
abbrev pub tells_ceiling : Answers
tells_ceiling = catch_up_answers (λ c ceiling a. counting ceiling a.tick_refusal a)

-- a catch-up never tells that a tick was refused
abbrev pub hides_refusal : Answers
hides_refusal = catch_up_answers (λ c ceiling a. counting a.count 0 a)

-- the rules, but that a catch-up that is refused answers otherwise
abbrev pub refused_answers : (Clock → ℕ → Stepped → Stepped) → Answers
refused_answers f = catch_up_answers (λ c ceiling a. cond (eqb a.refusal 0) a (f c ceiling a))

-- a catch-up that is refused tells its ceiling as its count
abbrev pub counts_refused : Answers
counts_refused = refused_answers (λ c ceiling a. counting ceiling a.tick_refusal a)

-- a catch-up that is refused tells its own refusal as that of a tick too
abbrev pub blames_tick : Answers
blames_tick = refused_answers (λ c ceiling a. counting a.count a.refusal a)

-- a catch-up that is refused makes a tick
abbrev pub ticks_refused : Answers
ticks_refused = refused_answers (λ c ceiling a. leaving (answer_of c Tick).clock a)

-- an offset that comes too soon is said to be accepted
abbrev pub accepts_soon : Answers
accepts_soon c e =
    let a = step_of c e in
    record {
      refusal = cond (eqb a.refusal refused_soon) 0 a.refusal;
      count = a.count;
      tick_refusal = a.tick_refusal;
      clock = a.clock;
      reading = a.reading;
    }

-- a catch-up goes on for a tick past its ceiling
abbrev pub overruns : Answers
overruns c (Call e) = step_of c (Call e)
overruns c (CatchUp ceiling stop) = step_of c (CatchUp (ceiling + 1) stop)

-- a rollover leaves the clock at the end of its second, so that the next tick rolls over again
abbrev pub lingers : Clock → Single → Stepped
lingers c e =
    let a = answer_of c e in
    let d = a.clock in
    leaving (cond (rolls c e) (timed (time_from d.seconds last_micro d.phase d.leftover) d) d) a

-- a rollover leaves the clock near the end of its second, and each other tick moves it by a microsecond, so
-- that it takes two ticks more than its rate to roll over again
abbrev pub dawdles : Clock → Single → Stepped
dawdles c e =
    let a = answer_of c e in
    let d = a.clock in
    let device = device_of c.kind in
    let late = micros_per_second - (device.tick.0 + device.rate + 1) in
    let u = cond (rolls_over c) late (c.micros.0 + 1) in
    leaving (cond (ticks c e) (timed (time_from d.seconds u c.phase c.leftover) d) d) a

-- wrong of clocks of a kind, and the book's n of others
abbrev pub counts_on_kind : ℕ → Counts → Counts
counts_on_kind kind wrong start events =
    cond (eqb start.kind kind) (wrong start events) (book_ticks start events)

-- all accepted ticks, those before an accepted setting too
abbrev pub past_setting : Counts
past_setting start events = ticks_among start (singly_from start events)

-- all ticks, refused ones too
abbrev pub with_refused : Counts
with_refused start events = count_among (λ c e. is_tick e) start (singly_from start events)

-- none of them keeps the promise that it is named for
pub record AlsoShutOut (kind : ℕ) : Type 0 where
  pub fresh : Demand3By (on_kind kind step_of ahead_while_whole) → ⊥
  pub set : Demand3By (on_kind kind step_of sets_late) → ⊥
  pub held : NothingLostBy (on_kind kind step_of drops_leftover) → ⊥
  pub near : NothingLostBy (on_kind kind step_of ahead_always) → ⊥
  pub held_set : NothingLostBy (on_kind kind step_of sets_late) → ⊥
  pub clock : MadeSinglyBy (on_kind kind step_of counts_only) → ⊥
  pub each : MadeSinglyBy (on_kind kind step_of tells_ceiling) → ⊥
  pub most : MadeSinglyBy (on_kind kind step_of overruns) → ⊥
  pub answered : MadeSinglyBy (on_kind kind step_of reads_zero) → ⊥
  pub hidden : MadeSinglyBy (on_kind kind step_of hides_refusal) → ⊥
  pub refused_count : MadeSinglyBy (on_kind kind step_of counts_refused) → ⊥
  pub refused_tick : MadeSinglyBy (on_kind kind step_of blames_tick) → ⊥
  pub refused_clock : MadeSinglyBy (on_kind kind step_of ticks_refused) → ⊥
  pub second : TicksOfASecondBy (on_kind kind answer_of lingers) → ⊥
  pub long_second : TicksOfASecondBy (on_kind kind answer_of dawdles) → ⊥
  pub ticks_past : TicksSinceSettingBy (counts_on_kind kind past_setting) → ⊥
  pub ticks_refused : TicksSinceSettingBy (counts_on_kind kind with_refused) → ⊥
  pub interval : IntervalBy (on_kind kind step_of counts_no_rollover) → ⊥
  pub soon : TooSoonBy (on_kind kind step_of holds_no_update) → ⊥
  pub soon_answered : TooSoonBy (on_kind kind step_of accepts_soon) → ⊥
  pub apart : OffsetsApartBy (on_kind kind step_of holds_no_update) → ⊥
  pub apart_later : OffsetsApartBy (on_kind kind step_of forgets_at_rollover) → ⊥

abbrev pub AlsoShutOutOfEachKind : Type 0
AlsoShutOutOfEachKind = AlsoShutOut kind256 × AlsoShutOut kind1024
