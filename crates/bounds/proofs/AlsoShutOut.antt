-- The other wrong clocks lack the promises that they are named for: each at one list, computed.
use mathlib.Core.Path.{◌≡◌, refl, sym, ap}
use mathlib.Core.Bool.{true, false, true≢false}
use mathlib.Core.List.{List, [], ◌∷◌, ◌++◌}
use Prim.Native.Nat.{ℕ}
use native.Mathlib.Omega.{arith}
use lib.Dec.{eqb}
use lib.IntN.{pos, nat_abs}
use borrow.Author.Tests.{eqb-false, ltb-true}
use Rattle.state.specs.Device.{kind256, kind1024, device_of}
use Rattle.state.specs.State.{Update, in_range}
use Rattle.clock.specs.Reading.{told_of, reading_refusal}
use Rattle.clock.specs.Rollover.{rolled_over}
use Rattle.clock.specs.Tick.{unit_in, ticked, tick_refusal, tick_of}
use Rattle.clock.specs.Ticks.{ran_of, catch_up_of}
use Rattle.clock.specs.Setting.{setting_refusal, setting_of}
use Rattle.state.specs.declared.state.Clock.{Clock}
use Rattle.state.specs.declared.units.AskedMicros.{AskedMicros}
use Rattle.request.specs.Request.{request_refusal, requested, request_of}
use Rattle.request.specs.declared.request.Request as asked
use Rattle.event.specs.Event.{answer_of}
use Rattle.event.specs.declared.event.Call.TheVariants.{Tick, Request, Reading}
use Rattle.event.specs.declared.event.Event.{Event}
use Rattle.event.specs.declared.event.Event.TheVariants.{Call, CatchUp}
use Rattle.event.specs.declared.event.Stepped.{Stepped}
use Rattle.cases.specs.Cases.{given, ◌≔◌, ◌≔ℤ◌, kind, seconds, micros, frequency, left, request_for}
use Rattle.cases.specs.Cases.{asks, set}
use Rattle.bounds.specs.Calls.{Answers, after_by, count_among_by, none_among_by}
use Rattle.bounds.specs.Singly.{single_ticks, singly_from, as_events}
use Rattle.bounds.specs.Book.{book_from}
use Rattle.bounds.specs.BookTicks.{ticks_since_setting}
use Rattle.bounds.specs.Measure.{measure_of}
use Rattle.bounds.specs.Interval.{since_from}
use Rattle.bounds.specs.MadeSingly.{EndsAt, at_ceiling, at_rollover, at_refusal}
use Rattle.bounds.specs.MadeSingly.{Ticked, Untouched, MadeSinglyBy}
use Rattle.bounds.specs.WrongClocks.{asked}
use Rattle.bounds.specs.OtherWrongClocks.{AlsoShutOutOfEachKind}
use Rattle.bounds.proofs.ShutOut.{not_below, not_most}

not_same : {a b : ℕ} → eqb a b ≡ false → a ≡ b → ⊥
not_same {a} {b} e h = eqb-false a b e h

-- clocks of a kind: at these microseconds; with an offset left; with a frequency
abbrev at : ℕ → ℕ → Clock
at k u = given (kind ≔ k ∷ micros ≔ u ∷ [])

-- where a tick would roll over from the last second
abbrev at_last : ℕ → Clock
at_last k = given (kind ≔ k ∷ seconds ≔ 4294967295 ∷ micros ≔ 999999 ∷ [])

abbrev offset_left : ℕ → Clock
offset_left k = given (kind ≔ k ∷ left ≔ℤ pos 1 ∷ [])

abbrev faster : ℕ → Clock
faster k = given (kind ≔ k ∷ frequency ≔ℤ pos 1 ∷ [])

abbrev asked_micros : ℕ → AskedMicros
asked_micros u = record { 0 = u }

-- an offset of 1,000 us, asked for
abbrev offset : asked.Request
offset = request_for 1 (pos 1000) 0

abbrev two_offsets : List Event
two_offsets = Call (Request offset) ∷ Call (Request offset) ∷ []

-- a rollover, and some ticks more
abbrev rollover : ℕ → List Event
rollover n = Call Tick ∷ CatchUp n false ∷ []

abbrev offsets_around : List Event → List Event
offsets_around between = Call (Request offset) ∷ (between ++ (Call (Request offset) ∷ []))

-- two readings, between which the status does not stay BAD
abbrev read_twice : List Event
read_twice = Call (set 5 0) ∷ Call Reading ∷ Call (asks (pos 0)) ∷ Call Reading ∷ []

-- what is promised of a catch-up that stops at a rollover, as the only event of a list
caught : {answers : Answers} → MadeSinglyBy answers → (c : Clock) (ceiling : ℕ)
    → (answers c (CatchUp ceiling true)).refusal ≡ 0 → Ticked c ceiling true (answers c (CatchUp ceiling true))
unfolding after_by singly_from
caught d c ceiling h = ((d c (CatchUp ceiling true ∷ [])).each [] [] (CatchUp ceiling true) refl).answered.0 h

-- .. of a catch-up that is refused for its ceiling
refused : {answers : Answers} → MadeSinglyBy answers → (c : Clock)
    → ((answers c (CatchUp 65537 true)).refusal ≡ 0 → ⊥) → Untouched c (answers c (CatchUp 65537 true))
unfolding after_by singly_from
refused d c h = ((d c (CatchUp 65537 true ∷ [])).each [] [] (CatchUp 65537 true) refl).answered.1 h

-- .. of a reading
read : {answers : Answers} → MadeSinglyBy answers → (c : Clock)
    → answers c (Call Reading) ≡ answer_of c Reading
unfolding after_by singly_from
read d c = ((d c (Call Reading ∷ [])).each [] [] (Call Reading) refl).answered

-- no end of a catch-up that has made none of its ticks and tells no refusal
no_end : (c : Clock) (a : Stepped) → a.count ≡ 0 → a.tick_refusal ≡ 0 → EndsAt c 1 true a → ⊥
no_end c a n z (at_ceiling e y) = omega (arith, n, e)
no_end c a n z (at_rollover s j e o y) = omega (arith, n, e)
no_end c a n z (at_refusal l e y) = omega (arith, z, y)

-- the maximum error that is read (us)
abbrev read_error : Stepped → ℕ
read_error a = a.reading.maxerror.0

pub also_shut_out : AlsoShutOutOfEachKind
unfolding device_of measure_of in_range told_of reading_refusal rolled_over unit_in ticked tick_refusal tick_of
    ran_of catch_up_of setting_refusal setting_of request_refusal requested request_of after_by count_among_by
    none_among_by single_ticks singly_from as_events book_from ticks_since_setting since_from
also_shut_out = (
  record {
    fresh = λ d.
        not_most refl
        ((d.fresh kind256 refl read_twice).third (Call (set 5 0) ∷ []) (Call (asks (pos 0)) ∷ []) []
        refl refl);
    set = λ d. not_below refl (d.set (offset_left kind256) 5 (asked_micros 0) [] refl).near;
    held = λ d.
        not_same refl (ap nat_abs (d.set (faster kind256) 5 (asked_micros 0) (Call Tick ∷ []) refl).held);
    near = λ d. not_below refl (d.fresh kind256 refl []).near;
    held_set = λ d. not_same refl (ap nat_abs (d.set (offset_left kind256) 5 (asked_micros 0) [] refl).held);
    clock = λ d.
        not_same refl (ap (λ (c : Clock). c.micros.0) (d (at kind256 0) (CatchUp 1 false ∷ [])).clock);
    each = λ d. true≢false ((caught d (at kind256 999999) 2 refl).onward 0 (ltb-true 1 2 refl));
    most = λ d. not_most refl (caught d (at kind256 996093) 1 refl).most;
    answered = λ d. not_same refl (ap read_error (read d (at kind256 0)));
    hidden = λ d. no_end _ _ refl refl (caught d (at_last kind256) 1 refl).ends;
    refused_count = λ d. not_same refl (refused d (at kind256 0) (not_same refl)).count;
    refused_tick = λ d. not_same refl (refused d (at kind256 0) (not_same refl)).tick_refusal;
    refused_clock = λ d.
        not_same refl (ap (λ (c : Clock). c.micros.0) (refused d (at kind256 0) (not_same refl)).clock);
    second = λ d. not_most refl (d (at kind256 999999) [] refl refl refl).least;
    long_second = λ d. not_most refl (d (at kind256 999999) (single_ticks 257) refl refl refl).most;
    ticks_past = λ d. not_same refl (d (at kind256 0) (Call Tick ∷ Call (set 5 0) ∷ []));
    ticks_refused = λ d. not_same refl (d (at_last kind256) (Call Tick ∷ []));
    interval = λ d. not_same refl (ap (λ (u : Update). u.interval) (d kind256 (asked (Call Tick ∷ []))));
    soon = λ d. true≢false (sym (d kind256 (Call (Request offset) ∷ []) offset).held);
    soon_answered = λ d.
        true≢false (sym ((d kind256 (Call (Request offset) ∷ []) offset).answered refl refl));
    apart = λ d.
        not_most refl
        (d (at kind256 0) two_offsets [] [] [] offset offset refl refl refl refl);
    apart_later = λ d.
        not_most refl
        (d (at kind256 999999) (offsets_around (rollover 0)) [] (rollover 0) [] offset offset
        refl refl refl refl);
  },
  record {
    fresh = λ d.
        not_most refl
        ((d.fresh kind1024 refl read_twice).third (Call (set 5 0) ∷ []) (Call (asks (pos 0)) ∷ []) []
        refl refl);
    set = λ d. not_below refl (d.set (offset_left kind1024) 5 (asked_micros 0) [] refl).near;
    held = λ d.
        not_same refl (ap nat_abs (d.set (faster kind1024) 5 (asked_micros 0) (Call Tick ∷ []) refl).held);
    near = λ d. not_below refl (d.fresh kind1024 refl []).near;
    held_set = λ d. not_same refl (ap nat_abs (d.set (offset_left kind1024) 5 (asked_micros 0) [] refl).held);
    clock = λ d.
        not_same refl (ap (λ (c : Clock). c.micros.0) (d (at kind1024 0) (CatchUp 1 false ∷ [])).clock);
    each = λ d. true≢false ((caught d (at kind1024 999999) 2 refl).onward 0 (ltb-true 1 2 refl));
    most = λ d. not_most refl (caught d (at kind1024 999023) 1 refl).most;
    answered = λ d. not_same refl (ap read_error (read d (at kind1024 0)));
    hidden = λ d. no_end _ _ refl refl (caught d (at_last kind1024) 1 refl).ends;
    refused_count = λ d. not_same refl (refused d (at kind1024 0) (not_same refl)).count;
    refused_tick = λ d. not_same refl (refused d (at kind1024 0) (not_same refl)).tick_refusal;
    refused_clock = λ d.
        not_same refl (ap (λ (c : Clock). c.micros.0) (refused d (at kind1024 0) (not_same refl)).clock);
    second = λ d. not_most refl (d (at kind1024 999999) [] refl refl refl).least;
    long_second = λ d. not_most refl (d (at kind1024 999999) (single_ticks 1025) refl refl refl).most;
    ticks_past = λ d. not_same refl (d (at kind1024 0) (Call Tick ∷ Call (set 5 0) ∷ []));
    ticks_refused = λ d. not_same refl (d (at_last kind1024) (Call Tick ∷ []));
    interval = λ d. not_same refl (ap (λ (u : Update). u.interval) (d kind1024 (asked (Call Tick ∷ []))));
    soon = λ d. true≢false (sym (d kind1024 (Call (Request offset) ∷ []) offset).held);
    soon_answered = λ d.
        true≢false (sym ((d kind1024 (Call (Request offset) ∷ []) offset).answered refl refl));
    apart = λ d.
        not_most refl
        (d (at kind1024 0) two_offsets [] [] [] offset offset refl refl refl refl);
    apart_later = λ d.
        not_most refl
        (d (at kind1024 999999) (offsets_around (rollover 0)) [] (rollover 0) [] offset offset
        refl refl refl refl);
  },
)
