-- The wrong clocks do not meet demand 3: each fails a bound, computed.
use mathlib.Core.Path.{◌≡◌, refl}
use mathlib.Core.Bool.{false}
use mathlib.Core.List.{[], ◌∷◌}
use Prim.Native.Nat.{ℕ, ◌≤◌, ◌<◌}
use native.Mathlib.Omega.{arith}
use lib.Dec.{leb, ltb}
use lib.IntN.{pos}
use borrow.Author.Tests.{leb-false, ltb-true, ltb-false}
use Rattle.state.specs.Device.{kind256, kind1024, device_of}
use Rattle.state.specs.State.{in_range}
use Rattle.clock.specs.Reading.{told_of, reading_refusal}
use Rattle.clock.specs.Rollover.{rolled_over}
use Rattle.clock.specs.Tick.{unit_in, ticked, tick_refusal, tick_of}
use Rattle.clock.specs.Ticks.{ran_of, catch_up_of}
use Rattle.clock.specs.Setting.{setting_refusal, setting_of}
use Rattle.request.specs.Request.{request_refusal, requested, request_of}
use Rattle.event.specs.declared.event.Call.TheVariants.{Tick}
use Rattle.event.specs.declared.event.Event.TheVariants.{Call, CatchUp}
use Rattle.cases.specs.Cases.{asks, set}
use Rattle.bounds.specs.Calls.{after_by, count_among_by, none_among_by}
use Rattle.bounds.specs.Singly.{single_ticks, singly_from, as_events}
use Rattle.bounds.specs.Book.{book_from}
use Rattle.bounds.specs.Measure.{measure_of}
use Rattle.bounds.specs.Demand.{AtRollover}
use Rattle.bounds.specs.WrongClocks.{keeps_offset, asked, ShutOutOfEachKind}

pub not_below : {a b : ℕ} → ltb a b ≡ false → a < b → ⊥
not_below {a} {b} e h = omega (arith, ltb-false a b e)

pub not_most : {a b : ℕ} → leb a b ≡ false → a ≤ b → ⊥
not_most {a} {b} e h = omega (arith, leb-false a b e)

not_none : {n : ℕ} → n ≡ 0 → 0 < n → ⊥
not_none e h = omega (arith, e, h)

-- What the first share has moved at the second rollover, of 2,047,984 offset units in 255 or 1,023 ticks,
-- with nothing taken off.
kept256 : AtRollover keeps_offset kind256 (asked (as_events (single_ticks 255))) → ⊥
unfolding device_of measure_of in_range told_of reading_refusal rolled_over unit_in ticked tick_refusal tick_of
    ran_of catch_up_of setting_refusal setting_of request_refusal requested request_of after_by count_among_by
    none_among_by single_ticks singly_from as_events book_from
kept256 h = not_most refl (h refl)

kept1024 : AtRollover keeps_offset kind1024 (asked (as_events (single_ticks 1023))) → ⊥
unfolding device_of measure_of in_range told_of reading_refusal rolled_over unit_in ticked tick_refusal tick_of
    ran_of catch_up_of setting_refusal setting_of request_refusal requested request_of after_by count_among_by
    none_among_by single_ticks singly_from as_events book_from
kept1024 h = not_most refl (h refl)

pub shut_out : ShutOutOfEachKind
unfolding device_of measure_of in_range told_of reading_refusal rolled_over unit_in ticked tick_refusal tick_of
    ran_of catch_up_of setting_refusal setting_of request_refusal requested request_of after_by count_among_by
    none_among_by single_ticks singly_from as_events book_from
shut_out = (
  record {
    refusing = λ d. not_below refl d.first.near;
    saying = λ d. not_none d.first.accepted (ltb-true 0 1 refl);
    zeros = λ d. not_below refl d.first.near;
    pretending = λ d. not_below refl d.first.near;
    keeping = λ d. kept256 (d.second.single (asked (as_events (single_ticks 255))) [] refl);
    keeping_within = λ d. kept256 (d.second.within (asked []) [] 256 false refl 255 (ltb-true 255 256 refl));
    ahead = λ d. not_most refl (d.third (Call (set 5 0) ∷ []) (Call (asks (pos 0)) ∷ []) [] refl refl);
    idle = λ b. not_most refl (b [] (Call Tick ∷ []) [] refl refl);
    counting = λ b. not_most refl (b [] (CatchUp 1 false ∷ []) [] refl refl);
  },
  record {
    refusing = λ d. not_below refl d.first.near;
    saying = λ d. not_none d.first.accepted (ltb-true 0 1 refl);
    zeros = λ d. not_below refl d.first.near;
    pretending = λ d. not_below refl d.first.near;
    keeping = λ d. kept1024 (d.second.single (asked (as_events (single_ticks 1023))) [] refl);
    keeping_within = λ d.
        kept1024 (d.second.within (asked []) [] 1024 false refl 1023 (ltb-true 1023 1024 refl));
    ahead = λ d. not_most refl (d.third (Call (set 5 0) ∷ []) (Call (asks (pos 0)) ∷ []) [] refl refl);
    idle = λ b. not_most refl (b [] (Call Tick ∷ []) [] refl refl);
    counting = λ b. not_most refl (b [] (CatchUp 1 false ∷ []) [] refl refl);
  },
)
