-- The wrong summaries are shut out: each at one list, computed; those that differ past 65,535 offsets alone,
-- by induction.
use mathlib.Core.Path.{◌≡◌, refl, sym, ◌∙◌, ap}
use mathlib.Core.Bool.{false}
use mathlib.Core.List.{List, []}
use Prim.Native.Nat.{ℕ}
use lib.Dec.{eqb}
use borrow.Author.Tests.{eqb-false}
use Rattle.state.specs.Device.{kind256, kind1024, device_of}
use Rattle.state.specs.State.{in_range}
use Rattle.state.specs.declared.state.Clock.{Clock}
use Rattle.clock.specs.Reading.{told_of, reading_refusal}
use Rattle.clock.specs.Rollover.{rolled_over}
use Rattle.clock.specs.Tick.{unit_in, ticked, tick_refusal, tick_of}
use Rattle.clock.specs.Ticks.{ran_of, catch_up_of}
use Rattle.clock.specs.Setting.{setting_refusal, setting_of}
use Rattle.request.specs.Request.{request_refusal, requested, request_of}
use Rattle.event.specs.Event.{step_of}
use Rattle.event.specs.declared.event.Event.{Event}
use Rattle.bounds.specs.Calls.{after_by}
use Rattle.summary.specs.Summary.{empty_summary, with_offset}
use Rattle.summary.specs.Afresh.{taken_among, sizes_in, largest_of, list_of, afresh, Moves, carried_by}
use Rattle.summary.specs.WrongSummaries.{at, WrongAt, WrongSummaries}
use Rattle.summary.specs.declared.cells.Summary.{Summary}
use Rattle.summary.proofs.ManyOffsets.{count_in, largest_in, once_more, limit_is, wraps_not, stops_not}

-- one that has another number there is none that keeps the theorem
module _ {wrong : Moves} {c : Clock} {events : List Event} {m n : Summary} where
  wrong_at : (number : Summary → ℕ) → carried_by wrong c events empty_summary ≡ m → afresh (taken_among c events) ≡ n
      → eqb (number m) (number n) ≡ false → WrongAt wrong c events m n
  wrong_at number e f h =
      record {
        carried_there = e;
        afresh_there = f;
        shut_out = λ d. eqb-false (number m) (number n) h (ap number (sym e ∙ d c events ∙ f));
      }

-- a clock that an offset after a setting leaves as it was
abbrev steady : ℕ → Clock
steady kind = after_by step_of (at kind 0) (once_more 5 [])

pub wrong_summaries : WrongSummaries
unfolding device_of in_range told_of reading_refusal rolled_over unit_in ticked tick_refusal tick_of ran_of
    catch_up_of setting_refusal setting_of request_refusal requested request_of after_by with_offset taken_among
    sizes_in largest_of list_of afresh carried_by
wrong_summaries = (
  record {
    nothing = wrong_at (count_in 0) refl refl refl;
    refused = wrong_at (count_in 0) refl refl refl;
    others = wrong_at (count_in 0) refl refl refl;
    zero = wrong_at (count_in 0) refl refl refl;
    noon = wrong_at (count_in 0) refl refl refl;
    day = wrong_at (count_in 0) refl refl refl;
    next_tick = wrong_at (count_in 0) refl refl refl;
    sixty = wrong_at (count_in 0) refl refl refl;
    value = wrong_at (largest_in 0) refl refl refl;
    last = wrong_at (largest_in 0) refl refl refl;
    first = wrong_at (largest_in 0) refl refl refl;
    by_setting = wrong_at (count_in 0) refl refl refl;
    by_tick = wrong_at (count_in 0) refl refl refl;
    by_catch_up = wrong_at (count_in 0) refl refl refl;
    by_reading = wrong_at (count_in 0) refl refl refl;
    by_other = wrong_at (count_in 0) refl refl refl;
    by_refused = wrong_at (count_in 0) refl refl refl;
    limit = λ n. limit_is {c = steady kind256} (record { grows = λ es n a. refl }) (record { grows = λ es n a. refl });
    wrapping = wraps_not {c = steady kind256} (record { grows = λ es n a. refl }) (record { grows = λ es n a. refl });
    stopping =
        stops_not {c = steady kind256} (record { grows = λ es n a. refl }) (record { grows = λ es n a. refl })
        (λ a. refl)
        (λ a. refl);
  },
  record {
    nothing = wrong_at (count_in 0) refl refl refl;
    refused = wrong_at (count_in 0) refl refl refl;
    others = wrong_at (count_in 0) refl refl refl;
    zero = wrong_at (count_in 0) refl refl refl;
    noon = wrong_at (count_in 0) refl refl refl;
    day = wrong_at (count_in 0) refl refl refl;
    next_tick = wrong_at (count_in 0) refl refl refl;
    sixty = wrong_at (count_in 0) refl refl refl;
    value = wrong_at (largest_in 0) refl refl refl;
    last = wrong_at (largest_in 0) refl refl refl;
    first = wrong_at (largest_in 0) refl refl refl;
    by_setting = wrong_at (count_in 0) refl refl refl;
    by_tick = wrong_at (count_in 0) refl refl refl;
    by_catch_up = wrong_at (count_in 0) refl refl refl;
    by_reading = wrong_at (count_in 0) refl refl refl;
    by_other = wrong_at (count_in 0) refl refl refl;
    by_refused = wrong_at (count_in 0) refl refl refl;
    limit = λ n. limit_is {c = steady kind1024} (record { grows = λ es n a. refl }) (record { grows = λ es n a. refl });
    wrapping = wraps_not {c = steady kind1024} (record { grows = λ es n a. refl }) (record { grows = λ es n a. refl });
    stopping =
        stops_not {c = steady kind1024} (record { grows = λ es n a. refl }) (record { grows = λ es n a. refl })
        (λ a. refl)
        (λ a. refl);
  },
)
