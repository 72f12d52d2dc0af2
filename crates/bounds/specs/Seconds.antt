-- How many ticks a second has. Document 01: "from one rollover to the next it is 255, 256 or 257"; at 1,024
-- Hz it is 1,023, 1,024 or 1,025.
use Rattle.std.specs.Prelude.{ℕ, ◌+◌, ◌≤◌, ◌≡◌, Bool, true, ◌||◌, List}
use Rattle.state.specs.Device.{device_of}
use Rattle.state.specs.declared.state.Clock.{Clock}
use Rattle.event.specs.Event.{answer_of}
use Rattle.event.specs.declared.event.Call.{Call}
use Rattle.event.specs.declared.event.Call.TheVariants.{Tick}
use Rattle.event.specs.declared.event.Stepped.{Stepped}
use Rattle.bounds.specs.Calls.{after_by, sets, rolls, ticks, count_among_by, none_among_by}

-- an accepted setting, or a rollover
abbrev pub sets_or_rolls : Clock → Call → Bool
sets_or_rolls c e = sets c e || rolls c e

-- n ticks are those of the device's rate, or one more or fewer
pub record OneMoreOrFewer (kind n : ℕ) : Type 0 where
  pub least : (device_of kind).rate ≤ n + 1
  pub most : n ≤ (device_of kind).rate + 1

-- Of what answers single calls, on any clock: a tick that rolls over, calls between with neither a setting
-- nor a rollover, and the next tick that rolls over, which is the last of the second's ticks.
abbrev pub TicksOfASecondBy : (Clock → Call → Stepped) → Type 0
TicksOfASecondBy answers =
    (c : Clock) (between : List Call) → rolls c Tick ≡ true
    → let d = (answers c Tick).clock in
    none_among_by answers sets_or_rolls d between ≡ true
    → rolls (after_by answers d between) Tick ≡ true
    → OneMoreOrFewer c.kind (count_among_by answers ticks d between + 1)

abbrev pub TicksOfASecond : Type 0
TicksOfASecond = TicksOfASecondBy answer_of
