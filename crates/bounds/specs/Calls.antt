-- Lists of calls: "Each call gets the clock as the one before left it. Only accepted calls count below."
use Rattle.std.specs.Prelude.{ℕ, ◌+◌, Bool, true, false, ◌&&◌, ◌||◌, not, cond, List, [], ◌∷◌, eqb}
use Rattle.state.specs.State.{fresh_clock}
use Rattle.clock.specs.Rollover.{inserts, deletes}
use Rattle.clock.specs.Tick.{rolls_over}
use Rattle.state.specs.declared.state.Clock.{Clock}
use Rattle.request.specs.Request.{selects_offset}
use Rattle.request.specs.declared.request.Request as asked
use Rattle.event.specs.Event.{answer_of, step_of}
use Rattle.event.specs.declared.event.Call.{Call}
use Rattle.event.specs.declared.event.Call.TheVariants.{Tick, Setting, Request, Reading}
use Rattle.event.specs.declared.event.Event.{Event}
use Rattle.event.specs.declared.event.Stepped.{Stepped}

-- What answers events: by the rules it is `step_of`, which `event::step` promises to be.
abbrev pub Answers : Type 0
Answers = Clock → Event → Stepped

-- the clock after some calls (events, or single calls), the first of which gets c
unfoldable pub after_by : {E : Type 0} → (Clock → E → Stepped) → Clock → List E → Clock
after_by answers c [] = c
after_by answers c (e ∷ es) = after_by answers (answers c e).clock es

-- the clock after a list of events "on a clock that starts fresh", of a kind
abbrev pub clock_by : Answers → ℕ → List Event → Clock
clock_by answers kind events = after_by answers (fresh_clock kind) events

-- The same by the rules.
abbrev pub clock_after : ℕ → List Event → Clock
clock_after kind events = clock_by step_of kind events

-- by the rules, on any clock
abbrev pub clock_from : Clock → List Event → Clock
clock_from start events = after_by step_of start events

-- Single calls, by the rules.
abbrev pub next : Clock → Call → Clock
next c e = (answer_of c e).clock

abbrev pub after : Clock → List Call → Clock
after c es = after_by answer_of c es

-- whether c accepts the call
abbrev pub accepted : Clock → Call → Bool
accepted c e = eqb (answer_of c e).refusal 0

abbrev pub is_tick : Call → Bool
is_tick Tick = true
is_tick (Setting s u) = false
is_tick (Request r) = false
is_tick Reading = false

abbrev pub is_setting : Call → Bool
is_setting Tick = false
is_setting (Setting s u) = true
is_setting (Request r) = false
is_setting Reading = false

-- an accepted tick
abbrev pub ticks : Clock → Call → Bool
ticks c e = is_tick e && accepted c e

-- an accepted setting
abbrev pub sets : Clock → Call → Bool
sets c e = is_setting e && accepted c e

-- an accepted request that selects an offset
abbrev pub takes_offset : Clock → asked.Request → Bool
takes_offset c r = accepted c (Request r) && selects_offset r

-- an accepted tick that rolls over
abbrev pub rolls : Clock → Call → Bool
rolls c e = ticks c e && rolls_over c

-- its rollover inserts a second, or deletes one: by the status before, and the second that it reaches
abbrev pub inserts_second : Clock → Bool
inserts_second c = inserts c.status (c.seconds + 1)

abbrev pub deletes_second : Clock → Bool
deletes_second c = deletes c.status (c.seconds + 1)

-- Of the calls of a list, the first of which gets c: how many are of a sort, and whether none is. Each is
-- judged at the clock that it gets.
unfoldable pub count_among_by : (Clock → Call → Stepped) → (Clock → Call → Bool) → Clock → List Call → ℕ
count_among_by answers sort c [] = 0
count_among_by answers sort c (e ∷ es) =
    cond (sort c e) 1 0 + count_among_by answers sort (answers c e).clock es

unfoldable pub none_among_by : (Clock → Call → Stepped) → (Clock → Call → Bool) → Clock → List Call → Bool
none_among_by answers sort c [] = true
none_among_by answers sort c (e ∷ es) = not (sort c e) && none_among_by answers sort (answers c e).clock es

-- The same by the rules.
abbrev pub count_among : (Clock → Call → Bool) → Clock → List Call → ℕ
count_among sort c es = count_among_by answer_of sort c es

abbrev pub none_among : (Clock → Call → Bool) → Clock → List Call → Bool
none_among sort c es = none_among_by answer_of sort c es

-- how many accepted ticks are among the calls
abbrev pub ticks_among : Clock → List Call → ℕ
ticks_among c es = count_among ticks c es

-- how many rollovers
abbrev pub rollovers_among : Clock → List Call → ℕ
rollovers_among c es = count_among rolls c es

-- whether there is no accepted setting
abbrev pub never_set : Clock → List Call → Bool
never_set c es = none_among sets c es

-- an accepted setting, or an accepted tick whose rollover inserts a second
abbrev pub sets_or_inserts : Clock → Call → Bool
sets_or_inserts c e = sets c e || (rolls c e && inserts_second c)

-- whether there is "neither a setting nor an inserted second" among the calls
abbrev pub neither_set_nor_inserted : Clock → List Call → Bool
neither_set_nor_inserted c es = none_among sets_or_inserts c es
