-- What one event of a history does to a clock and to the summary, and its line.
use Rattle.std.specs.Prelude.{cond, List, [], ℕ, eqb}
use Rattle.state.specs.declared.state.Clock.{Clock}
use Rattle.state.specs.declared.outcome.Outcome.{Outcome}
use Rattle.event.specs.Event.{answer_of}
use Rattle.event.specs.declared.event.Call as call
use Rattle.event.specs.declared.event.Call.TheVariants.{Tick, Setting, Request, Reading}
use Rattle.event.specs.declared.event.Stepped.{Stepped}
use Rattle.history.specs.declared.Event.{Event}
use Rattle.history.specs.declared.Event.TheVariants.{Ticks, Summary, Call}
use Rattle.clock.specs.Ticks.{ticks_of}
use Rattle.summary.specs.Summary.{after_call}
use Rattle.summary.specs.declared.cells.Summary as summary
use Rattle.playback.specs.Lines.{refused_line, print_line}

-- the refusal of a call, or 0, and the clock after it
abbrev pub outcome_with : Stepped → Outcome
outcome_with a = record { refusal = a.refusal; clock = a.clock }

-- the refusal of an event, or 0, and the clock after it; to ask for the summary runs nothing
unfoldable pub outcome_of : Clock → Event → Outcome
outcome_of c (Ticks n) = ticks_of n c
outcome_of c Summary = record { refusal = 0; clock = c }
outcome_of c (Call e) = outcome_with (answer_of c e)

-- what an accepted call prints: nothing, but for a reading, which is the history's print
unfoldable pub printed_by : Clock → call.Call → List ℕ
printed_by c Tick = []
printed_by c (Setting s u) = []
printed_by c (Request r) = []
printed_by c Reading = print_line c

-- what an accepted event prints
unfoldable pub printed : Clock → Event → List ℕ
printed c (Ticks n) = []
printed c Summary = []
printed c (Call e) = printed_by c e

-- "A refused event prints the line `refused N`"
unfoldable pub line_of : Clock → Event → List ℕ
line_of c e = cond (eqb (outcome_of c e).refusal 0) (printed c e) (refused_line (outcome_of c e).refusal)

-- the summary after an event on the clock c: ticks leave it, and so does asking for it
unfoldable pub summary_after : Clock → Event → summary.Summary → summary.Summary
summary_after c (Ticks n) m = m
summary_after c Summary m = m
summary_after c (Call e) m = after_call c e m
