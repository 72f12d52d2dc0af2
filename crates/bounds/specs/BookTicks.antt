-- The book's n, by the calls alone: how many ticks were accepted since the last accepted setting, or since
-- the start where none was.
use Rattle.std.specs.Prelude.{ℕ, ◌≡◌, cond, List, [], ◌∷◌}
use Rattle.state.specs.declared.state.Clock.{Clock}
use Rattle.event.specs.declared.event.Call.{Call}
use Rattle.event.specs.declared.event.Event.{Event}
use Rattle.bounds.specs.Calls.{next, ticks_among, never_set}
use Rattle.bounds.specs.Singly.{singly_from}
use Rattle.bounds.specs.Demand.{book_on}

-- Of some calls, the first of which gets c: all of their accepted ticks where none is an accepted setting;
-- else the first call is left out, until that is so.
unfoldable pub ticks_since_setting : Clock → List Call → ℕ
ticks_since_setting c [] = 0
ticks_since_setting c (e ∷ es) =
    cond (never_set c (e ∷ es)) (ticks_among c (e ∷ es)) (ticks_since_setting (next c e) es)

-- what counts ticks, of a list of events on a clock
abbrev pub Counts : Type 0
Counts = Clock → List Event → ℕ

-- Of what counts, on any clock, the ticks of catch-ups made singly.
abbrev pub TicksSinceSettingBy : Counts → Type 0
TicksSinceSettingBy counts =
    (start : Clock) (events : List Event)
    → counts start events ≡ ticks_since_setting start (singly_from start events)

-- the book's n
abbrev pub book_ticks : Counts
book_ticks start events = (book_on start events).n

abbrev pub TicksOfTheBook : Type 0
TicksOfTheBook = TicksSinceSettingBy book_ticks
