-- Document 02, Req 02: "the number of rollovers since the last accepted offset, at most 1,024". What the
-- clock holds of its earlier update after any list of events, by the calls alone.
use Rattle.std.specs.Prelude.{ℕ, ◌+◌, min, ◌≡◌, Bool, true, false, cond, List, [], ◌∷◌}
use Rattle.state.specs.State.{fresh_clock, Update, update_of, no_update, longest_interval}
use Rattle.state.specs.declared.state.Clock.{Clock}
use Rattle.event.specs.Event.{step_of}
use Rattle.event.specs.declared.event.Call.{Call}
use Rattle.event.specs.declared.event.Call.TheVariants.{Tick, Setting, Request, Reading}
use Rattle.event.specs.declared.event.Event.{Event}
use Rattle.bounds.specs.Calls.{Answers, next, accepted, takes_offset, rolls, clock_by}
use Rattle.bounds.specs.Singly.{singly}

pub record Since : Type 0 where
  -- whether an offset was accepted after the last accepted setting, or from the start
  pub offset : Bool
  -- the rollovers since the last such offset, all of them
  pub rollovers : ℕ

-- "fresh and setting still mean no earlier update"
abbrev pub no_offset : Since
no_offset = record { offset = false; rollovers = 0 }

-- an accepted offset, and no rollover since
abbrev pub just_taken : Since
just_taken = record { offset = true; rollovers = 0 }

-- one call, of which the rules run at the clock `rules` say whether it is accepted, and whether it rolls over
abbrev pub call_since : Clock → Call → Since → Since
call_since rules Tick n = cond (rolls rules Tick) (record { offset = n.offset; rollovers = n.rollovers + 1 }) n
call_since rules (Setting s u) n = cond (accepted rules (Setting s u)) no_offset n
call_since rules (Request r) n = cond (takes_offset rules r) just_taken n
call_since rules Reading n = n

-- some calls, the first of which the rules meet at the clock `rules`
unfoldable pub since_from : Clock → Since → List Call → Since
since_from rules n [] = n
since_from rules n (e ∷ es) = since_from (next rules e) (call_since rules e n) es

-- a list of events on a fresh clock of a kind, the ticks of catch-ups made singly
abbrev pub since_of : ℕ → List Event → Since
since_of kind events = since_from (fresh_clock kind) no_offset (singly kind events)

-- the earlier update that a clock holds: none without an offset, and else the rollovers since it, "at most
-- 1,024"
abbrev pub held_update : Since → Update
held_update n = cond n.offset (record { updated = 1; interval = min n.rollovers longest_interval }) no_update

-- of what answers, after any list of events on a fresh clock of a kind
abbrev pub IntervalBy : Answers → Type 0
IntervalBy answers =
    (kind : ℕ) (events : List Event) → update_of (clock_by answers kind events) ≡ held_update (since_of kind events)

abbrev pub IntervalOfEveryList : Type 0
IntervalOfEveryList = IntervalBy step_of
