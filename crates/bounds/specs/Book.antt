-- "The book of demand 3": what a list of calls should have come to, by the calls alone. It runs the rules
-- itself over the same list, from a fresh clock, or from the clock on which the list's first call, a setting,
-- is accepted. `rules` is the clock of that run: its phase, adjustment, remainder and leftover only decide
-- which ticks roll over or are refused, and no entry takes them. What a tick is worth, and in which units, is
-- the measure of the clock's kind.
use Rattle.std.specs.Prelude.{ℕ, ◌+◌, ◌*◌, cond, List, [], ◌∷◌, ℤ, pos, ◌+ℤ◌, ◌-ℤ◌, ◌*ℤ◌}
use Rattle.state.specs.Units.{offset_units_per_micro, micros_per_second}
use Rattle.clock.specs.Rollover.{share}
use Rattle.clock.specs.Tick.{rolls_over}
use Rattle.state.specs.declared.state.Clock.{Clock}
use Rattle.state.specs.declared.units.AskedMicros.{AskedMicros}
use Rattle.request.specs.Request.{selects_offset}
use Rattle.request.specs.declared.request.Request.{Request}
use Rattle.event.specs.declared.event.Call.{Call}
use Rattle.event.specs.declared.event.Call.TheVariants.{Tick, Setting, Reading}
use Rattle.event.specs.declared.event.Call.TheVariants as call
use Rattle.bounds.specs.Calls.{next, accepted, inserts_second, deletes_second}
use Rattle.bounds.specs.Measure.{Measure, measure_of, per_frequency, per_share}

pub record Book : Type 0 where
  -- exact time (units of the measure: 2^-32 us, or 2^-34 us)
  pub exact : ℤ
  -- accepted ticks since the last accepted setting or the start, as `TicksOfTheBook` says; since document
  -- 02's "whatever n is" no bound takes it
  pub n : ℕ
  -- "The frequency and share in force are those from which the adjustment was last worked out, at a rollover
  -- or setting": frequency in force (frequency units, 2^-24 us per second)
  pub frequency : ℤ
  -- share in force (offset units, 2^-14 us)
  pub share : ℤ
  -- own share: that part of the share in force which belongs to the last offset request (offset units)
  pub own_share : ℤ
  -- what the last offset request has moved the clock (1/256 offset unit, or 1/1,024)
  pub moved : ℤ
  -- what it asked for (offset units)
  pub asked : ℤ

-- "All begin at 0." "A fresh clock counts as a setting to 0 s."
abbrev pub empty_book : Book
empty_book = record { exact = pos 0; n = 0; frequency = pos 0; share = pos 0; own_share = pos 0; moved = pos 0; asked = pos 0 }

-- "Tick: n + 1. Exact time + 3,906 1/4 us + 1/256 of the frequency in force (as us per second) + 1/256 of the
-- share in force. Moved + own share/256." Of the second device "976 9/16 us for each tick; 1/1,024 in place
-- of 1/256".
abbrev pub tick_book : Measure → Book → Book
tick_book m b =
    record {
      exact = b.exact +ℤ pos m.tick +ℤ pos per_frequency *ℤ b.frequency +ℤ pos per_share *ℤ b.share;
      n = b.n + 1;
      frequency = b.frequency;
      share = b.share;
      own_share = b.own_share;
      moved = b.moved +ℤ b.own_share;
      asked = b.asked;
    }

-- "Exact time - 1,000,000 us if INS steps (an inserted second), + 1,000,000 us if DEL steps." (units of exact
-- time)
abbrev pub leap_exact : Clock → ℤ → ℤ
leap_exact rules exact =
    let second = micros_per_second * (measure_of rules.kind).per_micro in
    cond (inserts_second rules) (exact -ℤ pos second) (cond (deletes_second rules) (exact +ℤ pos second) exact)

-- "If the tick rolls over, [..] Then share and own share become the rollover's share, and the frequency in
-- force becomes the present one."
abbrev pub rollover_book : Clock → Book → Book
rollover_book rules b =
    record {
      exact = leap_exact rules b.exact;
      n = b.n;
      frequency = rules.frequency.0;
      share = share rules;
      own_share = share rules;
      moved = b.moved;
      asked = b.asked;
    }

-- "Setting: exact time is the set time, the frequency in force the present one; the rest 0."
abbrev pub setting_book : Clock → ℕ → AskedMicros → Book
setting_book rules s u =
    record {
      exact = pos ((s * micros_per_second + u.0) * (measure_of rules.kind).per_micro);
      n = 0;
      frequency = rules.frequency.0;
      share = pos 0;
      own_share = pos 0;
      moved = pos 0;
      asked = pos 0;
    }

-- "Request that selects an offset (an offset request): asked becomes the offset x 2^14, own share and moved
-- 0; the share in force stays."
abbrev pub offset_book : Request → Book → Book
offset_book r b =
    record {
      exact = b.exact;
      n = b.n;
      frequency = b.frequency;
      share = b.share;
      own_share = pos 0;
      moved = pos 0;
      asked = r.offset.0 *ℤ pos offset_units_per_micro;
    }

-- an accepted request: "Other requests [..]: nothing."
abbrev pub request_book : Request → Book → Book
request_book r b = cond (selects_offset r) (offset_book r b) b

-- one call; "Other requests, readings, refused calls: nothing."
abbrev pub call_book : Clock → Call → Book → Book
call_book rules Tick b =
    let ticked = tick_book (measure_of rules.kind) b in
    cond (accepted rules Tick) (cond (rolls_over rules) (rollover_book rules ticked) ticked) b
call_book rules (Setting s u) b = cond (accepted rules (Setting s u)) (setting_book rules s u) b
call_book rules (call.Request r) b = cond (accepted rules (call.Request r)) (request_book r b) b
call_book rules Reading b = b

-- the book after some calls, the first of which the rules meet at the clock `rules`
unfoldable pub book_from : Clock → Book → List Call → Book
book_from rules b [] = b
book_from rules b (e ∷ es) = book_from (next rules e) (call_book rules e b) es
