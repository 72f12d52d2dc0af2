-- `playback::go_on` meets its contract: the run's events; and at the end of the bytes the end, or the
-- summary.
use mathlib.Core.Path.{◌≡◌, sym, ◌∙◌}
use mathlib.Core.Bool.{false}
use Prim.Native.Nat.{◌+◌, ◌-◌}
use native.Mathlib.Omega.{arith}
use lib.ListN.{length}
use Rattle.history.specs.Event.{asks_summary}
use Rattle.playback.specs.Filling.{longest_line}
use Rattle.playback.specs.Inner.{standing, Made}
use Rattle.playback.proofs.GoingOn.{stopped_early, ended_there, listed_there}
use Rattle.playback.proofs.run.go_on.Goals.{Start, After-run_events-walk}
use Rattle.playback.proofs.run.go_on.Goals as goal

-- the last place at which there is room for a line
room : (c : Start) → length c.args.out.now - 30 + longest_line ≡ length c.args.out.now
room c = omega (arith, c.requires.0)

-- the events are steps of the run
events : (c : After-run_events-walk)
    → let e = c.run_events-walk in
    Made c.args.bytes.now c.args.run c.args.out.now 0 e.new.out (standing e.result e.new.m c.args.run.quarter) e.result.at
events c =
    let run = c.args.run in
    let e : standing (record { clock = run.clock; place = run.place; ended = false; at = 0 }) run.summary run.quarter ≡ run = rw (← c.requires.1) in
    rw (e) at (c.run_events-walk.ensures.made run.quarter)

pub returns-then-walk-bytes : goal.returns-then-walk-bytes
returns-then-walk-bytes c =
    let s = (goal.at.returns-then-walk-bytes c).Start in
    stopped_early s.args.bytes.now s.args.run s.args.out.now s.requires.1 s.requires.2 _ (room s)
    (events (goal.at.returns-then-walk-bytes c).After-run_events-walk) c.if-walk-bytes.true c.run_events-walk.ensures.stopped c.filled.ensures

pub returns-then-not-asks_summary : goal.returns-then-not-asks_summary
returns-then-not-asks_summary c =
    let s = (goal.at.returns-then-not-asks_summary c).Start in
    let no : asks_summary s.args.bytes.now ≡ false = sym c.asks_summary.ensures ∙ c.if-not-asks_summary.true in
    ended_there s.args.bytes.now s.args.run s.args.out.now s.requires.1 s.requires.2 _ (room s)
    (events (goal.at.returns-then-not-asks_summary c).After-run_events-walk) c.if-walk-bytes.false no c.filled-then-not-asks_summary.ensures

pub returns : goal.returns
returns c =
    let s = (goal.at.returns c).Start in
    let e = c.put_quarters-listed.ensures in
    listed_there s.args.bytes.now s.args.run s.args.out.now s.requires.1 s.requires.2 _ (room s)
    (events (goal.at.returns c).After-run_events-walk) c.if-walk-bytes.false (sym c.asks_summary.ensures ∙ c.if-not-asks_summary.false)
    e.puts_quarters e.last_value c.filled-2.ensures
