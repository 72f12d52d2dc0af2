-- `clock::run::last_turn`: a turn in the last second, by whether its last tick stays within it.
use mathlib.Core.Path.{refl, ◌∙◌}
use native.Mathlib.Omega.{arith}
use Rattle.clock.proofs.RunLaws.{stays_in_range, stays_turn, before_in_range, refused_turn}
use Rattle.clock.proofs.run.last_turn.Goals as goal

pub at-requires : goal.at-requires
at-requires c =
    stays_in_range c.args.jump.ticks c.args.jump c.requires.some (omega arith) _ c.advance-a.ensures c.if-a-lt-MICROS_PER_SECOND.true

pub returns-then-a-lt-MICROS_PER_SECOND : goal.returns-then-a-lt-MICROS_PER_SECOND
returns-then-a-lt-MICROS_PER_SECOND c n most =
    stays_turn n c.args.jump c.requires.some most _ c.advance-a.ensures c.if-a-lt-MICROS_PER_SECOND.true c.at.ensures

pub at-requires-2 : goal.at-requires-2
at-requires-2 c =
    rw (c.advance.ensures, c.less_a_tick-before.ensures.0, c.less_a_tick-before.ensures.1) (before_in_range c.args.jump.ticks c.args.jump c.requires.some (omega arith))

pub returns : goal.returns
returns c n most =
    let b = c.less_a_tick-before.ensures in
    rw b.1 (refused_turn n c.args.jump c.requires.some most _ c.advance-a.ensures c.if-a-lt-MICROS_PER_SECOND.false c.requires.last (c.at-2.ensures ∙ rw (c.advance.ensures, b.0, b.1) refl))
