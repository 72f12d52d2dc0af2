-- `clock::run::take_turn`: a turn of a run, by what its last tick does.
use mathlib.Core.Path.{◌≡◌, refl, sym, ◌∙◌, ap}
use Prim.Native.Nat.{◌<◌}
use native.Mathlib.Omega.{arith}
use Rattle.state.proofs.Ok.{ok}
use Rattle.state.specs.declared.state.Clock.{Clock}
use Rattle.clock.specs.declared.sound.Sound.{Sound}
use Rattle.clock.specs.Rollover.{rolled_over}
use Rattle.clock.specs.Inner.{moved_to, less_a_second}
use Rattle.clock.proofs.RunLaws.{stays_in_range, stays_turn, rest_in_range, rolled_turn}
use Rattle.clock.proofs.run.take_turn.Goals.{After-of-jump}
use Rattle.clock.proofs.run.take_turn.Goals as goal

-- the jump begins at the clock
begins : (a : After-of-jump) → a.args.s.clock ≡ a.of-jump.result.from.clock
begins a = sym (ap (λ (s : Sound). s.clock) a.of-jump.ensures.0)

pub returns-then-s-eq-LAST_SECOND : goal.returns-then-s-eq-LAST_SECOND
returns-then-s-eq-LAST_SECOND c =
    rw (begins (goal.at.returns-then-s-eq-LAST_SECOND c).After-of-jump) (c.last_turn.ensures _ c.of-jump.ensures.2)

pub at-requires : goal.at-requires
at-requires c =
    let l = c.of-jump in
    rw (begins (goal.at.at-requires c).After-of-jump) (stays_in_range _ l.result l.ensures.1 l.ensures.2 _ c.advance-a.ensures c.if-a-lt-MICROS_PER_SECOND.true)

pub returns-then-a-lt-MICROS_PER_SECOND : goal.returns-then-a-lt-MICROS_PER_SECOND
returns-then-a-lt-MICROS_PER_SECOND c =
    let l = c.of-jump in
    let f = begins (goal.at.returns-then-a-lt-MICROS_PER_SECOND c).After-of-jump in
    rw f (stays_turn _ l.result l.ensures.1 l.ensures.2 _ c.advance-a.ensures c.if-a-lt-MICROS_PER_SECOND.true (c.at.ensures ∙ ap (λ (d : Clock). moved_to d c.advance-a.result) f))

pub at-requires-2 : goal.at-requires-2
at-requires-2 c =
    let l = c.of-jump in
    rw (c.less_a_second.ensures, begins (goal.at.at-requires-2 c).After-of-jump) (rest_in_range _ l.result l.ensures.1 l.ensures.2 _ c.advance-a.ensures c.if-a-lt-MICROS_PER_SECOND.false)

pub returns : goal.returns
returns c =
    let l = c.of-jump in
    let f = begins (goal.at.returns c).After-of-jump in
    let e : c.at-2.result.clock ≡ moved_to l.result.from.clock (less_a_second c.advance-a.result) = c.at-2.ensures ∙ rw (c.less_a_second.ensures, f) refl in
    let same : c.args.s.clock.seconds ≡ l.result.from.clock.seconds = ap (λ (d : Clock). d.seconds) f in
    let earlier : l.result.from.clock.seconds < 4294967295 = omega (arith, (ok _ c.args.s.in_range).seconds, c.if-s-eq-LAST_SECOND.false, same) in
    rw f (rolled_turn _ l.result l.ensures.1 l.ensures.2 _ c.advance-a.ensures c.if-a-lt-MICROS_PER_SECOND.false earlier (c.rollover.ensures ∙ ap rolled_over e))
