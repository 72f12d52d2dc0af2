-- `playback::Walk::run_events` meets its contract. The loop's invariant: the events so far are steps of the
-- run, and the buffer has their lines. The measure is what is left to run.
use mathlib.Core.Path.{◌≡◌}
use mathlib.Core.Bool.{not, ◌&&◌}
use Prim.Native.Nat.{◌+◌, ◌≤◌}
use native.Mathlib.Omega.{arith}
use lib.Dec.{leb, ltb}
use lib.ListN.{length}
use borrow.Author.Tests.{leb-true, ltb-true, not-true}
use Rattle.integers.proofs.Ranges.{and_true}
use Rattle.playback.specs.Filling.{longest_line}
use Rattle.playback.specs.Inner.{AtEvent}
use Rattle.playback.proofs.RunLaws.{left_less}
use Rattle.playback.proofs.Buffers.{puts_length}
use Rattle.playback.proofs.FillLaws.{made_none, made_one, made_then}
use Rattle.playback.proofs.run.Walk.run_events.Goals.{At-loop-walk, In-loop-walk}
use Rattle.playback.proofs.run.Walk.run_events.Goals as goal

-- in the loop there is room for one more line, and there may be an event
here : (t : In-loop-walk)
    → let L = t.loop-walk in
    let a = t.args in
    (L.walk.at + longest_line ≤ length a.out.now) × AtEvent a.bytes.now L.walk
here t =
    let L = t.loop-walk in
    let a = t.args in
    let x = and_true (not L.walk.ended && ltb L.walk.place (length a.bytes.now)) (leb L.walk.at a.last) t.loop-walk-test.true in
    let y = and_true (not L.walk.ended) (ltb L.walk.place (length a.bytes.now)) x.0 in (
      omega (arith, L.invariant.1, leb-true L.walk.at a.last x.1),
      record { going = not-true L.walk.ended y.0; before = ltb-true _ _ y.1; fits = L.invariant.2 },
    )

-- the buffer has the length that it was lent with
lent : (t : At-loop-walk) → length t.loop-walk.out ≡ length t.args.out.now
lent t = puts_length (t.loop-walk.invariant.0 0).lines

pub loop-walk-init : goal.loop-walk-init
loop-walk-init c = ((λ q. made_none _ _ _ _ (omega (arith, c.requires.0, c.requires.1))), c.requires.0, c.requires.3)

pub loop-walk-smaller : goal.loop-walk-smaller
loop-walk-smaller c =
    let h = here (goal.at.loop-walk-smaller c).In-loop-walk in
    rw (c.advance-walk.ensures 0).stands (left_less _ _ h.1.going)

pub loop-walk-preserved : goal.loop-walk-preserved
loop-walk-preserved c =
    let h = here (goal.at.loop-walk-preserved c).In-loop-walk in
    let room : c.loop-walk.walk.at + longest_line ≤ length c.loop-walk.out = omega (arith, lent (goal.at.loop-walk-preserved c).At-loop-walk, h.0) in
    ((λ q. made_then _ (c.loop-walk.invariant.0 q) (made_one _ h.1.going room (c.advance-walk.ensures q))), c.loop-walk.invariant.1, c.loop-walk.invariant.2)
