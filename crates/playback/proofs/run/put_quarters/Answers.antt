-- `playback::put_quarters` meets its contract: the line of the next quarter-hour is a step of the run.
use mathlib.Core.Path.{◌≡◌, refl, ◌∙◌}
use mathlib.Core.List.{List}
use Prim.Native.Nat.{ℕ, suc, ◌+◌, ◌<◌, ◌≤◌}
use native.Mathlib.Omega.{arith}
use lib.Dec.{leb, ltb}
use lib.ListN.{length}
use borrow.Author.Tests.{leb-true, ltb-true, lt-ltb}
use Rattle.integers.proofs.Ranges.{and_true}
use Rattle.summary.specs.Summary.{quarters}
use Rattle.summary.specs.declared.cells.Summary.{Summary}
use Rattle.playback.specs.Lines.{summary_line}
use Rattle.playback.specs.Filling.{longest_line}
use Rattle.playback.specs.Inner.{Puts, Steps, at_quarter, Summing}
use Rattle.playback.specs.declared.run.Run.{Run}
use Rattle.playback.proofs.RunLaws.{step_quarter}
use Rattle.playback.proofs.Buffers.{puts_length}
use Rattle.playback.proofs.FillLaws.{stepped, made_none, made_one, made_then}
use Rattle.playback.proofs.run.put_quarters.Goals.{In-loop-quarter}
use Rattle.playback.proofs.run.put_quarters.Goals as goal

-- the line of the next quarter-hour is a step
one-quarter : (m : Summary) (s : List ℕ) (r : Run) → Summing s r m → {q at p : ℕ} {buf buf' : List ℕ} → q < quarters
    → Puts (summary_line m q) buf at buf' p → length (summary_line m q) ≤ longest_line
    → Steps s (at_quarter r q) buf at buf' (at_quarter r (suc q)) p
one-quarter m s r h {q} small x l =
    stepped (step_quarter s (at_quarter r q) h.going h.fits h.over (simp (h.asked, lt-ltb _ _ small)))
    (rw h.going) (rw h.summary x) (rw h.summary l)

-- in the loop there is a quarter-hour, and room for one more line
here : (t : In-loop-quarter)
    → let L = t.loop-quarter in
    (L.quarter < quarters) × (L.at + longest_line ≤ length L.out)
here t =
    let L = t.loop-quarter in
    let last = t.args.last in
    let x = and_true (ltb L.quarter quarters) (leb L.at last) t.loop-quarter-test.true in
    (ltb-true _ _ x.0, omega (arith, L.invariant.1, L.invariant.2, leb-true L.at last x.1))

pub loop-quarter-init : goal.loop-quarter-init
loop-quarter-init c = (λ s r h. made_none s _ _ _ (omega (arith, c.requires)), c.requires.0, refl)

pub loop-quarter-preserved : goal.loop-quarter-preserved
loop-quarter-preserved c =
    let L = c.loop-quarter in
    let x = c.put_quarter-at.ensures in
    let here = here (goal.at.loop-quarter-preserved c).In-loop-quarter in
    let e : L.quarter + 1 ≡ suc L.quarter = omega arith in (
      λ s r h. rw (e) (made_then s (L.invariant.0 s r h)
          (made_one s h.going here.1 (one-quarter c.args.m.now s r h here.0 x.puts x.largest_len_bound))),
      L.invariant.1,
      puts_length x.puts ∙ L.invariant.2,
    )
