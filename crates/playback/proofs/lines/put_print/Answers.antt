-- `playback::put_print` meets its contract: the label, and the ten bytes after it.
use mathlib.Core.Path.{sym, ◌∙◌, ap}
use Prim.Native.Nat.{ℕ, ◌+◌, ◌-◌, ◌≤◌}
use native.Mathlib.Omega.{arith}
use lib.ListN.{length, length-take, length-drop}
use borrow.Rule.Slice.PartMut.{mid_of}
use Rattle.label.specs.Label.{clock_label}
use Rattle.playback.proofs.Buffers.{puts_part, puts_then, puts_as}
use Rattle.playback.proofs.LineLaws.{label_length, label_written, print_parts}
use Rattle.playback.proofs.lines.put_print.Goals as goal

pub returns : goal.returns
returns c =
    let w = c.write in
    let room : c.args.at + length (clock_label c.args.c) ≤ length c.args.out.now = omega (arith, label_length c.args.c, c.requires.0) in
    let part = mid_of c.args.at (length c.args.out.now - c.args.at) c.args.out.now in
    let label = label_written c.args.c part c.requires.1 (simp (length-take, length-drop) (omega (arith, c.requires.0))) in
    let first =
    puts_part (clock_label c.args.c) c.args.out.now c.args.at room (w.ensures.out_after ∙ label)
    (ap (λ (k : ℕ). c.args.at + k) (sym (label_length c.args.c))) in
    let parts = puts_then first c.put.ensures in
    puts_as (print_parts c.args.c c.requires.1)
    (rw (
      c.digit.ensures,
      c.digit-2.ensures,
      c.digit-3.ensures,
      c.digit-4.ensures,
      c.digit-5.ensures,
      c.digit-6.ensures,
      c.digit-7.ensures,
    ) at parts)
