-- `state::state::in_ranges_of`: the numbers as they are read are those that were handed in.
use borrow.Author.Rules.{rules}
use mathlib.Core.Path.{◌≡◌}
use mir.Facts.{to_z-of_z}
use mir.Syntax.{w32}
use mir.Val.{to_z, of_z}
use Rattle.state.proofs.state.in_ranges_of.Goals.{Start}
use Rattle.state.proofs.state.in_ranges_of.Goals as goal

least-read : (s : Start) → to_z w32 (of_z w32 s.args.d.least.0) ≡ s.args.d.least.0
least-read s = to_z-of_z {w = w32} (search rules)

most-read : (s : Start) → to_z w32 (of_z w32 s.args.d.most.0) ≡ s.args.d.most.0
most-read s = to_z-of_z {w = w32} (search rules)

adjustment-read : (s : Start) → to_z w32 (of_z w32 s.args.a.0) ≡ s.args.a.0
adjustment-read s = to_z-of_z {w = w32} (search rules)

pub returns : goal.returns
returns c = simp (least-read, most-read, adjustment-read, c.is_within.ensures, c.is_within-2.ensures)
