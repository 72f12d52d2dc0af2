-- `number::unmap` meets its contract: half of n, or -1 less half of n.
use mathlib.Core.Path.{sym, ◌∙◌}
use native.Mathlib.Omega.{arith}
use mir.Syntax.{w64}
use mir.Facts.{to_z_pos}
use Rattle.number.proofs.Mapping.{even, odd, down}
use Rattle.number.proofs.zigzag.unmap.Goals as goal

pub returns-then-n-eq0 : goal.returns-then-n-eq0
returns-then-n-eq0 c = to_z_pos w64 (omega arith) ∙ sym (even _ c.if-n-eq0.true)

pub returns-else-n-eq0 : goal.returns-else-n-eq0
returns-else-n-eq0 c = down w64 (omega arith) ∙ sym (odd _ c.if-n-eq0.false)
