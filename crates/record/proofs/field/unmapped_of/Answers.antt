-- `record::unmapped_of` meets its contract: what a number of 32 bits is mapped from has 32 bits.
use mathlib.Core.Path.{◌≡◌}
use native.Mathlib.Omega.{arith}
use mir.Syntax.{w32, w64}
use mir.Val.{SFits, to_z, of_z}
use mir.Facts.{to_z-of_z}
use Rattle.number.specs.Mapping.{unmapped}
use Rattle.number.proofs.Mapping.{unmapped_fits}
use Rattle.record.proofs.Ranges.{widen}
use Rattle.record.proofs.field.unmapped_of.Goals.{After-unmap}
use Rattle.record.proofs.field.unmapped_of.Goals as goal

small : (c : After-unmap) → SFits w32 (unmapped c.args.n)
small c = unmapped_fits {w = w32} _ (omega arith)

same : (c : After-unmap) → to_z w64 (of_z w64 c.unmap.result) ≡ unmapped c.args.n
same c = rw (c.unmap.ensures, c.from.ensures) (to_z-of_z (widen (small c)))

pub overflow_cast-result : goal.overflow_cast-result
overflow_cast-result c = rw (same (goal.at.overflow_cast-result c).After-unmap) (small (goal.at.overflow_cast-result c).After-unmap)

pub returns : goal.returns
returns c = rw (same (goal.at.returns c).After-unmap) (to_z-of_z (small (goal.at.returns c).After-unmap))
