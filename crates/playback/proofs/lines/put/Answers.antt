-- `playback::put` meets its contract: what the copy leaves is what the stores leave.
use mathlib.Core.Path.{refl}
use Rattle.playback.proofs.Buffers.{puts_copied}
use Rattle.playback.proofs.lines.put.Goals as goal

pub returns : goal.returns
returns c = puts_copied c.args.text.now c.args.out.now c.args.at c.requires c.copy_from_slice.ensures.after refl
