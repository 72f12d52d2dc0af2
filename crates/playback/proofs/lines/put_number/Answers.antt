-- `playback::put_number` meets its contract: the text, and then the number.
use Rattle.playback.proofs.Buffers.{puts_then}
use Rattle.playback.proofs.lines.put_number.Goals as goal

pub returns : goal.returns
returns c = puts_then c.put-p.ensures c.put_decimal.ensures
