-- `heukelvos::heukelvos_tick`: a run of one tick.
use mathlib.Core.Path.{◌∙◌}
use Rattle.heukelvos.proofs.OneTick.{one_tick}
use Rattle.heukelvos.proofs.value.heukelvos_tick.Goals as goal

pub returns : goal.returns
returns c = c.run_ticks.ensures ∙ one_tick _
