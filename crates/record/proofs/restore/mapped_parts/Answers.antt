-- `record::mapped_parts` meets its contract: a unit of every device has two parts at least, and few.
use mathlib.Core.Path.{◌≡◌, ap}
use native.Mathlib.Omega.{arith}
use Rattle.state.specs.Device.{device_of}
use Rattle.state.specs.declared.device.Constants.{Constants}
use Rattle.state.proofs.DeviceLaws.{laws}
use Rattle.record.proofs.restore.mapped_parts.Goals.{After-device_constants}
use Rattle.record.proofs.restore.mapped_parts.Goals as goal

divisor-told : (c : After-device_constants) → c.device_constants.result.device.divisor ≡ (device_of c.args.kind).divisor
divisor-told c = ap (λ (x : Constants). x.device.divisor) c.device_constants.ensures.value

pub overflow_sub-result : goal.overflow_sub-result
overflow_sub-result c = omega (arith, divisor-told (goal.at.overflow_sub-result c).After-device_constants, laws c.args.kind)

pub overflow_mul-result : goal.overflow_mul-result
overflow_mul-result c = omega (arith, divisor-told (goal.at.overflow_mul-result c).After-device_constants, laws c.args.kind)
