-- `record::small` meets its contract: a number that is not above one of a byte is of a byte.
use Prim.Native.Nat.{◌<◌}
use native.Mathlib.Omega.{arith}
use Rattle.record.proofs.Ranges.{byte}
use Rattle.record.proofs.FieldLaws.{read_in}
use Rattle.record.proofs.field.small.Goals as goal

pub overflow_cast-result : goal.overflow_cast-result
overflow_cast-result c =
    let most : c.from.result < 256 = omega (arith, c.from.ensures) in
    record { fits = byte c.from.result most (read_in _ _ _ c.in_ok-field.ensures) }
