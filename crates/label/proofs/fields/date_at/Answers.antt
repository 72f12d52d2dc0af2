-- `label::fields::date_at` meets its contract: each part is what its pairs of digits say.
use Rattle.std.proofs.Common.{arith}
use Rattle.label.proofs.Digits.{bounded}
use Rattle.label.proofs.fields.date_at.Goals as goal

pub overflow_mul-result : goal.overflow_mul-result
overflow_mul-result c = record { fits = omega (arith, bounded _ _ c.bounded_pair.ensures) }

pub overflow_add-result : goal.overflow_add-result
overflow_add-result c = record { fits = omega (arith, bounded _ _ c.bounded_pair.ensures, bounded _ _ c.bounded_pair-2.ensures) }
