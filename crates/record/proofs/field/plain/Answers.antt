-- `record::plain` meets its contract: the test is the range.
use mathlib.Core.Path.{◌∙◌, ap}
use native.Mathlib.Omega.{arith}
use borrow.Author.Tests.{le-leb, lt-leb}
use Rattle.record.specs.Inner.{told_field}
use Rattle.record.proofs.FieldLaws.{passed_on, field_no, field_in, field_out}
use Rattle.record.proofs.field.plain.Goals as goal

pub returns-in_err-number : goal.returns-in_err-number
returns-in_err-number c =
    ap told_field (passed_on _ c.in_err-number.field-0.0 c.from_residual.ensures.1) ∙ field_no _ _ _ c.in_err-number.ensures

pub returns-then-from-number : goal.returns-then-from-number
returns-then-from-number c = field_out _ _ _ c.in_ok-number.ensures (lt-leb _ _ (omega arith))

pub returns : goal.returns
returns c = field_in _ _ _ c.in_ok-number.ensures (le-leb _ _ (omega arith))
