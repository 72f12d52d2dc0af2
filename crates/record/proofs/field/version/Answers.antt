-- `record::version` meets its contract: its two tests are the known versions.
use native.Mathlib.Omega.{arith}
use borrow.Author.Tests.{le-leb, lt-leb}
use mathlib.Core.Path.{◌≡◌, ◌∙◌, ap}
use mathlib.Core.Bool.{false}
use Rattle.record.specs.Inner.{told_field}
use Rattle.record.specs.Layout.{newest, known_version}
use Rattle.record.proofs.FieldLaws.{passed_on, field_no, field_in, field_out}
use Rattle.record.proofs.field.version.Goals.{then-number-eq0-via-then-number-eq0, then-number-eq0-via-else-number-eq0+then-number-gt-LAST_VERSION}
use Rattle.record.proofs.field.version.Goals as goal

pub returns-in_err-number : goal.returns-in_err-number
returns-in_err-number c =
    ap told_field (passed_on _ c.in_err-number.field-0.0 c.from_residual.ensures.1) ∙ field_no _ _ _ c.in_err-number.ensures

pub returns-then-number-eq0 : goal.returns-then-number-eq0
returns-then-number-eq0 c =
    let n = c.in_ok-number.number.value in
    let unknown : known_version n ≡ false =
    elim c.then-number-eq0.branch [
      | then-number-eq0-via-then-number-eq0 w ↦ simp (lt-leb 1 n (omega arith))
      | then-number-eq0-via-else-number-eq0+then-number-gt-LAST_VERSION w ↦ simp (le-leb 1 n (omega arith), lt-leb n newest (omega arith))
    ] in
    field_out _ _ _ c.in_ok-number.ensures unknown

pub returns : goal.returns
returns c =
    let n = c.in_ok-number.number.value in
    field_in _ _ _ c.in_ok-number.ensures (simp (le-leb 1 n (omega arith), le-leb n newest (omega arith)))
