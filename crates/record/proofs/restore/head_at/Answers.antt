-- `record::head_at` meets its contract: field by field a reading goes on, or ends with the refusal.
use mathlib.Core.Path.{◌∙◌}
use Rattle.record.proofs.FieldLaws.{field_ok, field_err, read_suits}
use lib.Dec.{lit<}
use Rattle.state.specs.Device.{kind_range}
use Rattle.record.specs.Layout.{holds_kind}
use Rattle.record.proofs.Ranges.{byte, kind_within}
use Rattle.record.proofs.restore.head_at.Goals as goal

pub overflow_cast-result : goal.overflow_cast-result
overflow_cast-result c =
    let v = c.in-Ok.version.value in
    record { fits = byte 1 (lit< tt) (kind_within v _ (read_suits (holds_kind v) kind_range _ _ c.in-Ok-d.ensures)) }

pub returns-in_default : goal.returns-in_default
returns-in_default c =
    λ rest.
    field_err _ _ _ _ _ c.unwrap_err.ensures c.version-d.ensures

pub returns-in_default-d : goal.returns-in_default-d
returns-in_default-d c =
    λ rest.
    field_ok _ _ _ _ _ c.in-Ok.is c.version-d.ensures
    ∙ field_err _ _ _ _ _ c.unwrap_err-in_default-d.ensures c.since-d.ensures

pub returns : goal.returns
returns c =
    λ rest.
    field_ok _ _ _ _ _ c.in-Ok.is c.version-d.ensures
    ∙ field_ok _ _ _ _ _ c.in-Ok-d.is c.since-d.ensures
