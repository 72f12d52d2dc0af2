-- `record::time_at` meets its contract: field by field a reading goes on, or ends with the refusal.
use mathlib.Core.Path.{◌∙◌}
use Rattle.record.proofs.FieldLaws.{field_ok, field_err, phase_field}
use Rattle.record.proofs.restore.time_at.Goals as goal

pub returns-in_default : goal.returns-in_default
returns-in_default c =
    λ rest.
    field_err _ _ _ _ _ c.unwrap_err.ensures c.plain-d.ensures

pub returns-in_default-d : goal.returns-in_default-d
returns-in_default-d c =
    λ rest.
    field_ok _ _ _ _ _ c.in-Ok.is c.plain-d.ensures
    ∙ field_err _ _ _ _ _ c.unwrap_err-in_default-d.ensures c.plain-d-2.ensures

pub returns-in_default-d-2 : goal.returns-in_default-d-2
returns-in_default-d-2 c =
    λ rest.
    field_ok _ _ _ _ _ c.in-Ok.is c.plain-d.ensures
    ∙ field_ok _ _ _ _ _ c.in-Ok-d.is c.plain-d-2.ensures
    ∙ field_err _ _ _ _ _ c.unwrap_err-in_default-d-2.ensures (c.plain-d-3.ensures ∙ phase_field _ _)

pub returns : goal.returns
returns c =
    λ rest.
    field_ok _ _ _ _ _ c.in-Ok.is c.plain-d.ensures
    ∙ field_ok _ _ _ _ _ c.in-Ok-d.is c.plain-d-2.ensures
    ∙ field_ok _ _ _ _ _ c.in-Ok-d-2.is (c.plain-d-3.ensures ∙ phase_field _ _)
