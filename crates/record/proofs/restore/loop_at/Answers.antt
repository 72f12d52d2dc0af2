-- `record::loop_at` meets its contract: field by field a reading goes on, or ends with the refusal.
use mathlib.Core.Path.{◌∙◌}
use Rattle.record.proofs.FieldLaws.{field_ok, field_err, offset_field, frequency_field}
use Rattle.record.proofs.restore.loop_at.Goals as goal

pub returns-in_default : goal.returns-in_default
returns-in_default c =
    λ rest.
    field_err _ _ _ _ _ c.unwrap_err.ensures (c.plain-d.ensures ∙ offset_field _ _)

pub returns-in_default-d : goal.returns-in_default-d
returns-in_default-d c =
    λ rest.
    field_ok _ _ _ _ _ c.in-Ok.is (c.plain-d.ensures ∙ offset_field _ _)
    ∙ field_err _ _ _ _ _ c.unwrap_err-in_default-d.ensures (c.plain-d-2.ensures ∙ frequency_field _ _)

pub returns : goal.returns
returns c =
    λ rest.
    field_ok _ _ _ _ _ c.in-Ok.is (c.plain-d.ensures ∙ offset_field _ _)
    ∙ field_ok _ _ _ _ _ c.in-Ok-d.is (c.plain-d-2.ensures ∙ frequency_field _ _)
