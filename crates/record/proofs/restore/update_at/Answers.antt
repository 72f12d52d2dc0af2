-- `record::update_at` meets its contract: field by field a reading goes on, or ends with the refusal.
use mathlib.Core.Path.{◌∙◌}
use Rattle.record.proofs.FieldLaws.{field_ok, field_err, last_field}
use Rattle.record.proofs.restore.update_at.Goals as goal

pub returns-in_default : goal.returns-in_default
returns-in_default c =
    λ rest.
    field_err _ _ _ _ _ c.unwrap_err.ensures c.small-d.ensures

pub returns-in_default-d : goal.returns-in_default-d
returns-in_default-d c =
    λ rest.
    field_ok _ _ _ _ _ c.in-Ok.is c.small-d.ensures
    ∙ field_err _ _ _ _ _ c.unwrap_err-in_default-d.ensures (c.plain-d.ensures ∙ last_field _ _ c.args.version c.in-Ok.flag.value c.last_most.ensures)

pub returns : goal.returns
returns c =
    λ rest.
    rw c.kept_update.ensures
    (field_ok _ _ _ _ _ c.in-Ok.is c.small-d.ensures
    ∙ field_ok _ _ _ _ _ c.in-Ok-d.is (c.plain-d.ensures ∙ last_field _ _ c.args.version c.in-Ok.flag.value c.last_most.ensures))
