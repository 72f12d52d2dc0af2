-- `record::rate_at` meets its contract: field by field a reading goes on, or ends with the refusal.
use mathlib.Core.Path.{◌∙◌, ap}
use Rattle.record.proofs.FieldLaws.{field_ok, field_err, adjustment_field}
use Rattle.state.specs.declared.device.Constants.{Constants}
use Rattle.record.proofs.restore.rate_at.Goals as goal

pub returns-in_default : goal.returns-in_default
returns-in_default c =
    λ rest.
    field_err _ _ _ _ _ c.unwrap_err.ensures (c.signed-d.ensures ∙ adjustment_field _ _ c.args.kind (ap (λ (x : Constants). x.device) c.device_constants.ensures.value))

pub returns-in_default-d : goal.returns-in_default-d
returns-in_default-d c =
    λ rest.
    field_ok _ _ _ _ _ c.in-Ok.is (c.signed-d.ensures ∙ adjustment_field _ _ c.args.kind (ap (λ (x : Constants). x.device) c.device_constants.ensures.value))
    ∙ field_err _ _ _ _ _ c.unwrap_err-in_default-d.ensures c.small-d.ensures

pub returns : goal.returns
returns c =
    λ rest.
    field_ok _ _ _ _ _ c.in-Ok.is (c.signed-d.ensures ∙ adjustment_field _ _ c.args.kind (ap (λ (x : Constants). x.device) c.device_constants.ensures.value))
    ∙ field_ok _ _ _ _ _ c.in-Ok-d.is c.small-d.ensures
