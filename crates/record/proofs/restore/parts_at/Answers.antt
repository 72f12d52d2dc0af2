-- `record::parts_at` meets its contract: field by field a reading goes on, or ends with the refusal.
use mathlib.Core.Path.{◌∙◌}
use Rattle.record.proofs.FieldLaws.{field_ok, field_err, parts_field}
use Rattle.record.specs.Layout.{holds_parts}
use Rattle.record.proofs.restore.parts_at.Goals as goal

pub returns-in_default : goal.returns-in_default
returns-in_default c =
    λ rest.
    field_err _ _ _ _ _ c.unwrap_err.ensures (c.since-d.ensures ∙ parts_field (holds_parts c.args.h.version) _ _ c.args.h.kind c.mapped_parts-most.ensures)

pub returns-in_default-d : goal.returns-in_default-d
returns-in_default-d c =
    λ rest.
    field_ok _ _ _ _ _ c.in-Ok.is (c.since-d.ensures ∙ parts_field (holds_parts c.args.h.version) _ _ c.args.h.kind c.mapped_parts-most.ensures)
    ∙ field_err _ _ _ _ _ c.unwrap_err-in_default-d.ensures (c.since-d-2.ensures ∙ parts_field (holds_parts c.args.h.version) _ _ c.args.h.kind c.mapped_parts-most.ensures)

pub returns : goal.returns
returns c =
    λ rest.
    field_ok _ _ _ _ _ c.in-Ok.is (c.since-d.ensures ∙ parts_field (holds_parts c.args.h.version) _ _ c.args.h.kind c.mapped_parts-most.ensures)
    ∙ field_ok _ _ _ _ _ c.in-Ok-d.is (c.since-d-2.ensures ∙ parts_field (holds_parts c.args.h.version) _ _ c.args.h.kind c.mapped_parts-most.ensures)
