-- `label::fields::pair` meets its contract: the number and its last digit decide both bytes.
use Rattle.std.proofs.Common.{rules}
use Rattle.label.proofs.Digits.{pair_read, pair_refused}
use Rattle.label.proofs.fields.pair.Goals as goal

pub returns-then-unit-gt9 : goal.returns-then-unit-gt9
returns-then-unit-gt9 c =
    let i = c.args in
    pair_refused i.tens i.units c.wrapping_sub_u32-unit.result (search rules) (search rules) c.wrapping_sub_u32-unit.ensures.value
    c.if-unit-gt9.true

pub returns : goal.returns
returns c =
    let i = c.args in
    pair_read i.tens i.units c.wrapping_sub_u32-unit.result (search rules) (search rules) c.wrapping_sub_u32-unit.ensures.value
    c.wrapping_sub_u32.result (search rules) (search rules) c.wrapping_sub_u32.ensures.value c.if-unit-gt9.false
