-- `clock::jump::Jump::reached`: each step fits its type, so that the sum that is divided is that of
-- `reached_after`.
use Rattle.state.proofs.Ok.{ok}
use Rattle.clock.proofs.JumpLaws.{leftoverReads, read_count, fits_count, fits_product, fits_parts}
use Rattle.clock.proofs.jump.Jump.reached.Goals as goal

pub overflow_cast-self : goal.overflow_cast-self
overflow_cast-self c = fits_count _ (ok _ c.args.self.from.in_range) _ c.args.self.within

pub overflow_mul-self : goal.overflow_mul-self
overflow_mul-self c =
    let k = ok _ c.args.self.from.in_range in
    let w = c.args.self.within in
    simp (read_count _ k _ w, leftoverReads) (fits_product _ k _ w)

pub overflow_add-c : goal.overflow_add-c
overflow_add-c c =
    let k = ok _ c.args.self.from.in_range in
    let w = c.args.self.within in
    simp (read_count _ k _ w, leftoverReads) (fits_parts _ k _ w)

pub returns : goal.returns
returns c =
    let k = ok _ c.args.self.from.in_range in
    let w = c.args.self.within in
    simp (c.divide.ensures, read_count _ k _ w, leftoverReads)
