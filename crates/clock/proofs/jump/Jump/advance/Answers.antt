-- `clock::jump::Jump::advance`: each step fits its type, so that microseconds, phase and leftover are those
-- of `jump_of`.
use Rattle.state.proofs.Ok.{ok}
use Rattle.clock.proofs.JumpLaws.{jumpReads, read_ticks, fits_together, fits_counted, fits_begin, fits_steps, fits_sums, fits_wholes, fits_left, fits_phase_left, fits_later, later_non_neg, fits_micros_later}
use Rattle.clock.proofs.jump.Jump.advance.Goals as goal

pub overflow_add-sum : goal.overflow_add-sum
overflow_add-sum c =
    let k = ok _ c.args.self.from.in_range in
    let w = c.args.self.within in
    simp (c.reached-reached.ensures, jumpReads) (fits_begin _ k _ w)

pub overflow_mul-sum : goal.overflow_mul-sum
overflow_mul-sum c =
    let k = ok _ c.args.self.from.in_range in
    let w = c.args.self.within in
    simp (read_ticks _ k _ w, jumpReads) (fits_steps _ k _ w)

pub overflow_add-sum-2 : goal.overflow_add-sum-2
overflow_add-sum-2 c =
    let k = ok _ c.args.self.from.in_range in
    let w = c.args.self.within in
    simp (c.reached-reached.ensures, read_ticks _ k _ w, jumpReads) (fits_sums _ k _ w)

pub overflow_add-micros : goal.overflow_add-micros
overflow_add-micros c =
    rw c.device.ensures (fits_together _ (ok _ c.args.self.from.in_range) _ c.args.self.within)

pub overflow_cast-result : goal.overflow_cast-result
overflow_cast-result c =
    rw c.device.ensures (fits_counted _ (ok _ c.args.self.from.in_range) _ c.args.self.within)

pub overflow_add-result : goal.overflow_add-result
overflow_add-result c =
    let k = ok _ c.args.self.from.in_range in
    let w = c.args.self.within in
    simp (c.device.ensures, c.reached-reached.ensures, read_ticks _ k _ w, jumpReads) (fits_later _ k _ w)

pub overflow_cast-result-2 : goal.overflow_cast-result-2
overflow_cast-result-2 c =
    let k = ok _ c.args.self.from.in_range in
    let w = c.args.self.within in
    simp (c.device.ensures, c.reached-reached.ensures, read_ticks _ k _ w, jumpReads) (later_non_neg _ k _ w, fits_micros_later _ k _ w)

pub overflow_mul-result : goal.overflow_mul-result
overflow_mul-result c =
    let k = ok _ c.args.self.from.in_range in
    let w = c.args.self.within in
    simp (c.reached-reached.ensures, read_ticks _ k _ w, jumpReads) (fits_wholes _ k _ w)

pub overflow_sub-result : goal.overflow_sub-result
overflow_sub-result c =
    let k = ok _ c.args.self.from.in_range in
    let w = c.args.self.within in
    simp (c.reached-reached.ensures, read_ticks _ k _ w, jumpReads) (fits_left _ k _ w)

pub overflow_cast-result-4 : goal.overflow_cast-result-4
overflow_cast-result-4 c =
    let k = ok _ c.args.self.from.in_range in
    let w = c.args.self.within in
    simp (c.reached-reached.ensures, read_ticks _ k _ w, jumpReads) (fits_phase_left _ k _ w)

pub returns : goal.returns
returns c =
    let k = ok _ c.args.self.from.in_range in
    let w = c.args.self.within in
    simp (c.device.ensures, c.reached-reached.ensures, read_ticks _ k _ w, jumpReads)
