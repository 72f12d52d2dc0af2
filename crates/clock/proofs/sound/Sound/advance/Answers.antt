-- `clock::sound::Sound::advance`: the steps of a tick fit 32 bits, so that microseconds, phase and leftover
-- are what the rules say.
use native.Mathlib.Omega.{arith}
use Rattle.state.proofs.Ok.{ok}
use Rattle.clock.proofs.TickLaws.{tickReads, fits_both, fits_sum, fits_whole, fits_left, fits_micros, fits_after, after_non_neg, fits_grown}
use Rattle.clock.proofs.sound.Sound.advance.Goals as goal

pub overflow_add-sum : goal.overflow_add-sum
overflow_add-sum c =
    let k = ok _ c.args.self.in_range in
    simp tickReads (fits_both _ k)

pub overflow_add-sum-2 : goal.overflow_add-sum-2
overflow_add-sum-2 c =
    let k = ok _ c.args.self.in_range in
    simp (c.reached-reached.ensures, tickReads) (fits_sum _ k)

pub overflow_add-result : goal.overflow_add-result
overflow_add-result c =
    let k = ok _ c.args.self.in_range in
    rw c.device.ensures (record { fits = omega arith })

pub overflow_cast-result : goal.overflow_cast-result
overflow_cast-result c = rw c.device.ensures (fits_micros _ (ok _ c.args.self.in_range))

pub overflow_add-result-2 : goal.overflow_add-result-2
overflow_add-result-2 c =
    let k = ok _ c.args.self.in_range in
    simp (c.device.ensures, c.reached-reached.ensures, tickReads) (fits_after _ k)

pub overflow_cast-result-2 : goal.overflow_cast-result-2
overflow_cast-result-2 c =
    let k = ok _ c.args.self.in_range in
    simp (c.device.ensures, c.reached-reached.ensures, tickReads) (after_non_neg _ k, fits_grown _ k)

pub overflow_mul-result : goal.overflow_mul-result
overflow_mul-result c =
    let k = ok _ c.args.self.in_range in
    simp (c.reached-reached.ensures, tickReads) (fits_whole _ k)

pub overflow_sub-result : goal.overflow_sub-result
overflow_sub-result c =
    let k = ok _ c.args.self.in_range in
    simp (c.reached-reached.ensures, tickReads) (fits_left _ k)

pub returns : goal.returns
returns c =
    let k = ok _ c.args.self.in_range in
    simp (c.device.ensures, c.reached-reached.ensures, tickReads)
