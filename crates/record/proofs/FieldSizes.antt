-- How many bytes each field of a record can have.
use mathlib.Core.Path.{◌≡◌, ◌∙◌}
use mathlib.Core.Bool.{true, false, cond}
use mathlib.Core.Logic.{⊎_elim}
use Prim.Native.Nat.{ℕ, suc, ◌^◌, ◌<◌}
use native.Mathlib.Omega.{arith}
use lib.Dec.{leb, eqb, lit<}
use borrow.Author.Tests.{leb-true}
use Rattle.integers.proofs.Ranges.{and_true}
use Rattle.number.specs.Layout.{mapped_range}
use Rattle.number.proofs.Lists.{either}
use Rattle.number.proofs.Layouts.{Sized, sized, sized_end, most}
use Rattle.state.specs.Device.{device_of}
use Rattle.state.specs.State.{second_range, adjustment_range, interval_range, zero_unless_flag, parts_range, last_second, longest_interval}
use Rattle.state.proofs.DeviceLaws.{laws, fits_least, fits_most}
use Rattle.record.specs.Layout.{newest, known_version, reftime_range, count_range, last_range, record_layout}
use Rattle.record.specs.Inner.{mapped_phase, mapped_offset, mapped_frequency, mapped_parts}
use Rattle.record.proofs.Ranges.{phase_test, offset_test, frequency_test, parts_test, between_small}

-- a field of values 0 to most, in k + 1 bytes
pub below : (k most : ℕ) → most < 128 ^ suc k → (n : ℕ) → leb n most ≡ true → n < 128 ^ suc k
below k most l n e = omega (arith, leb-true n most e)

pub version_small : (n : ℕ) → known_version n ≡ true → n < 128
version_small n e = omega (arith, leb-true n newest (and_true (leb 1 n) (leb n newest) e).1)

pub adjustment_small : (kind n : ℕ) → mapped_range (adjustment_range (device_of kind)) n ≡ true → n < 128 ^ 5
adjustment_small kind n e = omega (arith, between_small n (fits_least kind) (fits_most kind) e)

pub parts_small : (kind n : ℕ) → mapped_range (parts_range (device_of kind)) n ≡ true → n < 128
parts_small kind n e = omega (arith, laws kind, leb-true n (mapped_parts kind) (parts_test kind n ∙ e))

-- what follows the flag of the earlier update, in five bytes or in two: behind the first there are so many
abbrev pub last_more : ℕ → ℕ
last_more version = cond (eqb version 1) 4 1

pub last_five : (version : ℕ) → last_more version < 5
last_five version = ⊎_elim (λ (t : eqb version 1 ≡ true). simp t (lit< tt)) (λ (t : eqb version 1 ≡ false). simp t (lit< tt)) (either (eqb version 1))

pub last_small : (version flag n : ℕ) → last_range version flag n ≡ true → n < 128 ^ suc (last_more version)
last_small version flag n e =
    ⊎_elim
    (λ (t : eqb version 1 ≡ true).
    let w : reftime_range flag n ≡ true = simp t at e in
    simp t (below 4 last_second (lit< tt) n (and_true (second_range n) (zero_unless_flag flag n) w).0))
    (λ (t : eqb version 1 ≡ false).
    let w : count_range flag n ≡ true = simp t at e in
    simp t (below 1 longest_interval (lit< tt) n (and_true (interval_range n) (zero_unless_flag flag n) w).0))
    (either (eqb version 1))

unfoldable pub sizes : Sized record_layout
unfolding record_layout
sizes =
    sized 0 _ _ _ (lit< tt) version_small (λ version.
    sized 0 _ _ _ (lit< tt) (below 0 _ (lit< tt)) (λ kind.
    sized 4 _ _ _ (lit< tt) (below 4 _ (lit< tt)) (λ seconds.
    sized 2 _ _ _ (lit< tt) (below 2 _ (lit< tt)) (λ us.
    sized 4 _ _ _ (lit< tt) (λ n e. below 4 mapped_phase (lit< tt) n (phase_test n ∙ e)) (λ phase.
    sized 4 _ _ _ (lit< tt) (λ n e. below 4 mapped_offset (lit< tt) n (offset_test n ∙ e)) (λ offset.
    sized 4 _ _ _ (lit< tt) (λ n e. below 4 mapped_frequency (lit< tt) n (frequency_test n ∙ e)) (λ frequency.
    sized 4 _ _ _ (lit< tt) (adjustment_small kind) (λ adjustment.
    sized 0 _ _ _ (lit< tt) (below 0 _ (lit< tt)) (λ constant.
    sized 0 _ _ _ (lit< tt) (below 0 _ (lit< tt)) (λ flag.
    sized (last_more version) _ _ _ (last_five version) (last_small version flag) (λ last.
    sized 3 _ _ _ (lit< tt) (below 3 _ (lit< tt)) (λ maxerror.
    sized 3 _ _ _ (lit< tt) (below 3 _ (lit< tt)) (λ esterror.
    sized 0 _ _ _ (lit< tt) (below 0 _ (lit< tt)) (λ status.
    sized 0 _ _ _ (lit< tt) (parts_small kind) (λ remainder.
    sized 0 _ _ _ (lit< tt) (parts_small kind) (λ leftover.
    sized_end _))))))))))))))))
