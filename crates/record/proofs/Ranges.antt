-- The ranges as the code tests them are those of the clock's table; and numbers in a range fit the types that
-- hold them.
use mathlib.Core.Path.{◌≡◌, refl, sym, ◌∙◌, ap}
use mathlib.Core.Bool.{Bool, true, false, cond, ◌&&◌}
use mathlib.Core.Bool.{and-true as and_one}
use mathlib.Core.Logic.{⊎_elim}
use Prim.Native.Nat.{ℕ, zero, suc, ◌*◌, ◌-◌, ◌/◌, ◌%◌, ◌^◌, ◌≤◌, ◌<◌}
use native.Mathlib.Omega.{arith}
use lib.Dec.{leb, eqb, leb-suc-suc}
use lib.IntN.{ℤ, pos, negsuc}
use mir.Syntax.{w32, w64}
use mir.Val.{SFits}
use borrow.Author.Tests.{leb-true, leb-false, le-leb, lt-leb, eqb-true, eqb-false}
use Rattle.integers.proofs.Parts.{pos_part, neg_part}
use Rattle.integers.proofs.Ranges.{zero_only, bounds_parts}
use Rattle.number.specs.Mapping.{unmapped}
use Rattle.number.proofs.Lists.{either}
use Rattle.number.specs.Layout.{mapped_range, suits}
use Rattle.number.proofs.Mapping.{even, odd}
use Rattle.state.specs.Device.{kind_range, device_of}
use Rattle.state.specs.Units.{phase_units_per_micro}
use Rattle.state.specs.State.{last_second, longest_interval, zero_unless_flag, strictly_within, phase_range, offset_range, frequency_range, parts_range}
use Rattle.state.proofs.DeviceLaws.{laws}
use Rattle.record.specs.Layout.{holds_kind, holds_parts, last_range}
use Rattle.record.specs.Inner.{up_to, between_z, mapped_phase, mapped_offset, mapped_frequency, mapped_parts, last_most}

-- two tests that pass together are one
same_test : (a b c d : ℕ) → (a ≤ b → c ≤ d) → (c ≤ d → a ≤ b) → leb a b ≡ leb c d
same_test a b c d f g =
    ⊎_elim
    (λ (t : leb a b ≡ true). t ∙ sym (le-leb c d (f (leb-true a b t))))
    (λ (t : leb a b ≡ false).
    let h : c ≤ d → ⊥ = λ l. omega (arith, g l, leb-false a b t) in
    t ∙ sym (lt-leb c d (omega arith)))
    (either (leb a b))

-- a range that is as wide below 0 as above it, tested on the mapped number
balanced : (k n : ℕ) → up_to (2 * suc k) n ≡ between_z (negsuc k) (pos (suc k)) (unmapped n)
unfolding unmapped
balanced k n =
    ⊎_elim
    (λ (t : eqb (n % 2) 0 ≡ true).
    let even = eqb-true (n % 2) 0 t in
    simp t (same_test n (2 * suc k) (n / 2) (suc k) (λ h. omega arith) (λ h. omega arith)))
    (λ (t : eqb (n % 2) 0 ≡ false).
    let odd = eqb-false (n % 2) 0 t in
    simp t (same_test n (2 * suc k) (n / 2) k (λ h. omega arith) (λ h. omega arith) ∙ sym (and_one (leb (n / 2) k))))
    (either (eqb (n % 2) 0))

-- above -(k + 2) and below k + 2
strict_bounds : (k : ℕ) (z : ℤ) → between_z (negsuc k) (pos (suc k)) z ≡ strictly_within (suc (suc k)) z
strict_bounds k (pos n) = sym (leb-suc-suc n (suc k))
strict_bounds k (negsuc j) = ap (λ (b : Bool). b && true) (sym (leb-suc-suc j k))

-- .. and so one whose ends, -d and d, are not in it
strict_test : (d n : ℕ) → 2 ≤ d → up_to (2 * (d - 1)) n ≡ mapped_range (strictly_within d) n
strict_test zero n h = absurd (omega arith)
strict_test (suc zero) n h = absurd (omega arith)
strict_test (suc (suc k)) n h = let e : suc (suc k) - 1 ≡ suc k = omega arith in rw e (balanced k n ∙ strict_bounds k (unmapped n))

pub phase_test : (n : ℕ) → up_to mapped_phase n ≡ mapped_range phase_range n
phase_test n = strict_test phase_units_per_micro n (omega arith)

pub parts_test : (kind n : ℕ) → up_to (mapped_parts kind) n ≡ mapped_range (parts_range (device_of kind)) n
parts_test kind n = strict_test (device_of kind).divisor n (omega (arith, laws kind))

pub offset_test : (n : ℕ) → up_to mapped_offset n ≡ mapped_range offset_range n
offset_test = balanced 2097135615

pub frequency_test : (n : ℕ) → up_to mapped_frequency n ≡ mapped_range frequency_range n
frequency_test = balanced 1677721599

-- what follows the flag of the earlier update: up to m with the flag, and else 0
by_flag : (m flag n : ℕ) → up_to (cond (eqb flag 1) m 0) n ≡ leb n m && zero_unless_flag flag n
by_flag m flag n =
    ⊎_elim (λ (t : eqb flag 1 ≡ true). simp t (sym (and_one (leb n m)))) (λ (t : eqb flag 1 ≡ false). simp t (zero_only m n)) (either (eqb flag 1))

pub last_test : (version flag n : ℕ) → up_to (last_most version flag) n ≡ last_range version flag n
last_test version flag n =
    ⊎_elim (λ (t : eqb version 1 ≡ true). simp t (by_flag last_second flag n)) (λ (t : eqb version 1 ≡ false). simp t (by_flag longest_interval flag n))
    (either (eqb version 1))

-- ---- what fits

pub widen : {z : ℤ} → SFits w32 z → SFits w64 z
widen f = record { sfits = omega (arith, f.sfits) }

sfits_apart : (z : ℤ) → SFits w32 z → (pos_part z < 2 ^ 31) × (neg_part z ≤ 2 ^ 31)
sfits_apart (pos n) f = omega (arith, f.sfits)
sfits_apart (negsuc n) f = omega (arith, f.sfits)

-- the number of a signed value between two of 32 bits
pub between_small : {l h : ℤ} (n : ℕ) → SFits w32 l → SFits w32 h → between_z l h (unmapped n) ≡ true → n < 2 ^ 32
between_small {l} {h} n f g e =
    let p = sfits_apart l f in
    let q = sfits_apart h g in
    let b = bounds_parts l h (unmapped n) e in
    ⊎_elim (λ t. let r = rw (even n (eqb-true _ 0 t)) at b in omega (arith, r)) (λ t. let r = rw (odd n (eqb-false _ 0 t)) at b in omega (arith, r))
    (either (eqb (n % 2) 0))

-- a number that suits a place is in its range, where 0 is
within : (here : Bool) (range : ℕ → Bool) (n : ℕ) → range 0 ≡ true → suits here range n ≡ true → range n ≡ true
within true range n z e = e
within false range n z e = ap range (eqb-true n 0 e) ∙ z

-- .. and 0 suits every such place
pub zero_suits : (here : Bool) (range : ℕ → Bool) → range 0 ≡ true → suits here range 0 ≡ true
zero_suits true range z = z
zero_suits false range z = refl

-- a kind that a record of the version can hold is one
pub kind_within : (version kind : ℕ) → suits (holds_kind version) kind_range kind ≡ true → kind_range kind ≡ true
kind_within version kind = within (holds_kind version) kind_range kind refl

-- 0 parts of a phase unit are in range, and so are those that a record of the version can hold
pub parts_zero : (kind : ℕ) → mapped_range (parts_range (device_of kind)) 0 ≡ true
parts_zero kind = sym (parts_test kind 0) ∙ le-leb 0 (mapped_parts kind) (omega arith)

pub parts_within : (version kind n : ℕ) → suits (holds_parts version) (mapped_range (parts_range (device_of kind))) n ≡ true
    → mapped_range (parts_range (device_of kind)) n ≡ true
parts_within version kind n = within (holds_parts version) (mapped_range (parts_range (device_of kind))) n (parts_zero kind)

-- a field of one byte
pub byte : {n : ℕ} (most : ℕ) → most < 256 → up_to most n ≡ true → n < 256
byte {n} most h e = omega (arith, leb-true n most e)
