-- A rollover: its numbers fit 32 bits, the leap step by its three cases, and the clock stays in its ranges.
use mathlib.Core.Path.{◌≡◌, refl, ◌∙◌, ap}
use mathlib.Core.Bool.{Bool, true, false, cond, ◌||◌}
use Prim.Native.Nat.{ℕ, ◌+◌, ◌*◌, ◌/◌, ◌%◌, ◌≤◌, ◌<◌}
use native.Mathlib.Omega.{arith}
use native.Mathlib.Nat.{lt_of_le_of_lt, div-le_self, mul-div-le, mul-le-mul_left, mul-le-mul_right, div-le_of_le-mul, mod-lt}
use borrow.Author.Rules.{rules}
use lib.Pow.{pow_mono, pow_pos}
use lib.IntN.{ℤ, pos, ◌+ℤ◌, ◌*ℤ◌}
use lib.Signed.{quot_z, rem_z}
use lib.Dec.{eqb, lit<, lt→ltb}
use borrow.Author.Tests.{eqb-true, eq-eqb}
use mir.Syntax.{w32}
use Rattle.std.proofs.lemmas.Int.{quot_fits}
use mir.Val.{SFits}
use Rattle.integers.proofs.Parts.{pos_part, neg_part, parts, one_part, pos_part_add, neg_part_add, pos_part_rem, neg_part_rem, sfits_parts}
use Rattle.integers.proofs.Linear.{self, add}
use Rattle.integers.proofs.Ranges.{and_true}
use Rattle.state.specs.Device.{device_of}
use Rattle.state.specs.declared.state.Clock.{Clock}
use Rattle.state.proofs.DeviceLaws.{reach, laws}
use Rattle.state.proofs.DeviceLaws.{divisor_pos as unit-pos}
use Rattle.state.proofs.Ok.{Adjusted, adjusted, Parts, Ok}
use Rattle.clock.specs.Rollover.{share_divisor, share, offset_left, interval_grown, adjustment_for, inserts, deletes, leap_seconds, leap_status, rolled_over}

-- n / 2^(10 + k) is at most n / 1024
div_least : (n k : ℕ) → n / share_divisor k ≤ n / 1024
div_least n k = omega (arith, mul-div-le n (share_divisor k), mul-le-mul_right (n / share_divisor k) (least k))
  where
    least : (k : ℕ) → 1024 ≤ share_divisor k
    least k = pow_mono {i = 10} (omega arith)

pub divisor_pos : (k : ℕ) → 0 < share_divisor k
divisor_pos k = pow_pos (10 + k)

-- the steps by which parts of a phase unit, or a frequency, are divided fit
pub record Divides (kind : ℕ) (f : ℤ) : Type 0 where
  pub frequency : SFits w32 f
  pub quotient : SFits w32 (quot_z f (pos (device_of kind).divisor))
  pub remainder : SFits w32 (rem_z f (pos (device_of kind).divisor))

-- the steps by which the adjustment is worked out fit
pub record Adjusts (kind : ℕ) (s f : ℤ) : Type 0 where
  pub divides : Divides kind f
  pub share : SFits w32 s
  pub scaled : SFits w32 (pos (device_of kind).scale *ℤ s)
  pub both : SFits w32 (pos (device_of kind).scale *ℤ s +ℤ quot_z f (pos (device_of kind).divisor))
  pub adjusted : SFits w32 (adjustment_for (device_of kind) s f)

module _ (kind : ℕ) (f : ℤ) where
  -- what the division leaves is less than a phase unit
  pub remainder_ok : Parts (device_of kind) (rem_z f (pos (device_of kind).divisor))
  remainder_ok =
      record {
        up = rw pos_part_rem (mod-lt (pos_part f) (unit-pos kind));
        down = rw neg_part_rem (mod-lt (neg_part f) (unit-pos kind));
      }

  pub divides : SFits w32 f → Divides kind f
  divides fits =
      record {
        frequency = fits;
        quotient = quot_fits w32 f (pos (device_of kind).divisor) fits (record { lt = lt→ltb 0 (device_of kind).divisor (unit-pos kind) });
        remainder = sfits_parts (rem_z f (pos (device_of kind).divisor)) (omega (arith, remainder_ok, laws kind));
      }

  module _ (hf : (pos_part f ≤ 1677721600) × (neg_part f ≤ 1677721600)) where
    -- a part of the frequency in phase units a tick
    divided_part : (n : ℕ) → n ≤ 1677721600 → n / (device_of kind).divisor ≤ 1677721600 / (device_of kind).divisor
    divided_part n h = div-le_of_le-mul (device_of kind).divisor (omega (arith, (laws kind).frequency))

    divided_parts : (pos_part (quot_z f (pos (device_of kind).divisor)) ≤ 1677721600 / (device_of kind).divisor) × (neg_part (quot_z f (pos (device_of kind).divisor)) ≤ 1677721600 / (device_of kind).divisor)
    divided_parts = simp parts (divided_part (pos_part f) hf.0, divided_part (neg_part f) hf.1)

module _ (kind : ℕ) (s f : ℤ) (hs : (pos_part s ≤ 2047984) × (neg_part s ≤ 2047984)) (hf : (pos_part f ≤ 1677721600) × (neg_part f ≤ 1677721600)) where
  abbrev scaled : ℤ
  scaled = pos (device_of kind).scale *ℤ s

  abbrev divided : ℤ
  divided = quot_z f (pos (device_of kind).divisor)

  scaled_parts : (pos_part scaled ≤ (device_of kind).scale * 2047984) × (neg_part scaled ≤ (device_of kind).scale * 2047984)
  scaled_parts = simp parts (mul-le-mul_left (device_of kind).scale hs.0, mul-le-mul_left (device_of kind).scale hs.1)

  both_parts : (pos_part (scaled +ℤ divided) ≤ reach (device_of kind)) × (neg_part (scaled +ℤ divided) ≤ reach (device_of kind))
  both_parts = rw (pos_part_add scaled divided, neg_part_add scaled divided) (omega (arith, scaled_parts, divided_parts kind f hf))

  pub adjustment_ok : Adjusted (device_of kind) (adjustment_for (device_of kind) s f)
  adjustment_ok =
      let e = add (self (scaled +ℤ divided)) (self (device_of kind).base.0) in
      adjusted kind (adjustment_for (device_of kind) s f) (omega (arith, e.eq, both_parts, laws kind))

  pub adjusts : Adjusts kind s f
  adjusts =
      record {
        divides = divides kind f (sfits_parts f (omega arith));
        share = sfits_parts s (omega arith);
        scaled = sfits_parts scaled (omega (arith, scaled_parts, laws kind));
        both = sfits_parts (scaled +ℤ divided) (omega (arith, both_parts, laws kind));
        adjusted = sfits_parts (adjustment_for (device_of kind) s f) (omega (arith, adjustment_ok, laws kind));
      }

module _ (c : Clock) (k : Ok c) where
  abbrev left : ℤ
  left = c.offset.0

  pub share_parts : (pos_part (share c) ≤ 2047984) × (neg_part (share c) ≤ 2047984)
  share_parts = simp parts (omega (arith, div_least (pos_part left) c.constant, div_least (neg_part left) c.constant))

  pub fits_offset : SFits w32 left
  fits_offset = sfits_parts left (omega arith)

  pub fits_share_of : SFits w32 (share c)
  fits_share_of = sfits_parts (share c) (omega (arith, share_parts))

  pub fits_divisor : SFits w32 (pos (share_divisor c.constant))
  fits_divisor = record { sfits = lt_of_le_of_lt (pow_mono {j = 14} (omega arith)) (lit< tt) }

  -- share and rest are of the offset's sign
  pub rest_pos_part : pos_part (share c) + pos_part (offset_left c) ≡ pos_part left
  rest_pos_part = simp parts (omega (arith, one_part left, div-le_self (pos_part left) (share_divisor c.constant), div-le_self (neg_part left) (share_divisor c.constant)))

  pub rest_neg_part : neg_part (share c) + neg_part (offset_left c) ≡ neg_part left
  rest_neg_part = simp parts (omega (arith, one_part left, div-le_self (pos_part left) (share_divisor c.constant), div-le_self (neg_part left) (share_divisor c.constant)))

  pub rest_parts : (pos_part (offset_left c) ≤ 2097135616) × (neg_part (offset_left c) ≤ 2097135616)
  rest_parts = omega (arith, rest_pos_part, rest_neg_part)

  pub fits_rest : SFits w32 (offset_left c)
  fits_rest = sfits_parts (offset_left c) (omega (arith, rest_parts))

pub data LeapCase (status s : ℕ) : Type 0 where
  ins : inserts status s ≡ true → LeapCase status s
  del : inserts status s ≡ false → deletes status s ≡ true → LeapCase status s
  none : inserts status s ≡ false → deletes status s ≡ false → LeapCase status s

module _ (status s : ℕ) where
  by_both : (i d : Bool) → inserts status s ≡ i → deletes status s ≡ d → LeapCase status s
  by_both true d e f = ins e
  by_both false true e f = del e f
  by_both false false e f = none e f

  pub leap_case : LeapCase status s
  leap_case = by_both (inserts status s) (deletes status s) refl refl

  pub leap_seconds_lem : s ≤ 4294967295 → LeapCase status s → leap_seconds status s ≤ 4294967295
  leap_seconds_lem h (ins e) = simp e (omega arith)
  leap_seconds_lem h (del e f) = simp (e, f) (omega (arith, eqb-true (s % 86400) 86399 (and_true (eqb status 2) (eqb (s % 86400) 86399) f).1))
  leap_seconds_lem h (none e f) = simp (e, f) h

  unless_oop : (b : Bool) → status ≤ 4 → cond b 0 status ≤ 4
  unless_oop true h = omega arith
  unless_oop false h = h

  pub leap_status_lem : status ≤ 4 → LeapCase status s → leap_status status s ≤ 4
  leap_status_lem h (ins e) = simp e (omega arith)
  leap_status_lem h (del e f) = simp (e, f) (omega arith)
  leap_status_lem h (none e f) = simp (e, f) (unless_oop (eqb status 3) h)

-- the interval stays in its range
interval_most : (flag n : ℕ) (b : Bool) → eqb flag 1 ≡ b → n ≤ 1024 → interval_grown flag n ≤ 1024
interval_most flag n true f h = simp f (omega arith)
interval_most flag n false f h = simp f (omega arith)

-- .. and 0 where there is no earlier update
interval_none : (flag n : ℕ) (b : Bool) → eqb flag 1 ≡ b → n ≤ 1024 → eqb flag 1 || eqb n 0 ≡ true → eqb flag 1 || eqb (interval_grown flag n) 0 ≡ true
interval_none flag n true f h e = simp f
interval_none flag n false f h e =
    let z : n ≡ 0 = eqb-true n 0 (simp f at e) in
    let none : interval_grown flag n ≡ 0 = simp f (omega arith) in
    ap (λ (x : Bool). eqb flag 1 || x) (eq-eqb (interval_grown flag n) 0 none) ∙ simp f

pub rolled_ok : (c : Clock) → Ok c → c.seconds < 4294967295 → Ok (rolled_over c)
unfolding rolled_over
rolled_ok c k h =
    search (
      rules,
      leap_seconds_lem c.status (c.seconds + 1) (omega arith) (leap_case c.status (c.seconds + 1)),
      interval_most c.updated c.interval (eqb c.updated 1) refl k.interval,
      interval_none c.updated c.interval (eqb c.updated 1) refl k.interval k.update,
      rest_parts c k,
      adjustment_ok c.kind (share c) c.frequency.0 (share_parts c k) k.frequency,
      remainder_ok c.kind c.frequency.0,
      leap_status_lem c.status (c.seconds + 1) k.status (leap_case c.status (c.seconds + 1)),
    )
