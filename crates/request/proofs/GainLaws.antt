-- The numbers of a frequency gain fit 32 bits, and a clamped frequency is in its range.
use mathlib.Core.Path.{◌≡◌, refl, sym}
use mathlib.Core.Bool.{Bool, true, false, cond, ◌||◌}
use Prim.Native.Nat.{ℕ, ◌*◌, ◌≤◌, ◌<◌}
use native.Mathlib.Omega.{arith}
use native.Mathlib.Nat.{one-le-pow, pow-le-pow_right, mul-le-mul, div-le_self, lt_of_le_of_lt}
use lib.Dec.{eqb, lit<}
use lib.IntN.{ℤ, pos, neg_ℤ, ◌+ℤ◌, ◌*ℤ◌}
use lib.Signed.{lt_z}
use borrow.Author.Tests.{eqb-true}
use mir.Syntax.{w32}
use mir.Val.{SFits}
use Rattle.integers.proofs.Parts.{pos_part, neg_part, parts, one_part, sfits_parts, ge_parts}
use Rattle.state.specs.State.{greatest_frequency}
use Rattle.state.specs.declared.state.Clock.{Clock}
use Rattle.state.proofs.Ok.{Ok}
use Rattle.request.specs.Request.{interval, gain_divisor, gain, clamp}

pub divisor_pos : (k : ℕ) → 0 < gain_divisor k
divisor_pos k = one-le-pow k 4 (lit< tt)

pub record Gains (o : ℤ) (n k : ℕ) : Type 0 where
  pub offset : SFits w32 o
  pub count : SFits w32 (pos n)
  pub divisor : SFits w32 (pos (gain_divisor k))
  pub product : SFits w32 (o *ℤ pos n)
  pub gained : SFits w32 (gain o n k)
  pub small : (pos_part (gain o n k) ≤ 131070976) × (neg_part (gain o n k) ≤ 131070976)

pub gains : (o : ℤ) (n k : ℕ) → (pos_part o ≤ 127999) × (neg_part o ≤ 127999) → n ≤ 1024 → k ≤ 4 → Gains o n k
gains o n k h hn hk =
    let u = mul-le-mul h.0 hn in
    let v = mul-le-mul h.1 hn in
    let s : (pos_part (gain o n k) ≤ 131070976) × (neg_part (gain o n k) ≤ 131070976) =
    simp parts (omega (arith, u, v, div-le_self (pos_part o * n) (gain_divisor k), div-le_self (neg_part o * n) (gain_divisor k))) in
    record {
      offset = sfits_parts o (omega arith);
      count = record { sfits = omega arith };
      divisor = record { sfits = lt_of_le_of_lt (pow-le-pow_right {n = 4} (lit< tt) hk) (lit< tt) };
      product = sfits_parts (o *ℤ pos n) (simp parts (omega (arith, u, v)));
      gained = sfits_parts (gain o n k) (omega (arith, s));
      small = s;
    }

kept_by : (b : Bool) (n : ℕ) → b || eqb n 0 ≡ true → cond b n 0 ≡ n
kept_by true n e = refl
kept_by false n e = sym (eqb-true n 0 e)

-- of a clock in range the field alone tells the interval: without an earlier update it is 0
pub interval_kept : (c : Clock) → Ok c → interval c ≡ c.interval
interval_kept c k = kept_by (eqb c.updated 1) c.interval k.update

clamp_by : (z : ℤ) (a b : Bool) → lt_z z (neg_ℤ (pos greatest_frequency)) ≡ a → lt_z (pos greatest_frequency) z ≡ b
    → (pos_part (cond a (neg_ℤ (pos greatest_frequency)) (cond b (pos greatest_frequency) z)) ≤ 1677721600)
    × (neg_part (cond a (neg_ℤ (pos greatest_frequency)) (cond b (pos greatest_frequency) z)) ≤ 1677721600)
clamp_by z true b e f = omega arith
clamp_by z false true e f = omega arith
clamp_by z false false e f = omega (arith, ge_parts z (neg_ℤ (pos greatest_frequency)) e, ge_parts (pos greatest_frequency) z f, one_part z)

pub clamp_parts : (z : ℤ) → (pos_part (clamp z) ≤ 1677721600) × (neg_part (clamp z) ≤ 1677721600)
clamp_parts z = clamp_by z (lt_z z (neg_ℤ (pos greatest_frequency))) (lt_z (pos greatest_frequency) z) refl refl

-- a frequency and a gain in their ranges
pub record Sums (f g : ℤ) : Type 0 where
  pub frequency : SFits w32 f
  pub gained : SFits w32 g
  pub sum : SFits w32 (f +ℤ g)
  pub clamped : SFits w32 (clamp (f +ℤ g))

pub sums : (f g : ℤ) → (pos_part f ≤ 1677721600) × (neg_part f ≤ 1677721600) → (pos_part g ≤ 131070976) × (neg_part g ≤ 131070976) → Sums f g
sums f g hf hg =
    record {
      frequency = sfits_parts f (omega arith);
      gained = sfits_parts g (omega arith);
      sum = sfits_parts (f +ℤ g) (simp parts (omega arith));
      clamped = sfits_parts (clamp (f +ℤ g)) (omega (arith, clamp_parts (f +ℤ g)));
    }
