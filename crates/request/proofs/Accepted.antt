-- What a request that is not refused is known to be, and that it keeps the clock in its ranges.
use mathlib.Core.Path.{◌≡◌, refl, sym}
use mathlib.Core.Bool.{Bool, true, false, ◌&&◌, ◌||◌, not, cond, true≢false}
use Prim.Native.Nat.{ℕ, ◌≤◌, ◌<◌}
use native.Mathlib.Omega.{arith}
use borrow.Author.Rules.{rules}
use lib.Dec.{ltb, eqb, lit<}
use borrow.Author.Tests.{ltb-false, not-false}
use lib.IntN.{ℤ, pos, ◌*ℤ◌}
use Rattle.std.specs.Prelude.{Some, None}
use Rattle.std.specs.Bool.{then_some}
use Rattle.integers.proofs.Parts.{pos_part, neg_part, parts}
use Rattle.integers.proofs.Ranges.{and_true, within_parts, between_parts}
use Rattle.state.specs.State.{in_range, within, strictly_within, greatest_offset, greatest_frequency, greatest_constant, greatest_error, status_ok, status_bad}
use Rattle.state.specs.Units.{micros}
use Rattle.state.specs.declared.state.Clock.{Clock}
use Rattle.state.specs.declared.units.Micros.{Micros}
use Rattle.state.proofs.Ok.{Ok, ok}
use Rattle.request.specs.declared.request.Request.{Request}
use Rattle.request.specs.Request.{selects_offset, selects_frequency, selects_maxerror, selects_esterror, selects_status, selects_constant, shortest_interval, mode_above, offset_outside, frequency_outside, error_above, status_above, constant_above, offset_too_soon, request_refusal, frequency_written, status_written, constant_written, clamp, frequency_grown, writes_bad, requested}
use Rattle.request.proofs.GainLaws.{clamp_parts}

-- a chain of refusals that comes to 0 was not left at its first
chain : (b : Bool) (n later : ℕ) → 0 < n → cond b n later ≡ 0 → (b ≡ false) × (later ≡ 0)
chain true n x h e = absurd (omega arith)
chain false n x h e = (refl, e)

-- a test that was not made, or did not hold
within_if : (s b : Bool) → s && not b ≡ false → s ≡ true → b ≡ true
within_if true true e t = refl
within_if true false e t = absurd (true≢false e)
within_if false b e t = absurd (true≢false (sym t))

most_if : (s : Bool) (n x : ℕ) → s && ltb n x ≡ false → s ≡ true → x ≤ n
most_if true n x e t = ltb-false n x e
most_if false n x e t = absurd (true≢false (sym t))

or_false : (a b : Bool) → a || b ≡ false → (a ≡ false) × (b ≡ false)
or_false true b e = absurd (true≢false e)
or_false false b e = (refl, e)

-- a field that is asked for is selected, and is the one that was picked
pub chosen : {T : Type 0} (b : Bool) (x y : T) → then_some b x ≡ Some y → (b ≡ true) × (y ≡ x)
chosen true x y e = (refl, cc)
chosen false x y e = absurd (cc)

-- a field that is not there is not selected
pub passed : {T : Type 0} (b : Bool) (x : T) → then_some b x ≡ None → b ≡ false
passed true x e = absurd (cc)
passed false x e = refl

pub record Accepted (c : Clock) (r : Request) : Type 0 where
  pub clock : Ok c
  pub offset : selects_offset r ≡ true → (pos_part r.offset.0 ≤ 127999) × (neg_part r.offset.0 ≤ 127999)
  pub frequency : selects_frequency r ≡ true → (pos_part r.frequency.0 < 1677721600) × (neg_part r.frequency.0 < 1677721600)
  pub maxerror : selects_maxerror r ≡ true → r.maxerror.0 ≤ 16000000
  pub esterror : selects_esterror r ≡ true → r.esterror.0 ≤ 16000000
  pub status : selects_status r ≡ true → r.status ≤ 4
  pub constant : selects_constant r ≡ true → r.constant ≤ 4
  pub spaced : selects_offset r ≡ true → c.updated ≡ 1 → 64 ≤ c.interval

pub accepted : (c : Clock) (r : Request) → request_refusal c r ≡ 0 → Accepted c r
unfolding request_refusal
accepted c r e =
    let a1 = chain (not (in_range c)) 1 _ (lit< tt) e in
    let a4 = chain (mode_above r) 4 _ (lit< tt) a1.1 in
    let a5 = chain (offset_outside r) 5 _ (lit< tt) a4.1 in
    let a6 = chain (frequency_outside r) 6 _ (lit< tt) a5.1 in
    let a7 = chain (error_above r) 7 _ (lit< tt) a6.1 in
    let a8 = chain (status_above r) 8 _ (lit< tt) a7.1 in
    let a9 = chain (constant_above r) 9 _ (lit< tt) a8.1 in
    let a17 = chain (offset_too_soon c r) 17 _ (lit< tt) a9.1 in
    let errors = or_false (selects_maxerror r && ltb greatest_error r.maxerror.0) (selects_esterror r && ltb greatest_error r.esterror.0) a7.0 in
    record {
      clock = ok c (not-false (in_range c) a1.0);
      offset = λ t. within_parts _ _ r.offset.0 (within_if (selects_offset r) (within greatest_offset r.offset.0) a5.0 t);
      frequency = λ t. between_parts _ _ r.frequency.0 (lit< tt) (lit< tt) (within_if (selects_frequency r) (strictly_within greatest_frequency r.frequency.0) a6.0 t);
      maxerror = most_if (selects_maxerror r) greatest_error r.maxerror.0 errors.0;
      esterror = most_if (selects_esterror r) greatest_error r.esterror.0 errors.1;
      status = most_if (selects_status r) status_bad r.status a8.0;
      constant = most_if (selects_constant r) greatest_constant r.constant a9.0;
      spaced = λ t u. ltb-false c.interval shortest_interval (simp (t, u) at a17.0);
    }

-- of a field that is written where b holds
cond_most : (b : Bool) (x y n : ℕ) → (b ≡ true → x ≤ n) → y ≤ n → cond b x y ≤ n
cond_most true x y n h k = h refl
cond_most false x y n h k = k

cond_micros : (b : Bool) (x y : Micros) (n : ℕ) → (b ≡ true → x.0 ≤ n) → y.0 ≤ n → (cond b x y).0 ≤ n
cond_micros true x y n h k = h refl
cond_micros false x y n h k = k

cond_parts : (b : Bool) (x y : ℤ) (n : ℕ) → (b ≡ true → (pos_part x ≤ n) × (neg_part x ≤ n)) → (pos_part y ≤ n) × (neg_part y ≤ n)
    → (pos_part (cond b x y) ≤ n) × (neg_part (cond b x y) ≤ n)
cond_parts true x y n h k = h refl
cond_parts false x y n h k = k

module _ (c : Clock) (r : Request) (a : Accepted c r) where
  pub frequency_written_lem : (pos_part (frequency_written c r) ≤ 1677721600) × (neg_part (frequency_written c r) ≤ 1677721600)
  frequency_written_lem =
      cond_parts (selects_frequency r) r.frequency.0 c.frequency.0 1677721600
      (λ t. omega (arith, a.frequency t))
      a.clock.frequency

  -- a status that is written is a selected one
  pub status_selected : selects_status r && (eqb c.status status_ok || eqb r.status status_bad) ≡ true → r.status ≤ 4
  status_selected t = a.status (and_true (selects_status r) (eqb c.status status_ok || eqb r.status status_bad) t).0

  status_written_lem : status_written c r ≤ 4
  status_written_lem =
      cond_most (selects_status r && (eqb c.status status_ok || eqb r.status status_bad)) r.status c.status 4 status_selected a.clock.status

  pub constant_written_lem : constant_written c r ≤ 4
  constant_written_lem = cond_most (selects_constant r) r.constant c.constant 4 a.constant a.clock.constant

  -- an earlier update, or none
  update_after : (b : Bool) → eqb (cond b 1 c.updated) 1 || eqb (cond b 0 c.interval) 0 ≡ true
  update_after true = refl
  update_after false = a.clock.update

  pub requested_ok : Ok (requested c r)
  unfolding requested
  requested_ok =
      search (
        rules,
        cond_parts (selects_offset r) (r.offset.0 *ℤ pos 16384) c.offset.0 2097135616
            (λ t. simp parts (omega (arith, a.offset t)))
            a.clock.offset,
        cond_parts (selects_offset r) (clamp (frequency_grown c r)) (frequency_written c r) 1677721600
            (λ t. clamp_parts (frequency_grown c r))
            frequency_written_lem,
        constant_written_lem,
        cond_most (selects_offset r) 1 c.updated 1 (λ t. omega arith) a.clock.updated,
        cond_most (selects_offset r) 0 c.interval 1024 (λ t. omega arith) a.clock.interval,
        update_after (selects_offset r),
        cond_micros (selects_maxerror r) (micros r.maxerror.0) c.maxerror 16000000 a.maxerror a.clock.maxerror,
        cond_micros (selects_esterror r) (micros r.esterror.0) c.esterror 16000000 a.esterror a.clock.esterror,
        cond_most (selects_offset r && eqb (status_written c r) status_bad && not (writes_bad r)) 0 (status_written c r) 4 (λ t. omega arith) status_written_lem,
      )
