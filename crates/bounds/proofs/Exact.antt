-- The first bound: the clock's time with its phase and its leftover is the exact time, an equality that every
-- call keeps.
use mathlib.Core.Path.{◌≡◌, refl, sym, ◌∙◌, ap, subst}
use mathlib.Core.Bool.{Bool, true, false, true≢false}
use mathlib.Core.List.{List, [], ◌∷◌}
use Prim.Native.Nat.{ℕ, ◌+◌, ◌-◌, ◌*◌, ◌/◌, ◌≤◌, ◌<◌}
use native.Mathlib.Omega.{arith}
use native.Mathlib.Nat.{div-add-mod, zero-div, zero-mod}
use borrow.Author.Tests.{ne_eqb}
use lib.Dec.{eqb}
use lib.IntN.{ℤ, pos, ◌+ℤ◌}
use lib.Signed.{rem_z}
use Rattle.integers.proofs.Parts.{pos_part, neg_part, parts, eq_parts, pos_part_rem, neg_part_rem}
use Rattle.integers.proofs.Linear.{Diff, self, lit, add, sub, times, times_r, quot}
use Rattle.state.specs.Device.{device_of}
use Rattle.state.specs.State.{fresh_clock}
use Rattle.clock.specs.Rollover.{rolled_over, adjustment_for, leap_seconds}
use Rattle.clock.specs.Tick.{tick_of, advanced, micros_grown, unit_reached, leftover_left, carry, phase_left}
use Rattle.clock.specs.Setting.{set_to, setting_of}
use Rattle.state.specs.declared.device.Device.{Device}
use Rattle.state.specs.declared.state.Clock.{Clock}
use Rattle.state.specs.declared.units.AskedMicros.{AskedMicros}
use Rattle.state.proofs.DeviceLaws.{laws}
use Rattle.state.proofs.Ok.{Ok}
use Rattle.clock.proofs.RollLaws.{LeapCase, ins, del, none, leap_case, rolled_ok}
use Rattle.clock.proofs.SettingCases.{SettingCase, refused, done, setting_case}
use Rattle.clock.proofs.TickCases.{TickCase, out, last, plain, rolls, tick_case}
use Rattle.clock.proofs.TickLaws.{grown_eq, grown_most, advanced_ok}
use Rattle.request.specs.Request.{selects_offset, requested, request_of}
use Rattle.request.specs.declared.request.Request.{Request}
use Rattle.request.proofs.Accepted.{requested_ok}
use Rattle.request.proofs.RequestCases as req
use Rattle.event.specs.declared.event.Call.{Call}
use Rattle.event.specs.declared.event.Call.TheVariants as call
use Rattle.bounds.specs.Calls.{next, accepted, after_by, after}
use Rattle.bounds.specs.Measure.{measure_of}
use Rattle.bounds.specs.Book.{Book, empty_book, tick_book, leap_exact, rollover_book, setting_book, request_book, call_book, book_from}
use Rattle.bounds.proofs.Runs.{fresh_ok}
use Rattle.bounds.proofs.MeasureLaws.{measured}

-- what a reading of the clock tells (us)
abbrev pub told : Clock → ℕ
told c = c.seconds * 1000000 + c.micros.0

-- the clock's time with its phase (phase units)
abbrev pub total : Clock → ℤ
total c = pos (268435456 * told c) +ℤ c.phase.0

-- the units of exact time in a phase unit
abbrev pub per_phase : Clock → ℕ
per_phase c = (device_of c.kind).divisor

-- The clock's time with its phase and its leftover is the exact time, in its units.
abbrev pub Kept : Clock → ℤ → Type 0
Kept c e = Diff e (per_phase c * pos_part (total c) + pos_part c.leftover.0) (per_phase c * neg_part (total c) + neg_part c.leftover.0)

pub record Inv (c : Clock) (b : Book) : Type 0 where
  pub range : Ok c
  -- adjustment and remainder are those of the share and the frequency in force
  pub rate : c.adjustment.0 ≡ adjustment_for (device_of c.kind) b.share b.frequency
  pub remainder : c.remainder.0 ≡ rem_z b.frequency (pos (per_phase c))
  pub kept : Kept c b.exact

rate_diff : (d : Device) (a s f : ℤ) → a ≡ adjustment_for d s f
    → Diff a (d.scale * pos_part s + pos_part f / d.divisor + pos_part d.base.0) (d.scale * neg_part s + neg_part f / d.divisor + neg_part d.base.0)
rate_diff d a s f e =
    subst (λ (z : ℤ). Diff z (d.scale * pos_part s + pos_part f / d.divisor + pos_part d.base.0) (d.scale * neg_part s + neg_part f / d.divisor + neg_part d.base.0)) (sym e)
    (add (add (times d.scale (self s)) (quot f d.divisor)) (self d.base.0))

-- What a tick adds by adjustment and remainder is what the book adds: the division's quotient and its
-- remainder together lose nothing.
gain : (kind : ℕ) (a r s f : ℤ) → a ≡ adjustment_for (device_of kind) s f → r ≡ rem_z f (pos (device_of kind).divisor)
    → (device_of kind).divisor * (268435456 * (device_of kind).tick.0 + pos_part a) + pos_part r + (1024 * neg_part s + neg_part f) ≡ (device_of kind).divisor * neg_part a + neg_part r + (16777216000000 + 1024 * pos_part s + pos_part f)
gain kind a r s f e h =
    let D = (device_of kind).divisor in
    let l = laws kind in
    omega (
      arith,
      ap (λ (x : ℕ). D * x) (rate_diff (device_of kind) a s f e).eq,
      ap pos_part h,
      ap neg_part h,
      pos_part_rem f D,
      neg_part_rem f D,
      l.second,
      ap (λ (x : ℕ). D * x) l.signs.0,
      ap (λ (x : ℕ). x * pos_part s) l.share,
      ap (λ (x : ℕ). x * neg_part s) l.share,
      div-add-mod (pos_part f) D,
      div-add-mod (neg_part f) D,
    )

-- the book of a tick
abbrev ticked : Clock → Book → Book
ticked c b = tick_book (measure_of c.kind) b

-- what its exact time is the difference of
abbrev exact_p : Book → ℕ
exact_p b = pos_part b.exact + 16777216000000 + pos_part b.frequency + 1024 * pos_part b.share

abbrev exact_n : Book → ℕ
exact_n b = neg_part b.exact + neg_part b.frequency + 1024 * neg_part b.share

module _ (c : Clock) where
  -- the phase after a tick
  pub left_diff : Diff (phase_left c) (pos_part c.phase.0 + pos_part c.adjustment.0 + pos_part (unit_reached c) + neg_part (carry c) * 268435456) (neg_part c.phase.0 + neg_part c.adjustment.0 + neg_part (unit_reached c) + pos_part (carry c) * 268435456)
  left_diff = sub (add (add (self c.phase.0) (self c.adjustment.0)) (self (unit_reached c))) (times_r 268435456 (self (carry c)))

  -- the leftover after it
  leftover_diff : Diff (leftover_left c) (pos_part c.leftover.0 + pos_part c.remainder.0 + neg_part (unit_reached c) * per_phase c) (neg_part c.leftover.0 + neg_part c.remainder.0 + pos_part (unit_reached c) * per_phase c)
  leftover_diff = sub (add (self c.leftover.0) (self c.remainder.0)) (times_r (per_phase c) (self (unit_reached c)))

module _ (c : Clock) (b : Book) (i : Inv c b) where
  exact_diff : Diff (ticked c b).exact (exact_p b) (exact_n b)
  exact_diff =
      let d = add (add (add (self b.exact) (lit (measure_of c.kind).tick)) (times 1 (self b.frequency))) (times 1024 (self b.share)) in
      record { eq = omega (arith, d.eq, (measured c.kind).tick) }

  -- A time that has grown by the tick and a leap step, with the leftover after the tick, and an exact time
  -- that has grown by the book's tick and the same step.
  step_kept : (z x : ℤ) (up down : ℕ)
      → Diff z (pos_part (total c) + 268435456 * (device_of c.kind).tick.0 + pos_part c.adjustment.0 + pos_part (unit_reached c) + up) (neg_part (total c) + neg_part c.adjustment.0 + neg_part (unit_reached c) + down)
      → Diff x (exact_p b + per_phase c * up) (exact_n b + per_phase c * down)
      → Diff x (per_phase c * pos_part z + pos_part (leftover_left c)) (per_phase c * neg_part z + neg_part (leftover_left c))
  step_kept z x up down w y =
      let g = gain c.kind c.adjustment.0 c.remainder.0 b.share b.frequency i.rate i.remainder in
      record { eq = omega (arith, ap (λ (t : ℕ). per_phase c * t) w.eq, y.eq, (leftover_diff c).eq, i.kept.eq, g) }

  -- a tick that does not roll over
  plain_kept : Kept (advanced c (micros_grown c)) (ticked c b).exact
  plain_kept =
      let d = add (lit (268435456 * told (advanced c (micros_grown c)))) (left_diff c) in
      let w = add (lit (268435456 * told c)) (self c.phase.0) in
      step_kept (total (advanced c (micros_grown c))) (ticked c b).exact 0 0
      (record { eq = omega (arith, d.eq, w.eq, grown_eq c i.range) })
      (record { eq = omega (arith, exact_diff.eq) })

-- a leap step moves the second and the exact time alike
record Leapt (c : Clock) (x : ℤ) (p n : ℕ) : Type 0 where
  pub up : ℕ
  pub down : ℕ
  pub exact : Diff (leap_exact c x) (p + per_phase c * up) (n + per_phase c * down)
  pub second : leap_seconds c.status (c.seconds + 1) * 268435456000000 + down ≡ (c.seconds + 1) * 268435456000000 + up

module _ (c : Clock) {x : ℤ} {p n : ℕ} (d : Diff x p n) where
  leapt : LeapCase c.status (c.seconds + 1) → Leapt c x p n
  leapt (ins e) =
      record {
        up = 0;
        down = 268435456000000;
        exact = simp e (record { eq = simp parts (omega (arith, d.eq, (measured c.kind).per_micro)) });
        second = simp e (omega arith);
      }
  leapt (del e f) =
      record {
        up = 268435456000000;
        down = 0;
        exact = simp (e, f) (record { eq = simp parts (omega (arith, d.eq, (measured c.kind).per_micro)) });
        second = simp (e, f) (omega arith);
      }
  leapt (none e f) = record { up = 0; down = 0; exact = simp (e, f) (record { eq = omega (arith, d.eq) }); second = simp (e, f) (omega arith) }

module _ (c : Clock) (b : Book) (i : Inv c b) (h : 1000000 ≤ micros_grown c) where
  abbrev later : Clock
  later = advanced c (micros_grown c - 1000000)

  -- a tick that rolls over
  roll_kept : Kept (rolled_over later) (rollover_book c (ticked c b)).exact
  unfolding rolled_over
  roll_kept =
      let d = add (lit (268435456 * told (rolled_over later))) (left_diff c) in
      let w = add (lit (268435456 * told c)) (self c.phase.0) in
      let l = leapt c (exact_diff c b i) (leap_case c.status (c.seconds + 1)) in
      step_kept c b i (total (rolled_over later)) (rollover_book c (ticked c b)).exact l.up l.down
      (record { eq = omega (arith, l.second, d.eq, w.eq, grown_eq c i.range) })
      l.exact

-- a refusal is not 0
pub not_zero : (n : ℕ) → 0 < n → eqb n 0 ≡ false
not_zero n h = ne_eqb n 0 (λ e. omega arith)

-- a setting begins anew, whatever was before
set_to_inv : (c : Clock) (s : ℕ) (u : AskedMicros) → Ok (set_to c s u) → Inv (set_to c s u) (setting_book c s u)
set_to_inv c s u k =
    let l = ap (λ (x : ℕ). (s * 1000000 + u.0) * x) (measured c.kind).per_micro in
    record { range = k; rate = refl; remainder = refl; kept = record { eq = omega (arith, l) } }

module _ (c : Clock) (b : Book) (i : Inv c b) where
  tick_inv : TickCase c → Inv (tick_of c).clock (call_book c call.Tick b)
  unfolding rolled_over
  tick_inv (out t e) = simp e i
  tick_inv (last k l e) = simp e i
  tick_inv (plain k t l e) = simp (e, t) (record { range = advanced_ok c k (omega arith); rate = i.rate; remainder = i.remainder; kept = plain_kept c b i })
  tick_inv (rolls k t l s e) =
      simp (e, t)
      (record {
        range = rolled_ok (advanced c (micros_grown c - 1000000)) (advanced_ok c k (omega (arith, grown_most c k))) s;
        rate = refl;
        remainder = refl;
        kept = roll_kept c b i l;
      })

  set_inv : (s : ℕ) (u : AskedMicros) → SettingCase c s u → Inv (setting_of c s u).clock (call_book c (call.Setting s u) b)
  set_inv s u (refused n e h) = simp (e, not_zero n h) i
  set_inv s u (done k e) = simp e (set_to_inv c s u k)

  -- a request leaves time, share and frequency in force
  requested_inv : (r : Request) (o : Bool) → selects_offset r ≡ o → Ok (requested c r) → Inv (requested c r) (request_book r b)
  unfolding requested
  requested_inv r true t k = simp t (record { range = simp t at k; rate = i.rate; remainder = i.remainder; kept = i.kept })
  requested_inv r false t k = simp t (record { range = simp t at k; rate = i.rate; remainder = i.remainder; kept = i.kept })

  request_inv : (r : Request) → req.RequestCase c r → Inv (request_of c r).clock (call_book c (call.Request r) b)
  request_inv r (req.refused n e h) = simp (e, not_zero n h) i
  request_inv r (req.done a e) = simp e (requested_inv r (selects_offset r) refl (requested_ok c r a))

  pub step_inv : (e : Call) → Inv (next c e) (call_book c e b)
  step_inv call.Tick = tick_inv (tick_case c)
  step_inv (call.Setting s u) = set_inv s u (setting_case c s u)
  step_inv (call.Request r) = request_inv r (req.request_case c r)
  step_inv call.Reading = i

pub run_inv : (c : Clock) (b : Book) (es : List Call) → Inv c b → Inv (after c es) (book_from c b es)
unfolding after_by book_from
run_inv c b [] i = i
run_inv c b (e ∷ es) i = run_inv (next c e) (call_book c e b) es (step_inv c b i e)

-- the base alone is the adjustment of no share and no frequency, which leaves no remainder
base_rate : (d : Device) → d.base.0 ≡ adjustment_for d (pos 0) (pos 0)
base_rate d = eq_parts d.base.0 (adjustment_for d (pos 0) (pos 0)) (simp parts (omega (arith, zero-div d.divisor)))

none_left : (d : Device) → pos 0 ≡ rem_z (pos 0) (pos d.divisor)
none_left d = eq_parts (pos 0) (rem_z (pos 0) (pos d.divisor)) (simp parts (omega (arith, zero-mod d.divisor)))

pub fresh_inv : (kind : ℕ) → kind ≤ 1 → Inv (fresh_clock kind) empty_book
fresh_inv kind h =
    record { range = fresh_ok kind h; rate = base_rate (device_of kind); remainder = none_left (device_of kind); kept = record { eq = omega arith } }

-- the first call of a list is an accepted setting
first_set : (c : Clock) (s : ℕ) (u : AskedMicros) → SettingCase c s u → accepted c (call.Setting s u) ≡ true → Inv (setting_of c s u).clock (call_book c (call.Setting s u) empty_book)
first_set c s u (refused n e h) t = absurd (true≢false (sym t ∙ simp (e, not_zero n h)))
first_set c s u (done k e) t = simp e (set_to_inv c s u k)

pub run_set : (c : Clock) (s : ℕ) (u : AskedMicros) (es : List Call) → accepted c (call.Setting s u) ≡ true
    → Inv (after c (call.Setting s u ∷ es)) (book_from c empty_book (call.Setting s u ∷ es))
unfolding after_by book_from
run_set c s u es t = run_inv (next c (call.Setting s u)) (call_book c (call.Setting s u) empty_book) es (first_set c s u (setting_case c s u) t)
