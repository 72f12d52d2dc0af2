-- The second bound: from one rollover to the next there are `rate` ticks, or one more or fewer, and all
-- shares of one offset have its sign, so that what an offset has moved the clock is within 1/rate of what has
-- been taken off it.
use mathlib.Core.Path.{◌≡◌, refl, sym, ap}
use mathlib.Core.Bool.{Bool, true, false}
use mathlib.Core.List.{List, [], ◌∷◌}
use Prim.Native.Nat.{ℕ, ◌+◌, ◌-◌, ◌*◌, ◌≤◌}
use native.Mathlib.Omega.{arith}
use native.Mathlib.Nat.{mul-le-mul_right, lt_of_mul-lt-mul_right}
use lib.IntN.{ℤ, pos, nat_abs, ◌+ℤ◌, ◌-ℤ◌, ◌*ℤ◌}
use Rattle.integers.proofs.Parts.{pos_part, neg_part, one_part, abs_parts}
use Rattle.integers.proofs.Linear.{Diff, self, lit, add, sub, times}
use Rattle.state.specs.Device.{device_of}
use Rattle.state.specs.State.{fresh_clock}
use Rattle.clock.specs.Rollover.{rolled_over, share, offset_left}
use Rattle.clock.specs.Tick.{tick_of, micros_grown, phase_left}
use Rattle.clock.specs.Setting.{setting_of}
use Rattle.state.specs.declared.device.Device.{Device}
use Rattle.state.specs.declared.state.Clock.{Clock}
use Rattle.state.specs.declared.units.AskedMicros.{AskedMicros}
use Rattle.state.proofs.Ok.{Ok}
use Rattle.clock.proofs.UnitLaws.{unit_parts}
use Rattle.clock.proofs.RollLaws.{rest_pos_part, rest_neg_part}
use Rattle.clock.proofs.SettingCases.{SettingCase, refused, done, setting_case}
use Rattle.clock.proofs.TickCases.{TickCase, out, last, plain, rolls, tick_case}
use Rattle.clock.proofs.TickLaws.{grown_eq, grown_most, left_parts}
use Rattle.request.specs.Request.{selects_offset, requested, request_of}
use Rattle.request.specs.declared.request.Request.{Request}
use Rattle.request.proofs.RequestCases as req
use Rattle.event.specs.declared.event.Call.{Call}
use Rattle.event.specs.declared.event.Call.TheVariants as call
use Rattle.bounds.specs.Calls.{next, after_by, after}
use Rattle.bounds.specs.Measure.{measure_of}
use Rattle.bounds.specs.Book.{Book, empty_book, request_book, call_book, book_from}
use Rattle.bounds.specs.Demand.{taken_off, MovedAsTaken}
use Rattle.bounds.proofs.MeasureLaws.{shortest, longest, measured}
use Rattle.bounds.proofs.Exact.{Inv, left_diff, step_inv, not_zero}

-- The time since the last rollover after j ticks: at least j of the shortest, at most j of the longest (phase
-- units).
pub record Count (d : Device) (us : ℕ) (p : ℤ) (j : ℕ) : Type 0 where
  pub low : j * shortest d + neg_part p ≤ us * 268435456 + pos_part p + 268435456
  pub high : us * 268435456 + pos_part p ≤ 268435456 * (d.tick.0 + 2) + j * longest d + neg_part p

-- the device of a clock
abbrev pub device : Clock → Device
device c = device_of c.kind

module _ (c : Clock) (k : Ok c) (j : ℕ) where
  pub count_step : Count (device c) c.micros.0 c.phase.0 j → Count (device c) (micros_grown c) (phase_left c) (j + 1)
  count_step h =
      let t = measured c.kind in
      record {
        low = omega (arith, (left_diff c).eq, grown_eq c k, k.adjustment, unit_parts c k, t.short, h);
        high = omega (arith, (left_diff c).eq, grown_eq c k, k.adjustment, unit_parts c k, t.long, h);
      }

  -- at least rate - 1 ticks
  pub ticks_least : Count (device c) c.micros.0 c.phase.0 j → 1000000 ≤ micros_grown c → (device c).rate ≤ j + 2
  ticks_least h l =
      let m = lt_of_mul-lt-mul_right (longest (device c)) {m = (device c).rate} {n = j + 3} (omega (arith, (count_step h).high, left_parts c k, (measured c.kind).fewest)) in
      omega (arith, m)

  -- at most rate + 1
  pub ticks_most : Count (device c) c.micros.0 c.phase.0 j → j ≤ (device c).rate
  ticks_most h =
      let m = lt_of_mul-lt-mul_right (shortest (device c)) {m = j} {n = (device c).rate + 1} (omega (arith, h.low, k.phase, k.micros, (measured c.kind).mostly)) in
      omega (arith, m)

pub count_start_lem : (c : Clock) → Ok c → 1000000 ≤ micros_grown c → Count (device c) (micros_grown c - 1000000) (phase_left c) 0
count_start_lem c k l = record { low = omega (arith, left_parts c k); high = omega (arith, left_parts c k, grown_most c k) }

-- One sign of an offset at rate r: a asked, l left, o the own share, m moved after j ticks since the last
-- rollover; `old` is what earlier shares took.
pub record Side (r a l o j m : ℕ) : Type 0 where
  pub old : ℕ
  pub whole : old + o + l ≡ a
  pub high : m ≤ r * old + old + j * o
  pub low : r * old + j * o ≤ m + old

side_start : (r a : ℕ) → Side r a a 0 0 0
side_start r a = record { old = 0; whole = omega arith; high = omega arith; low = omega arith }

side_tick : {r a l o j m : ℕ} → Side r a l o j m → Side r a l o (j + 1) (m + o)
side_tick s = record { old = s.old; whole = s.whole; high = omega (arith, s.high); low = omega (arith, s.low) }

-- the own share was in force for rate - 1 to rate + 1 ticks, or is 0
record Ticks (r o j : ℕ) : Type 0 where
  pub least : r * o ≤ (j + 2) * o
  pub most : j * o ≤ r * o

side_paid : {r a l o j m : ℕ} → Side r a l o j m → Ticks r o j → (m + o + (r + 1) * l ≤ (r + 1) * a) × (r * a + l ≤ m + o + r * l + a)
side_paid {r} s t = omega (arith, s.whole, ap (λ (x : ℕ). r * x) s.whole, s.high, s.low, t.least, t.most)

side_roll : {r a l o j m : ℕ} (l' o' : ℕ) → o' + l' ≡ l → Ticks r o j → Side r a l o j m → Side r a l' o' 0 (m + o)
side_roll {o = o} l' o' e t s =
    record {
      old = s.old + o;
      whole = omega (arith, s.whole);
      high = omega (arith, s.high, t.most);
      low = omega (arith, s.low, t.least);
    }

-- no own share since the last offset request or setting, or a count of ticks since the last rollover
pub data Pace (d : Device) (us : ℕ) (p own : ℤ) (j : ℕ) : Type 0 where
  idle : pos_part own ≡ 0 → neg_part own ≡ 0 → Pace d us p own j
  counted : Count d us p j → Pace d us p own j

pub record Paid (c : Clock) (b : Book) : Type 0 where
  pub j : ℕ
  pub m_p : ℕ
  pub m_n : ℕ
  pub moved : Diff b.moved m_p m_n
  pub P : Side (device c).rate (pos_part b.asked) (pos_part c.offset.0) (pos_part b.own_share) j m_p
  pub N : Side (device c).rate (neg_part b.asked) (neg_part c.offset.0) (neg_part b.own_share) j m_n
  pub pace : Pace (device c) c.micros.0 c.phase.0 b.own_share j

idle_ticks : (r o j : ℕ) → o ≡ 0 → Ticks r o j
idle_ticks r o j e = record { least = rw e (omega arith); most = rw e (omega arith) }

module _ (c : Clock) (b : Book) (i : Inv c b) where
  counted_ticks : (o j : ℕ) → Count (device c) c.micros.0 c.phase.0 j → 1000000 ≤ micros_grown c → Ticks (device c).rate o j
  counted_ticks o j h l = record { least = mul-le-mul_right o (ticks_least c i.range j h l); most = mul-le-mul_right o (ticks_most c i.range j h) }

  -- of either part of the own share, which is 0 where there is none
  ticks_of_lem : {o : ℕ} (j : ℕ) → Pace (device c) c.micros.0 c.phase.0 b.own_share j
      → (pos_part b.own_share ≡ 0 → neg_part b.own_share ≡ 0 → o ≡ 0) → 1000000 ≤ micros_grown c → Ticks (device c).rate o j
  ticks_of_lem j (idle p n) none l = idle_ticks _ _ j (none p n)
  ticks_of_lem j (counted h) none l = counted_ticks _ j h l

  pace_tick : (j : ℕ) → Pace (device c) c.micros.0 c.phase.0 b.own_share j → Pace (device c) (micros_grown c) (phase_left c) b.own_share (j + 1)
  pace_tick j (idle p n) = idle p n
  pace_tick j (counted h) = counted (count_step c i.range j h)

  tick_paid : TickCase c → Paid c b → Paid (tick_of c).clock (call_book c call.Tick b)
  unfolding rolled_over
  tick_paid (out t e) p = simp e p
  tick_paid (last k l e) p = simp e p
  tick_paid (plain k t l e) p =
      simp (e, t)
      (record {
        j = p.j + 1;
        m_p = p.m_p + pos_part b.own_share;
        m_n = p.m_n + neg_part b.own_share;
        moved = add p.moved (self b.own_share);
        P = side_tick p.P;
        N = side_tick p.N;
        pace = pace_tick p.j p.pace;
      })
  tick_paid (rolls k t l s e) p =
      simp (e, t)
      (record {
        j = 0;
        m_p = p.m_p + pos_part b.own_share;
        m_n = p.m_n + neg_part b.own_share;
        moved = add p.moved (self b.own_share);
        P = side_roll (pos_part (offset_left c)) (pos_part (share c)) (rest_pos_part c k) (ticks_of_lem p.j p.pace (λ zero _. zero) l) p.P;
        N = side_roll (neg_part (offset_left c)) (neg_part (share c)) (rest_neg_part c k) (ticks_of_lem p.j p.pace (λ _ zero. zero) l) p.N;
        pace = counted (count_start_lem c k l);
      })

  set_paid : (s : ℕ) (u : AskedMicros) → SettingCase c s u → Paid c b → Paid (setting_of c s u).clock (call_book c (call.Setting s u) b)
  set_paid s u (refused n e h) p = simp (e, not_zero n h) p
  set_paid s u (done k e) p = simp e (record { j = 0; m_p = 0; m_n = 0; moved = lit 0; P = side_start _ 0; N = side_start _ 0; pace = idle refl refl })

  requested_paid : (r : Request) (o : Bool) → selects_offset r ≡ o → Paid c b → Paid (requested c r) (request_book r b)
  unfolding requested
  requested_paid r true t p =
      simp t
      (record {
        j = 0;
        m_p = 0;
        m_n = 0;
        moved = lit 0;
        P = side_start _ (pos_part (r.offset.0 *ℤ pos 16384));
        N = side_start _ (neg_part (r.offset.0 *ℤ pos 16384));
        pace = idle refl refl;
      })
  requested_paid r false t p = simp t (record { j = p.j; m_p = p.m_p; m_n = p.m_n; moved = p.moved; P = p.P; N = p.N; pace = p.pace })

  request_paid : (r : Request) → req.RequestCase c r → Paid c b → Paid (request_of c r).clock (call_book c (call.Request r) b)
  request_paid r (req.refused n e h) p = simp (e, not_zero n h) p
  request_paid r (req.done a e) p = simp e (requested_paid r (selects_offset r) refl p)

  step_paid : (e : Call) → Paid c b → Paid (next c e) (call_book c e b)
  step_paid call.Tick p = tick_paid (tick_case c) p
  step_paid (call.Setting s u) p = set_paid s u (setting_case c s u) p
  step_paid (call.Request r) p = request_paid r (req.request_case c r) p
  step_paid call.Reading p = p

  -- at a rollover
  paid_by_rate : Paid c b → 1000000 ≤ micros_grown c
      → nat_abs ((b.moved +ℤ b.own_share) -ℤ pos (device c).rate *ℤ taken_off c b) ≤ nat_abs (taken_off c b)
  paid_by_rate p l =
      let t = taken_off c b in
      let z = (b.moved +ℤ b.own_share) -ℤ pos (device c).rate *ℤ t in
      let dt = sub (self b.asked) (self c.offset.0) in
      let dz = sub (add p.moved (self b.own_share)) (times (device c).rate dt) in
      let u = side_paid p.P (ticks_of_lem p.j p.pace (λ zero _. zero) l) in
      let v = side_paid p.N (ticks_of_lem p.j p.pace (λ _ zero. zero) l) in
      omega (arith, abs_parts z, abs_parts t, dz.eq, dt.eq, u, v, p.P.whole, p.N.whole, one_part z, one_part t, one_part b.asked)

  pub paid_bound : Paid c b → 1000000 ≤ micros_grown c → MovedAsTaken (measure_of c.kind) (b.moved +ℤ b.own_share) (taken_off c b)
  paid_bound p l =
      let h = rw (sym (measured c.kind).parts) at (paid_by_rate p l) in
      omega (arith, h)

pub run_paid : (c : Clock) (b : Book) (es : List Call) → Inv c b → Paid c b → Paid (after c es) (book_from c b es)
unfolding after_by book_from
run_paid c b [] i p = p
run_paid c b (e ∷ es) i p = run_paid (next c e) (call_book c e b) es (step_inv c b i e) (step_paid c b i e p)

pub fresh_paid : (kind : ℕ) → Paid (fresh_clock kind) empty_book
fresh_paid kind = record { j = 0; m_p = 0; m_n = 0; moved = lit 0; P = side_start _ 0; N = side_start _ 0; pace = idle refl refl }
