-- The third bound: an accepted tick adds at least the least of its device, and no other call but a setting
-- moves the time.
use mathlib.Core.Path.{◌≡◌, sym, ◌∙◌}
use mathlib.Core.Bool.{true, false, not, cond, true≢false}
use mathlib.Core.List.{List, [], ◌∷◌}
use Prim.Native.Nat.{ℕ, ◌+◌, ◌*◌, ◌≤◌}
use native.Mathlib.Omega.{arith}
use borrow.Author.Tests.{not-true}
use Rattle.integers.proofs.Parts.{neg_part, one_part, neg_part_quot}
use Rattle.integers.proofs.Linear.{self, add}
use Rattle.integers.proofs.Ranges.{and_true}
use Rattle.state.specs.Device.{device_of}
use Rattle.clock.specs.Rollover.{rolled_over, inserts, leap_seconds}
use Rattle.clock.specs.Tick.{tick_of, unit_reached, phase_sum, carry, micros_grown}
use Rattle.clock.specs.Setting.{setting_of}
use Rattle.state.specs.declared.state.Clock.{Clock}
use Rattle.state.specs.declared.units.AskedMicros.{AskedMicros}
use Rattle.state.proofs.Ok.{Ok}
use Rattle.clock.proofs.RollLaws.{LeapCase, ins, del, none, leap_case}
use Rattle.clock.proofs.SettingCases.{SettingCase, refused, done, setting_case}
use Rattle.clock.proofs.TickCases.{TickCase, out, last, plain, rolls, tick_case}
use Rattle.clock.proofs.UnitLaws.{unit_parts}
use Rattle.clock.proofs.TickLaws.{grown_eq}
use Rattle.request.specs.Request.{requested, request_of}
use Rattle.request.specs.declared.request.Request.{Request}
use Rattle.request.proofs.RequestCases as req
use Rattle.event.specs.declared.event.Call.{Call}
use Rattle.event.specs.declared.event.Call.TheVariants as call
use Rattle.bounds.specs.Calls.{next, after_by, after, ticks, count_among_by, none_among_by, sets_or_inserts, ticks_among, neither_set_nor_inserted}
use Rattle.bounds.specs.Book.{Book, call_book}
use Rattle.bounds.specs.Measure.{measure_of}
use Rattle.bounds.proofs.Runs.{next_kind}
use Rattle.bounds.proofs.MeasureLaws.{measured}
use Rattle.bounds.proofs.Exact.{told, Inv, step_inv}

-- with no inserted second, a rollover does not lose one
leap_least : (status s : ℕ) → LeapCase status s → inserts status s ≡ false → s ≤ leap_seconds status s
leap_least status s (ins e) h = absurd (true≢false (sym e ∙ h))
leap_least status s (del e f) h = simp (e, f) (omega arith)
leap_least status s (none e f) h = simp (e, f) (omega arith)

module _ (c : Clock) (k : Ok c) where
  -- what a tick takes back of its own microseconds
  carry_least : (measure_of c.kind).least + neg_part (carry c) ≤ (device_of c.kind).tick.0
  carry_least =
      let e = add (add (self c.phase.0) (self c.adjustment.0)) (self (unit_reached c)) in
      rw neg_part_quot (omega (arith, e.eq, one_part (phase_sum c), unit_parts c k, k.adjustment.low, (measured c.kind).short, (measured c.kind).forward))

  -- the least that a tick adds
  grown_least : c.micros.0 + (measure_of c.kind).least ≤ micros_grown c
  grown_least = omega (arith, grown_eq c k, carry_least)

  tick_forward : TickCase c → sets_or_inserts c call.Tick ≡ false → told c + (measure_of c.kind).least * cond (ticks c call.Tick) 1 0 ≤ told (tick_of c).clock
  unfolding rolled_over
  tick_forward (out t e) h = simp e (omega arith)
  tick_forward (last k l e) h = simp e (omega arith)
  tick_forward (plain k t l e) h = simp e (omega (arith, grown_least))
  tick_forward (rolls k t l s e) h =
      let i : inserts c.status (c.seconds + 1) ≡ false = simp (e, t) at h in
      simp e (omega (arith, grown_least, leap_least c.status (c.seconds + 1) (leap_case c.status (c.seconds + 1)) i))

  set_forward : (s : ℕ) (u : AskedMicros) → SettingCase c s u → sets_or_inserts c (call.Setting s u) ≡ false → told c + (measure_of c.kind).least * 0 ≤ told (setting_of c s u).clock
  set_forward s u (refused n e p) h = simp e (omega arith)
  set_forward s u (done o e) h = absurd (true≢false (simp e at h))

  request_forward : (r : Request) → req.RequestCase c r → told c + (measure_of c.kind).least * 0 ≤ told (request_of c r).clock
  unfolding requested
  request_forward r (req.refused n e p) = simp e (omega arith)
  request_forward r (req.done a e) = simp e (omega arith)

  step_forward : (e : Call) → sets_or_inserts c e ≡ false → told c + (measure_of c.kind).least * cond (ticks c e) 1 0 ≤ told (next c e)
  step_forward call.Tick h = tick_forward (tick_case c) h
  step_forward (call.Setting s u) h = set_forward s u (setting_case c s u) h
  step_forward (call.Request r) h = request_forward r (req.request_case c r)
  step_forward call.Reading h = omega arith

pub forward : (c : Clock) (b : Book) (es : List Call) → Inv c b → neither_set_nor_inserted c es ≡ true → told c + (measure_of c.kind).least * ticks_among c es ≤ told (after c es)
unfolding after_by none_among_by count_among_by
forward c b [] i h = omega arith
forward c b (e ∷ es) i h =
    let p = and_true (not (sets_or_inserts c e)) (neither_set_nor_inserted (next c e) es) h in
    let one = step_forward c i.range e (not-true (sets_or_inserts c e) p.0) in
    let rest = rw (next_kind c e) at (forward (next c e) (call_book c e b) es (step_inv c b i e) p.1) in
    omega (arith, one, rest)
