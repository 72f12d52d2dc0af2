-- From one rollover to the next: the time since the last one bounds the number of ticks, at every call
-- between.
use mathlib.Core.Path.{◌≡◌, sym, ◌∙◌}
use mathlib.Core.Bool.{true, false, not, cond, true≢false}
use mathlib.Core.List.{List, [], ◌∷◌}
use Prim.Native.Nat.{ℕ, ◌+◌, ◌-◌, ◌≤◌}
use native.Mathlib.Omega.{arith}
use borrow.Author.Tests.{not-true}
use Rattle.integers.proofs.Ranges.{and_true}
use Rattle.clock.specs.Rollover.{rolled_over}
use Rattle.clock.specs.Tick.{tick_of, advanced, micros_grown}
use Rattle.clock.specs.Setting.{setting_of}
use Rattle.state.specs.declared.state.Clock.{Clock}
use Rattle.state.specs.declared.units.AskedMicros.{AskedMicros}
use Rattle.state.proofs.Ok.{Ok}
use Rattle.clock.proofs.RollLaws.{rolled_ok}
use Rattle.clock.proofs.SettingCases.{SettingCase, refused, done, setting_case}
use Rattle.clock.proofs.TickCases.{TickCase, out, last, plain, rolls, tick_case}
use Rattle.clock.proofs.TickLaws.{grown_most, advanced_ok}
use Rattle.request.specs.Request.{requested, request_of}
use Rattle.request.specs.declared.request.Request.{Request}
use Rattle.request.proofs.Accepted.{requested_ok}
use Rattle.request.proofs.RequestCases as req
use Rattle.event.specs.declared.event.Call.{Call}
use Rattle.event.specs.declared.event.Call.TheVariants as call
use Rattle.bounds.specs.Calls.{next, after_by, after, ticks, count_among_by, none_among, none_among_by, ticks_among}
use Rattle.bounds.specs.Calls as calls
use Rattle.bounds.specs.Seconds.{sets_or_rolls, TicksOfASecond}
use Rattle.bounds.proofs.Runs.{after_kind, next_kind}
use Rattle.bounds.proofs.Moved.{device, Count, count_step, count_start_lem, ticks_least, ticks_most}

-- j ticks since the last rollover
record Since (c : Clock) (j : ℕ) : Type 0 where
  range : Ok c
  count : Count (device c) c.micros.0 c.phase.0 j

as_many : {c : Clock} {i j : ℕ} → i ≡ j → Since c i → Since c j
as_many e s = rw e at s

module _ (c : Clock) (j : ℕ) (s : Since c j) where
  tick_since : TickCase c → sets_or_rolls c call.Tick ≡ false → Since (tick_of c).clock (cond (ticks c call.Tick) 1 0 + j)
  tick_since (out t e) h = simp e (as_many (omega arith) s)
  tick_since (last k l e) h = simp e (as_many (omega arith) s)
  tick_since (plain k t l e) h = simp e (as_many {i = j + 1} (omega arith) (record { range = advanced_ok c k (omega arith); count = count_step c k j s.count }))
  tick_since (rolls k t l b e) h = absurd (true≢false (simp (e, t) at h))

  set_since : (t : ℕ) (u : AskedMicros) → SettingCase c t u → sets_or_rolls c (call.Setting t u) ≡ false → Since (setting_of c t u).clock j
  set_since t u (refused n e z) h = simp e s
  set_since t u (done k e) h = absurd (true≢false (simp e at h))

  request_since : (r : Request) → req.RequestCase c r → Since (request_of c r).clock j
  unfolding requested
  request_since r (req.refused n e z) = simp e s
  request_since r (req.done a e) = simp e (record { range = requested_ok c r a; count = s.count })

  step_since : (e : Call) → sets_or_rolls c e ≡ false → Since (next c e) (cond (ticks c e) 1 0 + j)
  step_since call.Tick h = tick_since (tick_case c) h
  step_since (call.Setting t u) h = as_many (omega arith) (set_since t u (setting_case c t u) h)
  step_since (call.Request r) h = as_many (omega arith) (request_since r (req.request_case c r))
  step_since call.Reading h = as_many (omega arith) s

run_since : (c : Clock) (j : ℕ) (es : List Call) → Since c j → none_among sets_or_rolls c es ≡ true → Since (after c es) (ticks_among c es + j)
unfolding after_by none_among_by count_among_by
run_since c j [] s h = as_many (omega arith) s
run_since c j (e ∷ es) s h =
    let p = and_true (not (sets_or_rolls c e)) (none_among sets_or_rolls (next c e) es) h in
    let r = run_since (next c e) (cond (ticks c e) 1 0 + j) es (step_since c j s e (not-true (sets_or_rolls c e) p.0)) p.1 in
    as_many (omega arith) r

-- a tick that rolls over begins the second, and ends it
module _ (c : Clock) where
  begins : TickCase c → calls.rolls c call.Tick ≡ true → Since (tick_of c).clock 0
  unfolding rolled_over
  begins (out t e) h = absurd (true≢false (sym (simp e at h)))
  begins (last k l e) h = absurd (true≢false (sym (simp e at h)))
  begins (plain k t l e) h = absurd (true≢false (sym (simp (e, t) at h)))
  begins (rolls k t l b e) h =
      simp e (record { range = rolled_ok (advanced c (micros_grown c - 1000000)) (advanced_ok c k (omega (arith, grown_most c k))) b; count = count_start_lem c k l })

  ends : TickCase c → calls.rolls c call.Tick ≡ true → 1000000 ≤ micros_grown c
  ends (out t e) h = absurd (true≢false (sym (simp e at h)))
  ends (last k l e) h = absurd (true≢false (sym (simp e at h)))
  ends (plain k t l e) h = absurd (true≢false (sym (simp (e, t) at h)))
  ends (rolls k t l b e) h = l

pub ticks_of_a_second : TicksOfASecond
ticks_of_a_second c between t u v =
    let d = next c call.Tick in
    let last = after d between in
    let s = run_since d 0 between (begins c (tick_case c) t) u in
    let low = ticks_least last s.range _ s.count (ends last (tick_case last) v) in
    let high = ticks_most last s.range _ s.count in
    let same : last.kind ≡ c.kind = after_kind d between ∙ next_kind c call.Tick in
    record { least = omega (arith, rw same at low); most = omega (arith, rw same at high) }
