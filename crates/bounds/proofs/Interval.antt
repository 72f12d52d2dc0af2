-- After every list of events the clock's earlier update is the one that its calls have led to: each call
-- keeps it so.
use mathlib.Core.Path.{◌≡◌, refl, ap, ◌∙◌}
use mathlib.Core.Bool.{Bool, true, false}
use mathlib.Core.List.{List, [], ◌∷◌}
use Prim.Native.Nat.{ℕ, ◌+◌}
use native.Mathlib.Omega.{arith}
use Rattle.state.specs.State.{fresh_clock, Update, update_of}
use Rattle.clock.specs.Rollover.{interval_grown, rolled_over}
use Rattle.clock.specs.Tick.{tick_of}
use Rattle.clock.specs.Setting.{setting_of}
use Rattle.state.specs.declared.state.Clock.{Clock}
use Rattle.state.specs.declared.units.AskedMicros.{AskedMicros}
use Rattle.clock.proofs.SettingCases.{SettingCase, refused, done, setting_case}
use Rattle.clock.proofs.TickCases.{TickCase, out, last, plain, rolls, tick_case}
use Rattle.request.specs.Request.{selects_offset, requested, request_of}
use Rattle.request.specs.declared.request.Request.{Request}
use Rattle.request.proofs.RequestCases as req
use Rattle.event.specs.declared.event.Call.{Call}
use Rattle.event.specs.declared.event.Call.TheVariants as call
use Rattle.bounds.specs.Calls.{next, after_by, after}
use Rattle.bounds.specs.Singly.{singly}
use Rattle.bounds.specs.Interval.{Since, no_offset, call_since, since_from, held_update, IntervalOfEveryList}
use Rattle.bounds.proofs.Exact.{not_zero}
use Rattle.bounds.proofs.Singly.{after_singly}

-- a rollover, of the update that is held
abbrev grown : Update → Update
grown u = record { updated = u.updated; interval = interval_grown u.updated u.interval }

held_grown : (offset : Bool) (n : ℕ) → grown (held_update (record { offset = offset; rollovers = n })) ≡ held_update (record { offset = offset; rollovers = n + 1 })
held_grown true n =
    let e : (grown (held_update (record { offset = true; rollovers = n }))).interval ≡ (held_update (record { offset = true; rollovers = n + 1 })).interval = omega arith in
    ap (λ (i : ℕ). record { updated = 1; interval = i }) e
held_grown false n = refl

module _ (c : Clock) (n : Since) (h : update_of c ≡ held_update n) where
  tick_held : TickCase c → update_of (tick_of c).clock ≡ held_update (call_since c call.Tick n)
  unfolding rolled_over
  tick_held (out t e) = simp e h
  tick_held (last k l e) = simp e h
  tick_held (plain k t l e) = simp (e, t) h
  tick_held (rolls k t l s e) = simp (e, t) (ap grown h ∙ held_grown n.offset n.rollovers)

  set_held : (s : ℕ) (u : AskedMicros) → SettingCase c s u → update_of (setting_of c s u).clock ≡ held_update (call_since c (call.Setting s u) n)
  set_held s u (refused m e z) = simp (e, not_zero m z) h
  set_held s u (done k e) = simp e refl

  requested_held : (r : Request) (o : Bool) → selects_offset r ≡ o → req.RequestCase c r → update_of (request_of c r).clock ≡ held_update (call_since c (call.Request r) n)
  unfolding requested
  requested_held r o t (req.refused m e z) = simp (e, not_zero m z) h
  requested_held r true t (req.done a e) = simp (e, t) refl
  requested_held r false t (req.done a e) = simp (e, t) h

  step_held : (e : Call) → update_of (next c e) ≡ held_update (call_since c e n)
  step_held call.Tick = tick_held (tick_case c)
  step_held (call.Setting s u) = set_held s u (setting_case c s u)
  step_held (call.Request r) = requested_held r (selects_offset r) refl (req.request_case c r)
  step_held call.Reading = h

pub run_held : (c : Clock) (n : Since) (es : List Call) → update_of c ≡ held_update n → update_of (after c es) ≡ held_update (since_from c n es)
unfolding after_by since_from
run_held c n [] h = h
run_held c n (e ∷ es) h = run_held (next c e) (call_since c e n) es (step_held c n h e)

pub interval : IntervalOfEveryList
interval kind events = rw (after_singly (fresh_clock kind) events) (run_held (fresh_clock kind) no_offset (singly kind events) refl)
