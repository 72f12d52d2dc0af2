-- Demand 3 holds of every list of events: the invariants of its single calls are those of its clock and book.
-- And nothing of the time is lost.
use mathlib.Core.Path.{◌≡◌, ap, subst}
use mathlib.Core.Bool.{true}
use mathlib.Core.List.{List, [], ◌∷◌, ◌++◌}
use Prim.Native.Nat.{ℕ, ◌+◌, ◌*◌, ◌/◌, ◌≤◌}
use native.Mathlib.Omega.{arith}
use native.Mathlib.Nat.{mul-le-mul_left}
use borrow.Author.Tests.{leb-true}
use lib.IntN.{pos, ◌+ℤ◌, ◌-ℤ◌}
use Rattle.integers.proofs.Parts.{pos_part, neg_part, one_part, abs_parts}
use Rattle.integers.proofs.Linear.{self, lit, add, sub, times}
use Rattle.integers.proofs.Carrying.{same}
use Rattle.integers.proofs.Ranges.{and_true}
use Rattle.state.specs.Device.{kind_range}
use Rattle.state.specs.State.{fresh_clock}
use Rattle.clock.specs.Tick.{rolls_over}
use Rattle.state.specs.declared.state.Clock.{Clock}
use Rattle.state.specs.declared.units.AskedMicros.{AskedMicros}
use Rattle.event.specs.Event.{step_of}
use Rattle.event.specs.declared.event.Call.TheVariants.{Tick, Setting, Reading}
use Rattle.event.specs.declared.event.Event.{Event}
use Rattle.event.specs.declared.event.Event.TheVariants.{Call}
use Rattle.bounds.specs.Calls.{next, after, clock_after, clock_from, accepted, ticks_among}
use Rattle.bounds.specs.Singly.{single_ticks, singly_from, singly, as_events}
use Rattle.bounds.specs.Measure.{measure_of}
use Rattle.bounds.specs.Book.{Book, empty_book, book_from}
use Rattle.bounds.specs.Demand.{book_on, book_of, NearExact, FirstBound, AtRollover, SecondBound, ThirdBound, Demand3OfEveryList}
use Rattle.bounds.specs.Lossless.{held_time, WithinMicro, NothingLost, NothingLostInEveryList}
use Rattle.bounds.proofs.Runs.{after_kind, read_ok}
use Rattle.bounds.proofs.MeasureLaws.{measured}
use Rattle.bounds.proofs.Singly.{after_singly, clock_last, clock_then, book_last}
use Rattle.bounds.proofs.Exact.{told, per_phase, Inv, run_inv, run_set, fresh_inv}
use Rattle.bounds.proofs.Moved.{Paid, run_paid, fresh_paid, paid_bound}
use Rattle.bounds.proofs.Forward.{forward}

module _ (kind : ℕ) (h : kind_range kind ≡ true) where
  started : Inv (fresh_clock kind) empty_book
  started = fresh_inv kind (leb-true _ _ h)

  inv : (events : List Event) → Inv (clock_after kind events) (book_of kind events)
  inv events = rw (after_singly (fresh_clock kind) events) (run_inv (fresh_clock kind) empty_book (singly kind events) started)

  paid : (events : List Event) → Paid (clock_after kind events) (book_of kind events)
  paid events = rw (after_singly (fresh_clock kind) events) (run_paid (fresh_clock kind) empty_book (singly kind events) started (fresh_paid kind))

-- a list that begins with an accepted setting
set_inv : (start : Clock) (s : ℕ) (u : AskedMicros) (events : List Event) → accepted start (Setting s u) ≡ true
    → Inv (clock_from start (Call (Setting s u) ∷ events)) (book_on start (Call (Setting s u) ∷ events))
unfolding singly_from
set_inv start s u events t =
    rw (after_singly start (Call (Setting s u) ∷ events)) (run_set start s u (singly_from (next start (Setting s u)) events) t)

clock_kind : (start : Clock) (events : List Event) → (clock_from start events).kind ≡ start.kind
clock_kind start events = rw (after_singly start events) (after_kind start (singly_from start events))

-- The clock's time without its phase and its leftover, both of which together are less than a microsecond.
module _ (c : Clock) (b : Book) (i : Inv c b) where
  abbrev per_micro : ℕ
  per_micro = (measure_of c.kind).per_micro

  below : WithinMicro (measure_of c.kind) (told c) b
  below =
      let m = measured c.kind in
      let d = add (lit (268435456 * told c)) (self c.phase.0) in
      let z = pos (per_micro * told c) -ℤ b.exact in
      let dz = sub (lit (per_micro * told c)) (self b.exact) in
      let p = mul-le-mul_left (per_phase c) i.range.phase.0 in
      let n = mul-le-mul_left (per_phase c) i.range.phase.1 in
      let r = ap (λ (x : ℕ). x * told c) m.per_micro in
      omega (arith, abs_parts z, dz.eq, one_part z, ap (λ (x : ℕ). per_phase c * x) d.eq, i.kept.eq, p, n, r, m.per_micro, i.range.leftover)

  near : NearExact (measure_of c.kind) (told c) b
  near = omega (arith, below)

  held : held_time c ≡ b.exact
  held =
      let m = measured c.kind in
      let u : per_micro / 268435456 ≡ per_phase c = omega (arith, m.per_micro) in
      let d = add (lit (268435456 * told c)) (self c.phase.0) in
      let r = ap (λ (x : ℕ). x * told c) m.per_micro in
      same (add (add (lit (per_micro * told c)) (times (per_micro / 268435456) (self c.phase.0))) (self _)) (self b.exact)
      (omega (arith, i.kept.eq, ap (λ (x : ℕ). per_phase c * x) d.eq, r, ap (λ (x : ℕ). x * pos_part c.phase.0) u, ap (λ (x : ℕ). x * neg_part c.phase.0) u))

module _ (start : Clock) (events : List Event) (i : Inv (clock_from start events) (book_on start events)) where
  abbrev last : Clock
  last = clock_from start events

  first_from : FirstBound step_of start events
  first_from =
      let r = read_ok last i.range in
      record { accepted = simp r; near = simp r (rw (clock_kind start events) at (near last (book_on start events) i)) }

  lossless : NothingLost step_of start events
  lossless =
      let r = read_ok last i.range in
      record { held = held last (book_on start events) i; near = simp r (rw (clock_kind start events) at (below last (book_on start events) i)) }

module _ (kind : ℕ) (h : kind_range kind ≡ true) where
  -- a tick that rolls over adds the own share to what is moved
  moved_at : (before : List Event) → accepted (clock_after kind before) Tick ≡ true → rolls_over (clock_after kind before) ≡ true
      → (book_of kind (before ++ (Call Tick ∷ []))).moved ≡ (book_of kind before).moved +ℤ (book_of kind before).own_share
  unfolding book_from
  moved_at before a o = rw (book_last (fresh_clock kind) before (Call Tick)) (simp (a, o))

  at_rollover_lem : (before : List Event) → AtRollover step_of kind before
  at_rollover_lem before r =
      let c = clock_after kind before in
      let b = book_of kind before in
      let p = and_true (accepted c Tick) (rolls_over c) r in
      rw (moved_at before p.0 p.1) (rw (clock_kind (fresh_clock kind) before) at (paid_bound c b (inv kind h before) (paid kind h before) (leb-true _ _ p.1)))

  second : (events : List Event) → SecondBound step_of kind events
  second events =
      record {
        single = λ before later e. at_rollover_lem before;
        within = λ before later ceiling stop e j l. at_rollover_lem (before ++ as_events (single_ticks j));
      }

  third : (events : List Event) → ThirdBound step_of kind events
  third events before between later e u =
      let c = clock_after kind before in
      let es = singly_from c between in
      -- a reading hands back the clock that it got
      let q : clock_after kind (before ++ (Call Reading ∷ [])) ≡ c = clock_last (fresh_clock kind) before (Call Reading) in
      let t : clock_after kind (before ++ (Call Reading ∷ between)) ≡ after c es = clock_then (fresh_clock kind) before (Call Reading) between in
      let r = read_ok c (inv kind h before).range in
      let s = read_ok (after c es) (rw t at (inv kind h (before ++ (Call Reading ∷ between))).range) in
      let f = forward c (book_of kind before) es (inv kind h before) (rw q at u) in
      simp (q, t, r, s) (subst (λ (k : ℕ). told c + (measure_of k).least * ticks_among c es ≤ told (after c es)) (clock_kind (fresh_clock kind) before) f)

pub demand3 : Demand3OfEveryList
demand3 =
    record {
      fresh = λ kind h events.
          record { first = first_from (fresh_clock kind) events (inv kind h events); second = second kind h events; third = third kind h events };
      set = λ start s u events t. first_from start (Call (Setting s u) ∷ events) (set_inv start s u events t);
    }

pub nothing_lost : NothingLostInEveryList
nothing_lost =
    record {
      fresh = λ kind h events. lossless (fresh_clock kind) events (inv kind h events);
      set = λ start s u events t. lossless start (Call (Setting s u) ∷ events) (set_inv start s u events t);
    }
