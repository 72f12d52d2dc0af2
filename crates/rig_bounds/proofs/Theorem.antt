-- Demand 3 on a rig, from demand 3 of every list: each call is a call on a clock by itself.
use Prim.Native.Nat.{ℕ, ◌+◌, ◌*◌, ◌≤◌}
use mathlib.Core.Path.{◌≡◌, refl, sym, ◌∙◌, ap, subst}
use mathlib.Core.Bool.{Bool, true, false, ◌&&◌, cond}
use mathlib.Core.List.{List, [], ◌∷◌, ◌++◌, append_assoc}
use native.Mathlib.Omega.{arith}
use lib.Dec.{eqb}
use lib.ListN.{length}
use borrow.Author.Tests.{eqb-true, eqb-false}
use Rattle.integers.proofs.Ranges.{and_true}
use Rattle.state.specs.Device.{kind_range}
use Rattle.state.specs.State.{fresh_clock}
use Rattle.state.specs.declared.state.Clock.{Clock}
use Rattle.event.specs.Event.{step_of}
use Rattle.event.specs.declared.event.Call.TheVariants.{Tick, Reading}
use Rattle.event.specs.declared.event.Event.{Event}
use Rattle.event.specs.declared.event.Event.TheVariants.{Call}
use Rattle.bounds.specs.Calls.{after_by, clock_from, clock_after, ticks_among, neither_set_nor_inserted}
use Rattle.bounds.specs.Singly.{singly_from}
use Rattle.bounds.specs.Measure.{measure_of}
use Rattle.bounds.specs.Demand.{tells, book_of, taken_off, NearExact, MovedAsTaken, GoneForward, FirstBound}
use Rattle.bounds.proofs.Runs.{after_append}
use Rattle.bounds.proofs.Theorem.{demand3}
use Rattle.rig.specs.Rig.{table_refusal, clock_at, answered}
use Rattle.rig.specs.OneClock.{the_rig}
use Rattle.rig.specs.declared.rig.Answer.{Answer}
use Rattle.rig.proofs.OneClock.{answer_passed, next_passed, table_kept, others_always_stay}
use Rattle.rig_bounds.specs.Demand.{RigCall, rig_answer, table_after, clock_before, clock_behind}
use Rattle.rig_bounds.specs.Demand.{reaches, own_events, OnlyTheseChange, AsAlone, Each, EachAsAlone}
use Rattle.rig_bounds.specs.Demand.{ReadingOf, ReadingAccepted, ReadingsNear, MovedAtRollover}
use Rattle.rig_bounds.specs.Demand.{ReadingsForward, Demand3OfEveryRig, calls_in_turn, OneTable}

-- ---- one call

module _ (k : RigCall) where
  abbrev passed : Bool
  passed = eqb (table_refusal (length k.table) k.place) 0

  -- the clock that it leaves, by whether it reaches the clock
  next_by : (named passes : Bool) → eqb k.place k.at ≡ named → passed ≡ passes → clock_behind the_rig k ≡ cond (named && passes) (step_of (clock_before k) k.event).clock (clock_before k)
  next_by true true e t =
      let p : k.place ≡ k.at = eqb-true _ _ e in
      subst (λ (n : ℕ). clock_at (table_after the_rig k) n ≡ (step_of (clock_at k.table n) k.event).clock) p (next_passed k.table k.place k.event t)
  next_by true false e t = ap (λ (cs : List Clock). clock_at cs k.at) (table_kept k.table k.place k.event t)
  next_by false passes e t = (others_always_stay k.table k.place k.event).others k.at (λ q. eqb-false _ _ e (sym q))

  next_is : clock_behind the_rig k ≡ cond (reaches k) (step_of (clock_before k) k.event).clock (clock_before k)
  next_is = next_by (eqb k.place k.at) passed refl refl

  -- and so the clock after its own event, or none
  after_one : (z : Bool) → reaches k ≡ z → (c : Clock) → clock_before k ≡ c → (ks : List RigCall) → clock_from (clock_behind the_rig k) (own_events ks) ≡ clock_from c (own_events (k ∷ ks))
  unfolding own_events after_by
  after_one true t c p ks = simp t (ap (λ (d : Clock). clock_from d (own_events ks)) (next_is ∙ simp t (ap (λ (d : Clock). (step_of d k.event).clock) p)))
  after_one false t c p ks = simp t (ap (λ (d : Clock). clock_from d (own_events ks)) (next_is ∙ simp t p))

  answer_is : (c : Clock) → clock_before k ≡ c → reaches k ≡ true → rig_answer the_rig k ≡ answered (step_of c k.event)
  answer_is c p t =
      let both = and_true (eqb k.place k.at) passed t in
      answer_passed k.table k.place k.event both.1
      ∙ ap (λ (n : ℕ). answered (step_of (clock_at k.table n) k.event)) (eqb-true _ _ both.0)
      ∙ ap (λ (d : Clock). answered (step_of d k.event)) p

-- ---- the own events of two lists, one behind the other

own_behind : (k : RigCall) (xs ys : List RigCall) → own_events (xs ++ ys) ≡ own_events xs ++ own_events ys → (z : Bool) → reaches k ≡ z
    → own_events (k ∷ (xs ++ ys)) ≡ own_events (k ∷ xs) ++ own_events ys
unfolding own_events
own_behind k xs ys h true t = simp t (ap (λ (es : List Event). k.event ∷ es) h)
own_behind k xs ys h false t = simp t h

own_append : (xs ys : List RigCall) → own_events (xs ++ ys) ≡ own_events xs ++ own_events ys
unfolding own_events
own_append [] ys = refl
own_append (k ∷ xs) ys = own_behind k xs ys (own_append xs ys) (reaches k) refl

-- a reading of the clock is one of its own events
own_reading : (k : RigCall) (ks : List RigCall) → ReadingOf k → own_events (k ∷ ks) ≡ Call Reading ∷ own_events ks
unfolding own_events
own_reading k ks r = simp r.0 (ap (λ (e : Event). e ∷ own_events ks) r.1)

-- ---- a list of calls

-- the clock that a call gets
got : (c : Clock) (before later : List RigCall) (k : RigCall) → OnlyTheseChange the_rig c (before ++ (k ∷ later)) → clock_before k ≡ clock_from c (own_events before)
unfolding OnlyTheseChange own_events after_by
got c [] later k only = only.1
got c (j ∷ before) later k only = got (clock_behind the_rig j) before later k only.2 ∙ after_one j (reaches j) refl c only.1 before

-- the clock that it leaves
left : (c : Clock) (before later : List RigCall) (k : RigCall) → OnlyTheseChange the_rig c (before ++ (k ∷ later))
    → clock_behind the_rig k ≡ clock_from c (own_events (before ++ (k ∷ [])))
unfolding own_events after_by
left c before later k only =
    after_one k (reaches k) refl (clock_from c (own_events before)) (got c before later k only) []
    ∙ sym (after_append step_of c (own_events before) (own_events (k ∷ [])))
    ∙ ap (clock_from c) (sym (own_append before (k ∷ [])))

as_alone : (c : Clock) (before later : List RigCall) (k : RigCall) → OnlyTheseChange the_rig c (before ++ (k ∷ later))
    → AsAlone the_rig c before k
as_alone c before later k only =
    let g = got c before later k only in
    record {
      got = cc g;
      left = cc (left c before later k only);
      answer = λ t. cc (answer_is k (clock_from c (own_events before)) g t);
    }

-- A part of a list is found by cases of what stands before it, so that `cc` sees a list that begins with a
-- call.
each_as_alone : (c : Clock) (calls : List RigCall) → OnlyTheseChange the_rig c calls → EachAsAlone the_rig c calls
each_as_alone c calls only [] later k e = as_alone c [] later k (subst (OnlyTheseChange the_rig c) (cc e) only)
each_as_alone c calls only (j ∷ before) later k e = as_alone c (j ∷ before) later k (subst (OnlyTheseChange the_rig c) (cc e) only)

-- ---- what the rig answers

module _ (kind : ℕ) (h : kind_range kind ≡ true) (calls : List RigCall) (only : OnlyTheseChange the_rig (fresh_clock kind) calls) where
  -- a reading, on the clock by itself
  read : (before later : List RigCall) (k : RigCall) → calls ≡ before ++ (k ∷ later) → ReadingOf k
      → rig_answer the_rig k ≡ answered (step_of (clock_after kind (own_events before)) (Call Reading))
  read before later k e r =
      let g = got (fresh_clock kind) before later k (subst (OnlyTheseChange the_rig (fresh_clock kind)) e only) in
      answer_is k (clock_after kind (own_events before)) g r.0
      ∙ ap (λ (v : Event). answered (step_of (clock_after kind (own_events before)) v)) r.1

  near_at : (before later : List RigCall) (k : RigCall) → calls ≡ before ++ (k ∷ later) → ReadingOf k
      → NearExact (measure_of kind) (tells (rig_answer the_rig k).reading) (book_of kind (own_events before))
  near_at before later k e r =
      subst (λ (a : Answer). NearExact (measure_of kind) (tells a.reading) (book_of kind (own_events before)))
      (sym (read before later k e r)) (demand3.fresh kind h (own_events before)).first.near

  accepted : Each (ReadingAccepted the_rig) calls
  accepted before later k e r =
      let p = ap (λ (a : Answer). a.refusal) (read before later k e r) in
      cc (p ∙ (demand3.fresh kind h (own_events before)).first.accepted)

  moved : Each (MovedAtRollover kind) calls
  moved before later k e r u =
      let g = got (fresh_clock kind) before later k (subst (OnlyTheseChange the_rig (fresh_clock kind)) e only) in
      let es = own_events before ++ (Call Tick ∷ []) in
      subst
      (λ (c : Clock). MovedAsTaken (measure_of kind) (book_of kind es).moved (taken_off c (book_of kind (own_events before))))
      (sym g) ((demand3.fresh kind h es).second.single (own_events before) [] refl u)

  near : ReadingsNear the_rig kind calls
  near [] later k e r = near_at [] later k (cc e) r
  near (j ∷ before) later k e r = near_at (j ∷ before) later k (cc e) r

  module _ (before between later : List RigCall) (j k : RigCall) (e : calls ≡ before ++ (j ∷ (between ++ (k ∷ later)))) (rj : ReadingOf j) (rk : ReadingOf k) where
    own_first : own_events (before ++ (j ∷ [])) ≡ own_events before ++ (Call Reading ∷ [])
    unfolding own_events
    own_first = own_append before (j ∷ []) ∙ ap (λ (es : List Event). own_events before ++ es) (own_reading j [] rj)

    own_second : own_events (before ++ (j ∷ between)) ≡ own_events before ++ (Call Reading ∷ own_events between)
    own_second = own_append before (j ∷ between) ∙ ap (λ (es : List Event). own_events before ++ es) (own_reading j between rj)

    own_all : own_events calls ≡ own_events before ++ (Call Reading ∷ (own_events between ++ (Call Reading ∷ own_events later)))
    own_all =
        ap own_events e
        ∙ own_append before (j ∷ (between ++ (k ∷ later)))
        ∙ ap (λ (es : List Event). own_events before ++ es) (own_reading j (between ++ (k ∷ later)) rj)
        ∙ ap (λ (es : List Event). own_events before ++ (Call Reading ∷ es)) (own_append between (k ∷ later) ∙ ap (λ (es : List Event). own_events between ++ es) (own_reading k later rk))

    -- what the two tell
    told_first : rig_answer the_rig j ≡ answered (step_of (clock_after kind (own_events before)) (Call Reading))
    told_first = read before (between ++ (k ∷ later)) j e rj

    told_second : rig_answer the_rig k ≡ answered (step_of (clock_after kind (own_events before ++ (Call Reading ∷ own_events between))) (Call Reading))
    told_second =
        read (before ++ (j ∷ between)) later k (e ∙ sym (append_assoc before (j ∷ between) (k ∷ later))) rk
        ∙ ap (λ (es : List Event). answered (step_of (clock_after kind es) (Call Reading))) own_second

    -- the third bound at a clock c, the one after the first reading
    Gone : Clock → Type 0
    Gone c =
        let es = singly_from c (own_events between) in
        neither_set_nor_inserted c es ≡ true
        → GoneForward (measure_of kind) (ticks_among c es) (tells (rig_answer the_rig j).reading)
        (tells (rig_answer the_rig k).reading)

    gone : Gone (clock_after kind (own_events before ++ (Call Reading ∷ [])))
    unfolding Gone
    gone u =
        let c = clock_after kind (own_events before ++ (Call Reading ∷ [])) in
        let n : ℕ = (measure_of kind).least * ticks_among c (singly_from c (own_events between)) in
        let t = (demand3.fresh kind h (own_events calls)).third (own_events before) (own_events between) (own_events later) own_all u in
        subst (λ (a : Answer). tells a.reading + n ≤ tells (rig_answer the_rig k).reading) (sym told_first)
        (subst (λ (a : Answer). tells (answered (step_of (clock_after kind (own_events before)) (Call Reading))).reading + n ≤ tells a.reading) (sym told_second) t)

    goes : Gone (clock_after kind (own_events (before ++ (j ∷ []))))
    goes = subst (λ (es : List Event). Gone (clock_after kind es)) (sym own_first) gone

  forward : ReadingsForward the_rig kind calls
  unfolding Gone
  forward [] between later j k e rj rk = goes [] between later j k (cc e) rj rk
  forward (i ∷ before) between later j k e rj rk = goes (i ∷ before) between later j k (cc e) rj rk

pub demand3_of_rig : Demand3OfEveryRig the_rig
unfolding own_events
demand3_of_rig =
    record {
      fresh = λ kind h calls only.
          record {
            demand = demand3.fresh kind h _;
            alone = each_as_alone (fresh_clock kind) calls only;
            accepted = accepted kind h calls only;
            near = near kind h calls only;
            moved = moved kind h calls only;
            forward = forward kind h calls only;
          };
      set = λ c calls only s u events e t.
          record {
            first = subst (FirstBound step_of c) (cc e) (demand3.set c s u events t);
            alone = each_as_alone c calls only;
          };
    }

pub one_table : OneTable the_rig
unfolding calls_in_turn OnlyTheseChange
one_table at table [] h = tt
one_table at table (e ∷ es) h =
    (omega (arith, h), refl, one_table at (table_after the_rig (record { table = table; at = at; place = e.place; event = e.event })) es (omega (arith, h, (others_always_stay table e.place e.event).length)))
