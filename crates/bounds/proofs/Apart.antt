-- Two accepted offsets of a list: the second finds in the clock no more rollovers than lie between them, and
-- no fewer than 64. And the clock's count, which stops at 1,024, judges as all rollovers would.
use mathlib.Core.Path.{◌≡◌, refl, sym, ap, ◌∙◌}
use mathlib.Core.Bool.{Bool, true, false, ◌&&◌, ◌||◌, not, cond, true≢false}
use mathlib.Core.List.{List, [], ◌∷◌, ◌++◌}
use Prim.Native.Nat.{ℕ, ◌+◌, ◌≤◌, min}
use native.Mathlib.Omega.{arith}
use lib.Dec.{ltb, eqb}
use borrow.Author.Tests.{not-true, lt-ltb, le-ltb, ltb-true, ltb-false, leb-true}
use Rattle.integers.proofs.Ranges.{and_true}
use Rattle.state.specs.Device.{kind_range}
use Rattle.state.specs.Refusal.{refuse}
use Rattle.state.specs.State.{Update, update_of, longest_interval, fresh_clock, in_range}
use Rattle.state.proofs.Ok.{ok_back}
use Rattle.state.specs.declared.state.Clock.{Clock}
use Rattle.request.specs.Request.{selects_offset, requested, request_of, request_refusal, offset_too_soon}
use Rattle.request.specs.Request.{mode_above, offset_outside, frequency_outside, error_above, status_above}
use Rattle.request.specs.Request.{constant_above}
use Rattle.request.specs.declared.request.Request.{Request}
use Rattle.request.proofs.RequestCases as req
use Rattle.event.specs.declared.event.Call.{Call}
use Rattle.event.specs.declared.event.Call.TheVariants as call
use Rattle.event.specs.declared.event.Event.{Event}
use Rattle.event.specs.declared.event.Event.TheVariants as event
use Rattle.bounds.specs.Calls.{next, after, clock_after, clock_from, accepted, takes_offset, sets, rolls, count_among_by, none_among_by, rollovers_among, never_set}
use Rattle.bounds.specs.Singly.{singly_from, singly}
use Rattle.bounds.specs.Book.{empty_book}
use Rattle.bounds.specs.Demand.{book_of}
use Rattle.bounds.specs.Interval.{Since, just_taken, call_since, since_from, since_of, held_update}
use Rattle.bounds.specs.Apart.{OffsetsApartInEveryList, TooSoonByTheCalls, too_soon, refused_anyway}
use Rattle.bounds.proofs.Exact.{not_zero, Inv, run_inv, fresh_inv}
use Rattle.bounds.proofs.Singly.{clock_last, clock_then, after_singly}
use Rattle.bounds.proofs.Interval.{run_held, interval}

-- an offset was accepted, and at most `most` rollovers have come since
record SinceAtMost (n : Since) (most : ℕ) : Type 0 where
  offset : n.offset ≡ true
  rollovers : n.rollovers ≤ most

grown : (b : Bool) (n : Since) → n.offset ≡ true → SinceAtMost (cond b (record { offset = n.offset; rollovers = n.rollovers + 1 }) n) (cond b 1 0 + n.rollovers)
grown true n o = record { offset = o; rollovers = omega arith }
grown false n o = record { offset = o; rollovers = omega arith }

taken : (b : Bool) (n : Since) → n.offset ≡ true → SinceAtMost (cond b just_taken n) (0 + n.rollovers)
taken true n o = record { offset = refl; rollovers = omega arith }
taken false n o = record { offset = o; rollovers = omega arith }

step_since : (c : Clock) (n : Since) (e : Call) → n.offset ≡ true → sets c e ≡ false → SinceAtMost (call_since c e n) (cond (rolls c e) 1 0 + n.rollovers)
step_since c n call.Tick o h = grown (rolls c call.Tick) n o
step_since c n (call.Setting s u) o h = simp h (record { offset = o; rollovers = omega arith })
step_since c n (call.Request r) o h = taken (takes_offset c r) n o
step_since c n call.Reading o h = record { offset = o; rollovers = omega arith }

run_since : (c : Clock) (n : Since) (es : List Call) → n.offset ≡ true → never_set c es ≡ true → SinceAtMost (since_from c n es) (rollovers_among c es + n.rollovers)
unfolding since_from none_among_by count_among_by
run_since c n [] o h = record { offset = o; rollovers = omega arith }
run_since c n (e ∷ es) o h =
    let p = and_true (not (sets c e)) (never_set (next c e) es) h in
    let one = step_since c n e o (not-true (sets c e) p.0) in
    let rest = run_since (next c e) (call_since c e n) es one.offset p.1 in
    record { offset = rest.offset; rollovers = omega (arith, one.rollovers, rest.rollovers) }

-- an offset that is accepted finds 64 rollovers, where there is an earlier one
least_found : (c : Clock) (n : Since) (r : Request) → req.RequestCase c r → update_of c ≡ held_update n → n.offset ≡ true → takes_offset c r ≡ true → 64 ≤ n.rollovers
least_found c n r (req.refused m e z) h o t = absurd (true≢false (sym (simp (e, not_zero m z) at t)))
least_found c n r (req.done a e) h o t =
    let k : update_of c ≡ record { updated = 1; interval = min n.rollovers longest_interval } = simp o at h in
    let selected = (and_true (accepted c (call.Request r)) (selects_offset r) t).1 in
    omega (arith, ap (λ (u : Update). u.interval) k, a.spaced selected (ap (λ (u : Update). u.updated) k))

-- no rollover has come since an offset that was just accepted, whatever the clock held before
just_taken_lem : (c : Clock) (r : Request) → req.RequestCase c r → takes_offset c r ≡ true → update_of (request_of c r).clock ≡ held_update just_taken
unfolding requested
just_taken_lem c r (req.refused m e z) t = absurd (true≢false (sym (simp (e, not_zero m z) at t)))
just_taken_lem c r (req.done a e) t = simp (e, (and_true (accepted c (call.Request r)) (selects_offset r) t).1) refl

pub apart : OffsetsApartInEveryList
apart start events before between later r s e t u h =
    let b = clock_from start before in
    let c = next b (call.Request r) in
    let es = singly_from c between in
    let last : clock_from start (before ++ (event.Call (call.Request r) ∷ [])) ≡ c = clock_last start before (event.Call (call.Request r)) in
    let then : clock_from start (before ++ (event.Call (call.Request r) ∷ between)) ≡ after c es = clock_then start before (event.Call (call.Request r)) between in
    let held = run_held c just_taken es (just_taken_lem b r (req.request_case b r) t) in
    let since = run_since c just_taken es refl (rw last at h) in
    let least = least_found (after c es) (since_from c just_taken es) s (req.request_case (after c es) s) held since.offset (rw then at u) in
    rw last (omega (arith, least, since.rollovers))

-- the rollovers that the clock does not hold are beyond the 64
below_limit : (n : ℕ) (b : Bool) → ltb n 64 ≡ b → ltb (min n 1024) 64 ≡ b
below_limit n true e = lt-ltb (min n 1024) 64 (omega (arith, ltb-true n 64 e))
below_limit n false e = le-ltb (min n 1024) 64 (omega (arith, ltb-false n 64 e))

soon_by : (selected : Bool) (u : Update) (offset : Bool) (k : ℕ) → u ≡ held_update (record { offset = offset; rollovers = k })
    → selected && eqb u.updated 1 && ltb u.interval 64 ≡ selected && offset && ltb k 64
soon_by true u true k h = rw h (below_limit k (ltb k 64) refl)
soon_by true u false k h = rw h refl
soon_by false u offset k h = refl

-- the refusals of a request from 1 to 17, in order, where those before 17 do not apply
only_soon : (inside a b c d e f soon : Bool) → inside ≡ true → a || b || c || d || e || f ≡ false
    → eqb (refuse (not inside) 1 (refuse a 4 (refuse b 5 (refuse c 6 (refuse d 7 (refuse e 8 (refuse f 9
    (refuse soon 17 0)))))))) 17 ≡ soon
only_soon false a b c d e f soon i h = absurd (true≢false (sym i))
only_soon true true b c d e f soon i h = absurd (true≢false h)
only_soon true false true c d e f soon i h = absurd (true≢false h)
only_soon true false false true d e f soon i h = absurd (true≢false h)
only_soon true false false false true e f soon i h = absurd (true≢false h)
only_soon true false false false false true f soon i h = absurd (true≢false h)
only_soon true false false false false false true soon i h = absurd (true≢false h)
only_soon true false false false false false false true i h = refl
only_soon true false false false false false false false i h = refl

answers_soon : (c : Clock) (r : Request) → in_range c ≡ true → refused_anyway r ≡ false
    → eqb (request_of c r).refusal 17 ≡ offset_too_soon c r
unfolding request_of request_refusal
answers_soon c r i h =
    only_soon (in_range c) (mode_above r) (offset_outside r) (frequency_outside r) (error_above r) (status_above r)
    (constant_above r) (offset_too_soon c r) i h

in_range_lem : (kind : ℕ) (events : List Event) → kind_range kind ≡ true → in_range (clock_after kind events) ≡ true
in_range_lem kind events h =
    let i : Inv (clock_after kind events) (book_of kind events) =
    rw (after_singly (fresh_clock kind) events)
    (run_inv (fresh_clock kind) empty_book (singly kind events) (fresh_inv kind (leb-true _ _ h))) in
    ok_back (clock_after kind events) i.range

pub too_soon_lem : TooSoonByTheCalls
too_soon_lem kind events r =
    let n = since_of kind events in
    let c = clock_after kind events in
    let h : offset_too_soon c r ≡ too_soon n r =
    soon_by (selects_offset r) (update_of c) n.offset n.rollovers (interval kind events) in
    record { held = h; answered = λ k o. answers_soon c r (in_range_lem kind events k) o ∙ h }
