-- Some 65,536 accepted offsets in one quarter-hour, by any way to move a summary: too many to be computed, so
-- that what they come to is shown by induction.
use mathlib.Core.Path.{◌≡◌, refl, sym, ◌∙◌, ap}
use mathlib.Core.Bool.{Bool, true, false, cond}
use mathlib.Core.List.{List, [], ◌∷◌}
use Prim.Native.Nat.{ℕ, zero, suc, ◌+◌, ◌%◌, ◌≤◌, ◌<◌, min, max}
use native.Mathlib.Omega.{arith}
use lib.Dec.{ltb}
use lib.IntN.{pos}
use lib.ListN as list
use Rattle.state.specs.declared.state.Clock.{Clock}
use Rattle.event.specs.declared.event.Event.{Event}
use Rattle.event.specs.declared.event.Event.TheVariants.{Call}
use Rattle.cases.specs.Cases.{asks, set}
use Rattle.summary.specs.Summary.{empty_summary, after_event}
use Rattle.summary.specs.Afresh.{Moves, carried_by, CarriedIsAfresh}
use Rattle.summary.specs.WrongSummaries.{holding}
use Rattle.summary.specs.declared.cells.Summary.{Summary}
use Rattle.summary.proofs.Carried.{carried_is_afresh}

-- the count, and the largest size (us), of a quarter-hour
abbrev pub count_in : ℕ → Summary → ℕ
count_in q m = list.get_or m.counts q 0

abbrev pub largest_in : ℕ → Summary → ℕ
largest_in q m = list.get_or m.largest q 0

-- an offset (us) after a setting, so that it does not come too soon
abbrev pub once_more : ℕ → List Event → List Event
once_more size es = Call (set 0 0) ∷ Call (asks (pos size)) ∷ es

-- n of 5 us, and then some events
offsets : ℕ → List Event → List Event
offsets zero es = es
offsets (suc n) es = once_more 5 (offsets n es)

-- what so many make of a count by f, and of a largest size by g
count_after : (ℕ → ℕ) → ℕ → ℕ → ℕ
count_after f zero n = n
count_after f (suc k) n = count_after f k (f n)

largest_after : (ℕ → ℕ) → (ℕ → ℕ → ℕ) → ℕ → ℕ → ℕ → ℕ
largest_after f g zero n a = a
largest_after f g (suc k) n a = largest_after f g k (f n) (g n a)

stopped : (limit k n : ℕ) → n ≤ limit → count_after (λ n. min limit (n + 1)) k n ≡ min limit (k + n)
unfolding count_after
stopped limit zero n h = omega arith
stopped limit (suc k) n h = omega (arith, stopped limit k (min limit (n + 1)) (omega arith))

wrapped : (k n : ℕ) → n < 65536 → count_after (λ n. (n + 1) % 65536) k n ≡ (k + n) % 65536
unfolding count_after
wrapped zero n h = omega arith
wrapped (suc k) n h = omega (arith, wrapped k ((n + 1) % 65536) (omega arith))

-- sizes of 5 us lead to no larger one
no_larger : (f : ℕ → ℕ) (g : ℕ → ℕ → ℕ) → ((n a : ℕ) → a ≤ 5 → g n a ≤ 5)
    → (k n a : ℕ) → a ≤ 5 → largest_after f g k n a ≤ 5
unfolding largest_after
no_larger f g h zero n a s = s
no_larger f g h (suc k) n a s = no_larger f g h k (f n) (g n a) (h n a s)

-- on the clock c, which it leaves as it was, an offset of 5 us moves the count n to f n, and the largest
-- size a to g n a
pub record Grows (moves : Moves) (c : Clock) (f : ℕ → ℕ) (g : ℕ → ℕ → ℕ) : Type 0 where
  pub grows : (es : List Event) (n a : ℕ)
      → carried_by moves c (once_more 5 es) (holding 0 n a) ≡ carried_by moves c es (holding 0 (f n) (g n a))

module _ {moves : Moves} {c : Clock} {f : ℕ → ℕ} {g : ℕ → ℕ → ℕ} (w : Grows moves c f g) where
  many : (k : ℕ) (es : List Event) (n a : ℕ)
      → carried_by moves c (offsets k es) (holding 0 n a)
      ≡ carried_by moves c es (holding 0 (count_after f k n) (largest_after f g k n a))
  unfolding offsets count_after largest_after
  many zero es n a = refl
  many (suc k) es n a = w.grows (offsets k es) n a ∙ many k es (f n) (g n a)

  count_many : (k : ℕ) → count_in 0 (carried_by moves c (offsets k []) empty_summary) ≡ count_after f k 0
  unfolding carried_by
  count_many k = ap (count_in 0) (many k [] 0 0)

abbrev pub RulesGrow : Clock → Type 0
RulesGrow c = Grows after_event c (λ n. min 65535 (n + 1)) (λ n a. max a 5)

-- one that keeps the theorem comes to what the rules come to
module _ {moves : Moves} {c : Clock} {f : ℕ → ℕ} {g : ℕ → ℕ → ℕ} (rules : RulesGrow c) (w : Grows moves c f g)
    (d : CarriedIsAfresh moves) where
  alike : (es : List Event) → carried_by moves c es empty_summary ≡ carried_by after_event c es empty_summary
  alike es = d c es ∙ sym (carried_is_afresh c es)

  same_count : (k : ℕ) → count_after f k 0 ≡ min 65535 (k + 0)
  same_count k =
      sym (count_many w k)
      ∙ ap (count_in 0) (alike (offsets k []))
      ∙ count_many rules k
      ∙ stopped 65535 k 0 (omega arith)

module _ {moves : Moves} {c : Clock} (rules : RulesGrow c) where
  pub limit_is : {limit : ℕ} → Grows moves c (λ n. min limit (n + 1)) (λ n a. max a 5) → CarriedIsAfresh moves
      → limit ≡ 65535
  limit_is {limit} w d =
      omega (arith, same_count rules w d (limit + 65536), stopped limit (limit + 65536) 0 (omega arith))

  pub wraps_not : Grows moves c (λ n. (n + 1) % 65536) (λ n a. max a 5) → CarriedIsAfresh moves → ⊥
  wraps_not w d = omega (arith, same_count rules w d 65536, wrapped 65536 0 (omega arith))

-- the largest size after 65,535 of 5 us and one of 7 us
abbrev pub LastOf : Moves → Clock → ℕ → ℕ → Type 0
LastOf moves c a b = largest_in 0 (carried_by moves c (once_more 7 []) (holding 0 65535 a)) ≡ b

abbrev larger : ℕ → ℕ → ℕ
larger n a = cond (ltb n 65535) (max a 5) a

larger_five : (n a : ℕ) → a ≤ 5 → larger n a ≤ 5
larger_five n a h = by (ltb n 65535)
  where
    by : (b : Bool) → cond b (max a 5) a ≤ 5
    by true = omega arith
    by false = h

module _ {moves : Moves} {c : Clock} (rules : RulesGrow c) (w : Grows moves c (λ n. min 65535 (n + 1)) larger)
    (last : (a : ℕ) → LastOf moves c a a) (last_by_rules : (a : ℕ) → LastOf after_event c a (max a 7))
    (d : CarriedIsAfresh moves) where
  abbrev count : ℕ
  count = count_after (λ n. min 65535 (n + 1)) 65535 0

  full : count ≡ 65535
  full = stopped 65535 65535 0 (omega arith) ∙ omega arith

  abbrev largest : (ℕ → ℕ → ℕ) → ℕ
  largest g = largest_after (λ n. min 65535 (n + 1)) g 65535 0 0

  abbrev events : List Event
  events = offsets 65535 (once_more 7 [])

  wrong_largest : largest_in 0 (carried_by moves c events empty_summary) ≡ largest larger
  wrong_largest =
      ap (largest_in 0) (many w 65535 (once_more 7 []) 0 0) ∙ (rw (full) (last (largest larger)))

  right_largest : largest_in 0 (carried_by after_event c events empty_summary) ≡ max (largest (λ n a. max a 5)) 7
  right_largest =
      ap (largest_in 0) (many rules 65535 (once_more 7 []) 0 0) ∙ (rw (full) (last_by_rules (largest (λ n a. max a 5))))

  pub stops_not : ⊥
  stops_not =
      let e = sym wrong_largest ∙ ap (largest_in 0) (alike rules w d events) ∙ right_largest in
      omega (arith, e, no_larger (λ n. min 65535 (n + 1)) larger larger_five 65535 0 0 (omega arith))
