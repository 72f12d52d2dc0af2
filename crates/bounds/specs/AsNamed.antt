-- Of each wrong clock, that it is the one that its comment says: what it does otherwise than the rules, and
-- where it does as they do.
use Rattle.std.specs.Prelude.{ℕ, ◌≡◌, true, false, List, [], ◌∷◌, pos}
use Rattle.state.specs.Device.{kind256, kind1024}
use Rattle.state.specs.State.{fresh_clock, status_ok}
use Rattle.state.specs.declared.state.Clock.{Clock}
use Rattle.event.specs.Event.{step_of}
use Rattle.event.specs.declared.event.Call.TheVariants.{Tick, Reading}
use Rattle.event.specs.declared.event.Event.{Event}
use Rattle.event.specs.declared.event.Event.TheVariants.{Call, CatchUp}
use Rattle.event.specs.declared.event.Stepped.{Stepped}
use Rattle.cases.specs.Cases.{Start, given, ◌≔◌, ◌≔ℤ◌, asks, set}
use Rattle.cases.specs.Cases as field
use Rattle.bounds.specs.Calls.{Answers, clock_after}
use Rattle.bounds.specs.Demand.{tells}
use Rattle.bounds.specs.WrongClocks as wrong
use Rattle.bounds.specs.OtherWrongClocks as other

-- what one says of the answers by a wrong clock and by the rules to the same event on the same clock
pub record Differ {A : Type 0} (part : Stepped → A) (answers : Answers) (c : Clock) (e : Event)
    (wrongly rightly : A) : Type 0 where
  pub wrong_answer : part (answers c e) ≡ wrongly
  pub right_answer : part (step_of c e) ≡ rightly

-- a part of both answers is the same; of the rest it says nothing
abbrev pub Same : {A : Type 0} → (Stepped → A) → Answers → Clock → Event → Type 0
Same part answers c e = part (answers c e) ≡ part (step_of c e)

-- what an answer's reading tells (us)
abbrev pub telling : Stepped → ℕ
telling a = tells a.reading

-- a clock of a kind, but for the fields that are named
abbrev pub from : ℕ → List Start → Clock
from kind ss = given (field.kind ≔ kind ∷ ss)

-- just before a rollover, with the greatest offset asked for
abbrev pub at_first_share : ℕ → Clock
at_first_share kind = clock_after kind (wrong.asked [])

-- a remainder in force of one part of a phase unit
abbrev pub with_remainder : ℕ → Clock
with_remainder kind = from kind (field.remainder ≔ℤ pos 1 ∷ [])

-- just before a rollover
abbrev pub at_the_end : ℕ → Clock
at_the_end kind = from kind (field.micros ≔ 999999 ∷ [])

-- .. from the last second
abbrev pub at_the_last : ℕ → Clock
at_the_last kind = from kind (field.seconds ≔ 4294967295 ∷ field.micros ≔ 999999 ∷ [])

-- .. with an offset left of which the first share has been taken off
abbrev pub at_second_share : ℕ → Clock
at_second_share kind = from kind (field.micros ≔ 999999 ∷ field.left ≔ℤ pos 2095087632 ∷ [])

pub record AsNamed (kind : ℕ) : Type 0 where
  pub refuses : Differ (λ a. a.refusal) wrong.refuses_everything (fresh_clock kind) (Call Tick) 1 0
  pub says : Differ (λ a. a.refusal) wrong.says_refused (fresh_clock kind) (Call Tick) 1 0
  pub says_and_does : Same (λ a. a.clock) wrong.says_refused (fresh_clock kind) (Call Tick)
  pub zero : Differ telling wrong.reads_zero (from kind (field.seconds ≔ 5 ∷ [])) (Call Reading) 0 5000000
  pub ahead : Differ telling wrong.ahead_while_bad (fresh_clock kind) (Call Reading) 1 0
  pub ahead_no_longer :
      Same (λ a. a) wrong.ahead_while_bad (from kind (field.status ≔ status_ok ∷ [])) (Call Reading)
  pub idle : (wrong.idles (fresh_clock kind) (Call Tick)).clock ≡ fresh_clock kind
  pub counts : Same (λ a. a.count) wrong.counts_only (fresh_clock kind) (CatchUp 3 false)
  pub counts_only : (wrong.counts_only (fresh_clock kind) (CatchUp 3 false)).clock ≡ fresh_clock kind
  pub begun_not : wrong.begun (at_first_share kind) ≡ false
  pub begun : wrong.begun (clock_after kind (wrong.asked (Call Tick ∷ []))) ≡ true
  pub pays_first : Same (λ a. a) wrong.pretends (at_first_share kind) (Call Tick)
  pub rolls_at_second : (step_of (at_second_share kind) (Call Tick)).clock.seconds ≡ 1
  pub takes_later : Same (λ a. a.clock.offset) wrong.pretends (at_second_share kind) (Call Tick)
  pub pays_no_later :
      (wrong.pretends (at_second_share kind) (Call Tick)).clock.adjustment ≡ (fresh_clock kind).adjustment
  pub pays : Same (λ a. a.clock.adjustment) wrong.keeps_offset (at_second_share kind) (Call Tick)
  pub keeps : (wrong.keeps_offset (at_second_share kind) (Call Tick)).clock.offset ≡ (at_second_share kind).offset
  pub late :
      Differ (λ a. a.clock.seconds) other.sets_late
      (from kind (field.left ≔ℤ pos 1 ∷ []))
      (Call (set 5 0)) 6 5
  pub late_never :
      Same (λ a. a) other.sets_late (clock_after kind (Call (asks (pos 1)) ∷ [])) (Call (set 5 0))
  pub drops :
      Differ (λ a. a.clock.leftover.0) other.drops_leftover (with_remainder kind) (Call Tick) (pos 0) (pos 1)
  pub drops_no_more : Same (λ a. a.clock.phase) other.drops_leftover (with_remainder kind) (Call Tick)
  pub ahead_always :
      Differ telling other.ahead_always (from kind (field.status ≔ status_ok ∷ [])) (Call Reading) 1 0
  pub uncounted : Differ (λ a. a.clock.interval) other.counts_no_rollover
      (from kind (field.micros ≔ 999999 ∷ field.updated ≔ 1 ∷ field.interval ≔ 5 ∷ [])) (Call Tick) 5 6
  pub no_update :
      Differ (λ a. a.clock.updated) other.holds_no_update (fresh_clock kind) (Call (asks (pos 1))) 0 1
  pub ceiling : Differ (λ a. a.count) other.tells_ceiling (at_the_end kind) (CatchUp 2 true) 2 1
  pub ceiling_clock : Same (λ a. a.clock) other.tells_ceiling (at_the_end kind) (CatchUp 2 true)
  pub overruns : Differ (λ a. a.count) other.overruns (fresh_clock kind) (CatchUp 1 false) 2 1
  pub hides : Differ (λ a. a.tick_refusal) other.hides_refusal (at_the_last kind) (CatchUp 1 false) 0 3
  pub refused_count :
      Differ (λ a. a.count) other.counts_refused (fresh_clock kind) (CatchUp 65537 false) 65537 0
  pub refused_tick :
      Differ (λ a. a.tick_refusal) other.blames_tick (fresh_clock kind) (CatchUp 65537 false) 16 0
  pub refused_clock :
      (other.ticks_refused (fresh_clock kind) (CatchUp 65537 false)).clock
      ≡ (step_of (fresh_clock kind) (Call Tick)).clock
  pub forgets : Differ (λ a. a.clock.updated) other.forgets_at_rollover
      (from kind (field.micros ≔ 999999 ∷ field.updated ≔ 1 ∷ [])) (Call Tick) 0 1
  pub soon : Differ (λ a. a.refusal) other.accepts_soon (from kind (field.updated ≔ 1 ∷ []))
      (Call (asks (pos 1))) 0 17
  pub ahead_whole : Differ telling other.ahead_while_whole (fresh_clock kind) (Call Reading) 1 0
  pub ahead_whole_only :
      Same (λ a. a) other.ahead_while_whole (clock_after kind (Call Tick ∷ [])) (Call Reading)
  pub dawdles : (other.dawdles (fresh_clock kind) Tick).clock.micros.0 ≡ 1
  pub lingers : (other.lingers (at_the_end kind) Tick).clock.micros.0 ≡ 999999

-- the other kind is left to the rules
pub record OnOneKind : Type 0 where
  pub first : Same (λ a. a) (other.on_kind kind256 step_of wrong.idles) (fresh_clock kind1024) (Call Tick)
  pub second : Same (λ a. a) (other.on_kind kind1024 step_of wrong.idles) (fresh_clock kind256) (Call Tick)

abbrev pub EachAsNamed : Type 0
EachAsNamed = AsNamed kind256 × AsNamed kind1024 × OnOneKind
