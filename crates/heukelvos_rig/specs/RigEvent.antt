-- Document 02, Req 07, for C: the event of a rig's call as a code and numbers.
use Rattle.std.specs.Prelude.{◌≡◌, cond, List, ℕ, eqb, ltb, Result, MatchResult}
use Rattle.state.specs.Refusal.{refused_field, refuse, refusal_number}
use Rattle.state.specs.declared.refusal.Refusal.{Refusal}
use Rattle.state.specs.declared.state.Clock.{Clock}
use Rattle.event.specs.declared.event.Call.TheVariants.{Tick, Setting, Request, Reading}
use Rattle.event.specs.declared.event.Event.{Event}
use Rattle.event.specs.declared.event.Event.TheVariants.{Call, CatchUp}
use Rattle.rig.specs.Rig.{table_refusal, bare_answer, answer_at, table_at}
use Rattle.rig.specs.declared.rig.Answer.{Answer}
use Rattle.heukelvos_rig.specs.declared.rig_event.CodedEvent.{CodedEvent}

-- document 01: 12 "unknown [..] event code"
abbrev pub code_refusal : ℕ → ℕ
code_refusal code = refuse (ltb 4 code) refused_field 0

-- The event of a code: 0 tick, 1 setting, 2 request, 3 reading, 4 catch-up. Of an unknown code nothing is
-- made, and a reading stands here.
abbrev pub event_of : CodedEvent → Event
event_of e =
    cond (eqb e.code 0) (Call Tick)
    (cond (eqb e.code 1) (Call (Setting e.seconds e.micros))
    (cond (eqb e.code 2) (Call (Request e.request))
    (cond (eqb e.code 4) (CatchUp e.ceiling e.stop) (Call Reading))))

-- the event of a known code, or the refusal of an unknown one
abbrev pub EventOf : CodedEvent → Result Event Refusal → Type 0
EventOf e r =
    MatchResult r
    (λ event. (code_refusal e.code ≡ 0) × (event ≡ event_of e))
    (λ refusal. code_refusal e.code ≡ refusal_number refusal)

-- every event has a code: the lent table takes them all
pub record CodeOf (e : Event) : Type 0 where
  pub coded : CodedEvent
  pub known : code_refusal coded.code ≡ 0
  pub event : event_of coded ≡ e

abbrev pub EveryEventCoded : Type 0
EveryEventCoded = (e : Event) → CodeOf e

-- The call's answer and the table after it: 12 comes before the table is looked at; else all is as for the
-- event.
unfoldable pub coded_answer_at : List Clock → ℕ → CodedEvent → Answer
coded_answer_at table place e =
    cond (eqb (code_refusal e.code) 0) (answer_at table place (event_of e)) (bare_answer (code_refusal e.code))

unfoldable pub coded_table_at : List Clock → ℕ → CodedEvent → List Clock
coded_table_at table place e = cond (eqb (code_refusal e.code) 0) (table_at table place (event_of e)) table

-- what answers calls with a code: the answer, and the table that the call leaves
pub record CodedRig : Type 0 where
  pub answer : List Clock → ℕ → CodedEvent → Answer
  pub left : List Clock → ℕ → CodedEvent → List Clock

-- by the rules: what `heukelvos_event_at` promises to be
abbrev pub the_coded_rig : CodedRig
the_coded_rig = record { answer = coded_answer_at; left = coded_table_at }

-- A call is that on the rig for the event of its code, so that what is said of those is said of it; or
-- nothing.
abbrev pub KnownCalled : CodedRig → List Clock → ℕ → CodedEvent → Type 0
KnownCalled rig table place e =
    code_refusal e.code ≡ 0 → (rig.answer table place e ≡ answer_at table place (event_of e))
    × (rig.left table place e ≡ table_at table place (event_of e))

abbrev pub UnknownRefused : CodedRig → List Clock → ℕ → CodedEvent → Type 0
UnknownRefused rig table place e =
    (code_refusal e.code ≡ 0 → ⊥)
    → (rig.answer table place e ≡ bare_answer refused_field) × (rig.left table place e ≡ table)

-- "A refused call [..] hands back the clock [..] unchanged": of whatever number, and every clock
abbrev pub RefusedKeeps : CodedRig → List Clock → ℕ → CodedEvent → Type 0
RefusedKeeps rig table place e = ((rig.answer table place e).refusal ≡ 0 → ⊥) → rig.left table place e ≡ table

pub record CodedCall (rig : CodedRig) (table : List Clock) (place : ℕ) (e : CodedEvent) : Type 0 where
  pub known : KnownCalled rig table place e
  pub unknown : UnknownRefused rig table place e
  pub kept : RefusedKeeps rig table place e

-- every call of a rig is so
abbrev pub EveryCall : (CodedRig → List Clock → ℕ → CodedEvent → Type 0) → CodedRig → Type 0
EveryCall is rig = (table : List Clock) (place : ℕ) (e : CodedEvent) → is rig table place e

abbrev pub EveryCodedCall : CodedRig → Type 0
EveryCodedCall rig = EveryCall CodedCall rig
