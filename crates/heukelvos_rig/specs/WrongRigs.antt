-- Rigs for C that are shut out. Each follows the rules but for what is said of it.
use Rattle.std.specs.Prelude.{cond, eqb, set}
use Rattle.state.specs.Device.{kind256}
use Rattle.state.specs.State.{fresh_clock}
use Rattle.event.specs.declared.event.Call.TheVariants.{Tick}
use Rattle.event.specs.declared.event.Event.TheVariants.{Call}
use Rattle.rig.specs.Rig.{bare_answer, answer_at}
use Rattle.heukelvos_rig.specs.RigEvent.{code_refusal, event_of, coded_answer_at, coded_table_at, CodedRig}
use Rattle.heukelvos_rig.specs.RigEvent.{KnownCalled, UnknownRefused, RefusedKeeps, EveryCall}

-- a code that stands for no event is taken for a reading
abbrev pub takes_any_code : CodedRig
takes_any_code = record { answer = λ table place e. answer_at table place (event_of e); left = coded_table_at }

-- whichever event a code stands for, a tick answers
abbrev pub ticks_only : CodedRig
ticks_only =
    record {
      answer = λ table place e.
          cond (eqb (code_refusal e.code) 0) (answer_at table place (Call Tick)) (bare_answer (code_refusal e.code));
      left = coded_table_at;
    }

-- events are answered, and no clock is stored
abbrev pub stores_nothing : CodedRig
stores_nothing = record { answer = coded_answer_at; left = λ table place e. table }

-- a refused call leaves a fresh clock at its place
abbrev pub clears : CodedRig
clears =
    record {
      answer = coded_answer_at;
      left = λ table place e.
          cond (eqb (coded_answer_at table place e).refusal 0) (coded_table_at table place e) (set table place (fresh_clock kind256));
    }

-- Each fails at the one part of a coded call that is named.
pub record ShutOut : Type 0 where
  pub taking : EveryCall UnknownRefused takes_any_code → ⊥
  pub ticking : EveryCall KnownCalled ticks_only → ⊥
  pub storing : EveryCall KnownCalled stores_nothing → ⊥
  -- where the code is unknown, and where the clock is out of range
  pub clearing : EveryCall UnknownRefused clears → ⊥
  pub clearing_known : EveryCall RefusedKeeps clears → ⊥
