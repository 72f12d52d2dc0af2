-- The wrong rigs for C are none by the rules: each computed at a table of one clock.
use mathlib.Core.Path.{refl, ap}
use mathlib.Core.List.{List, [], ◌∷◌}
use native.Mathlib.Omega.{arith}
use borrow.Author.Tests.{eqb-false}
use Rattle.state.specs.Device.{device_of, kind256, kind1024}
use Rattle.state.specs.State.{fresh_clock, in_range}
use Rattle.state.specs.declared.state.Clock.{Clock}
use Rattle.clock.specs.Reading.{told_of, reading_refusal}
use Rattle.clock.specs.Tick.{unit_in, ticked, tick_refusal, tick_of}
use Rattle.rig.specs.Rig.{clock_at, answer_at, table_at}
use Rattle.rig.specs.declared.rig.Answer.{Answer}
use Rattle.heukelvos_rig.specs.RigEvent.{coded_answer_at, coded_table_at}
use Rattle.heukelvos_rig.specs.WrongRigs.{ShutOut}
use Rattle.heukelvos_rig.proofs.EveryEvent.{coded_by}

abbrev a : List Clock
a = fresh_clock kind256 ∷ []

abbrev b : List Clock
b = fresh_clock kind1024 ∷ []

-- out of range, since it is of no kind
abbrev none : List Clock
none = fresh_clock 2 ∷ []

pub shut_out : ShutOut
unfolding device_of in_range told_of reading_refusal unit_in ticked tick_refusal tick_of answer_at table_at coded_answer_at coded_table_at
shut_out =
    record {
      taking = λ every. eqb-false _ _ refl (ap (λ (r : Answer). r.refusal) (every a 0 (coded_by 5) (λ q. omega (arith, q))).0);
      ticking = λ every. eqb-false _ _ refl (ap (λ (r : Answer). r.reading.maxerror.0) (every a 0 (coded_by 3) refl).0);
      storing = λ every. eqb-false _ _ refl (ap (λ (cs : List Clock). (clock_at cs 0).micros.0) (every a 0 (coded_by 0) refl).1);
      clearing = λ every.
          eqb-false _ _ refl (ap (λ (cs : List Clock). (clock_at cs 0).kind) (every b 0 (coded_by 5) (λ q. omega (arith, q))).1);
      clearing_known = λ every.
          eqb-false _ _ refl (ap (λ (cs : List Clock). (clock_at cs 0).kind) (every none 0 (coded_by 3) (λ q. omega (arith, q))));
    }
