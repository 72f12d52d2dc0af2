-- The wrong rigs do not have the properties of one: each computed at a table.
use mathlib.Core.Path.{refl, ap}
use mathlib.Core.List.{List, [], ◌∷◌}
use native.Mathlib.Omega.{arith}
use borrow.Author.Tests.{eqb-false}
use Rattle.state.specs.Device.{device_of, kind256, kind1024}
use Rattle.state.specs.State.{fresh_clock, in_range}
use Rattle.state.specs.declared.state.Clock.{Clock}
use Rattle.clock.specs.Reading.{told_of, reading_refusal}
use Rattle.event.specs.declared.event.Call.TheVariants.{Reading}
use Rattle.event.specs.declared.event.Event.TheVariants.{Call}
use Rattle.rig.specs.Rig.{clock_at, answer_at, table_at}
use Rattle.rig.specs.WrongRigs.{ShutOut}
use Rattle.rig.specs.declared.rig.Answer.{Answer}

-- a sound clock of each kind, and one that is out of range, since it is of none
abbrev a : Clock
a = fresh_clock kind256

abbrev b : Clock
b = fresh_clock kind1024

abbrev none : Clock
none = fresh_clock 2

pub shut_out : ShutOut
unfolding answer_at table_at in_range device_of told_of reading_refusal
shut_out =
    record {
      examining = λ decides.
          eqb-false _ _ refl (ap (λ (r : Answer). r.refusal) (decides (none ∷ a ∷ []) (a ∷ a ∷ []) 1 (Call Reading) refl refl).answer);
      copying = λ decides.
          eqb-false _ _ refl (ap (λ (c : Clock). c.kind) (decides (b ∷ a ∷ []) (a ∷ a ∷ []) 1 (Call Reading) refl refl).next);
      writing = λ stay.
          eqb-false _ _ refl (ap (λ (c : Clock). c.kind) ((stay (b ∷ a ∷ []) 1 (Call Reading)).others 0 (λ q. omega (arith, q))));
      growing = λ stay. eqb-false _ _ refl (stay (a ∷ []) 0 (Call Reading)).length;
      clearing = λ leaves.
          eqb-false _ _ refl (ap (λ (cs : List Clock). (clock_at cs 0).kind) (leaves (none ∷ []) 0 (Call Reading) (λ q. omega (arith, q))));
      refusing = λ served. eqb-false _ _ refl (served 8 7 (omega arith) (omega arith));
    }
