-- What demand 3 says of two recorders, from the theorem on every rig.
use mathlib.Core.Path.{refl}
use mathlib.Core.List.{List, [], ◌∷◌}
use Prim.Native.Nat.{ℕ}
use native.Mathlib.Omega.{arith}
use Rattle.state.specs.Device.{device_of, kind256, kind1024}
use Rattle.state.specs.State.{fresh_clock, in_range}
use Rattle.clock.specs.Reading.{told_of, reading_refusal}
use Rattle.clock.specs.Tick.{unit_in, ticked, tick_refusal, tick_of}
use Rattle.clock.specs.Setting.{setting_refusal, setting_of}
use Rattle.event.specs.declared.event.Call.TheVariants.{Tick}
use Rattle.event.specs.declared.event.Event.TheVariants.{Call}
use Rattle.bounds.specs.Calls.{after_by, count_among_by, none_among_by}
use Rattle.bounds.specs.Singly.{singly_from}
use Rattle.bounds.specs.Measure.{measure_of}
use Rattle.rig.specs.Rig.{answer_at, table_at}
use Rattle.rig.specs.OneClock.{the_rig}
use Rattle.rig_bounds.specs.Demand.{RigCall, own_events, Demand3OfRigClock, FirstBoundOfRigClock, calls_in_turn}
use Rattle.rig_bounds.specs.TwoRecorders.{both, in_turn, table_from, OfTwoRecorders}
use Rattle.rig_bounds.proofs.Theorem.{demand3_of_rig, one_table}

-- the calls as the recorder at a place sees them
abbrev seen_at : ℕ → List RigCall
seen_at at = calls_in_turn the_rig at both in_turn

second : Demand3OfRigClock the_rig kind1024 (seen_at 1)
second = demand3_of_rig.fresh kind1024 refl (seen_at 1) (one_table 1 both in_turn (omega arith))

first : FirstBoundOfRigClock the_rig (fresh_clock kind256) (seen_at 0)
unfolding device_of in_range setting_refusal setting_of answer_at table_at own_events calls_in_turn
first =
    demand3_of_rig.set (fresh_clock kind256) (seen_at 0) (one_table 0 both in_turn (omega arith)) 5 _ (Call Tick ∷ []) refl refl

pub of_two_recorders : OfTwoRecorders
unfolding device_of measure_of in_range told_of reading_refusal unit_in ticked tick_refusal tick_of setting_refusal setting_of answer_at table_at after_by count_among_by none_among_by singly_from own_events calls_in_turn table_from
of_two_recorders =
    record {
      demand = second.demand.third [] (Call Tick ∷ []) [] refl refl;
      forward = second.forward (_ ∷ []) (_ ∷ _ ∷ _ ∷ []) [] _ _ refl (refl, refl) (refl, refl) refl;
      reading = second.accepted (_ ∷ _ ∷ _ ∷ _ ∷ _ ∷ []) [] _ refl (refl, refl);
      near = second.near (_ ∷ _ ∷ _ ∷ _ ∷ _ ∷ []) [] _ refl (refl, refl);
      alone = (second.alone (_ ∷ _ ∷ _ ∷ _ ∷ _ ∷ []) [] _ refl).left;
      accepted = first.first.accepted;
      alone_too = (first.alone (_ ∷ _ ∷ _ ∷ _ ∷ _ ∷ []) [] _ refl).left;
    }
