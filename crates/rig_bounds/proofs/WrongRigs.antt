-- The wrong rigs do not meet demand 3: each computed at its list of calls.
use mathlib.Core.Path.{refl, ap}
use mathlib.Core.List.{[], ◌∷◌}
use native.Mathlib.Omega.{arith}
use borrow.Author.Tests.{eqb-false}
use Rattle.state.specs.Device.{device_of}
use Rattle.state.specs.State.{in_range}
use Rattle.state.specs.declared.state.Clock.{Clock}
use Rattle.clock.specs.Reading.{told_of, reading_refusal}
use Rattle.clock.specs.Tick.{unit_in, ticked, tick_refusal, tick_of}
use Rattle.clock.specs.Setting.{setting_refusal, setting_of}
use Rattle.request.specs.Request.{request_refusal, requested, request_of}
use Rattle.bounds.specs.Calls.{after_by, count_among_by, none_among_by}
use Rattle.bounds.proofs.ShutOut.{not_below, not_most}
use Rattle.bounds.specs.Singly.{singly_from}
use Rattle.bounds.specs.Book.{book_from}
use Rattle.bounds.specs.Measure.{measure_of}
use Rattle.rig.specs.Rig.{answer_at, table_at}
use Rattle.rig.specs.declared.rig.Answer.{Answer}
use Rattle.rig_bounds.specs.Demand.{own_events, OnlyTheseChange, calls_in_turn}
use Rattle.rig_bounds.specs.WrongRigs.{ShutOut}

pub shut_out : ShutOut
unfolding device_of measure_of in_range told_of reading_refusal unit_in ticked tick_refusal tick_of setting_refusal setting_of request_refusal requested request_of answer_at table_at after_by count_among_by none_among_by singly_from book_from own_events OnlyTheseChange calls_in_turn
shut_out =
    record {
      answering = (omega arith, refl, tt);
      near = λ near. not_below refl (near [] [] _ refl (refl, refl));
      answer = λ alone. eqb-false _ _ refl (ap (λ (a : Answer). a.reading.seconds) (alone [] [] _ refl refl));
      refusing = (omega arith, refl, tt);
      accepted = λ accepted. eqb-false _ _ refl (accepted [] [] _ refl (refl, refl));
      asking = (omega arith, refl, (omega arith, refl, (omega arith, refl, tt)));
      moved = λ moved. not_most refl (moved (_ ∷ _ ∷ []) [] _ refl (refl, refl) refl);
      storing = (omega arith, refl, (omega arith, refl, (omega arith, refl, tt)));
      forward = λ forward. not_most refl (forward [] (_ ∷ []) [] _ _ refl (refl, refl) (refl, refl) refl);
      left = λ alone. eqb-false _ _ refl (ap (λ (c : Clock). c.micros.0) (alone (_ ∷ []) (_ ∷ []) _ refl));
      got = λ alone. eqb-false _ _ refl (ap (λ (c : Clock). c.micros.0) (alone (_ ∷ _ ∷ []) [] _ refl));
    }
