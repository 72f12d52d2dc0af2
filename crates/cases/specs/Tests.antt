-- That each test of a row refuses what it should: every value is told from the next above and below it, and a
-- rollover from a tick that is none. Without these a test that accepts all would do.
use Rattle.std.specs.Prelude.{ℕ, ◌+◌, ◌-◌, ◌≡◌, Bool, true, false, not, ◌&&◌, List, [], ◌∷◌, ℤ, pos, neg_ℤ, ◌+ℤ◌, ◌-ℤ◌}
use Rattle.state.specs.Device.{kind256, kind1024}
use Rattle.state.specs.State.{last_second, last_micro}
use Rattle.state.specs.declared.state.Clock.{Clock}
use Rattle.event.specs.declared.event.Call.TheVariants as call
use Rattle.cases.specs.Cases.{Start, ◌≔◌, ◌≔ℤ◌, given, Seen, seen, tick_times, rollover}
use Rattle.cases.specs.Cases.{is_done, Value, count_is, signed_is, carried, refusal, ◌is◌, is_seen}
use Rattle.cases.specs.Cases.{all_seen, Stage, ◌then◌, all_stages, row, all_cases}
use Rattle.cases.specs.Cases as field

-- a value is seen, and neither the one above nor the one below it
abbrev pub just_seen : (ℕ → Value) → ℕ → Seen → Bool
just_seen v n s = is_seen (v n) s && not (is_seen (v (n + 1)) s) && not (is_seen (v (n - 1)) s)

abbrev pub just_seenℤ : (ℤ → Value) → ℤ → Seen → Bool
just_seenℤ v z s = is_seen (v z) s && not (is_seen (v (z +ℤ pos 1)) s) && not (is_seen (v (z -ℤ pos 1)) s)

-- A clock with another number in each field. It is out of range: a tick is refused with 1 and hands it back.
abbrev pub each_other : Clock
each_other =
    given
    (field.kind ≔ 1
    ∷ field.seconds ≔ 2
    ∷ field.micros ≔ 3
    ∷ field.constant ≔ 4
    ∷ field.updated ≔ 5
    ∷ field.interval ≔ 6
    ∷ field.status ≔ 7
    ∷ field.phase ≔ℤ pos 8
    ∷ field.left ≔ℤ pos 9
    ∷ field.frequency ≔ℤ neg_ℤ (pos 10)
    ∷ field.adjustment ≔ℤ pos 11
    ∷ field.remainder ≔ℤ pos 12
    ∷ field.leftover ≔ℤ neg_ℤ (pos 13)
    ∷ [])

abbrev pub handed_back : Seen
handed_back = seen each_other call.Tick

-- of each field, and of what the call was refused with
pub record ValuesTold : Type 0 where
  pub kind : just_seen (count_is field.kind) 1 handed_back ≡ true
  pub seconds : just_seen (count_is field.seconds) 2 handed_back ≡ true
  pub micros : just_seen (count_is field.micros) 3 handed_back ≡ true
  pub constant : just_seen (count_is field.constant) 4 handed_back ≡ true
  pub updated : just_seen (count_is field.updated) 5 handed_back ≡ true
  pub interval : just_seen (count_is field.interval) 6 handed_back ≡ true
  pub status : just_seen (count_is field.status) 7 handed_back ≡ true
  pub phase : just_seenℤ (signed_is field.phase) (pos 8) handed_back ≡ true
  pub left : just_seenℤ (signed_is field.left) (pos 9) handed_back ≡ true
  pub frequency : just_seenℤ (signed_is field.frequency) (neg_ℤ (pos 10)) handed_back ≡ true
  pub adjustment : just_seenℤ (signed_is field.adjustment) (pos 11) handed_back ≡ true
  pub remainder : just_seenℤ (signed_is field.remainder) (pos 12) handed_back ≡ true
  pub leftover : just_seenℤ (signed_is field.leftover) (neg_ℤ (pos 13)) handed_back ≡ true
  pub refused : just_seen refusal 1 handed_back ≡ true

-- a tick on a fresh clock of a kind, but for the fields that are named
abbrev pub tick_on : ℕ → List Start → Seen
tick_on kind ss = seen (given (field.kind ≔ kind ∷ ss)) call.Tick

-- c of the last tick, by the clock that it got; the fields, by the clock that it left; and what is a
-- rollover: a tick that is accepted and rolls over
pub record TicksTold (kind : ℕ) : Type 0 where
  pub carry : just_seenℤ carried (pos 1) (tick_on kind (field.phase ≔ℤ pos 268435455 ∷ [])) ≡ true
  pub after : is_seen (field.micros is 0) (tick_on kind []) ≡ false
  pub rolled : is_done rollover (tick_on kind (field.micros ≔ last_micro ∷ [])) ≡ true
  pub not_rolled : is_done rollover (tick_on kind []) ≡ false
  pub refused :
      is_done rollover (tick_on kind (field.seconds ≔ last_second ∷ field.micros ≔ last_micro ∷ [])) ≡ false

-- a stage that holds, one that does not, and a rollover that is refused
abbrev pub holds : Stage
holds = tick_times 1 then (field.seconds is 0 ∷ [])

abbrev pub fails : Stage
fails = tick_times 1 then (field.seconds is 1 ∷ [])

abbrev pub no_rollover : Stage
no_rollover = rollover then []

-- one that fails is found at each place: among values, stages and rows
pub record PlacesTold : Type 0 where
  pub values : all_seen (field.seconds is 0 ∷ field.updated is 0 ∷ []) (tick_on kind256 []) ≡ true
  pub first_value : all_seen (field.seconds is 1 ∷ field.updated is 0 ∷ []) (tick_on kind256 []) ≡ false
  pub last_value : all_seen (field.seconds is 0 ∷ field.updated is 1 ∷ []) (tick_on kind256 []) ≡ false
  pub stages : all_stages (holds ∷ holds ∷ []) (given []) ≡ true
  pub first_stage : all_stages (fails ∷ holds ∷ []) (given []) ≡ false
  pub last_stage : all_stages (holds ∷ fails ∷ []) (given []) ≡ false
  pub not_done :
      all_stages (no_rollover ∷ []) (given (field.seconds ≔ last_second ∷ field.micros ≔ last_micro ∷ [])) ≡ false
  pub rows : all_cases (row 1 [] (holds ∷ []) ∷ row 2 [] (holds ∷ []) ∷ []) ≡ true
  pub first_row : all_cases (row 1 [] (fails ∷ []) ∷ row 2 [] (holds ∷ []) ∷ []) ≡ false
  pub last_row : all_cases (row 1 [] (holds ∷ []) ∷ row 2 [] (fails ∷ []) ∷ []) ≡ false

pub record TestsRefuse : Type 0 where
  pub values : ValuesTold
  pub ticks256 : TicksTold kind256
  pub ticks1024 : TicksTold kind1024
  pub places : PlacesTold
