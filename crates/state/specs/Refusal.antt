-- "Numbers of the refusals": the table of document 01, and the numbers that document 02 adds to it, each by a
-- name; and what a refused call answers. 0 stands for no refusal.
use Rattle.std.specs.Prelude.{◌≡◌, ℕ, Bool, false, cond, eqb, leb, ◌&&◌, Result, Ok, Err, MatchResult}
use Rattle.state.specs.declared.state.Clock.{Clock}
use Rattle.state.specs.declared.outcome.Outcome.{Outcome}
use Rattle.state.specs.declared.refusal.Refusal.{Refusal}
use Rattle.state.specs.declared.refusal.Refusal.TheVariants as R
use Rattle.state.specs.declared.refusal.NoRefusal.{NoRefusal}

-- "a state field lies outside its range"
abbrev pub refused_state : ℕ
refused_state = 1

-- "a setting outside the ranges of seconds or microseconds"
abbrev pub refused_time : ℕ
refused_time = 2

-- "the tick would roll over from second 4,294,967,295"
abbrev pub refused_last : ℕ
refused_last = 3

-- "mode above 63"
abbrev pub refused_mode : ℕ
refused_mode = 4

-- "selected offset not within -127,999..127,999"
abbrev pub refused_offset : ℕ
refused_offset = 5

-- "selected frequency not strictly between the ends of its range"
abbrev pub refused_frequency : ℕ
refused_frequency = 6

-- "a selected error above 16,000,000"
abbrev pub refused_error : ℕ
refused_error = 7

-- "selected status above 4"
abbrev pub refused_status : ℕ
refused_status = 8

-- "selected time constant above 4"
abbrev pub refused_constant : ℕ
refused_constant = 9

-- "bytes end inside a record or event"
abbrev pub refused_ended : ℕ
refused_ended = 10

-- "a number not in its shortest form, or a fifth byte that says more follows"
abbrev pub refused_form : ℕ
refused_form = 11

-- "unknown record version or event code, or record field out of range"
abbrev pub refused_field : ℕ
refused_field = 12

-- "bytes after a record's end, or a history above 65,536 bytes"
abbrev pub refused_beyond : ℕ
refused_beyond = 13

-- "lent buffer shorter than what is to be written"
abbrev pub refused_room : ℕ
refused_room = 14

-- "not a label"
abbrev pub refused_label : ℕ
refused_label = 15

-- document 02: "above 65,536 is a new refusal 16"
abbrev pub refused_ceiling : ℕ
refused_ceiling = 16

-- document 02: "fewer than 64 rollovers after the last accepted one is now refused, number 17"
abbrev pub refused_soon : ℕ
refused_soon = 17

-- document 02: "A place beyond the table is refusal 18"
abbrev pub refused_place : ℕ
refused_place = 18

-- document 02: "a table of more than eight 19"
abbrev pub refused_table : ℕ
refused_table = 19

-- the number of each refusal of the code
abbrev pub refusal_number : Refusal → ℕ
refusal_number R.State = refused_state
refusal_number R.Time = refused_time
refusal_number R.Last = refused_last
refusal_number R.Mode = refused_mode
refusal_number R.Offset = refused_offset
refusal_number R.Frequency = refused_frequency
refusal_number R.Error = refused_error
refusal_number R.Status = refused_status
refusal_number R.Constant = refused_constant
refusal_number R.Ended = refused_ended
refusal_number R.Form = refused_form
refusal_number R.Field = refused_field
refusal_number R.Beyond = refused_beyond
refusal_number R.Room = refused_room
refusal_number R.Label = refused_label
refusal_number R.Ceiling = refused_ceiling
refusal_number R.Soon = refused_soon
refusal_number R.Place = refused_place
refusal_number R.Table = refused_table

-- the refusal of a call that hands back nothing else: 0 where it was accepted
abbrev pub refusal_of : Result Unit Refusal → ℕ
refusal_of (Ok _) = 0
refusal_of (Err r) = refusal_number r

-- some refusal has this number: the table's numbers have no gap
abbrev pub in_table : ℕ → Bool
in_table n = leb refused_state n && leb n refused_table

-- the refusal that has a number; or an error that hands the number back, of one that is not in the table
abbrev pub NumberOf : ℕ → Result Refusal NoRefusal → Type 0
NumberOf n r = MatchResult r (λ refusal. refusal_number refusal ≡ n) (λ e. (e.0 ≡ n) × (in_table n ≡ false))

-- Number n where its condition holds, else what the later conditions give. Written from the lowest number to
-- the highest, such a chain is "The lowest of 1 to 9 that applies is given".
abbrev pub refuse : Bool → ℕ → ℕ → ℕ
refuse applies n later = cond applies n later

-- "A refused call hands back the state it got": the answer of a call on c with refusal n that would make
-- `next` of c.
abbrev pub answer : ℕ → Clock → Clock → Outcome
answer n next c = record { refusal = n; clock = cond (eqb n 0) next c }

-- the answer of a call that is accepted, with the clock after it
abbrev pub accepted : Clock → Outcome
accepted c = record { refusal = 0; clock = c }

-- the answer of a call that is refused, with the clock that it hands back
abbrev pub refused_with : Refusal → Clock → Outcome
refused_with r c = record { refusal = refusal_number r; clock = c }
