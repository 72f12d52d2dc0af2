-- The events of a history, at a place of any bytes. Document 01, "Replay program": "a history in the same
-- number form .. `0 n` ..; `1 s u` setting; `2 mode` and the selected fields in order of mode bit, offset and
-- frequency mapped ..; `3` print".
use Rattle.std.specs.Prelude.{Bool, true, false, cond, List, ℕ, suc, ◌%◌, eqb, ℤ, Result, Ok, Err}
use Rattle.state.specs.Refusal.{refused_field, refusal_number}
use Rattle.state.specs.declared.refusal.Refusal.{Refusal}
use Rattle.state.specs.Units.{asked_micros}
use Rattle.event.specs.declared.event.Call.TheVariants.{Setting, Request, Reading}
use Rattle.number.specs.Mapping.{unmapped}
use Rattle.number.specs.Reading.{Found as Number, number, number_at}
use Rattle.number.specs.Sequence.{then}
use Rattle.request.specs.Request.{bit_set, mode_bits, greatest_mode}
use Rattle.request.specs.declared.units.AskedOffset.{AskedOffset}
use Rattle.request.specs.declared.units.AskedFrequency.{AskedFrequency}
use Rattle.history.specs.declared.Event.{Event}
use Rattle.history.specs.declared.Event.TheVariants.{Ticks, Summary, Call}
use Rattle.history.specs.declared.Entry.{Entry}

-- What stands at a place: an event, with the place after it; or none, with its number in document 01's table
-- of refusals.
pub data Found : Type 0 where
  found : (event : Event) (next : ℕ) → Found
  refused : (refusal : ℕ) → Found

-- what the reader's answer says
abbrev pub told : Result Entry Refusal → Found
told (Ok e) = found e.event e.next
told (Err refusal) = refused (refusal_number refusal)

abbrev pub offset_micros : ℤ → AskedOffset
offset_micros z = record { 0 = z }

abbrev pub asked_frequency : ℤ → AskedFrequency
asked_frequency z = record { 0 = z }

-- "offset and frequency mapped" (us, frequency units)
abbrev pub offset_asked : ℕ → AskedOffset
offset_asked n = offset_micros (unmapped n)

abbrev pub frequency_asked : ℕ → AskedFrequency
frequency_asked n = asked_frequency (unmapped n)

-- Each number's refusal, 10 or 11, is that of the event.

-- "`0 n` up to n single ticks"
unfoldable pub ticks_at : List ℕ → ℕ → Found
ticks_at s at = then refused (number_at s at) (λ n next. found (Ticks n) next)

-- "`1 s u` setting" (s, us)
unfoldable pub setting_at : List ℕ → ℕ → Found
setting_at s at =
    then refused (number_at s at) (λ seconds n0.
    then refused (number_at s n0) (λ micros next.
    found (Call (Setting seconds (asked_micros micros))) next))

-- the field that a bit of the mode selects; a field that is not selected has no bytes and is 0
unfoldable pub field_at : ℕ → ℕ → List ℕ → ℕ → Number
field_at mode bit s at = cond (bit_set mode bit) (number_at s at) (number 0 at)

-- "the selected fields in order of mode bit", for the bits of a mode
abbrev pub fields_at : ℕ → ℕ → List ℕ → ℕ → Found
fields_at mode bits s n0 =
    then refused (field_at bits mode_bits.offset s n0) (λ offset n1.
    then refused (field_at bits mode_bits.frequency s n1) (λ frequency n2.
    then refused (field_at bits mode_bits.maxerror s n2) (λ maxerror n3.
    then refused (field_at bits mode_bits.esterror s n3) (λ esterror n4.
    then refused (field_at bits mode_bits.status s n4) (λ status n5.
    then refused (field_at bits mode_bits.constant s n5) (λ constant next.
    found (Call (Request (record {
      mode = mode;
      offset = offset_asked offset;
      frequency = frequency_asked frequency;
      maxerror = asked_micros maxerror;
      esterror = asked_micros esterror;
      status = status;
      constant = constant;
    }))) next))))))

-- "`2 mode` and the selected fields .. (a mode above 63 brings the fields of mode mod 64 ..)": the request
-- keeps the mode as it was given
unfoldable pub request_at : List ℕ → ℕ → Found
request_at s at = then refused (number_at s at) (λ mode n0. fields_at mode (mode % suc greatest_mode) s n0)

-- document 02, Req 08: "the first history event is the new code 4, which is allowed only there (elsewhere
-- 12)": the event whose first byte is at place 0. In a rig for C code 4 is another event.
unfoldable pub summary_at : ℕ → ℕ → Found
summary_at start at = cond (eqb start 0) (found Summary at) (refused refused_field)

-- the arguments that the code of an event brings, whose first byte is at `start`; 12 "unknown .. event code"
unfoldable pub arguments_at : ℕ → ℕ → List ℕ → ℕ → Found
arguments_at start code s at =
    cond (eqb code 0) (ticks_at s at)
    (cond (eqb code 1) (setting_at s at)
    (cond (eqb code 2) (request_at s at)
    (cond (eqb code 3) (found (Call Reading) at)
    (cond (eqb code 4) (summary_at start at)
    (refused refused_field)))))

-- the event at place `at` of s; where s ends before the event does, 10 "bytes end inside a record or event"
unfoldable pub event_at : List ℕ → ℕ → Found
event_at s at = then refused (number_at s at) (λ code next. arguments_at at code s next)

-- "when the first history event is the new code 4"
abbrev pub is_summary : Found → Bool
is_summary (found (Ticks n) next) = false
is_summary (found Summary next) = true
is_summary (found (Call e) next) = false
is_summary (refused n) = false

abbrev pub asks_summary : List ℕ → Bool
asks_summary s = is_summary (event_at s 0)
