-- "Marked cases (proved together)", the two edges at the last second, and the interval, the second device, an
-- offset too soon and the kept remainder of document 02: a table with a row for each, and what it means that
-- a row holds. A row starts at a fresh clock of kind 0, or of the kind that it names, but for the fields that
-- it names. Where it says "rollover", ticks are made up to and with the next that rolls over.
use Rattle.std.specs.Prelude.{ℕ, zero, suc, ◌+◌, ◌≡◌, Bool, true, ◌&&◌, cond, List, [], ◌∷◌, eqb, ℤ, pos, neg_ℤ, length}
use Rattle.std.specs.Int.Signed.{le_z}
use Rattle.state.specs.Units.{offset_units, phase_units, phase_parts, frequency_units}
use Rattle.state.specs.Units.{micros as us}
use Rattle.state.specs.Device.{kind256, kind1024, device_of}
use Rattle.state.specs.State.{fresh_clock, errors_of, whole, status_ok, status_ins, status_del, status_oop}
use Rattle.clock.specs.Tick.{carry, rolls_over}
use Rattle.state.specs.declared.state.Clock.{Clock}
use Rattle.request.specs.Request.{mode_bits}
use Rattle.request.specs.declared.request.Request as asked
use Rattle.event.specs.Event.{answer_of}
use Rattle.event.specs.declared.event.Call.{Call}
use Rattle.event.specs.declared.event.Call.TheVariants as call

-- The fields of a clock that a row names: those that count, and those that are signed.
pub data CountField : Type 0 where
  kind : CountField
  seconds : CountField
  micros : CountField
  constant : CountField
  updated : CountField
  interval : CountField
  status : CountField

pub data SignedField : Type 0 where
  phase : SignedField
  left : SignedField
  frequency : SignedField
  adjustment : SignedField
  remainder : SignedField
  leftover : SignedField

abbrev pub count_code : CountField → ℕ
count_code seconds = 0
count_code constant = 1
count_code updated = 2
count_code interval = 3
count_code status = 4
count_code kind = 5
count_code micros = 6

abbrev pub signed_code : SignedField → ℕ
signed_code phase = 0
signed_code left = 1
signed_code frequency = 2
signed_code adjustment = 3
signed_code remainder = 4
signed_code leftover = 5

-- What a row starts with, where that is not fresh. No row can start with a negative count, a carry or a
-- refusal: there is no way to say so.
pub data Start : Type 0 where
  count_start : CountField → ℕ → Start
  signed_start : SignedField → ℤ → Start

infixl 80 ◌≔◌
abbrev pub ◌≔◌ : CountField → ℕ → Start
f ≔ n = count_start f n

infixl 80 ◌≔ℤ◌
abbrev pub ◌≔ℤ◌ : SignedField → ℤ → Start
f ≔ℤ z = signed_start f z

-- the value that a row starts a field with, or else d
abbrev pub count_or : List Start → CountField → ℕ → ℕ
count_or [] f d = d
count_or (count_start g n ∷ ss) f d = cond (eqb (count_code g) (count_code f)) n (count_or ss f d)
count_or (signed_start g z ∷ ss) f d = count_or ss f d

abbrev pub signed_or : List Start → SignedField → ℤ → ℤ
signed_or [] f d = d
signed_or (count_start g n ∷ ss) f d = signed_or ss f d
signed_or (signed_start g z ∷ ss) f d = cond (eqb (signed_code g) (signed_code f)) z (signed_or ss f d)

-- a fresh clock, but for the fields of a row
abbrev pub given : List Start → Clock
given ss =
    let fresh = fresh_clock (count_or ss kind kind256) in
    whole
    (record {
      kind = fresh.kind;
      time =
          record {
            seconds = count_or ss seconds fresh.seconds;
            micros = us (count_or ss micros fresh.micros.0);
            phase = phase_units (signed_or ss phase fresh.phase.0);
            leftover = phase_parts (signed_or ss leftover fresh.leftover.0);
          };
      correction =
          record {
            offset = offset_units (signed_or ss left fresh.offset.0);
            adjustment = phase_units (signed_or ss adjustment fresh.adjustment.0);
            remainder = phase_parts (signed_or ss remainder fresh.remainder.0);
          };
      tuning =
          record {
            frequency = frequency_units (signed_or ss frequency fresh.frequency.0);
            constant = count_or ss constant fresh.constant;
          };
      update = record { updated = count_or ss updated fresh.updated; interval = count_or ss interval fresh.interval };
      errors = errors_of fresh;
      status = count_or ss status fresh.status;
    })

-- after some calls: the clock that the last one got, what it was refused with, and the clock that it handed
-- back
pub record Seen : Type 0 where
  pub got : Clock
  pub refused : ℕ
  pub clock : Clock

abbrev pub seen : Clock → Call → Seen
seen c e = record { got = c; refused = (answer_of c e).refusal; clock = (answer_of c e).clock }

-- What a row does: a call; a number of ticks; ticks up to and with the next that rolls over.
pub data Doing : Type 0 where
  call_of : Call → Doing
  tick_times : ℕ → Doing
  rollover : Doing

abbrev pub tick_by : ℕ → Clock → Seen
tick_by zero c = seen c call.Tick
tick_by (suc n) c = tick_by n (answer_of c call.Tick).clock

-- at most n ticks more; from one rollover to the next there are at most 257, or 1,025
abbrev pub roll_by : ℕ → Clock → Seen
roll_by zero c = seen c call.Tick
roll_by (suc n) c = cond (rolls_over c) (seen c call.Tick) (roll_by n (answer_of c call.Tick).clock)

abbrev pub does : Doing → Clock → Seen
does (call_of e) c = seen c e
does (tick_times zero) c = record { got = c; refused = 0; clock = c }
does (tick_times (suc n)) c = tick_by n c
does rollover c = roll_by (device_of c.kind).rate c

-- a rollover that is to be done is one: its tick is accepted and rolls over
abbrev pub is_done : Doing → Seen → Bool
is_done (call_of e) s = true
is_done (tick_times n) s = true
is_done rollover s = rolls_over s.got && eqb s.refused 0

-- what a row says is then seen: fields of the clock, c of the last tick, and the refusal of the last call
pub data Value : Type 0 where
  count_is : CountField → ℕ → Value
  signed_is : SignedField → ℤ → Value
  carried : ℤ → Value
  refusal : ℕ → Value

infixl 80 ◌is◌
abbrev pub ◌is◌ : CountField → ℕ → Value
f is n = count_is f n

infixl 80 ◌isℤ◌
abbrev pub ◌isℤ◌ : SignedField → ℤ → Value
f isℤ z = signed_is f z

abbrev pub count_of : CountField → Clock → ℕ
count_of kind c = c.kind
count_of seconds c = c.seconds
count_of micros c = c.micros.0
count_of constant c = c.constant
count_of updated c = c.updated
count_of interval c = c.interval
count_of status c = c.status

abbrev pub signed_of : SignedField → Clock → ℤ
signed_of phase c = c.phase.0
signed_of left c = c.offset.0
signed_of frequency c = c.frequency.0
signed_of adjustment c = c.adjustment.0
signed_of remainder c = c.remainder.0
signed_of leftover c = c.leftover.0

abbrev pub equal : ℤ → ℤ → Bool
equal a b = le_z a b && le_z b a

abbrev pub is_seen : Value → Seen → Bool
is_seen (count_is f n) s = eqb (count_of f s.clock) n
is_seen (signed_is f z) s = equal (signed_of f s.clock) z
is_seen (carried z) s = equal (carry s.got) z
is_seen (refusal n) s = eqb s.refused n

-- every value is the one that is seen
abbrev pub all_seen : List Value → Seen → Bool
all_seen [] s = true
all_seen (v ∷ vs) s = is_seen v s && all_seen vs s

-- one thing done, and what then holds
pub record Stage : Type 0 where
  pub doing : Doing
  pub then : List Value

abbrev pub all_stages : List Stage → Clock → Bool
all_stages [] c = true
all_stages (g ∷ gs) c =
    is_done g.doing (does g.doing c) && all_seen g.then (does g.doing c) && all_stages gs (does g.doing c).clock

-- a row, by the number that it is cited by
pub record Case : Type 0 where
  pub name : ℕ
  pub from : List Start
  pub stages : List Stage

abbrev pub all_cases : List Case → Bool
all_cases [] = true
all_cases (k ∷ ks) = all_stages k.stages (given k.from) && all_cases ks

infixl 70 ◌then◌
abbrev pub ◌then◌ : Doing → List Value → Stage
d then vs = record { doing = d; then = vs }

abbrev pub row : ℕ → List Start → List Stage → Case
row n f gs = record { name = n; from = f; stages = gs }

-- a request of this mode, with an offset in us and a time constant, and all else 0
abbrev pub request_for : ℕ → ℤ → ℕ → asked.Request
request_for mode o k =
    record {
      mode = mode;
      offset = record { 0 = o };
      frequency = record { 0 = pos 0 };
      maxerror = record { 0 = 0 };
      esterror = record { 0 = 0 };
      status = 0;
      constant = k;
    }

abbrev pub requests : ℕ → ℤ → ℕ → Call
requests mode o k = call.Request (request_for mode o k)

-- one that selects an offset (us), and nothing else
abbrev pub asks : ℤ → Call
asks o = requests mode_bits.offset o 0

-- one that selects an offset (us) and a time constant
abbrev pub asks_at : ℕ → ℤ → Call
asks_at k o = requests (mode_bits.offset + mode_bits.constant) o k

-- one that selects nothing
abbrev pub asks_nothing : Call
asks_nothing = requests 0 (pos 0) 0

abbrev pub set : ℕ → ℕ → Call
set s u = call.Setting s (record { 0 = u })

-- The table of document 01, row by row ("frequency unchanged" at two frequencies; document 02: "the marked
-- interval 5,000 becomes 1,024"), after it the two edges, and then document 02's: the interval across an
-- inserted and a deleted second, up to its limit, and none without an offset or after a setting; the second
-- device by the rows of the first, its kind kept by a setting, and no third; an offset a rollover too soon,
-- which leaves the interval, and in time, which sets it back; and the remainder: worked out at a rollover,
-- with the frequency's sign, and in force from the tick after it on; a unit that is just reached, up and
-- down, and one that is not; a unit that c is taken with, and that refusal 3 is judged with; a setting, which
-- clears the leftover and works the remainder out; a leftover and a remainder in force at a rollover; and the
-- ends of both ranges, on either device.
abbrev pub marked_cases : List Case
marked_cases =
    row 1 []
    (tick_times 255 then (seconds is 0 ∷ micros is 996093 ∷ phase isℤ pos 201326592 ∷ []) ∷ [])
    ∷ row 2 []
    (tick_times 256 then (seconds is 1 ∷ micros is 0 ∷ phase isℤ pos 0 ∷ []) ∷ [])
    ∷ row 3 (constant ≔ 0 ∷ frequency ≔ℤ pos 0 ∷ [])
    (call_of (asks (pos 1000)) then (refusal 0 ∷ [])
    ∷ rollover then (seconds is 1 ∷ left isℤ pos 16368000 ∷ adjustment isℤ pos 68132864 ∷ []) ∷ [])
    ∷ row 4 (constant ≔ 4 ∷ frequency ≔ℤ pos 0 ∷ [])
    (call_of (asks (pos 1000)) then (refusal 0 ∷ [])
    ∷ rollover then (seconds is 1 ∷ left isℤ pos 16383000 ∷ adjustment isℤ pos 67172864 ∷ []) ∷ [])
    ∷ row 5 (left ≔ℤ neg_ℤ (pos 1023) ∷ constant ≔ 0 ∷ frequency ≔ℤ neg_ℤ (pos 1) ∷ [])
    (rollover then (seconds is 1 ∷ left isℤ neg_ℤ (pos 1023) ∷ adjustment isℤ pos 67108864 ∷ []) ∷ [])
    ∷ row 6 (updated ≔ 1 ∷ interval ≔ 64 ∷ constant ≔ 4 ∷ [])
    (call_of (asks (neg_ℤ (pos 1))) then (refusal 0 ∷ left isℤ neg_ℤ (pos 16384) ∷ frequency isℤ pos 0 ∷ []) ∷ [])
    ∷ row 6 (updated ≔ 1 ∷ interval ≔ 64 ∷ constant ≔ 4 ∷ frequency ≔ℤ pos 1000000 ∷ [])
    (call_of (asks (neg_ℤ (pos 1))) then (refusal 0 ∷ left isℤ neg_ℤ (pos 16384) ∷ frequency isℤ pos 1000000 ∷ []) ∷ [])
    ∷ row 7 (updated ≔ 1 ∷ interval ≔ 1024 ∷ constant ≔ 0 ∷ frequency ≔ℤ pos 0 ∷ [])
    (call_of (asks (pos 127999)) then (refusal 0 ∷ frequency isℤ pos 131070976 ∷ []) ∷ [])
    ∷ row 8 (phase ≔ℤ pos 268435455 ∷ adjustment ≔ℤ pos 303037440 ∷ [])
    (tick_times 1 then (carried (pos 2) ∷ micros is 3908 ∷ phase isℤ pos 34601983 ∷ []) ∷ [])
    ∷ row 9 (phase ≔ℤ neg_ℤ (pos 200000000) ∷ adjustment ≔ℤ neg_ℤ (pos 168819712) ∷ [])
    (tick_times 1 then (carried (neg_ℤ (pos 1)) ∷ micros is 3905 ∷ phase isℤ neg_ℤ (pos 100384256) ∷ []) ∷ [])
    ∷ row 10 (seconds ≔ 86399 ∷ status ≔ status_ins ∷ [])
    (rollover then (seconds is 86399 ∷ status is status_oop ∷ [])
    ∷ rollover then (seconds is 86400 ∷ status is status_ok ∷ []) ∷ [])
    ∷ row 11 (seconds ≔ 86398 ∷ status ≔ status_del ∷ [])
    (rollover then (seconds is 86400 ∷ status is status_ok ∷ []) ∷ [])
    ∷ row 12 []
    (call_of (set 4294967295 996093) then (refusal 0 ∷ [])
    ∷ tick_times 1 then (refusal 0 ∷ [])
    ∷ tick_times 1 then (refusal 3 ∷ []) ∷ [])
    ∷ row 13 []
    (call_of (set 4294967295 996094) then (refusal 0 ∷ [])
    ∷ tick_times 1 then (refusal 3 ∷ []) ∷ [])
    ∷ row 14 (seconds ≔ 86399 ∷ status ≔ status_ins ∷ updated ≔ 1 ∷ interval ≔ 63 ∷ [])
    (rollover then (seconds is 86399 ∷ interval is 64 ∷ [])
    ∷ rollover then (seconds is 86400 ∷ interval is 65 ∷ []) ∷ [])
    ∷ row 15 (seconds ≔ 86398 ∷ status ≔ status_del ∷ updated ≔ 1 ∷ interval ≔ 1023 ∷ [])
    (rollover then (seconds is 86400 ∷ interval is 1024 ∷ [])
    ∷ rollover then (seconds is 86401 ∷ interval is 1024 ∷ []) ∷ [])
    ∷ row 16 []
    (rollover then (updated is 0 ∷ interval is 0 ∷ [])
    ∷ call_of (asks (pos 1000)) then (refusal 0 ∷ updated is 1 ∷ interval is 0 ∷ [])
    ∷ rollover then (updated is 1 ∷ interval is 1 ∷ [])
    ∷ call_of (asks (pos 128000)) then (refusal 5 ∷ updated is 1 ∷ interval is 1 ∷ [])
    ∷ call_of asks_nothing then (refusal 0 ∷ updated is 1 ∷ interval is 1 ∷ [])
    ∷ call_of (set 0 0) then (refusal 0 ∷ updated is 0 ∷ interval is 0 ∷ [])
    ∷ call_of (asks (pos 1000)) then (refusal 0 ∷ updated is 1 ∷ interval is 0 ∷ []) ∷ [])
    ∷ row 17 (kind ≔ kind1024 ∷ [])
    (tick_times 1023 then (seconds is 0 ∷ micros is 999023 ∷ phase isℤ pos 117440512 ∷ []) ∷ [])
    ∷ row 18 (kind ≔ kind1024 ∷ [])
    (tick_times 1024 then (seconds is 1 ∷ micros is 0 ∷ phase isℤ pos 0 ∷ []) ∷ [])
    ∷ row 19 (kind ≔ kind1024 ∷ constant ≔ 0 ∷ frequency ≔ℤ pos 0 ∷ [])
    (call_of (asks (pos 1000)) then (refusal 0 ∷ [])
    ∷ rollover then (seconds is 1 ∷ left isℤ pos 16368000 ∷ adjustment isℤ pos 151250944 ∷ []) ∷ [])
    ∷ row 20 (kind ≔ kind1024 ∷ constant ≔ 4 ∷ frequency ≔ℤ pos 0 ∷ [])
    (call_of (asks (pos 1000)) then (refusal 0 ∷ [])
    ∷ rollover then (seconds is 1 ∷ left isℤ pos 16383000 ∷ adjustment isℤ pos 151010944 ∷ []) ∷ [])
    ∷ row 21 (kind ≔ kind1024 ∷ left ≔ℤ neg_ℤ (pos 1023) ∷ constant ≔ 0 ∷ frequency ≔ℤ neg_ℤ (pos 63) ∷ [])
    (rollover then (seconds is 1 ∷ left isℤ neg_ℤ (pos 1023) ∷ adjustment isℤ pos 150994944 ∷ []) ∷ [])
    ∷ row 22 (kind ≔ kind1024 ∷ phase ≔ℤ pos 268435455 ∷ adjustment ≔ℤ pos 209977088 ∷ [])
    (tick_times 1 then (carried (pos 1) ∷ micros is 977 ∷ phase isℤ pos 209977087 ∷ []) ∷ [])
    ∷ row 23 (kind ≔ kind1024 ∷ phase ≔ℤ neg_ℤ (pos 200000000) ∷ adjustment ≔ℤ pos 92012800 ∷ [])
    (tick_times 1 then (carried (pos 0) ∷ micros is 976 ∷ phase isℤ neg_ℤ (pos 107987200) ∷ []) ∷ [])
    ∷ row 24 (kind ≔ kind1024 ∷ frequency ≔ℤ pos 6400 ∷ [])
    (call_of (set 5 0) then (refusal 0 ∷ kind is kind1024 ∷ adjustment isℤ pos 150995044 ∷ []) ∷ [])
    ∷ row 25 (kind ≔ 2 ∷ [])
    (call_of (set 5 0) then (refusal 1 ∷ kind is 2 ∷ seconds is 0 ∷ []) ∷ [])
    ∷ row 26 (updated ≔ 1 ∷ interval ≔ 63 ∷ [])
    (call_of (asks (pos 1000)) then (refusal 17 ∷ left isℤ pos 0 ∷ updated is 1 ∷ interval is 63 ∷ [])
    ∷ call_of (asks_at 5 (pos 1000)) then (refusal 9 ∷ [])
    ∷ call_of asks_nothing then (refusal 0 ∷ interval is 63 ∷ [])
    ∷ rollover then (interval is 64 ∷ [])
    ∷ call_of (asks (pos 1000)) then (refusal 0 ∷ left isℤ pos 16384000 ∷ frequency isℤ pos 64000 ∷ interval is 0 ∷ []) ∷ [])
    ∷ row 27 (micros ≔ 996094 ∷ frequency ≔ℤ neg_ℤ (pos 17) ∷ [])
    (rollover then (seconds is 1 ∷ micros is 0 ∷ adjustment isℤ pos 67108863 ∷ remainder isℤ neg_ℤ (pos 1) ∷ leftover isℤ pos 0 ∷ [])
    ∷ tick_times 1 then (phase isℤ pos 134217727 ∷ leftover isℤ neg_ℤ (pos 1) ∷ [])
    ∷ tick_times 14 then (phase isℤ pos 268435441 ∷ leftover isℤ neg_ℤ (pos 15) ∷ [])
    ∷ tick_times 1 then (carried (pos 1) ∷ micros is 62500 ∷ phase isℤ pos 67108847 ∷ leftover isℤ pos 0 ∷ []) ∷ [])
    ∷ row 28 (kind ≔ kind1024 ∷ micros ≔ 999024 ∷ frequency ≔ℤ pos 191 ∷ [])
    (rollover then (seconds is 1 ∷ micros is 0 ∷ adjustment isℤ pos 150994946 ∷ remainder isℤ pos 63 ∷ leftover isℤ pos 0 ∷ [])
    ∷ tick_times 1 then (carried (pos 1) ∷ phase isℤ pos 33554434 ∷ leftover isℤ pos 63 ∷ [])
    ∷ tick_times 1 then (carried (pos 0) ∷ phase isℤ pos 184549381 ∷ leftover isℤ pos 62 ∷ []) ∷ [])
    ∷ row 29 (remainder ≔ℤ pos 1 ∷ leftover ≔ℤ pos 15 ∷ [])
    (tick_times 1 then (phase isℤ pos 67108865 ∷ remainder isℤ pos 1 ∷ leftover isℤ pos 0 ∷ []) ∷ [])
    ∷ row 30 (remainder ≔ℤ neg_ℤ (pos 15) ∷ leftover ≔ℤ neg_ℤ (pos 1) ∷ [])
    (tick_times 1 then (phase isℤ pos 67108863 ∷ leftover isℤ pos 0 ∷ []) ∷ [])
    ∷ row 31 (remainder ≔ℤ neg_ℤ (pos 15) ∷ leftover ≔ℤ pos 15 ∷ [])
    (tick_times 2 then (phase isℤ pos 134217728 ∷ leftover isℤ neg_ℤ (pos 15) ∷ [])
    ∷ tick_times 1 then (phase isℤ pos 201326591 ∷ leftover isℤ neg_ℤ (pos 14) ∷ []) ∷ [])
    ∷ row 32 (phase ≔ℤ pos 201326591 ∷ remainder ≔ℤ pos 1 ∷ leftover ≔ℤ pos 15 ∷ [])
    (tick_times 1 then (carried (pos 1) ∷ micros is 3907 ∷ phase isℤ pos 0 ∷ leftover isℤ pos 0 ∷ []) ∷ [])
    ∷ row 33 (seconds ≔ 4294967295 ∷ micros ≔ 996093 ∷ phase ≔ℤ pos 201326591 ∷ remainder ≔ℤ pos 1 ∷ leftover ≔ℤ pos 15 ∷ [])
    (tick_times 1 then (refusal 3 ∷ micros is 996093 ∷ phase isℤ pos 201326591 ∷ leftover isℤ pos 15 ∷ []) ∷ [])
    ∷ row 34 (seconds ≔ 4294967295 ∷ micros ≔ 996093 ∷ phase ≔ℤ pos 201326591 ∷ remainder ≔ℤ pos 1 ∷ leftover ≔ℤ pos 14 ∷ [])
    (tick_times 1 then (refusal 0 ∷ micros is 999999 ∷ phase isℤ pos 268435455 ∷ leftover isℤ pos 15 ∷ []) ∷ [])
    ∷ row 35 (frequency ≔ℤ neg_ℤ (pos 1677721599) ∷ remainder ≔ℤ pos 3 ∷ leftover ≔ℤ pos 7 ∷ [])
    (call_of (set 5 0) then (refusal 0 ∷ adjustment isℤ neg_ℤ (pos 37748735) ∷ remainder isℤ neg_ℤ (pos 15) ∷ leftover isℤ pos 0 ∷ []) ∷ [])
    ∷ row 36 (micros ≔ 999999 ∷ frequency ≔ℤ pos 35 ∷ remainder ≔ℤ pos 5 ∷ leftover ≔ℤ pos 4 ∷ [])
    (rollover then (seconds is 1 ∷ micros is 3905 ∷ adjustment isℤ pos 67108866 ∷ remainder isℤ pos 3 ∷ leftover isℤ pos 9 ∷ []) ∷ [])
    ∷ row 37 (kind ≔ kind1024 ∷ remainder ≔ℤ neg_ℤ (pos 1) ∷ leftover ≔ℤ neg_ℤ (pos 63) ∷ [])
    (tick_times 1 then (phase isℤ pos 150994943 ∷ leftover isℤ pos 0 ∷ []) ∷ [])
    ∷ row 38 (leftover ≔ℤ neg_ℤ (pos 16) ∷ [])
    (tick_times 1 then (refusal 1 ∷ leftover isℤ neg_ℤ (pos 16) ∷ []) ∷ [])
    ∷ row 39 (kind ≔ kind1024 ∷ leftover ≔ℤ pos 64 ∷ [])
    (tick_times 1 then (refusal 1 ∷ leftover isℤ pos 64 ∷ []) ∷ [])
    ∷ row 40 (remainder ≔ℤ pos 16 ∷ [])
    (call_of (set 5 0) then (refusal 1 ∷ remainder isℤ pos 16 ∷ []) ∷ [])
    ∷ row 41 (kind ≔ kind1024 ∷ remainder ≔ℤ pos 16 ∷ leftover ≔ℤ neg_ℤ (pos 63) ∷ [])
    (tick_times 1 then (refusal 0 ∷ leftover isℤ neg_ℤ (pos 47) ∷ []) ∷ [])
    ∷ []

-- the name of a row, how many fields it starts with, and how many values it says are seen
pub record Heading : Type 0 where
  pub name : ℕ
  pub fields : ℕ
  pub values : ℕ

infixl 80 ◌starts◌shows◌
abbrev pub ◌starts◌shows◌ : ℕ → ℕ → ℕ → Heading
n starts f shows k = record { name = n; fields = f; values = k }

abbrev pub values_in : List Stage → ℕ
values_in [] = 0
values_in (g ∷ gs) = length g.then + values_in gs

abbrev pub headings : List Case → List Heading
headings [] = []
headings (k ∷ ks) = (k.name starts length k.from shows values_in k.stages) ∷ headings ks

-- The rows that there are: 1 to 11 document 01's, of which 6 is at two frequencies, 12 and 13 its edges at
-- the last second; of document 02 the interval 14 to 16, the second device 17 to 25, an offset too soon 26,
-- and the kept remainder 27 to 41.
abbrev pub all_headings : List Heading
all_headings =
    1 starts 0 shows 3 ∷ 2 starts 0 shows 3 ∷ 3 starts 2 shows 4 ∷ 4 starts 2 shows 4 ∷ 5 starts 3 shows 3
    ∷ 6 starts 3 shows 3 ∷ 6 starts 4 shows 3 ∷ 7 starts 4 shows 2 ∷ 8 starts 2 shows 3 ∷ 9 starts 2 shows 3
    ∷ 10 starts 2 shows 4 ∷ 11 starts 2 shows 2 ∷ 12 starts 0 shows 3 ∷ 13 starts 0 shows 2
    ∷ 14 starts 4 shows 4 ∷ 15 starts 4 shows 4 ∷ 16 starts 0 shows 19 ∷ 17 starts 1 shows 3
    ∷ 18 starts 1 shows 3 ∷ 19 starts 3 shows 4 ∷ 20 starts 3 shows 4 ∷ 21 starts 4 shows 3
    ∷ 22 starts 3 shows 3 ∷ 23 starts 3 shows 3 ∷ 24 starts 2 shows 3 ∷ 25 starts 1 shows 3
    ∷ 26 starts 2 shows 12 ∷ 27 starts 2 shows 13 ∷ 28 starts 3 shows 11 ∷ 29 starts 2 shows 3
    ∷ 30 starts 2 shows 2 ∷ 31 starts 2 shows 4 ∷ 32 starts 3 shows 4 ∷ 33 starts 5 shows 4
    ∷ 34 starts 5 shows 4 ∷ 35 starts 3 shows 4 ∷ 36 starts 4 shows 5 ∷ 37 starts 3 shows 2
    ∷ 38 starts 1 shows 2 ∷ 39 starts 2 shows 2 ∷ 40 starts 1 shows 2 ∷ 41 starts 3 shows 2 ∷ []

-- every row is there, and each holds
pub record MarkedCases : Type 0 where
  pub named : headings marked_cases ≡ all_headings
  pub hold : all_cases marked_cases ≡ true
