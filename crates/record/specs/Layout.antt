-- What a saved record holds: the fields in their order, the numbers and the bytes of a clock. Document 01,
-- "Saved record": "Thirteen numbers: version 1, then the table's fields in its order (earlier update is
-- two)." "Phase, offset left, frequency and adjustment are first mapped". Document 02: "Record version 2
-- carries the count in the place of the second, 0..1,024 and 0 if the flag is 0; a version 1 record is still
-- read, as having no earlier update. Writers use the newest version"; "Version 3 records hold the kind right
-- after the version, older ones read as 0"; "Version 4 records hold remainder and leftover, mapped, after the
-- status; older versions read with leftover 0 and the remainder 0 until the next rollover or setting". All
-- versions are one layout.
use Rattle.std.specs.Prelude.{Bool, cond, ◌&&◌, List, [], ◌∷◌, ℕ, leb, eqb}
use Rattle.number.specs.Form.{bytes_of_all}
use Rattle.number.specs.Layout.{Layout, place, field, whole, mapped_range, written}
use Rattle.number.specs.Mapping.{mapped, unmapped}
use Rattle.state.specs.Units.{micros, offset_units, phase_units, phase_parts, frequency_units}
use Rattle.state.specs.Device.{kind_range, device_of}
use Rattle.state.specs.State.{second_range, micros_range, phase_range, offset_range, frequency_range, adjustment_range, constant_range, flag_range, interval_range, zero_unless_flag, error_range, status_range, parts_range}
use Rattle.state.specs.declared.state.Clock.{Clock}
use Rattle.record.specs.declared.groups.Head.{Head}
use Rattle.record.specs.declared.groups.Time.{Time}
use Rattle.record.specs.declared.groups.Loop.{Loop}
use Rattle.record.specs.declared.groups.Rate.{Rate}
use Rattle.record.specs.declared.groups.Update.{Update}
use Rattle.record.specs.declared.groups.Errors.{Errors}
use Rattle.record.specs.declared.groups.Parts.{Parts}

-- the version that is written
abbrev pub newest : ℕ
newest = 4

-- the versions that are read: any other is unknown
abbrev pub known_version : ℕ → Bool
known_version n = leb 1 n && leb n newest

-- "Version 3 records hold the kind right after the version"
abbrev pub holds_kind : ℕ → Bool
holds_kind version = leb 3 version

-- "Version 4 records hold remainder and leftover"
abbrev pub holds_parts : ℕ → Bool
holds_parts version = leb 4 version

-- ---- the fields, by groups of two or three: what has been read of each, and what follows it

-- the version, and the kind of the device, which reads as 0 where it is not held
abbrev pub head_fields : (Head → Layout Clock) → Layout Clock
head_fields rest =
    field known_version (λ version.
    place (holds_kind version) kind_range (λ kind.
    rest (record { version = version; kind = kind })))

-- seconds, microseconds, phase
abbrev pub time_fields : (Time → Layout Clock) → Layout Clock
time_fields rest =
    field second_range (λ seconds.
    field micros_range (λ us.
    field (mapped_range phase_range) (λ phase.
    rest (record { seconds = seconds; micros = us; phase = phase }))))

-- offset left, frequency
abbrev pub loop_fields : (Loop → Layout Clock) → Layout Clock
loop_fields rest =
    field (mapped_range offset_range) (λ offset.
    field (mapped_range frequency_range) (λ frequency.
    rest (record { offset = offset; frequency = frequency })))

-- adjustment per tick, in the range of the record's own kind, and time constant
abbrev pub rate_fields : ℕ → (Rate → Layout Clock) → Layout Clock
rate_fields kind rest =
    field (mapped_range (adjustment_range (device_of kind))) (λ adjustment.
    field constant_range (λ constant.
    rest (record { adjustment = adjustment; constant = constant })))

-- version 1: the second of the earlier update, "0 if flag 0"
abbrev pub reftime_range : ℕ → ℕ → Bool
reftime_range flag n = second_range n && zero_unless_flag flag n

-- from version 2 on: "the count in the place of the second, 0..1,024 and 0 if the flag is 0"
abbrev pub count_range : ℕ → ℕ → Bool
count_range flag n = interval_range n && zero_unless_flag flag n

-- what follows the flag
abbrev pub last_range : ℕ → ℕ → ℕ → Bool
last_range version flag n = cond (eqb version 1) (reftime_range flag n) (count_range flag n)

-- "a version 1 record is still read, as having no earlier update"
abbrev pub kept_update : ℕ → ℕ → ℕ → Update
kept_update version flag last = cond (eqb version 1) (record { updated = 0; interval = 0 }) (record { updated = flag; interval = last })

-- earlier update: flag, and its second (version 1) or the rollovers since it
abbrev pub update_fields : ℕ → (Update → Layout Clock) → Layout Clock
update_fields version rest =
    field flag_range (λ flag.
    field (last_range version flag) (λ last.
    rest (kept_update version flag last)))

-- maximum error, estimated error, status
abbrev pub error_fields : (Errors → Layout Clock) → Layout Clock
error_fields rest =
    field error_range (λ maxerror.
    field error_range (λ esterror.
    field status_range (λ status.
    rest (record { maxerror = maxerror; esterror = esterror; status = status }))))

-- remainder, leftover: in the range of the record's own kind, and 0 where they are not held
abbrev pub part_fields : Head → (Parts → Layout Clock) → Layout Clock
part_fields h rest =
    place (holds_parts h.version) (mapped_range (parts_range (device_of h.kind))) (λ remainder.
    place (holds_parts h.version) (mapped_range (parts_range (device_of h.kind))) (λ leftover.
    rest (record { remainder = remainder; leftover = leftover })))

-- the clock that the numbers stand for
abbrev pub clock_of : Head → Time → Loop → Rate → Update → Errors → Parts → Clock
clock_of h t l a u e p =
    record {
      kind = h.kind;
      seconds = t.seconds;
      micros = micros t.micros;
      phase = phase_units (unmapped t.phase);
      offset = offset_units (unmapped l.offset);
      frequency = frequency_units (unmapped l.frequency);
      adjustment = phase_units (unmapped a.adjustment);
      constant = a.constant;
      updated = u.updated;
      interval = u.interval;
      maxerror = micros e.maxerror;
      esterror = micros e.esterror;
      status = e.status;
      remainder = phase_parts (unmapped p.remainder);
      leftover = phase_parts (unmapped p.leftover);
    }

-- version and kind, "then the table's fields in its order", remainder and leftover
unfoldable pub record_layout : Layout Clock
record_layout =
    head_fields (λ h.
    time_fields (λ t.
    loop_fields (λ l.
    rate_fields h.kind (λ a.
    update_fields h.version (λ u.
    error_fields (λ e.
    part_fields h (λ p.
    whole (clock_of h t l a u e p))))))))

-- ---- the numbers of a record

-- a number for each place: those of the clock, but at the two places of the earlier update a flag, and what
-- follows it
unfoldable pub places_in : ℕ → Clock → ℕ → ℕ → List ℕ
places_in version c flag last =
    version
    ∷ c.kind
    ∷ c.seconds
    ∷ c.micros.0
    ∷ mapped c.phase.0
    ∷ mapped c.offset.0
    ∷ mapped c.frequency.0
    ∷ mapped c.adjustment.0
    ∷ c.constant
    ∷ flag
    ∷ last
    ∷ c.maxerror.0
    ∷ c.esterror.0
    ∷ c.status
    ∷ mapped c.remainder.0
    ∷ mapped c.leftover.0
    ∷ []

-- of a version: those at the places that it has
unfoldable pub numbers_in : ℕ → Clock → ℕ → ℕ → List ℕ
numbers_in version c flag last = written record_layout (places_in version c flag last)

-- its bytes: those of the numbers, one after the other
unfoldable pub record_in : ℕ → Clock → ℕ → ℕ → List ℕ
record_in version c flag last = bytes_of_all (numbers_in version c flag last)

-- the record of a clock, as it is written
abbrev pub numbers_of : Clock → List ℕ
numbers_of c = numbers_in newest c c.updated c.interval

abbrev pub record_of : Clock → List ℕ
record_of c = record_in newest c c.updated c.interval
