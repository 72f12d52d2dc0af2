-- What holds of all records: the statements that the crate proves of the definitions, for whoever wants to
-- know what the field-by-field definitions come to. What is owed of every reading or writing is said of any
-- reader or writer, and holds of those that the contracts name: `reading_of`, `record_of`, `saving_of` with
-- `buffer_after`. Those that it shuts out are in `WrongReaders`. `Refusals` and `FreshRecords` are bytes of
-- these themselves, and `Longest` and `OneLongest` are about records, whoever writes them.
use Rattle.std.specs.Prelude.{◌≡◌, Bool, true, List, [], ◌∷◌, ◌++◌, ◌⊎◌, ℕ, ◌<◌, ◌≤◌, ℤ, pos, length, get_or, take, drop}
use Rattle.state.specs.Refusal.{refused_ended, refused_form, refused_field, refused_beyond}
use Rattle.number.specs.Form.{Bytes}
use Rattle.number.specs.Layout.{suits, mapped_range}
use Rattle.number.specs.Mapping.{mapped}
use Rattle.number.specs.Stopping.{Stops}
use Rattle.state.specs.Device.{kind_range, kind256, kind1024, device_of}
use Rattle.state.specs.State.{in_range, fresh_clock, flag_range, parts_range}
use Rattle.state.specs.declared.state.Clock.{Clock}
use Rattle.record.specs.Layout.{newest, known_version, holds_kind, holds_parts, reftime_range, last_range, kept_update, record_in, record_of, record_layout}
use Rattle.record.specs.Reading.{reading_of, accepted, refused_with}
use Rattle.record.specs.declared.restore.Restored.{Restored}
use Rattle.record.specs.Saving.{Saved}

-- a remainder or a leftover that a record of this version and kind can hold
abbrev pub suits_parts : ℕ → ℕ → ℤ → Bool
suits_parts version kind z = suits (holds_parts version) (mapped_range (parts_range (device_of kind))) (mapped z)

-- A record of this version, with this flag and what follows it at the places of the earlier update, says the
-- clock c: the clock is in range, its kind, remainder and leftover are 0 where the version holds none, flag
-- and last are in their ranges, and the clock's earlier update is what is kept of them.
pub record Says (version : ℕ) (c : Clock) (flag last : ℕ) : Type 0 where
  pub known : known_version version ≡ true
  pub sound : in_range c ≡ true
  pub kind : suits (holds_kind version) kind_range c.kind ≡ true
  pub flagged : flag_range flag ≡ true
  pub ranged : last_range version flag last ≡ true
  pub update : record { updated = c.updated; interval = c.interval } ≡ kept_update version flag last
  pub remainder : suits_parts version c.kind c.remainder.0 ≡ true
  pub leftover : suits_parts version c.kind c.leftover.0 ≡ true

-- what a reading of some bytes answers, and the bytes that are written of a clock
abbrev pub Reader : Type 0
Reader = List ℕ → Restored

abbrev pub Writer : Type 0
Writer = Clock → List ℕ

-- ---- what was written is read

-- what a record says is read from it, in every version
abbrev pub ReadsBack : Reader → Type 0
ReadsBack read =
    (version : ℕ) (c : Clock) (flag last : ℕ) → Says version c flag last
    → read (record_in version c flag last) ≡ accepted c

-- .. and 13 where anything follows it
abbrev pub NothingFollows : Reader → Type 0
NothingFollows read =
    (version : ℕ) (c : Clock) (flag last : ℕ) (rest : List ℕ) → Says version c flag last → 0 < length rest
    → read (record_in version c flag last ++ rest) ≡ refused_with refused_beyond

-- "Writers use the newest version": what is written of a clock in range is its record of that version, which
-- says it
pub record WrittenNewest (write : Writer) (c : Clock) : Type 0 where
  pub written : write c ≡ record_in newest c c.updated c.interval
  pub says : Says newest c c.updated c.interval

abbrev pub WritesNewest : Writer → Type 0
WritesNewest write = (c : Clock) → in_range c ≡ true → WrittenNewest write c

-- ---- what is read was written

-- the version of a record: its first byte, since no version is above 127
abbrev pub version_of : List ℕ → ℕ
version_of s = get_or s 0 0

-- "older versions read with leftover 0 and the remainder 0", and the bytes of both in the newest
abbrev pub WithoutParts : Clock → Type 0
WithoutParts c = (c.remainder.0 ≡ pos 0) × (c.leftover.0 ≡ pos 0)

abbrev pub no_parts : List ℕ
no_parts = 0x00 ∷ 0x00 ∷ []

-- "one written form": accepted bytes are a record that says the clock which is read (that every such record
-- is accepted is `ReadsBack`)
pub record Whole (s : List ℕ) (c : Clock) : Type 0 where
  pub flag : ℕ
  pub last : ℕ
  pub says : Says (version_of s) c flag last
  pub written : s ≡ record_in (version_of s) c flag last

abbrev pub OneForm : Reader → Type 0
OneForm read = (s : List ℕ) → Bytes s → (read s).refusal ≡ 0 → Whole s (read s).clock

-- .. of the newest version: those that writing the clock gives
abbrev pub OneNewest : Reader → Writer → Type 0
OneNewest read write =
    (s : List ℕ) → Bytes s → (read s).refusal ≡ 0 → version_of s ≡ newest → s ≡ write (read s).clock

-- .. of version 3: those of a clock in range that has no remainder and no leftover
pub record OfVersion3 (s : List ℕ) (c : Clock) : Type 0 where
  pub sound : in_range c ≡ true
  pub parts : WithoutParts c
  pub written : s ≡ record_in 3 c c.updated c.interval

-- exactly these are read, and what is then written has the newest version in the place of its version and two
-- zeros at the end, and is else the same
pub record Version3 (read : Reader) (write : Writer) : Type 0 where
  pub only : (s : List ℕ) → Bytes s → (read s).refusal ≡ 0 → version_of s ≡ 3 → OfVersion3 s (read s).clock
  pub always : (s : List ℕ) (c : Clock) → OfVersion3 s c → read s ≡ accepted c
  pub after : (s : List ℕ) (c : Clock) → OfVersion3 s c → write c ≡ newest ∷ drop 1 s ++ no_parts

-- .. of version 2: those of such a clock, of kind 0
pub record OfVersion2 (s : List ℕ) (c : Clock) : Type 0 where
  pub sound : in_range c ≡ true
  pub kind : c.kind ≡ kind256
  pub parts : WithoutParts c
  pub written : s ≡ record_in 2 c c.updated c.interval

-- exactly these are read, and what is then written has the kind too, after the version
pub record Version2 (read : Reader) (write : Writer) : Type 0 where
  pub only : (s : List ℕ) → Bytes s → (read s).refusal ≡ 0 → version_of s ≡ 2 → OfVersion2 s (read s).clock
  pub always : (s : List ℕ) (c : Clock) → OfVersion2 s c → read s ≡ accepted c
  pub after : (s : List ℕ) (c : Clock) → OfVersion2 s c → write c ≡ newest ∷ kind256 ∷ drop 1 s ++ no_parts

-- .. of version 1: those of such a clock, of kind 0, that has no earlier update, with a flag and a second
-- beside it, which are judged as document 01 says and not kept
pub record OfVersion1 (s : List ℕ) (c : Clock) : Type 0 where
  pub flag : ℕ
  pub second : ℕ
  pub flagged : flag_range flag ≡ true
  pub ranged : reftime_range flag second ≡ true
  pub sound : in_range c ≡ true
  pub kind : c.kind ≡ kind256
  pub none : (c.updated ≡ 0) × (c.interval ≡ 0)
  pub parts : WithoutParts c
  pub written : s ≡ record_in 1 c flag second

-- exactly these are read, and what is then written is what its version 2 record, without an earlier update,
-- would be written again as
pub record Version1 (read : Reader) (write : Writer) : Type 0 where
  pub only : (s : List ℕ) → Bytes s → (read s).refusal ≡ 0 → version_of s ≡ 1 → OfVersion1 s (read s).clock
  pub always : (s : List ℕ) (c : Clock) → OfVersion1 s c → read s ≡ accepted c
  pub after : (s : List ℕ) (c : Clock) → OfVersion1 s c
      → write c ≡ newest ∷ kind256 ∷ drop 1 (record_in 2 c 0 0) ++ no_parts

-- ---- what is refused

-- the fresh clocks' fields from the seconds to the status, in every version
abbrev pub fresh_fields256 : List ℕ
fresh_fields256 =
    0x00 ∷ 0x00 ∷ 0x00 ∷ 0x00 ∷ 0x00 ∷ 0x80 ∷ 0x80 ∷ 0x80 ∷ 0x40 ∷ 0x00 ∷ 0x00 ∷ 0x00
    ∷ 0x80 ∷ 0xC8 ∷ 0xD0 ∷ 0x07 ∷ 0x80 ∷ 0xC8 ∷ 0xD0 ∷ 0x07 ∷ 0x04 ∷ []

abbrev pub fresh_fields1024 : List ℕ
fresh_fields1024 =
    0x00 ∷ 0x00 ∷ 0x00 ∷ 0x00 ∷ 0x00 ∷ 0x80 ∷ 0x80 ∷ 0x80 ∷ 0x90 ∷ 0x01 ∷ 0x00 ∷ 0x00 ∷ 0x00
    ∷ 0x80 ∷ 0xC8 ∷ 0xD0 ∷ 0x07 ∷ 0x80 ∷ 0xC8 ∷ 0xD0 ∷ 0x07 ∷ 0x04 ∷ []

-- a reading is accepted, or refused with 10, 11, 12 or 13 and the fresh clock of kind 0
pub record Refused (x : Restored) : Type 0 where
  pub number : (10 ≤ x.refusal) × (x.refusal ≤ 13)
  pub fresh : x.clock ≡ fresh_clock kind256

abbrev pub RefusedIsFresh : Reader → Type 0
RefusedIsFresh read = (s : List ℕ) → ((read s).refusal ≡ 0) ⊎ Refused (read s)

-- every refusal is given exactly when the reading stops so: at the first field that fails to read, and with
-- 13 last
pub record RefusedWhen (read : Reader) (s : List ℕ) (r : ℕ) : Type 0 where
  pub only : read s ≡ refused_with r → Stops record_layout s 0 r
  pub always : Stops record_layout s 0 r → read s ≡ refused_with r

abbrev pub ExactlyWhen : Reader → Type 0
ExactlyWhen read = (s : List ℕ) (r : ℕ) → 0 < r → RefusedWhen read s r

-- .. as of these: no bytes, a version of two bytes whose last is 0, version 5, kind 2 in a record of the
-- newest version, and document 01's record of the fresh clock with a byte after its end
pub record Refusals : Type 0 where
  pub ends : reading_of [] ≡ refused_with refused_ended
  pub long : reading_of (0x81 ∷ 0x00 ∷ []) ≡ refused_with refused_form
  pub unknown : reading_of (0x05 ∷ []) ≡ refused_with refused_field
  pub outside : reading_of (0x04 ∷ 0x02 ∷ []) ≡ refused_with refused_field
  pub follows : reading_of (0x01 ∷ fresh_fields256 ++ 0x00 ∷ []) ≡ refused_with refused_beyond

-- ---- how long a record is, and the fresh clocks'

-- no record of the version is longer than n bytes, and one has n
pub record LongestIs (version n : ℕ) : Type 0 where
  pub none : (c : Clock) (flag last : ℕ) → Says version c flag last → length (record_in version c flag last) ≤ n
  pub one : Clock
  pub flag : ℕ
  pub last : ℕ
  pub says : Says version one flag last
  pub long : length (record_in version one flag last) ≡ n

-- "The longest record is 45 bytes", of version 1; with the count in the place of the second it is 42, with
-- the kind 43, and with remainder and leftover 45 again
pub record Longest : Type 0 where
  pub version1 : LongestIs 1 45
  pub version2 : LongestIs 2 42
  pub version3 : LongestIs 3 43
  pub version4 : LongestIs 4 45

-- a version has one such number: neither a byte less nor a byte more would do
abbrev pub OneLongest : Type 0
OneLongest = (version m n : ℕ) → LongestIs version m → LongestIs version n → m ≡ n

-- the records of the newest version are written, and the others are still read; that of version 1 is document
-- 01's: "The fresh clock, whole, in hexadecimal"
pub record FreshRecords : Type 0 where
  pub written256 : record_of (fresh_clock kind256) ≡ 0x04 ∷ 0x00 ∷ fresh_fields256 ++ no_parts
  pub written1024 : record_of (fresh_clock kind1024) ≡ 0x04 ∷ 0x01 ∷ fresh_fields1024 ++ no_parts
  pub read3of256 : reading_of (0x03 ∷ 0x00 ∷ fresh_fields256) ≡ accepted (fresh_clock kind256)
  pub read3of1024 : reading_of (0x03 ∷ 0x01 ∷ fresh_fields1024) ≡ accepted (fresh_clock kind1024)
  pub read2 : reading_of (0x02 ∷ fresh_fields256) ≡ accepted (fresh_clock kind256)
  pub read1 : reading_of (0x01 ∷ fresh_fields256) ≡ accepted (fresh_clock kind256)

-- ---- through a buffer

-- after a write that was not refused, the bytes that it counted are read as the clock, and the later ones are
-- as they were
pub record Kept (c : Clock) (buf after : List ℕ) (length : ℕ) : Type 0 where
  pub read : reading_of (take length after) ≡ accepted c
  pub later : drop length after ≡ drop length buf

-- .. for what a write answers, and the buffer afterwards
abbrev pub SavedIsKept : (Clock → List ℕ → Saved) → (Clock → List ℕ → List ℕ) → Type 0
SavedIsKept answer after =
    (c : Clock) (buf : List ℕ) → (answer c buf).refusal ≡ 0 → Kept c buf (after c buf) (answer c buf).length
