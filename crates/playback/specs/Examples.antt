-- Histories and all that they print, byte by byte. They are stated of whatever prints, so that a replay that
-- prints otherwise is shut out.
use Rattle.std.specs.Prelude.{◌≡◌, cond, List, [], ◌∷◌, ℕ, eqb, length}
use Rattle.playback.specs.Lines.{newline}
use Rattle.playback.specs.Run.{replay_of}

-- `1970-01-01T00:00:01Z 000000 4`
abbrev pub first_second : List ℕ
first_second =
    0x31 ∷ 0x39 ∷ 0x37 ∷ 0x30 ∷ 0x2D ∷ 0x30 ∷ 0x31 ∷ 0x2D ∷ 0x30 ∷ 0x31
    ∷ 0x54 ∷ 0x30 ∷ 0x30 ∷ 0x3A ∷ 0x30 ∷ 0x30 ∷ 0x3A ∷ 0x30 ∷ 0x31 ∷ 0x5A
    ∷ 0x20 ∷ 0x30 ∷ 0x30 ∷ 0x30 ∷ 0x30 ∷ 0x30 ∷ 0x30 ∷ 0x20 ∷ 0x34 ∷ 0x0A ∷ []

-- `log 10 at 0`
abbrev pub log10 : List ℕ
log10 = 0x6C ∷ 0x6F ∷ 0x67 ∷ 0x20 ∷ 0x31 ∷ 0x30 ∷ 0x20 ∷ 0x61 ∷ 0x74 ∷ 0x20 ∷ 0x30 ∷ 0x0A ∷ []

-- `log 11 at 0`
abbrev pub log11 : List ℕ
log11 = 0x6C ∷ 0x6F ∷ 0x67 ∷ 0x20 ∷ 0x31 ∷ 0x31 ∷ 0x20 ∷ 0x61 ∷ 0x74 ∷ 0x20 ∷ 0x30 ∷ 0x0A ∷ []

-- `log 12 at 0`
abbrev pub log12 : List ℕ
log12 = 0x6C ∷ 0x6F ∷ 0x67 ∷ 0x20 ∷ 0x31 ∷ 0x32 ∷ 0x20 ∷ 0x61 ∷ 0x74 ∷ 0x20 ∷ 0x30 ∷ 0x0A ∷ []

-- `refused 4`, and then `log 12 at 3`
abbrev pub refused4 : List ℕ
refused4 =
    0x72 ∷ 0x65 ∷ 0x66 ∷ 0x75 ∷ 0x73 ∷ 0x65 ∷ 0x64 ∷ 0x20 ∷ 0x34 ∷ 0x0A
    ∷ 0x6C ∷ 0x6F ∷ 0x67 ∷ 0x20 ∷ 0x31 ∷ 0x32 ∷ 0x20 ∷ 0x61 ∷ 0x74 ∷ 0x20 ∷ 0x33 ∷ 0x0A ∷ []

-- `95 1 2`
abbrev pub one_offset : List ℕ
one_offset = 0x39 ∷ 0x35 ∷ 0x20 ∷ 0x31 ∷ 0x20 ∷ 0x32 ∷ 0x0A ∷ []

-- `log 12 at 9`
abbrev pub log12_at9 : List ℕ
log12_at9 = 0x6C ∷ 0x6F ∷ 0x67 ∷ 0x20 ∷ 0x31 ∷ 0x32 ∷ 0x20 ∷ 0x61 ∷ 0x74 ∷ 0x20 ∷ 0x39 ∷ 0x0A ∷ []

pub record Examples (prints : List ℕ → List ℕ) : Type 0 where
  -- "Input `00 80 02 03` prints exactly `1970-01-01T00:00:01Z 000000 4`."
  pub documented : prints (0x00 ∷ 0x80 ∷ 0x02 ∷ 0x03 ∷ []) ≡ first_second
  pub nothing : prints [] ≡ []
  -- `80` ends inside a number
  pub inside : prints (0x80 ∷ []) ≡ log10
  -- the code 3 in two bytes
  pub long_form : prints (0x83 ∷ 0x00 ∷ []) ≡ log11
  -- the number 128 is no code, and the print after it is not run
  pub unknown_code : prints (0x80 ∷ 0x01 ∷ 0x03 ∷ []) ≡ log12
  -- mode 65 brings an offset and is refused; then 4 is no code, and nothing after it is run
  pub high_mode : prints (0x02 ∷ 0x41 ∷ 0x02 ∷ 0x04 ∷ 0x03 ∷ []) ≡ refused4
  -- the summary is asked for, the clock is set to 86,399 s, and an offset of -2 us is accepted
  pub summary : prints (0x04 ∷ 0x01 ∷ 0xFF ∷ 0xA2 ∷ 0x05 ∷ 0x00 ∷ 0x02 ∷ 0x01 ∷ 0x03 ∷ []) ≡ one_offset
  -- it is not printed after `log`, here of its code at another place
  pub asked_again : prints (0x04 ∷ 0x01 ∷ 0xFF ∷ 0xA2 ∷ 0x05 ∷ 0x00 ∷ 0x02 ∷ 0x01 ∷ 0x03 ∷ 0x04 ∷ []) ≡ log12_at9
  -- and has no line where no offset is accepted: no tick, no tick, and a time constant of 0
  pub no_offset : prints (0x04 ∷ 0x00 ∷ 0x00 ∷ 0x00 ∷ 0x00 ∷ 0x02 ∷ 0x20 ∷ 0x00 ∷ []) ≡ []

-- by the rules
abbrev pub output_of : List ℕ → List ℕ
output_of s = (replay_of s).output

-- an empty line in place of all that a history of n bytes prints
abbrev pub empty_for : ℕ → List ℕ → List ℕ
empty_for n s = cond (eqb (length s) n) (newline ∷ []) (output_of s)

pub record WrongOutputs : Type 0 where
  pub documented : Examples (empty_for 4) → ⊥
  pub nothing : Examples (empty_for 0) → ⊥
  pub inside : Examples (empty_for 1) → ⊥
  pub long_form : Examples (empty_for 2) → ⊥
  pub unknown_code : Examples (empty_for 3) → ⊥
  pub high_mode : Examples (empty_for 5) → ⊥
  pub summary : Examples (empty_for 9) → ⊥
  pub asked_again : Examples (empty_for 10) → ⊥
  pub no_offset : Examples (empty_for 8) → ⊥
