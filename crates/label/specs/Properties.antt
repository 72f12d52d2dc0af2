-- What holds of all labels: the statements that the crate proves of the definitions. Each is said of any
-- reader, which is what it may answer, or of any writer, which is what it leaves in the buffer, and holds of
-- those that the contracts name: `ReadsAs`, `written_to`.
use Rattle.std.specs.Prelude.{◌≡◌, ℕ, Bool, true, false, ◌↔◌, List, [], ◌∷◌, ◌++◌, take, drop}
use Rattle.state.specs.declared.state.Clock.{Clock}
use Rattle.label.specs.declared.UtcSecond.{UtcSecond}
use Rattle.label.specs.Label.{label_size, label_of, is_sixty}
use Rattle.label.specs.Writing.{write_refusal}
use Rattle.label.specs.Reading.{label, no_label, WrittenFor, ReadsAs}

abbrev pub Reader : Type 1
Reader = List ℕ → UtcSecond → Type 0

abbrev pub Writer : Type 0
Writer = Clock → List ℕ → List ℕ

-- the reader has one answer
abbrev pub OneAnswer : Reader → Type 0
OneAnswer reads = (text : List ℕ) (r r' : UtcSecond) → reads text r → reads text r' → r ≡ r'

-- "The reader accepts exactly the strings of twenty bytes that the writer can write"
abbrev pub AcceptedIff : Reader → Type 0
AcceptedIff reads =
    (text : List ℕ) (r : UtcSecond) → reads text r → (r.refusal ≡ 0) ↔ ((c : Clock) × WrittenFor c text)

-- what was written is read: the second, and whether it was a 60
abbrev pub ReadsWritten : Writer → Type 0
ReadsWritten write =
    (c : Clock) (out : List ℕ) (r : UtcSecond) → write_refusal c out ≡ 0
    → ReadsAs (take label_size (write c out)) r
    → r ≡ label c.seconds (is_sixty c)

-- what was read is written again, by every clock that shows the second read, with a 60 or without
abbrev pub WritesRead : Writer → Type 0
WritesRead write =
    (text : List ℕ) (s : ℕ) (sixty : Bool) (c : Clock) (out : List ℕ) → ReadsAs text (label s sixty)
    → c.seconds ≡ s → is_sixty c ≡ sixty → write_refusal c out ≡ 0 → write c out ≡ text ++ drop label_size out

-- ---- readers and writers that these shut out

-- every answer is allowed; every string is read as second 0; every string is refused
abbrev pub any_answer : Reader
any_answer text r = Unit {0}

abbrev pub accepts_all : Reader
accepts_all text r = r ≡ label 0 false

abbrev pub refuses_all : Reader
refuses_all text r = r ≡ no_label

-- the buffer is left as it was
abbrev pub leaves_all : Writer
leaves_all c out = out

pub record ShutOut : Type 0 where
  pub several : OneAnswer any_answer → ⊥
  pub accepting : AcceptedIff accepts_all → ⊥
  pub refusing : AcceptedIff refuses_all → ⊥
  pub unread : ReadsWritten leaves_all → ⊥
  pub unwritten : WritesRead leaves_all → ⊥

-- ---- labels of document 01

-- "Second 951,782,400 is `2000-02-29T00:00:00Z`"
abbrev pub leap_day : List ℕ
leap_day =
    0x32 ∷ 0x30 ∷ 0x30 ∷ 0x30 ∷ 0x2D ∷ 0x30 ∷ 0x32 ∷ 0x2D ∷ 0x32 ∷ 0x39
    ∷ 0x54 ∷ 0x30 ∷ 0x30 ∷ 0x3A ∷ 0x30 ∷ 0x30 ∷ 0x3A ∷ 0x30 ∷ 0x30 ∷ 0x5A ∷ []

-- "up to `2106-02-07T06:28:15Z`", second 4,294,967,295; a second later it would be 06:28:16
abbrev pub last_label : List ℕ
last_label =
    0x32 ∷ 0x31 ∷ 0x30 ∷ 0x36 ∷ 0x2D ∷ 0x30 ∷ 0x32 ∷ 0x2D ∷ 0x30 ∷ 0x37
    ∷ 0x54 ∷ 0x30 ∷ 0x36 ∷ 0x3A ∷ 0x32 ∷ 0x38 ∷ 0x3A ∷ 0x31 ∷ 0x35 ∷ 0x5A ∷ []

abbrev pub one_past : List ℕ
one_past =
    0x32 ∷ 0x31 ∷ 0x30 ∷ 0x36 ∷ 0x2D ∷ 0x30 ∷ 0x32 ∷ 0x2D ∷ 0x30 ∷ 0x37
    ∷ 0x54 ∷ 0x30 ∷ 0x36 ∷ 0x3A ∷ 0x32 ∷ 0x38 ∷ 0x3A ∷ 0x31 ∷ 0x36 ∷ 0x5A ∷ []

-- the inserted second of the first day, `1970-01-01T23:59:60Z`, and none of the last, `2106-02-07T23:59:60Z`
abbrev pub inserted : List ℕ
inserted =
    0x31 ∷ 0x39 ∷ 0x37 ∷ 0x30 ∷ 0x2D ∷ 0x30 ∷ 0x31 ∷ 0x2D ∷ 0x30 ∷ 0x31
    ∷ 0x54 ∷ 0x32 ∷ 0x33 ∷ 0x3A ∷ 0x35 ∷ 0x39 ∷ 0x3A ∷ 0x36 ∷ 0x30 ∷ 0x5A ∷ []

abbrev pub no_sixty : List ℕ
no_sixty =
    0x32 ∷ 0x31 ∷ 0x30 ∷ 0x36 ∷ 0x2D ∷ 0x30 ∷ 0x32 ∷ 0x2D ∷ 0x30 ∷ 0x37
    ∷ 0x54 ∷ 0x32 ∷ 0x33 ∷ 0x3A ∷ 0x35 ∷ 0x39 ∷ 0x3A ∷ 0x36 ∷ 0x30 ∷ 0x5A ∷ []

-- some bytes are answered so, and not otherwise
pub record AnsweredAs (reads : Reader) (text : List ℕ) (a : UtcSecond) : Type 0 where
  pub given : reads text a
  pub only : (r : UtcSecond) → reads text r → r ≡ a

-- how the labels are written of their seconds, and how each of the strings is read
pub record Labels (bytes : ℕ → Bool → List ℕ) (reads : Reader) : Type 0 where
  pub leap_written : bytes 951782400 false ≡ leap_day
  pub last_written : bytes 4294967295 false ≡ last_label
  pub sixty_written : bytes 86399 true ≡ inserted
  pub leap : AnsweredAs reads leap_day (label 951782400 false)
  pub last : AnsweredAs reads last_label (label 4294967295 false)
  pub sixty : AnsweredAs reads inserted (label 86399 true)
  pub past : AnsweredAs reads one_past no_label
  pub past_sixty : AnsweredAs reads no_sixty no_label

-- ---- what they shut out

-- no answer is allowed
abbrev pub no_answer : Reader
no_answer text r = ⊥

-- no second reads 60
abbrev pub never_sixty : ℕ → Bool → List ℕ
never_sixty s sixty = label_of s false

pub record WrongLabels : Type 0 where
  pub silent : Labels label_of no_answer → ⊥
  pub fifty_nine : Labels never_sixty ReadsAs → ⊥
