-- Where the reading of a record stops, and with which number: every refusal, exactly when. Document 01: "A
-- record reader takes fields in order, and a field that fails to read ends the reading with its number; .. 13
-- comes last."
use Rattle.std.specs.Prelude.{◌≡◌, Bool, false, List, ◌⊎◌, ℕ, ◌<◌, length}
use Rattle.state.specs.Refusal.{refused_field, refused_beyond}
use Rattle.number.specs.Reading.{Found, number, refused, number_at}
use Rattle.number.specs.Layout.{place_at, Layout, place, whole, Outcome, failed, read_from}

-- A reading stops at the first field that fails to read, with that field's number; or at the record's end,
-- with 13, where more bytes follow.
unfoldable pub Stops : {A : Type 0} → Layout A → List ℕ → ℕ → ℕ → Type 0
Stops (place here range rest) s at r =
    (place_at here range s at ≡ refused r)
    ⊎ record { n : ℕ; next : ℕ; read : place_at here range s at ≡ number n next; later : Stops (rest n) s next r }
Stops (whole saved) s at r = (at < length s) × (r ≡ refused_beyond)

-- what a reading of a layout gives, from a place of some bytes on
abbrev pub LayoutReader : Type 1
LayoutReader = (A : Type 0) → Layout A → List ℕ → ℕ → Outcome A

-- by the rules
abbrev pub reads_layout : LayoutReader
reads_layout A l s at = read_from l s at

-- a refusal is given exactly when the reading stops so (`reads_layout` does)
pub record StopsWhen {A : Type 0} (x : Outcome A) (l : Layout A) (s : List ℕ) (at r : ℕ) : Type 0 where
  pub only : x ≡ failed r → Stops l s at r
  pub always : Stops l s at r → x ≡ failed r

abbrev pub LayoutExactlyWhen : LayoutReader → Type 1
LayoutExactlyWhen read =
    (A : Type 0) (l : Layout A) (s : List ℕ) (at r : ℕ) → StopsWhen (read A l s at) l s at r

-- a number that was read at place `at`, and is out of its range
pub record Outside (range : ℕ → Bool) (s : List ℕ) (at : ℕ) : Type 0 where
  pub value : ℕ
  pub next : ℕ
  pub read : number_at s at ≡ number value next
  pub out : range value ≡ false

-- what a field of this range at a place of some bytes gives
abbrev pub FieldReader : Type 0
FieldReader = (ℕ → Bool) → List ℕ → ℕ → Found

-- a field fails to read exactly when its number does, with that number's refusal, or when it is out of range,
-- with 12 (`field_at` does)
pub record FailsWhen (x : Found) (range : ℕ → Bool) (s : List ℕ) (at r : ℕ) : Type 0 where
  pub only : x ≡ refused r → (number_at s at ≡ refused r) ⊎ (Outside range s at × (r ≡ refused_field))
  pub unread : number_at s at ≡ refused r → x ≡ refused r
  pub outside : Outside range s at → x ≡ refused refused_field

abbrev pub FieldExactlyWhen : FieldReader → Type 0
FieldExactlyWhen field =
    (range : ℕ → Bool) (s : List ℕ) (at r : ℕ) → FailsWhen (field range s at) range s at r
