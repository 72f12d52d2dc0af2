-- Records of numbers, as they are read from any bytes: fields in their order, and then nothing more. For any
-- type of what is saved; a crate that saves something gives its layout. Document 01: "A record reader takes
-- fields in order, and a field that fails to read ends the reading with its number; .. 13 comes last."
use Rattle.std.specs.Prelude.{Bool, true, cond, List, [], ◌∷◌, ℕ, ltb, eqb, ℤ, length}
use Rattle.state.specs.Refusal.{refused_field, refused_beyond}
use Rattle.number.specs.Mapping.{unmapped}
use Rattle.number.specs.Reading.{Found, number, refused, number_at}
use Rattle.number.specs.Sequence.{then}

-- a number out of the field's range is 12 "unknown record version .. or record field out of range"; 10 and 11
-- are the number's own
unfoldable pub judged_by : (ℕ → Bool) → Found → Found
judged_by range (number v next) = cond (range v) (number v next) (refused refused_field)
judged_by range (refused n) = refused n

-- the field at place `at` of s
unfoldable pub field_at : (ℕ → Bool) → List ℕ → ℕ → Found
field_at range s at = judged_by range (number_at s at)

-- a signed field's range, of the number that it is mapped to
abbrev pub mapped_range : (ℤ → Bool) → ℕ → Bool
mapped_range range n = range (unmapped n)

-- A layout: a place, whose number says how the record goes on; or, after the last place, what the numbers
-- before it stand for. A number that was read may decide that a later place is not there: it takes no bytes,
-- and reads as 0.
pub data Layout (A : Type 0) : Type 0 where
  place : (here : Bool) (range : ℕ → Bool) (rest : ℕ → Layout A) → Layout A
  whole : (saved : A) → Layout A

-- a field of every record
abbrev pub field : {A : Type 0} → (ℕ → Bool) → (ℕ → Layout A) → Layout A
field range rest = place true range rest

-- a number that suits a place: one in its range, and 0 where the place is not there
abbrev pub suits : Bool → (ℕ → Bool) → ℕ → Bool
suits here range n = cond here (range n) (eqb n 0)

-- of numbers for each place, those that are written: the places are there
unfoldable pub written : {A : Type 0} → Layout A → List ℕ → List ℕ
written (place here range rest) [] = []
written (place here range rest) (n ∷ ns) = cond here (n ∷ written (rest n) ns) (written (rest n) ns)
written (whole saved) ns = []

-- what stands at place `at` of s, for a place of the layout
abbrev pub place_at : Bool → (ℕ → Bool) → List ℕ → ℕ → Found
place_at here range s at = cond here (field_at range s at) (number 0 at)

-- What a reading gives: what was saved, or a number of document 01's table of refusals.
pub data Outcome (A : Type 0) : Type 0 where
  got : (saved : A) → Outcome A
  failed : (refusal : ℕ) → Outcome A

-- a reading from place `at` of s on; 13 "bytes after a record's end"
unfoldable pub read_from : {A : Type 0} → Layout A → List ℕ → ℕ → Outcome A
read_from (place here range rest) s at = then failed (place_at here range s at) (λ n next. read_from (rest n) s next)
read_from (whole saved) s at = cond (ltb at (length s)) (failed refused_beyond) (got saved)
