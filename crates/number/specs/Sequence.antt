-- Readings that follow each other, as the fields of a record and the arguments of an event do, for any type
-- of answer. Document 01: "a field that fails to read ends the reading with its number".
use Rattle.std.specs.Prelude.{ℕ}
use Rattle.number.specs.Reading.{Found, number, refused}

-- A number that was read hands its value and the place after it on; a refusal ends the reading with what
-- `ends` makes of its number.
unfoldable pub then : {A : Type 0} → (ℕ → A) → Found → (ℕ → ℕ → A) → A
then ends (number value next) go = go value next
then ends (refused refusal) go = ends refusal
