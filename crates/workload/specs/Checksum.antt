-- The checksum of an operation's results.
use Rattle.std.specs.Prelude.{ℕ, ◌+◌, ◌*◌, ◌%◌, ◌^◌, List, [], ◌∷◌, fold}
use Rattle.number.specs.Mapping.{mapped}
use Rattle.state.specs.declared.state.Clock.{Clock}
use Rattle.workload.specs.declared.checksum.Checksum.{Checksum}

-- 31 times the checksum's low 58 bits, and the result's low 32 bits added
unfoldable pub mixed : Checksum → ℕ → Checksum
mixed s x = record { 0 = s.0 % 2 ^ 58 * 31 + x % 2 ^ 32 }

-- a clock's fields in the order of the table, signed ones as a record has them
abbrev pub fields_of : Clock → List ℕ
fields_of c =
    c.seconds
    ∷ c.micros.0
    ∷ mapped c.phase.0
    ∷ mapped c.offset.0
    ∷ mapped c.frequency.0
    ∷ mapped c.adjustment.0
    ∷ c.constant
    ∷ c.updated
    ∷ c.interval
    ∷ c.maxerror.0
    ∷ c.esterror.0
    ∷ c.status
    ∷ c.kind
    ∷ mapped c.remainder.0
    ∷ mapped c.leftover.0
    ∷ []

abbrev pub mixed_clock : Checksum → Clock → Checksum
mixed_clock s c = fold mixed s (fields_of c)
