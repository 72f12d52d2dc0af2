-- What is read of an input into a buffer: so many bytes, and whether a read failed.
use Rattle.std.specs.Prelude.{ℕ, ◌<◌, List, length, take, Option, Result, IsOk}
use Rattle.std.specs.Io.KnownBytes.{Consumes, IsAtEnd}

-- the bytes that were read are the first of the buffer, and those that the input has lost, where its bytes
-- are known: `old` before and `new` after
abbrev pub Took : {A E : Type 0} → Option (List ℕ) → Option (List ℕ) → List ℕ → ℕ × Result A E → Type 0
Took old new buf r = Consumes old new (take r.0 buf)

-- where no read failed and the buffer has room left, the input has none
abbrev pub Whole : {A E : Type 0} → Option (List ℕ) → List ℕ → ℕ × Result A E → Type 0
Whole new buf r = IsOk r.1 → r.0 < length buf → IsAtEnd new
