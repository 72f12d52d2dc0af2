-- What holds of every number: the statements that the crate proves of the definitions. Each is said of any
-- reader, or of what a size is told to be, and holds of `number_at` and of `size_of`. Those that they shut
-- out are in `WrongReaders`.
use Rattle.std.specs.Prelude.{◌≡◌, cond, List, ◌++◌, ◌⊎◌, ℕ, ◌+◌, ◌^◌, ◌<◌, ◌≤◌, ltb, length, take, drop}
use Rattle.state.specs.Refusal.{refused_ended, refused_form}
use Rattle.number.specs.Form.{limit, most_bytes, Bytes, bytes_of}
use Rattle.number.specs.Reading.{Found, number, refused}

-- what stands at a place of some bytes
abbrev pub Reader : Type 0
Reader = List ℕ → ℕ → Found

-- what was written is read, up to the place after it
abbrev pub ReadsWritten : Reader → Type 0
ReadsWritten read =
    (s rest : List ℕ) (n at : ℕ) → n < limit → drop at s ≡ bytes_of n ++ rest
    → read s at ≡ number n (at + length (bytes_of n))

-- "shortest form only": what is read is what would be written
abbrev pub OneForm : Reader → Type 0
OneForm read =
    (s : List ℕ) → Bytes s → (at v next : ℕ) → read s at ≡ number v next
    → take (length (bytes_of v)) (drop at s) ≡ bytes_of v

-- a number that is read is below 2^35, and takes one to five bytes, all of which there are
pub record Extent (s : List ℕ) (at v next : ℕ) : Type 0 where
  pub small : v < limit
  pub after : at < next
  pub most : next ≤ at + most_bytes
  pub within : next ≤ length s

abbrev pub Extends : Reader → Type 0
Extends read = (s : List ℕ) (at v next : ℕ) → read s at ≡ number v next → Extent s at v next

-- no number is refused but with 10 or 11
abbrev pub RefusedOnly : Reader → Type 0
RefusedOnly read = (s : List ℕ) (at r : ℕ) → read s at ≡ refused r → (r ≡ refused_ended) ⊎ (r ≡ refused_form)

-- how many bytes a number takes
abbrev pub size_of : ℕ → ℕ
size_of n = length (bytes_of n)

-- the sizes of numbers: 1 below 2^7, 2 below 2^14, 3 below 2^21, 4 below 2^28, 5 below 2^35
abbrev pub SizeTable : (ℕ → ℕ) → Type 0
SizeTable size =
    (n : ℕ) → n < limit
    → size n
    ≡ cond (ltb n (2 ^ 7)) 1 (cond (ltb n (2 ^ 14)) 2 (cond (ltb n (2 ^ 21)) 3 (cond (ltb n (2 ^ 28)) 4 5)))
