-- The written form of a number, for readers and writers alike. Document 01, "Saved record": "Each is written
-- in groups of seven bits, lowest first, the top bit set on every byte but the last, shortest form only." No
-- number has more than five bytes, so a number is below 2^35; a byte is a number below 256.
use Rattle.std.specs.Prelude.{cond, List, [], ◌∷◌, ◌++◌, ℕ, zero, suc, ◌+◌, ◌/◌, ◌%◌, ◌^◌, ◌<◌, ltb, get_or}

-- what a group of seven bits holds: so many values
abbrev pub group : ℕ
group = 128

-- the top bit of a byte
abbrev pub top_bit : ℕ
top_bit = 0x80

-- the bytes of the longest number, and so what every number is below
abbrev pub most_bytes : ℕ
most_bytes = 5

abbrev pub limit : ℕ
limit = 2 ^ 35

-- the numbers of s are bytes, as those of every slice are
abbrev pub Bytes : List ℕ → Type 0
Bytes s = (i : ℕ) → get_or s i 0 < 256

-- the bytes of n, where at most `more` may follow the first: a group that is the last one as it is, any other
-- with the top bit set
unfoldable pub bytes_from : ℕ → ℕ → List ℕ
bytes_from zero n = n ∷ []
bytes_from (suc more) n = cond (ltb n group) (n ∷ []) ((top_bit + n % group) ∷ bytes_from more (n / group))

-- the bytes of n: at most five, the first and four more
unfoldable pub bytes_of : ℕ → List ℕ
bytes_of n = bytes_from 4 n

-- the bytes of several numbers, one after the other
unfoldable pub bytes_of_all : List ℕ → List ℕ
bytes_of_all [] = []
bytes_of_all (n ∷ ns) = bytes_of n ++ bytes_of_all ns
