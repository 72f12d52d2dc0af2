-- The definitions at worked examples: two numbers of the fresh clock's record in document 01, and each
-- refusal at its edge.
use mathlib.Core.Path.{◌≡◌, refl}
use mathlib.Core.List.{List, [], ◌∷◌}
use Prim.Native.Nat.{ℕ}
use native.Mathlib.Omega.{arith}
use lib.IntN.{pos, negsuc}
use lib.ListN.{length}
use Rattle.number.specs.Form.{limit, bytes_of, bytes_from}
use Rattle.number.specs.Reading.{Found, number, refused, leading_more, value_of, judged, number_at}
use Rattle.number.specs.Mapping.{mapped}
use Rattle.number.proofs.ReadWritten.{read_written}
use Rattle.number.proofs.Sizes.{size_table}

-- both errors, 16,000,000 us
maximum_error : bytes_of 16000000 ≡ 0x80 ∷ 0xC8 ∷ 0xD0 ∷ 0x07 ∷ []
unfolding bytes_of bytes_from
maximum_error = refl

-- the adjustment, 67,108,864 phase units
adjustment : bytes_of (mapped (pos 67108864)) ≡ 0x80 ∷ 0x80 ∷ 0x80 ∷ 0x40 ∷ []
unfolding bytes_of bytes_from mapped
adjustment = refl

signs : (mapped (negsuc 0) ∷ mapped (pos 1) ∷ mapped (negsuc 1) ∷ []) ≡ 1 ∷ 2 ∷ 3 ∷ []
unfolding mapped
signs = refl

-- each list of bytes, read at place 1
abbrev at_one : List ℕ → Found
at_one bs = number_at (0xFF ∷ bs) 1

-- 2^35 - 1 is written and read; of 2^35 the fifth byte says more
read_largest : at_one (0xFF ∷ 0xFF ∷ 0xFF ∷ 0xFF ∷ 0x7F ∷ 0x00 ∷ []) ≡ number 34359738367 6
unfolding bytes_of bytes_from
read_largest = read_written _ (0x00 ∷ []) 34359738367 1 (omega arith) refl

limit_refused : number_at (bytes_of limit) 0 ≡ refused 11
unfolding bytes_of bytes_from number_at judged leading_more value_of
limit_refused = refl

-- one number on either side of each step of the table of sizes
sizes : (length (bytes_of 127) ∷ length (bytes_of 128) ∷ length (bytes_of 16383) ∷ length (bytes_of 16384) ∷ [])
    ≡ 1 ∷ 2 ∷ 2 ∷ 3 ∷ []
sizes = rw (size_table 127 (omega arith), size_table 128 (omega arith), size_table 16383 (omega arith), size_table 16384 (omega arith))

longer_sizes : (length (bytes_of 2097151) ∷ length (bytes_of 2097152) ∷ length (bytes_of 268435455) ∷ length (bytes_of 268435456) ∷ [])
    ≡ 3 ∷ 4 ∷ 4 ∷ 5 ∷ []
longer_sizes = rw (size_table 2097151 (omega arith), size_table 2097152 (omega arith), size_table 268435455 (omega arith), size_table 268435456 (omega arith))

read_zero : at_one (0x00 ∷ []) ≡ number 0 2
unfolding number_at judged leading_more value_of
read_zero = refl

past_the_end : number_at (0x00 ∷ []) 2 ≡ refused 10
unfolding number_at judged leading_more value_of
past_the_end = refl

ends_inside : at_one (0x80 ∷ 0x80 ∷ 0x80 ∷ 0x80 ∷ []) ≡ refused 10
unfolding number_at judged leading_more value_of
ends_inside = refl

fifth_says_more : at_one (0x80 ∷ 0x80 ∷ 0x80 ∷ 0x80 ∷ 0x80 ∷ []) ≡ refused 11
unfolding number_at judged leading_more value_of
fifth_says_more = refl

long_form_lem : at_one (0x81 ∷ 0x00 ∷ []) ≡ refused 11
unfolding number_at judged leading_more value_of
long_form_lem = refl
