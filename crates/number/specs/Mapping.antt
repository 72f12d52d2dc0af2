-- The mapping of signed numbers. Document 01, "Saved record": "Phase, offset left, frequency and adjustment
-- are first mapped: v >= 0 to 2v, v < 0 to -2v - 1."
use Rattle.std.specs.Prelude.{cond, ℕ, suc, ◌*◌, ◌-◌, ◌/◌, ◌%◌, eqb, ℤ, pos, negsuc}

-- `negsuc k` is the number v = -(k + 1), so that -2v - 1 is 2 (k + 1) - 1
unfoldable pub mapped : ℤ → ℕ
mapped (pos v) = 2 * v
mapped (negsuc k) = 2 * suc k - 1

-- its inverse: an even n is 2v, an odd n is -2v - 1, so that v = -(n + 1) / 2 = -(n / 2 + 1)
unfoldable pub unmapped : ℕ → ℤ
unmapped n = cond (eqb (n % 2) 0) (pos (n / 2)) (negsuc (n / 2))
