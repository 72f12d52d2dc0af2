-- How often a line says that an operation is to be repeated.
use Rattle.std.specs.Prelude.{ℕ, ◌+◌, ◌-◌, ◌*◌, ◌%◌, ◌^◌, ◌==◌, ◌&&◌, leb, if◌then◌else◌, List, fold}

-- a space begins a new number, a digit goes on with it, and no other byte counts; eighteen digits are kept
abbrev pub count_step : ℕ → ℕ → ℕ
count_step n b = if b == 32 then 0 else if leb 48 b && leb b 57 then n % 10 ^ 17 * 10 + (b - 48) else n

abbrev pub count_of : List ℕ → ℕ
count_of line = fold count_step 0 line
