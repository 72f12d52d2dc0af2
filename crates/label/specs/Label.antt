-- "UTC label": the twenty bytes of a second, and those of a clock.
use Rattle.std.specs.Prelude.{ℕ, ◌+◌, ◌*◌, ◌/◌, ◌%◌, Bool, cond, ◌&&◌, List, [], ◌∷◌, ◌++◌, ◌==◌}
use Rattle.state.specs.Units.{seconds_per_day, last_second_of_day}
use Rattle.state.specs.State.{status_oop}
use Rattle.state.specs.declared.state.Clock.{Clock}
use Rattle.calendar.specs.declared.Date.{Date}
use Rattle.calendar.specs.Calendar.{date_of}

-- the bytes of a label, in ASCII: the first of the ten digits, and - T : Z
abbrev pub digit_zero : ℕ
digit_zero = 0x30

abbrev pub hyphen : ℕ
hyphen = 0x2D

abbrev pub letter_t : ℕ
letter_t = 0x54

abbrev pub colon : ℕ
colon = 0x3A

abbrev pub letter_z : ℕ
letter_z = 0x5A

-- the last decimal digit of n
abbrev pub digit : ℕ → ℕ
digit n = digit_zero + n % 10

-- the last two decimal digits of n, and the last four
abbrev pub two : ℕ → List ℕ
two n = digit (n / 10) ∷ digit n ∷ []

abbrev pub four : ℕ → List ℕ
four n = two (n / 100) ++ two n

-- "Twenty bytes, `1970-01-01T00:00:00Z`"
abbrev pub label_size : ℕ
label_size = 20

abbrev pub layout : Date → ℕ → ℕ → ℕ → List ℕ
layout d hour minute second =
    four d.year ++ (hyphen ∷ two d.month) ++ (hyphen ∷ two d.day)
    ++ (letter_t ∷ two hour) ++ (colon ∷ two minute) ++ (colon ∷ two second) ++ (letter_z ∷ [])

abbrev pub seconds_per_minute : ℕ
seconds_per_minute = 60

abbrev pub minutes_per_hour : ℕ
minutes_per_hour = 60

abbrev pub hours_per_day : ℕ
hours_per_day = 24

abbrev pub seconds_per_hour : ℕ
seconds_per_hour = minutes_per_hour * seconds_per_minute

-- what an inserted second reads: it repeats the 59 before it
abbrev pub inserted_second : ℕ
inserted_second = 60

-- the label of a second since 1970, which reads 60 where that is said
unfoldable pub label_of : ℕ → Bool → List ℕ
label_of s sixty =
    layout (date_of (s / seconds_per_day)) (s / seconds_per_hour % hours_per_day) (s / seconds_per_minute % minutes_per_hour)
    (cond sixty inserted_second (s % seconds_per_minute))

-- "With status OOP and seconds mod 86,400 = 86,399 the second reads 60 (004); OOP at any other second reads
-- as usual."
abbrev pub is_sixty : Clock → Bool
is_sixty c = c.status == status_oop && c.seconds % seconds_per_day == last_second_of_day

-- the label of a clock
abbrev pub clock_label : Clock → List ℕ
clock_label c = label_of c.seconds (is_sixty c)
