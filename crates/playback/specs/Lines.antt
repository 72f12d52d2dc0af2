-- The lines of the replay, in ASCII.
use Rattle.std.specs.Prelude.{cond, List, [], ◌∷◌, ◌++◌, ℕ, zero, suc, ◌/◌, ltb, eqb, get_or}
use Rattle.state.specs.declared.state.Clock.{Clock}
use Rattle.label.specs.Label.{digit, clock_label}
use Rattle.summary.specs.declared.cells.Summary.{Summary}

abbrev pub space : ℕ
space = 0x20

abbrev pub newline : ℕ
newline = 0x0A

-- n in decimal, where at most `more` digits may stand before the last
unfoldable pub decimal_from : ℕ → ℕ → List ℕ
decimal_from zero n = digit n ∷ []
decimal_from (suc more) n = cond (ltb n 10) (digit n ∷ []) (decimal_from more (n / 10) ++ (digit n ∷ []))

-- n in decimal, with no zero in front: n has at most n + 1 digits
unfoldable pub decimal : ℕ → List ℕ
decimal n = decimal_from n n

-- the last six decimal digits of n
abbrev pub six : ℕ → List ℕ
six n = digit (n / 100000) ∷ digit (n / 10000) ∷ digit (n / 1000) ∷ digit (n / 100) ∷ digit (n / 10) ∷ digit n ∷ []

-- "the line `refused N`": r e f u s e d
unfoldable pub refused_line : ℕ → List ℕ
refused_line n = (0x72 ∷ 0x65 ∷ 0x66 ∷ 0x75 ∷ 0x73 ∷ 0x65 ∷ 0x64 ∷ space ∷ decimal n) ++ (newline ∷ [])

-- "the line `log N at P`": l o g, a t
unfoldable pub log_line : ℕ → ℕ → List ℕ
log_line n p = (0x6C ∷ 0x6F ∷ 0x67 ∷ space ∷ decimal n) ++ (space ∷ 0x61 ∷ 0x74 ∷ space ∷ decimal p) ++ (newline ∷ [])

-- "A print is label, space, six-digit microseconds, space, status, newline."
unfoldable pub print_line : Clock → List ℕ
print_line c = clock_label c ++ (space ∷ six c.micros.0) ++ (space ∷ decimal c.status) ++ (newline ∷ [])

-- Document 02, Req 08: "one line `QQ N M` .., QQ two digits": the quarter-hour, how many offsets were
-- accepted in it, and the largest size among them (us)
unfoldable pub quarter_line : ℕ → ℕ → ℕ → List ℕ
quarter_line q n m =
    (digit (q / 10) ∷ digit q ∷ space ∷ decimal n) ++ (space ∷ decimal m) ++ (newline ∷ [])

-- "for each quarter-hour with N above 0"
unfoldable pub cell_line : ℕ → ℕ → ℕ → List ℕ
cell_line q n m = cond (eqb n 0) [] (quarter_line q n m)

-- the line of a quarter-hour of a summary
abbrev pub summary_line : Summary → ℕ → List ℕ
summary_line m q = cell_line q (get_or m.counts q 0) (get_or m.largest q 0)
