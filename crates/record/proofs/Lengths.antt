-- How long a record of each version can be.
use mathlib.Core.Path.{◌≡◌, refl, sym, ◌∙◌, ap}
use mathlib.Core.Bool.{true, cond}
use mathlib.Core.List.{List, [], ◌∷◌}
use Prim.Native.Nat.{ℕ, suc, ◌+◌, ◌*◌, ◌≤◌}
use native.Mathlib.Omega.{arith}
use lib.ListN.{length}
use Rattle.number.specs.Form.{bytes_of, bytes_from, bytes_of_all}
use Rattle.number.specs.Layout.{written}
use Rattle.number.specs.Mapping.{mapped, unmapped}
use Rattle.number.proofs.Layouts.{Choice, stands, allows, Sized, sized, sized_end, choose, choose_picked, most, no_longer}
use Rattle.state.specs.Device.{recorder256, kind256, device_of}
use Rattle.state.specs.State.{last_second, longest_interval, last_micro, greatest_constant, greatest_error, status_bad}
use Rattle.state.specs.declared.state.Clock.{Clock}
use Rattle.record.specs.Layout.{holds_kind, holds_parts, record_layout, places_in, numbers_in, record_in}
use Rattle.record.specs.Inner.{mapped_phase, mapped_offset, mapped_frequency}
use Rattle.record.specs.Properties.{Says, LongestIs, Longest, OneLongest}
use Rattle.record.proofs.FieldSizes.{last_more, sizes}
use Rattle.record.proofs.Saying.{choice, choice_numbers, flag_of, last_of, places_picked, said}

-- 40 bytes, those of kind, remainder and leftover where they are held, and those of what follows the flag of
-- the earlier update
abbrev longest_in : ℕ → ℕ
longest_in version = 40 + cond (holds_kind version) 1 0 + suc (last_more version) + 2 * cond (holds_parts version) 1 0

most_bytes : {version : ℕ} {c : Clock} {flag last : ℕ} (w : Says version c flag last) → most record_layout sizes (choice w) ≡ longest_in version
unfolding most sizes sized sized_end Sized choice choose Choice record_layout places_in
most_bytes w = omega arith

no_record_longer : {version : ℕ} {c : Clock} {flag last : ℕ} → Says version c flag last → length (record_in version c flag last) ≤ longest_in version
unfolding record_in
no_record_longer w = rw (most_bytes w, choice_numbers w) at (no_longer record_layout sizes (choice w))

-- the numbers of a longest record: each at its greatest for the first device, a flag of 1 and what follows
-- it, and remainder and leftover, which have one byte whatever they are
abbrev greatest : ℕ → ℕ → List ℕ
greatest version last =
    version
    ∷ kind256
    ∷ last_second
    ∷ last_micro
    ∷ mapped_phase
    ∷ mapped_offset
    ∷ mapped_frequency
    ∷ mapped recorder256.most.0
    ∷ greatest_constant
    ∷ 1
    ∷ last
    ∷ greatest_error
    ∷ greatest_error
    ∷ status_bad
    ∷ 0
    ∷ 0
    ∷ []

longest_of : (version last : ℕ) → allows record_layout (greatest version last) ≡ true
    → length (bytes_of_all (written record_layout (greatest version last))) ≡ longest_in version
    → LongestIs version (longest_in version)
unfolding choose Choice record_layout record_in numbers_in
longest_of version last e long =
    let k = choose record_layout sizes (greatest version last) e in
    let same = sym (places_picked k) ∙ choose_picked record_layout sizes (greatest version last) e in
    record {
      none = λ c flag last w. omega (arith, no_record_longer w);
      one = stands record_layout k;
      flag = flag_of k;
      last = last_of k;
      says = said k;
      long = omega (arith, ap (λ (ns : List ℕ). length (bytes_of_all (written record_layout ns))) same, long);
    }

pub longest : Longest
unfolding allows device_of written record_layout bytes_of_all bytes_of bytes_from mapped unmapped
longest =
    record {
      version1 = longest_of 1 last_second refl refl;
      version2 = longest_of 2 longest_interval refl refl;
      version3 = longest_of 3 longest_interval refl refl;
      version4 = longest_of 4 longest_interval refl refl;
    }

-- the longest of the one is none too long for the other
pub one_longest : OneLongest
one_longest version m n a b =
    omega (arith, a.none b.one b.flag b.last b.says, b.long, b.none a.one a.flag a.last a.says, a.long)
