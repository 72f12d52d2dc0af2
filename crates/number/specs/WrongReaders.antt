-- Readers of numbers, fields and layouts that the statements of `Properties` and `Stopping` shut out: each is
-- wrong in one way. So none of the statements is empty.
use Rattle.std.specs.Prelude.{false, cond, List, ℕ, suc, ◌+◌, leb, ltb, length, take, drop}
use Rattle.number.specs.Form.{limit, most_bytes}
use Rattle.number.specs.Layout.{judged_by, field_at, place, whole, got, failed, read_from}
use Rattle.number.specs.Reading.{Found, number, refused, leading_more, value_of, number_at}
use Rattle.number.specs.Properties.{Reader, ReadsWritten, OneForm, Extends, RefusedOnly, SizeTable}
use Rattle.number.specs.Stopping.{FieldReader, FieldExactlyWhen, LayoutReader, LayoutExactlyWhen}

-- ---- numbers

-- each is refused with r
abbrev pub refuses_with : ℕ → Reader
refuses_with r s at = refused r

-- one is read too whose last byte is 0, behind bytes that say more
abbrev pub loosely : ℕ → List ℕ → ℕ → Found
loosely at bs more =
    cond (leb most_bytes more) (refused 11)
    (cond (leb (length bs) more) (refused 10)
    (number (value_of (take (suc more) bs)) (at + suc more)))

abbrev pub takes_long_forms : Reader
takes_long_forms s at = loosely at (drop at s) (leading_more (drop at s))

-- every byte is read as the number n
abbrev pub tells : ℕ → Reader
tells n s at = cond (ltb at (length s)) (number n (at + 1)) (refused 10)

-- the number 0 is read of k bytes, whatever they are
abbrev pub jumps : ℕ → Reader
jumps k s at = cond (leb (at + k) (length s)) (number 0 (at + k)) (refused 10)

-- behind the last byte the number 0 is read
abbrev pub reads_past : Reader
reads_past s at = cond (ltb at (length s)) (number_at s at) (number 0 (at + 1))

-- ---- fields and layouts

-- the number is not judged by its range; it is never in its range; where none stands, 0 is read
abbrev pub unjudged : FieldReader
unjudged range s at = number_at s at

abbrev pub none_in_range : FieldReader
none_in_range range s at = field_at (λ n. false) s at

abbrev pub or_zero : ℕ → Found → Found
or_zero at (number value next) = number value next
or_zero at (refused r) = number 0 at

abbrev pub reads_none : FieldReader
reads_none range s at = judged_by range (or_zero at (number_at s at))

-- a reading stops at once; and what follows the last field is passed over
abbrev pub stops_at_once : LayoutReader
stops_at_once A l s at = failed 10

abbrev pub passes_over : LayoutReader
passes_over A (place here range rest) s at = read_from (place here range rest) s at
passes_over A (whole saved) s at = got saved

pub record ShutOut : Type 1 where
  pub refusing : ReadsWritten (refuses_with 10) → ⊥
  pub long_forms : OneForm takes_long_forms → ⊥
  pub too_large : Extends (tells limit) → ⊥
  pub no_byte : Extends (jumps 0) → ⊥
  pub six_bytes : Extends (jumps 6) → ⊥
  pub past_the_end : Extends reads_past → ⊥
  pub nine : RefusedOnly (refuses_with 9) → ⊥
  pub twelve : RefusedOnly (refuses_with 12) → ⊥
  pub always_five : SizeTable (λ n. 5) → ⊥
  pub out_of_range : FieldExactlyWhen unjudged → ⊥
  pub in_range : FieldExactlyWhen none_in_range → ⊥
  pub no_number : FieldExactlyWhen reads_none → ⊥
  pub at_once : LayoutExactlyWhen stops_at_once → ⊥
  pub more : LayoutExactlyWhen passes_over → ⊥
