-- The older versions: exactly what is read of each, and what is then written.
use mathlib.Core.Path.{◌≡◌, refl, sym, ◌∙◌, ap}
use mathlib.Core.Bool.{true, false}
use mathlib.Core.List.{List, [], ◌∷◌, ◌++◌, append_assoc}
use Prim.Native.Nat.{ℕ}
use lib.Dec.{eqb}
use lib.IntN.{ℤ, pos}
use lib.ListN.{drop}
use borrow.Author.Tests.{eqb-true}
use Rattle.number.specs.Form.{bytes_of, bytes_from, bytes_of_all}
use Rattle.number.specs.Layout.{mapped_range, written}
use Rattle.number.specs.Mapping.{mapped, unmapped}
use Rattle.number.proofs.Mapping.{unmapped_mapped}
use Rattle.state.specs.Device.{kind256, device_of}
use Rattle.state.specs.State.{parts_range}
use Rattle.state.specs.declared.state.Clock.{Clock}
use Rattle.record.specs.Layout.{newest, holds_kind, holds_parts, record_layout, places_in, numbers_in, record_in, record_of}
use Rattle.record.specs.Reading.{reading_of}
use Rattle.record.specs.Properties.{suits_parts, Says, WithoutParts, no_parts, OfVersion1, Version1, Version2, Version3}
use Rattle.record.specs.declared.groups.Update.{Update}
use Rattle.record.proofs.Ranges.{zero_suits, parts_zero}
use Rattle.record.proofs.Saying.{PartsSuit, kind_sound}
use Rattle.record.proofs.RoundTrip.{reads_back, says_own, one_form, read_own}

all_append : (xs ys : List ℕ) → bytes_of_all (xs ++ ys) ≡ bytes_of_all xs ++ bytes_of_all ys
unfolding bytes_of_all
all_append [] ys = refl
all_append (n ∷ ns) ys = ap (λ (x : List ℕ). bytes_of n ++ x) (all_append ns ys) ∙ sym (append_assoc (bytes_of n) (bytes_of_all ns) (bytes_of_all ys))

-- the numbers of version 3 are those of the newest, but for the first and the last two
numbers_after_3 : (c : Clock) (flag last : ℕ) → WithoutParts c → numbers_in newest c flag last ≡ newest ∷ drop 1 (numbers_in 3 c flag last) ++ no_parts
unfolding numbers_in written record_layout places_in mapped
numbers_after_3 c flag last none = rw (none.0, none.1)

after_3 : (c : Clock) (flag last : ℕ) → WithoutParts c → record_in newest c flag last ≡ newest ∷ drop 1 (record_in 3 c flag last) ++ no_parts
unfolding record_in numbers_in written record_layout places_in bytes_of_all bytes_of bytes_from
after_3 c flag last none = ap bytes_of_all (numbers_after_3 c flag last none) ∙ all_append (newest ∷ drop 1 (numbers_in 3 c flag last)) no_parts

-- those of version 2 have no kind besides
after_2 : (c : Clock) (flag last : ℕ) → c.kind ≡ kind256 → WithoutParts c → record_in newest c flag last ≡ newest ∷ kind256 ∷ drop 1 (record_in 2 c flag last) ++ no_parts
unfolding record_in numbers_in written record_layout places_in bytes_of_all bytes_of bytes_from
after_2 c flag last e none = after_3 c flag last none ∙ rw e

-- a record that holds no kind is of kind 0, and one that holds no parts has none
older_kind : {version : ℕ} {c : Clock} {flag last : ℕ} → holds_kind version ≡ false → Says version c flag last → c.kind ≡ kind256
older_kind {c = c} old w = let z : eqb c.kind 0 ≡ true = simp old at w.kind in eqb-true c.kind 0 z

no_part : (version kind : ℕ) (z : ℤ) → holds_parts version ≡ false → suits_parts version kind z ≡ true → z ≡ pos 0
unfolding unmapped
no_part version kind z old e = let n : eqb (mapped z) 0 ≡ true = simp old at e in sym (unmapped_mapped z) ∙ ap unmapped (eqb-true (mapped z) 0 n)

older_parts : {version : ℕ} {c : Clock} {flag last : ℕ} → holds_parts version ≡ false → Says version c flag last → WithoutParts c
older_parts {version} {c} old w = (no_part version c.kind _ old w.remainder, no_part version c.kind _ old w.leftover)

-- no parts are what every version can hold
parts_none : (version : ℕ) (c : Clock) → WithoutParts c → PartsSuit version c
unfolding mapped
parts_none version c none =
    let z = zero_suits (holds_parts version) (mapped_range (parts_range (device_of c.kind))) (parts_zero c.kind) in
    (rw none.0 z, rw none.1 z)

pub version_3 : Version3 reading_of record_of
version_3 =
    record {
      only =
          λ s b z v.
          let w = read_own 3 refl s b z v in
          record { sound = w.says.sound; parts = older_parts refl w.says; written = w.written };
      always =
          λ s c o.
          ap reading_of o.written
          ∙ reads_back 3 c _ _ (says_own 3 c refl refl o.sound (kind_sound c o.sound) (parts_none 3 c o.parts));
      after = λ s c o. after_3 c _ _ o.parts ∙ ap (λ (x : List ℕ). newest ∷ drop 1 x ++ no_parts) (sym o.written);
    }

pub version_2 : Version2 reading_of record_of
version_2 =
    record {
      only =
          λ s b z v.
          let w = read_own 2 refl s b z v in
          record { sound = w.says.sound; kind = older_kind refl w.says; parts = older_parts refl w.says; written = w.written };
      always =
          λ s c o.
          ap reading_of o.written
          ∙ reads_back 2 c _ _ (says_own 2 c refl refl o.sound (rw o.kind) (parts_none 2 c o.parts));
      after = λ s c o. after_2 c _ _ o.kind o.parts ∙ ap (λ (x : List ℕ). newest ∷ kind256 ∷ drop 1 x ++ no_parts) (sym o.written);
    }

-- what a record of version 1 says
pub says_1 : {s : List ℕ} {c : Clock} (o : OfVersion1 s c) → Says 1 c o.flag o.second
says_1 {c = c} o =
    record {
      known = refl;
      sound = o.sound;
      kind = rw o.kind;
      flagged = o.flagged;
      ranged = o.ranged;
      update = rw (o.none.0, o.none.1);
      remainder = (parts_none 1 c o.parts).0;
      leftover = (parts_none 1 c o.parts).1;
    }

pub version_1 : Version1 reading_of record_of
version_1 =
    record {
      only =
          λ s b z v.
          let w = one_form s b z in
          let says = rw v at w.says in
          let update = says.update in
          record {
            flag = w.flag;
            second = w.last;
            flagged = says.flagged;
            ranged = says.ranged;
            sound = says.sound;
            kind = older_kind refl says;
            none = (ap (λ (u : Update). u.updated) update, ap (λ (u : Update). u.interval) update);
            parts = older_parts refl says;
            written = rw v at w.written;
          };
      always =
          λ s c o.
          ap reading_of o.written
          ∙ reads_back 1 c o.flag o.second (says_1 o);
      after =
          λ s c o.
          ap (λ (n : ℕ). record_in newest c n c.interval) o.none.0 ∙ ap (λ (n : ℕ). record_in newest c 0 n) o.none.1 ∙ after_2 c 0 0 o.kind o.parts;
    }
