-- The fresh clocks' records, of every version; and bytes that are refused, with each number.
use mathlib.Core.Path.{◌≡◌, refl, ◌∙◌, ap}
use mathlib.Core.Bool.{true}
use mathlib.Core.List.{List, [], ◌∷◌, ◌++◌}
use mathlib.Core.Logic.{inl, inr}
use Prim.Native.Nat.{ℕ}
use native.Mathlib.Omega.{arith}
use Rattle.number.specs.Form.{bytes_of, bytes_from, bytes_of_all}
use Rattle.number.specs.Layout.{written, field_at, judged_by}
use Rattle.number.specs.Mapping.{mapped}
use Rattle.number.specs.Reading.{number_at, judged, leading_more, value_of}
use Rattle.number.specs.Stopping.{Stops}
use Rattle.state.specs.Device.{kind256, kind1024, device_of}
use Rattle.state.specs.State.{in_range, fresh_clock}
use Rattle.record.specs.Layout.{record_layout, places_in, numbers_in, record_in}
use Rattle.record.specs.Reading.{reading_of}
use Rattle.record.specs.Properties.{fresh_fields256, fresh_fields1024, FreshRecords, OfVersion1, OfVersion2, OfVersion3, Refusals}
use Rattle.record.proofs.Refusals.{exactly_when}
use Rattle.record.proofs.RoundTrip.{nothing_follows}
use Rattle.record.proofs.Versions.{version_3, version_2, says_1, version_1}

fresh_written : (0x03 ∷ 0x00 ∷ fresh_fields256 ≡ record_in 3 (fresh_clock kind256) 0 0)
    × (0x03 ∷ 0x01 ∷ fresh_fields1024 ≡ record_in 3 (fresh_clock kind1024) 0 0)
    × (0x02 ∷ fresh_fields256 ≡ record_in 2 (fresh_clock kind256) 0 0)
    × (0x01 ∷ fresh_fields256 ≡ record_in 1 (fresh_clock kind256) 0 0)
unfolding record_in numbers_in written record_layout places_in bytes_of_all bytes_of bytes_from mapped device_of
fresh_written = (refl, refl, refl, refl)

pub fresh_sound : (in_range (fresh_clock kind256) ≡ true) × (in_range (fresh_clock kind1024) ≡ true)
unfolding in_range device_of
fresh_sound = (refl, refl)

-- ---- the bytes are those of the fresh clocks, in each older version

pub of3 : OfVersion3 (0x03 ∷ 0x00 ∷ fresh_fields256) (fresh_clock kind256)
of3 = record { sound = fresh_sound.0; parts = (refl, refl); written = fresh_written.0 }

of1024 : OfVersion3 (0x03 ∷ 0x01 ∷ fresh_fields1024) (fresh_clock kind1024)
of1024 = record { sound = fresh_sound.1; parts = (refl, refl); written = fresh_written.1 }

pub of2 : OfVersion2 (0x02 ∷ fresh_fields256) (fresh_clock kind256)
of2 = record { sound = fresh_sound.0; kind = refl; parts = (refl, refl); written = fresh_written.2 }

pub of1 : OfVersion1 (0x01 ∷ fresh_fields256) (fresh_clock kind256)
of1 =
    record {
      flag = 0;
      second = 0;
      flagged = refl;
      ranged = refl;
      sound = fresh_sound.0;
      kind = refl;
      none = (refl, refl);
      parts = (refl, refl);
      written = fresh_written.3;
    }

pub fresh_records : FreshRecords
fresh_records =
    record {
      written256 = version_3.after _ _ of3;
      written1024 = version_3.after _ _ of1024;
      read3of256 = version_3.always _ _ of3;
      read3of1024 = version_3.always _ _ of1024;
      read2 = version_2.always _ _ of2;
      read1 = version_1.always _ _ of1;
    }

-- ---- refusals: at the first field, at the kind behind a version that was read, and behind the last field

pub refusals : Refusals
unfolding Stops record_layout field_at judged_by number_at judged leading_more value_of
refusals =
    record {
      ends = (exactly_when [] 10 (omega arith)).always (inl refl);
      long = (exactly_when (0x81 ∷ 0x00 ∷ []) 11 (omega arith)).always (inl refl);
      unknown = (exactly_when (0x05 ∷ []) 12 (omega arith)).always (inl refl);
      outside =
          (exactly_when (0x04 ∷ 0x02 ∷ []) 12 (omega arith)).always
          (inr (record { n = 4; next = 1; read = refl; later = inl refl }));
      follows =
          ap (λ (s : List ℕ). reading_of (s ++ 0x00 ∷ [])) of1.written
          ∙ nothing_follows 1 (fresh_clock kind256) of1.flag of1.second (0x00 ∷ []) (says_1 of1) (omega arith);
    }
