-- None of the wrong readers meets the statement that it stands beside.
use mathlib.Core.Path.{◌≡◌, refl, sym, ap}
use mathlib.Core.Bool.{true, false, false≢true}
use mathlib.Core.List.{List, [], ◌∷◌}
use mathlib.Core.Logic.{⊎_elim}
use Prim.Native.Nat.{ℕ}
use native.Mathlib.Omega.{arith}
use lib.ListN.{get_or}
use Rattle.number.specs.Form.{bytes_of, bytes_from}
use Rattle.number.specs.Layout.{judged_by, field_at, whole}
use Rattle.number.specs.Reading.{number, refused, leading_more, value_of, judged, number_at}
use Rattle.number.specs.Stopping.{Stops}
use Rattle.number.specs.WrongReaders.{ShutOut}
use Rattle.number.proofs.Lists.{are_bytes, bytes_by}
use Rattle.number.proofs.Steps.{never}
use Rattle.number.proofs.Layouts.{not_failed}

-- the byte 0, and none
zero_read : number_at (0x00 ∷ []) 0 ≡ number 0 1
unfolding number_at judged leading_more value_of
zero_read = refl

none_read : number_at [] 0 ≡ refused 10
unfolding number_at judged leading_more value_of
none_read = refl

pub shut_out : ShutOut
unfolding bytes_of bytes_from judged_by field_at are_bytes leading_more value_of Stops number_at judged
shut_out =
    record {
      refusing = λ h. never refl (h (0x00 ∷ []) [] 0 0 (omega arith) refl);
      long_forms =
          λ h.
          let s : List ℕ = 0x81 ∷ 0x00 ∷ [] in
          let e = h s (bytes_by s refl) 0 1 2 refl in
          let z : ◌≡◌ {A = ℕ} 129 1 = ap (λ (s : List ℕ). get_or s 0 0) e in
          absurd (omega arith);
      too_large = λ h. absurd (omega (arith, (h (0x00 ∷ []) 0 _ _ refl).small));
      no_byte = λ h. absurd (omega (arith, (h [] 0 _ _ refl).after));
      six_bytes =
          λ h. absurd (omega (arith, (h (0x00 ∷ 0x00 ∷ 0x00 ∷ 0x00 ∷ 0x00 ∷ 0x00 ∷ []) 0 _ _ refl).most));
      past_the_end = λ h. absurd (omega (arith, (h [] 0 _ _ refl).within));
      nine = λ h. ⊎_elim (λ z. absurd (omega arith)) (λ z. absurd (omega arith)) (h [] 0 _ refl);
      twelve = λ h. ⊎_elim (λ z. absurd (omega arith)) (λ z. absurd (omega arith)) (h [] 0 _ refl);
      always_five = λ h. absurd (omega (arith, h 0 (omega arith)));
      out_of_range =
          λ h.
          let o = (h (λ n. false) (0x00 ∷ []) 0 12).outside (record { value = 0; next = 1; read = zero_read; out = refl }) in
          never o zero_read;
      in_range =
          λ h.
          ⊎_elim (λ e. never e zero_read) (λ o. absurd (false≢true (sym o.0.out)))
          ((h (λ n. true) (0x00 ∷ []) 0 12).only refl);
      no_number = λ h. never ((h (λ n. true) [] 0 10).unread none_read) refl;
      at_once = λ h. absurd (omega (arith, ((h ℕ (whole 0) [] 0 10).only refl).0));
      more = λ h. not_failed ((h ℕ (whole 0) (0x00 ∷ []) 0 13).always (omega arith, refl)) refl;
    }
