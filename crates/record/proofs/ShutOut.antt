-- None of the wrong readers and writers meets the statement that it stands beside.
use mathlib.Core.Path.{◌≡◌, refl, sym, ◌∙◌, ap}
use mathlib.Core.Bool.{false≢true}
use mathlib.Core.List.{List, [], ◌∷◌, ◌++◌}
use mathlib.Core.Logic.{⊎_elim}
use Prim.Native.Nat.{ℕ, ◌<◌, ◌≤◌}
use native.Mathlib.Omega.{arith}
use lib.ListN.{length, get_or}
use borrow.Author.Tests.{ne_eqb}
use Rattle.number.specs.Layout.{read_from, field_at, judged_by}
use Rattle.number.specs.Reading.{number_at, judged, leading_more, value_of}
use Rattle.number.specs.Sequence.{then}
use Rattle.number.proofs.Lists.{are_bytes, bytes_by}
use Rattle.state.specs.Device.{kind256, kind1024}
use Rattle.state.specs.State.{fresh_clock}
use Rattle.state.specs.declared.state.Clock.{Clock}
use Rattle.record.specs.Layout.{newest, record_layout, record_in, record_of}
use Rattle.record.specs.Reading.{reading_of, accepted, refused_with}
use Rattle.record.specs.Saving.{Saved, saving_of}
use Rattle.record.specs.Properties.{Says, fresh_fields256, no_parts}
use Rattle.record.specs.WrongReaders.{takes_damaged, gives_kind1, ShutOut}
use Rattle.record.specs.declared.restore.Restored.{Restored}
use Rattle.record.proofs.SavingLaws.{stored}
use Rattle.record.proofs.Refusals.{exactly_when}
use Rattle.record.proofs.RoundTrip.{reads_back, nothing_follows, writes_newest}
use Rattle.record.proofs.Versions.{version_3, version_2, version_1}
use Rattle.record.proofs.Examples.{fresh_sound, fresh_records, of3, of2, of1, refusals}

abbrev fresh : Clock
fresh = fresh_clock kind256

-- ---- what is told apart

told_apart : {P : Type 0} {x y : Restored} → x ≡ y → (x.refusal ≡ y.refusal → ⊥) → P
told_apart e f = absurd (f (ap (λ (r : Restored). r.refusal) e))

lengths_apart : {P : Type 0} {s t : List ℕ} → s ≡ t → (length s ≡ length t → ⊥) → P
lengths_apart e f = absurd (f (ap length e))

first_apart : {P : Type 0} {s t : List ℕ} → s ≡ t → (get_or s 0 0 ≡ get_or t 0 0 → ⊥) → P
first_apart e f = absurd (f (ap (λ (l : List ℕ). get_or l 0 0) e))

kinds_apart : {P : Type 0} → fresh_clock kind1024 ≡ fresh_clock kind256 → P
kinds_apart e = let z : kind1024 ≡ kind256 = ap (λ (c : Clock). c.kind) e in absurd (omega arith)

-- ---- bytes that are no record: the wrong reader takes them for the fresh clock's

damaged : (s : List ℕ) {n : ℕ} → 0 < n → reading_of s ≡ refused_with n → takes_damaged s ≡ accepted fresh
damaged s {n} h e = rw (e, ne_eqb n 0 (λ z. omega arith))

-- a byte that says more and is followed by none; and a version that is followed by none
alone : (reading_of (0xFF ∷ []) ≡ refused_with 10) × (reading_of (0x04 ∷ []) ≡ refused_with 10)
    × (reading_of (0x03 ∷ []) ≡ refused_with 10) × (reading_of (0x02 ∷ []) ≡ refused_with 10)
    × (reading_of (0x01 ∷ []) ≡ refused_with 10)
unfolding reading_of read_from record_layout then field_at judged_by number_at judged leading_more value_of
alone = (refl, refl, refl, refl, refl)

module _ (s : List ℕ) (e : reading_of s ≡ refused_with 10) where
  taken : takes_damaged s ≡ accepted fresh
  taken = damaged s (omega arith) e

  refused_no : (takes_damaged s).refusal ≡ 0
  refused_no = ap (λ (r : Restored). r.refusal) taken

  taken_clock : (takes_damaged s).clock ≡ fresh
  taken_clock = ap (λ (r : Restored). r.clock) taken

-- the fresh clock's record, as it is written
written : record_of fresh ≡ 0x04 ∷ 0x00 ∷ fresh_fields256 ++ no_parts
written = fresh_records.written256

says_fresh : Says newest fresh 0 0
says_fresh = (writes_newest fresh fresh_sound.0).says

-- its bytes, but for the version, which is none; and its bytes with one behind them
abbrev spoilt : List ℕ
spoilt = 0x00 ∷ 0x00 ∷ fresh_fields256 ++ no_parts

abbrev longer : List ℕ
longer = 0x04 ∷ 0x00 ∷ fresh_fields256 ++ no_parts ++ 0x00 ∷ []

spoilt_refused : reading_of spoilt ≡ refused_with 12
unfolding reading_of read_from record_layout then field_at judged_by number_at judged leading_more value_of
spoilt_refused = refl

-- a write of it into a buffer with room
saved : (buf : List ℕ) → 25 ≤ length buf → record { refusal = 0; length = 25 } ≡ saving_of fresh buf
saved buf h =
    let n : length (record_of fresh) ≡ 25 = ap length written in
    (stored fresh buf fresh_sound.0 (omega (arith, n)) (sym n) refl).answer

saved_so : (buf : List ℕ) → 25 ≤ length buf → (saving_of fresh buf).refusal ≡ 0
saved_so buf h = sym (ap (λ (w : Saved). w.refusal) (saved buf h))

saved_length : (buf : List ℕ) → 25 ≤ length buf → (saving_of fresh buf).length ≡ 25
saved_length buf h = sym (ap (λ (w : Saved). w.length) (saved buf h))

pub shut_out : ShutOut
unfolding are_bytes
shut_out =
    record {
      refusing = λ h. told_apart (h newest fresh 0 0 says_fresh) (λ z. omega arith);
      following =
          λ h.
          let e = nothing_follows newest fresh 0 0 (0x00 ∷ []) says_fresh (omega arith) in
          let f = sym (damaged _ (omega arith) e) ∙ h newest fresh 0 0 (0x00 ∷ []) says_fresh (omega arith) in
          told_apart f (λ z. omega arith);
      not_newest =
          λ h. first_apart (of3.written ∙ (h fresh fresh_sound.0).written ∙ written) (λ z. omega arith);
      formless =
          λ h.
          let s : List ℕ = 0xFF ∷ [] in
          absurd (false≢true (h s (bytes_by s refl) (refused_no s alone.0)).says.known);
      formless_newest =
          λ h.
          let s : List ℕ = 0x04 ∷ [] in
          let e = h s (bytes_by s refl) (refused_no s alone.1) refl in
          lengths_apart (e ∙ ap record_of (taken_clock s alone.1) ∙ written) (λ z. omega arith);
      old_written =
          λ h.
          let s : List ℕ = 0x04 ∷ 0x00 ∷ fresh_fields256 ++ no_parts in
          let r : reading_of s ≡ accepted fresh = ap reading_of (sym written) ∙ reads_back newest fresh 0 0 says_fresh in
          let e = h s (bytes_by s refl) (ap (λ (x : Restored). x.refusal) r) refl in
          first_apart (e ∙ ap (λ (x : Restored). record_in 3 x.clock x.clock.updated x.clock.interval) r ∙ sym of3.written) (λ z. omega arith);
      refusing3 = λ h. told_apart (h.always _ _ of3) (λ z. omega arith);
      refusing2 = λ h. told_apart (h.always _ _ of2) (λ z. omega arith);
      refusing1 = λ h. told_apart (h.always _ _ of1) (λ z. omega arith);
      taking3 =
          λ h.
          let s : List ℕ = 0x03 ∷ [] in
          let o = h.only s (bytes_by s refl) (refused_no s alone.2) refl in
          told_apart (sym alone.2 ∙ version_3.always s _ o) (λ z. omega arith);
      taking2 =
          λ h.
          let s : List ℕ = 0x02 ∷ [] in
          let o = h.only s (bytes_by s refl) (refused_no s alone.3) refl in
          told_apart (sym alone.3 ∙ version_2.always s _ o) (λ z. omega arith);
      taking1 =
          λ h.
          let s : List ℕ = 0x01 ∷ [] in
          let o = h.only s (bytes_by s refl) (refused_no s alone.4) refl in
          told_apart (sym alone.4 ∙ version_1.always s _ o) (λ z. omega arith);
      writing3 = λ h. first_apart (of3.written ∙ h.after _ _ of3) (λ z. omega arith);
      writing2 = λ h. first_apart (of3.written ∙ h.after _ _ of2) (λ z. omega arith);
      writing1 = λ h. first_apart (of3.written ∙ h.after _ _ of1) (λ z. omega arith);
      nine = λ h. ⊎_elim (λ z. absurd (omega arith)) (λ r. absurd (omega (arith, r.number.0))) (h []);
      fourteen = λ h. ⊎_elim (λ z. absurd (omega arith)) (λ r. absurd (omega (arith, r.number.1))) (h []);
      other_kind =
          λ h.
          let e : gives_kind1 [] ≡ record { refusal = 10; clock = fresh_clock kind1024 } = rw refusals.ends in
          ⊎_elim (λ z. told_apart e (λ t. omega arith)) (λ r. kinds_apart (sym (ap (λ (x : Restored). x.clock) e) ∙ r.fresh)) (h []);
      too_often =
          λ h.
          let s : List ℕ = 0x01 ∷ fresh_fields256 in
          let e = (exactly_when s 10 (omega arith)).always ((h s 10 (omega arith)).only refl) in
          told_apart (sym e ∙ fresh_records.read1) (λ z. omega arith);
      not_given =
          λ h.
          let e = (h [] 10 (omega arith)).always ((exactly_when [] 10 (omega arith)).only refusals.ends) in
          told_apart (sym (taken [] refusals.ends) ∙ e) (λ z. omega arith);
      unwritten =
          λ h.
          let w = h fresh spoilt (saved_so spoilt (omega arith)) in
          let e = rw (saved_length spoilt (omega arith)) at w.read in
          told_apart (sym spoilt_refused ∙ e) (λ z. omega arith);
      cut_off =
          λ h.
          let w = h fresh longer (saved_so longer (omega arith)) in
          let e = rw (saved_length longer (omega arith), written) at w.later in
          lengths_apart e (λ z. omega arith);
    }
