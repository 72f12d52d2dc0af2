-- What was written is read, and what is read was written: `reads_back`, `nothing_follows`, `writes_newest`,
-- `one_form`, `one_newest`; and `saved_is_kept`, the same through a buffer.
use mathlib.Core.Path.{◌≡◌, refl, sym, ◌∙◌, ap}
use mathlib.Core.Bool.{true, false}
use mathlib.Core.List.{List, ◌++◌, append-nil}
use mathlib.Core.Logic.{⊎_elim}
use Prim.Native.Nat.{ℕ, ◌<◌}
use native.Mathlib.Omega.{arith}
use lib.Dec.{ltb, eqb}
use lib.ListN.{length, drop}
use lib.Seq.{take-append_seam, drop-append_seam}
use borrow.Author.Tests.{ltb-true, ltb-false}
use Rattle.number.specs.Form.{Bytes, bytes_of_all}
use Rattle.number.specs.Layout.{suits, written, Outcome, got, failed, read_from}
use Rattle.number.proofs.Lists.{either}
use Rattle.number.proofs.Layouts.{Choice, stands, chosen, read_back, read_more, taken, known}
use Rattle.number.proofs.Sizes.{bytes_last}
use Rattle.number.proofs.Mapping.{unmapped_mapped}
use Rattle.state.specs.Device.{kind_range}
use Rattle.state.specs.State.{in_range}
use Rattle.state.specs.declared.state.Clock.{Clock}
use Rattle.record.specs.Layout.{newest, known_version, holds_kind, record_layout, places_in, numbers_in, record_in, record_of}
use Rattle.record.specs.Reading.{restored, reading_of, accepted}
use Rattle.record.specs.Saving.{saving_of, buffer_after}
use Rattle.record.specs.Properties.{Says, ReadsBack, NothingFollows, WritesNewest, version_of, Whole, OneForm, OneNewest, SavedIsKept}
use Rattle.record.specs.declared.groups.Update.{Update}
use Rattle.record.specs.Saving.{Saved}
use Rattle.record.proofs.SavingLaws.{out_of_range, too_short, stored}
use Rattle.record.proofs.FieldSizes.{version_small}
use Rattle.record.proofs.Saying.{PartsSuit, update_parts, kind_sound, parts_sound, choice, choice_clock, ahead, version_chosen, flag_of, last_of, places_picked, said}
use Rattle.record.proofs.Refusals.{refusal_known}

-- ---- what was written is read

pub reads_back : ReadsBack reading_of
unfolding reading_of
reads_back version c flag last w = ap restored (read_back record_layout (choice w) (ahead w (sym (append-nil _)))) ∙ ap accepted (choice_clock w)

pub nothing_follows : NothingFollows reading_of
unfolding reading_of
nothing_follows version c flag last rest w h = ap restored (read_more record_layout (choice w) (omega arith) (ahead w refl))

-- from version 2 on a record holds the clock's own update
pub says_own : (version : ℕ) (c : Clock) → known_version version ≡ true → eqb version 1 ≡ false → in_range c ≡ true → suits (holds_kind version) kind_range c.kind ≡ true
    → PartsSuit version c → Says version c c.updated c.interval
says_own version c known later sound kind parts =
    let w = update_parts c sound in
    record { known = known; sound = sound; kind = kind; flagged = w.0; ranged = simp later w.1; update = simp later; remainder = parts.0; leftover = parts.1 }

pub writes_newest : WritesNewest record_of
writes_newest c e =
    let w = parts_sound c e in
    let parts : PartsSuit newest c = (rw unmapped_mapped w.0, rw unmapped_mapped w.1) in
    record { written = refl; says = says_own newest c refl refl e (kind_sound c e) parts }

-- ---- what is read was written

-- a record begins with its version
version_first : (version : ℕ) (c : Clock) (flag last : ℕ) → known_version version ≡ true → version_of (record_in version c flag last) ≡ version
unfolding record_in numbers_in written record_layout places_in bytes_of_all
version_first version c flag last e = rw (bytes_last version (version_small version e))

whole_chosen : (s : List ℕ) (k : Choice record_layout) → s ≡ bytes_of_all (chosen record_layout k) → Whole s (stands record_layout k)
unfolding record_in numbers_in
whole_chosen s k e =
    let c = stands record_layout k in
    let written : s ≡ record_in (version_chosen k) c (flag_of k) (last_of k) = e ∙ ap (λ (ns : List ℕ). bytes_of_all (written record_layout ns)) (places_picked k) in
    let first : version_of s ≡ version_chosen k = ap version_of written ∙ version_first (version_chosen k) c (flag_of k) (last_of k) (said k).known in
    record { flag = flag_of k; last = last_of k; says = rw first (said k); written = rw first written }

whole_found : (s : List ℕ) → Bytes s → (x : Outcome Clock) → read_from record_layout s 0 ≡ x → (restored x).refusal ≡ 0 → Whole s (restored x).clock
whole_found s b (got c) e z =
    let t = taken s b c record_layout 0 e in
    rw t.is at (whole_chosen s t.choice (t.ahead.is ∙ append-nil _))
whole_found s b (failed r) e z = absurd (omega (arith, (refusal_known s e).0))

pub one_form : OneForm reading_of
unfolding reading_of
one_form s b z = whole_found s b (read_from record_layout s 0) refl z

-- what was read of a version from 2 on
pub record Own (version : ℕ) (s : List ℕ) (c : Clock) : Type 0 where
  pub says : Says version c c.updated c.interval
  pub written : s ≡ record_in version c c.updated c.interval

pub read_own : (version : ℕ) → eqb version 1 ≡ false → (s : List ℕ) → Bytes s → (reading_of s).refusal ≡ 0 → version_of s ≡ version → Own version s (reading_of s).clock
read_own version later s b z v =
    let w = one_form s b z in
    let says : Says version (reading_of s).clock w.flag w.last = rw v at w.says in
    let update : ◌≡◌ {A = Update} (record { updated = (reading_of s).clock.updated; interval = (reading_of s).clock.interval }) (record { updated = w.flag; interval = w.last }) = simp later at says.update in
    record {
      says = rw (ap (λ (u : Update). u.updated) update, ap (λ (u : Update). u.interval) update) says;
      written = rw v at w.written ∙ ap (λ (u : Update). record_in version (reading_of s).clock u.updated u.interval) (sym update);
    }

pub one_newest : OneNewest reading_of record_of
one_newest s b z v = (read_own newest refl s b z v).written

-- ---- written and read back through a buffer

refuses : {P : Type 0} {r k : ℕ} {x : Saved} → 0 < r → record { refusal = r; length = k } ≡ x → x.refusal ≡ 0 → P
refuses {r = r} h e f = let z : r ≡ 0 = ap (λ (y : Saved). y.refusal) e ∙ f in absurd (omega arith)

pub saved_is_kept : SavedIsKept saving_of buffer_after
saved_is_kept c buf e =
    ⊎_elim
    (λ t.
    ⊎_elim (λ l. refuses {r = 14} (omega arith) (too_short c buf t (ltb-true _ _ l)).answer e)
    (λ l.
    let w = stored c buf t (ltb-false _ _ l) refl refl in
    let n : (saving_of c buf).length ≡ length (record_of c) = sym (ap (λ (y : Saved). y.length) w.answer) in
    let b : buffer_after c buf ≡ record_of c ++ drop (length (record_of c)) buf = sym w.buffer in
    record {
      read = rw (n, b, take-append_seam) (reads_back newest c _ _ (writes_newest c t).says);
      later = rw (n, b, drop-append_seam);
    })
    (either (ltb (length buf) (length (record_of c)))))
    (λ t. refuses {r = 1} (omega arith) (out_of_range c buf t).answer e)
    (either (in_range c))
