-- The writer and the reader undo each other, and the reader accepts exactly the strings that the writer can
-- write. The statements (specs/Properties.antt) are over the definitions that the contracts of `write` and
-- `read` name.
use Rattle.std.proofs.Common.{◌≡◌, ℕ, ◌/◌, ◌↔◌, List, ◌++◌, take, drop, sym, refl, ap, ◌∙◌, arith, take_at}
use Rattle.state.specs.declared.state.Clock.{Clock}
use Rattle.state.specs.Units.{seconds_per_day}
use Rattle.calendar.proofs.Dates.{one_day}
use Rattle.label.specs.declared.UtcSecond.{UtcSecond}
use Rattle.label.specs.Label.{label_of, is_sixty, clock_label, label_size}
use Rattle.label.specs.Writing.{write_refusal, written_to}
use Rattle.label.specs.Properties.{OneAnswer, ReadsWritten, WritesRead, AcceptedIff}
use Rattle.label.specs.Reading.{WrittenFor, ReadsAs, accepted, refused}
use Rattle.label.proofs.Bytes.{Says}
use Rattle.label.proofs.DayTime.{shown_once}
use Rattle.label.proofs.Room.{twenty, wrote}
use Rattle.label.proofs.Accept.{clock_says}

-- ---- the reader has one answer

-- clocks that write the same bytes show the same second, with a 60 or without
pub same_second : {c c' : Clock} {text : List ℕ} → WrittenFor c text → WrittenFor c' text
    → (c.seconds ≡ c'.seconds) × (is_sixty c ≡ is_sixty c')
same_second {c} {c'} w w' =
    let says : Says _ c.seconds (is_sixty c) = clock_says w in
    let says' : Says _ c'.seconds (is_sixty c') = clock_says w' in
    let day = one_day (c.seconds / seconds_per_day) (c'.seconds / seconds_per_day) (sym says.date ∙ says'.date) in
    let time = shown_once says.time says'.time in
    (omega (arith, day, time.0), time.1)

both : {text : List ℕ} {r r' : UtcSecond} → ReadsAs text r → ReadsAs text r' → r ≡ r'
both (accepted w) (accepted w') = let e = same_second w w' in cc
both (accepted w) (refused f) = absurd (f _ w)
both (refused f) (accepted w) = absurd (f _ w)
both (refused f) (refused g) = refl

pub one_answer : OneAnswer ReadsAs
one_answer text r r' a b = both a b

-- ---- written and read

-- what an accepted writing puts into the buffer
in_buffer : (c : Clock) (out : List ℕ) → write_refusal c out ≡ 0 → take label_size (written_to c out) ≡ clock_label c
unfolding written_to
in_buffer c out e = rw e (take_at (clock_label c) (drop label_size out) label_size (twenty c.seconds (is_sixty c)))

pub read_written : ReadsWritten written_to
read_written c out r e a = one_answer _ _ _ a (accepted (record { sound = (wrote c out e).0; bytes = in_buffer c out e }))

pub write_read : WritesRead written_to
unfolding written_to
write_read text s sixty c out (accepted {c = d} w) p q e =
    let same : clock_label c ≡ clock_label d = ap (λ (s : ℕ). label_of s (is_sixty c)) p ∙ ap (label_of d.seconds) q in
    rw e (ap (λ (l : List ℕ). l ++ drop label_size out) (same ∙ sym w.bytes))

-- ---- the strings that are accepted

iff : {text : List ℕ} {r : UtcSecond} → ReadsAs text r → (r.refusal ≡ 0) ↔ ((c : Clock) × WrittenFor c text)
iff (accepted {c} w) = ((λ _. (c, w)), (λ _. refl))
iff (refused f) = ((λ e. absurd (omega arith)), (λ p. absurd (f p.0 p.1)))

pub accepted_iff : AcceptedIff ReadsAs
accepted_iff text r a = iff a
