-- Labels of document 01, written and read; and the readers and writers that the statements shut out.
use Rattle.std.proofs.Common.{◌≡◌, ℕ, ◌+◌, ◌/◌, ◌<◌, ◌≤◌, Bool, true, false, List, [], get_or, sym, refl, ap, ◌∙◌, true≢false, arith}
use Rattle.state.specs.Units.{seconds_per_day, last_second_of_day}
use Rattle.state.specs.State.{last_second}
use Rattle.state.specs.declared.state.Clock.{Clock}
use Rattle.calendar.proofs.Dates.{on, one_day}
use Rattle.calendar.proofs.Closed.{date_right}
use Rattle.label.specs.declared.UtcSecond.{UtcSecond}
use Rattle.label.specs.Inner.{Shows, pair_of, pair_at, date_at}
use Rattle.label.specs.Label.{label_of, is_sixty, clock_label}
use Rattle.label.specs.Properties.{leap_day, last_label, one_past, inserted, no_sixty}
use Rattle.label.specs.Properties.{AnsweredAs, Labels, WrongLabels, ShutOut}
use Rattle.label.specs.Reading.{label, no_label, WrittenFor, ReadsAs, refused}
use Rattle.label.specs.Writing.{write_refusal}
use Rattle.label.proofs.Accept.{clock_says, clock_at, clock_sound, accepts, last_day, last_day_end}
use Rattle.label.proofs.Bytes.{Says}
use Rattle.label.proofs.DayTime.{shown_once}
use Rattle.label.proofs.RoundTrip.{one_answer}

-- ---- the bytes are those of the seconds

leap_day_lem : leap_day ≡ label_of 951782400 false
unfolding label_of
leap_day_lem = rw (← date_right 11016 (omega arith))

last_label_lem : last_label ≡ label_of last_second false
unfolding label_of
last_label_lem = rw (← date_right last_day (omega arith))

inserted_second_lem : inserted ≡ label_of last_second_of_day true
unfolding label_of
inserted_second_lem = rw (← date_right 0 (omega arith))

leap_read : ReadsAs leap_day (label 951782400 false)
leap_read = accepts 951782400 false (omega arith) (λ e. absurd (true≢false (sym e))) leap_day_lem

inserted_read : ReadsAs inserted (label last_second_of_day true)
inserted_read = accepts last_second_of_day true (omega arith) (λ _. refl) inserted_second_lem

-- ---- 7 February 2106 has no label past 06:28:15

past_end : (text : List ℕ) (t : ℕ) (sixty : Bool) → date_at text ≡ on 2106 2 7
    → Shows t sixty (pair_at text 11) (pair_at text 14) (pair_at text 17) → last_day_end < t → ReadsAs text no_label
past_end text t sixty d w late =
    refused (λ c w'.
    let y : Says text c.seconds (is_sixty c) = clock_says w' in
    let right = date_right last_day (omega arith) in
    let day = one_day last_day (c.seconds / seconds_per_day) (sym right ∙ sym d ∙ y.date) in
    omega (arith, day, (shown_once w y.time).0, y.bound))

answered : {text : List ℕ} {a : UtcSecond} → ReadsAs text a → AnsweredAs ReadsAs text a
answered {text} {a} w = record { given = w; only = λ r v. one_answer text r a v w }

pub labels : Labels label_of ReadsAs
unfolding pair_of
labels =
    record {
      leap_written = sym leap_day_lem;
      last_written = sym last_label_lem;
      sixty_written = sym inserted_second_lem;
      leap = answered leap_read;
      last = answered (accepts last_second false (omega arith) (λ e. absurd (true≢false (sym e))) last_label_lem);
      sixty = answered inserted_read;
      past =
          answered (past_end one_past (last_day_end + 1) false refl
          (record {
            within = omega arith;
            last = λ e. absurd (true≢false (sym e));
            hour = refl;
            minute = refl;
            second = refl;
          })
          (omega arith));
      past_sixty =
          answered (past_end no_sixty last_second_of_day true refl
          (record { within = omega arith; last = λ _. refl; hour = refl; minute = refl; second = refl })
          (omega arith));
    }

-- of the inserted second's label, byte 17 is the 6 of its 60
pub wrong_labels : WrongLabels
unfolding label_of
wrong_labels =
    record {
      silent = λ l. l.leap.given;
      fifty_nine =
          λ l.
          let z : ◌≡◌ {A = ℕ} 0x35 0x36 = ap (λ (s : List ℕ). get_or s 17 0) l.sixty_written in
          absurd (omega arith);
    }

-- ---- what is shut out

abbrev first : Clock
first = clock_at 0 false

written_first : WrittenFor first (clock_label first)
written_first = record { sound = clock_sound 0 (omega arith) false; bytes = refl }

-- the buffer has the inserted second's label, which a wrong writer leaves there
room : (s : ℕ) → s ≤ last_second → write_refusal (clock_at s false) inserted ≡ 0
unfolding write_refusal
room s h = rw (clock_sound s h false)

pub shut_out : ShutOut
shut_out =
    record {
      several =
          λ h.
          let z : ◌≡◌ {A = ℕ} 15 0 = ap (λ (r : UtcSecond). r.refusal) (h [] no_label (label 0 false) tt tt) in
          absurd (omega arith);
      accepting = λ h. let w = (h [] (label 0 false) refl).0 refl in absurd (omega (arith, (clock_says w.1).long));
      refusing =
          λ h.
          let z : ◌≡◌ {A = ℕ} 15 0 = (h (clock_label first) no_label refl).1 (first, written_first) in
          absurd (omega arith);
      unread =
          λ h.
          let e = h first inserted (label last_second_of_day true) (room 0 (omega arith)) inserted_read in
          let z : last_second_of_day ≡ 0 = ap (λ (r : UtcSecond). r.seconds) e in
          absurd (omega arith);
      unwritten =
          λ h.
          let c = clock_at 951782400 false in
          let e = h leap_day 951782400 false c inserted leap_read refl refl (room 951782400 (omega arith)) in
          let z : ◌≡◌ {A = ℕ} 0x31 0x32 = ap (λ (s : List ℕ). get_or s 0 0) e in
          absurd (omega arith);
    }
