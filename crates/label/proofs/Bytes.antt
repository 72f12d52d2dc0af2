-- Between twenty bytes and the parts of a label: what a label's bytes say, and that bytes which say it are
-- the label's.
use Rattle.std.proofs.Common.{◌≡◌, ℕ, zero, suc, ◌+◌, ◌*◌, ◌/◌, ◌%◌, ◌<◌, ◌≤◌, Bool, true, false, cond, eqb, List, [], ◌∷◌, length, get_or, drop, sym, refl, ap, ◌∙◌, arith, drop-cons, eqb-true}
use lib.Seq.{drop-length}
use Rattle.integers.proofs.Ranges.{and_true}
use Rattle.state.specs.Units.{seconds_per_day, last_second_of_day}
use Rattle.state.specs.State.{last_second}
use Rattle.calendar.specs.declared.Date.{Date}
use Rattle.calendar.specs.Calendar.{date_of, days}
use Rattle.calendar.proofs.Dates.{on, same_parts}
use Rattle.label.specs.Label.{digit, layout, label_of, hyphen, letter_t, colon, letter_z, label_size, seconds_per_minute, minutes_per_hour, hours_per_day, seconds_per_hour, inserted_second}
use Rattle.label.specs.Inner.{pair_of, pair_at, is_marked, date_at, Shows, no_pair}
use Rattle.label.proofs.Digits.{pair_of_two, two_of_pair, tens_of_year, units_of_year}
use Rattle.label.proofs.Parts.{Ranges, ranges, ranges_of}

-- ---- a list, byte by byte

-- n bytes of a list, from place i on
abbrev bytes_from : List ℕ → ℕ → ℕ → List ℕ
bytes_from l i zero = []
bytes_from l i (suc n) = get_or l i 0 ∷ bytes_from l (suc i) n

spelled : (l : List ℕ) (n i : ℕ) → i + n ≡ length l → drop i l ≡ bytes_from l i n
spelled l zero i e = let end : i ≡ length l = omega arith in rw end (drop-length l)
spelled l (suc n) i e = drop-cons l i 0 (omega arith) ∙ ap (λ (r : List ℕ). get_or l i 0 ∷ r) (spelled l n (suc i) (omega arith))

then : {a b : ℕ} {x y : List ℕ} → a ≡ b → x ≡ y → a ∷ x ≡ b ∷ y
then p q = cc

same_layout : {d e : Date} {h i m n s t : ℕ} → d ≡ e → h ≡ i → m ≡ n → s ≡ t → layout d h m s ≡ layout e i n t
same_layout p q r o = rw (p, q, r, o)

-- ---- what a label's bytes say

pub record Says (text : List ℕ) (s : ℕ) (sixty : Bool) : Type 0 where
  pub bound : s ≤ last_second
  pub long : length text ≡ label_size
  pub marked : is_marked text ≡ true
  pub date : date_at text ≡ date_of (s / seconds_per_day)
  pub time : Shows (s % seconds_per_day) sixty (pair_at text 11) (pair_at text 14) (pair_at text 17)

-- a date that is written reads as itself
date_back : (d : Date) → Ranges d
    → on (100 * pair_of (digit (d.year / 100 / 10)) (digit (d.year / 100)) + pair_of (digit (d.year / 10)) (digit d.year))
    (pair_of (digit (d.month / 10)) (digit d.month)) (pair_of (digit (d.day / 10)) (digit d.day))
    ≡ d
date_back d r =
    let century = pair_of_two _ _ (d.year / 100) (omega (arith, r.year)) refl refl in
    let year = pair_of_two _ _ (d.year % 100) (omega arith) (sym (tens_of_year d.year)) (sym (units_of_year d.year)) in
    same_parts
    (omega (arith, century, year))
    (pair_of_two _ _ d.month (omega (arith, r.month)) refl refl)
    (pair_of_two _ _ d.day (omega (arith, r.day)) refl refl)

second_back : (s : ℕ) (sixty : Bool) → pair_of (digit (cond sixty inserted_second (s % seconds_per_minute) / 10)) (digit (cond sixty inserted_second (s % seconds_per_minute))) ≡ cond sixty inserted_second (s % seconds_per_day % seconds_per_minute)
second_back s true = pair_of_two _ _ inserted_second (omega arith) refl refl
second_back s false = pair_of_two _ _ (s % seconds_per_minute) (omega arith) refl refl ∙ omega arith

pub says : {text : List ℕ} {s : ℕ} {sixty : Bool} → s ≤ last_second → (sixty ≡ true → s % seconds_per_day ≡ last_second_of_day) → text ≡ label_of s sixty → Says text s sixty
unfolding label_of
says {text} {s} {sixty} h l e =
    rw e record {
      bound = h;
      long = refl;
      marked = refl;
      date = date_back (date_of (s / seconds_per_day)) (ranges_of s h refl);
      time =
          record {
            within = omega arith;
            last = l;
            hour = pair_of_two _ _ (s / seconds_per_hour % hours_per_day) (omega arith) refl refl ∙ omega arith;
            minute = pair_of_two _ _ (s / seconds_per_minute % minutes_per_hour) (omega arith) refl refl ∙ omega arith;
            second = second_back s sixty;
          };
    }

-- ---- bytes that say it

second_fits : (t : ℕ) (sixty : Bool) → cond sixty inserted_second (t % seconds_per_minute) < no_pair
second_fits t true = omega arith
second_fits t false = omega arith

module _ (text : List ℕ) (long : length text ≡ label_size) (marked : is_marked text ≡ true) where
  -- where every pair of bytes reads as less than 10,000, the bytes are the layout of what they read as
  laid_out : pair_at text 0 < no_pair → pair_at text 2 < no_pair → pair_at text 5 < no_pair → pair_at text 8 < no_pair
      → pair_at text 11 < no_pair → pair_at text 14 < no_pair → pair_at text 17 < no_pair
      → text ≡ layout (date_at text) (pair_at text 11) (pair_at text 14) (pair_at text 17)
  laid_out h0 h2 h5 h8 h11 h14 h17 =
      let m5 = and_true _ (eqb (get_or text 19 0) letter_z) marked in
      let m4 = and_true _ (eqb (get_or text 16 0) colon) m5.0 in
      let m3 = and_true _ (eqb (get_or text 13 0) colon) m4.0 in
      let m2 = and_true _ (eqb (get_or text 10 0) letter_t) m3.0 in
      let m1 = and_true (eqb (get_or text 4 0) hyphen) (eqb (get_or text 7 0) hyphen) m2.0 in
      let p0 = two_of_pair _ _ h0 in
      let p2 = two_of_pair _ _ h2 in
      let year = 100 * pair_at text 0 + pair_at text 2 in
      let century : year / 100 ≡ pair_at text 0 = omega (arith, p2.0) in
      let in_century : year % 100 ≡ pair_at text 2 = omega (arith, p2.0) in
      let tens : digit (pair_at text 2 / 10) ≡ digit (year / 10) = rw in_century at (tens_of_year year) in
      let units : digit (pair_at text 2) ≡ digit year = rw in_century at (units_of_year year) in
      let p5 = two_of_pair _ _ h5 in
      let p8 = two_of_pair _ _ h8 in
      let p11 = two_of_pair _ _ h11 in
      let p14 = two_of_pair _ _ h14 in
      let p17 = two_of_pair _ _ h17 in
      let time = then (eqb-true (get_or text 10 0) letter_t m2.1) (then p11.1 (then p11.2
      (then (eqb-true (get_or text 13 0) colon m3.1) (then p14.1 (then p14.2
      (then (eqb-true (get_or text 16 0) colon m4.1) (then p17.1 (then p17.2
      (then (eqb-true (get_or text 19 0) letter_z m5.1) refl))))))))) in
      let date = then (eqb-true (get_or text 4 0) hyphen m1.0) (then p5.1 (then p5.2
      (then (eqb-true (get_or text 7 0) hyphen m1.1) (then p8.1 (then p8.2 time))))) in
      spelled text label_size 0 (sym long)
      ∙ then (rw century p0.1) (then (rw century p0.2) (then (p2.1 ∙ tens) (then (p2.2 ∙ units) date)))

  module _ (n t : ℕ) (sixty : Bool) (known : n < days) (date : date_at text ≡ date_of n)
      (time : Shows t sixty (pair_at text 11) (pair_at text 14) (pair_at text 17)) where
    -- the bytes are the label of the second that they say
    pub written : text ≡ label_of (seconds_per_day * n + t) sixty
    unfolding label_of
    written =
        let r : Ranges (date_of n) = ranges n known in
        let year : 100 * pair_at text 0 + pair_at text 2 ≡ (date_of n).year = ap (λ (d : Date). d.year) date in
        let month : pair_at text 5 ≡ (date_of n).month = ap (λ (d : Date). d.month) date in
        let day : pair_at text 8 ≡ (date_of n).day = ap (λ (d : Date). d.day) date in
        let below : t < seconds_per_day = time.within in
        let to_day : (seconds_per_day * n + t) / seconds_per_day ≡ n = omega arith in
        let to_hour : t / seconds_per_hour ≡ (seconds_per_day * n + t) / seconds_per_hour % hours_per_day = omega arith in
        let to_minute : t / seconds_per_minute % minutes_per_hour ≡ (seconds_per_day * n + t) / seconds_per_minute % minutes_per_hour = omega arith in
        let to_second : t % seconds_per_minute ≡ (seconds_per_day * n + t) % seconds_per_minute = omega arith in
        laid_out
        (omega (arith, r.year))
        (omega (arith, r.year))
        (omega (arith, r.month))
        (omega (arith, r.day))
        (omega (arith, time.hour))
        (omega (arith, time.minute))
        (rw time.second (second_fits t sixty))
        ∙ same_layout
        (date ∙ ap date_of (sym to_day))
        (time.hour ∙ to_hour)
        (time.minute ∙ to_minute)
        (time.second ∙ ap (cond sixty inserted_second) to_second)
