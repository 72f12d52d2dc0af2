-- `label::text::put_label` meets its contract: its parts are the century, the year in it with the month and
-- the day, and the time, with a mark after each of the last two.
use Rattle.std.proofs.Common.{◌≡◌, ◌*◌, ◌/◌, ◌%◌, ◌-◌, ◌∙◌, arith, rules}
use Rattle.label.specs.Label.{label_of}
use Rattle.label.proofs.Digits.{tens_of_year, units_of_year}
use Rattle.label.proofs.Parts.{ranges_of, century_of}
use Rattle.label.proofs.Placed.{filled}
use Rattle.label.proofs.text.put_label.Goals as goal

pub two_digits-requires : goal.two_digits-requires
two_digits-requires c =
    omega (arith, (ranges_of c.args.seconds (search rules) c.date_of_second-date.ensures).year)

pub overflow_sub-year : goal.overflow_sub-year
overflow_sub-year c =
    omega (arith, century_of c.args.seconds (search rules) c.date_of_second-date.ensures)

pub marked_pairs-of_century-requires : goal.marked_pairs-of_century-requires
marked_pairs-of_century-requires c =
    let r = ranges_of c.args.seconds (search rules) c.date_of_second-date.ensures in (
      omega (arith, century_of c.args.seconds (search rules) c.date_of_second-date.ensures),
      omega (arith, r.month),
      omega (arith, r.day),
      omega arith,
    )

pub returns : goal.returns
unfolding label_of
returns c =
    let y = c.date_of_second-date.result.year in
    let century = century_of c.args.seconds (search rules) c.date_of_second-date.ensures in
    let in_century : y - 100 * (y * 5243 / 524288) ≡ y % 100 = omega (arith, century) in
    rw (in_century, tens_of_year y, units_of_year y, century, c.date_of_second-date.ensures) at
    (filled c.args.out.now _ _ _ _ _ _ _ (search rules)
    (c.copy_from_slice.ensures.after ∙ c.two_digits.ensures)
    (c.copy_from_slice-2.ensures.after ∙ c.marked_pairs-of_century.ensures)
    (c.copy_from_slice-3.ensures.after ∙ c.time_text.ensures))
