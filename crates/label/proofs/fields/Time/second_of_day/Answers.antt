-- `label::fields::Time::second_of_day` meets its contract: each test refuses only what no second of a day
-- shows.
use Rattle.std.proofs.Common.{refl}
use Rattle.label.proofs.DayTime.{no_minute, minute_found, usual, repeated}
use Rattle.label.proofs.fields.Time.second_of_day.Goals as goal

pub returns-then-self : goal.returns-then-self
returns-then-self c =
    let t = c.args.self in
    no_minute t.hour t.minute t.second c.if-self.true

pub returns-then-self-ge-SECONDS_PER_MINUTE : goal.returns-then-self-ge-SECONDS_PER_MINUTE
returns-then-self-ge-SECONDS_PER_MINUTE c =
    let t = c.args.self in
    rw (c.then_some.ensures, c.is_sixty.ensures)
    (repeated t.hour t.minute t.second (minute_found t.hour t.minute c.if-self.false) _ refl c.if-self-ge-SECONDS_PER_MINUTE.true)

pub returns : goal.returns
returns c =
    let t = c.args.self in
    usual t.hour t.minute t.second (minute_found t.hour t.minute c.if-self.false) c.if-self-ge-SECONDS_PER_MINUTE.false
