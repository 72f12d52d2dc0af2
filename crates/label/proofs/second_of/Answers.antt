-- `label::second_of` meets its contract: each test refuses only bytes that no clock's label has, and what
-- passes all is a label.
use Rattle.std.proofs.Common.{sym, ◌∙◌, arith, rules}
use Rattle.label.proofs.Accept.{found_alike, not_twenty, not_marked, not_dated, not_timed, too_late, is_label}
use Rattle.label.proofs.DayTime.{shown_alike, sixty_alike}
use Rattle.label.proofs.second_of.Goals as goal

pub returns-in_err-text : goal.returns-in_err-text
returns-in_err-text c = rw c.from_residual.ensures (not_twenty _ c.in_err-text.ensures.cases)

pub returns-then-not-is_marked : goal.returns-then-not-is_marked
returns-then-not-is_marked c =
    let text = c.in_ok-text.text.now in
    rw c.in_ok-text.ensures.cases.same at (not_marked text (sym c.is_marked.ensures ∙ c.if-not-is_marked.true))

pub returns-in_err-second : goal.returns-in_err-second
returns-in_err-second c =
    let text = c.in_ok-text.text.now in
    let alike = c.time_at-time.ensures in
    rw c.from_residual-in_err-second.ensures
    (rw c.in_ok-text.ensures.cases.same at (not_timed text (shown_alike alike.hour alike.minute alike.second c.in_err-second.ensures)))

pub returns-in_err-day : goal.returns-in_err-day
returns-in_err-day c =
    let text = c.in_ok-text.text.now in
    rw c.from_residual-in_err-day.ensures
    (rw c.in_ok-text.ensures.cases.same at (not_dated text (found_alike c.date_at.ensures c.in_err-day.ensures)))

pub returns-in_err-seconds_of : goal.returns-in_err-seconds_of
returns-in_err-seconds_of c =
    let text = c.in_ok-text.text.now in
    let alike = c.time_at-time.ensures in
    let day = found_alike c.date_at.ensures c.in_ok-day.ensures in
    let time = shown_alike alike.hour alike.minute alike.second c.in_ok-second.ensures in
    rw c.from_residual-in_err-seconds_of.ensures
    (rw c.in_ok-text.ensures.cases.same at (too_late text _ _ day time c.in_err-seconds_of.ensures))

pub returns : goal.returns
returns c =
    let text = c.in_ok-text.text.now in
    let alike = c.time_at-time.ensures in
    let day = found_alike c.date_at.ensures c.in_ok-day.ensures in
    let time = shown_alike alike.hour alike.minute alike.second c.in_ok-second.ensures in
    let sixty = c.is_sixty.ensures ∙ sixty_alike alike.second in
    let seconds = c.in_ok-seconds_of.ensures in
    rw (← seconds.0, ← sixty, c.in_ok-text.ensures.cases.same) at
    (is_label text _ _ (search rules) (sym c.is_marked.ensures ∙ c.if-not-is_marked.false) day time (omega (arith, seconds.0, seconds.1)))
