-- Of each wrong clock what it does: computed.
use mathlib.Core.Path.{refl}
use Rattle.state.specs.Device.{device_of}
use Rattle.state.specs.State.{in_range}
use Rattle.clock.specs.Reading.{told_of, reading_refusal}
use Rattle.clock.specs.Rollover.{rolled_over}
use Rattle.clock.specs.Tick.{unit_in, ticked, tick_refusal, tick_of}
use Rattle.clock.specs.Ticks.{ran_of, catch_up_of}
use Rattle.clock.specs.Setting.{setting_refusal, setting_of}
use Rattle.request.specs.Request.{request_refusal, requested, request_of}
use Rattle.bounds.specs.Calls.{after_by}
use Rattle.bounds.specs.AsNamed.{EachAsNamed}

pub as_named : EachAsNamed
unfolding device_of in_range told_of reading_refusal rolled_over unit_in ticked tick_refusal tick_of ran_of
    catch_up_of setting_refusal setting_of request_refusal requested request_of after_by
as_named = (
  record {
    refuses = record { wrong_answer = refl; right_answer = refl };
    says = record { wrong_answer = refl; right_answer = refl };
    says_and_does = refl;
    zero = record { wrong_answer = refl; right_answer = refl };
    ahead = record { wrong_answer = refl; right_answer = refl };
    ahead_no_longer = refl;
    idle = refl;
    counts = refl;
    counts_only = refl;
    begun_not = refl;
    begun = refl;
    pays_first = refl;
    rolls_at_second = refl;
    takes_later = refl;
    pays_no_later = refl;
    pays = refl;
    keeps = refl;
    late = record { wrong_answer = refl; right_answer = refl };
    late_never = refl;
    drops = record { wrong_answer = refl; right_answer = refl };
    drops_no_more = refl;
    ahead_always = record { wrong_answer = refl; right_answer = refl };
    uncounted = record { wrong_answer = refl; right_answer = refl };
    no_update = record { wrong_answer = refl; right_answer = refl };
    ceiling = record { wrong_answer = refl; right_answer = refl };
    ceiling_clock = refl;
    overruns = record { wrong_answer = refl; right_answer = refl };
    hides = record { wrong_answer = refl; right_answer = refl };
    refused_count = record { wrong_answer = refl; right_answer = refl };
    refused_tick = record { wrong_answer = refl; right_answer = refl };
    refused_clock = refl;
    forgets = record { wrong_answer = refl; right_answer = refl };
    soon = record { wrong_answer = refl; right_answer = refl };
    ahead_whole = record { wrong_answer = refl; right_answer = refl };
    ahead_whole_only = refl;
    dawdles = refl;
    lingers = refl;
  },
  record {
    refuses = record { wrong_answer = refl; right_answer = refl };
    says = record { wrong_answer = refl; right_answer = refl };
    says_and_does = refl;
    zero = record { wrong_answer = refl; right_answer = refl };
    ahead = record { wrong_answer = refl; right_answer = refl };
    ahead_no_longer = refl;
    idle = refl;
    counts = refl;
    counts_only = refl;
    begun_not = refl;
    begun = refl;
    pays_first = refl;
    rolls_at_second = refl;
    takes_later = refl;
    pays_no_later = refl;
    pays = refl;
    keeps = refl;
    late = record { wrong_answer = refl; right_answer = refl };
    late_never = refl;
    drops = record { wrong_answer = refl; right_answer = refl };
    drops_no_more = refl;
    ahead_always = record { wrong_answer = refl; right_answer = refl };
    uncounted = record { wrong_answer = refl; right_answer = refl };
    no_update = record { wrong_answer = refl; right_answer = refl };
    ceiling = record { wrong_answer = refl; right_answer = refl };
    ceiling_clock = refl;
    overruns = record { wrong_answer = refl; right_answer = refl };
    hides = record { wrong_answer = refl; right_answer = refl };
    refused_count = record { wrong_answer = refl; right_answer = refl };
    refused_tick = record { wrong_answer = refl; right_answer = refl };
    refused_clock = refl;
    forgets = record { wrong_answer = refl; right_answer = refl };
    soon = record { wrong_answer = refl; right_answer = refl };
    ahead_whole = record { wrong_answer = refl; right_answer = refl };
    ahead_whole_only = refl;
    dawdles = refl;
    lingers = refl;
  },
  record { first = refl; second = refl },
)
