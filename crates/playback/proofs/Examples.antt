-- The histories of `Examples` print what is said there, computed; and what prints otherwise is shut out.
use mathlib.Core.Path.{refl}
use Rattle.calendar.specs.Calendar.{date_of}
use Rattle.state.specs.Device.{device_of}
use Rattle.state.specs.State.{in_range}
use Rattle.clock.specs.Rollover.{rolled_over}
use Rattle.clock.specs.Tick.{unit_in, ticked, tick_refusal, tick_of}
use Rattle.clock.specs.Reading.{reading_refusal, told_of}
use Rattle.clock.specs.Setting.{setting_refusal, setting_of}
use Rattle.request.specs.Request.{request_refusal, request_of}
use Rattle.number.specs.Reading.{leading_more, value_of, judged, number_at}
use Rattle.number.specs.Sequence.{then}
use Rattle.number.specs.Mapping.{unmapped}
use Rattle.label.specs.Label.{label_of}
use Rattle.clock.specs.Ticks.{ran_of, ticks_of}
use Rattle.history.specs.Event.{field_at, ticks_at, setting_at, request_at, summary_at, arguments_at, event_at}
use Rattle.summary.specs.Summary.{with_offset}
use Rattle.playback.specs.Lines.{decimal_from, decimal, refused_line, log_line, print_line, quarter_line, cell_line}
use Rattle.playback.specs.Event.{outcome_of, printed_by, printed, line_of, summary_after}
use Rattle.playback.specs.Run.{step_at_end, step, run_after, lines_of, replay_of}
use Rattle.playback.specs.Examples.{Examples, output_of, WrongOutputs}
use Rattle.playback.proofs.Apart.{length_apart}

pub examples : Examples output_of
unfolding device_of date_of in_range rolled_over unit_in ticked tick_refusal tick_of ran_of ticks_of
    reading_refusal told_of setting_refusal setting_of request_refusal request_of label_of
    leading_more value_of judged number_at then unmapped field_at ticks_at setting_at request_at summary_at arguments_at event_at
    decimal_from decimal refused_line log_line print_line quarter_line cell_line with_offset outcome_of printed_by printed line_of summary_after
    step_at_end step run_after lines_of replay_of
examples =
    record {
      documented = refl;
      nothing = refl;
      inside = refl;
      long_form = refl;
      unknown_code = refl;
      high_mode = refl;
      summary = refl;
      asked_again = refl;
      no_offset = refl;
    }

pub wrong_outputs : WrongOutputs
wrong_outputs =
    record {
      documented = λ e. length_apart refl e.documented;
      nothing = λ e. length_apart refl e.nothing;
      inside = λ e. length_apart refl e.inside;
      long_form = λ e. length_apart refl e.long_form;
      unknown_code = λ e. length_apart refl e.unknown_code;
      high_mode = λ e. length_apart refl e.high_mode;
      summary = λ e. length_apart refl e.summary;
      asked_again = λ e. length_apart refl e.asked_again;
      no_offset = λ e. length_apart refl e.no_offset;
    }
