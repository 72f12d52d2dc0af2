-- The edges of a summary's numbers: computed.
use mathlib.Core.Path.{refl}
use Rattle.summary.specs.Summary.{with_offset}
use Rattle.summary.specs.Edges.{SummaryEdges}

pub summary_edges : SummaryEdges
unfolding with_offset
summary_edges =
    record {
      midnight = refl;
      first_ends = refl;
      second_begins = refl;
      day_ends = refl;
      day_begins = refl;
      last_second = refl;
      first_offset = refl;
      stops = refl;
      stays = refl;
      largest_stays = refl;
    }
