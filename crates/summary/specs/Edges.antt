-- The numbers of a summary at their edges: where a quarter-hour ends, and where a count stops.
use Rattle.std.specs.Prelude.{◌≡◌}
use Rattle.summary.specs.Summary.{quarter_of, empty_summary, with_offset}
use Rattle.summary.specs.WrongSummaries.{holding}

pub record SummaryEdges : Type 0 where
  pub midnight : quarter_of 0 ≡ 0
  pub first_ends : quarter_of 899 ≡ 0
  pub second_begins : quarter_of 900 ≡ 1
  pub day_ends : quarter_of 86399 ≡ 95
  pub day_begins : quarter_of 86400 ≡ 0
  -- 7 February 2106, 06:28:15
  pub last_second : quarter_of 4294967295 ≡ 25
  pub first_offset : with_offset 7 5 empty_summary ≡ holding 7 1 5
  pub stops : with_offset 7 5 (holding 7 65534 3) ≡ holding 7 65535 5
  pub stays : with_offset 7 5 (holding 7 65535 3) ≡ holding 7 65535 5
  pub largest_stays : with_offset 7 3 (holding 7 65535 5) ≡ holding 7 65535 5
