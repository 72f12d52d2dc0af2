-- Each number at its edge and beyond: computed.
use mathlib.Core.Path.{◌≡◌, refl}
use mathlib.Core.Bool.{true, false}
use Prim.Native.Nat.{ℕ, ◌≤◌, ◌<◌}
use lib.Dec.{leb, ltb}
use borrow.Author.Tests.{leb-true, ltb-true}
use Rattle.state.specs.Device.{device_of}
use Rattle.state.specs.State.{in_range}
use Rattle.clock.specs.Rollover.{rolled_over}
use Rattle.clock.specs.Tick.{unit_in, ticked, tick_refusal, tick_of}
use Rattle.clock.specs.Ticks.{ran_of, catch_up_of}
use Rattle.clock.specs.Setting.{setting_refusal, setting_of}
use Rattle.request.specs.Request.{request_refusal, requested, request_of}
use Rattle.bounds.specs.Calls.{after_by}
use Rattle.bounds.specs.Singly.{single_ticks, singly_from}
use Rattle.bounds.specs.Measure.{measure_of}
use Rattle.bounds.specs.Book.{book_from}
use Rattle.event.specs.declared.event.Event.TheVariants.{CatchUp}
use Rattle.bounds.specs.Edges.{Edge, Edges}
use Rattle.bounds.proofs.ShutOut.{not_below, not_most}
use Rattle.bounds.proofs.Ticked.{answers_as}

-- both sides of an order, from its tests
below : {a b c d : ℕ} → ltb a b ≡ true → ltb c d ≡ false → Edge (a < b) (c < d)
below {a} {b} h n = (ltb-true a b h, not_below n)

most : {a b c d : ℕ} → leb a b ≡ true → leb c d ≡ false → Edge (a ≤ b) (c ≤ d)
most {a} {b} h n = (leb-true a b h, not_most n)

within : {a b : ℕ} → leb a b ≡ true → a ≤ b
within {a} {b} h = leb-true a b h

pub edges : Edges
unfolding device_of measure_of in_range rolled_over unit_in ticked tick_refusal tick_of ran_of catch_up_of
    setting_refusal setting_of request_refusal requested request_of after_by single_ticks singly_from book_from
edges =
    record {
      near256 = record { behind = below refl refl; ahead = below refl refl };
      near1024 = record { behind = below refl refl; ahead = below refl refl };
      micro256 = record { behind = below refl refl; ahead = below refl refl };
      micro1024 = record { behind = below refl refl; ahead = below refl refl };
      moved256 = record { under = most refl refl; over = most refl refl; negative = most refl refl };
      moved1024 = record { under = most refl refl; over = most refl refl; negative = most refl refl };
      forward256 = most refl refl;
      forward1024 = most refl refl;
      second256 =
          record {
            fewest = (record { least = within refl; most = within refl }, λ e. not_most refl e.least);
            greatest = (record { least = within refl; most = within refl }, λ e. not_most refl e.most);
          };
      second1024 =
          record {
            fewest = (record { least = within refl; most = within refl }, λ e. not_most refl e.least);
            greatest = (record { least = within refl; most = within refl }, λ e. not_most refl e.most);
          };
      ceiling256 = ((answers_as _ (CatchUp 2 true)).0 refl, λ t. not_most refl t.most);
      ceiling1024 = ((answers_as _ (CatchUp 2 true)).0 refl, λ t. not_most refl t.most);
      soon = record { soon = refl; in_time = refl; first = refl; other = refl; between = most refl refl };
      interval = record { below = refl; limit = refl; beyond = refl; none = refl };
      ticks256 = record { start = refl; setting = refl };
      ticks1024 = record { start = refl; setting = refl };
    }
