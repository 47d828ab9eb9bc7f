use Rattle.std.proofs.Common.{◌≡◌, ◌+◌, ◌*◌, ◌-◌}
use Rattle.reading.specs.Codes.{codes_of}
use Rattle.reading.specs.Reading.{each}
use Rattle.p21_read.specs.declared.fault.P21Cause.TheVariants.{BadToken}
use Rattle.p21_read.specs.Values.{place, series, series_turn, value}
use Rattle.p21_read.proofs.value.+read.Given as goal

abbrev pub decreases-value : goal.decreases-value
decreases-value l = 3 * l.depth + 1

abbrev pub decreases-typed : goal.decreases-typed
decreases-typed l = 3 * l.depth

abbrev pub decreases-read_series : goal.decreases-read_series
decreases-read_series l = 3 * l.depth + 2

abbrev pub decreases-inside : goal.decreases-inside
decreases-inside l = 3 * l.depth + 2

abbrev pub invariant-read_series-loop : goal.invariant-read_series-loop
invariant-read_series-loop l =
    series (value l.fn.depth) (codes_of l.fn.at) l.fn.cursor
    ≡ each BadToken (series_turn (value l.fn.depth) (codes_of l.fn.at)) (l.end - l.counter) (record { values = l.values.items; late = place l.late }) l.cursor
