use Rattle.std.proofs.Common.{◌*◌, ◌≤◌, length}
use Rattle.hm_base.specs.Walks.{attributes_size}
use Rattle.hm_reading_tests.proofs.long_starts.attributes.Given as goal

abbrev pub invariant-loop-i : goal.invariant-loop-i
invariant-loop-i l = (length l.attrs ≤ l.i) × (attributes_size l.attrs ≤ 20 * l.i)
