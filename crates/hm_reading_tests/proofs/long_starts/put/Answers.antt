use Rattle.std.proofs.Common.{ap, arith}
use Rattle.hm_base.specs.Walks.{attributes_size}
use Rattle.hm_reading_tests.proofs.Long.{size_added}
use Rattle.hm_reading_tests.proofs.long_starts.put.Goals as goal

pub returns-clause-size : goal.returns-clause-size
returns-clause-size c =
    omega (arith, ap attributes_size c.in_ok-put.ensures.after, size_added c.in_ok-put.field-0 c.args.attrs.now (record { name = c.args.name.now; value = c.args.name.now }), c.if-name-gt10.false)
