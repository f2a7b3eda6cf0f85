use Rattle.hm_shortest.proofs.Directly.{goes_copied}
use Rattle.hm_shortest.proofs.direct.DirectWay.go_over_copied.Goals as goal

pub returns : goal.returns
returns c = λ t.
    goes_copied t c.args.step.now c.args.bytes.now c.args.self.now c.begin.new.self c.copy.new.self c.requires.stretch c.requires.copies c.requires.some c.requires.ascii c.begin.ensures.place c.begin.ensures.stretch c.begin.ensures.known c.begin.ensures.first
    c.in_ok-copy.ensures.first c.in_ok-copy.ensures.stretch c.in_ok-copy.ensures.place
