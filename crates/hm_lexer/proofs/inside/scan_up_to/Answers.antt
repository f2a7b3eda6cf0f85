use Rattle.std.proofs.Common.{◌<◌, arith}
use Rattle.hm_lexer.proofs.Fronts.{at_each, reads_nothing, reads_references}
use Rattle.hm_lexer.proofs.inside.scan_up_to.Goals as goal

pub returns-then-references-clause-ok : goal.returns-then-references-clause-ok
returns-then-references-clause-ok c =
    let low : c.args.at < c.args.to = omega (arith, c.requires.end.forward, c.if-at-to.false) in
    rw (c.if-references.true, c.of.ensures) (reads_references c.args.table.now.entries c.args.text.now c.args.at c.args.to c.scan_text-token.result.0 c.scan_text-token.result.1 low c.requires.end.boundary
    (rw c.range.ensures.value at c.scan_text-token.ensures.reads))

pub returns-clause-ok : goal.returns-clause-ok
returns-clause-ok c =
    let low : c.args.at < c.args.to = omega (arith, c.requires.end.forward, c.if-at-to.false) in
    rw c.if-references.false (reads_nothing c.args.table.now.entries c.args.text.now c.args.at c.args.to low c.requires.boundary c.requires.end.boundary)

pub returns-then-at-to-clause-placed : goal.returns-then-at-to-clause-placed
returns-then-at-to-clause-placed c = at_each c.scan_tag_into.result c.scan_tag_into.new.tag c.args.at c.scan_tag_into.ensures.placed
