use Rattle.hm_scan.proofs.TagBodies.{read_cut, read_end, read_more}
use Rattle.hm_scan.proofs.tag_body.read_body.Goals as goal

pub returns-in-Nothing-clause-err : goal.returns-in-Nothing-clause-err
returns-in-Nothing-clause-err c =
    read_cut c.args.table.now.entries c.args.keeps c.args.text.now c.args.from c.loop-slash.at c.loop-slash.attrs c.loop-slash.collected c.loop-slash.invariant (rw c.as_bytes-bytes.ensures.value at c.in-Nothing.ensures)

pub returns-in-TagEnd-clause-ok : goal.returns-in-TagEnd-clause-ok
returns-in-TagEnd-clause-ok c =
    read_end c.args.table.now.entries c.args.keeps c.args.text.now c.args.from c.loop-slash.at c.in-TagEnd.after c.in-TagEnd.slash c.loop-slash.attrs c.loop-slash.collected c.loop-slash.invariant (rw c.as_bytes-bytes.ensures.value at c.in-TagEnd.ensures)

pub loop-slash-preserved : goal.loop-slash-preserved
loop-slash-preserved c =
    read_more c.args.table.now.entries c.args.keeps c.args.text.now c.args.from c.loop-slash.at c.in-Pair.start c.in-Pair.attribute c.loop-slash.attrs c.take.new.attrs c.loop-slash.collected c.take.new.self c.loop-slash.invariant
    (rw c.as_bytes-bytes.ensures.value at c.in-Pair.ensures)
    c.take.ensures.keeps
    (rw (c.range-name.ensures.value, c.range-value.ensures.value) at c.in_ok-take-in-Pair.ensures.taken)
