use Rattle.hm_graph.proofs.plain.keep_in.Goals as goal

pub returns-then-is_of : goal.returns-then-is_of
returns-then-is_of c = λ m more is own. c.put.ensures m more is (rw (c.if-is_of.ensures.list, c.if-is_of.ensures.kind) own)

pub returns : goal.returns
returns c = λ m more is own. c.put-2.ensures m more (c.in_ok-own.ensures.row m more) (rw (c.in_ok-own.ensures.list, c.in_ok-own.ensures.kind) own)
