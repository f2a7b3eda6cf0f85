use Rattle.std.proofs.Common.{refl, arith}
use Rattle.hm_json_tree.specs.Breaks.{first_past, first_break}
use Rattle.hm_json_tree.proofs.reader.Reader.new.Goals as goal

pub returns-clause-at : goal.returns-clause-at
unfolding first_break
returns-clause-at c = rw (c.new-2.ensures, c.maker.ensures) (record {
  past = first_past;
  seen = c.new.ensures;
  path_is = refl;
  opened = refl;
  breaks = λ w. refl;
  last = c.new.ensures.text;
  shallow = omega arith;
  bytes = refl;
  room = omega arith;
  count = refl;
  few = omega arith;
})
