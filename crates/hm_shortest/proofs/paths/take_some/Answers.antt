use Rattle.std.proofs.Common.{chars}
use Rattle.std.proofs.lemmas.Result.{IfOk-weaker}
use Rattle.hm_graph_laws.specs.Units.{in_text}
use Rattle.hm_shortest.specs.Paths.{GoesOver}
use Rattle.hm_shortest.proofs.Walking.{text_inside, text_on}
use Rattle.hm_shortest.proofs.paths.take_some.Goals as goal

pub take_char-requires-clause-inside : goal.take_char-requires-clause-inside
take_char-requires-clause-inside c = text_inside c.args.graph.now (chars c.args.text.now) (chars c.in_ok-rest.rest.now) c.args.way.now c.copy_alike.new.way c.in_ok-rest.ensures.goes c.requires.inside

pub take_char-requires-clause-on : goal.take_char-requires-clause-on
take_char-requires-clause-on c = (c.in_ok-rest.ensures.goes in_text).on

pub returns-clause-goes : goal.returns-clause-goes
returns-clause-goes c =
    IfOk-weaker c.take_char.result (λ rest. GoesOver c.args.graph.now (chars c.in_ok-rest.rest.now) (chars rest.now) c.copy_alike.new.way c.take_char.new.way) (λ rest. GoesOver c.args.graph.now (chars c.args.text.now) (chars rest.now) c.args.way.now c.take_char.new.way)
    (λ rest next. text_on c.args.graph.now (chars c.args.text.now) (chars c.in_ok-rest.rest.now) (chars rest.now) c.args.way.now c.copy_alike.new.way c.take_char.new.way c.in_ok-rest.ensures.goes next) c.take_char.ensures.goes
