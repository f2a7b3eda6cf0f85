use Rattle.std.proofs.Common.{◌≡◌, ◌∙◌, [], chars, length, sym, ap}
use Rattle.std.proofs.lemmas.Bool.Decides.{Decides-eqb}
use Rattle.std.proofs.lemmas.List.{nil_from_length}
use Rattle.std.proofs.lemmas.Str.{chars-nil}
use Rattle.hm_graph_laws.specs.Units.{character_units, in_text}
use Rattle.hm_shortest.proofs.Walking.{goes_none, text_all, text_inside, text_on}
use Rattle.hm_shortest.proofs.paths.take_chars.Goals as goal

pub loop-rest-init : goal.loop-rest-init
loop-rest-init c = (c.utf8.text, λ kind. goes_none c.args.graph.now (character_units kind (chars c.args.text.now)) c.args.way.now c.requires.on)

pub take_some-requires-clause-inside : goal.take_some-requires-clause-inside
take_some-requires-clause-inside c = text_inside c.args.graph.now (chars c.args.text.now) (chars c.loop-rest.rest.now) c.args.way.now c.loop-rest.way c.loop-rest.invariant.1 c.requires.inside

pub take_some-requires-clause-on : goal.take_some-requires-clause-on
take_some-requires-clause-on c = (c.loop-rest.invariant.1 in_text).on

pub loop-rest-smaller : goal.loop-rest-smaller
loop-rest-smaller c = c.in_ok-rest.ensures.shorter

pub loop-rest-preserved : goal.loop-rest-preserved
loop-rest-preserved c =
    (c.in_ok-rest.ensures.utf8, text_on c.args.graph.now (chars c.args.text.now) (chars c.loop-rest.rest.now) (chars c.in_ok-rest.rest.now) c.args.way.now c.loop-rest.way c.take_some.new.way c.loop-rest.invariant.1 c.in_ok-rest.ensures.goes)

pub returns : goal.returns
returns c =
    let none : chars c.loop-rest.rest.now ≡ [] = ap chars (nil_from_length c.loop-rest.rest.now ((Decides-eqb (length c.loop-rest.rest.now) 0).0 (sym c.loop-rest-test.ensures))) ∙ chars-nil in
    text_all c.args.graph.now (chars c.args.text.now) (chars c.loop-rest.rest.now) c.args.way.now c.loop-rest.way none c.loop-rest.invariant.1
