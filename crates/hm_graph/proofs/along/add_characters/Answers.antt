use Rattle.std.proofs.Common.{◌≡◌, ◌∙◌, [], chars, length, sym, ap}
use Rattle.std.proofs.lemmas.Bool.Decides.{Decides-eqb}
use Rattle.std.proofs.lemmas.List.{nil_from_length}
use Rattle.std.proofs.lemmas.Str.{chars-nil}
use Rattle.hm_edges.specs.Units.{kind_of}
use Rattle.hm_graph_laws.specs.Units.{character_units}
use Rattle.hm_graph.proofs.Going.{goes_none, goes_on, text_all}
use Rattle.hm_graph.proofs.along.add_characters.Goals as goal

pub loop-rest-init : goal.loop-rest-init
loop-rest-init g c = (c.utf8.text, goes_none g.V.Visitor.goes_on (character_units (kind_of c.args.kind) (chars c.args.text.now)) c.args.along.now)

pub loop-rest-preserved : goal.loop-rest-preserved
loop-rest-preserved g c =
    let kind = kind_of c.args.kind in (
      c.in_ok-rest.ensures.utf8,
      goes_on g.V.Visitor.goes_on (character_units kind (chars c.args.text.now)) (character_units kind (chars c.loop-rest.rest.now)) (character_units kind (chars c.in_ok-rest.rest.now)) c.args.along.now c.loop-rest.along
          c.add_some.new.along c.loop-rest.invariant.1 c.in_ok-rest.ensures.goes,
    )

pub returns : goal.returns
returns g c =
    let none : chars c.loop-rest.rest.now ≡ [] = ap chars (nil_from_length c.loop-rest.rest.now ((Decides-eqb (length c.loop-rest.rest.now) 0).0 (sym c.loop-rest-test.ensures))) ∙ chars-nil in
    text_all g.V.Visitor.goes_on (kind_of c.args.kind) (chars c.args.text.now) (chars c.loop-rest.rest.now) c.args.along.now c.loop-rest.along none c.loop-rest.invariant.1
