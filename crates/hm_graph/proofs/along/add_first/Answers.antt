use Rattle.std.proofs.Common.{◌≡◌, ◌∙◌, ◌++◌, ◌∷◌, chars, slice_get, refl, sym, ap, subst}
use Rattle.std.specs.Prelude.{encode_utf8}
use Rattle.hm_edges.specs.Pieces.{own_bytes}
use Rattle.hm_edges.specs.Units.{kind_of}
use Rattle.hm_graph_laws.specs.Units.{character_units}
use Rattle.hm_graph.specs.Going.{GoesOver}
use Rattle.hm_graph.proofs.Going.{adds_by, by_table, goes_none, low_by, named_by, text_first}
use Rattle.hm_graph.proofs.along.add_first.Goals.{in-Some+in_ok-number+in_ok-take, in_default}
use Rattle.hm_graph.proofs.along.add_first.Goals as goal

pub take-requires : goal.take-requires
take-requires g c =
    record {
      named = named_by c.table.result.now c.add_character.new.self c.in_ok-number.number c.step.result.now c.table.ensures c.step.ensures c.in_ok-number.ensures.step;
      low = low_by c.add_character.new.self c.in_ok-number.number c.step.result.now c.step.ensures c.in_ok-number.ensures.step;
    }

pub returns-clause-goes : goal.returns-clause-goes
returns-clause-goes g c =
    let C = g.V.Visitor.goes_on in
    let kind = kind_of c.args.kind in
    let text = c.args.text.now in
    let rest = c.as_str-rest.result.now in
    elim c.match-first.branch [
      | in-Some+in_ok-number+in_ok-take w ↦ let cut : text ≡ encode_utf8 w.in-Some.c ++ rest = sym c.chars-characters.ensures.rest ∙ w.in-Some.ensures.steps.0 ∙ ap (λ r. encode_utf8 w.in-Some.c ++ r) (sym c.as_str-rest.ensures) in
          let next : w.next.result ≡ slice_get (chars rest) 0 = w.next.ensures.steps.2 ∙ ap (λ r. slice_get (chars r) 0) (sym c.as_str-rest.ensures) in
          let adds = adds_by c.args.along.now.graph w.add_character.new.self _ w.in_ok-number.number w.step.result.now w.step.ensures w.in_ok-number.ensures.adds in
          subst (GoesOver C kind (chars text) (chars rest) c.args.along.now) (sym w.along-is)
          (text_first C kind w.in-Some.c text rest w.next.result w.step.result.now c.args.along.now (record { graph = w.add_character.new.self; by = w.take.new.self }) c.utf8.text cut next adds
          (λ end u more steps is.
          by_table (C end) c.args.along.now.graph.table w.table.result.now more (u ∷ more) steps (w.step.result.now ∷ steps) w.take.new.self c.args.along.now.by (w.table.ensures ∙ adds.table)
          (w.in_ok-take.ensures end u more steps (subst (λ x. own_bytes x ≡ encode_utf8 w.in-Some.c) (sym is) refl))))
      | in_default w ↦ let same : text ≡ rest = sym (c.as_str-rest.ensures ∙ ap (λ s. s.rest.now) w.in_default.ensures.steps.0.1 ∙ c.chars-characters.ensures.rest) in
          subst (GoesOver C kind (chars text) (chars rest) c.args.along.now) (sym w.along-is)
          (subst (λ r. GoesOver C kind (chars text) (chars r) c.args.along.now c.args.along.now) same (goes_none C (character_units kind (chars text)) c.args.along.now))
    ]
