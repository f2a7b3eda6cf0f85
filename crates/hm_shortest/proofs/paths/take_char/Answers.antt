use Rattle.std.proofs.Common.{◌≡◌, ◌∙◌, ◌++◌, chars, refl, sym, ap, subst}
use Rattle.std.specs.Prelude.{encode_utf8}
use Rattle.std.proofs.lemmas.Str.{chars_past_char}
use Rattle.hm_graph_laws.specs.Units.{character, character_units, next_of}
use Rattle.hm_shortest.specs.Paths.{GoesOver}
use Rattle.hm_shortest.proofs.Walking.{goes_none, text_first}
use Rattle.hm_shortest.proofs.paths.take_char.Goals.{in-Some+in_ok-take, in_default}
use Rattle.hm_shortest.proofs.paths.take_char.Goals as goal

pub returns-clause-goes : goal.returns-clause-goes
returns-clause-goes c =
    let g = c.args.graph.now in
    let text = c.args.text.now in
    let rest = c.as_str.result.now in
    elim c.match-next.branch [
      | in-Some+in_ok-take w ↦ let cut : text ≡ encode_utf8 w.in-Some.c ++ rest = sym c.chars-rest.ensures.rest ∙ w.in-Some.ensures.steps.0 ∙ ap (λ r. encode_utf8 w.in-Some.c ++ r) (sym c.as_str.ensures) in
          subst (GoesOver g (chars text) (chars rest) c.args.way.now) (sym w.way'-is)
          (text_first g (chars text) (chars rest) w.in-Some.c c.args.way.now w.take.new.way (chars_past_char text rest w.in-Some.c c.utf8.text cut) (λ kind. w.in_ok-take.ensures (character kind w.in-Some.c (next_of (chars rest))) refl))
      | in_default w ↦ let same : text ≡ rest = sym (c.as_str.ensures ∙ ap (λ s. s.rest.now) w.in_default.ensures.steps.0.1 ∙ c.chars-rest.ensures.rest) in
          subst (GoesOver g (chars text) (chars rest) c.args.way.now) (sym w.way'-is)
          (subst (λ rest. GoesOver g (chars text) (chars rest) c.args.way.now c.args.way.now) same (λ kind. goes_none g (character_units kind (chars text)) c.args.way.now c.requires.on))
    ]
