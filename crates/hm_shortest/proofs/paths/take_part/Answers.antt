use Rattle.std.proofs.Common.{[], refl, sym, ap, subst, arith, chars, length}
use Rattle.std.proofs.lemmas.Result.{on_ok_weaker}
use Rattle.hm_edges.specs.Units.{kind_of}
use Rattle.hm_graph.proofs.Characters.{length_characters}
use Rattle.hm_graph_laws.specs.Units.{attribute_name, fixed}
use Rattle.hm_event_parts.specs.Parts.{IsPart, comment_bytes, part_units, unit_with}
use Rattle.hm_event_parts.proofs.OwnBytes.{own_bytes_kept}
use Rattle.hm_shortest.specs.Paths.{Goes}
use Rattle.hm_shortest.proofs.paths.take_part.Goals as goal

pub take_chars-requires-clause-inside : goal.take_chars-requires-clause-inside
take_chars-requires-clause-inside c =
    omega (arith, c.requires.inside, ap (λ p. length (part_units p)) c.in-Chars.is, length_characters (kind_of c.in-Chars.kind) (chars c.in-Chars.text.now))

pub returns-in-One : goal.returns-in-One
returns-in-One c =
    on_ok_weaker c.take.result
    (λ goes. subst (λ p. Goes c.args.graph.now (part_units p) [] c.args.way.now c.take.new.way) (sym c.in-One.is)
    (goes (unit_with c.in-One.unit c.in-One.own.now) (own_bytes_kept c.in-One.unit c.in-One.own.now (subst IsPart c.in-One.is c.requires.part))))
    c.take.ensures

pub returns-in-Opening : goal.returns-in-Opening
returns-in-Opening c =
    on_ok_weaker c.take-in-Opening.result
    (λ goes. subst (λ p. Goes c.args.graph.now (part_units p) [] c.args.way.now c.take-in-Opening.new.way) (sym c.in-Opening.is)
    (goes (attribute_name c.in-Opening.name.now (chars c.in-Opening.value.now)) refl))
    c.take-in-Opening.ensures

pub returns-in-Comment : goal.returns-in-Comment
returns-in-Comment c =
    on_ok_weaker c.take-in-Comment.result
    (λ goes. subst (λ p. Goes c.args.graph.now (part_units p) [] c.args.way.now c.take-in-Comment.new.way) (sym c.in-Comment.is)
    (goes (fixed (comment_bytes c.in-Comment.text.now)) refl))
    c.take-in-Comment.ensures

pub returns-in-Chars : goal.returns-in-Chars
returns-in-Chars c =
    on_ok_weaker c.take_chars.result
    (λ goes. subst (λ p. Goes c.args.graph.now (part_units p) [] c.args.way.now c.take_chars.new.way) (sym c.in-Chars.is)
    (goes (kind_of c.in-Chars.kind)))
    c.take_chars.ensures
