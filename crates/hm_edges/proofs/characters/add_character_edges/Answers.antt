use Rattle.std.proofs.Common.{refl}
use Rattle.hm_edges.proofs.SectionEdges.{next_for}
use Rattle.hm_graph_laws.specs.Units.{character, in_text}
use Rattle.std.proofs.Common.{None}
use Rattle.hm_edges.proofs.characters.add_character_edges.Goals as goal

pub returns-then-is_in_section : goal.returns-then-is_in_section
returns-then-is_in_section c = record {
  known = (c.add_section_edges.ensures c.args.table.now (character in_text c.args.character.c None) (next_for c.args.character.more).0 refl (next_for c.args.character.more).1).known;
  edges = λ u next own is.
      rw (← c.is_in_section.ensures, c.if-is_in_section.true)
      (c.add_section_edges.ensures c.args.table.now u next own is);
}

pub returns-else-is_in_section : goal.returns-else-is_in_section
returns-else-is_in_section c = record {
  known = c.add_outside_edges.ensures.known;
  edges = λ u next own is. rw (← c.is_in_section.ensures, c.if-is_in_section.false) (c.add_outside_edges.ensures.edges u next own is);
}
