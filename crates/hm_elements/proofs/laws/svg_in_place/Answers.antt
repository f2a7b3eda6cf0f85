use Rattle.hm_elements.proofs.TableFacts.{svg_is_plain, svg_is_kept}
use Rattle.hm_elements.proofs.laws.svg_in_place.Goals as goal

pub returns-clause-svg_is_plain : goal.returns-clause-svg_is_plain
returns-clause-svg_is_plain c = svg_is_plain

pub returns-clause-svg_is_kept : goal.returns-clause-svg_is_kept
returns-clause-svg_is_kept c = svg_is_kept
