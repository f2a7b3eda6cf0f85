use Rattle.hm_elements.proofs.NameFacts.{svg_name_is_tag_name, tag_name_is_utf8, tag_name_has_no_zero}
use Rattle.hm_elements.proofs.laws.element_names.Goals as goal

pub returns-clause-utf8 : goal.returns-clause-utf8
returns-clause-utf8 c = λ n h. (tag_name_is_utf8 n h, tag_name_has_no_zero n h)

pub returns-clause-svg : goal.returns-clause-svg
returns-clause-svg c = svg_name_is_tag_name
