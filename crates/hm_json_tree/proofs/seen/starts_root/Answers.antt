use Rattle.std.proofs.Common.{sym, ◌∙◌}
use Rattle.hm_json_tree.proofs.Told.{root_is_html}
use Rattle.hm_json_tree.proofs.seen.starts_root.Goals as goal

pub returns-then-not-svg : goal.returns-then-not-svg
returns-then-not-svg c = λ path same. rw c.in-Start.is (c.is_root.ensures ∙ root_is_html path c.in-Start.name.now (sym same ∙ c.if-not-svg.true))
