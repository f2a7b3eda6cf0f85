use Rattle.std.proofs.Common.{sym, ◌∙◌}
use Rattle.hm_build.proofs.Names.{is_ordinary_outside}
use Rattle.hm_build.proofs.tokens.mode.Goals as goal

pub returns-else-is_in_text : goal.returns-else-is_in_text
returns-else-is_in_text c = is_ordinary_outside c.args.builder.now.state.path (sym c.is_in_svg.ensures ∙ c.if-is_in_svg.false) (sym c.is_in_text.ensures ∙ c.if-is_in_text.false)
