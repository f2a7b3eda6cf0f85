use Rattle.std.proofs.Common.{sym, ap, ◌∙◌}
use Rattle.hm_elements.specs.Tables.{is_raw}
use Rattle.hm_insertion.specs.Inside.{open_path}
use Rattle.hm_insertion.proofs.Open.{raw_by}
use Rattle.hm_insertion.proofs.Texts.{not_raw}
use Rattle.hm_insertion.proofs.parts.is_in_raw.Goals as goal

pub returns-then-is_in_text : goal.returns-then-is_in_text
returns-then-is_in_text c =
    let path = open_path c.args.insertion_mode c.args.path.now in
    c.is_raw.ensures ∙ ap is_raw c.current.ensures ∙ raw_by path (sym c.is_in_text.ensures ∙ c.if-is_in_text.true)

pub returns-else-is_in_text : goal.returns-else-is_in_text
returns-else-is_in_text c =
    let path = open_path c.args.insertion_mode c.args.path.now in
    c.if-is_in_text.false ∙ sym (not_raw path (sym c.is_in_text.ensures ∙ c.if-is_in_text.false))
