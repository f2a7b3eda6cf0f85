use Rattle.hm_insertion.specs.Inside.{head_ended}
use Rattle.hm_insertion.proofs.PlainTexts.{fits_by}
use Rattle.hm_insertion.proofs.Unbegun.{head_went, head_done}
use Rattle.hm_insertion.proofs.parts.Parts.end_head.Goals as goal

pub close_missing_head-requires-clause-room : goal.close_missing_head-requires-clause-room
close_missing_head-requires-clause-room c =
    let p = c.args.self.now in
    fits_by _ (head_ended p.insertion_mode) _ p.maker (head_went p.maker p.path p.drops_line_feed p.comments_after_body p.comments_after_html p.insertion_mode c.requires.unbegun c.in_default.not-AfterHead) c.requires.room

pub returns : goal.returns
returns c =
    let p = c.args.self.now in
    head_done p.maker p.path p.drops_line_feed p.comments_after_body p.comments_after_html p.insertion_mode c.close_missing_head.new.maker c.requires.unbegun c.in_default.not-AfterHead c.requires.kept c.in_ok-close_missing_head.ensures
