use Rattle.hm_insertion.specs.Inside.{missing}
use Rattle.hm_insertion.proofs.PlainTexts.{fits_by}
use Rattle.hm_insertion.proofs.Unbegun.{left_went, left_unbegun}
use Rattle.hm_insertion.proofs.parts.Parts.leave_unbegun.Goals as goal

pub make_missing-requires-clause-room : goal.make_missing-requires-clause-room
make_missing-requires-clause-room c =
    let p = c.args.self.now in
    fits_by _ (missing p.insertion_mode) _ p.maker (left_went p.maker p.path p.drops_line_feed p.comments_after_body p.comments_after_html p.insertion_mode c.args.insertion_mode c.requires.unbegun) c.requires.room

pub returns : goal.returns
returns c =
    let p = c.args.self.now in
    left_unbegun p.maker p.path p.drops_line_feed p.comments_after_body p.comments_after_html p.insertion_mode c.args.insertion_mode c.make_missing.new.maker c.requires.unbegun c.requires.there c.requires.kept c.in_ok-make_missing.ensures
