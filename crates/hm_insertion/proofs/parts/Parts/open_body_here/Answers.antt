use Rattle.std.proofs.Common.{◌++◌, ◌∷◌, [], false, ap, ◌∙◌, append_assoc, sym, subst}
use Rattle.hm_base.specs.Walks.{start}
use Rattle.hm_elements.specs.Names.{body}
use Rattle.hm_tree.specs.Trees.{HasRoom}
use Rattle.hm_insertion.specs.Inside.{head_ended}
use Rattle.hm_insertion.proofs.Events.{HasRoom-front}
use Rattle.hm_insertion.proofs.PlainTexts.{fits_by}
use Rattle.hm_insertion.proofs.BeforeBody.{body_went, body_done}
use Rattle.hm_insertion.proofs.parts.Parts.open_body_here.Goals as goal

pub close_missing_head-requires-clause-room : goal.close_missing_head-requires-clause-room
close_missing_head-requires-clause-room c =
    let p = c.args.self.now in
    HasRoom-front (p.maker ++ head_ended p.insertion_mode) (start body false c.args.attrs.now ∷ [])
    (subst HasRoom (sym (append_assoc p.maker (head_ended p.insertion_mode) (start body false c.args.attrs.now ∷ [])))
    (fits_by _ (head_ended p.insertion_mode ++ start body false c.args.attrs.now ∷ []) _ p.maker (body_went p.maker p.path p.drops_line_feed p.comments_after_body p.comments_after_html c.args.attrs.now p.insertion_mode c.requires.unbegun) c.requires.room))

pub returns : goal.returns
returns c =
    let p = c.args.self.now in
    body_done p.maker p.path p.drops_line_feed p.comments_after_body p.comments_after_html c.args.attrs.now p.insertion_mode c.start_from.new.self c.requires.unbegun c.requires.kept
    (c.in_ok-start_from.ensures.ok ∙ ap (λ w. w ++ start body false c.args.attrs.now ∷ []) c.in_ok-close_missing_head.ensures)
