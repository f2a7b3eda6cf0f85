use Rattle.std.proofs.Common.{sym, subst}
use Rattle.hm_construction_laws.specs.Steps.{Stepped}
use Rattle.hm_insertion.specs.Building.{Fits}
use Rattle.hm_insertion.specs.Inside.{Takes}
use Rattle.hm_insertion.proofs.Unbegun.{unbegun_head, unbegun_body, unbegun_html, unbegun_other}
use Rattle.hm_insertion.proofs.parts.Parts.end_unbegun.Goals as goal

pub end_head-requires-clause-room : goal.end_head-requires-clause-room
end_head-requires-clause-room c =
    let p = c.args.self.now in
    subst (λ s. Fits s p.maker) (unbegun_head p.maker p.path p.drops_line_feed p.comments_after_body p.comments_after_html c.args.name.now p.insertion_mode c.requires.unbegun c.in-head.is) c.requires.room

pub leave_unbegun-requires-clause-room : goal.leave_unbegun-requires-clause-room
leave_unbegun-requires-clause-room c =
    let p = c.args.self.now in
    subst (λ s. Fits s p.maker) (unbegun_body p.maker p.path p.drops_line_feed p.comments_after_body p.comments_after_html c.args.name.now p.insertion_mode c.requires.unbegun c.in-body.is) c.requires.room

pub leave_unbegun-requires-in-html-clause-room : goal.leave_unbegun-requires-in-html-clause-room
leave_unbegun-requires-in-html-clause-room c =
    let p = c.args.self.now in
    subst (λ s. Fits s p.maker) (unbegun_html p.maker p.path p.drops_line_feed p.comments_after_body p.comments_after_html c.args.name.now p.insertion_mode c.requires.unbegun c.in-html.is) c.requires.room

pub returns-in-head : goal.returns-in-head
returns-in-head c =
    let p = c.args.self.now in
    subst (λ (s : Stepped). Takes s c.end_head.result p c.end_head.new.self)
    (sym (unbegun_head p.maker p.path p.drops_line_feed p.comments_after_body p.comments_after_html c.args.name.now p.insertion_mode c.requires.unbegun c.in-head.is)) c.end_head.ensures

pub returns-in-body : goal.returns-in-body
returns-in-body c =
    let p = c.args.self.now in
    subst (λ (s : Stepped). Takes s c.leave_unbegun.result p c.leave_unbegun.new.self)
    (sym (unbegun_body p.maker p.path p.drops_line_feed p.comments_after_body p.comments_after_html c.args.name.now p.insertion_mode c.requires.unbegun c.in-body.is)) c.leave_unbegun.ensures

pub returns-in-html : goal.returns-in-html
returns-in-html c =
    let p = c.args.self.now in
    subst (λ (s : Stepped). Takes s c.leave_unbegun-in-html.result p c.leave_unbegun-in-html.new.self)
    (sym (unbegun_html p.maker p.path p.drops_line_feed p.comments_after_body p.comments_after_html c.args.name.now p.insertion_mode c.requires.unbegun c.in-html.is)) c.leave_unbegun-in-html.ensures

pub returns-in_default : goal.returns-in_default
returns-in_default c =
    let p = c.args.self.now in
    rw c.from.ensures (unbegun_other p.maker p.path p.drops_line_feed p.comments_after_body p.comments_after_html c.args.name.now p.insertion_mode c.requires.unbegun c.in_default.not-head c.in_default.not-body c.in_default.not-html)
