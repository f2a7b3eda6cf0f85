use Rattle.std.proofs.Common.{◌≡◌, true, false, Some, sym, subst, ◌∙◌, refl}
use Rattle.hm_elements.specs.Names.{html, head}
use Rattle.hm_elements.specs.Nesting.{may_stand}
use Rattle.hm_construction_laws.specs.Steps.{Stepped, opened}
use Rattle.hm_insertion.specs.BeforeBody.{head_opened, in_open_head}
use Rattle.hm_insertion.specs.Building.{Fits}
use Rattle.hm_insertion.specs.Inside.{state_of, IsKept, IsDone, Takes}
use Rattle.hm_insertion.proofs.BeforeBody.{room_then, done_then, kept_open, child_step, no_child_step, no_metadata}
use Rattle.hm_insertion.proofs.parts.Parts.start_in_head.Goals as goal

pub reach_head-requires-clause-room : goal.reach_head-requires-clause-room
reach_head-requires-clause-room c =
    let p = c.args.self.now in
    let n = c.args.name.now in
    let stands : may_stand n head (Some html) ≡ true = sym (rw (c.of.ensures, c.of-2.ensures) at c.may_stand.ensures) ∙ c.if-may_stand.true in
    room_then (head_opened p.insertion_mode) n c.args.attrs.now (state_of (in_open_head p)) p.maker
    (subst (λ s. Fits s p.maker) (child_step p.maker p.path p.drops_line_feed p.comments_after_body p.comments_after_html n c.args.attrs.now c.args.slash p.insertion_mode c.requires.takes stands) c.requires.room)

pub start_child-requires-clause-kept : goal.start_child-requires-clause-kept
start_child-requires-clause-kept c =
    let p = c.args.self.now in
    subst IsKept (sym c.in_ok-reach_head.ensures) (kept_open p.maker p.path p.drops_line_feed p.comments_after_body p.comments_after_html p.insertion_mode c.requires.takes c.requires.kept)

pub start_in_body-requires-clause-room : goal.start_in_body-requires-clause-room
start_in_body-requires-clause-room c =
    let p = c.args.self.now in
    let n = c.args.name.now in
    let stands : may_stand n head (Some html) ≡ false = sym (rw (c.of.ensures, c.of-2.ensures) at c.may_stand.ensures) ∙ c.if-may_stand.false in
    subst (λ s. Fits s p.maker) (no_child_step p.maker p.path p.drops_line_feed p.comments_after_body p.comments_after_html n c.args.attrs.now c.args.slash p.insertion_mode c.requires.takes stands (no_metadata n stands)) c.requires.room

pub returns-in_ok-start_child : goal.returns-in_ok-start_child
returns-in_ok-start_child c =
    let p = c.args.self.now in
    let n = c.args.name.now in
    let new = c.start_child.new.self in
    let stands : may_stand n head (Some html) ≡ true = sym (rw (c.of.ensures, c.of-2.ensures) at c.may_stand.ensures) ∙ c.if-may_stand.true in
    let done : IsDone (opened n c.args.attrs.now (state_of (in_open_head p))) (in_open_head p) new = subst (λ m. IsDone (opened n c.args.attrs.now (state_of m)) m new) c.in_ok-reach_head.ensures c.in_ok-start_child.ensures in
    subst (λ s. IsDone s p new) (sym (child_step p.maker p.path p.drops_line_feed p.comments_after_body p.comments_after_html n c.args.attrs.now c.args.slash p.insertion_mode c.requires.takes stands))
    (done_then (head_opened p.insertion_mode) (opened n c.args.attrs.now (state_of (in_open_head p))) p (in_open_head p) new refl done)

pub returns-else-may_stand : goal.returns-else-may_stand
returns-else-may_stand c =
    let p = c.args.self.now in
    let n = c.args.name.now in
    let stands : may_stand n head (Some html) ≡ false = sym (rw (c.of.ensures, c.of-2.ensures) at c.may_stand.ensures) ∙ c.if-may_stand.false in
    subst (λ (s : Stepped). Takes s c.start_in_body.result p c.start_in_body.new.self)
    (sym (no_child_step p.maker p.path p.drops_line_feed p.comments_after_body p.comments_after_html n c.args.attrs.now c.args.slash p.insertion_mode c.requires.takes stands (no_metadata n stands))) c.start_in_body.ensures
