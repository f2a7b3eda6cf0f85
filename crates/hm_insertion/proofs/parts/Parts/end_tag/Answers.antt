use Rattle.std.proofs.Common.{subst}
use Rattle.hm_tree.specs.Tokens as tokens
use Rattle.hm_construction_laws.specs.Steps.{step, step_end}
use Rattle.hm_insertion.specs.Building.{Fits}
use Rattle.hm_insertion.specs.Inside.{state_of}
use Rattle.hm_insertion.proofs.Dropped.{undropped, takes_same}
use Rattle.hm_insertion.proofs.Unbegun.{end_step, end_initial}
use Rattle.hm_insertion.proofs.parts.Parts.end_tag.Goals as goal

pub returns-in-Initial : goal.returns-in-Initial
returns-in-Initial c = rw c.from.ensures (end_initial c.args.self.now c.args.name.now c.in-Initial.is)

pub end_in_head-requires-clause-room : goal.end_in_head-requires-clause-room
end_in_head-requires-clause-room c =
    let p = c.args.self.now in
    subst (λ s. Fits s p.maker) (end_step p c.args.name.now) c.requires.room

pub returns-in-InHead : goal.returns-in-InHead
returns-in-InHead c =
    let p = c.args.self.now in
    let n = c.args.name.now in
    takes_same c.end_in_head.result (step_end n (state_of (undropped p))) (step (state_of p) (tokens.end_tag n)) p c.end_in_head.new.self (end_step p n) c.end_in_head.ensures

pub end_unbegun-requires-clause-room : goal.end_unbegun-requires-clause-room
end_unbegun-requires-clause-room c =
    let p = c.args.self.now in
    subst (λ s. Fits s p.maker) (end_step p c.args.name.now) c.requires.room

pub returns-in-BeforeHtml : goal.returns-in-BeforeHtml
returns-in-BeforeHtml c =
    let p = c.args.self.now in
    let n = c.args.name.now in
    takes_same c.end_unbegun.result (step_end n (state_of (undropped p))) (step (state_of p) (tokens.end_tag n)) p c.end_unbegun.new.self (end_step p n) c.end_unbegun.ensures

pub end_in_body-requires-clause-room : goal.end_in_body-requires-clause-room
end_in_body-requires-clause-room c =
    let p = c.args.self.now in
    subst (λ s. Fits s p.maker) (end_step p c.args.name.now) c.requires.room

pub returns-in-InBody : goal.returns-in-InBody
returns-in-InBody c =
    let p = c.args.self.now in
    let n = c.args.name.now in
    takes_same c.end_in_body.result (step_end n (state_of (undropped p))) (step (state_of p) (tokens.end_tag n)) p c.end_in_body.new.self (end_step p n) c.end_in_body.ensures
