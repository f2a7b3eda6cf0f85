use Rattle.std.proofs.Common.{subst}
use Rattle.hm_tree.specs.Tokens as tokens
use Rattle.hm_construction_laws.specs.Steps.{step, step_start}
use Rattle.hm_insertion.specs.Building.{Fits}
use Rattle.hm_insertion.specs.Inside.{state_of}
use Rattle.hm_insertion.proofs.Dropped.{undropped, takes_same}
use Rattle.hm_insertion.proofs.Started.{start_step}
use Rattle.hm_insertion.proofs.parts.Parts.start_tag.Goals as goal

pub start_undropped-requires-clause-room : goal.start_undropped-requires-clause-room
start_undropped-requires-clause-room c =
    let p = c.args.self.now in
    subst (λ s. Fits s p.maker) (start_step p c.args.name.now c.args.attrs.now c.args.slash) c.requires.room

pub returns : goal.returns
returns c =
    let p = c.args.self.now in
    let n = c.args.name.now in
    takes_same c.start_undropped.result (step_start n c.args.attrs.now c.args.slash (state_of (undropped p))) (step (state_of p) (tokens.start_tag n c.args.attrs.now c.args.slash)) p c.start_undropped.new.self
    (start_step p n c.args.attrs.now c.args.slash) c.start_undropped.ensures
