use Rattle.std.proofs.Common.{length, sym, ap, subst, ◌∙◌, arith}
use Rattle.std.specs.Prelude.{encode_utf8_all}
use Rattle.hm_construction_laws.specs.Steps.{Stepped, step_bytes}
use Rattle.hm_tree.specs.Tokens.{points_of}
use Rattle.hm_insertion.specs.Building.{Fits}
use Rattle.hm_insertion.specs.Inside.{state_of, IsDone}
use Rattle.hm_insertion.proofs.Points.{points_step, points_short, front_fits, front_done, front_refused}
use Rattle.hm_insertion.proofs.parts.Parts.points.Goals as goal

pub text-requires-clause-short : goal.text-requires-clause-short
text-requires-clause-short c =
    let is = c.as_str.ensures.value ∙ c.in_ok-text.ensures in
    let short = points_short c.args.points.first c.args.points.second in
    omega (arith, ap length is)

pub text-requires-clause-room : goal.text-requires-clause-room
text-requires-clause-room c =
    let p = c.args.self.now in
    let is = c.as_str.ensures.value ∙ c.in_ok-text.ensures in
    rw is (front_fits (step_bytes (encode_utf8_all (points_of c.args.points)) (state_of p)) p.maker (subst (λ s. Fits s p.maker) (points_step (points_of c.args.points) (state_of p)) c.requires.room))

pub returns-in-Ok : goal.returns-in-Ok
returns-in-Ok c =
    let p = c.args.self.now in
    let is = c.as_str.ensures.value ∙ c.in_ok-text.ensures in
    let s = step_bytes (encode_utf8_all (points_of c.args.points)) (state_of p) in
    subst (λ (x : Stepped). IsDone x p c.text.new.self) (sym (points_step (points_of c.args.points) (state_of p))) (front_done s p c.text.new.self (rw is at c.in-Ok.ensures))

pub returns : goal.returns
returns c =
    let p = c.args.self.now in
    let is = c.as_str.ensures.value ∙ c.in_ok-text.ensures in
    let s = step_bytes (encode_utf8_all (points_of c.args.points)) (state_of p) in
    rw (points_step (points_of c.args.points) (state_of p), c.at_front.ensures) (front_refused s c.in-Err.fault (rw is at c.in-Err.ensures))
