use Rattle.std.proofs.Common.{Err, refl, ap}
use Rattle.hm_construction_laws.specs.Steps.{after_end_moves}
use Rattle.hm_open_elements.specs.Moves.{end_moves}
use Rattle.hm_insertion.specs.Building.{IsRefused, of_settle}
use Rattle.hm_insertion.specs.Inside.{state_of}
use Rattle.hm_insertion.proofs.EndTags.{ends_done, ends_within, settle_refused, takes_fault}
use Rattle.hm_insertion.proofs.parts.Parts.end_named.Goals as goal

pub returns-in_err-moves : goal.returns-in_err-moves
returns-in_err-moves c =
    let p = c.args.self.now in
    let n = c.args.name.now in
    let fault = c.in_err-moves.field-0.0 in
    let s = after_end_moves (state_of p) (end_moves n p.path) in
    let refused : IsRefused s (of_settle fault) =
    settle_refused fault (end_moves n p.path) (after_end_moves (state_of p)) (λ rule. refl) (λ rule e. (c.in_err-moves.ensures.rule rule).0 (ap Err e)) in
    takes_fault c.from_residual.result (of_settle fault) s p _ c.from_residual.ensures.1 refused

pub end_elements-requires : goal.end_elements-requires
end_elements-requires c = ends_within c.args.self.now c.args.name.now c.in_ok-moves.moves c.end.new.self c.requires.body c.requires.kept c.in_ok-moves.ensures.ok

pub returns : goal.returns
returns c =
    ends_done c.args.self.now c.args.name.now c.in_ok-moves.moves c.end.new.self c.end_elements.new.maker c.requires.body c.requires.kept c.in_ok-moves.ensures.ok c.in_ok-end_elements.ensures
