use Rattle.std.proofs.Common.{Err, refl, ap}
use Rattle.hm_construction_laws.specs.Steps.{reach_body, start_in_body}
use Rattle.hm_insertion.specs.Building.{IsRefused, of_settle}
use Rattle.hm_insertion.specs.Inside.{insertion_mode_of, state_of, IsEntered}
use Rattle.hm_insertion.specs.declared.insertion.BuilderMode.TheVariants.{InBody}
use Rattle.hm_insertion.proofs.Dropped.{takes_unless_memory}
use Rattle.hm_insertion.proofs.EndTags.{takes_fault}
use Rattle.hm_insertion.proofs.Opened.{body_start, refused_start, opens_no_root}
use Rattle.hm_insertion.proofs.parts.Parts.start_in_body.Goals as goal

pub make_missing-requires-clause-room : goal.make_missing-requires-clause-room
make_missing-requires-clause-room c =
    let p = c.args.self.now in
    let n = c.args.name.now in
    let st = rw c.of-tag.ensures at c.in_ok-moves.ensures.ok in
    (body_start p n c.args.attrs.now c.args.slash c.in_ok-moves.moves c.start_known.new.self c.requires.reach c.requires.kept c.requires.all st (opens_no_root n p.path _ _ _ st.moved.does_move) c.requires.room).made_room

pub move_and_start-requires-clause-closes : goal.move_and_start-requires-clause-closes
move_and_start-requires-clause-closes c =
    let p = c.args.self.now in
    let n = c.args.name.now in
    let st = rw c.of-tag.ensures at c.in_ok-moves.ensures.ok in
    rw c.in_ok-make_missing.ensures (body_start p n c.args.attrs.now c.args.slash c.in_ok-moves.moves c.start_known.new.self c.requires.reach c.requires.kept c.requires.all st (opens_no_root n p.path _ _ _ st.moved.does_move) c.requires.room).closes

pub move_and_start-requires-clause-room : goal.move_and_start-requires-clause-room
move_and_start-requires-clause-room c =
    let p = c.args.self.now in
    let n = c.args.name.now in
    let st = rw c.of-tag.ensures at c.in_ok-moves.ensures.ok in
    rw (c.in_ok-make_missing.ensures, c.opens_as_svg-foreign.ensures) (body_start p n c.args.attrs.now c.args.slash c.in_ok-moves.moves c.start_known.new.self c.requires.reach c.requires.kept c.requires.all st (opens_no_root n p.path _ _ _ st.moved.does_move) c.requires.room).room

pub close_at_once-requires : goal.close_at_once-requires
close_at_once-requires c =
    let p = c.args.self.now in
    let n = c.args.name.now in
    let st = rw c.of-tag.ensures at c.in_ok-moves.ensures.ok in
    let made = rw (c.in_ok-make_missing.ensures, c.opens_as_svg-foreign.ensures) at c.in_ok-move_and_start.ensures in
    rw (c.opens_as_svg-foreign.ensures, c.of-tag.ensures) ((body_start p n c.args.attrs.now c.args.slash c.in_ok-moves.moves c.start_known.new.self c.requires.reach c.requires.kept c.requires.all st (opens_no_root n p.path _ _ _ st.moved.does_move) c.requires.room).opened
    (record p { maker = c.move_and_start.new.maker; insertion_mode = InBody; path = c.start_known.new.self }) refl refl c.requires.all made)

pub returns : goal.returns
returns c =
    let p = c.args.self.now in
    let n = c.args.name.now in
    let st = rw c.of-tag.ensures at c.in_ok-moves.ensures.ok in
    let made = rw (c.in_ok-make_missing.ensures, c.opens_as_svg-foreign.ensures) at c.in_ok-move_and_start.ensures in
    let q = record p { maker = c.move_and_start.new.maker; insertion_mode = InBody; path = c.start_known.new.self } in
    takes_unless_memory c.close_at_once.result (reach_body (insertion_mode_of p.insertion_mode) (start_in_body n c.args.attrs.now c.args.slash) (state_of p)) p c.close_at_once.new.self (IsEntered c.args.slash q c.close_at_once.new.self)
    (λ e. (body_start p n c.args.attrs.now c.args.slash c.in_ok-moves.moves c.start_known.new.self c.requires.reach c.requires.kept c.requires.all st (opens_no_root n p.path _ _ _ st.moved.does_move) c.requires.room).done q c.close_at_once.new.self refl refl made e) c.close_at_once.ensures.ok c.close_at_once.ensures.err

pub returns-in_err-moves : goal.returns-in_err-moves
returns-in_err-moves c =
    let p = c.args.self.now in
    let n = c.args.name.now in
    let fault = c.in_err-moves.field-0.0 in
    let s = reach_body (insertion_mode_of p.insertion_mode) (start_in_body n c.args.attrs.now c.args.slash) (state_of p) in
    let refused : IsRefused s (of_settle fault) =
    refused_start p n c.args.attrs.now c.args.slash c.requires.reach c.requires.kept c.requires.all fault (λ rule e. rw c.of-tag.ensures at ((c.in_err-moves.ensures.rule rule).0 (ap Err e))) in
    takes_fault c.from_residual.result (of_settle fault) s p _ c.from_residual.ensures.1 refused
