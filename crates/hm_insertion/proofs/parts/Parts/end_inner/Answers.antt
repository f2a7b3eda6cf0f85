use Rattle.std.proofs.Common.{◌≡◌, Err, true, ap, sym, subst, ◌∙◌, refl}
use Rattle.hm_elements.specs.Names.{is_among, html, body}
use Rattle.hm_elements.specs.Tables.{is_root, roots}
use Rattle.hm_elements.specs.Paths.{is_open}
use Rattle.hm_elements.proofs.TableTools.{same_bytes}
use Rattle.hm_construction_laws.specs.Steps.{Stepped, end_current, after_end_moves}
use Rattle.hm_open_elements.specs.Moves.{end_moves}
use Rattle.hm_insertion.specs.Building.{IsRefused, of_settle}
use Rattle.hm_insertion.specs.Inside.{state_of, IsDone}
use Rattle.hm_insertion.proofs.EndTags.{no_svg_root, roots_open, root_is_refused, ends_current, ends_done, ends_within, settle_refused, takes_fault}
use Rattle.hm_insertion.proofs.parts.Parts.end_inner.Goals as goal

pub returns-then-eq : goal.returns-then-eq
unfolding is_root roots is_among
returns-then-eq c =
    let p = c.args.self.now in
    let n = c.args.name.now in
    let is : n ≡ body = same_bytes n body (sym c.eq.ensures ∙ c.if-eq.true) in
    let there : is_open n p.path ≡ true = rw is (roots_open p.path c.len-depth.ensures.begins).1 in
    rw c.from.ensures (root_is_refused n (state_of p) p.path (rw is refl) c.requires.only_current (no_svg_root p.insertion_mode p.path c.requires.body c.requires.kept.fresh) there)

pub returns-then-eq-2 : goal.returns-then-eq-2
unfolding is_root roots is_among
returns-then-eq-2 c =
    let p = c.args.self.now in
    let n = c.args.name.now in
    let is : n ≡ html = same_bytes n html (sym c.eq-2.ensures ∙ c.if-eq-2.true) in
    let there : is_open n p.path ≡ true = rw is (roots_open p.path c.len-depth.ensures.begins).0 in
    rw c.from-then-eq-2.ensures (root_is_refused n (state_of p) p.path (rw is refl) c.requires.only_current (no_svg_root p.insertion_mode p.path c.requires.body c.requires.kept.fresh) there)

pub returns-in_err-moves : goal.returns-in_err-moves
returns-in_err-moves c =
    let p = c.args.self.now in
    let n = c.args.name.now in
    let fault = c.in_err-moves.field-0.0 in
    let refused : IsRefused (end_current n (state_of p) p.path) (of_settle fault) =
    subst (λ (s : Stepped). IsRefused s (of_settle fault)) (ends_current n (state_of p) p.path c.requires.only_current)
    (settle_refused fault (end_moves n p.path) (after_end_moves (state_of p)) (λ rule. refl) (λ rule e. (c.in_err-moves.ensures.rule rule).0 (ap Err e))) in
    takes_fault c.from_residual.result (of_settle fault) (end_current n (state_of p) p.path) p _ c.from_residual.ensures.1 refused

pub end_elements-requires : goal.end_elements-requires
end_elements-requires c =
    let p = c.args.self.now in
    ends_within p c.args.name.now c.in_ok-moves.moves c.end.new.self c.requires.body c.requires.kept c.in_ok-moves.ensures.ok

pub returns : goal.returns
returns c =
    let p = c.args.self.now in
    let n = c.args.name.now in
    subst (λ s. IsDone s p (record p { maker = c.end_elements.new.maker; path = c.end.new.self })) (ends_current n (state_of p) p.path c.requires.only_current)
    (ends_done p n c.in_ok-moves.moves c.end.new.self c.end_elements.new.maker c.requires.body c.requires.kept c.in_ok-moves.ensures.ok c.in_ok-end_elements.ensures)
