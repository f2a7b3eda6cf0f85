use Rattle.std.proofs.Common.{◌≡◌, ◌∷◌, [], true, Err, ap, sym, ◌∙◌, refl}
use Rattle.hm_elements.specs.Names.{is_among}
use Rattle.hm_elements.specs.Tables.{is_root, roots, is_void}
use Rattle.hm_elements.specs.Paths.{outer}
use Rattle.hm_open_elements.specs.Moves.{element}
use Rattle.hm_base.specs.Walks.{path_after}
use Rattle.std.proofs.lemmas.Bool.{both_ways}
use Rattle.hm_insertion.proofs.Opened.{svg_moved, svg_not_refused, svg_no_root, path_here, path_outer, closed_entered}
use Rattle.hm_insertion.proofs.parts.Parts.close_at_once.Goals as goal

pub end-requires-clause-body : goal.end-requires-clause-body
unfolding is_root roots is_among
end-requires-clause-body c is =
    let p = c.args.self.now in
    let n = c.args.tag.name.now in
    let o = c.requires in
    let svg = o.leads ∙ ap (λ f. element n f ∷ outer (path_after [] p.maker)) c.if-foreign.true in
    both_ways (is_root n) (svg_no_root n (path_after [] p.maker) (outer (path_after [] p.maker)) svg o.roots) (rw (sym c.name.ensures ∙ is) refl)

pub end-requires-clause-html : goal.end-requires-clause-html
unfolding is_root roots is_among
end-requires-clause-html c is =
    let p = c.args.self.now in
    let n = c.args.tag.name.now in
    let o = c.requires in
    let svg = o.leads ∙ ap (λ f. element n f ∷ outer (path_after [] p.maker)) c.if-foreign.true in
    both_ways (is_root n) (svg_no_root n (path_after [] p.maker) (outer (path_after [] p.maker)) svg o.roots) (rw (sym c.name.ensures ∙ is) refl)

pub returns-in_err-end-clause-err : goal.returns-in_err-end-clause-err
returns-in_err-end-clause-err c =
    let p = c.args.self.now in
    let n = c.args.tag.name.now in
    let o = c.requires in
    let svg = o.leads ∙ ap (λ f. element n f ∷ outer (path_after [] p.maker)) c.if-foreign.true in
    let here : p.path ≡ path_after [] p.maker = path_here n c.args.foreign p o (rw c.if-foreign.true refl) in
    absurd (svg_not_refused n p.path (outer (path_after [] p.maker)) c.in_err-end.field-0.0 (here ∙ svg) (λ rule e. rw c.name.ensures at ((c.in_err-end.ensures.rule rule).0 (ap Err e))) (λ e. c.in_err-end.ensures.no_memory (ap Err e)))

pub returns-in_ok-end-2-clause-ok : goal.returns-in_ok-end-2-clause-ok
returns-in_ok-end-2-clause-ok c =
    let p = c.args.self.now in
    let n = c.args.tag.name.now in
    let o = c.requires in
    let svg = o.leads ∙ ap (λ f. element n f ∷ outer (path_after [] p.maker)) c.if-foreign.true in
    let here : p.path ≡ path_after [] p.maker = path_here n c.args.foreign p o (rw c.if-foreign.true refl) in
    closed_entered n c.args.foreign p o c.args.slash (record p { maker = c.end-then-slash.new.self; path = c.end.new.self }) (rw (c.if-foreign.true, c.if-slash.true) refl) o.insertion_mode
    (svg_moved n p.path (outer (path_after [] p.maker)) c.end.new.self c.in_ok-end.field-0 (here ∙ svg) (rw c.name.ensures at c.in_ok-end.ensures.ok)) c.in_ok-end-2.ensures.ok o.all refl refl

pub returns-then-is_void-clause-ok : goal.returns-then-is_void-clause-ok
returns-then-is_void-clause-ok c =
    let p = c.args.self.now in
    let n = c.args.tag.name.now in
    let o = c.requires in
    let void : is_void n ≡ true = sym c.is_void.ensures ∙ c.if-is_void.true in
    closed_entered n c.args.foreign p o c.args.slash (record p { maker = c.end-then-is_void.new.self }) (rw (c.if-foreign.false, void) refl) o.insertion_mode
    (path_outer n c.args.foreign p o (rw (c.if-foreign.false, void) refl)) c.in_ok-end-3.ensures.ok o.all refl refl
