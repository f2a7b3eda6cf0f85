use Rattle.std.proofs.Common.{◌≡◌, ◌==◌, not, length, true, false, sym, ap, ◌∙◌, bytes_eq}
use Rattle.hm_elements.specs.Names.{p}
use Rattle.hm_elements.specs.Paths.{current}
use Rattle.hm_insertion.proofs.AtEnd.{at_end_three, at_end_others}
use Rattle.hm_insertion.proofs.end_tag.is_at_end.Goals as goal

pub returns-then-depth-ne3 : goal.returns-then-depth-ne3
returns-then-depth-ne3 c =
    let path = c.args.path.now in
    ap (λ n. n == 2) c.len-depth.ensures.len ∙ at_end_others path c.len-depth.ensures.begins (λ e. c.if-depth-ne3.true (c.len-depth.ensures.len ∙ e))

pub returns-then-eq : goal.returns-then-eq
returns-then-eq c =
    let path = c.args.path.now in
    let three : length path ≡ 3 = sym c.len-depth.ensures.len ∙ c.if-depth-ne3.false in
    let is : bytes_eq (current path) p ≡ true = sym (ap (λ n. bytes_eq n p) c.current.ensures) ∙ sym c.eq.ensures ∙ c.if-eq.true in
    ap not c.is_in_svg.ensures ∙ (rw is at (at_end_three path c.len-depth.ensures.begins three))

pub returns-else-eq : goal.returns-else-eq
returns-else-eq c =
    let path = c.args.path.now in
    let three : length path ≡ 3 = sym c.len-depth.ensures.len ∙ c.if-depth-ne3.false in
    let is : bytes_eq (current path) p ≡ false = sym (ap (λ n. bytes_eq n p) c.current.ensures) ∙ sym c.eq.ensures ∙ c.if-eq.false in
    c.if-eq.false ∙ (rw is at (at_end_three path c.len-depth.ensures.begins three))
