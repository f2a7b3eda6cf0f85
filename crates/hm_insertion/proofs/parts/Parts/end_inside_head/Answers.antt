use Rattle.std.proofs.Common.{◌≡◌, None, true, false, bytes_eq, sym, ap, ◌∙◌}
use Rattle.hm_elements.specs.Paths as paths
use Rattle.hm_construction_laws.specs.Steps.{step_end, stops}
use Rattle.hm_base.specs.declared.rules.Rule.TheVariants.{StrayEnd, NotCurrent}
use Rattle.hm_insertion.specs.Inside.{state_of, inside_head, under_noscript, is_noscript_around, IsDone}
use Rattle.hm_insertion.specs.declared.insertion.BuilderMode.TheVariants.{InHead}
use Rattle.hm_insertion.proofs.Unbegun.{inside_done, inside_refused, inside_open, at_its_mode, kept_at}
use Rattle.hm_insertion.proofs.parts.Parts.end_inside_head.Goals as goal

pub end-requires : goal.end-requires
end-requires c =
    let p = c.args.self.now in
    let ph = InHead c.args.noscript c.args.text in
    inside_open p.maker p.path p.drops_line_feed p.comments_after_body p.comments_after_html c.args.noscript c.args.text c.requires.inner (kept_at p ph c.requires.insertion_mode c.requires.kept)

pub returns-then-eq : goal.returns-then-eq
returns-then-eq c =
    let p = c.args.self.now in
    let n = c.args.name.now in
    let ph = InHead c.args.noscript c.args.text in
    let same : bytes_eq (paths.current (inside_head c.args.noscript c.args.text)) n ≡ true = ap (λ m. bytes_eq m n) (sym c.current_in_head.ensures) ∙ sym c.eq.ensures ∙ c.if-eq.true in
    rw c.is_noscript_around-around.ensures
    (at_its_mode (λ q. IsDone (step_end n (state_of q)) q (record p { maker = c.end.new.self; insertion_mode = InHead (is_noscript_around c.args.noscript c.args.text) None })) p ph c.requires.insertion_mode
    (inside_done p.maker p.path p.drops_line_feed p.comments_after_body p.comments_after_html n c.args.noscript c.args.text c.end.new.self c.requires.inner same (kept_at p ph c.requires.insertion_mode c.requires.kept) c.in_ok-end.ensures.ok))

pub returns-then-is_open_in_head : goal.returns-then-is_open_in_head
returns-then-is_open_in_head c =
    let p = c.args.self.now in
    let n = c.args.name.now in
    let ph = InHead c.args.noscript c.args.text in
    let other : bytes_eq (paths.current (inside_head c.args.noscript c.args.text)) n ≡ false = ap (λ m. bytes_eq m n) (sym c.current_in_head.ensures) ∙ sym c.eq.ensures ∙ c.if-eq.false in
    let there : paths.is_open n (under_noscript (is_noscript_around c.args.noscript c.args.text)) ≡ true = ap (λ b. paths.is_open n (under_noscript b)) (sym c.is_noscript_around-around.ensures) ∙ sym c.is_open_in_head.ensures ∙ c.if-is_open_in_head.true in
    rw c.from.ensures
    (at_its_mode (λ q. step_end n (state_of q) ≡ stops NotCurrent 0) p ph c.requires.insertion_mode (inside_refused p.maker p.path p.drops_line_feed p.comments_after_body p.comments_after_html n c.args.noscript c.args.text true c.requires.inner other there))

pub returns : goal.returns
returns c =
    let p = c.args.self.now in
    let n = c.args.name.now in
    let ph = InHead c.args.noscript c.args.text in
    let other : bytes_eq (paths.current (inside_head c.args.noscript c.args.text)) n ≡ false = ap (λ m. bytes_eq m n) (sym c.current_in_head.ensures) ∙ sym c.eq.ensures ∙ c.if-eq.false in
    let there : paths.is_open n (under_noscript (is_noscript_around c.args.noscript c.args.text)) ≡ false = ap (λ b. paths.is_open n (under_noscript b)) (sym c.is_noscript_around-around.ensures) ∙ sym c.is_open_in_head.ensures ∙ c.if-is_open_in_head.false in
    rw c.from-2.ensures
    (at_its_mode (λ q. step_end n (state_of q) ≡ stops StrayEnd 0) p ph c.requires.insertion_mode (inside_refused p.maker p.path p.drops_line_feed p.comments_after_body p.comments_after_html n c.args.noscript c.args.text false c.requires.inner other there))
