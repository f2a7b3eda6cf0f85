use Rattle.std.proofs.Common.{◌≡◌, ◌+◌, [], true, get_or, map, refl, ap, sym, subst, ◌∙◌}
use Rattle.std.proofs.lemmas.Result.{on_ok_weaker}
use Rattle.hm_cert.specs.Layout.{told}
use Rattle.hm_graph.specs.Graphs.{IsLowStep}
use Rattle.hm_graph.specs.Prices.{is_left_out, row_over}
use Rattle.hm_check.specs.declared.sweep.Sweep.{Sweep}
use Rattle.hm_graph.proofs.Low.{low_step}
use Rattle.hm_check.proofs.Sweeping.{swept_below, out_swept}
use Rattle.hm_check.proofs.sweep.Sweep.pass_over.Goals as goal

pub returns-then-not-self : goal.returns-then-not-self
returns-then-not-self c =
    let out : is_left_out c.args.graph.now.source.format c.args.k (get_or c.args.graph.now.steps c.args.k []) ≡ true = sym (ap (is_left_out c.args.graph.now.source.format c.args.k) c.requires.step) ∙ c.requires.out in
    out_swept c.args.graph.now c.args.prices.now c.args.k c.args.self.now c.args.self.now c.requires.layer c.every_graph.ensures.graph.low out c.requires.swept refl refl (λ e. absurd (cc (e, c.if-not-self.true)))

pub follow-requires-clause-below : goal.follow-requires-clause-below
follow-requires-clause-below c = swept_below c.args.graph.now c.args.prices.now (c.args.k + 1) c.args.self.now c.every_graph.ensures.few c.requires.swept c.if-not-self.false

pub follow-requires-clause-low : goal.follow-requires-clause-low
follow-requires-clause-low c = subst IsLowStep (sym c.requires.step) (low_step c.args.graph.now.steps c.args.k c.every_graph.ensures.graph.low)

pub returns : goal.returns
returns c =
    let out : is_left_out c.args.graph.now.source.format c.args.k (get_or c.args.graph.now.steps c.args.k []) ≡ true = sym (ap (is_left_out c.args.graph.now.source.format c.args.k) c.requires.step) ∙ c.requires.out in
    let after : Sweep = record { at = c.args.self.now.at; next_row = c.follow.new.next_row; found = c.args.self.now.found; spare = c.follow.new.spare } in
    on_ok_weaker c.follow.result (λ e.
    out_swept c.args.graph.now c.args.prices.now c.args.k c.args.self.now after c.requires.layer c.every_graph.ensures.graph.low out c.requires.swept refl refl
    (λ _. e ∙ ap (row_over (map told c.args.self.now.next_row.items)) c.requires.step)) c.follow.ensures
