use Rattle.std.proofs.Common.{◌≡◌, ◌∙◌, true, false, get_or, [], ap, arith}
use Rattle.hm_graph.proofs.Counts.{kept_within}
use Rattle.hm_graph.specs.Steps.{leaves_out}
use Rattle.hm_check.proofs.Counting.{first_counted}
use Rattle.hm_check.proofs.layers.count_layers.Goals as goal

pub overflow_add-count : goal.overflow_add-count
overflow_add-count c = omega (arith, c.count_kept-count.ensures, kept_within c.args.graph.now.source.format c.args.graph.now.steps, c.every_graph.ensures.few)

pub overflow_add-result : goal.overflow_add-result
overflow_add-result c = omega (arith, c.count_kept-count.ensures, kept_within c.args.graph.now.source.format c.args.graph.now.steps, c.every_graph.ensures.few)

pub returns-then-is_left_out : goal.returns-then-is_left_out
returns-then-is_left_out c =
    let first : c.step.result.now ≡ get_or c.args.graph.now.steps 0 [] = c.step.ensures ∙ ap (λ k. get_or c.args.graph.now.steps k []) c.first_layer.ensures.layer in
    omega (arith, c.count_kept-count.ensures, first_counted c.args.graph.now.source.format c.args.graph.now.steps true (omega (arith, c.len.ensures, c.if-len-eq0.false)) (c.if-is_left_out.ensures ∙ ap (λ f. leaves_out f c.step.result.now) c.format.ensures ∙ ap (leaves_out c.args.graph.now.source.format) first))

pub returns-else-is_left_out : goal.returns-else-is_left_out
returns-else-is_left_out c =
    let first : c.step.result.now ≡ get_or c.args.graph.now.steps 0 [] = c.step.ensures ∙ ap (λ k. get_or c.args.graph.now.steps k []) c.first_layer.ensures.layer in
    omega (arith, c.count_kept-count.ensures, first_counted c.args.graph.now.source.format c.args.graph.now.steps false (omega (arith, c.len.ensures, c.if-len-eq0.false)) (c.if-is_left_out.ensures ∙ ap (λ f. leaves_out f c.step.result.now) c.format.ensures ∙ ap (leaves_out c.args.graph.now.source.format) first))
