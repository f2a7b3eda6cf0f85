use Rattle.std.proofs.Common.{◌≡◌, ◌∙◌, ◌&&◌, ap, chars, slice_get, sym}
use Rattle.hm_edges.specs.Units.{needs_quotes}
use Rattle.hm_graph.specs.EntityFacts.{joined}
use Rattle.hm_graph.specs.Values.{need_with}
use Rattle.hm_graph.proofs.Characters.{first_of}
use Rattle.hm_graph.proofs.ValueBytes.{need_same}
use Rattle.hm_graph_laws.specs.Forms.{is_costly}
use Rattle.hm_graph_laws.specs.Units.{next_of}
use Rattle.hm_graph.proofs.values.other_with.Goals as goal

pub returns-then-not-needs_quotes : goal.returns-then-not-needs_quotes
returns-then-not-needs_quotes c = need_same c.args.table.now.entries c.args.need c.args.previous c.args.c (next_of (chars c.args.rest.now)) (sym c.needs_quotes.ensures ∙ c.if-not-needs_quotes.true)

pub returns : goal.returns
returns c =
    let t = c.args.table.now.entries in
    let rest = c.args.rest.now in
    let next : c.next-next.result ≡ next_of (chars rest) = c.next-next.ensures.steps.2 ∙ ap (λ r. slice_get (chars r) 0) c.chars.ensures.rest ∙ first_of (chars rest) in
    c.need_with.ensures
    ∙ ap (λ k. joined c.args.need k (k && is_costly t c.args.previous c.args.c c.next-next.result)) (sym (sym c.needs_quotes.ensures ∙ c.if-not-needs_quotes.false))
    ∙ ap (need_with t needs_quotes c.args.need c.args.previous c.args.c) next
