use Rattle.std.proofs.Common.{◌∙◌, ◌==◌, ◌&&◌, ◌≡◌, ap, chars, slice_get, sym}
use Rattle.hm_edges.specs.Units.{needs_quotes}
use Rattle.hm_graph.specs.EntityFacts.{joined}
use Rattle.hm_graph.specs.Values.{need_with}
use Rattle.hm_graph.proofs.Characters.{first_of}
use Rattle.hm_graph.proofs.ValueBytes.{needs_kept}
use Rattle.hm_graph_laws.specs.Forms.{is_costly}
use Rattle.hm_graph_laws.specs.Units.{next_of}
use Rattle.hm_graph.proofs.values.needs_with.Goals as goal

pub returns-then-not-is_barred : goal.returns-then-not-is_barred
returns-then-not-is_barred c = needs_kept c.args.table.now.entries c.args.needs c.args.previous c.args.c (next_of (chars c.args.rest.now)) (sym c.is_barred.ensures ∙ c.if-not-is_barred.true)

pub returns : goal.returns
returns c =
    let t = c.args.table.now.entries in
    let rest = c.args.rest.now in
    let next : c.next-next.result ≡ next_of (chars rest) = c.next-next.ensures.steps.2 ∙ ap (λ r. slice_get (chars r) 0) c.chars.ensures.rest ∙ first_of (chars rest) in
    λ i. record {
      double = (c.need_with.ensures ∙ ap (need_with t (λ d. d == 34) c.args.needs.double c.args.previous c.args.c) next) i;
      single = (c.need_with-2.ensures ∙ ap (need_with t (λ d. d == 39) c.args.needs.single c.args.previous c.args.c) next) i;
      other =
          (c.need_with-3.ensures ∙ ap (λ k. joined c.args.needs.other k (k && is_costly t c.args.previous c.args.c c.next-next.result)) c.needs_quotes.ensures
          ∙ ap (need_with t needs_quotes c.args.needs.other c.args.previous c.args.c) next) i;
    }
