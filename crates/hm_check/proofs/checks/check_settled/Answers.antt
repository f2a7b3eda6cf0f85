use Rattle.std.proofs.Common.{◌≡◌, ◌∙◌, true, sym, subst}
use Rattle.std.specs.Option.{IfSome}
use Rattle.hm_edges.specs.Pieces.{piece_bytes}
use Rattle.hm_graph.specs.Ways.{WayOver}
use Rattle.hm_graph_laws.specs.Units.{units_of}
use Rattle.hm_check.specs.Verdicts.{same_rules}
use Rattle.hm_check.proofs.Checking.{if_ok}
use Rattle.hm_check.proofs.Spelled.{followed_verdict}
use Rattle.hm_check.proofs.checks.check_settled.Goals as goal

pub returns-in-Some : goal.returns-in-Some
returns-in-Some c =
    let t = c.args.table.now.entries in
    let same : same_rules c.args.certificate.now.rules c.args.rules ≡ true = sym c.same_rules.ensures ∙ c.if-same_rules.true in
    let source = subst (λ found. IfSome found (λ g. g.source ≡ record { tree = c.args.wanted.now; table = c.args.table.now; rules = c.args.rules; format = c.args.certificate.now.format })) c.in-Some.is c.in_ok-graph.ensures.source in
    let way = subst (λ found. IfSome found (λ g. WayOver (piece_bytes t) (units_of c.args.rules c.args.wanted.now) g.steps 0 c.args.out.now)) c.in-Some.is c.in_ok-graph.ensures.way in
    if_ok c.by_rows.result
    (λ found e. followed_verdict c.args.table.now c.every_table.ensures.names c.args.rules c.args.wanted.now c.requires.settled c.args.out.now c.args.certificate.now c.in-Some.graph c.every_graph.ensures.graph source same c.if-out.true way found e)
    c.by_rows.ensures
