use Rattle.std.proofs.Common.{cond, ◌∷◌, [], ◌++◌, codes, ap, ap₂}
use Rattle.hm_edges.proofs.Adding.{adds_one, adds_if, adds_then, adds_stopped, adds_as}
use Rattle.hm_edges.proofs.SectionEdges.{going_on}
use Rattle.hm_edges.specs.States.{pending_of}
use Rattle.hm_graph_laws.specs.Edges.{edge, edge_to}
use Rattle.hm_graph_laws.specs.States.{in_section, first_state}
use Rattle.hm_edges.proofs.sections.add_going_on.Goals as goal

pub returns-in_err-add_if : goal.returns-in_err-add_if
returns-in_err-add_if c = λ v u next own is.
    adds_as _ _ _ _ _ _ _ (going_on next c.args.more (cond c.args.opens (codes "<![CDATA[") []) c.args.c (pending_of v c.args.pending) is)
    (adds_stopped _ _ _ _ _ _ _ _ _ c.in_err-add_if.was c.from_residual.ensures.0
    (adds_as _ _ _ _ _ _ _ (ap₂ (λ b p. cond c.args.more (edge (cond c.args.opens (codes "<![CDATA[") [] ++ b) in_section p ∷ []) []) own (c.in_section_after-to.ensures.to v))
    (adds_if _ _ _ _ _ _ _ c.add_if.ensures (λ _. record { name = tt; nodes = c.in_section_after-to.ensures.nodes v }))))

pub returns : goal.returns
returns c = λ v u next own is.
    adds_as _ _ _ _ _ _ _ (going_on next c.args.more (cond c.args.opens (codes "<![CDATA[") []) c.args.c (pending_of v c.args.pending) is)
    (adds_then _ _ _ _ _ _ _ _ _ _ c.in_ok-add_if.was
    (adds_as _ _ _ _ _ _ _ (ap₂ (λ b p. cond c.args.more (edge (cond c.args.opens (codes "<![CDATA[") [] ++ b) in_section p ∷ []) []) own (c.in_section_after-to.ensures.to v))
    (adds_if _ _ _ _ _ _ _ c.add_if.ensures (λ _. record { name = tt; nodes = c.in_section_after-to.ensures.nodes v })))
    (adds_as _ _ _ _ _ _ _ (ap (λ b. edge_to (cond c.args.opens (codes "<![CDATA[") [] ++ (b ++ codes "]]>")) first_state ∷ []) own)
    (adds_one _ _ _ _ _ _ c.add.ensures (record { name = tt; nodes = tt }))))
