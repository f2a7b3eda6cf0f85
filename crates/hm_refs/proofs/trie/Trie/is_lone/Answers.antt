use Rattle.std.proofs.Common.{◌∙◌, Some, sym, ap}
use Rattle.hm_refs.specs.Tables.{entry_at}
use Rattle.hm_refs.specs.Names.{points_of, is_closed, child_of}
use Rattle.hm_refs.proofs.Whole.{named_at}
use Rattle.hm_refs.proofs.LoneLaws.{lone_none, lone_some, no_child, child_front, no_name}
use Rattle.hm_refs.proofs.trie.Trie.is_lone.Goals as goal

pub returns-in_default : goal.returns-in_default
returns-in_default c =
    let t = c.args.self.now.entries in
    let e = entry_at t c.args.id in
    let o = sym (ap is_closed c.name.ensures) ∙ sym c.if-is_closed.ensures in
    lone_none t e o (no_child t e.name 59 (c.in_default.ensures.leads ∙ ap (λ q. child_of t q 59) c.node_of.ensures.front))

pub points-requires : goal.points-requires
points-requires c = (named_at c.args.self.now.entries _ _ (sym c.in-Some-name_at.ensures)).inside

pub returns-in-Some-name_at : goal.returns-in-Some-name_at
returns-in-Some-name_at c =
    let t = c.args.self.now.entries in
    let e = entry_at t c.args.id in
    let o = sym (ap is_closed c.name.ensures) ∙ sym c.if-is_closed.ensures in
    let f = child_front t e.name _ 59 (c.in-Some.ensures.leads ∙ ap (λ q. child_of t q 59) c.node_of.ensures.front) in
    let n = named_at t _ _ (sym c.in-Some-name_at.ensures) in
    lone_some t e c.points.result c.points-in-Some-name_at.result c.ne.result o (ap (points_of t) (sym f) ∙ n.own ∙ ap Some (sym c.points.ensures)) c.points-in-Some-name_at.ensures c.ne.ensures

pub returns-in-None : goal.returns-in-None
returns-in-None c =
    let t = c.args.self.now.entries in
    let e = entry_at t c.args.id in
    let o = sym (ap is_closed c.name.ensures) ∙ sym c.if-is_closed.ensures in
    let f = child_front t e.name _ 59 (c.in-Some.ensures.leads ∙ ap (λ q. child_of t q 59) c.node_of.ensures.front) in
    lone_none t e o (ap (points_of t) (sym f) ∙ no_name t _ c.in-None.ensures)
