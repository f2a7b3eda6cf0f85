use Rattle.std.proofs.Common.{◌≡◌, ◌∙◌, ◌∷◌, ◌++◌, List, [], length, map, sym, ap, subst, arith, true, false}
use Rattle.std.proofs.lemmas.List.{length-map, map-append}
use Rattle.hm_graph.specs.Layers.{HaveNodes}
use Rattle.std.specs.List.{All}
use Rattle.hm_graph.specs.Interned.{AreTold, Grows, IsListOf, IsInterned, IsRow, IsMemo, InternedView}
use Rattle.hm_graph.proofs.Lists.{all_kept, all_rows_kept, grows_self, last_there, list_grows, interned, interned_list}
use Rattle.hm_edges.specs.declared.states.State.{State}
use Rattle.hm_graph.proofs.interned.Interned.add_list.Goals as goal

pub invariant_of-self-2 : goal.invariant_of-self-2
invariant_of-self-2 c =
    let lists : map (λ l. l.items) c.push.new.self.items ≡ map (λ l. l.items) c.self.inside.lists.items ++ c.args.states.items ∷ [] =
    ap (map (λ l. l.items)) c.in_ok-push.ensures.items ∙ map-append (λ l. l.items) c.self.inside.lists.items (c.args.states ∷ []) in
    let own : HaveNodes c.self.inside.table.now c.args.states.items = subst (λ m. HaveNodes m.table c.args.states.items) (sym c.self.view_is) c.requires in
    let before : InternedView = interned c.self.inside.table.now c.self.inside.rules (map (λ l. l.items) c.self.inside.lists.items) c.self.inside.steps.items in
    subst (λ ls. IsInterned (interned c.self.inside.table.now c.self.inside.rules ls c.self.inside.steps.items) × All (IsMemo (interned c.self.inside.table.now c.self.inside.rules ls c.self.inside.steps.items)) c.self.inside.memo.items × AreTold c.self.inside.table.now.entries c.self.inside.told × All (IsRow (interned c.self.inside.table.now c.self.inside.rules ls c.self.inside.steps.items) true) c.self.inside.text_rows.items × All (IsRow (interned c.self.inside.table.now c.self.inside.rules ls c.self.inside.steps.items) false) c.self.inside.last_rows.items) (sym lists) (
      interned_list c.self.inside.table.now c.self.inside.rules (map (λ l. l.items) c.self.inside.lists.items) c.self.inside.steps.items c.args.states.items c.self.invariant.0 own,
      all_kept before (interned c.self.inside.table.now c.self.inside.rules (map (λ l. l.items) c.self.inside.lists.items ++ c.args.states.items ∷ []) c.self.inside.steps.items) c.self.inside.memo.items
          (list_grows c.self.inside.table.now c.self.inside.rules (map (λ l. l.items) c.self.inside.lists.items) c.self.inside.steps.items c.args.states.items) c.self.invariant.1,
      c.self.invariant.2,
      all_rows_kept before (interned c.self.inside.table.now c.self.inside.rules (map (λ l. l.items) c.self.inside.lists.items ++ c.args.states.items ∷ []) c.self.inside.steps.items) true c.self.inside.text_rows.items
          (list_grows c.self.inside.table.now c.self.inside.rules (map (λ l. l.items) c.self.inside.lists.items) c.self.inside.steps.items c.args.states.items) c.self.invariant.3,
      all_rows_kept before (interned c.self.inside.table.now c.self.inside.rules (map (λ l. l.items) c.self.inside.lists.items ++ c.args.states.items ∷ []) c.self.inside.steps.items) false c.self.inside.last_rows.items
          (list_grows c.self.inside.table.now c.self.inside.rules (map (λ l. l.items) c.self.inside.lists.items) c.self.inside.steps.items c.args.states.items) c.self.invariant.4,
    )

pub returns-then-number-ge-LIMIT-clause-kept : goal.returns-then-number-ge-LIMIT-clause-kept
returns-then-number-ge-LIMIT-clause-kept c = grows_self c.args.self.now

pub returns-clause-list : goal.returns-clause-list
returns-clause-list c =
    let i = c.self.inside in
    let before : List (List State) = map (λ l. l.items) i.lists.items in
    let lists : map (λ l. l.items) c.push.new.self.items ≡ before ++ c.args.states.items ∷ [] =
    ap (map (λ l. l.items)) c.in_ok-push.ensures.items ∙ map-append (λ l. l.items) i.lists.items (c.args.states ∷ []) in
    let many : c.len-number.result ≡ length before = omega (arith, c.len-number.ensures, i.lists.ok.0, length-map i.lists.items (λ l. l.items)) in
    subst (λ ls. IsListOf (interned i.table.now i.rules ls i.steps.items) c.args.states.items c.len-number.result) (sym lists)
    (last_there i.table.now i.rules before i.steps.items c.args.states.items c.len-number.result many)

pub returns-clause-kept : goal.returns-clause-kept
returns-clause-kept c =
    let i = c.self.inside in
    let before : List (List State) = map (λ l. l.items) i.lists.items in
    let lists : map (λ l. l.items) c.push.new.self.items ≡ before ++ c.args.states.items ∷ [] =
    ap (map (λ l. l.items)) c.in_ok-push.ensures.items ∙ map-append (λ l. l.items) i.lists.items (c.args.states ∷ []) in
    subst (λ m. Grows m (interned i.table.now i.rules (map (λ l. l.items) c.push.new.self.items) i.steps.items)) c.self.view_is
    (subst (λ ls. Grows (interned i.table.now i.rules before i.steps.items) (interned i.table.now i.rules ls i.steps.items)) (sym lists)
    (list_grows i.table.now i.rules before i.steps.items c.args.states.items))
