use Rattle.std.proofs.Common.{◌≡◌, ◌∙◌, ◌+◌, ◌*◌, ◌^◌, suc, map, length, take, drop, ◌++◌, reverse, refl, sym, ap, subst, append-nil, arith}
use Rattle.std.proofs.lemmas.List.{take_at}
use Rattle.hm_cert.specs.Certificate.{row_line}
use Rattle.hm_cert.specs.Layout.{told}
use Rattle.hm_cert.specs.Rows.{AreBelow}
use Rattle.hm_graph_laws.specs.Ways.{over}
use Rattle.hm_graph.proofs.StepsStill.{each_none}
use Rattle.hm_shortest.specs.Plans.{raised_lines}
use Rattle.hm_shortest.proofs.Alike.{few_more, one_alike, raised_below}
use Rattle.hm_shortest.proofs.plans.Back.write_alike.Goals as goal

pub loop-layer-init : goal.loop-layer-init
loop-layer-init c =
    let row = map told c.args.self.now.row.items in
    let none : 0 ≡ 0 * c.args.len = omega arith in
    record {
      text = sym (append-nil c.args.self.now.text);
      choices = refl;
      row = each_none row ∙ ap (λ m. map (over m) row) none;
    }

pub add_each-requires-clause-below : goal.add_each-requires-clause-below
add_each-requires-clause-below c =
    let l = c.loop-layer in
    let row = map told c.args.self.now.row.items in
    let few = few_more l._layer c.args.count c.args.len c.loop-layer-test.true c.requires.low in
    subst (AreBelow (2 ^ 63 + 2 ^ 62)) (sym (ap (map told) c.deref_mut.ensures.value ∙ l.invariant.row)) (raised_below (2 ^ 62) (2 ^ 63 + 2 ^ 62) (l._layer * c.args.len) row (omega (arith, few)) c.requires.below)

pub loop-layer-preserved : goal.loop-layer-preserved
loop-layer-preserved c =
    let l = c.loop-layer in
    let row = c.add_each.new.row in
    let rest = drop (length row) l.self.row.items in
    let size : length row ≡ l.self.row.len = omega (arith, c.add_each.auto.row, c.deref_mut.ensures.len) in
    let whole : take l.self.row.len (row ++ rest) ≡ row = take_at row rest l.self.row.len size in
    let next : suc l._layer ≡ l._layer + 1 = omega arith in
    let one = one_alike l._layer c.args.len c.args.self.now.text l.self.text c.put_line.new.self (map told c.args.self.now.row.items) (map told l.self.row.items) (map told (take l.self.row.len (row ++ rest))) l.invariant.text l.invariant.row
    (ap (map told) whole ∙ c.add_each.ensures ∙ ap (λ r. map (over c.args.len) (map told r)) c.deref_mut.ensures.value) (c.in_ok-put_line.ensures ∙ ap (λ r. l.self.text ++ reverse (row_line (map told r))) c.deref.ensures.value) in
    record {
      text = one.0 ∙ ap (λ n. c.args.self.now.text ++ raised_lines n c.args.len (map told c.args.self.now.row.items)) next;
      choices = l.invariant.choices;
      row = one.1 ∙ ap (λ n. map (over (n * c.args.len)) (map told c.args.self.now.row.items)) next;
    }
