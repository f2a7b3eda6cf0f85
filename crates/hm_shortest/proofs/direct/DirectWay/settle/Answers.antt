use Rattle.std.proofs.Common.{◌≡◌, ◌∙◌, ◌+◌, ◌^◌, ◌++◌, ℕ, [], length, map, refl, sym, subst, ap, arith, slice_index_or}
use Rattle.hm_base.specs.declared.plain.Format.TheVariants.{Sparse}
use Rattle.hm_cert.specs.Layout.{told}
use Rattle.hm_graph.specs.Joined.{kept_rows}
use Rattle.hm_shortest.proofs.Found.{all_up_to, found_count, one_is}
use Rattle.hm_shortest.specs.Stretches.{AreFound, own_way, owns_in, placed, steps_in}
use Rattle.hm_shortest.proofs.direct.DirectWay.settle.Goals as goal

pub find_rows-requires : goal.find_rows-requires
find_rows-requires c = omega (arith, ap length c.deref.ensures.value, c.if-len-ge-FEW.false, c.len.ensures, c.args.self.now.stretch.ok.0)

pub overflow_add-self : goal.overflow_add-self
overflow_add-self c =
    let kept = c.args.self.now.stretch.items in
    let one = one_is c.args.last kept c.deref.result.now c.find_rows.new.found (map told c.row.result.now) c.in-Some.price c.deref.ensures.value (omega (arith, c.if-len-ge-FEW.false, c.len.ensures, c.args.self.now.stretch.ok.0)) c.in_ok-find_rows.ensures.found c.in_ok-find_rows.ensures.low
    (c.row.ensures ∙ ap (λ n. slice_index_or c.find_rows.new.found n []) (omega (arith, c.len-2.ensures, c.args.self.now.stretch.ok.0))) c.in-Some.ensures in
    omega (arith, one.low, c.if-self-ge-MOST.false)

pub write_way-requires-clause-count : goal.write_way-requires-clause-count
write_way-requires-clause-count c = found_count c.args.last c.deref-2.result.now c.deref.result.now c.find_rows.new.found (c.deref.ensures.value ∙ sym c.deref-2.ensures.value) c.in_ok-find_rows.ensures.found

pub write_way-requires-clause-below : goal.write_way-requires-clause-below
write_way-requires-clause-below c =
    all_up_to c.args.last c.args.self.now.stretch.items c.deref.result.now c.find_rows.new.found c.deref.ensures.value (omega (arith, c.if-len-ge-FEW.false, c.len.ensures, c.args.self.now.stretch.ok.0)) c.in_ok-find_rows.ensures.found c.in_ok-find_rows.ensures.low

pub overflow_add-self-2 : goal.overflow_add-self-2
overflow_add-self-2 c =
    let kept = c.args.self.now.stretch.items in
    let one = one_is c.args.last kept c.deref.result.now c.find_rows.new.found (map told c.row.result.now) c.in-Some.price c.deref.ensures.value (omega (arith, c.if-len-ge-FEW.false, c.len.ensures, c.args.self.now.stretch.ok.0)) c.in_ok-find_rows.ensures.found c.in_ok-find_rows.ensures.low
    (c.row.ensures ∙ ap (λ n. slice_index_or c.find_rows.new.found n []) (omega (arith, c.len-2.ensures, c.args.self.now.stretch.ok.0))) c.in-Some.ensures in
    omega (arith, one.low, c.if-self-ge-MOST.false)

pub keep_rows-requires-clause-count : goal.keep_rows-requires-clause-count
keep_rows-requires-clause-count c = found_count c.args.last c.deref-3.result.now c.deref.result.now c.find_rows.new.found (c.deref.ensures.value ∙ sym c.deref-3.ensures.value) c.in_ok-find_rows.ensures.found

pub keep_rows-requires-clause-top : goal.keep_rows-requires-clause-top
keep_rows-requires-clause-top c =
    let kept = c.args.self.now.stretch.items in
    let one = one_is c.args.last kept c.deref.result.now c.find_rows.new.found (map told c.row.result.now) c.in-Some.price c.deref.ensures.value (omega (arith, c.if-len-ge-FEW.false, c.len.ensures, c.args.self.now.stretch.ok.0)) c.in_ok-find_rows.ensures.found c.in_ok-find_rows.ensures.low
    (c.row.ensures ∙ ap (λ n. slice_index_or c.find_rows.new.found n []) (omega (arith, c.len-2.ensures, c.args.self.now.stretch.ok.0))) c.in-Some.ensures in
    omega (arith, one.low, c.if-self-ge-MOST.false)

pub returns-clause-settled : goal.returns-clause-settled
returns-clause-settled c =
    let t = c.args.table.now.entries in
    let last = c.args.last in
    let self = c.args.self.now in
    let kept = self.stretch.items in
    let rows = c.find_rows.new.found in
    let price = c.in-Some.price in
    let one = one_is last kept c.deref.result.now rows (map told c.row.result.now) price c.deref.ensures.value (omega (arith, c.if-len-ge-FEW.false, c.len.ensures, c.args.self.now.stretch.ok.0)) c.in_ok-find_rows.ensures.found c.in_ok-find_rows.ensures.low
    (c.row.ensures ∙ ap (λ n. slice_index_or rows n []) (omega (arith, c.len-2.ensures, c.args.self.now.stretch.ok.0))) c.in-Some.ensures in
    let found : AreFound last (steps_in kept) 0 rows = subst (λ x. AreFound last (steps_in x) 0 rows) c.deref.ensures.value c.in_ok-find_rows.ensures.found in
    let way = subst (λ x. (n : ℕ) → AreFound n (steps_in x) 0 rows → c.write_way.new.out.items ≡ self.out.items ++ own_way t n (owns_in x) (steps_in x) 0) c.deref-2.ensures.value (c.in_ok-write_way.ensures c.if-not-branch.false) in
    let lines = subst (λ x. (n : ℕ) → AreFound n (steps_in x) 0 rows → c.keep_rows.new.rows ≡ self.rows ++ map (placed (2 ^ 62 + (self.total + price))) (kept_rows Sparse n (steps_in x))) c.deref-3.ensures.value c.in_ok-keep_rows.ensures in
    record {
      none = c.clear.ensures.items;
      first = refl;
      last_is = refl;
      written = record { price = price; one = one.is; total = refl; out = way last found; rows = lines last found };
    }

pub returns-clause-total : goal.returns-clause-total
returns-clause-total c =
    let kept = c.args.self.now.stretch.items in
    let one = one_is c.args.last kept c.deref.result.now c.find_rows.new.found (map told c.row.result.now) c.in-Some.price c.deref.ensures.value (omega (arith, c.if-len-ge-FEW.false, c.len.ensures, c.args.self.now.stretch.ok.0)) c.in_ok-find_rows.ensures.found c.in_ok-find_rows.ensures.low
    (c.row.ensures ∙ ap (λ n. slice_index_or c.find_rows.new.found n []) (omega (arith, c.len-2.ensures, c.args.self.now.stretch.ok.0))) c.in-Some.ensures in
    omega (arith, one.low, c.if-self-ge-MOST.false)
