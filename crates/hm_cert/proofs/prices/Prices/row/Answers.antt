use Rattle.std.proofs.Common.{◌≡◌, ◌<◌, [], ◌∷◌, length, get_or, map, sym, ap, ◌∙◌, arith}
use Rattle.std.specs.Prelude.{slice_range}
use Rattle.hm_cert.specs.Layout.{told}
use Rattle.hm_cert.proofs.Rows.{length-rows_from, row_at}
use Rattle.hm_cert.proofs.prices.Prices.row.Goals as goal

pub span_of-start-requires : goal.span_of-start-requires
span_of-start-requires c =
    omega (arith, c.deref.ensures.len, c.self.inside.ends.ok.0, ap length c.deref.ensures.value, length-rows_from c.self.inside.numbers.items 0 c.self.inside.ends.items, ap length c.self.view_is, c.requires)

pub part_of-requires : goal.part_of-requires
part_of-requires c =
    let n = c.self.inside.numbers.items in let e = c.self.inside.ends.items in
    let count : c.args.k < length e = omega (arith, length-rows_from n 0 e, ap length c.self.view_is, c.requires) in
    let r = row_at n 0 e c.args.k c.self.invariant count in
    let start : c.span_of-start.result.0 ≡ get_or (0 ∷ e) c.args.k 0 = c.span_of-start.ensures.start ∙ ap (λ x. get_or (0 ∷ x) c.args.k 0) c.deref.ensures.value in
    let end : c.span_of-start.result.1 ≡ get_or e c.args.k 0 = c.span_of-start.ensures.end ∙ ap (λ x. get_or x c.args.k 0) c.deref.ensures.value in
    record {
      order = omega (arith, start, end, r.low);
      inside = omega (arith, end, r.high, ap length c.deref-2.ensures.value);
    }

pub returns : goal.returns
returns c =
    let n = c.self.inside.numbers.items in let e = c.self.inside.ends.items in
    let count : c.args.k < length e = omega (arith, length-rows_from n 0 e, ap length c.self.view_is, c.requires) in
    let r = row_at n 0 e c.args.k c.self.invariant count in
    let start : c.span_of-start.result.0 ≡ get_or (0 ∷ e) c.args.k 0 = c.span_of-start.ensures.start ∙ ap (λ x. get_or (0 ∷ x) c.args.k 0) c.deref.ensures.value in
    let end : c.span_of-start.result.1 ≡ get_or e c.args.k 0 = c.span_of-start.ensures.end ∙ ap (λ x. get_or x c.args.k 0) c.deref.ensures.value in
    let part : c.part_of.result.now ≡ slice_range n (get_or (0 ∷ e) c.args.k 0) (get_or e c.args.k 0) =
    c.part_of.ensures
    ∙ ap (λ x. slice_range x c.span_of-start.result.0 c.span_of-start.result.1) c.deref-2.ensures.value
    ∙ ap (λ x. slice_range n x c.span_of-start.result.1) start
    ∙ ap (λ x. slice_range n (get_or (0 ∷ e) c.args.k 0) x) end in
    ap (map told) part ∙ sym r.row ∙ ap (λ x. get_or x c.args.k []) c.self.view_is
