use Rattle.std.proofs.Common.{◌∙◌, ◌++◌, ◌+◌, ◌^◌, map, ap}
use Rattle.hm_base.specs.declared.plain.Format.TheVariants.{Sparse}
use Rattle.hm_cert.specs.Certificate.{head_lines, row_line}
use Rattle.hm_cert.specs.Layout.{told}
use Rattle.hm_graph.specs.Prices.{zeros}
use Rattle.hm_shortest.proofs.Whole.{all_lines}
use Rattle.hm_shortest.specs.Direct.{first_line}
use Rattle.hm_shortest.specs.Stretches.{base, placed}
use Rattle.hm_shortest.proofs.direct.write_lines.Goals as goal

pub returns : goal.returns
returns c =
    let way = c.args.way.now in
    all_lines (head_lines Sparse c.args.rules) (first_line way.first way.total) (map (placed (base + way.total)) way.rows) (zeros way.last) c.new-text.result.items c.put_head.new.out.items c.put_first.new.text.items c.put_rows.new.text.items c.put_line.new.out.items c.new-text.ensures.items
    c.in_ok-put_head.ensures c.in_ok-put_first.ensures c.in_ok-put_rows.ensures (c.in_ok-put_line.ensures ∙ ap (λ row. c.put_rows.new.text.items ++ row_line row) (ap (map told) c.deref.ensures.value ∙ c.in_ok-zero_each.ensures))
