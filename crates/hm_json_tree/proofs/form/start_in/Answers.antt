use Rattle.std.proofs.Common.{sym}
use Rattle.hm_json_tree.proofs.Items.{no_start_of_one, no_start, start_of_two}
use Rattle.hm_json_tree.proofs.form.start_in.Goals as goal

pub returns-in-len1 : goal.returns-in-len1
returns-in-len1 c = λ path. no_start_of_one path c.args.rest.now c.in-len1.len_at_least c.in-len1.len_below

pub returns-then-are_pairs : goal.returns-then-are_pairs
returns-then-are_pairs c = λ path.
    let vs = c.args.rest.now in
    let name = c.in_ok-name-in-len2.ensures in
    let us = rw (← c.as_slice-attrs.ensures.value) at c.in_ok-as_array-in-len2.ensures in
    rw c.of_items.ensures (start_of_two path vs c.as_slice-attrs.result.now c.name-item.result c.attrs-item.result c.in_ok-name-in-len2.name.now c.in-len2.len_at_least c.in-len2.len_below c.name-item.is c.attrs-item.is name us (sym c.if-are_pairs.ensures))

pub returns-in-len3-up : goal.returns-in-len3-up
returns-in-len3-up c = λ path. no_start path c.args.rest.now c.in-len3-up.len_at_least
