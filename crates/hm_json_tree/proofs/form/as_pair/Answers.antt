use Rattle.hm_json_tree.proofs.Items.{no_pair_of_one, no_pair, pair_of_two}
use Rattle.hm_json_tree.proofs.form.as_pair.Goals as goal

pub returns-in-len1 : goal.returns-in-len1
returns-in-len1 c = let a = rw (← c.as_slice.ensures.value) at c.in_ok-as_array.ensures in
    no_pair_of_one _ c.as_slice.result.now a c.in-len1.len_at_least c.in-len1.len_below

pub returns-in-len3-up : goal.returns-in-len3-up
returns-in-len3-up c = let a = rw (← c.as_slice.ensures.value) at c.in_ok-as_array.ensures in
    no_pair _ c.as_slice.result.now a c.in-len3-up.len_at_least

pub returns-in-len2 : goal.returns-in-len2
returns-in-len2 c = let a = rw (← c.as_slice.ensures.value) at c.in_ok-as_array.ensures in
    pair_of_two _ c.as_slice.result.now c.name-item.result c.value-item.result _ a c.in-len2.len_at_least c.in-len2.len_below c.name-item.is c.value-item.is c.both.ensures
