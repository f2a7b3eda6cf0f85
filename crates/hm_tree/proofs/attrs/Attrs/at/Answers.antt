use Rattle.std.proofs.Common.{◌<◌, length, string_bytes, ap, arith}
use Rattle.hm_tree.specs.Pairs.{attributes_of}
use Rattle.hm_tree.proofs.PairLemmas.{attributes_at}
use Rattle.hm_tree.proofs.attrs.Attrs.at.Goals as goal

pub returns : goal.returns
returns c =
    let s = string_bytes c.self.inside.text in
    let pairs = c.self.inside.pairs.items in
    let within : c.args.i < length (attributes_of s pairs) = omega (arith, c.requires, ap length c.self.view_is) in
    rw (← c.self.view_is, c.name_in.ensures, c.value_in.ensures, c.as_str.ensures.value, c.as_str-2.ensures.value) (attributes_at s pairs c.args.i c.index-pair.result.now within c.index-pair.ensures)
