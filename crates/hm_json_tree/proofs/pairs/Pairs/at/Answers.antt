use Rattle.std.proofs.Common.{◌≡◌, ◌<◌, length, map, sym, ap, ◌∙◌, arith}
use Rattle.std.proofs.lemmas.List.{length-map}
use Rattle.hm_json_tree.specs.Pairs.{attributes_from, text_attribute}
use Rattle.hm_json_tree.proofs.Told.{mapped_at}
use Rattle.hm_json_tree.proofs.pairs.Pairs.at.Goals as goal

pub returns-in-Texts : goal.returns-in-Texts
returns-in-Texts c =
    let all : c.args.self.now ≡ map text_attribute c.in-Texts.texts.items = sym c.self.view_is ∙ ap attributes_from c.in-Texts.is in
    let within : c.args.i < length c.in-Texts.texts.items = omega (arith, c.requires, ap length all, length-map c.in-Texts.texts.items text_attribute) in
    rw all (mapped_at text_attribute c.in-Texts.texts.items c.args.i c.index.result.now within c.index.ensures)
