use Rattle.std.proofs.Common.{◌++◌, ◌∷◌, [], false, ap, ◌∙◌}
use Rattle.hm_base.specs.Walks.{start}
use Rattle.hm_insertion.proofs.BeforeBody.{text_room, text_done}
use Rattle.hm_insertion.proofs.parts.Parts.start_text.Goals as goal

pub start_from-requires : goal.start_from-requires
start_from-requires c = rw c.name.ensures (text_room c.args.self.now c.args.attrs.now c.args.noscript c.requires.insertion_mode c.requires.kept c.requires.all c.args.text c.requires.room)

pub returns : goal.returns
returns c =
    text_done c.args.self.now c.args.attrs.now c.args.noscript c.requires.insertion_mode c.requires.kept c.requires.all c.args.text c.start_from.new.self
    (c.in_ok-start_from.ensures.ok ∙ ap (λ n. c.args.self.now.maker ++ start n false c.args.attrs.now ∷ []) c.name.ensures)
