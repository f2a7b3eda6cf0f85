use Rattle.hm_insertion.proofs.BeforeBody.{noscript_room, noscript_done}
use Rattle.hm_insertion.proofs.parts.Parts.start_noscript.Goals as goal

pub start_from-requires : goal.start_from-requires
start_from-requires c = noscript_room c.args.self.now c.args.attrs.now c.requires.insertion_mode c.requires.kept c.requires.all c.requires.room

pub returns : goal.returns
returns c = noscript_done c.args.self.now c.args.attrs.now c.requires.insertion_mode c.requires.kept c.requires.all c.start_from.new.self c.in_ok-start_from.ensures.ok
