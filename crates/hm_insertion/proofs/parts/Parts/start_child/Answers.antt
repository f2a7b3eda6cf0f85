use Rattle.hm_insertion.proofs.BeforeBody.{void_child}
use Rattle.hm_insertion.proofs.parts.Parts.start_child.Goals as goal

pub start_void-requires-clause-void : goal.start_void-requires-clause-void
start_void-requires-clause-void c = void_child c.args.name.now c.requires.stands c.in_default.not-noscript c.in_default.not-title c.in_default.not-style c.in_default.not-script
