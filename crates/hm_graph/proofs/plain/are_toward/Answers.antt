use Rattle.std.proofs.Common.{refl}
use Rattle.hm_graph.specs.Interned.{IsToward}
use Rattle.hm_graph.proofs.PlainRows.{all_four}
use Rattle.hm_graph.proofs.plain.are_toward.Goals as goal

pub returns : goal.returns
returns c = λ last are.
    all_four (IsToward c.args.steps.now c.args.to) c.args.text.now c.args.from c.requires.room (c.if-not-is_toward.ensures refl) (c.if-not-is_toward-2.ensures refl) (c.if-not-is_toward-3.ensures refl) (c.is_toward-4.ensures last) are
