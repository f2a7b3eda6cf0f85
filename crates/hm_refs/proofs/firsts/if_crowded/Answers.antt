use Rattle.std.proofs.Common.{◌∙◌}
use Rattle.hm_refs.proofs.Growing.{length_entries}
use Rattle.hm_refs.proofs.FirstsLaws.{index_some, places_are_inside, crowded_some, crowded_none}
use Rattle.hm_refs.proofs.firsts.if_crowded.Goals as goal

pub are_many-requires : goal.are_many-requires
are_many-requires c = places_are_inside c.args.point _ _ _ (length_entries c.args.names.now) (c.deref.ensures.value ∙ index_some _ c.args.firsts.now _ _ c.requires c.in-Some.ensures.value)

pub returns-in-Some : goal.returns-in-Some
returns-in-Some c = c.then_some.ensures ∙ crowded_some _ c.args.firsts.now _ _ _ _ c.requires c.in-Some.ensures.value c.deref.ensures.value c.are_many.ensures

pub returns-in-None : goal.returns-in-None
returns-in-None c = crowded_none _ c.args.firsts.now _ c.requires c.in-None.ensures.value
