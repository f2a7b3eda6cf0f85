use Rattle.std.proofs.Common.{◌+◌, [], take, drop, refl}
use Rattle.hm_base.specs.Walks.{path_after}
use Rattle.hm_elements.specs.Paths.{current, outer}
use Rattle.hm_event_parts.proofs.TagUnits.{end_there}
use Rattle.hm_event_parts.proofs.found.end_found.Goals as goal

pub returns-clause-units : goal.returns-clause-units
returns-clause-units c =
    let around = outer (path_after [] (take c.args.i c.args.tree.now)) in
    let after = drop (c.args.i + 1) c.args.tree.now in
    end_there c.args.rules c.args.name.now c.args.foreign (take 1 after) after refl around (current around) c.has_no_end_tag.result c.may_omit_end.result c.is_omission_noted.result c.has_no_end_tag.ensures
    c.if-has_no_end_tag.false refl c.may_omit_end.ensures c.is_omission_noted.ensures
