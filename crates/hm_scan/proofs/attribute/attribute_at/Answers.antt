use Rattle.std.proofs.Common.{◌+◌}
use Rattle.hm_scan.proofs.Boundaries.{later_ends}
use Rattle.hm_scan.proofs.ValuePlaces.{attribute_is}
use Rattle.hm_scan.proofs.attribute.attribute_at.Goals as goal

pub assigned_value-requires-clause-boundary : goal.assigned_value-requires-clause-boundary
assigned_value-requires-clause-boundary c = later_ends c.args.bytes.now (c.args.at + 1) c.name_part-name.result.to c.name_part-name.ensures.end

pub returns : goal.returns
returns c = attribute_is c.args.bytes.now c.args.at _ c.requires.inside c.name_part-name.ensures.end c.name_part-name.ensures.plain c.assigned_value.ensures.cut c.assigned_value.ensures.forward
