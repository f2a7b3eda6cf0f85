use Rattle.std.proofs.Common.{length, ◌-◌, ◌≤◌}
use Rattle.hm_scan.proofs.TagPlaces.{NoTag}
use Rattle.hm_scan.proofs.raw_texts.end_tag_place.Given as goal

abbrev pub invariant-tags : goal.invariant-tags
invariant-tags l = record { low : l.from ≤ l.at; high : l.at ≤ length l.bytes; none : NoTag l.name l.bytes l.from l.at }

abbrev pub decreases-tags : goal.decreases-tags
decreases-tags l = length l.bytes - l.at
