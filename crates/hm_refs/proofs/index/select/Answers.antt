use Rattle.std.proofs.Common.{rules}
use Rattle.std.proofs.lemmas.List.Sorted.{IsPartitionPoint-from_clause}
use Rattle.hm_refs.proofs.Selecting.{Part, part, is_under, is_up_to, parted_under, parted_up_to}
use Rattle.hm_refs.proofs.index.select.Goals as goal

found : (c : goal.After-partition_point-to) → Part c.args.first c.args.points.now c.args.names.now c.partition_point-from.result c.partition_point-to.result
found c =
    let points = c.args.points.now in
    let under = IsPartitionPoint-from_clause (is_under c.args.first) points c.partition_point-from.result c.partition_point-from.ensures.partitioned (parted_under points c.args.first c.requires.ascending) (λ a r f' k. search rules) in
    let up_to = IsPartitionPoint-from_clause (is_up_to c.args.first) points c.partition_point-to.result c.partition_point-to.ensures.partitioned (parted_up_to points c.args.first c.requires.ascending) (λ a r f' k. search rules) in
    part c.args.first points c.args.names.now c.partition_point-from.result c.partition_point-to.result c.requires.as_long c.partition_point-from.ensures.bound c.partition_point-to.ensures.bound under up_to

pub slice_bounds-result-count : goal.slice_bounds-result-count
slice_bounds-result-count c = (found c).order

pub slice_bounds-result-start : goal.slice_bounds-result-start
slice_bounds-result-start c = let o = (found c).order in search rules

pub returns : goal.returns
returns c =
    let points = c.args.points.now in
    let under = IsPartitionPoint-from_clause (is_under c.args.first) points c.partition_point-from.result c.partition_point-from.ensures.partitioned (parted_under points c.args.first c.requires.ascending) (λ a r f' k. search rules) in
    let up_to = IsPartitionPoint-from_clause (is_up_to c.args.first) points c.partition_point-to.result c.partition_point-to.ensures.partitioned (parted_up_to points c.args.first c.requires.ascending) (λ a r f' k. search rules) in
    (part c.args.first points c.args.names.now c.partition_point-from.result c.partition_point-to.result c.requires.as_long c.partition_point-from.ensures.bound c.partition_point-to.ensures.bound under up_to).part
