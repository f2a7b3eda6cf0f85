use Rattle.std.proofs.Common.{◌≡◌, ◌+◌, ◌≤◌, length, arith, rules, ap, ◌∙◌, sym}
use Rattle.std.specs.String.{string_bytes}
use Rattle.std.specs.List.{count_by}
use Rattle.std.proofs.lemmas.List.Sorted.{IsPartitionPoint-from_clause}
use Rattle.hm_base.specs.Source.{Source, place_in}
use Rattle.hm_base.specs.Places.{is_below}
use Rattle.hm_base.proofs.Places.{source_from-place, source_from-length, count_by_partition, rising_is_partitioned}
use Rattle.hm_base.proofs.source.SourceText.place_of.Goals as goal

-- the call counts the pairs below the index
counted : (c : goal.After-partition_point-before) → count_by (is_below c.args.index) c.self.inside.pairs.items ≡ c.partition_point-before.result
counted c =
    let pairs = c.self.inside.pairs.items in
    let before = c.partition_point-before.result in
    let ensures = c.partition_point-before.ensures in
    let bound : before ≤ length pairs = rw (sym c.deref.ensures.value) ensures.bound in
    let parted = rw c.deref.ensures.value at ensures.partitioned in
    let found = IsPartitionPoint-from_clause (is_below c.args.index) pairs before parted (rising_is_partitioned pairs c.args.index c.self.invariant.rising) (λ a r f' k. search rules) in
    count_by_partition (is_below c.args.index) pairs before bound found.0 found.1

-- the pairs below the index are at most all, and the page is short
small : (c : goal.After-partition_point-before) → c.self.inside.start + c.args.index + c.partition_point-before.result ≤ 67108864
small c =
    let s = c.self.inside in
    let short = c.self.invariant.short in
    let bound = ap length c.deref.ensures.value in
    let len = ap (λ (v : Source). length v.placed) c.self.view_is in
    let len_is = source_from-length s.start s.pairs.items (string_bytes s.text) in
    omega (arith, c.partition_point-before.ensures.bound, c.requires)

pub overflow_add-result : goal.overflow_add-result
overflow_add-result c = omega (arith, small c)

pub overflow_add-result-2 : goal.overflow_add-result-2
overflow_add-result-2 c = omega (arith, small c)

pub returns : goal.returns
returns c =
    let s = c.self.inside in
    let len = ap (λ (v : Source). length v.placed) c.self.view_is in
    let len_is = source_from-length s.start s.pairs.items (string_bytes s.text) in
    rw (sym (counted c)) (source_from-place s.start c.args.index s.pairs.items (string_bytes s.text) c.self.invariant.inside (omega (arith, c.requires)) ∙ ap (λ (v : Source). place_in v.placed v.end c.args.index) c.self.view_is)
