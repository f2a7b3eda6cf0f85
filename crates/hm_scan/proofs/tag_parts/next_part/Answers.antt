use Rattle.std.proofs.Common.{◌≤◌, length, subst, arith}
use Rattle.hm_refs.specs.Reads.{IsEndOf}
use Rattle.hm_scan.specs.TagPlaces.{is_gap_byte}
use Rattle.hm_scan.proofs.TagParts.{nothing_is, end_is, pair_is}
use Rattle.hm_scan.proofs.tag_parts.next_part.Goals as goal

pub returns-then-at-bytes : goal.returns-then-at-bytes
returns-then-at-bytes c =
    let e : IsEndOf is_gap_byte c.args.bytes.now c.args.from (length c.args.bytes.now) = subst (λ n. IsEndOf is_gap_byte c.args.bytes.now c.args.from n) c.if-at-bytes.true c.run_end-at.ensures in
    nothing_is c.args.bytes.now c.args.from e

pub returns-then-bytes-at-eq62 : goal.returns-then-bytes-at-eq62
returns-then-bytes-at-eq62 c =
    let inside : c.run_end-at.result ≤ length c.args.bytes.now = c.run_end-at.ensures.inside in
    end_is c.args.bytes.now c.args.from c.run_end-at.result c.ends_in_slash.result c.requires.utf8 c.run_end-at.ensures (omega arith) c.if-bytes-at-eq62.true c.ends_in_slash.ensures

pub returns : goal.returns
returns c =
    let inside : c.run_end-at.result ≤ length c.args.bytes.now = c.run_end-at.ensures.inside in
    pair_is c.args.bytes.now c.args.from c.run_end-at.result c.attribute_at.result c.requires.utf8 c.requires.boundary c.run_end-at.ensures (omega arith) c.if-bytes-at-eq62.false c.attribute_at.ensures
