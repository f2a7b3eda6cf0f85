use Rattle.std.proofs.Common.{◌≡◌, ◌+◌, ◌≤◌, get_or, arith, length}
use Rattle.std.proofs.lemmas.Str.{IsCharBoundary-after_ascii}
use Rattle.hm_scan.proofs.Boundaries.{space_ends}
use Rattle.hm_scan.proofs.ValuePlaces.{assigned_at}
use Rattle.hm_scan.proofs.attribute.assigned_value.Goals as goal

pub value_at-requires-clause-boundary : goal.value_at-requires-clause-boundary
value_at-requires-clause-boundary c =
    let s = c.args.bytes.now in let equals = c.run_end-equals.result in
    let is : get_or s equals 0 ≡ 61 = c.if-bytes-equals-ne61.false in
    let inside : equals ≤ length s = c.run_end-equals.ensures.inside in
    space_ends s (equals + 1) c.run_end.result c.requires.utf8 (IsCharBoundary-after_ascii s equals c.requires.utf8 (omega arith) (omega arith)) c.run_end.ensures

pub returns-clause-cut : goal.returns-clause-cut
returns-clause-cut c =
    let s = c.args.bytes.now in let equals = c.run_end-equals.result in
    let inside : equals ≤ length s = c.run_end-equals.ensures.inside in
    assigned_at s c.args.from equals c.run_end.result _ c.run_end-equals.ensures (omega arith) c.if-bytes-equals-ne61.false c.run_end.ensures c.value_at.ensures.cut
