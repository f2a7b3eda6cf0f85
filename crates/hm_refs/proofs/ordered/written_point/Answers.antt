use Rattle.std.proofs.Common.{◌≡◌, Some}
use Rattle.serde_json.specs.Data.{unsigned}
use Rattle.serde_json.specs.Read.{number_of}
use Rattle.hm_refs.proofs.ByTokens.{number_read, point_read}
use Rattle.hm_refs.proofs.ordered.written_point.Goals as goal

pub returns : goal.returns
returns c =
    let read = rw c.scan.ensures.parts at c.in_ok-to_u64.ensures in
    let written : number_of c.args.text.now ≡ Some (unsigned c.in_ok-to_u64.field-0) = rw read.1 (number_read c.args.text.now c.if-text-eq45.false read.0.0 read.0.1) in
    point_read c.args.text.now c.in_ok-to_u64.field-0 _ written c.point_of.ensures
