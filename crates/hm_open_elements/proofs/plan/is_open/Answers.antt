use Rattle.std.proofs.Common.{◌≡◌, true, false, bytes_eq, sym, arith}
use Rattle.hm_open_elements.specs.Elements.{name_of}
use Rattle.hm_open_elements.proofs.Fronts.{found, not_found}
use Rattle.hm_open_elements.proofs.plan.is_open.Goals as goal

pub returns-then-eq : goal.returns-then-eq
returns-then-eq c =
    let same : bytes_eq (name_of c.index-elements-left.result.name) c.args.name.now ≡ true = cc in
    sym (found c.args.name.now c.args.elements.now c.loop-left.left c.index-elements-left.result c.index-elements-left.is (omega arith) c.loop-left.invariant same)

pub loop-left-preserved : goal.loop-left-preserved
loop-left-preserved c =
    let same : bytes_eq (name_of c.index-elements-left.result.name) c.args.name.now ≡ false = cc in
    not_found c.args.name.now c.args.elements.now c.loop-left.left c.index-elements-left.result c.index-elements-left.is (omega arith) c.loop-left.invariant same
