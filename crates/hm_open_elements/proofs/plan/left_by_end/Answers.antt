use Rattle.std.proofs.Common.{◌≡◌, true, false, bytes_eq, sym, ◌∙◌}
use Rattle.hm_open_elements.specs.Elements.{name_of}
use Rattle.hm_open_elements.proofs.Ends.{ends_there, ends_innermost, ends_further_out, ends_nowhere}
use Rattle.hm_open_elements.proofs.plan.left_by_end.Goals as goal

pub returns-then-same_name-clause-ok : goal.returns-then-same_name-clause-ok
returns-then-same_name-clause-ok c =
    let same : bytes_eq (name_of c.index-elements-elements.result.name) c.args.name.now ≡ true = cc in
    ends_innermost c.args.elements.now c.args.name.now c.index-elements-elements.result c.index-elements-elements.is c.requires.path same c.requires.name

pub returns-then-same_name-2-clause-ok : goal.returns-then-same_name-2-clause-ok
returns-then-same_name-2-clause-ok c =
    let same : bytes_eq (name_of c.index-elements-reached.result.name) c.args.name.now ≡ true = cc in
    ends_there c.args.elements.now c.args.name.now c.reached_by_end-reached.result c.index-elements-reached.result c.index-elements-reached.is c.requires.path c.reached_by_end-reached.ensures same c.requires.name

pub returns-then-is_open-clause-rule : goal.returns-then-is_open-clause-rule
returns-then-is_open-clause-rule c =
    let same : bytes_eq (name_of c.index-elements-reached.result.name) c.args.name.now ≡ false = cc in
    ends_further_out c.args.elements.now c.args.name.now c.reached_by_end-reached.result c.index-elements-reached.result c.index-elements-reached.is c.reached_by_end-reached.ensures same (sym c.is_open.ensures ∙ c.if-is_open.true)

pub returns-else-is_open-clause-rule : goal.returns-else-is_open-clause-rule
returns-else-is_open-clause-rule c =
    let same : bytes_eq (name_of c.index-elements-reached.result.name) c.args.name.now ≡ false = cc in
    ends_nowhere c.args.elements.now c.args.name.now c.reached_by_end-reached.result c.index-elements-reached.result c.index-elements-reached.is c.reached_by_end-reached.ensures same (sym c.is_open.ensures ∙ c.if-is_open.false)
