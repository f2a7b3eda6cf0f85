use Rattle.std.proofs.Common.{None, [], ◌∙◌}
use Rattle.std.proofs.lemmas.Result.{err_from_is_err_and}
use Rattle.hm_json_tree.proofs.Read.{read_is_settled}
use Rattle.hm_json_tree.proofs.Whole.{walk_by_json, walk_by_array, sound_utf8}
use Rattle.hm_json_tree.proofs.reading.read_value.Goals as goal

pub returns-in_err-value-clause-fault : goal.returns-in_err-value-clause-fault
returns-in_err-value-clause-fault c =
    let p = err_from_is_err_and c.from_residual.result c.from_residual.ensures.1 in
    rw (p.1, p.2) (λ m. let f = c.in_err-value.ensures.fault m in rw f.0 (walk_by_json c.args.bytes.now c.requires None f.1))

pub returns-in_err-tree-in-Some-clause-fault : goal.returns-in_err-tree-in-Some-clause-fault
returns-in_err-tree-in-Some-clause-fault c =
    let p = err_from_is_err_and c.from_residual-in_err-tree-in-Some.result c.from_residual-in_err-tree-in-Some.ensures.1 in
    rw (p.1, p.2) (λ m. walk_by_array c.args.bytes.now c.requires _ _ c.in_ok-value.ensures.ok c.in-Some.ensures ∙ (rw c.deref.ensures.value at (c.in_err-tree-in-Some.ensures.fault m)))

pub returns-in-Some-clause-tree : goal.returns-in-Some-clause-tree
returns-in-Some-clause-tree c = walk_by_array c.args.bytes.now c.requires _ _ c.in_ok-value.ensures.ok c.in-Some.ensures ∙ (rw c.deref.ensures.value at c.in_ok-tree-in-Some.ensures.tree)

pub returns-in-Some-clause-settled : goal.returns-in-Some-clause-settled
returns-in-Some-clause-settled c =
    let read = walk_by_array c.args.bytes.now c.requires _ _ c.in_ok-value.ensures.ok c.in-Some.ensures ∙ (rw c.deref.ensures.value at c.in_ok-tree-in-Some.ensures.tree) in
    read_is_settled c.args.bytes.now c.in_ok-tree-in-Some.tree read (sound_utf8 [] c.in_ok-tree-in-Some.tree c.len-len.ensures.walk.sound)

pub returns-clause-fault : goal.returns-clause-fault
returns-clause-fault c = λ _. walk_by_array c.args.bytes.now c.requires _ _ c.in_ok-value.ensures.ok c.in-None.ensures
