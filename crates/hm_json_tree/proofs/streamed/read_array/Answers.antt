use Rattle.std.proofs.Common.{◌≡◌, ◌∷◌, sym, ◌∙◌, arith}
use Rattle.std.proofs.lemmas.Result.{err_from_is_err_and}
use Rattle.json.specs.Token.{Token}
use Rattle.hm_json_tree.proofs.streamed.read_array.Goals as goal

pub returns-in_err-tree-clause-fault : goal.returns-in_err-tree-clause-fault
returns-in_err-tree-clause-fault c =
    let first : c.args.tokens.now ≡ Token.begin_array ∷ c.next.new.self = grind arith in
    let p = err_from_is_err_and c.from_residual.result c.from_residual.ensures.1 in
    rw (p.1, p.2) (λ m. (c.next.new.self, first, c.in_err-tree.ensures.fault m))

pub returns-clause-tree : goal.returns-clause-tree
returns-clause-tree c =
    let first : c.args.tokens.now ≡ Token.begin_array ∷ c.next.new.self = grind arith in
    (c.next.new.self, first, rw c.in-Some.is at c.in_ok-tree.ensures.tree, c.len-len.ensures.walk.sound)
