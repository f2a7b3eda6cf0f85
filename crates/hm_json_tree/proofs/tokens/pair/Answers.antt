use Rattle.std.proofs.Common.{◌≡◌, ◌∷◌, Some, arith}
use Rattle.json.specs.Token.{Token}
use Rattle.json.specs.Json.{after_end_array}
use Rattle.hm_json_tree.proofs.ByTokens.{pair_read}
use Rattle.hm_json_tree.proofs.tokens.pair.Goals as goal

pub returns : goal.returns
returns c =
    let first : c.args.tokens.now ≡ Token.begin_array ∷ c.next.new.self = grind arith in
    let closed : after_end_array c.text-2.new.tokens ≡ Some c.take_end_array.new.self = grind arith in
    pair_read _ _ _ _ _ _ _ first c.in_ok-name.ensures c.in_ok-value.ensures closed
