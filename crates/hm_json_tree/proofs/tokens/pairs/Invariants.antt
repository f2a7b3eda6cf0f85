use Rattle.std.proofs.Common.{◌++◌, List, length, map}
use Rattle.json.specs.Token.{Token}
use Rattle.hm_base.specs.Walks.{Attribute}
use Rattle.hm_json_tree.specs.Pairs.{text_attribute}
use Rattle.hm_json_tree.specs.Reading.{attributes_data}
use Rattle.hm_json_tree.specs.Tokens.{Lists}
use Rattle.hm_json_tree.proofs.tokens.pairs.Given as goal

abbrev pub invariant-loop-tokens : goal.invariant-loop-tokens
invariant-loop-tokens l = (rest : List Attribute) (new : List Token) → Lists 124 l.tokens (attributes_data rest) new → Lists 124 l.initial.tokens (attributes_data (map text_attribute l.found.items ++ rest)) new

abbrev pub decreases-loop-tokens : goal.decreases-loop-tokens
decreases-loop-tokens l = length l.tokens
