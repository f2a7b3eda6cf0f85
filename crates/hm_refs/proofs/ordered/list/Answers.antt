use Rattle.std.proofs.Common.{◌≡◌, ◌∷◌, Some, arith}
use Rattle.json.specs.Token.{Token}
use Rattle.json.specs.Json.{after_end_array}
use Rattle.hm_refs.proofs.ByTokens.{one_point, two_points}
use Rattle.hm_refs.proofs.ordered.list.Goals as goal

pub returns-then-take_end_array : goal.returns-then-take_end_array
returns-then-take_end_array c =
    let first : c.args.reader.now ≡ Token.begin_array ∷ c.next.new.self = grind arith in
    let closed : after_end_array c.point.new.reader ≡ Some c.take_end_array.new.self = grind arith in
    one_point _ _ _ _ _ first c.in_ok-first.ensures closed

pub returns : goal.returns
returns c =
    let first : c.args.reader.now ≡ Token.begin_array ∷ c.next.new.self = grind arith in
    let stays : c.take_end_array.new.self ≡ c.point.new.reader = grind arith in
    let closed : after_end_array c.point-2.new.reader ≡ Some c.take_end_array-2.new.self = grind arith in
    two_points _ _ _ _ _ _ _ first c.in_ok-first.ensures (rw stays at c.in_ok-second.ensures) closed
