use Rattle.std.proofs.Common.{◌≡◌, ◌∷◌, ◌++◌, [], Some, None, arith, append-nil}
use Rattle.json.specs.Token.{Token}
use Rattle.json.specs.Json.{after_end_array}
use Rattle.hm_refs.proofs.ByTokens.{begins_shorter}
use Rattle.hm_json_tree.specs.Pairs.{text_attribute}
use Rattle.hm_json_tree.specs.Tokens.{IsPair}
use Rattle.hm_json_tree.proofs.ByTokens.{array_begins, list_ends, list_more, pushed}
use Rattle.hm_json_tree.proofs.tokens.pairs.Goals as goal

pub loop-tokens-init : goal.loop-tokens-init
loop-tokens-init c = λ rest new l. rw c.new-found.ensures.items l

pub loop-tokens-smaller : goal.loop-tokens-smaller
loop-tokens-smaller c =
    let going : (after_end_array c.loop-tokens.tokens ≡ None) × (c.take_end_array.new.self ≡ c.loop-tokens.tokens) = grind arith in
    let b : IsPair c.loop-tokens.tokens (text_attribute c.in_ok-read.read) c.pair.new.tokens = rw (← going.1) c.in_ok-read.ensures in
    omega (arith, begins_shorter 124 _ _ _ b)

pub loop-tokens-preserved : goal.loop-tokens-preserved
loop-tokens-preserved c =
    let going : (after_end_array c.loop-tokens.tokens ≡ None) × (c.take_end_array.new.self ≡ c.loop-tokens.tokens) = grind arith in
    let b : IsPair c.loop-tokens.tokens (text_attribute c.in_ok-read.read) c.pair.new.tokens = rw (← going.1) c.in_ok-read.ensures in
    let all : c.push.new.self.items ≡ c.loop-tokens.found.items ++ c.in_ok-read.read ∷ [] = grind arith in
    λ rest new l.
    rw (all, pushed c.loop-tokens.found.items c.in_ok-read.read rest) (c.loop-tokens.invariant (text_attribute c.in_ok-read.read ∷ rest) new (list_more 124 _ _ new _ _ b l))

pub returns : goal.returns
returns c =
    let first : c.args.tokens.now ≡ Token.begin_array ∷ c.next.new.self = grind arith in
    let closed : after_end_array c.loop-tokens.tokens ≡ Some c.take_end_array.new.self = grind arith in
    let all = c.loop-tokens.invariant [] _ (list_ends 124 _ _ closed) in
    array_begins 125 _ _ _ _ first (omega arith) (rw append-nil at all)
