use Rattle.std.proofs.Common.{◌≡◌, Some, None, [], arith}
use Rattle.json.specs.Json.{after_end_array}
use Rattle.hm_refs.proofs.ByTokens.{begins_shorter}
use Rattle.hm_json_tree.specs.Tokens.{PassesOne}
use Rattle.hm_json_tree.proofs.ByTokens.{all_passed, none_passed, one_passed, open_passed}
use Rattle.hm_json_tree.proofs.streamed.pass_events.Goals as goal

pub loop-alloc-init : goal.loop-alloc-init
loop-alloc-init c = none_passed c.args.tokens.now c.args.opened

pub loop-alloc-smaller : goal.loop-alloc-smaller
loop-alloc-smaller c =
    let going : (after_end_array c.loop-alloc.tokens ≡ None) × (c.take_end_array.new.self ≡ c.loop-alloc.tokens) = grind arith in
    let one : PassesOne c.loop-alloc.tokens c.loop-alloc.depth c.in-Some.next c.next_depth.new.tokens = rw (← going.1) (rw c.in-Some.is at c.in_ok-next.ensures) in
    omega (arith, begins_shorter 126 _ _ _ one.1)

pub loop-alloc-preserved : goal.loop-alloc-preserved
loop-alloc-preserved c =
    let going : (after_end_array c.loop-alloc.tokens ≡ None) × (c.take_end_array.new.self ≡ c.loop-alloc.tokens) = grind arith in
    let one : PassesOne c.loop-alloc.tokens c.loop-alloc.depth c.in-Some.next c.next_depth.new.tokens = rw (← going.1) (rw c.in-Some.is at c.in_ok-next.ensures) in
    one_passed _ _ _ _ _ _ c.loop-alloc.invariant one

pub returns-then-depth-gt0-clause-fault : goal.returns-then-depth-gt0-clause-fault
returns-then-depth-gt0-clause-fault c = λ _.
    let closed : after_end_array c.loop-alloc.tokens ≡ Some [] = grind arith in
    open_passed _ _ _ _ c.loop-alloc.invariant closed c.if-depth-gt0.true

pub returns-clause-ok : goal.returns-clause-ok
returns-clause-ok c = λ _.
    let closed : after_end_array c.loop-alloc.tokens ≡ Some [] = grind arith in
    all_passed _ _ _ _ c.loop-alloc.invariant closed (omega (arith, c.if-depth-gt0.false))
