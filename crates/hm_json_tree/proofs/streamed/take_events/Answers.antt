use Rattle.std.proofs.Common.{◌≡◌, Some, None, [], sym, ap, ◌∙◌, arith}
use Rattle.std.proofs.lemmas.Result.{err_from_is_err_and}
use Rattle.json.specs.Json.{after_end_array}
use Rattle.hm_json_tree.specs.Tokens.{IsRead}
use Rattle.hm_json_tree.proofs.ByTokens.{none_read, read_ends}
use Rattle.hm_json_tree.proofs.streamed.take_events.Goals as goal

pub loop-alloc-init : goal.loop-alloc-init
loop-alloc-init c = (c.requires.at, rw (c.requires.none, c.requires.top) (none_read c.args.tokens.now))

pub loop-alloc-preserved : goal.loop-alloc-preserved
loop-alloc-preserved c =
    let going : (after_end_array c.loop-alloc.tokens ≡ None) × (c.take_end_array.new.self ≡ c.loop-alloc.tokens) = rw c.loop-alloc-test.true at c.take_end_array.ensures in
    let r : IsRead c.args.tokens.now c.loop-alloc.reader.maker c.loop-alloc.reader.path c.take_end_array.new.self = rw going.1 c.loop-alloc.invariant.1 in
    let e = c.in_ok-read_event.ensures in
    (e.at c.if-not-branch.false, e.read c.if-not-branch.false c.args.tokens.now r)

pub returns-in_err-read_event-clause-fault : goal.returns-in_err-read_event-clause-fault
returns-in_err-read_event-clause-fault c =
    let going : (after_end_array c.loop-alloc.tokens ≡ None) × (c.take_end_array.new.self ≡ c.loop-alloc.tokens) = rw c.loop-alloc-test.true at c.take_end_array.ensures in
    let r : IsRead c.args.tokens.now c.loop-alloc.reader.maker c.loop-alloc.reader.path c.take_end_array.new.self = rw going.1 c.loop-alloc.invariant.1 in
    let p = err_from_is_err_and c.from_residual.result c.from_residual.ensures.1 in
    rw (p.1, p.2) (λ m. c.in_err-read_event.ensures.fault m c.args.tokens.now r)

pub returns-clause-at : goal.returns-clause-at
returns-clause-at c = λ _. c.loop-alloc.invariant.0

pub returns-clause-read : goal.returns-clause-read
returns-clause-read c = λ ends w is.
    let bracket : after_end_array c.loop-alloc.tokens ≡ Some c.take_end_array.new.self = rw c.loop-alloc-test.false at c.take_end_array.ensures in
    let closed : after_end_array c.loop-alloc.tokens ≡ Some [] = bracket ∙ ap Some (c.is_at_end.ensures ends) in
    read_ends _ _ c.loop-alloc.reader.maker c.loop-alloc.reader.path w c.loop-alloc.invariant.1 closed is
