use Rattle.std.proofs.lemmas.Result.{IfOk-weaker}
use Rattle.hm_minify.specs.Endings.{page_name}
use Rattle.hm_input.specs.Inputs.{tree}
use Rattle.hm_words.specs.Answers.{request_of}
use Rattle.hm_minify.proofs.Answered.{answer_before, asked_seen, if_both, work_apart}
use Rattle.hm_minify.proofs.Explaining.{without_tree_seen}
use Rattle.hm_minify.proofs.work.work_plain.Goals as goal

pub returns-in_ok-wanted-in-Ok-clause-ended : goal.returns-in_ok-wanted-in-Ok-clause-ended
returns-in_ok-wanted-in-Ok-clause-ended g c =
    let told = g.S.Store.files c.args.store.now in
    let request = request_of c.args.asked.now in
    let made = c.in_ok-wanted-in-Ok.field-0 in
    IfOk-weaker c.answer.result _ _
    (λ ended e. asked_seen told request (tree c.in-Ok.input.bytes c.in-Ok.input.table.entries c.in-Ok.input.tree) made.bytes made.table.entries made.tree ended (work_apart request.origin request.work c.requires.apart)
    c.in-Ok.ensures.ok c.in_ok-wanted-in-Ok.ensures.wanted (answer_before told _ (page_name request.origin) request.work request.writing made.bytes made.table.entries made.tree ended c.in-Ok.ensures.same e.0) (c.in_ok-wanted-in-Ok.ensures.settled, e.1))
    (if_both c.answer.result _ _ c.answer.ensures.ended c.answer.ensures.readable)

pub returns-in-Err-clause-ended : goal.returns-in-Err-clause-ended
returns-in-Err-clause-ended g c =
    let told = g.S.Store.files c.args.store.now in
    let request = request_of c.args.asked.now in
    IfOk-weaker c.without_tree.result _ _
    (λ ended said. without_tree_seen told request c.in-Err.unread ended c.requires.plain c.in-Err.ensures.err said)
    c.without_tree.ensures.said
