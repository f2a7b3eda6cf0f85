use Rattle.std.proofs.Common.{◌≡◌, true, subst}
use Rattle.std.proofs.lemmas.Result.{IfOk-weaker}
use Rattle.hm_base.proofs.Bytes.{first_true}
use Rattle.hm_words.specs.Answers.{request_of}
use Rattle.hm_words.specs.Words.{is_origin_apart}
use Rattle.hm_minify.proofs.Explaining.{without_table_seen}
use Rattle.hm_minify.proofs.work.work_explained.Goals as goal

pub returns-in-Err-clause-ended : goal.returns-in-Err-clause-ended
returns-in-Err-clause-ended g c =
    let told = g.S.Store.files c.args.store.now in
    let request = request_of c.args.asked.now in
    let apart = subst (λ origin. is_origin_apart origin ≡ true) c.requires.origin (first_true _ _ c.requires.apart) in
    IfOk-weaker c.without_tree.result _ _
    (λ ended said. without_table_seen told request c.args.table.now c.args.page.now c.in-Err.unread ended c.requires.origin apart c.in-Err.ensures.err said)
    c.without_tree.ensures.said
