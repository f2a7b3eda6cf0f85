use Rattle.std.proofs.Common.{sym}
use Rattle.std.proofs.lemmas.List.{take_rest}
use Rattle.hm_lexer.proofs.EmptyTags.{passed_more}
use Rattle.hm_lexer.proofs.ordinary.after_empty_tags.Goals as goal

pub loop-bytes-preserved : goal.loop-bytes-preserved
loop-bytes-preserved c =
    passed_more c.args.text.now c.args.at c.loop-bytes.from c.utf8.text c.loop-bytes.invariant
    (sym (rw (c.as_bytes-bytes.ensures.value, take_rest c.args.text.now c.loop-bytes.from) at c.loop-bytes-test.ensures))
