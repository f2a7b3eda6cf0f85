use Rattle.std.proofs.Common.{length, sym, refl}
use Rattle.std.proofs.lemmas.List.{take_rest}
use Rattle.hm_cert.proofs.RuleLines.{strip_is}
use Rattle.hm_cert.proofs.lines.after.Goals as goal

pub returns-then-starts_with : goal.returns-then-starts_with
returns-then-starts_with c = rw (take_rest c.args.text.now (length c.args.word.now), strip_is c.args.word.now c.args.text.now, sym c.if-starts_with.ensures.value) refl

pub returns-else-starts_with : goal.returns-else-starts_with
returns-else-starts_with c = rw (strip_is c.args.word.now c.args.text.now, sym c.if-starts_with.ensures.value) refl
