use Rattle.std.proofs.Common.{◌++◌, ap, sym, ◌∙◌}
use Rattle.std.proofs.lemmas.List.{append-nil}
use Rattle.hm_options.proofs.Steps.{none_of}
use Rattle.hm_options.proofs.walk.put_seen.Goals as goal

pub returns-then-seen-clause-done : goal.returns-then-seen-clause-done
returns-then-seen-clause-done c =
    let none = c.seen_of-seen.ensures.same ∙ none_of c.args.text.now c.seen_of-seen.result.from c.seen_of-seen.result.to c.if-seen.true in
    ap (λ e. e.done) c.leave_out.ensures ∙ sym (ap (λ es. c.args.editor.now.done ++ es) none ∙ append-nil c.args.editor.now.done)
