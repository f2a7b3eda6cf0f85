use Rattle.std.proofs.Common.{sym, ◌∙◌}
use Rattle.hm_insertion.proofs.BeforeBody.{not_begun, body_refused}
use Rattle.hm_insertion.proofs.parts.Parts.open_body.Goals as goal

pub open_body_here-requires-clause-unbegun : goal.open_body_here-requires-clause-unbegun
open_body_here-requires-clause-unbegun c =
    let p = c.args.self.now in
    not_begun p.maker p.path p.drops_line_feed p.comments_after_body p.comments_after_html p.insertion_mode (sym c.has_begun.ensures ∙ c.if-has_begun.false) c.requires.not_text

pub returns-then-has_begun : goal.returns-then-has_begun
returns-then-has_begun c =
    let p = c.args.self.now in
    rw c.from.ensures (body_refused p.maker p.path p.drops_line_feed p.comments_after_body p.comments_after_html c.args.attrs.now p.insertion_mode (sym c.has_begun.ensures ∙ c.if-has_begun.true) c.requires.not_text)
