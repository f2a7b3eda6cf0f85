use Rattle.std.proofs.Common.{◌+◌, drop, sym}
use Rattle.hm_lexer.specs.Reading.{markup_front}
use Rattle.hm_lexer.proofs.Fronts.{at_each, at_each_with}
use Rattle.hm_lexer.proofs.Markup.{comment_begins}
use Rattle.hm_lexer.proofs.ordinary.scan_markup.Goals as goal

pub scan_comment-requires-clause-begins : goal.scan_comment-requires-clause-begins
scan_comment-requires-clause-begins c =
    comment_begins (drop c.args.at c.args.text.now) c.requires.begins c.requires.real (sym c.if-begins_tag.ensures) (sym c.if-begins_doctype.ensures)

pub returns-then-begins_tag-clause-placed : goal.returns-then-begins_tag-clause-placed
returns-then-begins_tag-clause-placed c = at_each c.scan_tag_into.result c.scan_tag_into.new.tag (c.args.at + markup_front c.args.foreign (drop c.args.at c.args.text.now)) c.scan_tag_into.ensures.placed

pub returns-then-begins_doctype-clause-placed : goal.returns-then-begins_doctype-clause-placed
returns-then-begins_doctype-clause-placed c = at_each_with c.placed.result c.placed.new.tag (c.args.at + markup_front c.args.foreign (drop c.args.at c.args.text.now)) (rw c.placed.ensures at c.scan_doctype.ensures.placed)
