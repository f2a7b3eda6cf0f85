use Rattle.std.proofs.Common.{◌≡◌, true, false, codes, drop, sym, refl}
use Rattle.std.proofs.lemmas.List.{take_rest}
use Rattle.hm_scan.specs.Comments.{begins}
use Rattle.hm_scan.proofs.CommentEnds.{question_piece, dashes_piece, bogus_piece, starts_after}
use Rattle.hm_scan.proofs.comments.comment_piece.Goals as goal

pub returns-then-begins_with-clause-found : goal.returns-then-begins_with-clause-found
returns-then-begins_with-clause-found c =
    question_piece c.args.bytes.now c.args.start c.up_to_greater.result (sym (rw (take_rest c.args.bytes.now c.args.start) at c.if-begins_with.ensures)) c.up_to_greater.ensures

pub returns-then-begins_with-clause-from : goal.returns-then-begins_with-clause-from
returns-then-begins_with-clause-from c =
    let s = c.args.bytes.now in
    let question : begins (codes "<?") (drop c.args.start s) ≡ true = sym (rw (take_rest s c.args.start) at c.if-begins_with.ensures) in
    starts_after s c.args.start 1 _ c.up_to_greater.result c.up_to_greater.ensures (rw question refl)

pub returns-then-begins_with-2-clause-found : goal.returns-then-begins_with-2-clause-found
returns-then-begins_with-2-clause-found c =
    let s = c.args.bytes.now in
    dashes_piece s c.args.start c.comment_text.result (sym (rw (take_rest s c.args.start) at c.if-begins_with.ensures)) (sym (rw (take_rest s c.args.start) at c.if-begins_with-2.ensures)) c.comment_text.ensures

pub returns-then-begins_with-2-clause-from : goal.returns-then-begins_with-2-clause-from
returns-then-begins_with-2-clause-from c =
    let s = c.args.bytes.now in
    let question : begins (codes "<?") (drop c.args.start s) ≡ false = sym (rw (take_rest s c.args.start) at c.if-begins_with.ensures) in
    let dashes : begins (codes "<!--") (drop c.args.start s) ≡ true = sym (rw (take_rest s c.args.start) at c.if-begins_with-2.ensures) in
    starts_after s c.args.start 4 _ c.comment_text.result c.comment_text.ensures (rw (question, dashes) refl)

pub returns-clause-found : goal.returns-clause-found
returns-clause-found c =
    let s = c.args.bytes.now in
    bogus_piece s c.args.start c.up_to_greater-2.result c.requires.begins (sym (rw (take_rest s c.args.start) at c.if-begins_with.ensures)) (sym (rw (take_rest s c.args.start) at c.if-begins_with-2.ensures)) c.up_to_greater-2.ensures

pub returns-clause-from : goal.returns-clause-from
returns-clause-from c =
    let s = c.args.bytes.now in
    let question : begins (codes "<?") (drop c.args.start s) ≡ false = sym (rw (take_rest s c.args.start) at c.if-begins_with.ensures) in
    let dashes : begins (codes "<!--") (drop c.args.start s) ≡ false = sym (rw (take_rest s c.args.start) at c.if-begins_with-2.ensures) in
    starts_after s c.args.start 2 _ c.up_to_greater-2.result c.up_to_greater-2.ensures (rw (question, dashes) refl)
