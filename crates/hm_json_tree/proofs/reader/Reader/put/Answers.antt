use Rattle.std.proofs.Common.{refl, sym, ◌∙◌, arith}
use Rattle.hm_json_tree.specs.Forms.{told}
use Rattle.hm_json_tree.proofs.Taken.{has_room, goes_on, joins}
use Rattle.hm_json_tree.proofs.reader.Reader.put.Goals as goal

pub put_event-requires-clause-room : goal.put_event-requires-clause-room
put_event-requires-clause-room c =
    let old = c.args.self.now in
    let at = c.requires.at in
    let e = told old.path c.args.form.now in
    has_room old e at (c.requires.sound at.past at.seen at.path_is) c.if-self-ge-MOST_EVENTS.false (omega (arith, c.in_ok-bytes.ensures.sum old.path, c.in_ok-bytes.ensures.room, at.bytes))

pub put_event-requires-clause-apart : goal.put_event-requires-clause-apart
put_event-requires-clause-apart c =
    let old = c.args.self.now in
    let at = c.requires.at in
    joins old.path c.args.form.now at.past old.maker (c.requires.sound at.past at.seen at.path_is) at.path_is (sym at.seen.text ∙ at.last)

pub returns-clause-at : goal.returns-clause-at
returns-clause-at c =
    let old = c.args.self.now in
    let at = c.requires.at in
    let e = told old.path c.args.form.now in
    goes_on old e at (c.requires.sound at.past at.seen at.path_is) _ (c.after-seen.ensures at.past at.seen at.path_is) c.in_ok-put_event.ensures.maker c.in_ok-put_event.ensures.path (c.in_ok-bytes.ensures.sum old.path) c.in_ok-bytes.ensures.room refl c.if-self-ge-MOST_EVENTS.false
