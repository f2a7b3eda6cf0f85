use Rattle.std.proofs.Common.{◌≡◌, ◌++◌, ◌∷◌, [], true}
use Rattle.hm_base.specs.Walks.{text}
use Rattle.hm_elements.specs.Paths.{is_in_raw}
use Rattle.hm_tree.specs.Trees.{HasRoom}
use Rattle.hm_json_tree.specs.Forms.{may_join}
use Rattle.hm_json_tree.specs.declared.form.JsonEvent.TheVariants.{Text}
use Rattle.hm_json_tree.proofs.Taken.{text_joins, text_pushed, raw_agrees}
use Rattle.hm_json_tree.proofs.reader.put_event.Goals as goal

pub text-requires-clause-room : goal.text-requires-clause-room
text-requires-clause-room c =
    let apart : may_join (Text c.in-Text.text) c.args.maker.now ≡ true = rw c.in-Text.is at c.requires.apart in
    let room : HasRoom (c.args.maker.now ++ text c.in-Text.text.now (is_in_raw c.args.path.now) ∷ []) = rw c.in-Text.is at c.requires.room in
    rw (text_pushed c.in-Text.text c.is_in_raw.result c.args.maker.now apart, c.is_in_raw.ensures) room

pub text-requires-clause-same_raw : goal.text-requires-clause-same_raw
text-requires-clause-same_raw c =
    let apart : may_join (Text c.in-Text.text) c.args.maker.now ≡ true = rw c.in-Text.is at c.requires.apart in
    raw_agrees c.args.maker.now c.is_in_raw.result (text_joins c.in-Text.text c.args.maker.now apart).1

pub returns-in_ok-text-in-Text-clause-maker : goal.returns-in_ok-text-in-Text-clause-maker
returns-in_ok-text-in-Text-clause-maker c =
    let apart : may_join (Text c.in-Text.text) c.args.maker.now ≡ true = rw c.in-Text.is at c.requires.apart in
    rw c.in-Text.is (rw (text_pushed c.in-Text.text c.is_in_raw.result c.args.maker.now apart, c.is_in_raw.ensures) at c.in_ok-text-in-Text.ensures.ok)
