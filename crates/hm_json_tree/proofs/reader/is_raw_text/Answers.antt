use Rattle.std.proofs.Common.{sym}
use Rattle.hm_elements.specs.Paths.{is_in_raw}
use Rattle.hm_json_tree.proofs.Taken.{raw_other, not_raw}
use Rattle.hm_json_tree.proofs.reader.is_raw_text.Goals as goal

pub returns-else-is_in_raw : goal.returns-else-is_in_raw
returns-else-is_in_raw c = rw c.in-Text.is (not_raw c.args.path.now c.in-Text.text.now (is_in_raw c.args.path.now) (sym c.if-is_in_raw.ensures))

pub returns-in_default : goal.returns-in_default
returns-in_default c = raw_other c.args.path.now c.args.form.now c.in_default.not-Text
