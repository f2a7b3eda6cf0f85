use Rattle.std.proofs.Common.{◌∙◌, arith}
use Rattle.std.proofs.lemmas.Slice.{put_mid-rotated}
use Rattle.hm_tree.proofs.MovedLemmas.{moved_removed}
use Rattle.hm_tree.proofs.table.move_last.Goals as goal

pub returns : goal.returns
returns c = put_mid-rotated _ _ _ _ (record { from = 0; middle = 0; to = 0 }) c.requires (omega (arith, c.requires)) c.rotate_left.ensures.after ∙ moved_removed _ _ _ c.requires
