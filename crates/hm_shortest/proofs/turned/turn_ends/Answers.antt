use Rattle.std.proofs.Common.{◌∙◌, reverse, ap}
use Rattle.hm_shortest.proofs.Ends.{ends_turned}
use Rattle.hm_shortest.proofs.turned.turn_ends.Goals as goal

pub returns : goal.returns
returns c =
    ends_turned c.args.bytes.now c.copy_from_slice-2.new.self c.copy_from_slice.new.self c.requires
    (c.copy_from_slice-2.ensures.after ∙ c.turned-front.ensures ∙ ap reverse c.eight_at.ensures) (c.copy_from_slice.ensures.after ∙ c.turned-last_turned.ensures ∙ ap reverse c.eight_at-2.ensures)
