use Rattle.std.proofs.Common.{refl, ap}
use Rattle.hm_options.specs.declared.attributes.Fate.TheVariants.{Emptied, LeftOut, Stays}
use Rattle.hm_options.proofs.Fates.{is_fated}
use Rattle.hm_options.proofs.attributes.change_attribute.Goals as goal

pub returns-in-Stays-clause-left : goal.returns-in-Stays-clause-left
returns-in-Stays-clause-left c = is_fated c.args.options.now Stays c.args.at c.args.editor.now.left c.args.editor.now.left (rw (c.in-Stays.is) at c.fate_of.ensures) refl

pub returns-in-Emptied-clause-left : goal.returns-in-Emptied-clause-left
returns-in-Emptied-clause-left c =
    is_fated c.args.options.now Emptied c.args.at c.args.editor.now.left c.leave_out_value.new.self.left (rw (c.in-Emptied.is) at c.fate_of.ensures) (ap (λ e. e.left) c.leave_out_value.ensures)

pub returns-in-LeftOut-clause-left : goal.returns-in-LeftOut-clause-left
returns-in-LeftOut-clause-left c =
    is_fated c.args.options.now LeftOut c.args.at c.args.editor.now.left c.leave_out_attribute.new.self.left (rw (c.in-LeftOut.is) at c.fate_of.ensures) (ap (λ e. e.left) c.leave_out_attribute.ensures)
