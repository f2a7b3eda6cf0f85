use Rattle.std.proofs.Common.{sym, ◌∙◌}
use Rattle.std.proofs.lemmas.Result.{IfOk-weaker}
use Rattle.hm_json_tree.proofs.Taken.{attributes_other, start_in_form, none_asked, found_form}
use Rattle.hm_json_tree.proofs.reader.attributes_in.Goals as goal

pub returns-in-Start-clause-form : goal.returns-in-Start-clause-form
returns-in-Start-clause-form c =
    IfOk-weaker c.attributes_of.result _ _ (λ made h path. rw c.in-Start.is (found_form c.in-Start.attrs made h ∙ sym (start_in_form path c.in-Start.name c.in-Start.attrs))) c.attributes_of.ensures

pub returns-in_default : goal.returns-in_default
returns-in_default c = record {
  form = λ path. attributes_other path c.args.form.now c.in_default.not-Start;
  made = none_asked c.args.form.now c.new.result c.in_default.not-Start;
}
