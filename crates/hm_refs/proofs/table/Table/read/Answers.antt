use Rattle.std.proofs.Common.{sym, ◌∙◌}
use Rattle.std.proofs.lemmas.Result.{err_from_is_err_and, IfOk-weaker, IfErr-weaker}
use Rattle.hm_refs.proofs.Members.{json_ascends}
use Rattle.hm_refs.proofs.ReadingLaws.{too_long, names_by_members, no_object, no_json}
use Rattle.hm_refs.proofs.table.Table.read.Goals as goal

pub returns-then-bytes-clause-fault :
    goal.returns-then-bytes-clause-fault
returns-then-bytes-clause-fault c = λ _. too_long c.args.bytes.now c.if-bytes.true

pub returns-in_err-value-clause-fault : goal.returns-in_err-value-clause-fault
returns-in_err-value-clause-fault c =
    let p = err_from_is_err_and c.from_residual.result c.from_residual.ensures.1 in
    rw (p.1, p.2) (λ m. let f = c.in_err-value.ensures.fault m in no_json c.args.bytes.now c.in_err-value.field-0.0 c.if-bytes.false f.0 f.1)

pub returns-in-Some-clause-ok : goal.returns-in-Some-clause-ok
returns-in-Some-clause-ok c = IfOk-weaker c.checked.result _ _ (λ table h. c.in-Some.ensures.names ∙ h) c.checked.ensures.ok

pub returns-in-Some-clause-fault : goal.returns-in-Some-clause-fault
returns-in-Some-clause-fault c = IfErr-weaker c.checked.result _ _ (λ fault h m. c.in-Some.ensures.names ∙ h m) c.checked.ensures.fault

pub of_members-requires : goal.of_members-requires
of_members-requires c = json_ascends c.args.bytes.now _ _ c.in_ok-value.ensures.ok (sym c.in-Some-as_object.ensures)

pub returns-in-Some-as_object-clause-ok : goal.returns-in-Some-as_object-clause-ok
returns-in-Some-as_object-clause-ok c =
    IfOk-weaker c.of_members.result _ _ (λ table h. names_by_members c.args.bytes.now _ _ _ c.if-bytes.false c.in_ok-value.ensures.ok c.in-Some-as_object.ensures h) c.of_members.ensures.ok

pub returns-in-Some-as_object-clause-fault : goal.returns-in-Some-as_object-clause-fault
returns-in-Some-as_object-clause-fault c =
    IfErr-weaker c.of_members.result _ _ (λ fault h m. names_by_members c.args.bytes.now _ _ _ c.if-bytes.false c.in_ok-value.ensures.ok c.in-Some-as_object.ensures (h m)) c.of_members.ensures.fault

pub returns-clause-fault : goal.returns-clause-fault
returns-clause-fault c = λ _. no_object c.args.bytes.now _ c.if-bytes.false c.in_ok-value.ensures.ok c.in-None.ensures
