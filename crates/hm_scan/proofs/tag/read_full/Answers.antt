use Rattle.std.proofs.Common.{◌≡◌, map, slice_range, string_bytes, ap, sym, ◌∙◌}
use Rattle.std.proofs.lemmas.Result.{err_from_is_err_and}
use Rattle.hm_base.specs.Bytes.{lower}
use Rattle.hm_scan.specs.Reading.{tag_fault}
use Rattle.hm_scan.proofs.Faults.{whole_is, whole_refused, body_refused}
use Rattle.hm_scan.proofs.tag.read_full.Goals as goal

pub returns-in_err-body-clause-err : goal.returns-in_err-body-clause-err
returns-in_err-body-clause-err c =
    let p = err_from_is_err_and c.from_residual.result c.from_residual.ensures.1 in
    rw (p.1, p.2) (λ never. body_refused c.args.text.now c.args.from c.args.end.to c.in_err-body.field-0.0 c.requires.end c.in_err-body.ensures.err never)

pub returns-in-Some-clause-err : goal.returns-in-Some-clause-err
returns-in-Some-clause-err c =
    let name = c.put_name.new.text in
    let is : string_bytes name ≡ map lower (slice_range c.args.text.now c.args.from c.args.end.to) = c.in_ok-put_name.ensures ∙ ap (map lower) c.range.ensures.value in
    λ never. whole_refused c.args.table.now.entries c.args.keeps c.args.text.now c.args.from c.args.end.to (string_bytes name) c.read_body.new.attrs c.in_ok-body.body c.in-Some.fault c.requires.end c.in_ok-body.ensures.ok is
    (λ written kept k. ap (λ n. tag_fault n written) (sym c.deref.ensures) ∙ sym (c.fault_of.ensures c.args.table.now.entries written kept k) ∙ c.in-Some.is)

pub returns-in-None-clause-ok : goal.returns-in-None-clause-ok
returns-in-None-clause-ok c =
    let name = c.put_name.new.text in
    let is : string_bytes name ≡ map lower (slice_range c.args.text.now c.args.from c.args.end.to) = c.in_ok-put_name.ensures ∙ ap (map lower) c.range.ensures.value in
    whole_is c.args.table.now.entries c.args.keeps c.args.text.now c.args.from c.args.end.to (record { name = name; attrs = c.read_body.new.attrs }) c.in_ok-body.body c.requires.end c.in_ok-body.ensures.ok is
    (λ written kept k. ap (λ n. tag_fault n written) (sym c.deref.ensures) ∙ sym (c.fault_of.ensures c.args.table.now.entries written kept k) ∙ c.in-None.is)
