use Rattle.std.proofs.Common.{◌+◌, ◌++◌, ◌∷◌, [], length, sym, ap, ◌∙◌, arith}
use Rattle.std.proofs.lemmas.Result.{err_from_is_err_and}
use Rattle.std.proofs.lemmas.List.{length_push}
use Rattle.hm_base.specs.Walks.{path_after_event}
use Rattle.hm_json_tree.specs.Forms.{told}
use Rattle.hm_json_tree.specs.Progress.{fault_walk, AreListed}
use Rattle.hm_json_tree.specs.Reading.{of_listed}
use Rattle.hm_json_tree.proofs.Whole.{read_bad, read_more, read_broken}
use Rattle.hm_json_tree.proofs.reading.take_item.Goals as goal

pub returns-in_default-clause-fault : goal.returns-in_default-clause-fault
returns-in_default-clause-fault c = λ m.
    read_bad c.args.items.now c.args.i c.args.reader.now.maker c.args.reader.now.path c.requires.listed c.index-items-i.result c.index-items-i.is c.requires.inside c.in_default.ensures.event ∙ sym (ap fault_walk (c.bad_event.ensures m))

pub returns-in_err-follow-clause-fault : goal.returns-in_err-follow-clause-fault
returns-in_err-follow-clause-fault c =
    let p = err_from_is_err_and c.from_residual-in_err-follow.result c.from_residual-in_err-follow.ensures.1 in
    let t = rw c.in-Some-2.is at c.in_ok-point.ensures in
    rw (p.1, p.2) (λ m. ap of_listed c.requires.listed ∙ c.in_err-follow.ensures.fault m c.args.reader.now.maker c.args.reader.now.path (omega (arith, c.len.ensures, ap length t.0)))

pub returns-in-Some-2-clause-fault : goal.returns-in-Some-2-clause-fault
returns-in-Some-2-clause-fault c = λ m.
    let t = rw c.in-Some-2.is at c.in_ok-point.ensures in
    let all = c.in_ok-follow.ensures.ok c.args.reader.now.path (omega (arith, c.len.ensures, ap length t.0)) in
    read_broken c.args.items.now c.args.i c.args.reader.now.maker c.args.reader.now.path c.requires.listed c.index-items-i.result (told c.args.reader.now.path c.in-Some.form) c.in-Some-2.point c.index-items-i.is c.requires.inside c.in-Some.ensures.event c.requires.count t.1 all.0 all.1
    ∙ sym (ap fault_walk (c.not_settled.ensures m))

pub returns-clause-at : goal.returns-clause-at
returns-clause-at c = let t = rw c.in_default-2.is at c.in_ok-point.ensures in t.0

pub returns-clause-count : goal.returns-clause-count
returns-clause-count c =
    let r = c.args.reader.now in
    let t = rw c.in_default-2.is at c.in_ok-point.ensures in
    omega (arith, c.requires.count, ap length t.1, length_push r.maker (told r.path c.in-Some.form))

pub returns-clause-listed : goal.returns-clause-listed
returns-clause-listed c =
    let vs = c.args.items.now in
    let r = c.args.reader.now in
    let e = told r.path c.in-Some.form in
    let t = rw c.in_default-2.is at c.in_ok-point.ensures in
    let more : AreListed vs (c.args.i + 1) (r.maker ++ e ∷ []) (path_after_event r.path e) = read_more vs c.args.i r.maker r.path c.requires.listed c.index-items-i.result e c.index-items-i.is c.requires.inside c.in-Some.ensures.event in
    rw (t.1, t.2) more
