use Rattle.std.proofs.Common.{arith}
use Rattle.std.proofs.lemmas.Result.{err_from_is_err_and}
use Rattle.hm_json_tree.proofs.ByTokens.{one_read, read_breaks, read_fails, told_depth, told_is}
use Rattle.hm_json_tree.proofs.streamed.take_form.Goals as goal

pub returns-in_default-2-clause-read : goal.returns-in_default-2-clause-read
returns-in_default-2-clause-read c = λ _ all before item r.
    let path = c.args.reader.now.path in
    let m = rw c.in-Some.is at (c.in_ok-opened.ensures path (omega (arith, c.len.ensures))) in
    let t = rw c.in_default-2.is at c.in_ok-point.ensures in
    rw (t.1, t.2) (one_read all _ _ c.args.reader.now.maker path r c.args.form.now _ item (told_is path c.args.form.now m.0 m.1))

pub returns-in_err-pass_events-clause-fault : goal.returns-in_err-pass_events-clause-fault
returns-in_err-pass_events-clause-fault c =
    let path = c.args.reader.now.path in
    let form = c.args.form.now in
    let m = rw c.in-Some.is at (c.in_ok-opened.ensures path (omega (arith, c.len.ensures))) in
    let p = err_from_is_err_and c.from_residual-in_err-pass_events.result c.from_residual-in_err-pass_events.ensures.1 in
    rw (p.1, p.2) (λ memory all before item r. read_fails all _ _ c.args.reader.now.maker path r form _ item (told_is path form m.0 m.1) c.in-Some.opened _ (told_depth path form m.0 _ m.1 m.2) (c.in_err-pass_events.ensures.fault memory))

pub returns-then-branch-clause-fault : goal.returns-then-branch-clause-fault
returns-then-branch-clause-fault c = λ _ all before item r.
    let path = c.args.reader.now.path in
    let form = c.args.form.now in
    let m = rw c.in-Some.is at (c.in_ok-opened.ensures path (omega (arith, c.len.ensures))) in
    let t = rw c.in-Some-2.is at c.in_ok-point.ensures in
    rw c.requires.count (read_breaks all _ _ c.args.reader.now.maker path r form _ item (told_is path form m.0 m.1) c.in-Some-2.point c.in-Some.opened t.1 (told_depth path form m.0 _ m.1 m.2) (c.in_ok-pass_events.ensures.ok c.if-branch.true))
