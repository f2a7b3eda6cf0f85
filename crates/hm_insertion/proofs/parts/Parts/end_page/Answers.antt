use Rattle.std.proofs.Common.{[], sym, subst, ◌∙◌}
use Rattle.hm_insertion.proofs.Over.{over_text, over, Over, finishes}
use Rattle.hm_insertion.proofs.parts.Parts.end_page.Goals as goal

pub returns-then-is_in_text-clause-err : goal.returns-then-is_in_text-clause-err
returns-then-is_in_text-clause-err c =
    let p = c.args.self.now in
    rw c.from.ensures (over_text p.maker p.path p.drops_line_feed p.comments_after_body p.comments_after_html p.insertion_mode (sym c.is_in_text.ensures ∙ c.if-is_in_text.true))

pub returns-in-Some-clause-err : goal.returns-in-Some-clause-err
returns-in-Some-clause-err c =
    let p = c.args.self.now in
    let no_text = sym c.is_in_text.ensures ∙ c.if-is_in_text.false in
    rw c.from-in-Some.ensures
    (subst (λ o. Over p.maker p.path p.drops_line_feed p.comments_after_body p.comments_after_html p.insertion_mode o) (sym c.in-Some.ensures) (over p.maker p.path p.drops_line_feed p.comments_after_body p.comments_after_html p.insertion_mode no_text c.requires.kept.fresh))

pub make_missing-requires-clause-room : goal.make_missing-requires-clause-room
make_missing-requires-clause-room c =
    let p = c.args.self.now in
    let no_text = sym c.is_in_text.ensures ∙ c.if-is_in_text.false in
    (finishes p [] no_text c.in_default.ensures c.requires.kept c.len-depth.ensures.begins c.requires.room).made_room

pub make_missing-requires-clause-open_there : goal.make_missing-requires-clause-open_there
make_missing-requires-clause-open_there c =
    let p = c.args.self.now in
    let no_text = sym c.is_in_text.ensures ∙ c.if-is_in_text.false in
    (finishes p [] no_text c.in_default.ensures c.requires.kept c.len-depth.ensures.begins c.requires.room).can

pub close_all-requires-clause-open_still : goal.close_all-requires-clause-open_still
close_all-requires-clause-open_still c =
    let p = c.args.self.now in
    let no_text = sym c.is_in_text.ensures ∙ c.if-is_in_text.false in
    rw c.in_ok-make_missing.ensures (finishes p [] no_text c.in_default.ensures c.requires.kept c.len-depth.ensures.begins c.requires.room).open_still

pub close_all-requires-clause-room : goal.close_all-requires-clause-room
close_all-requires-clause-room c =
    let p = c.args.self.now in
    let no_text = sym c.is_in_text.ensures ∙ c.if-is_in_text.false in
    rw (c.in_ok-make_missing.ensures, c.as_slice.ensures.value, c.as_slice-2.ensures.value) (finishes p [] no_text c.in_default.ensures c.requires.kept c.len-depth.ensures.begins c.requires.room).room

pub returns-clause-built : goal.returns-clause-built
returns-clause-built c =
    let p = c.args.self.now in
    let no_text = sym c.is_in_text.ensures ∙ c.if-is_in_text.false in
    let is = rw (c.in_ok-make_missing.ensures, c.as_slice.ensures.value, c.as_slice-2.ensures.value) at c.in_ok-close_all.ensures in
    (finishes p c.close_all.new.maker no_text c.in_default.ensures c.requires.kept c.len-depth.ensures.begins c.requires.room).built is

pub returns-clause-closed : goal.returns-clause-closed
returns-clause-closed c =
    let p = c.args.self.now in
    let no_text = sym c.is_in_text.ensures ∙ c.if-is_in_text.false in
    let is = rw (c.in_ok-make_missing.ensures, c.as_slice.ensures.value, c.as_slice-2.ensures.value) at c.in_ok-close_all.ensures in
    rw is (finishes p [] no_text c.in_default.ensures c.requires.kept c.len-depth.ensures.begins c.requires.room).closes
