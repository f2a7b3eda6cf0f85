use Rattle.std.proofs.Common.{◌<◌, ◌+◌, ◌∷◌, [], length, ap, ◌∙◌, arith}
use Rattle.hm_base.specs.declared.limits.TheConstants.{DEPTH_LIMIT}
use Rattle.hm_elements.specs.Names.{tbody, tr, colgroup}
use Rattle.hm_elements.specs.Paths.{html_element}
use Rattle.hm_open_elements.proofs.Kept.{length-made, path_of-pushed, IsRoomy-pushed}
use Rattle.hm_open_elements.proofs.path.make.Goals as goal

pub returns-in-Section-clause-path : goal.returns-in-Section-clause-path
returns-in-Section-clause-path c =
    rw c.in-Section.is (path_of-pushed c.args.elements.now.items c.push_made.new.elements.items (html_element tbody) c.push_made.ensures.pushed)

pub returns-in-Row-clause-path : goal.returns-in-Row-clause-path
returns-in-Row-clause-path c =
    rw c.in-Row.is (path_of-pushed c.args.elements.now.items c.push_made-in-Row.new.elements.items (html_element tr) c.push_made-in-Row.ensures.pushed)

pub returns-in-Colgroup-clause-path : goal.returns-in-Colgroup-clause-path
returns-in-Colgroup-clause-path c =
    rw c.in-Colgroup.is (path_of-pushed c.args.elements.now.items c.push_made-in-Colgroup.new.elements.items (html_element colgroup) c.push_made-in-Colgroup.ensures.pushed)

pub returns-in-SectionAndRow-clause-path : goal.returns-in-SectionAndRow-clause-path
returns-in-SectionAndRow-clause-path c =
    rw c.in-SectionAndRow.is
    (path_of-pushed c.push_made-in-SectionAndRow.new.elements.items c.push_made-in-SectionAndRow-2.new.elements.items (html_element tr) c.push_made-in-SectionAndRow-2.ensures.pushed
    ∙ ap (λ x. html_element tr ∷ x) (path_of-pushed c.args.elements.now.items c.push_made-in-SectionAndRow.new.elements.items (html_element tbody) c.push_made-in-SectionAndRow.ensures.pushed))

pub returns-in-SectionAndRow-clause-kept : goal.returns-in-SectionAndRow-clause-kept
returns-in-SectionAndRow-clause-kept c =
    let old = c.args.elements.now in
    let section = c.push_made-in-SectionAndRow.new.elements in
    let room : length old.items + 2 < DEPTH_LIMIT = rw c.in-SectionAndRow.is at c.requires.room in
    let pushed = c.push_made-in-SectionAndRow.ensures.pushed in
    let kept = IsRoomy-pushed old section (html_element tbody) c.requires.kept (omega (arith, room)) pushed c.push_made-in-SectionAndRow.ensures.capacity in
    IsRoomy-pushed section c.push_made-in-SectionAndRow-2.new.elements (html_element tr) kept
    (omega (arith, room, length-made old.items section.items (html_element tbody ∷ []) (path_of-pushed old.items section.items (html_element tbody) pushed)))
    c.push_made-in-SectionAndRow-2.ensures.pushed c.push_made-in-SectionAndRow-2.ensures.capacity
