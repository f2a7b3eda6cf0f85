use Rattle.std.proofs.Common.{◌≡◌, true, false, refl, sym, ◌∙◌, arith, ◌++◌}
use Rattle.hm_elements.specs.Paths.{is_block_in_p, is_nested, stands_on}
use Rattle.hm_open_elements.specs.Answers.{elements_of}
use Rattle.hm_open_elements.specs.Elements.{name_of, path_of, marks_of}
use Rattle.hm_open_elements.proofs.Elements.{length-path_of, marked_at}
use Rattle.hm_open_elements.proofs.Plans.{makes_by}
use Rattle.hm_open_elements.proofs.Starts.{Makes, made_too_deep, misplaced, too_deep, opens_there}
use Rattle.hm_open_elements.proofs.plan.made_before.Goals as goal

pub returns-then-is_block_in_p-clause-opens : goal.returns-then-is_block_in_p-clause-opens
returns-then-is_block_in_p-clause-opens c =
    let os = c.args.elements.now in
    let o = c.index-elements-elements.result in
    let marks : o.marks ≡ marks_of (path_of os) = marked_at os _ o c.index-elements-elements.is c.requires.marked (omega (arith, c.requires.least)) in
    let blocks : is_block_in_p c.args.tag.name.now (path_of os) ≡ true = sym (c.is_block_in_p.ensures (path_of os) marks) ∙ c.if-is_block_in_p.true in
    λ closed. rw blocks refl

pub returns-then-is_nested-clause-opens : goal.returns-then-is_nested-clause-opens
returns-then-is_nested-clause-opens c =
    let os = c.args.elements.now in
    let o = c.index-elements-elements.result in
    let marks : o.marks ≡ marks_of (path_of os) = marked_at os _ o c.index-elements-elements.is c.requires.marked (omega (arith, c.requires.least)) in
    let free : is_block_in_p c.args.tag.name.now (path_of os) ≡ false = sym (c.is_block_in_p.ensures (path_of os) marks) ∙ c.if-is_block_in_p.false in
    let nests : is_nested c.args.tag.name.now (path_of os) ≡ true = sym (c.is_nested.ensures (path_of os) marks) ∙ c.if-is_nested.true in
    λ closed. rw (free, nests) refl

pub returns-then-depth-gt-DEEPEST-clause-opens : goal.returns-then-depth-gt-DEEPEST-clause-opens
returns-then-depth-gt-DEEPEST-clause-opens c =
    let os = c.args.elements.now in
    let n = c.args.tag.name.now in
    let o = c.index-elements-elements.result in
    let marks : o.marks ≡ marks_of (path_of os) = marked_at os _ o c.index-elements-elements.is c.requires.marked (omega (arith, c.requires.least)) in
    let named : c.as_str.result.now ≡ name_of o.name = cc in
    let made : Makes n (path_of os) c.under-made.result =
    makes_by os n o c.under-made.result c.requires c.index-elements-elements.is
    (sym (c.is_block_in_p.ensures (path_of os) marks) ∙ c.if-is_block_in_p.false)
    (sym (c.is_nested.ensures (path_of os) marks) ∙ c.if-is_nested.false) (rw (named, c.name.ensures) at c.under-made.ensures) in
    λ closed. made_too_deep n closed (path_of os) c.under-made.result made (omega (arith, length-path_of os, c.count.ensures))

pub returns-then-not-stands-clause-opens : goal.returns-then-not-stands-clause-opens
returns-then-not-stands-clause-opens c =
    let os = c.args.elements.now in
    let n = c.args.tag.name.now in
    let o = c.index-elements-elements.result in
    let marks : o.marks ≡ marks_of (path_of os) = marked_at os _ o c.index-elements-elements.is c.requires.marked (omega (arith, c.requires.least)) in
    let named : c.as_str.result.now ≡ name_of o.name = cc in
    let made : Makes n (path_of os) c.under-made.result =
    makes_by os n o c.under-made.result c.requires c.index-elements-elements.is
    (sym (c.is_block_in_p.ensures (path_of os) marks) ∙ c.if-is_block_in_p.false)
    (sym (c.is_nested.ensures (path_of os) marks) ∙ c.if-is_nested.false) (rw (named, c.name.ensures) at c.under-made.ensures) in
    let stands : stands_on n (elements_of c.under-made.result ++ path_of os) ≡ false = cc in
    λ closed. misplaced n closed (path_of os) c.under-made.result made (omega (arith, length-path_of os, c.count.ensures)) stands

pub returns-then-depth-eq-DEEPEST-clause-opens : goal.returns-then-depth-eq-DEEPEST-clause-opens
returns-then-depth-eq-DEEPEST-clause-opens c =
    let os = c.args.elements.now in
    let n = c.args.tag.name.now in
    let o = c.index-elements-elements.result in
    let marks : o.marks ≡ marks_of (path_of os) = marked_at os _ o c.index-elements-elements.is c.requires.marked (omega (arith, c.requires.least)) in
    let named : c.as_str.result.now ≡ name_of o.name = cc in
    let made : Makes n (path_of os) c.under-made.result =
    makes_by os n o c.under-made.result c.requires c.index-elements-elements.is
    (sym (c.is_block_in_p.ensures (path_of os) marks) ∙ c.if-is_block_in_p.false)
    (sym (c.is_nested.ensures (path_of os) marks) ∙ c.if-is_nested.false) (rw (named, c.name.ensures) at c.under-made.ensures) in
    let stands : stands_on n (elements_of c.under-made.result ++ path_of os) ≡ true = cc in
    λ closed. too_deep n closed (path_of os) c.under-made.result made (omega (arith, length-path_of os, c.count.ensures)) stands

pub returns-clause-opens : goal.returns-clause-opens
returns-clause-opens c =
    let os = c.args.elements.now in
    let n = c.args.tag.name.now in
    let o = c.index-elements-elements.result in
    let marks : o.marks ≡ marks_of (path_of os) = marked_at os _ o c.index-elements-elements.is c.requires.marked (omega (arith, c.requires.least)) in
    let named : c.as_str.result.now ≡ name_of o.name = cc in
    let made : Makes n (path_of os) c.under-made.result =
    makes_by os n o c.under-made.result c.requires c.index-elements-elements.is
    (sym (c.is_block_in_p.ensures (path_of os) marks) ∙ c.if-is_block_in_p.false)
    (sym (c.is_nested.ensures (path_of os) marks) ∙ c.if-is_nested.false) (rw (named, c.name.ensures) at c.under-made.ensures) in
    let stands : stands_on n (elements_of c.under-made.result ++ path_of os) ≡ true = cc in
    λ closed. opens_there n closed (path_of os) c.under-made.result made (omega (arith, length-path_of os, c.count.ensures)) stands
