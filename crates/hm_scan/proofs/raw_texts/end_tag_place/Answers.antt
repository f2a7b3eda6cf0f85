use Rattle.std.proofs.Common.{◌≡◌, ◌+◌, ◌-◌, ◌≤◌, ◌<◌, drop, length, get_or, arith, sym, ◌∙◌, add-zero, length-drop}
use Rattle.std.proofs.lemmas.List.{take_rest, get_or-drop}
use Rattle.hm_scan.proofs.TagPlaces.{NoTag, none_before, none_at, tag_place, tag_missing}
use Rattle.hm_scan.proofs.raw_texts.end_tag_place.Goals as goal

pub returns-then-begins_end_tag : goal.returns-then-begins_end_tag
returns-then-begins_end_tag c =
    let s = c.args.bytes.now in
    let at = c.tags.at in
    let to = c.tags.at + c.in-Some.found in
    let h = rw (take_rest s at) at c.in-Some.ensures in
    let long : length (drop at s) ≡ length s - at = length-drop at s in
    let inside : to < length s = omega (arith, h.1.fits) in
    let none : NoTag c.args.name.now s c.args.from to = none_before c.args.name.now s c.args.from at to (omega arith) c.tags.invariant.none (λ j l o. h.0.before j (omega arith) (omega arith) o) in
    let first : get_or s to 0 ≡ 60 = sym (get_or-drop at s c.in-Some.found 0) ∙ rw add-zero at (h.1.reads 0 (omega arith)) in
    tag_place c.args.name.now s c.args.from to (omega arith) inside (omega arith) none (sym (rw (take_rest s to) at c.if-begins_end_tag.ensures))

pub tags-preserved : goal.tags-preserved
tags-preserved c =
    let s = c.args.bytes.now in
    let at = c.tags.at in
    let to = c.tags.at + c.in-Some.found in
    let h = rw (take_rest s at) at c.in-Some.ensures in
    let long : length (drop at s) ≡ length s - at = length-drop at s in
    let inside : to + 1 ≤ length s = omega (arith, h.1.fits) in
    let none : NoTag c.args.name.now s c.args.from to = none_before c.args.name.now s c.args.from at to (omega arith) c.tags.invariant.none (λ j l o. h.0.before j (omega arith) (omega arith) o) in
    record {
      low = omega arith;
      high = inside;
      none = none_at c.args.name.now s c.args.from to none (sym (rw (take_rest s to) at c.if-begins_end_tag.ensures));
    }

pub returns : goal.returns
returns c =
    let s = c.args.bytes.now in
    let at = c.tags.at in
    let h = rw (take_rest s at) at c.in_default.ensures in
    let long : length (drop at s) ≡ length s - at = length-drop at s in
    tag_missing c.args.name.now s c.args.from (none_before c.args.name.now s c.args.from at (length s) (omega arith) c.tags.invariant.none (λ j l o. h j (omega arith) (omega arith) o))
