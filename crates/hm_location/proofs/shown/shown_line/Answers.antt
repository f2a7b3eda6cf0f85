use Rattle.std.proofs.Common.{◌+◌, ◌-◌, arith, drop, take}
use Rattle.hm_location.proofs.ShownLaws.{IsShown, all_shown, front_of, rest_of_all}
use Rattle.hm_location.proofs.shown.shown_line.Goals as goal

shown : (c : goal.After-result-1) → IsShown c.args.text.now c.args.at (take (c.shown_place-place.result + c.cut_after-kept.result - (c.line_start-begin.result.begin + c.cut_before-cut.result)) (drop (c.line_start-begin.result.begin + c.cut_before-cut.result) c.args.text.now))
shown c = all_shown c.args.text.now c.args.at c.shown_place-place.result c.line_start-begin.result.begin c.cut_before-cut.result c.cut_after-kept.result c.rest_len.result _ c.shown_place-place.ensures.place c.line_start-begin.ensures.inside c.line_start-begin.ensures.front (rest_of_all c.args.text.now c.shown_place-place.result c.rest_len.result c.rest_len.ensures.rest) (omega arith) c.cut_before-cut.ensures.inside c.cut_before-cut.ensures.shown c.cut_after-kept.ensures.inside c.cut_after-kept.ensures.shown

pub returns-clause-bytes : goal.returns-clause-bytes
returns-clause-bytes c = (shown c).is

pub returns-clause-short : goal.returns-clause-short
returns-clause-short c = (shown c).short

pub returns-clause-part : goal.returns-clause-part
returns-clause-part c = (shown c).part

pub returns-clause-front : goal.returns-clause-front
returns-clause-front c = (front_of c.args.text.now c.args.at c.shown_place-place.result c.line_start-begin.result.begin c.cut_before-cut.result _ _ c.shown_place-place.ensures.place c.line_start-begin.ensures.front c.cut_before-cut.ensures.shown (shown c).is (omega arith)).0

pub returns-clause-inside : goal.returns-clause-inside
returns-clause-inside c = (front_of c.args.text.now c.args.at c.shown_place-place.result c.line_start-begin.result.begin c.cut_before-cut.result _ _ c.shown_place-place.ensures.place c.line_start-begin.ensures.front c.cut_before-cut.ensures.shown (shown c).is (omega arith)).1
