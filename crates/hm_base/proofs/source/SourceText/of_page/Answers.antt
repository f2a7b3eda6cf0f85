use Rattle.std.proofs.Common.{◌≡◌, [], arith, ◌∙◌, ap}
use Rattle.std.specs.String.{string_bytes}
use Rattle.hm_base.specs.Source.{Source}
use Rattle.hm_base.specs.Places.{start_of, source_from, with_lines}
use Rattle.hm_base.proofs.Faults.{no_zero}
use Rattle.hm_base.proofs.Places.{source_at}
use Rattle.hm_base.proofs.Page.{length_marked, marked_rest, source_from_start, source_of_lines}
use Rattle.hm_base.proofs.source.SourceText.of_page.Goals as goal

pub push_lines-requires-clause-room : goal.push_lines-requires-clause-room
push_lines-requires-clause-room c =
    let mark = c.without_mark-has_mark.result.0 in
    let rest = c.without_mark-has_mark.result.1.now in
    let empty : source_from c.start_of.result c.new.result.items (string_bytes c.in_ok-with_capacity.field-0) ≡ source_at [] (start_of mark) = rw c.start_of.ensures (source_from_start (start_of mark) c.new.result.items (string_bytes c.in_ok-with_capacity.field-0) c.new.ensures.items c.in_ok-with_capacity.ensures.bytes) in
    let len = length_marked mark c.args.page.now rest c.without_mark-has_mark.ensures.whole in
    rw empty (omega (arith, c.requires.short))

pub push_lines-requires-clause-no_zero : goal.push_lines-requires-clause-no_zero
push_lines-requires-clause-no_zero c = marked_rest c.without_mark-has_mark.result.0 c.args.page.now c.without_mark-has_mark.result.1.now c.without_mark-has_mark.ensures.whole (no_zero c.args.page.now c.requires.sound)

pub returns : goal.returns
returns c =
    let mark = c.without_mark-has_mark.result.0 in
    let rest = c.without_mark-has_mark.result.1.now in
    let empty : source_from c.start_of.result c.new.result.items (string_bytes c.in_ok-with_capacity.field-0) ≡ source_at [] (start_of mark) = rw c.start_of.ensures (source_from_start (start_of mark) c.new.result.items (string_bytes c.in_ok-with_capacity.field-0) c.new.ensures.items c.in_ok-with_capacity.ensures.bytes) in
    c.in_ok-push_lines.ensures ∙ ap (λ (v : Source). with_lines v rest) empty ∙ source_of_lines mark c.args.page.now rest c.without_mark-has_mark.ensures.whole c.without_mark-has_mark.ensures.places
