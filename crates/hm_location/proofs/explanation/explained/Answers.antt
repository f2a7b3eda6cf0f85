use Rattle.std.proofs.Common.{◌∙◌}
use Rattle.hm_location.proofs.Alike.{explained_at}
use Rattle.hm_location.proofs.explanation.explained.Goals as goal

pub returns : goal.returns
returns c = explained_at c.args.name.now c.args.page.now c.args.rule c.args.at c.place_in-place.result c.location_of.result.line c.location_of.result.column c.in_ok-lines.lines.items c.push_lines.new.lines.items
    c.place_in-place.ensures.place c.location_of.ensures.line c.location_of.ensures.column (c.in_ok-lines.ensures.items ∙ c.as_bytes.ensures.value ∙ c.in_ok-line.ensures) c.in_ok-push_lines.ensures
