use Rattle.std.proofs.Common.{◌∙◌, ap, sym}
use Rattle.std.specs.List.{list_any}
use Rattle.hm_spelling_spec.specs.Characters.{is_barred}
use Rattle.hm_graph.proofs.ValueBytes.{needs_none}
use Rattle.hm_graph.proofs.values.needs_of.Goals as goal

pub returns-then-not-has_barred : goal.returns-then-not-has_barred
returns-then-not-has_barred c =
    let none = sym c.has_barred.ensures ∙ c.if-not-has_barred.true in
    needs_none c.args.table.now.entries c.args.value.now c.utf8.value (ap (list_any is_barred) (sym c.as_bytes.ensures.value) ∙ none)
