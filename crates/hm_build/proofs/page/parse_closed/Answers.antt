use Rattle.std.proofs.Common.{◌≡◌, false, sym, ap, subst, ◌∙◌}
use Rattle.std.specs.Prelude.{IfErr}
use Rattle.std.proofs.lemmas.Result.{IfOk-weaker}
use Rattle.hm_elements.specs.Settled.{Settled}
use Rattle.hm_construction_laws.specs.Closing.{closed_of_source, is_after_body}
use Rattle.hm_construction_laws.specs.Trees.{built, tree_of_source}
use Rattle.hm_insertion.specs.Building.{Building}
use Rattle.hm_build.specs.Parsing.{IsRefusedAs, closed_left, left_tree, reads}
use Rattle.hm_build.proofs.Closings.{closed_in_whole}
use Rattle.hm_build.proofs.PageEnds.{from_first, settled_here}
use Rattle.hm_build.proofs.page.parse_closed.Goals as goal

pub returns-in-Ok-clause-built : goal.returns-in-Ok-clause-built
returns-in-Ok-clause-built c =
    let whole = from_first c.args.table.now.entries c.args.text.now c.in-Ok.builder c.in-Ok.ensures in
    IfOk-weaker c.parse_rest.result (λ parsed. left_tree (reads c.args.table.now.entries c.args.text.now) c.in-Ok.builder ≡ built parsed.0) (λ parsed. tree_of_source c.args.table.now.entries c.args.text.now ≡ built parsed.0) (λ parsed e. whole ∙ e) c.parse_rest.ensures.built

pub returns-in-Ok-clause-settled : goal.returns-in-Ok-clause-settled
returns-in-Ok-clause-settled c =
    let whole = from_first c.args.table.now.entries c.args.text.now c.in-Ok.builder c.in-Ok.ensures in
    IfOk-weaker c.parse_rest.result (λ parsed. left_tree (reads c.args.table.now.entries c.args.text.now) c.in-Ok.builder ≡ built parsed.0) (λ parsed. Settled parsed.0)
    (λ parsed e. settled_here c.args.table.now.entries c.args.text.now c.text-plain.result.now parsed.0 c.every_table.ensures.names c.text-plain.ensures.bytes c.text-plain.ensures.plain c.text-plain.utf8 (whole ∙ e)) c.parse_rest.ensures.built

pub returns-in-Ok-clause-closed : goal.returns-in-Ok-clause-closed
returns-in-Ok-clause-closed c =
    let open_still : is_after_body c.in-Ok.builder.state.insertion_mode ≡ false = ap (λ (b : Building). is_after_body b.state.insertion_mode) c.in-Ok.ensures in
    IfOk-weaker c.parse_rest.result (λ parsed. closed_left (reads c.args.table.now.entries c.args.text.now) c.in-Ok.builder ≡ parsed.1) (λ parsed. closed_of_source c.args.table.now.entries c.args.text.now ≡ parsed.1)
    (λ parsed e. closed_in_whole c.args.table.now.entries c.args.text.now c.in-Ok.builder parsed.1 c.in-Ok.ensures e) (c.parse_rest.ensures.closed open_still)

pub returns-in-Ok-clause-refused : goal.returns-in-Ok-clause-refused
returns-in-Ok-clause-refused c =
    subst (λ o. IfErr c.parse_rest.result (IsRefusedAs o)) (sym (from_first c.args.table.now.entries c.args.text.now c.in-Ok.builder c.in-Ok.ensures)) c.parse_rest.ensures.refused
