use Rattle.std.proofs.Common.{◌≡◌, ℕ, drop, map, sym, ap, ap₂, ◌∙◌}
use Rattle.std.specs.List.{drop-map}
use Rattle.hm_base.specs.Source.{Source, byte_of}
use Rattle.hm_lexer.specs.Reading.{Reading}
use Rattle.hm_lexer.specs.Parts.{left_of}
use Rattle.hm_construction_laws.specs.Trees.{mode_of}
use Rattle.hm_lexer.specs.Ready.{ready}
use Rattle.hm_build.proofs.fed.take_ready.Goals as goal

pub returns-in-Ok-clause-waits : goal.returns-in-Ok-clause-waits
returns-in-Ok-clause-waits c =
    let names = c.in-Ok.ensures.names ∙ ap (λ (r : Reading). r.names) c.new-lexer.ensures in
    let source = c.in-Ok.ensures.same ∙ ap (λ (r : Reading). r.source) c.new-lexer.ensures in
    let mode = mode_of c.part_turns.new.builder.state.path in
    let bytes : left_of c.part_turns.new.lexer ≡ map byte_of (drop c.at.result c.args.text.now.placed) =
    ap₂ (λ (n : ℕ) (v : Source). drop n (map byte_of v.placed)) (sym c.at.ensures) source ∙ drop-map byte_of c.at.result c.args.text.now.placed in
    sym (ap₂ (λ t s. ready t (mode_of c.part_turns.new.builder.state.path) s) names bytes) ∙ c.in-Ok.ensures.waits
