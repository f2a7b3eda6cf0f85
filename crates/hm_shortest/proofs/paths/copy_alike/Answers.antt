use Rattle.std.proofs.Common.{◌∙◌, ℕ, ◌-◌, ◌++◌, [], get_or, chars, take, refl, sym, ap, subst, arith}
use Rattle.std.specs.Str.{IsAscii}
use Rattle.hm_graph.proofs.Characters.{ascii_boundary, some_chars}
use Rattle.hm_graph.specs.Graphs.{GraphView}
use Rattle.hm_graph_laws.specs.Units.{character_units}
use Rattle.hm_shortest.specs.CopiedRuns.{AreCopied, IsCopied}
use Rattle.hm_shortest.specs.Paths.{GoesOver}
use Rattle.hm_shortest.specs.declared.paths.WrittenWay.{WrittenWay}
use Rattle.hm_shortest.proofs.Walking.{front_copied, goes_none}
use Rattle.hm_shortest.proofs.paths.copy_alike.Goals as goal

pub step-requires-clause-inside : goal.step-requires-clause-inside
step-requires-clause-inside c = omega (arith, c.requires.inside, some_chars c.args.text.now c.utf8.text c.requires.some)

pub range_from-requires : goal.range_from-requires
range_from-requires c = λ some.
    let n : ℕ = c.next_alike-at.result.layer - c.args.way.now.at.layer in
    let ascii : IsAscii (take n c.args.text.now) = subst (λ b. IsAscii (take n b)) c.as_bytes.ensures.value c.if-not-is_ascii.ensures.cases in
    ascii_boundary c.args.text.now n c.utf8.text (omega (arith, c.next_alike-at.ensures.layer.1)) ascii

pub returns-then-not-is_copied-clause-goes : goal.returns-then-not-is_copied-clause-goes
returns-then-not-is_copied-clause-goes c = λ kind. goes_none c.args.graph.now (character_units kind (chars c.args.text.now)) c.args.way.now c.requires.on

pub returns-then-not-is_ascii-clause-goes : goal.returns-then-not-is_ascii-clause-goes
returns-then-not-is_ascii-clause-goes c = λ kind. goes_none c.args.graph.now (character_units kind (chars c.args.text.now)) c.args.way.now c.requires.on

pub returns-clause-goes : goal.returns-clause-goes
returns-clause-goes c =
    let g : GraphView = c.args.graph.now in
    let text = c.args.text.now in
    let old : WrittenWay = c.args.way.now in
    let new : WrittenWay = record { out = c.extend_from_slice.new.self; at = c.next_alike-at.result; place = old.place; choices = old.choices } in
    let n : ℕ = c.next_alike-at.result.layer - old.at.layer in
    let ascii : IsAscii (take n text) = subst (λ b. IsAscii (take n b)) c.as_bytes.ensures.value c.if-not-is_ascii.ensures.cases in
    let first : IsCopied (get_or g.steps old.at.layer []) old.place = subst (λ step. IsCopied step old.place) c.step.ensures (c.if-not-is_copied.ensures refl) in
    let copied : AreCopied g old.at.layer n old.place = λ j low high. subst (λ step. IsCopied step old.place) (sym (c.next_alike-at.ensures.alike j low (omega (arith, high)))) first in
    subst (λ rest. GoesOver g (chars text) (chars rest) old new) (sym c.range_from.ensures.value)
    (front_copied g text n old new (omega (arith, c.next_alike-at.ensures.layer.1)) ascii c.requires.inside c.requires.on copied c.next_alike-at.ensures.place (omega (arith, c.next_alike-at.ensures.layer.0))
    (c.in_ok-extend_from_slice.ensures.items ∙ ap (λ b. old.out.items ++ take n b) c.as_bytes.ensures.value) refl refl)
