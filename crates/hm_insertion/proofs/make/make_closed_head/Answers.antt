use Rattle.std.proofs.Common.{◌≡◌, ◌++◌, ◌∷◌, [], false, refl, ap, length, ◌∙◌, arith, append_assoc}
use Rattle.hm_base.specs.Walks.{path_after, start, end}
use Rattle.hm_elements.specs.Names.{head}
use Rattle.hm_construction_laws.specs.Steps.{under_head}
use Rattle.hm_tree.specs.Trees.{end_of}
use Rattle.hm_tree.proofs.WalkLemmas.{path_after-push}
use Rattle.hm_insertion.specs.Inside.{only_head}
use Rattle.hm_insertion.proofs.Events.{HasRoom-one}
use Rattle.hm_insertion.proofs.Dropped.{on_ok}
use Rattle.hm_insertion.proofs.make.make_closed_head.Goals as goal

pub start-requires : goal.start-requires
start-requires c = rw c.new.ensures (HasRoom-one c.args.maker.now (start head false []) (end head false ∷ []) c.requires.room)

pub end-requires : goal.end-requires
end-requires c =
    let there : path_after [] c.start.new.self ≡ under_head = rw (c.in_ok-start.ensures.ok, path_after-push [] c.args.maker.now, c.requires.open_there) refl in
    omega (arith, ap length there)

pub returns : goal.returns
returns c =
    let there : path_after [] c.start.new.self ≡ under_head = rw (c.in_ok-start.ensures.ok, path_after-push [] c.args.maker.now, c.requires.open_there) refl in
    let w = c.args.maker.now in
    on_ok c.end.result (c.end.new.self ≡ c.start.new.self ++ end_of (path_after [] c.start.new.self)) (c.end.new.self ≡ w ++ only_head)
    (λ is. is ∙ ap (λ p. c.start.new.self ++ end_of p) there ∙ ap (λ v. v ++ end head false ∷ []) (c.in_ok-start.ensures.ok ∙ ap (λ a. w ++ start head false a ∷ []) c.new.ensures) ∙ append_assoc w (start head false [] ∷ []) (end head false ∷ []))
    c.end.ensures.ok
