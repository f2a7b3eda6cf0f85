use Rattle.std.proofs.Common.{◌≡◌, ◌++◌, []}
use Rattle.hm_base.specs.Walks.{path_after}
use Rattle.hm_tree.specs.Trees.{end_of}
use Rattle.hm_construction_laws.specs.Steps.{opened}
use Rattle.hm_insertion.specs.Inside.{state_of, IsDone}
use Rattle.hm_insertion.proofs.Dropped.{on_ok}
use Rattle.hm_insertion.proofs.BeforeBody.{void_room, void_done, some_started}
use Rattle.hm_insertion.proofs.parts.Parts.start_void.Goals as goal

pub start_from-requires : goal.start_from-requires
start_from-requires c = void_room c.args.self.now c.args.attrs.now c.args.noscript c.requires.insertion_mode c.requires.kept c.requires.all c.args.name.now c.requires.void c.requires.room

pub end-requires : goal.end-requires
end-requires c = some_started c.args.self.now c.args.attrs.now c.args.noscript c.requires.insertion_mode c.requires.kept c.requires.all c.args.name.now c.start_from.new.self c.in_ok-start_from.ensures.ok

pub returns : goal.returns
returns c =
    let p = c.args.self.now in
    let n = c.args.name.now in
    let u = c.start_from.new.self in
    on_ok c.end.result (c.end.new.self ≡ u ++ end_of (path_after [] u)) (IsDone (opened n c.args.attrs.now (state_of p)) p (record p { maker = c.end.new.self }))
    (λ is. void_done p c.args.attrs.now c.args.noscript c.requires.insertion_mode c.requires.kept c.requires.all n u c.end.new.self c.requires.void c.in_ok-start_from.ensures.ok is) c.end.ensures.ok
