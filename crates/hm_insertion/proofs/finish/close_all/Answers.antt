use Rattle.std.proofs.Common.{◌≡◌, ◌-◌, ◌++◌, map, [], refl, ap, ◌∙◌}
use Rattle.hm_base.specs.Walks.{comment, path_after}
use Rattle.hm_construction_laws.specs.Steps.{closing}
use Rattle.hm_tree.specs.Trees.{end_of}
use Rattle.hm_insertion.proofs.Dropped.{on_ok}
use Rattle.hm_insertion.proofs.Over.{close_all}
use Rattle.hm_insertion.proofs.finish.close_all.Goals as goal

pub put_comments-requires : goal.put_comments-requires
put_comments-requires c =
    let w = c.args.maker.now in
    let ended = c.end_elements.new.maker in
    let with_inner = ended ++ map comment c.args.inner.now in
    (close_all w ended with_inner (with_inner ++ end_of (path_after [] with_inner)) c.args.inner.now c.args.last.now (c.depth-depth.result - 1) c.requires.open_still
    (ap (λ n. n - 1) c.depth-depth.ensures.depth) c.requires.room c.in_ok-end_elements.ensures refl refl).inner_room

pub end-requires : goal.end-requires
end-requires c =
    let w = c.args.maker.now in
    let with_inner = c.put_comments.new.maker in
    (close_all w c.end_elements.new.maker with_inner (with_inner ++ end_of (path_after [] with_inner)) c.args.inner.now c.args.last.now (c.depth-depth.result - 1) c.requires.open_still
    (ap (λ n. n - 1) c.depth-depth.ensures.depth) c.requires.room c.in_ok-end_elements.ensures c.in_ok-put_comments.ensures refl).open_still

pub put_comments-requires-2 : goal.put_comments-requires-2
put_comments-requires-2 c =
    (close_all c.args.maker.now c.end_elements.new.maker c.put_comments.new.maker c.end.new.self c.args.inner.now c.args.last.now (c.depth-depth.result - 1) c.requires.open_still
    (ap (λ n. n - 1) c.depth-depth.ensures.depth) c.requires.room c.in_ok-end_elements.ensures c.in_ok-put_comments.ensures c.in_ok-end.ensures.ok).last_room

pub returns : goal.returns
returns c =
    let w = c.args.maker.now in
    let all = close_all w c.end_elements.new.maker c.put_comments.new.maker c.end.new.self c.args.inner.now c.args.last.now (c.depth-depth.result - 1) c.requires.open_still
    (ap (λ n. n - 1) c.depth-depth.ensures.depth) c.requires.room c.in_ok-end_elements.ensures c.in_ok-put_comments.ensures c.in_ok-end.ensures.ok in
    on_ok c.put_comments-2.result (c.put_comments-2.new.maker ≡ c.end.new.self ++ map comment c.args.last.now) (c.put_comments-2.new.maker ≡ w ++ closing (path_after [] w) c.args.inner.now c.args.last.now)
    (λ is. is ∙ all.all) c.put_comments-2.ensures
