use Rattle.std.proofs.Common.{◌≡◌, ◌+◌, ◌*◌, ◌≤◌, [], length, true, false}
use denote.Text.{Utf8}
use denote.Shadow.{shadow}
use Rattle.hm_base.specs.Walks.{path_after, walk_size}
use Rattle.hm_tree.specs.Trees.{last_agrees}
use Rattle.hm_writing_tests.proofs.parts.made.Given as goal

abbrev pub invariant-loop-count : goal.invariant-loop-count
invariant-loop-count l =
    (length l.maker + length (path_after [] l.maker) ≤ 2 * l.count) × (walk_size l.maker ≤ 300 * l.count) × (last_agrees l.maker false ≡ true) × shadow (Utf8 l.left)
