use Rattle.std.proofs.Common.{◌≡◌, ◌&&◌, ◌-◌, ◌+◌, ◌≤◌, false, length, slice_get, [], refl, ap, sym, ◌∙◌, arith}
use Rattle.std.proofs.lemmas.Str.{IsCharBoundary-start, IsCharBoundary-end}
use Rattle.hm_base.specs.Walks.{path_after}
use Rattle.hm_options.specs.Space.{hides_space, is_edge, is_one_space, text_of}
use Rattle.hm_options.proofs.Steps.{seen_from, seen_part, seen_to}
use Rattle.hm_options.proofs.Trims.{seen_elsewhere, seen_otherwise, trimmed_seen, without_leading_short, without_trailing_short}
use Rattle.hm_tree.specs.Edits.{last_event}
use Rattle.hm_options.proofs.walk.seen_of.Goals.{else-eq-via-then-eq+else-hides_space, else-eq-via-else-eq}
use Rattle.hm_options.proofs.walk.seen_of.Goals as goal

pub returns-then-conservative-clause-seen : goal.returns-then-conservative-clause-seen
returns-then-conservative-clause-seen c = record {
  ordered = omega arith;
  from_boundary = IsCharBoundary-start c.args.text.now c.utf8.text;
  to_boundary = IsCharBoundary-end c.args.text.now;
}

pub returns-clause-seen : goal.returns-clause-seen
returns-clause-seen c =
    let s = c.args.text.now in
    let t = c.front_trimmed-front.result.now in
    let u = c.end_trimmed-both.result.now in
    let first = is_edge (last_event c.args.editor.now.done) in
    let second = is_edge (slice_get c.args.editor.now.left 1) in
    let from = length s - length t in
    let to = from + length u in
    let t_short : length t ≤ length s = rw (c.front_trimmed-front.ensures) (without_leading_short first s) in
    let u_short : length u ≤ length t = rw (c.end_trimmed-both.ensures) (without_trailing_short second t) in
    record {
      ordered = omega arith;
      from_boundary = seen_from first second s t u c.front_trimmed-front.ensures c.end_trimmed-both.ensures from to refl refl c.utf8.text c.front_trimmed-front.utf8 c.end_trimmed-both.utf8 t_short u_short;
      to_boundary = seen_to first second s t u c.front_trimmed-front.ensures c.end_trimmed-both.ensures from to refl refl c.utf8.text c.front_trimmed-front.utf8 c.end_trimmed-both.utf8 t_short u_short;
    }

pub returns-clause-same : goal.returns-clause-same
returns-clause-same c =
    let s = c.args.text.now in
    let t = c.front_trimmed-front.result.now in
    let u = c.end_trimmed-both.result.now in
    let path = path_after [] c.args.editor.now.done in
    let before = last_event c.args.editor.now.done in
    let next = slice_get c.args.editor.now.left 1 in
    let seen : is_one_space s && hides_space path ≡ false = elim c.else-eq.branch [
      | else-eq-via-then-eq+else-hides_space w ↦ seen_elsewhere (is_one_space s) (hides_space path) w.hides_space.result w.hides_space.ensures w.if-hides_space.false
      | else-eq-via-else-eq w ↦ seen_otherwise (is_one_space s) (hides_space path) c.eq.result c.eq.ensures w.if-eq.false
    ] in
    let is = trimmed_seen path before next s (is_edge before) (is_edge next) t u seen refl refl c.front_trimmed-front.ensures c.end_trimmed-both.ensures in
    rw (c.if-conservative.false) (is ∙ ap text_of (sym (seen_part (is_edge before) (is_edge next) s t u c.front_trimmed-front.ensures c.end_trimmed-both.ensures (length s - length t) (length s - length t + length u) refl refl)))
