use Rattle.std.proofs.Common.{◌≡◌, length, map, drop, sym, ap, ◌∙◌, arith}
use Rattle.std.specs.String.{string_bytes}
use Rattle.hm_base.specs.Source.{Source, byte_of}
use Rattle.hm_base.proofs.Places.{source_from-bytes}
use Rattle.hm_base.proofs.Dropped.{end_after, inside_text, invariant_after, length_after, source_after, view_after}
use Rattle.hm_base.proofs.source.SourceText.drop_front.Goals as goal
use Rattle.hm_base.proofs.source.SourceText.drop_front.Goals.{in-Ok, in-Err}

pub overflow_add-self : goal.overflow_add-self
overflow_add-self c =
    let s = c.self.inside in
    omega (arith, inside_text s.start c.args.n s.pairs.items (string_bytes s.text) _ c.self.view_is c.requires.inside, c.self.invariant.short)

pub overflow_sub-self : goal.overflow_sub-self
overflow_sub-self c = omega (arith, c.len.ensures, c.len-pairs.ensures, ap length c.drop_pairs.ensures, length_after c.args.n c.self.inside.pairs.items)

pub overflow_add-self-2 : goal.overflow_add-self-2
overflow_add-self-2 c =
    let s = c.self.inside in
    omega (arith, inside_text s.start c.args.n s.pairs.items (string_bytes s.text) _ c.self.view_is c.requires.inside, c.self.invariant.short, c.len-pairs.ensures)

pub replace_range-requires-clause-in_bounds : goal.replace_range-requires-clause-in_bounds
replace_range-requires-clause-in_bounds c =
    let s = c.self.inside in
    omega (arith, inside_text s.start c.args.n s.pairs.items (string_bytes s.text) _ c.self.view_is c.requires.inside)

pub replace_range-requires-clause-end_boundary : goal.replace_range-requires-clause-end_boundary
replace_range-requires-clause-end_boundary c =
    let s = c.self.inside in
    let bytes : string_bytes s.text ≡ map byte_of c.args.self.now.placed = sym (source_from-bytes s.start s.pairs.items (string_bytes s.text)) ∙ ap (λ (v : Source). map byte_of v.placed) c.self.view_is in
    rw bytes (c.requires.boundary.0, λ some l. c.requires.boundary.1 l)

-- the text after its first bytes; nothing is put in their place, so no room is missing
text_is : (c : goal.Joined-replace_range) → string_bytes c.replace_range.new.self ≡ drop c.args.n (string_bytes c.self.inside.text)
text_is c = elim c.match-replace_range.branch [
  | in-Ok w ↦ w.in-Ok.ensures.bytes
  | in-Err w ↦ absurd (omega (arith, w.in-Err.ensures.full, c.self.inside.text.bytes.ok))
]

pub invariant_of-self : goal.invariant_of-self
invariant_of-self c =
    let s = c.self.inside in
    invariant_after s.start c.args.n c.len-pairs.result c.len.result s.pairs.items c.drop_pairs.new.pairs.items (string_bytes s.text) (string_bytes c.replace_range.new.self) c.drop_pairs.ensures (omega (arith, c.len-pairs.ensures)) (omega (arith, c.len.ensures)) (text_is c)
    (inside_text s.start c.args.n s.pairs.items (string_bytes s.text) _ c.self.view_is c.requires.inside) c.self.invariant

pub returns-clause-placed : goal.returns-clause-placed
returns-clause-placed c =
    let s = c.self.inside in
    ap (λ (v : Source). v.placed) (view_after s.start c.args.n c.len-pairs.result c.len.result s.pairs.items c.drop_pairs.new.pairs.items (string_bytes s.text) (string_bytes c.replace_range.new.self) c.drop_pairs.ensures (omega (arith, c.len-pairs.ensures)) (omega (arith, c.len.ensures)) (text_is c))
    ∙ source_after s.start c.args.n s.pairs.items (string_bytes s.text) ∙ ap (λ (v : Source). drop c.args.n v.placed) c.self.view_is

pub returns-clause-end : goal.returns-clause-end
returns-clause-end c =
    let s = c.self.inside in
    ap (λ (v : Source). v.end) (view_after s.start c.args.n c.len-pairs.result c.len.result s.pairs.items c.drop_pairs.new.pairs.items (string_bytes s.text) (string_bytes c.replace_range.new.self) c.drop_pairs.ensures (omega (arith, c.len-pairs.ensures)) (omega (arith, c.len.ensures)) (text_is c))
    ∙ end_after s.start c.args.n s.pairs.items (string_bytes s.text) (inside_text s.start c.args.n s.pairs.items (string_bytes s.text) _ c.self.view_is c.requires.inside) ∙ ap (λ (v : Source). v.end) c.self.view_is
