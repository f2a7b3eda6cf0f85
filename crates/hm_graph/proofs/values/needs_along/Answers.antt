use Rattle.std.proofs.Common.{◌≡◌, ◌∙◌, ◌++◌, ◌∷◌, [], Some, chars, length, sym, ap}
use Rattle.std.proofs.lemmas.Bool.Decides.{Decides-eqb}
use Rattle.std.proofs.lemmas.List.{nil_from_length}
use Rattle.std.proofs.lemmas.Str.{chars-nil, chars_past_char}
use Rattle.std.specs.Prelude.{encode_utf8}
use Rattle.hm_graph.specs.Values.{needs_at}
use Rattle.hm_graph.proofs.ValueNeeds.{needs_more}
use Rattle.hm_graph.proofs.values.needs_along.Goals as goal

pub loop-rest-preserved-in-Some : goal.loop-rest-preserved-in-Some
loop-rest-preserved-in-Some c =
    let t = c.args.table.now.entries in
    let rest = c.as_str-rest.result.now in
    let cut : c.loop-rest.rest.now ≡ encode_utf8 c.in-Some.c ++ rest = sym c.chars-characters.ensures.rest ∙ c.in-Some.ensures.steps.0 ∙ ap (λ r. encode_utf8 c.in-Some.c ++ r) (sym c.as_str-rest.ensures) in
    let whole : chars c.loop-rest.rest.now ≡ c.in-Some.c ∷ chars rest = chars_past_char c.loop-rest.rest.now rest c.in-Some.c c.loop-rest.invariant.0 cut in (
      c.as_str-rest.utf8,
      ap (λ n. needs_at t n (Some c.in-Some.c) (chars rest)) c.needs_with-needs.ensures ∙ needs_more t c.loop-rest.needs c.loop-rest.previous c.in-Some.c (chars rest)
          ∙ ap (needs_at t c.loop-rest.needs c.loop-rest.previous) (sym whole) ∙ c.loop-rest.invariant.1,
    )

pub returns : goal.returns
returns c =
    let none : chars c.loop-rest.rest.now ≡ [] = ap chars (nil_from_length c.loop-rest.rest.now ((Decides-eqb (length c.loop-rest.rest.now) 0).0 (sym c.loop-rest-test.ensures))) ∙ chars-nil in
    ap (needs_at c.args.table.now.entries c.loop-rest.needs c.loop-rest.previous) (sym none) ∙ c.loop-rest.invariant.1
