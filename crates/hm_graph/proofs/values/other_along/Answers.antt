use Rattle.std.proofs.Common.{◌≡◌, ◌∙◌, ◌++◌, ◌∷◌, [], Some, true, chars, length, sym, ap}
use Rattle.std.proofs.lemmas.Bool.Decides.{Decides-eqb}
use Rattle.std.proofs.lemmas.List.{nil_from_length}
use Rattle.std.proofs.lemmas.Str.{chars-nil, chars_past_char}
use Rattle.std.specs.Prelude.{encode_utf8}
use Rattle.hm_edges.specs.Units.{needs_quotes}
use Rattle.hm_graph.specs.EntityFacts.{is_costly_need}
use Rattle.hm_graph.specs.Values.{need_at}
use Rattle.hm_graph.proofs.ValueNeeds.{costly_stays, first_need, need_more}
use Rattle.hm_graph.proofs.values.other_along.Goals as goal

pub loop-rest-init : goal.loop-rest-init
loop-rest-init c = (c.utf8.value, first_need c.args.table.now.entries needs_quotes (chars c.args.value.now))

pub loop-rest-preserved-in-Some : goal.loop-rest-preserved-in-Some
loop-rest-preserved-in-Some c =
    let t = c.args.table.now.entries in
    let rest = c.as_str-rest.result.now in
    let cut : c.loop-rest.rest.now ≡ encode_utf8 c.in-Some.c ++ rest = sym c.chars-characters.ensures.rest ∙ c.in-Some.ensures.steps.0 ∙ ap (λ r. encode_utf8 c.in-Some.c ++ r) (sym c.as_str-rest.ensures) in
    let whole : chars c.loop-rest.rest.now ≡ c.in-Some.c ∷ chars rest = chars_past_char c.loop-rest.rest.now rest c.in-Some.c c.loop-rest.invariant.0 cut in (
      c.as_str-rest.utf8,
      ap (λ n. need_at t needs_quotes n (Some c.in-Some.c) (chars rest)) c.other_with-need.ensures ∙ need_more t needs_quotes c.loop-rest.need c.loop-rest.previous c.in-Some.c (chars rest)
          ∙ ap (need_at t needs_quotes c.loop-rest.need c.loop-rest.previous) (sym whole) ∙ c.loop-rest.invariant.1,
    )

pub returns : goal.returns
returns c =
    let none : chars c.loop-rest.rest.now ≡ [] = ap chars (nil_from_length c.loop-rest.rest.now ((Decides-eqb (length c.loop-rest.rest.now) 0).0 (sym c.loop-rest-test.ensures))) ∙ chars-nil in
    ap (need_at c.args.table.now.entries needs_quotes c.loop-rest.need c.loop-rest.previous) (sym none) ∙ c.loop-rest.invariant.1

pub returns-then-is_costly_need : goal.returns-then-is_costly_need
returns-then-is_costly_need c =
    let t = c.args.table.now.entries in
    let rest = c.as_str-rest.result.now in
    let cut : c.loop-rest.rest.now ≡ encode_utf8 c.in-Some.c ++ rest = sym c.chars-characters.ensures.rest ∙ c.in-Some.ensures.steps.0 ∙ ap (λ r. encode_utf8 c.in-Some.c ++ r) (sym c.as_str-rest.ensures) in
    let whole : chars c.loop-rest.rest.now ≡ c.in-Some.c ∷ chars rest = chars_past_char c.loop-rest.rest.now rest c.in-Some.c c.loop-rest.invariant.0 cut in
    let costly : is_costly_need c.other_with-need.result ≡ true = sym c.is_costly_need.ensures ∙ c.if-is_costly_need.true in
    sym (costly_stays t needs_quotes c.other_with-need.result (Some c.in-Some.c) (chars rest) costly) ∙ ap (λ n. need_at t needs_quotes n (Some c.in-Some.c) (chars rest)) c.other_with-need.ensures
    ∙ need_more t needs_quotes c.loop-rest.need c.loop-rest.previous c.in-Some.c (chars rest) ∙ ap (need_at t needs_quotes c.loop-rest.need c.loop-rest.previous) (sym whole) ∙ c.loop-rest.invariant.1
