use Rattle.std.proofs.Common.{◌≡◌, ◌<◌, ◌≢◌, ℕ, true, List, ◌∷◌, ◌++◌, Some, None, length, get_or, arith, rules, sym, ◌∙◌, ap, length-append}
use Rattle.std.proofs.lemmas.Result.{on_ok_weaker}
use Rattle.std.proofs.lemmas.Str.Pattern.{IsSplitOnceResult, split_parts, strip_prefix_char}
use Rattle.hm_base.specs.Bytes.{all_pass}
use Rattle.hm_base.specs.Source.{is_text_byte}
use Rattle.hm_base.specs.Places.{is_nonzero, with_lines}
use Rattle.hm_base.proofs.Bytes.{all_pass_first, all_pass_second}
use Rattle.hm_base.proofs.Lines.{with_lines_pair, with_lines_return, with_lines_last, text_bytes}
use Rattle.hm_base.proofs.source.SourceText.push_lines.Goals as goal

-- a line before a CR
line_bytes : (rest line after : List ℕ) → all_pass is_nonzero rest ≡ true → (rest ≡ line ++ 13 ∷ after) × ((i : ℕ) → i < length line → get_or line i 0 ≢ 13) → all_pass is_text_byte line ≡ true
line_bytes rest line after h parts = text_bytes line (all_pass_first is_nonzero line (13 ∷ after) (rw (sym parts.0) h)) parts.1

after_bytes : (rest line after : List ℕ) → all_pass is_nonzero rest ≡ true → rest ≡ line ++ 13 ∷ after → all_pass is_nonzero after ≡ true
after_bytes rest line after h e = all_pass_second is_nonzero line (13 ∷ after) (rw (sym e) h)

pub push_bytes-requires-clause-plain : goal.push_bytes-requires-clause-plain
push_bytes-requires-clause-plain c =
    line_bytes c.loop-line.rest.now c.in-Some.line.now c.in-Some.after.now c.loop-line.invariant.no_zero (split_parts 13 c.loop-line.rest.now (Some (c.in-Some.line, c.in-Some.after)) c.in-Some.ensures.cases (omega arith))

pub loop-line-preserved-in-Some-strip_prefix : goal.loop-line-preserved-in-Some-strip_prefix
loop-line-preserved-in-Some-strip_prefix c =
    let source = c.loop-line.self in
    let rest = c.loop-line.rest.now in
    let line = c.in-Some.line.now in
    let after = c.in-Some.after.now in
    let next = c.in-Some-strip_prefix.next.now in
    let parts = split_parts 13 rest (Some (c.in-Some.line, c.in-Some.after)) c.in-Some.ensures.cases (omega arith) in
    let feed : after ≡ 10 ∷ next = strip_prefix_char 10 after (Some c.in-Some-strip_prefix.next) c.in-Some-strip_prefix.ensures.cases (omega arith) in
    let cut : rest ≡ line ++ 13 ∷ 10 ∷ next = parts.0 ∙ ap (λ s. line ++ 13 ∷ s) feed in
    let plain = line_bytes rest line after c.loop-line.invariant.no_zero parts in
    record {
      same = rw (c.in_ok-push_pair-in-Some-strip_prefix.ensures, c.in_ok-push_bytes.ensures) (with_lines_pair source line next plain ∙ ap (λ s. with_lines source s) (sym cut) ∙ c.loop-line.invariant.same);
      text = search rules;
      room = rw (c.in_ok-push_pair-in-Some-strip_prefix.ensures, c.in_ok-push_bytes.ensures) (omega (arith, ap length cut, length-append line (13 ∷ 10 ∷ next)));
      no_zero = after_bytes rest line (10 ∷ next) c.loop-line.invariant.no_zero cut;
    }

pub loop-line-preserved : goal.loop-line-preserved
loop-line-preserved c =
    let source = c.loop-line.self in
    let rest = c.loop-line.rest.now in
    let line = c.in-Some.line.now in
    let after = c.in-Some.after.now in
    let parts = split_parts 13 rest (Some (c.in-Some.line, c.in-Some.after)) c.in-Some.ensures.cases (omega arith) in
    let other : (next : List ℕ) → after ≢ 10 ∷ next = strip_prefix_char 10 after None c.in-None.ensures.cases (omega arith) in
    let plain = line_bytes rest line after c.loop-line.invariant.no_zero parts in
    record {
      same = rw (c.in_ok-push_bytes-in-None.ensures, c.in_ok-push_bytes.ensures) (with_lines_return source line after plain other ∙ ap (λ s. with_lines source s) (sym parts.0) ∙ c.loop-line.invariant.same);
      text = search rules;
      room = rw (c.in_ok-push_bytes-in-None.ensures, c.in_ok-push_bytes.ensures) (omega (arith, ap length parts.0, length-append line (13 ∷ after)));
      no_zero = after_bytes rest line after c.loop-line.invariant.no_zero parts.0;
    }

-- the last line has no CR
last_bytes : (rest : List ℕ) → all_pass is_nonzero rest ≡ true → IsSplitOnceResult 13 rest None → all_pass is_text_byte rest ≡ true
last_bytes rest h cases = text_bytes rest h (split_parts 13 rest None cases (omega arith))

pub push_bytes-requires-2-clause-plain : goal.push_bytes-requires-2-clause-plain
push_bytes-requires-2-clause-plain c = last_bytes c.loop-line.rest.now c.loop-line.invariant.no_zero c.in_default.ensures.cases

pub returns : goal.returns
returns c =
    let plain = last_bytes c.loop-line.rest.now c.loop-line.invariant.no_zero c.in_default.ensures.cases in
    on_ok_weaker c.push_bytes-2.result (λ e. e ∙ with_lines_last c.loop-line.self c.loop-line.rest.now plain ∙ c.loop-line.invariant.same) c.push_bytes-2.ensures
