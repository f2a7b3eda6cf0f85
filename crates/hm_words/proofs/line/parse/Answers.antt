use Rattle.std.proofs.Common.{◌≡◌, ◌∙◌, ap, map, true}
use Rattle.std.proofs.lemmas.List.{map-id}
use Rattle.std.proofs.lemmas.Result.{IfErr-weaker, IfOk-weaker}
use Rattle.clap.specs.Walk.{Text}
use Rattle.clap.specs.Simple.{is_simple, matches_of}
use Rattle.clap.specs.Takes.{takes}
use Rattle.hm_base.proofs.Bytes.{first_true, second_true}
use Rattle.hm_words.specs.Words.{flags, are_known, are_single}
use Rattle.hm_words.specs.Matches.{line}
use Rattle.hm_words.proofs.Parsed.{reads}
use Rattle.hm_words.proofs.Passes.{taken, line_is_simple}
use Rattle.hm_words.proofs.line.parse.Goals as goal

pub returns-clause-ok : goal.returns-clause-ok
returns-clause-ok c =
    let ws = c.args.words.now in
    let known : are_known flags ws ≡ true = first_true _ _ (second_true _ _ c.requires.readable) in
    let single : are_single flags ws ≡ true = second_true _ _ (second_true _ _ c.requires.readable) in
    let parse = c.try_get_matches_from in
    IfOk-weaker parse.result _ _ (λ m h. reads ws m known single ((h (ap is_simple c.in_ok-line.ensures ∙ line_is_simple)).0 ∙ ap (λ a. matches_of a (map (λ (w : Text). w) ws)) c.in_ok-line.ensures ∙ ap (matches_of line) (map-id ws))) parse.ensures.matches

pub returns-clause-memory : goal.returns-clause-memory
returns-clause-memory c =
    let ws = c.args.words.now in
    let known : are_known flags ws ≡ true = first_true _ _ (second_true _ _ c.requires.readable) in
    let single : are_single flags ws ≡ true = second_true _ _ (second_true _ _ c.requires.readable) in
    let parse = c.try_get_matches_from in
    IfErr-weaker parse.result _ _ (λ e h. h (ap (λ a. takes a (map (λ (w : Text). w) ws)) c.in_ok-line.ensures ∙ ap (takes line) (map-id ws) ∙ taken ws known single)) parse.ensures.passes
