use Rattle.std.proofs.Common.{◌≡◌, ◌++◌, ◌∷◌, [], IfOk, subst, string_bytes, codes}
use Rattle.std.specs.Fmt.{decimal}
use Rattle.hm_base.specs.Rules.{name_of}
use Rattle.hm_location.proofs.Joined.{ten}
use Rattle.hm_location.proofs.explanation.place_line.Goals as goal

pub returns : goal.returns
returns c =
    let line = decimal c.args.location.line in
    let column = decimal c.args.location.column in
    subst (λ m. IfOk c.format.result (λ text. string_bytes text ≡ c.args.name.now ++ codes ":" ++ line ++ codes ":" ++ column ++ codes ": " ++ name_of c.args.rule ++ codes ": " ++ m ++ 10 ∷ [])) c.meaning-sentence.ensures
    (subst (λ n. IfOk c.format.result (λ text. string_bytes text ≡ c.args.name.now ++ codes ":" ++ line ++ codes ":" ++ column ++ codes ": " ++ n ++ codes ": " ++ c.meaning-sentence.result.now ++ 10 ∷ [])) c.name-rule_name.ensures
    (subst (λ all. IfOk c.format.result (λ text. string_bytes text ≡ all)) (ten c.args.name.now (codes ":") line (codes ":") column (codes ": ") c.name-rule_name.result.now (codes ": ") c.meaning-sentence.result.now (10 ∷ []))
    c.format.ensures.ok))
