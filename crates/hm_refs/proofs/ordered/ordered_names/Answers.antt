use Rattle.std.proofs.Common.{◌≡◌, [], IsUtf8, arith, rules}
use Rattle.json.specs.Lex.{tokens}
use Rattle.hm_refs.proofs.ByTokens.{table_gathered, table_names}
use Rattle.hm_refs.proofs.ordered.ordered_names.Goals as goal

pub returns-clause-gathered : goal.returns-clause-gathered
returns-clause-gathered c = table_gathered _ _ _ c.in_ok-names.ensures

pub returns-clause-names : goal.returns-clause-names
returns-clause-names c =
    let is_text : IsUtf8 c.args.bytes.now = search rules in
    let same : c.in_ok-text.text.now ≡ c.args.bytes.now = search rules in
    let begins : c.in_ok-reader.reader ≡ tokens c.in_ok-text.text.now = search rules in
    let ends : c.members.new.reader ≡ [] = grind arith in
    table_names _ _ is_text c.requires (rw (begins, same, ends) at c.in_ok-names.ensures)
