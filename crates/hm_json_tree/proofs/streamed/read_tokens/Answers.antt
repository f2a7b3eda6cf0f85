use Rattle.std.proofs.Common.{◌≡◌, [], IsUtf8, Option, Some, None, ap, sym, ◌∙◌, rules}
use Rattle.std.specs.Prelude.{IfSome}
use Rattle.std.proofs.lemmas.Result.{IfErr-weaker, IfOk-weaker}
use Rattle.json.specs.Lex.{tokens}
use Rattle.hm_json_tree.proofs.ByTokens.{whole_read}
use Rattle.hm_json_tree.proofs.Read.{read_is_settled}
use Rattle.hm_json_tree.proofs.Whole.{sound_utf8}
use Rattle.hm_json_tree.proofs.streamed.read_tokens.Goals as goal

weaker : {A : Type 0} (o : Option A) (P Q : A → Type 0) → ((x : A) → P x → Q x) → IfSome o P → IfSome o Q
weaker None P Q f h = tt
weaker (Some x) P Q f h = f x h

pub returns-clause-fault : goal.returns-clause-fault
returns-clause-fault c =
    let is_text : IsUtf8 c.args.bytes.now = search rules in
    let same : tokens c.args.bytes.now ≡ c.in_ok-tokens.tokens = search rules in
    IfErr-weaker c.read_array.result _ _ (λ fault h m. whole_read c.args.bytes.now (h m).0 _ c.requires is_text (same ∙ (h m).1) (h m).2) c.read_array.ensures.fault

pub returns-clause-tree : goal.returns-clause-tree
returns-clause-tree c =
    let is_text : IsUtf8 c.args.bytes.now = search rules in
    let same : tokens c.args.bytes.now ≡ c.in_ok-tokens.tokens = search rules in
    IfOk-weaker c.read_array.result _ _ (λ read. weaker read _ _ (λ tree h. whole_read c.args.bytes.now h.0 _ c.requires is_text (same ∙ h.1) h.2)) c.read_array.ensures.tree

pub returns-clause-settled : goal.returns-clause-settled
returns-clause-settled c =
    let is_text : IsUtf8 c.args.bytes.now = search rules in
    let same : tokens c.args.bytes.now ≡ c.in_ok-tokens.tokens = search rules in
    IfOk-weaker c.read_array.result _ _ (λ read. weaker read _ _ (λ tree h. read_is_settled c.args.bytes.now tree (whole_read c.args.bytes.now h.0 _ c.requires is_text (same ∙ h.1) h.2) (sound_utf8 [] tree h.3))) c.read_array.ensures.tree
