use Rattle.std.proofs.Common.{◌≡◌, ◌∷◌, Option, Some, None, arith}
use Rattle.std.specs.Prelude.{IfSome}
use Rattle.json.specs.Token.{Token}
use Rattle.hm_json_tree.proofs.ByTokens.{item_read}
use Rattle.hm_json_tree.proofs.tokens.next_form.Goals as goal

weaker : {A : Type 0} (o : Option A) (P Q : A → Type 0) → ((x : A) → P x → Q x) → IfSome o P → IfSome o Q
weaker None P Q f h = tt
weaker (Some x) P Q f h = f x h

pub returns : goal.returns
returns c =
    let first : c.args.tokens.now ≡ Token.begin_array ∷ c.next.new.self = grind arith in
    weaker c.closed.result _ _ (λ form h. rw h.0 (item_read _ _ _ _ _ _ _ first c.in_ok-kind.ensures c.in_ok-form.ensures h.1)) c.closed.ensures
