use Rattle.std.proofs.Common.{◌≡◌, ◌++◌, ◌∷◌, [], true, false, take, ap, sym, ◌∙◌}
use Rattle.hm_base.specs.Forms.{is_attribute_name}
use Rattle.hm_base.specs.Walks.{Attribute, has_name}
use Rattle.hm_json_tree.proofs.Told.{name_fails, name_repeats, one_more, names_more, misnamed, repeated, denied}
use Rattle.hm_json_tree.proofs.attributes.put_all.Goals as goal

pub returns-then-not-is_attribute_name-clause-other : goal.returns-then-not-is_attribute_name-clause-other
returns-then-not-is_attribute_name-clause-other c _ =
    let all = c.args.pairs.now in
    let a : Attribute = record { name = c.at.result.0.now; value = c.at.result.1.now } in
    let bad : is_attribute_name a.name ≡ false = sym (rw c.as_bytes.ensures.value at c.if-not-is_attribute_name.ensures) in
    misnamed all (name_fails all c.loop-i.i a c.at.ensures bad)

pub returns-then-not-branch-clause-other : goal.returns-then-not-branch-clause-other
returns-then-not-branch-clause-other c _ =
    let all = c.args.pairs.now in
    let a : Attribute = record { name = c.at.result.0.now; value = c.at.result.1.now } in
    let there : has_name a.name c.loop-i.attrs ≡ true = denied (has_name a.name c.loop-i.attrs) (sym c.in_ok-put.ensures.there ∙ c.if-not-branch.true) in
    let repeats : has_name a.name (take c.loop-i.i all) ≡ true = ap (λ attributes. has_name a.name attributes) (sym c.loop-i.invariant.0) ∙ there in
    repeated all (name_repeats all c.loop-i.i a c.at.ensures repeats)

pub loop-i-preserved : goal.loop-i-preserved
loop-i-preserved c =
    let all = c.args.pairs.now in
    let i = c.loop-i.i in
    let a : Attribute = record { name = c.at.result.0.now; value = c.at.result.1.now } in
    let put : c.put.new.self ≡ c.loop-i.attrs ++ a ∷ [] = rw c.if-not-branch.false at c.in_ok-put.ensures.after in
    let good : is_attribute_name a.name ≡ true = sym (rw c.as_bytes.ensures.value at c.if-not-is_attribute_name.ensures) in
    (put ∙ ap (λ attributes. attributes ++ a ∷ []) c.loop-i.invariant.0 ∙ one_more all i a c.at.ensures, rw put (names_more c.loop-i.attrs a c.loop-i.invariant.1 good))
