use Rattle.std.proofs.Common.{◌∙◌, ◌∷◌, refl, sym, ap, arith}
use Rattle.hm_refs.proofs.Seeking.{sought_first, sought_more, sought_ends, sought_all, amp_first, some_text, no_text, no_amp}
use Rattle.hm_refs.proofs.trie.Trie.longest.Goals as goal

pub returns-then-is_empty-clause-found : goal.returns-then-is_empty-clause-found
returns-then-is_empty-clause-found c = no_text c.args.self.now.entries c.root-node.ensures.names c.args.text.now (grind (arith, c.if-is_empty.ensures))

pub returns-then-text-ne38-clause-found : goal.returns-then-text-ne38-clause-found
returns-then-text-ne38-clause-found c = no_amp c.args.self.now.entries c.root-node.ensures.names c.args.text.now c.if-text-ne38.true

pub loop-byte-init : goal.loop-byte-init
loop-byte-init c =
    let whole = amp_first c.args.text.now (some_text c.args.text.now c.if-is_empty.ensures) c.if-text-ne38.false ∙ ap (λ r. 38 ∷ r) (sym c.after_first_byte-byte-items.ensures) in
    sought_first c.args.self.now c.args.text.now _ c.root-node.result c.root-node.ensures.names c.root-node.ensures.node c.root-node.ensures.front whole

pub returns-in_default-clause-found : goal.returns-in_default-clause-found
returns-in_default-clause-found c = sym (sought_ends _ _ _ _ _ _ c.loop-byte.invariant c.loop-byte-test.true _ refl c.in_default.ensures.leads)

pub loop-byte-preserved : goal.loop-byte-preserved
loop-byte-preserved c = rw c.or-best.ensures (sought_more _ _ _ _ _ _ c.loop-byte.invariant c.loop-byte-test.true _ refl c.in-Some.child c.name_at.result c.in-Some.ensures.node.inside c.in-Some.ensures.leads c.name_at.ensures)

pub returns-clause-found : goal.returns-clause-found
returns-clause-found c = sym (sought_all _ _ _ _ _ _ c.loop-byte.invariant c.loop-byte-test.false)
