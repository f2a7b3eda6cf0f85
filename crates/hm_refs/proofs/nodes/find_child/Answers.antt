use Rattle.std.proofs.Common.{◌∙◌, sym, ap, arith}
use Rattle.hm_refs.specs.declared.nodes.TrieNode.{TrieNode}
use Rattle.hm_refs.proofs.Webs.{same_element}
use Rattle.hm_refs.proofs.nodes.find_child.Goals as goal

pub returns : goal.returns
returns c = λ x e m y a f b.
    let i = sym c.index-nodes-at.is ∙ same_element _ _ x c.index-nodes-at.result c.requires.inside e c.index-nodes-at.is in
    let j = sym c.index-nodes-at-2.is ∙ same_element _ _ x c.index-nodes-at-2.result c.requires.inside e c.index-nodes-at-2.is in
    c.loop-number.invariant m y (omega (arith, a.0, ap (λ (n : TrieNode). n.first) i)) (omega (arith, a.1, c.loop-number-test.false, ap (λ (n : TrieNode). n.first) i, ap (λ (n : TrieNode). n.count) j)) f b
