use Rattle.std.proofs.Common.{◌≡◌, ◌+◌, ◌-◌, ◌<◌, ◌≤◌, ◌++◌, ◌∷◌, ℕ, suc, List, [], get_or, set, length, take, drop, refl, sym, ap, ◌∙◌, arith, append_assoc}
use Rattle.std.proofs.Math.Seq.{drop-cons, take-suc-set}
use Rattle.std.proofs.Math.ListN.{drop_of_length-le}
use Rattle.std.proofs.lemmas.List.{append-nil, drop-set-lt, length-set}
use Rattle.hm_base.specs.Places.{pairs_after}
use Rattle.hm_base.proofs.Dropped.{skipped, moved}
use Rattle.hm_base.proofs.source.drop_pairs.Goals as goal
use Rattle.hm_base.proofs.source.drop_pairs.Goals.{then-n-pair, else-n-pair}

pub loop-i-init : goal.loop-i-init
loop-i-init c = record { kept = omega arith; len = refl; same = refl }

pub index_mut-requires : goal.index_mut-requires
index_mut-requires c = omega (arith, c.loop-i.invariant.kept, c.loop-i-test.true, c.loop-i.invariant.len, c.len-i-end.ensures)

pub overflow_add-kept : goal.overflow_add-kept
overflow_add-kept c = omega (arith, c.loop-i.invariant.kept, c.loop-i-test.true, c.len-i-end.type_inv)

-- what is left to be looked at begins with the pair
left_is : (i j : ℕ) (pairs : List ℕ) → i < length pairs → j ≡ get_or pairs i j → drop i pairs ≡ j ∷ drop (i + 1) pairs
left_is i j pairs m e =
    let next : suc i ≡ i + 1 = omega arith in
    drop-cons pairs i j m ∙ ap (λ k. k ∷ drop (suc i) pairs) (sym e) ∙ ap (λ k. j ∷ drop k pairs) next

-- a pair that is kept is put after the others
kept_on : (n kept i j : ℕ) (pairs : List ℕ) → kept ≤ i → i < length pairs → j ≡ get_or pairs i j → n ≤ j
    → take (kept + 1) (set pairs kept (j - n)) ++ pairs_after n (drop (i + 1) (set pairs kept (j - n))) ≡ take kept pairs ++ pairs_after n (drop i pairs)
kept_on n kept i j pairs l m e h =
    let next : kept + 1 ≡ suc kept = omega arith in
    let front : take (kept + 1) (set pairs kept (j - n)) ≡ take kept pairs ++ (j - n) ∷ [] = ap (λ k. take k (set pairs kept (j - n))) next ∙ take-suc-set pairs kept (j - n) (omega arith) in
    let after : pairs_after n (drop (i + 1) (set pairs kept (j - n))) ≡ pairs_after n (drop (i + 1) pairs) = ap (pairs_after n) (drop-set-lt (i + 1) pairs kept (j - n) (omega arith)) in
    let whole : (j - n) ∷ pairs_after n (drop (i + 1) pairs) ≡ pairs_after n (drop i pairs) = sym (ap (pairs_after n) (left_is i j pairs m e) ∙ moved n j (drop (i + 1) pairs) h) in
    ap (λ s. s ++ pairs_after n (drop (i + 1) (set pairs kept (j - n)))) front
    ∙ ap (λ s. (take kept pairs ++ (j - n) ∷ []) ++ s) after
    ∙ append_assoc (take kept pairs) ((j - n) ∷ []) (pairs_after n (drop (i + 1) pairs))
    ∙ ap (λ s. take kept pairs ++ s) whole

skipped_on : (n kept i j : ℕ) (pairs : List ℕ) → i < length pairs → j ≡ get_or pairs i j → j < n
    → take kept pairs ++ pairs_after n (drop (i + 1) pairs) ≡ take kept pairs ++ pairs_after n (drop i pairs)
skipped_on n kept i j pairs m e h = ap (λ s. take kept pairs ++ s) (sym (ap (pairs_after n) (left_is i j pairs m e) ∙ skipped n j (drop (i + 1) pairs) h))

pub loop-i-preserved : goal.loop-i-preserved
loop-i-preserved c =
    let i = c.loop-i.invariant in
    let within : c.loop-i.i < length c.loop-i.pairs.items = omega (arith, c.loop-i-test.true, i.len, c.len-i-end.ensures) in
    elim c.if-n-pair.branch [
      | then-n-pair w ↦ rw (w.kept-is, w.pairs-is) record {
        kept = omega (arith, i.kept);
        len = length-set c.loop-i.pairs.items c.loop-i.kept (c.index-pair.result.now - c.args.n) ∙ i.len;
        same = kept_on c.args.n c.loop-i.kept c.loop-i.i c.index-pair.result.now c.loop-i.pairs.items i.kept within c.index-pair.ensures w.if-n-pair.true ∙ i.same;
      }
      | else-n-pair w ↦ rw (w.kept-is, w.pairs-is) record {
        kept = omega (arith, i.kept);
        len = i.len;
        same = skipped_on c.args.n c.loop-i.kept c.loop-i.i c.index-pair.result.now c.loop-i.pairs.items within c.index-pair.ensures w.if-n-pair.false ∙ i.same;
      }
    ]

pub returns : goal.returns
returns c =
    let i = c.loop-i.invariant in
    let last : drop c.loop-i.i c.loop-i.pairs.items ≡ [] = drop_of_length-le c.loop-i.pairs.items (omega (arith, c.loop-i-test.false, i.len, c.len-i-end.ensures)) in
    c.truncate.ensures.items ∙ sym (append-nil (take c.loop-i.kept c.loop-i.pairs.items)) ∙ ap (λ s. take c.loop-i.kept c.loop-i.pairs.items ++ pairs_after c.args.n s) (sym last) ∙ i.same
