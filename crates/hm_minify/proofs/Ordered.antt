-- A tree with its attributes in the order that is shortest.
use Rattle.std.proofs.Common.{◌≡◌, ◌∙◌, ℕ, Bool, true, false, cond, List, [], ◌∷◌, ◌++◌, refl, sym, ap, subst}
use Rattle.hm_base.specs.Walks.{Event, doctype, start, text, comment, end}
use Rattle.hm_elements.specs.Settled.{Settled}
use Rattle.hm_input.proofs.Framed.{EndsFramed}
use Rattle.hm_input.specs.Frames.{frame_start, frame_end, IsFramed}
use Rattle.hm_order.specs.ExchangeLaws.{sparing_plain}
use Rattle.hm_order.specs.Units.{may_close_itself}
use Rattle.hm_input.specs.Inputs.{tree as tree_input}
use Rattle.hm_minify.specs.Wanted.{input_of, rewritten_of, wanted, wanted_tree}
use Rattle.hm_minify.proofs.Headline.{request_table}
use Rattle.hm_order.proofs.Shortest.{ordered_bounds_all}
use Rattle.hm_order.specs.Laws.{ShortestAny}
use Rattle.hm_order.specs.Orders.{ordered, reordered}
use Rattle.hm_refs.specs.Names.{Entry}
use Rattle.hm_order.specs.Spellings.{Shortest}
use Rattle.hm_order.specs.Tags.{Spelling}
use Rattle.hm_store.specs.Contents.{Contents}
use Rattle.hm_words.specs.Words.{Asked}

-- ---- The tree of a fragment stays one

inside_ordered : (g : Spelling) (inside : List Event) → EndsFramed (reordered g (inside ++ frame_end))
inside_ordered g [] = record { inside = []; is = refl }
inside_ordered g (doctype legacy ∷ inside) = let h = inside_ordered g inside in record { inside = doctype legacy ∷ h.inside; is = ap (λ w. doctype legacy ∷ w) h.is }
inside_ordered g (start n foreign attributes ∷ inside) =
    let h = inside_ordered g inside in
    let e : Event = start n foreign (ordered g (may_close_itself foreign (inside ++ frame_end)) attributes) in
    record { inside = e ∷ h.inside; is = ap (λ w. e ∷ w) h.is }
inside_ordered g (text s raw ∷ inside) = let h = inside_ordered g inside in record { inside = text s raw ∷ h.inside; is = ap (λ w. text s raw ∷ w) h.is }
inside_ordered g (comment s ∷ inside) = let h = inside_ordered g inside in record { inside = comment s ∷ h.inside; is = ap (λ w. comment s ∷ w) h.is }
inside_ordered g (end n foreign ∷ inside) = let h = inside_ordered g inside in record { inside = end n foreign ∷ h.inside; is = ap (λ w. end n foreign ∷ w) h.is }

-- no tag of the frame has attributes
reordered_framed : (g : Spelling) (w : List Event) → IsFramed w → IsFramed (reordered g w)
reordered_framed g w framed =
    let h = inside_ordered g framed.inside in
    record { inside = h.inside; is = ap (reordered g) framed.is ∙ ap (λ x. frame_start ++ x) h.is }

pub wanted_framed : (q : Asked) (t : List Entry) (w : List Event) → IsFramed w → IsFramed (wanted_tree q t w)
wanted_framed q t w framed = by_flag q.writing.order
  where
    by_flag : (order : Bool) → IsFramed (cond order (reordered (sparing_plain t q.writing.rules) w) w)
    by_flag true = reordered_framed (sparing_plain t q.writing.rules) w framed
    by_flag false = framed

-- ---- What is shortest in that order is so in any order

pub bounds_all : (q : Asked) (seen : Contents) (n : ℕ) (t : List Entry) (v : List Event) → input_of q seen ≡ tree_input n t v → Settled v → (k : ℕ) → Shortest t q.writing.rules v k
    → q.writing.order ≡ true → (w : List Event) → rewritten_of q seen ≡ tree_input n t w → ShortestAny t q.writing.rules w k
bounds_all q seen n t v reads s k bound order w read =
    let o : List Event = reordered (sparing_plain t q.writing.rules) w in
    let both : tree_input n t v ≡ tree_input n t (wanted_tree q t w) = sym reads ∙ ap (wanted q) read in
    let same : v ≡ wanted_tree q t w = cc in
    let is : v ≡ o = same ∙ ap (λ b. cond b o w) order in
    ordered_bounds_all t (request_table q seen n t v reads) q.writing.rules w (subst Settled is s) k (subst (λ x. Shortest t q.writing.rules x k) is bound)
