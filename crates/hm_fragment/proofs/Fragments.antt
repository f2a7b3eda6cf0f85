-- Trees of fragments are settled and stand in body, and their shortest texts are fragments with these trees.
use Rattle.std.proofs.Common.{◌≡◌, ℕ, ◌+◌, ◌≤◌, List, [], ◌∷◌, ◌++◌, length, zero, suc, take, drop, Option, Some, None, refl, sym, ap, ◌∙◌, subst, arith, length-append}
use Rattle.std.specs.Io.{StartsWith}
use Rattle.hm_base.specs.Walks.{Event}
use Rattle.hm_construction_laws.proofs.Pages.{pages_are_settled}
use Rattle.hm_construction_laws.specs.Closing.{closed_at}
use Rattle.hm_construction_laws.specs.Trees.{Outcome, built, refused_by, page_tree}
use Rattle.hm_graph_laws.specs.ExchangeLaws.{sparing_plain}
use Rattle.hm_graph_laws.specs.States.{first_state}
use Rattle.hm_graph_laws.specs.UnitEdges.{edges_of}
use Rattle.hm_graph_laws.specs.Units.{units_of}
use Rattle.hm_graph_laws.specs.Ways.{first_way}
use Rattle.hm_optimality_laws.proofs.Best.{first_ways_are_best}
use Rattle.hm_optimality_laws.specs.SpellingLaws.{IsBest}
use Rattle.hm_options.proofs.InOrder.{rewrite_settled}
use Rattle.hm_options.specs.Rewrites.{rewrite}
use Rattle.hm_refs.specs.Names.{Entry}
use Rattle.hm_round_trip_laws.proofs.ReadBack.{spellings_are_read_back}
use Rattle.hm_spelling_spec.specs.Spellings.{everywhere}
use Rattle.hm_token_laws.proofs.TextPieces.{names_of_table}
use Rattle.hm_fragment.specs.Fragments.{fragment_of, fragment_tree}
use Rattle.hm_fragment.specs.Frames.{front, framed, unframed}
use Rattle.hm_fragment.specs.Laws.{IsInBody, StaysOpen, OpenPagesAreFragments, FragmentsAreInBody, ShortestIsReadBack, RewrittenIsReadBack, BoundsAreOfFragments}
use Rattle.hm_fragment.proofs.Framed.{open_pages_are_framed}
use Rattle.hm_fragment.proofs.Rewritten.{rewritten_stays_framed}
use Rattle.hm_fragment.proofs.StayOpen.{fragments_stay_open}

pub open_pages_are_fragments : OpenPagesAreFragments
unfolding fragment_tree
open_pages_are_fragments t f w h d = ap (λ closed. fragment_of closed (page_tree t (framed f))) d ∙ ap (fragment_of None) h

-- a fragment with a tree: its page has that tree, and closes body nowhere
pub record OfFragment (t : List Entry) (f : List ℕ) (w : List Event) : Type 0 where
  pub reads : page_tree t (framed f) ≡ built w
  pub stays : closed_at t (framed f) ≡ None

pub of_fragment : (t : List Entry) (f : List ℕ) (w : List Event) → fragment_tree t f ≡ built w → OfFragment t f w
unfolding fragment_tree
of_fragment t f w h = by (page_tree t (framed f)) (closed_at t (framed f)) refl refl h
  where
    by : (o : Outcome) (closed : Option ℕ) → page_tree t (framed f) ≡ o → closed_at t (framed f) ≡ closed → fragment_of closed o ≡ built w → OfFragment t f w
    by (refused_by rule at) closed e d h = cc
    by (built v) (Some at) e d h = cc
    by (built v) None e d h = record { reads = e ∙ h; stays = d }

pub fragments_are_in_body : FragmentsAreInBody
fragments_are_in_body t table f w h =
    let k : OfFragment t f w = of_fragment t f w h in
    record { settled = pages_are_settled t (framed f) w (names_of_table t table) k.reads; framed = open_pages_are_framed t f w k.reads k.stays }

pub shortest_is_read_back : ShortestIsReadBack
shortest_is_read_back t table r omit frame w s in_body =
    let b : List ℕ = first_way (edges_of (sparing_plain t r)) (units_of r w) first_state in
    let o : StaysOpen t b = fragments_stay_open t table r omit frame w s in_body in
    let best : IsBest t r w b = first_ways_are_best t table r w s in
    let reads : page_tree t b ≡ built w = spellings_are_read_back everywhere t r w b table s best.spells in
    let after : unframed b ≡ o.fragment = ap unframed o.framed_is in
    record {
      framed_is = ap framed after ∙ sym o.framed_is;
      reads = ap (fragment_tree t) after ∙ open_pages_are_fragments t o.fragment w (subst (λ x. page_tree t x ≡ built w) o.framed_is reads) (subst (λ x. closed_at t x ≡ None) o.framed_is o.never_closed);
    }

pub rewritten_is_read_back : RewrittenIsReadBack
rewritten_is_read_back t table r omit frame o f w h =
    let k : IsInBody w = fragments_are_in_body t table f w h in
    shortest_is_read_back t table r omit frame (rewrite o w) (rewrite_settled o w k.settled) (rewritten_stays_framed o w k.framed)

pub bounds_are_of_fragments : BoundsAreOfFragments
bounds_are_of_fragments t r w n least f spells = let h : length front + n ≤ length (framed f) = least (framed f) spells in let l : length (framed f) ≡ length front + length f = length-append front f in omega arith

-- ---- A page that begins with the front

pub with_front : (page : List ℕ) → StartsWith page front → framed (unframed page) ≡ page
with_front page h = ap (λ x. x ++ drop (length front) page) (sym h) ∙ whole (length front) page
  where
    whole : (n : ℕ) (s : List ℕ) → take n s ++ drop n s ≡ s
    whole zero s = refl
    whole (suc n) [] = refl
    whole (suc n) (c ∷ s) = ap (λ x. c ∷ x) (whole n s)
