-- Ways (paths through the layered graph) over joined units.
use Rattle.std.proofs.Common.{◌≡◌, ℕ, List, [], ◌∷◌, ◌++◌, refl, sym, ap, ◌∙◌, subst, append_assoc}
use Rattle.hm_graph_laws.specs.States.{State}
use Rattle.hm_graph_laws.specs.Units.{Unit}
use Rattle.hm_graph_laws.specs.UnitWays.{WayTo}
use Rattle.hm_graph_laws.specs.Ways.{Edges}

-- a way in two parts
pub record Parted (es : Edges) (us vs : List Unit) (from : State) (b : List ℕ) (to : State) : Type 0 where
  pub middle : State
  pub left : List ℕ
  pub right : List ℕ
  pub whole : b ≡ left ++ right
  pub before : WayTo es us from left middle
  pub after : WayTo es vs middle right to

pub way_parts : (es : Edges) (us vs : List Unit) (from : State) (b : List ℕ) (to : State) → WayTo es (us ++ vs) from b to → Parted es us vs from b to
way_parts es [] vs from b to w = record { middle = from; left = []; right = b; whole = refl; before = (refl, refl); after = w }
way_parts es (unit ∷ us) vs from b to (e, i, (rest, is, w)) =
    let p = way_parts es us vs e.to rest to w in
    record {
      middle = p.middle;
      left = e.bytes ++ p.left;
      right = p.right;
      whole = is ∙ ap (λ x. e.bytes ++ x) p.whole ∙ sym (append_assoc e.bytes p.left p.right);
      before = (e, i, (p.left, refl, p.before));
      after = p.after;
    }

pub join_ways : (es : Edges) (us vs : List Unit) (from middle to : State) (b c : List ℕ) → WayTo es us from b middle → WayTo es vs middle c to → WayTo es (us ++ vs) from (b ++ c) to
join_ways es [] vs from middle to b c (none, same) v = subst (λ s. WayTo es vs s (b ++ c) to) (sym same) (subst (λ x. WayTo es vs middle (x ++ c) to) (sym none) v)
join_ways es (unit ∷ us) vs from middle to b c (e, i, (rest, is, w)) v =
    (e, i, (rest ++ c, ap (λ x. x ++ c) is ∙ append_assoc e.bytes rest c, join_ways es us vs e.to middle to rest c w v))
