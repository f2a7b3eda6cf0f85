-- Ways (paths through the layered graph) that are cut after some of their units, and joined.
use Rattle.std.proofs.Common.{◌≡◌, ℕ, List, [], ◌∷◌, ◌++◌, refl, sym, ap, ◌∙◌, subst, append_assoc}
use Rattle.hm_graph_laws.specs.Ways.{Edges, Way}
use Rattle.hm_graph_laws.specs.States.{State}
use Rattle.hm_graph_laws.specs.Units.{Unit}
use Rattle.hm_graph_laws.specs.UnitWays.{WayTo}

-- a way in two parts
pub record Cut (es : Edges) (us vs : List Unit) (from : State) (b : List ℕ) : Type 0 where
  pub middle : State
  pub front : List ℕ
  pub rest : List ℕ
  pub whole : b ≡ front ++ rest
  pub before : WayTo es us from front middle
  pub after : Way es vs middle rest

pub cut : (es : Edges) (us vs : List Unit) (from : State) (b : List ℕ) → Way es (us ++ vs) from b → Cut es us vs from b
cut es [] vs from b w = record { middle = from; front = []; rest = b; whole = refl; before = (refl, refl); after = w }
cut es (unit ∷ us) vs from b (e, i, (rest, is, w)) =
    let c = cut es us vs e.to rest w in
    record {
      middle = c.middle;
      front = e.bytes ++ c.front;
      rest = c.rest;
      whole = is ∙ ap (λ x. e.bytes ++ x) c.whole ∙ sym (append_assoc e.bytes c.front c.rest);
      before = (e, i, (c.front, refl, c.before));
      after = c.after;
    }

pub joined : (es : Edges) (us vs : List Unit) (from middle : State) (b c : List ℕ) → WayTo es us from b middle → Way es vs middle c → Way es (us ++ vs) from (b ++ c)
joined es [] vs from middle b c (none, same) v = subst (λ s. Way es vs s (b ++ c)) (sym same) (subst (λ x. Way es vs middle (x ++ c)) (sym none) v)
joined es (unit ∷ us) vs from middle b c (e, i, (rest, is, w)) v =
    (e, i, (rest ++ c, ap (λ x. x ++ c) is ∙ append_assoc e.bytes rest c, joined es us vs e.to middle rest c w v))
