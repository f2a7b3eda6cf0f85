-- Sums and minima of prices, and ways that all lead to one state.
use Rattle.std.proofs.Common.{◌≡◌, ◌+◌, ℕ, List, [], ◌∷◌, ◌++◌, Option, Some, None, refl, sym, ap, ap₂, ◌∙◌, arith}
use Rattle.hm_refs.specs.Tables.{IsIn, first, later}
use Rattle.hm_graph_laws.specs.Edges.{Edge, edge_length}
use Rattle.hm_graph_laws.specs.States.{State}
use Rattle.hm_graph_laws.specs.Units.{Unit}
use Rattle.hm_graph_laws.specs.Ways.{Edges, lesser, over, best, least}
use Rattle.hm_order.specs.Costs.{plus}

pub over_over : (n m : ℕ) (p : Option ℕ) → over n (over m p) ≡ over (n + m) p
over_over n m None = refl
over_over n m (Some a) = ap Some (omega arith)

pub plus_over : (n : ℕ) (p q : Option ℕ) → plus (over n p) q ≡ over n (plus p q)
plus_over n None q = refl
plus_over n (Some a) q = sym (over_over n a q)

pub over_plus : (n : ℕ) (p q : Option ℕ) → plus p (over n q) ≡ over n (plus p q)
over_plus n None q = refl
over_plus n (Some a) None = refl
over_plus n (Some a) (Some b) = ap Some (omega arith)

pub plus_assoc : (p q r : Option ℕ) → plus (plus p q) r ≡ plus p (plus q r)
plus_assoc None q r = refl
plus_assoc (Some a) q r = plus_over a q r

pub lesser_over : (n : ℕ) (p q : Option ℕ) → over n (lesser p q) ≡ lesser (over n p) (over n q)
lesser_over n None q = refl
lesser_over n (Some a) None = refl
lesser_over n (Some a) (Some b) = ap Some (omega arith)

pub lesser_plus : (p q k : Option ℕ) → plus (lesser p q) k ≡ lesser (plus p k) (plus q k)
lesser_plus None q k = refl
lesser_plus (Some a) None None = refl
lesser_plus (Some a) None (Some c) = refl
lesser_plus (Some a) (Some b) None = refl
lesser_plus (Some a) (Some b) (Some c) = ap Some (omega arith)

pub lesser_none : (p : Option ℕ) → lesser p None ≡ p
lesser_none None = refl
lesser_none (Some a) = refl

pub plus_none : (p : Option ℕ) → plus p None ≡ None
plus_none None = refl
plus_none (Some a) = refl

-- ---- The least over edges

pub best_plus : (f h : State → Option ℕ) (k : Option ℕ) (es : List Edge) → ((e : Edge) → IsIn e es → f e.to ≡ plus (h e.to) k) → best f es ≡ plus (best h es) k
best_plus f h k [] same = refl
best_plus f h k (e ∷ es) same =
    ap₂ lesser (ap (over (edge_length e)) (same e (first es)) ∙ sym (plus_over (edge_length e) (h e.to) k)) (best_plus f h k es (λ x i. same x (later e es i)))
    ∙ sym (lesser_plus (over (edge_length e) (h e.to)) (best h es) k)

-- ---- Ways that all lead to one state

abbrev pub LeadsTo : Edges → List Unit → State → State → Type 0
LeadsTo es [] s t = s ≡ t
LeadsTo es (unit ∷ units) s t = (e : Edge) → IsIn e (es unit s) → LeadsTo es units e.to t

-- Then the least price is what these units take, and what is after them.
pub least_cut : (es : Edges) (units rest : List Unit) (s t : State) → LeadsTo es units s t → least es (units ++ rest) s ≡ plus (least es units s) (least es rest t)
least_cut es [] rest s t h = ap (least es rest) h ∙ zero_over (least es rest t)
  where
    zero_over : (p : Option ℕ) → p ≡ over 0 p
    zero_over None = refl
    zero_over (Some a) = ap Some (omega arith)
least_cut es (unit ∷ units) rest s t h = best_plus (least es (units ++ rest)) (least es units) (least es rest t) (es unit s) (λ e i. least_cut es units rest e.to t (h e i))
