-- Names without ';' and their forms with it.
use Rattle.std.proofs.Common.{◌≡◌, ℕ, ◌+◌, ◌<◌, ◌≤◌, Bool, true, false, cond, drop, length, not, ◌&&◌, eqb, List, [], ◌∷◌, ◌++◌, Option, Some, None, option_map, option_to_list, bytes_eq, refl, sym, ap, ◌∙◌}
use Rattle.std.proofs.lemmas.List.{drop_all, drop_more}
use Rattle.std.specs.Option.{option_eq}
use Rattle.hm_base.specs.declared.plain.Points.{Points}
use Rattle.hm_refs.specs.Names.{Entry, points_of, is_closed, is_front, child_of}
use Rattle.hm_refs.specs.Tables.{names_in, no_entry, entry_at, points_list}
use Rattle.hm_refs.specs.Json.{first_lone, is_lone}
use Rattle.hm_refs.specs.Nodes.{place}
use Rattle.hm_refs.proofs.Found.{points_front}
use Rattle.hm_refs.proofs.Whole.{points_place}

-- the test of two values is that of their lists
pub points_same : (p q : Points) → bytes_eq (points_list p) (points_list q) ≡ (eqb p.first q.first && option_eq eqb p.second q.second)
points_same p q = by_second (eqb p.first q.first) p.second q.second
  where
    end : (b : Bool) → (b && true) ≡ b
    end true = refl
    end false = refl

    by_second : (b : Bool) (r s : Option ℕ) → (b && bytes_eq (option_to_list r) (option_to_list s)) ≡ (b && option_eq eqb r s)
    by_second b None None = refl
    by_second b None (Some y) = refl
    by_second b (Some x) None = refl
    by_second b (Some x) (Some y) = ap (λ c. b && c) (end (eqb x y))

-- no name with ';' and a name without it
pub lone_none : (t : List Entry) (e : Entry) → is_closed e.name ≡ false → points_of t (e.name ++ 59 ∷ []) ≡ None → true ≡ is_lone t e
lone_none t e c p = rw (c, p) refl

pub lone_some : (t : List Entry) (e : Entry) (p q : Points) (b : Bool) → is_closed e.name ≡ false → points_of t (e.name ++ 59 ∷ []) ≡ Some (points_list p) → points_list q ≡ e.points → b ≡ not (eqb p.first q.first && option_eq eqb p.second q.second) → b ≡ is_lone t e
lone_some t e p q b c h i f = f ∙ rw (c, h, sym i, points_same p q) refl

-- no name goes on where a node has no child
pub no_front : (t : List Entry) (q : List ℕ) (c : ℕ) → None ≡ child_of t q c → is_front t (q ++ c ∷ []) ≡ false
unfolding child_of
no_front t q c h = by_test (is_front t (q ++ c ∷ [])) h
  where
    by_test : (b : Bool) → None ≡ cond b (Some (q ++ c ∷ [])) None → b ≡ false
    by_test true k = absurd (cc)
    by_test false k = refl

pub no_child : (t : List Entry) (q : List ℕ) (c : ℕ) → None ≡ child_of t q c → points_of t (q ++ c ∷ []) ≡ None
no_child t q c h = points_front t (q ++ c ∷ []) (no_front t q c h)

-- a child's bytes are one more
pub child_front : (t : List Entry) (q f : List ℕ) (c : ℕ) → Some f ≡ child_of t q c → f ≡ q ++ c ∷ []
unfolding child_of
child_front t q f c h = by_test (is_front t (q ++ c ∷ [])) h
  where
    by_test : (b : Bool) → Some f ≡ cond b (Some (q ++ c ∷ [])) None → f ≡ q ++ c ∷ []
    by_test true k = cc
    by_test false k = absurd (cc)

pub no_name : (t : List Entry) (q : List ℕ) → None ≡ place q (names_in t) → points_of t q ≡ None
no_name t q h = points_place t q ∙ ap (λ o. option_map (λ i. (entry_at t i).points) o) (sym h)

-- ---- The first name that stands alone, name by name

-- the search from a name on, which is that of all
lone_next : (t : List Entry) (n id : ℕ) (b : Bool) → n < length t → id ≡ n → b ≡ is_lone t (entry_at t id) → first_lone t (drop n t) ≡ first_lone t t → cond b (Some (entry_at t id).name) (first_lone t (drop (n + 1) t)) ≡ first_lone t t
lone_next t n id b l e h all =
    ap (λ c. cond c (Some (entry_at t id).name) (first_lone t (drop (n + 1) t))) h ∙ ap (λ i. first_lone t (entry_at t i ∷ drop (n + 1) t)) e
    ∙ sym (ap (first_lone t) (drop_more t n no_entry l)) ∙ all

pub lone_here : (t : List Entry) (n id : ℕ) → n < length t → id ≡ n → true ≡ is_lone t (entry_at t id) → first_lone t (drop n t) ≡ first_lone t t → Some (entry_at t id).name ≡ first_lone t t
lone_here t n id l e h all = lone_next t n id true l e h all

pub lone_later : (t : List Entry) (n id : ℕ) → n < length t → id ≡ n → false ≡ is_lone t (entry_at t id) → first_lone t (drop n t) ≡ first_lone t t → first_lone t (drop (n + 1) t) ≡ first_lone t t
lone_later t n id l e h all = lone_next t n id false l e h all

pub lone_end : (t : List Entry) (n : ℕ) → length t ≤ n → first_lone t (drop n t) ≡ first_lone t t → None ≡ first_lone t t
lone_end t n l all = sym (ap (first_lone t) (drop_all n t l)) ∙ all
