-- What a value needs, found along its characters.
use Rattle.std.proofs.Common.{◌≡◌, ◌∙◌, ℕ, Bool, true, false, ◌&&◌, ◌||◌, ◌==◌, nat_lt, List, [], ◌∷◌, length, Option, Some, None, refl, ap, bytes_eq}
use Rattle.std.specs.List.{list_any}
use Rattle.hm_edges.specs.Units.{need_by, need_for, needs_of, needs_quotes, some_costly}
use Rattle.hm_edges.specs.declared.units.Need.{Need}
use Rattle.hm_edges.specs.declared.units.Need.TheVariants as need
use Rattle.hm_edges.specs.declared.units.Needs.{Needs}
use Rattle.hm_graph.specs.Interned.{cheapens}
use Rattle.hm_graph.specs.EntityFacts.{is_costly_need, joined}
use Rattle.hm_graph.specs.Values.{need_at, need_with, needs_at, needs_with}
use Rattle.hm_graph_laws.specs.Units.{next_of}
use Rattle.hm_graph_laws.specs.Forms.{gives_both, is_costly, is_second, makes_cheap}
use Rattle.hm_refs.specs.Names.{Entry}

-- ---- Needs of more characters

join_once : (n : Need) (h d k e : Bool) → joined (joined n h d) k e ≡ joined n (h || k) (d || e)
join_once n true true true true = refl
join_once n true true false true = refl
join_once n true true true false = refl
join_once n true true false false = refl
join_once n false true true true = refl
join_once n false true false true = refl
join_once n false true true false = refl
join_once n false true false false = refl
join_once n true false true true = refl
join_once n true false false true = refl
join_once need.Absent true false true false = refl
join_once need.Cheap true false true false = refl
join_once need.Dear true false true false = refl
join_once need.Absent true false false false = refl
join_once need.Cheap true false false false = refl
join_once need.Dear true false false false = refl
join_once n false false k true = refl
join_once n false false k false = refl

pub need_more : (t : List Entry) (kind : ℕ → Bool) (n : Need) (previous : Option ℕ) (c : ℕ) (v : List ℕ) → need_at t kind (need_with t kind n previous c (next_of v)) (Some c) v ≡ need_at t kind n previous (c ∷ v)
need_more t kind n previous c v = join_once n (kind c) (kind c && is_costly t previous c (next_of v)) (list_any kind v) (some_costly t kind (Some c) v)

pub needs_more : (t : List Entry) (n : Needs) (previous : Option ℕ) (c : ℕ) (v : List ℕ) → needs_at t (needs_with t n previous c (next_of v)) (Some c) v ≡ needs_at t n previous (c ∷ v)
needs_more t n previous c v = λ i. record {
  double = need_more t (λ d. d == 34) n.double previous c v i;
  single = need_more t (λ d. d == 39) n.single previous c v i;
  other = need_more t needs_quotes n.other previous c v i;
}

pub first_need : (t : List Entry) (kind : ℕ → Bool) (v : List ℕ) → need_at t kind need.Absent None v ≡ need_for t kind v
first_need t kind v = by (list_any kind v) (some_costly t kind None v)
  where
    by : (has costly : Bool) → joined need.Absent has costly ≡ need_by has costly
    by true true = refl
    by true false = refl
    by false true = refl
    by false false = refl

-- a need for dear references stays one, whatever follows
pub costly_stays : (t : List Entry) (kind : ℕ → Bool) (n : Need) (previous : Option ℕ) (v : List ℕ) → is_costly_need n ≡ true → need_at t kind n previous v ≡ n
costly_stays t kind need.Absent previous v costly = absurd (cc)
costly_stays t kind need.Cheap previous v costly = absurd (cc)
costly_stays t kind need.Dear previous v costly = by (list_any kind v) (some_costly t kind previous v)
  where
    by : (has costly : Bool) → joined need.Dear has costly ≡ need.Dear
    by true true = refl
    by true false = refl
    by false true = refl
    by false false = refl

abbrev pub no_needs : Needs
no_needs = record { double = need.Absent; single = need.Absent; other = need.Absent }

pub needs_all : (t : List Entry) (v : List ℕ) → needs_at t no_needs None v ≡ needs_of t v
needs_all t v = λ i. record { double = first_need t (λ d. d == 34) v i; single = first_need t (λ d. d == 39) v i; other = first_need t needs_quotes v i }

-- ---- Names that make references cheap

pub cheap_by : (t : List Entry) (c : ℕ) (next : Option ℕ) → list_any (makes_cheap c next) t ≡ (list_any (cheapens c) t || list_any (λ e. gives_both c next e.points) t)
cheap_by [] c next = refl
cheap_by (e ∷ t) c next =
    ap (λ x. makes_cheap c next e || x) (cheap_by t c next)
    ∙ by (bytes_eq e.points (c ∷ []) && nat_lt (length e.name) 4) (is_second c e.points) (gives_both c next e.points) (list_any (cheapens c) t) (list_any (λ e. gives_both c next e.points) t)
  where
    by : (a b d x y : Bool) → (a || (b || d)) || (x || y) ≡ ((a || b) || x) || (d || y)
    by true b d x y = refl
    by false true d x y = refl
    by false false true true y = refl
    by false false true false y = refl
    by false false false x y = refl

pub none_gives : (t : List Entry) (c : ℕ) → list_any (λ e. gives_both c None e.points) t ≡ false
none_gives [] c = refl
none_gives (e ∷ t) c = none_gives t c
