-- What is pending in one text is kept in another one by the same bytes.
use Rattle.std.proofs.Common.{◌≡◌, ℕ, Bool, true, false, cond, not, ◌&&◌, ◌||◌, List, [], ◌∷◌, refl, sym, ap, ◌∙◌, subst, is_none}
use Rattle.hm_base.specs.Bytes.{head_is}
use Rattle.hm_base.specs.Walks.{Element}
use Rattle.hm_elements.specs.Names.{is_among}
use Rattle.hm_elements.specs.Paths.{current, is_in_svg, is_in_text}
use Rattle.hm_elements.specs.Tables.{holds_text, is_raw, is_rcdata, rcdata_names}
use Rattle.hm_refs.specs.Names.{Entry, found_longer}
use Rattle.hm_refs.specs.References.{blocks}
use Rattle.hm_spelling_spec.specs.Characters.{Spot, text, rcdata, foreign, is_value, opens}
use Rattle.hm_spelling_spec.specs.Spellings.{spot_of}
use Rattle.hm_graph_laws.specs.CharacterEdges.{spot_at}
use Rattle.hm_graph_laws.specs.CharacterLaws.{stands_at}
use Rattle.hm_graph_laws.specs.States.{Pending, ampersand, decimal, half, hash, hash_x, hexadecimal, less_than, named, nothing, one_bracket, two_brackets, outside}
use Rattle.hm_graph_laws.specs.Steps.{Fits, IsOpen, keeps, may_end, reference_after}
use Rattle.hm_graph_laws.specs.Units.{kind_of, in_foreign, in_rcdata, in_text}
use Rattle.hm_graph_laws.proofs.Steps.{end_law}

pub fits_over : (t : List Entry) (a b : Spot) (p : Pending) → is_value a ≡ is_value b → Fits t a p → Fits t b p
fits_over t a b nothing e f = tt
fits_over t a b less_than e f = tt
fits_over t a b decimal e f = tt
fits_over t a b hexadecimal e f = tt
fits_over t a b hash e f = tt
fits_over t a b hash_x e f = tt
fits_over t a b (ampersand q) e f = subst (λ v. IsOpen t v q) e f
fits_over t a b (named q) e f = f
fits_over t a b (half left) e f = f
fits_over t a b one_bracket e f = f
fits_over t a b two_brackets e f = f

heads_over : (p q : ℕ → Bool) (s : List ℕ) → ((c : ℕ) → p c ≡ q c) → head_is p s ≡ head_is q s
heads_over p q [] h = refl
heads_over p q (c ∷ s) h = h c

keeps_over : (t : List Entry) (a b : Spot) (p : Pending) (s : List ℕ) → is_value a ≡ is_value b → ((c : ℕ) → opens a c ≡ opens b c) → keeps t a p s ≡ keeps t b p s
keeps_over t a b nothing s e h = refl
keeps_over t a b less_than s e h = ap not (heads_over (opens a) (opens b) s h)
keeps_over t a b decimal s e h = refl
keeps_over t a b hexadecimal s e h = refl
keeps_over t a b hash s e h = refl
keeps_over t a b hash_x s e h = refl
keeps_over t a b (ampersand q) s e h = ap (λ v. is_none (reference_after t v q s)) e
keeps_over t a b (named q) s e h = ap (λ v. not (v && head_is blocks s) && is_none (found_longer t q s)) e
keeps_over t a b (half left) s e h = refl
keeps_over t a b one_bracket s e h = refl
keeps_over t a b two_brackets s e h = refl

-- at the end of all, nothing that is pending in a text is broken
pub end_keeps : (t : List Entry) (spot : Spot) (p : Pending) → is_value spot ≡ false → Fits t spot p → keeps t spot p [] ≡ true
end_keeps t spot p v f = end_law t spot p f ∙ by_state p f
  where
    by_state : (q : Pending) → Fits t spot q → may_end t spot q ≡ true
    by_state nothing g = refl
    by_state less_than g = refl
    by_state decimal g = refl
    by_state hexadecimal g = refl
    by_state hash g = refl
    by_state hash_x g = refl
    by_state (ampersand q) g = rw v refl
    by_state (named q) g = refl
    by_state (half left) g = absurd g
    by_state one_bracket g = absurd g
    by_state two_brackets g = absurd g

-- ---- the spot of a text

pub text_spot : (path : List Element) → is_value (spot_of path) ≡ false
text_spot path = by_tests (is_in_svg path) (is_rcdata (current path))
  where
    by_tests : (a b : Bool) → is_value (cond a foreign (cond b rcdata text)) ≡ false
    by_tests true b = refl
    by_tests false true = refl
    by_tests false false = refl

pub kind_spot : (path : List Element) → spot_at (kind_of path) outside ≡ spot_of path
kind_spot path = by_tests (is_in_svg path) (is_rcdata (current path))
  where
    by_tests : (a b : Bool) → spot_at (cond a in_foreign (cond b in_rcdata in_text)) outside ≡ cond a foreign (cond b rcdata text)
    by_tests true b = refl
    by_tests false true = refl
    by_tests false false = refl

pub kind_stands : (path : List Element) → stands_at (kind_of path) outside ≡ true
kind_stands path = by_tests (is_in_svg path) (is_rcdata (current path))
  where
    by_tests : (a b : Bool) → stands_at (cond a in_foreign (cond b in_rcdata in_text)) outside ≡ true
    by_tests true b = refl
    by_tests false true = refl
    by_tests false false = refl

no_rcdata : (n : List ℕ) → holds_text n ≡ false → is_rcdata n ≡ false
unfolding holds_text
no_rcdata n h = by_tests (is_raw n) (is_rcdata n) h
  where
    by_tests : (a b : Bool) → (a || b) ≡ false → b ≡ false
    by_tests true b k = absurd (cc)
    by_tests false b k = k

top_no_rcdata : is_rcdata [] ≡ false
unfolding is_rcdata rcdata_names is_among
top_no_rcdata = refl

-- where an element holds more than a text, the same bytes keep what is pending
keeps_text : (t : List Entry) (path : List Element) (p : Pending) (s : List ℕ) → is_in_text path ≡ false → keeps t (spot_of path) p s ≡ keeps t text p s
keeps_text t path p s h = by_path path h
  where
    by_tests : (a b : Bool) → (a ≡ false → b ≡ false) → keeps t (cond a foreign (cond b rcdata text)) p s ≡ keeps t text p s
    by_tests true b k = keeps_over t foreign text p s refl (λ c. refl)
    by_tests false true k = absurd (let e = k refl in cc)
    by_tests false false k = refl

    by_foreign : (f v : Bool) → not f && v ≡ false → f ≡ false → v ≡ false
    by_foreign true v k e = absurd (cc)
    by_foreign false v k e = k

    by_path : (path : List Element) → is_in_text path ≡ false → keeps t (spot_of path) p s ≡ keeps t text p s
    by_path [] k = by_tests false (is_rcdata []) (λ e. top_no_rcdata)
    by_path (e ∷ path) k = by_tests e.foreign (is_rcdata e.name) (λ f. no_rcdata e.name (by_foreign e.foreign (holds_text e.name) k f))

-- what is kept in one such place is kept in the other
pub same_kept : (t : List Entry) (a b : List Element) (p : Pending) (s : List ℕ) → is_in_text a ≡ false → is_in_text b ≡ false → keeps t (spot_of b) p s ≡ true → keeps t (spot_of a) p s ≡ true
same_kept t a b p s ha hb k = keeps_text t a p s ha ∙ sym (keeps_text t b p s hb) ∙ k
