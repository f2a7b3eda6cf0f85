-- When a name is the reference that is read.
use Rattle.std.proofs.Common.{◌≡◌, ℕ, Bool, true, false, cond, ◌&&◌, ◌==◌, not, List, [], ◌∷◌, ◌++◌, length, Option, Some, None, refl, sym, ap, ◌∙◌, subst, inl, inr, ◌⊎◌, arith, is_none}
use Rattle.hm_base.specs.Bytes.{rest_after, head_is, is_alnum, is_letter, is_null}
use Rattle.hm_refs.specs.Names.{Entry, Found, found, found_longer, is_good, last_is, points_of}
use Rattle.hm_refs.specs.References.{Reference, blocks, is_blocked, reference, reference_by}
use Rattle.hm_refs.specs.Tables.{IsTable}
use Rattle.hm_spelling_spec.specs.Characters.{Spot, is_value}
use Rattle.hm_graph_laws.proofs.Pieces.{Refers}
use Rattle.hm_graph_laws.specs.CharacterEdges.{after_name}
use Rattle.hm_graph_laws.specs.States.{named, nothing}
use Rattle.hm_graph_laws.specs.Steps.{keeps, reference_after}
use Rattle.hm_refs.specs.References as references
use Rattle.hm_refs.proofs.Bools.{and_left, and_right, eq_of}
use Rattle.hm_refs.proofs.Found.{good_of, here_found, found_front, found_last, found_over, semicolon_longer}
use Rattle.hm_graph_laws.proofs.PendingReading.{reference_amp, read_after, read_end, read_hash}

pub same_length : (a c b d : List ℕ) → length a ≡ length c → a ++ b ≡ c ++ d → (a ≡ c) × (b ≡ d)
same_length [] [] b d h e = (refl, e)
same_length [] (y ∷ c) b d h e = absurd (omega arith)
same_length (x ∷ a) [] b d h e = absurd (omega arith)
same_length (x ∷ a) (y ∷ c) b d h e = let r = same_length a c b d (omega arith) (cc) in (let i : x ≡ y = cc in let j = r.0 in cc, r.1)

letter_hash : is_letter 35 ≡ false
unfolding is_letter
letter_hash = refl

letter_no_hash : (b : ℕ) → is_letter b ≡ true → (35 == b) ≡ false
letter_no_hash b h = by_test (35 == b) refl
  where
    by_test : (e : Bool) → (35 == b) ≡ e → e ≡ false
    by_test false e = refl
    by_test true e = let l = subst (λ c. is_letter c ≡ true) (sym (eq_of 35 b e)) h in let n = letter_hash in absurd (cc)

-- a name's own bytes: '&', and no '#' after it
pub record Shape (m : List ℕ) : Type 0 where
  pub second : ℕ
  pub more : List ℕ
  pub is : m ≡ 38 ∷ second ∷ more
  pub no_hash : (35 == second) ≡ false

pub name_shape : (m : List ℕ) → is_good m ≡ true → Shape m
name_shape [] g = absurd (cc)
name_shape (a ∷ []) g = absurd (cc)
name_shape (a ∷ b ∷ []) g = absurd (cc)
name_shape (a ∷ b ∷ c ∷ s) g =
    let e = eq_of a 38 (and_left (a == 38) (is_letter b && (is_alnum c && _)) g) in
    record { second = b; more = c ∷ s; is = rw e refl; no_hash = letter_no_hash b (and_left (is_letter b) (is_alnum c && _) (and_right (a == 38) (is_letter b && (is_alnum c && _)) g)) }

pub record Ends (m : List ℕ) : Type 0 where
  pub begin : List ℕ
  pub is : m ≡ begin ++ 59 ∷ []

pub ends_so : (m : List ℕ) → last_is 59 m ≡ true → Ends m
ends_so [] h = absurd (cc)
ends_so (x ∷ []) h = record { begin = []; is = let e = eq_of 59 x h in rw e refl }
ends_so (x ∷ y ∷ m) h = let r = ends_so (y ∷ m) h in record { begin = x ∷ r.begin; is = ap (λ w. x ∷ w) r.is }

begin_some : (m q : List ℕ) → is_good m ≡ true → m ≡ q ++ 59 ∷ [] → is_null q ≡ false
begin_some m [] g e = absurd (let g' = subst (λ w. is_good w ≡ true) e g in cc)
begin_some m (x ∷ q) g e = refl

-- a name that ends in ';' is never too short
pub closed_longer : (t : List Entry) → IsTable t → (m x : List ℕ) → is_good m ≡ true → last_is 59 m ≡ true → found_longer t m x ≡ None
closed_longer t k m x g h = let e = ends_so m h in
    subst (λ w. found_longer t w x ≡ None) (sym e.is) (semicolon_longer t k e.begin x (begin_some m e.begin g e.is))

-- the state after a name keeps it exactly where nothing longer is found and nothing blocks it
pub name_kept : (t : List Entry) → IsTable t → (spot : Spot) (m ps x : List ℕ) → is_good m ≡ true → keeps t spot (after_name m) x ≡ true
    → (found_longer t m x ≡ None) × (is_blocked (is_value spot) (record { name = m; points = ps; rest = x }) ≡ false)
unfolding after_name is_blocked
name_kept t k spot m ps x g h = by_last (last_is 59 m) refl h
  where
    by_last : (l : Bool) → last_is 59 m ≡ l → keeps t spot (cond l nothing (named m)) x ≡ true → (found_longer t m x ≡ None) × ((is_value spot && not l && head_is blocks x) ≡ false)
    by_last true e h' = (closed_longer t k m x g e, by_bools (is_value spot) (head_is blocks x))
      where
        by_bools : (v b : Bool) → (v && not true && b) ≡ false
        by_bools true b = refl
        by_bools false b = refl
    by_last false e h' = (by_none (found_longer t m x) (and_right (not (is_value spot && head_is blocks x)) (is_none (found_longer t m x)) h'), by_bools (is_value spot) (head_is blocks x) (and_left (not (is_value spot && head_is blocks x)) (is_none (found_longer t m x)) h'))
      where
        by_none : (o : Option Found) → is_none o ≡ true → o ≡ None
        by_none None i = refl
        by_none (Some f) i = absurd (cc)

        by_bools : (v b : Bool) → not (v && b) ≡ true → (v && not false && b) ≡ false
        by_bools true true i = absurd (cc)
        by_bools true false i = refl
        by_bools false b i = refl

pub keeps_name : (t : List Entry) (spot : Spot) (m ps x : List ℕ) → found_longer t m x ≡ None → is_blocked (is_value spot) (record { name = m; points = ps; rest = x }) ≡ false → keeps t spot (after_name m) x ≡ true
unfolding after_name is_blocked
keeps_name t spot m ps x l b = by_last (last_is 59 m) b
  where
    by_last : (e : Bool) → (is_value spot && not e && head_is blocks x) ≡ false → keeps t spot (cond e nothing (named m)) x ≡ true
    by_last true h = refl
    by_last false h = rw l (by_bools (is_value spot) (head_is blocks x) h)
      where
        by_bools : (v b : Bool) → (v && not false && b) ≡ false → (not (v && b) && true) ≡ true
        by_bools true true i = absurd (cc)
        by_bools true false i = refl
        by_bools false b i = refl

unblocked : (v : Bool) (f : Found) → is_blocked v f ≡ false → references.named v (Some f) ≡ Some (record { points = f.points; len = length f.name })
unblocked v f h = rw h refl

-- a name that is kept is read
pub name_read : (t : List Entry) → IsTable t → (spot : Spot) (m ps x : List ℕ) → points_of t m ≡ Some ps → keeps t spot (after_name m) x ≡ true → Refers t spot ps m x
name_read t k spot m ps x h kept =
    let g = good_of t k m ps h in
    let s = name_shape m g in
    let n = name_kept t k spot m ps x g kept in
    let here : found t m x ≡ Some (record { name = m; points = ps; rest = x }) = rw (found_over t m x, n.0, here_found t m ps x h) refl in
    let all : found t (38 ∷ []) ((s.second ∷ s.more) ++ x) ≡ Some (record { name = m; points = ps; rest = x }) = found_front t (s.second ∷ s.more) (38 ∷ []) x (record { name = m; points = ps; rest = x }) (subst (λ w. found t w x ≡ Some (record { name = m; points = ps; rest = x })) s.is here) in
    let cut : m ++ x ≡ 38 ∷ (s.second ∷ (s.more ++ x)) = ap (λ w. w ++ x) s.is in
    record {
      inner = s.second ∷ s.more;
      bytes = s.is;
      found = ap (λ w. reference t (is_value spot) w) cut ∙ reference_amp t k (is_value spot) (s.second ∷ (s.more ++ x)) ∙ read_after t (is_value spot) s.second (s.more ++ x) s.no_hash ∙ ap (λ f. references.named (is_value spot) f) all ∙ unblocked (is_value spot) (record { name = m; points = ps; rest = x }) n.1;
    }

-- what a reference is: a name that is kept, or a number
pub record IsName (t : List Entry) (spot : Spot) (points piece after : List ℕ) : Type 0 where
  pub own : points_of t piece ≡ Some points
  pub kept : keeps t spot (after_name piece) after ≡ true

pub record IsNumber (points piece after : List ℕ) : Type 0 where
  pub inner : List ℕ
  pub cut : piece ++ after ≡ 38 ∷ 35 ∷ inner
  pub read : references.hash inner ≡ Some (record { points = points; len = length piece })

pub named_of : (v : Bool) (o : Option Found) (r : Reference) → references.named v o ≡ Some r → (f : Found) × (o ≡ Some f) × (is_blocked v f ≡ false) × (f.points ≡ r.points) × (length f.name ≡ r.len)
named_of v None r h = absurd (cc)
named_of v (Some f) r h = by_block (is_blocked v f) refl h
  where
    by_block : (b : Bool) → is_blocked v f ≡ b → cond b None (Some (record { points = f.points; len = length f.name })) ≡ Some r → (g : Found) × (Some f ≡ Some g) × (is_blocked v g ≡ false) × (g.points ≡ r.points) × (length g.name ≡ r.len)
    by_block true e k = absurd (cc)
    by_block false e k = (f, refl, e, cc, cc)

name_of : (t : List Entry) (spot : Spot) (points piece after w : List ℕ) → piece ++ after ≡ 38 ∷ w → references.named (is_value spot) (found t (38 ∷ []) w) ≡ Some (record { points = points; len = length piece }) → IsName t spot points piece after
name_of t spot points piece after w cut h =
    let (f, is, b, ps, l) = named_of (is_value spot) (found t (38 ∷ []) w) (record { points = points; len = length piece }) h in
    let k = found_last t (38 ∷ []) w f is in
    let both = same_length f.name piece f.rest after l (k.cut ∙ sym cut) in
    record {
      own = subst (λ n. points_of t n ≡ Some points) both.0 (k.own ∙ ap Some ps);
      kept = subst (λ n. keeps t spot (after_name n) after ≡ true) both.0 (subst (λ r. keeps t spot (after_name f.name) r ≡ true) both.1 (keeps_name t spot f.name f.points f.rest k.last b));
    }

pub reference_is : (t : List Entry) → IsTable t → (spot : Spot) (points piece after : List ℕ) → Refers t spot points piece after → IsName t spot points piece after ⊎ IsNumber points piece after
reference_is t k spot points piece after r = by_rest (r.inner ++ after) refl
  where
    by_rest : (w : List ℕ) → r.inner ++ after ≡ w → IsName t spot points piece after ⊎ IsNumber points piece after
    by_rest [] e =
        let cut : piece ++ after ≡ 38 ∷ [] = ap (λ p. p ++ after) r.bytes ∙ ap (λ x. 38 ∷ x) e in
        inl (name_of t spot points piece after [] cut (sym (ap (λ x. reference t (is_value spot) x) cut ∙ reference_amp t k (is_value spot) [] ∙ read_end t (is_value spot)) ∙ r.found))
    by_rest (c ∷ w) e =
        let cut : piece ++ after ≡ 38 ∷ c ∷ w = ap (λ p. p ++ after) r.bytes ∙ ap (λ x. 38 ∷ x) e in
        let found = sym (ap (λ x. reference t (is_value spot) x) cut ∙ reference_amp t k (is_value spot) (c ∷ w)) ∙ r.found in
        by_hash (35 == c) refl cut found
      where
        by_hash : (b : Bool) → (35 == c) ≡ b → piece ++ after ≡ 38 ∷ c ∷ w → reference_after t (is_value spot) (38 ∷ []) (c ∷ w) ≡ Some (record { points = points; len = length piece }) → IsName t spot points piece after ⊎ IsNumber points piece after
        by_hash false h cut f = inl (name_of t spot points piece after (c ∷ w) cut (sym (read_after t (is_value spot) c w h) ∙ f))
        by_hash true h cut f = inr (record { inner = w; cut = subst (λ d. piece ++ after ≡ 38 ∷ d ∷ w) (sym (eq_of 35 c h)) cut; read = sym (read_hash t (is_value spot) c w h) ∙ f })
