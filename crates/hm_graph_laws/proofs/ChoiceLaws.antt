-- What a choice writes, and what has to follow.
use Rattle.std.proofs.Common.{◌≡◌, ℕ, ◌≤◌, Bool, true, false, cond, ◌&&◌, ◌==◌, not, List, [], ◌∷◌, ◌++◌, length, Option, Some, None, refl, sym, ap, ◌∙◌, subst, inl, inr, ◌⊎◌, arith, rules, bytes_eq, is_some, encode_utf8}
use Rattle.std.proofs.lemmas.Slice.Eq.{bytes_eq-Decides}
use Rattle.hm_refs.specs.Names.{Entry, is_good, is_name, last_is, points_of}
use Rattle.hm_refs.specs.Numbers.{best_number}
use Rattle.hm_refs.specs.Tables.{IsIn, IsTable, first, later}
use Rattle.hm_spelling_spec.specs.Characters.{CharacterRules, Spot, is_value, may_stand, stays}
use Rattle.hm_graph_laws.proofs.Pieces.{Itself, Refers}
use Rattle.hm_graph_laws.specs.CharacterEdges.{Choice, as_itself, after_half, after_name, after_pair, by_decimal, by_hexadecimal, by_names, by_pairs, by_references, choice, choices, choices_by, half_of, itself_by, itself_to}
use Rattle.hm_graph_laws.specs.States.{Pending, ampersand, decimal, half, hash, hash_x, hexadecimal, less_than, named, nothing, one_bracket, two_brackets}
use Rattle.hm_graph_laws.specs.Steps.{Fits, FitsAfter, IsOpen, keeps, keeps_after, run, step}
use Rattle.hm_refs.proofs.Bools.{and_left, and_right}
use Rattle.std.proofs.lemmas.Bool.{and_from}
use Rattle.hm_graph_laws.proofs.In.{in_append, only, in_left, in_right}
use Rattle.hm_refs.proofs.Found.{entry_of, good_entry, good_of}
use Rattle.hm_graph_laws.proofs.Steps.{step_law}
use Rattle.hm_graph_laws.proofs.CharacterReading.{name_read, IsName, IsNumber, reference_is}
use Rattle.hm_graph_laws.proofs.Runs.{run_law, run_fits, amp_special, step_special}
use Rattle.hm_graph_laws.proofs.Literals.{literal_law}
use Rattle.hm_graph_laws.proofs.Numbers.{number_reads, number_fits, number_for, hash_one}

-- a choice that writes one point
pub record WritesOne (t : List Entry) (rules : CharacterRules) (spot : Spot) (c : ℕ) (p : Pending) (e : Choice) : Type 0 where
  pub fits : Fits t spot e.to
  pub writes : (x : List ℕ) → keeps t spot e.to x ≡ true → Itself t rules spot c e.bytes x ⊎ (rules.refers c ≡ true) × Refers t spot (c ∷ []) e.bytes x
  pub before : (x : List ℕ) → keeps t spot e.to x ≡ true → keeps t spot p (e.bytes ++ x) ≡ true

-- a choice that writes two points, the second of which another choice skips
pub record WritesTwo (t : List Entry) (rules : CharacterRules) (spot : Spot) (c d : ℕ) (p : Pending) (e : Choice) : Type 0 where
  pub left : Option (List ℕ)
  pub to_is : e.to ≡ half left
  pub fits : Fits t spot (after_half left)
  pub writes : (x : List ℕ) → keeps t spot (after_half left) x ≡ true → (rules.refers c ≡ true) × Refers t spot (c ∷ d ∷ []) e.bytes x
  pub before : (x : List ℕ) → keeps t spot (after_half left) x ≡ true → keeps t spot p (e.bytes ++ x) ≡ true

pub whole_of : (t : List Entry) (spot : Spot) (p : Pending) → Fits t spot p → half_of p ≡ None
whole_of t spot nothing f = refl
whole_of t spot less_than f = refl
whole_of t spot decimal f = refl
whole_of t spot hexadecimal f = refl
whole_of t spot hash f = refl
whole_of t spot hash_x f = refl
whole_of t spot (ampersand q) f = refl
whole_of t spot (named q) f = refl
whole_of t spot (half left) f = absurd f
whole_of t spot one_bracket f = absurd f
whole_of t spot two_brackets f = absurd f

pub root_no_name : (t : List Entry) → IsTable t → is_name t (38 ∷ []) ≡ false
unfolding is_name
root_no_name t k = by_points (points_of t (38 ∷ [])) refl
  where
    by_points : (o : Option (List ℕ)) → points_of t (38 ∷ []) ≡ o → is_some o ≡ false
    by_points None e = refl
    by_points (Some ps) e = absurd (let g = good_of t k (38 ∷ []) ps e in cc)

pub root_open : (t : List Entry) → IsTable t → (v : Bool) → IsOpen t v (38 ∷ [])
root_open t k v = record { some = refl; in_text = λ e. root_no_name t k; in_value = λ e. refl }

fits_cond : (t : List Entry) (spot : Spot) (b : Bool) (p q : Pending) → Fits t spot p → Fits t spot q → Fits t spot (cond b p q)
fits_cond t spot true p q f g = f
fits_cond t spot false p q f g = g

pub itself_fits : (t : List Entry) → IsTable t → (spot : Spot) (c : ℕ) (q : Pending) → Fits t spot q → Fits t spot (itself_to spot c q)
itself_fits t k spot c q g = fits_cond t spot (c == 38) (ampersand (38 ∷ [])) _ (root_open t k (is_value spot)) (fits_cond t spot (c == 60 && not (is_value spot)) less_than q tt g)

itself_choice : (t : List Entry) → IsTable t → (rules : CharacterRules) (spot : Spot) (c : ℕ) (p : Pending) → Fits t spot p → (e : Choice) → IsIn e (as_itself t rules spot c p) → WritesOne t rules spot c p e
unfolding as_itself
itself_choice t k rules spot c p f e i = by_tests (may_stand rules.ascii spot c) (run t spot (Some p) (encode_utf8 c)) refl refl (run_fits t spot (encode_utf8 c) (Some p) f) i
  where
    go : (q : Pending) → may_stand rules.ascii spot c ≡ true → run t spot (Some p) (encode_utf8 c) ≡ Some q → Fits t spot q → WritesOne t rules spot c p (choice (encode_utf8 c) (itself_to spot c q))
    go q m r g = record {
      fits = itself_fits t k spot c q g;
      writes = λ x kept. inl (record { bytes = refl; stands = m; is_kept = and_left (stays t spot c x) (keeps t spot q x) (literal_law t k spot p c f q r x ∙ kept) });
      before = λ x kept. run_law t k spot (encode_utf8 c) x p f ∙ ap (λ n. keeps_after t spot n x) r ∙ and_right (stays t spot c x) (keeps t spot q x) (literal_law t k spot p c f q r x ∙ kept);
    }

    by_tests : (m : Bool) (n : Option Pending) → may_stand rules.ascii spot c ≡ m → run t spot (Some p) (encode_utf8 c) ≡ n → FitsAfter t spot n → IsIn e (cond m (itself_by spot c n) []) → WritesOne t rules spot c p e
    by_tests true (Some q) hm hn g j = subst (λ e'. WritesOne t rules spot c p e') (sym (only e (choice (encode_utf8 c) (itself_to spot c q)) j)) (go q hm hn g)
    by_tests true None hm hn g j = elim j [ ]
    by_tests false n hm hn g j = elim j [ ]

-- the choices that refer stand only where '&' breaks nothing
pub takes : (t : List Entry) → IsTable t → (spot : Spot) (p : Pending) → Fits t spot p → is_some (step t spot p 38) ≡ true → (s : List ℕ) → keeps t spot p (38 ∷ s) ≡ true
takes t k spot p f h s = step_law t k spot p 38 s f ∙ by_step (step t spot p 38) h (step_special t k spot p 38 amp_special f)
  where
    by_step : (n : Option Pending) → is_some n ≡ true → ((r : Pending) → n ≡ Some r → r ≡ nothing) → keeps_after t spot n s ≡ true
    by_step None h' each = absurd (cc)
    by_step (Some q) h' each = rw (each q refl) refl

-- what refers begins with '&'
pub refers_before : (t : List Entry) → IsTable t → (spot : Spot) (p : Pending) → Fits t spot p → is_some (step t spot p 38) ≡ true → (points piece x : List ℕ) → Refers t spot points piece x → keeps t spot p (piece ++ x) ≡ true
refers_before t k spot p f h points piece x r = subst (λ w. keeps t spot p (w ++ x) ≡ true) (sym r.bytes) (takes t k spot p f h (r.inner ++ x))

-- an entry that gives these points, and its choice
pub record IsNamedChoice (t : List Entry) (state : List ℕ → Pending) (points : List ℕ) (e : Choice) : Type 0 where
  pub entry : Entry
  pub among : IsIn entry t
  pub points_are : entry.points ≡ points
  pub choice_is : e ≡ choice entry.name (state entry.name)

more_named : (t : List Entry) (y : Entry) (state : List ℕ → Pending) (points : List ℕ) (e : Choice) → IsNamedChoice t state points e → IsNamedChoice (y ∷ t) state points e
more_named t y state points e n = record { entry = n.entry; among = later y t n.among; points_are = n.points_are; choice_is = n.choice_is }

named_step : (y : Entry) (t : List Entry) (state : List ℕ → Pending) (points : List ℕ) (e : Choice) (b : Bool) → bytes_eq y.points points ≡ b → (IsIn e (by_names state points t) → IsNamedChoice t state points e)
    → IsIn e (cond b (choice y.name (state y.name) ∷ by_names state points t) (by_names state points t)) → IsNamedChoice (y ∷ t) state points e
named_step y t state points e true h each (first zs) = record { entry = y; among = first t; points_are = (bytes_eq-Decides y.points points).0 h; choice_is = refl }
named_step y t state points e true h each (later z zs i) = more_named t y state points e (each i)
named_step y t state points e false h each i = more_named t y state points e (each i)

pub named_is : (t : List Entry) (state : List ℕ → Pending) (points : List ℕ) (e : Choice) → IsIn e (by_names state points t) → IsNamedChoice t state points e
named_is [] state points e i = elim i [ ]
named_is (y ∷ t) state points e i = named_step y t state points e (bytes_eq y.points points) refl (named_is t state points e) i

pub name_fits : (t : List Entry) (spot : Spot) (m : List ℕ) → is_good m ≡ true → Fits t spot (after_name m)
unfolding after_name
name_fits t spot [] g = absurd (cc)
name_fits t spot (x ∷ m) g = fits_cond t spot (last_is 59 (x ∷ m)) nothing (named (x ∷ m)) tt refl

name_choice : (t : List Entry) → IsTable t → (rules : CharacterRules) (spot : Spot) (c : ℕ) (p : Pending) → Fits t spot p → is_some (step t spot p 38) ≡ true → rules.refers c ≡ true → (e : Choice) → IsNamedChoice t after_name (c ∷ []) e → WritesOne t rules spot c p e
name_choice t k rules spot c p f h a e n =
    let reads : (x : List ℕ) → keeps t spot (after_name n.entry.name) x ≡ true → Refers t spot (c ∷ []) n.entry.name x = λ x kept. name_read t k spot n.entry.name (c ∷ []) x (k.own n.entry n.among ∙ ap Some n.points_are) kept in
    subst (λ e'. WritesOne t rules spot c p e') (sym n.choice_is) (record {
      fits = name_fits t spot n.entry.name (good_entry t k n.entry n.among);
      writes = λ x kept. inr (a, reads x kept);
      before = λ x kept. refers_before t k spot p f h (c ∷ []) n.entry.name x (reads x kept);
    })

pub pair_to_is : (m : List ℕ) → (left : Option (List ℕ)) × (after_pair m ≡ half left) × (after_half left ≡ after_name m)
unfolding after_pair after_name
pair_to_is m = by_last (last_is 59 m)
  where
    by_last : (b : Bool) → (left : Option (List ℕ)) × (half (cond b None (Some m)) ≡ half left) × (after_half left ≡ cond b nothing (named m))
    by_last true = (None, refl, refl)
    by_last false = (Some m, refl, refl)

pair_choice : (t : List Entry) → IsTable t → (rules : CharacterRules) (spot : Spot) (c d : ℕ) (p : Pending) → Fits t spot p → is_some (step t spot p 38) ≡ true → rules.refers c ≡ true → (e : Choice) → IsNamedChoice t after_pair (c ∷ d ∷ []) e → WritesTwo t rules spot c d p e
pair_choice t k rules spot c d p f h a e n =
    let (left, to, same) = pair_to_is n.entry.name in
    let reads : (x : List ℕ) → keeps t spot (after_half left) x ≡ true → Refers t spot (c ∷ d ∷ []) n.entry.name x = λ x kept. name_read t k spot n.entry.name (c ∷ d ∷ []) x (k.own n.entry n.among ∙ ap Some n.points_are) (subst (λ q. keeps t spot q x ≡ true) same kept) in
    subst (λ e'. WritesTwo t rules spot c d p e') (sym n.choice_is) (record {
      left = left;
      to_is = to;
      fits = subst (λ q. Fits t spot q) (sym same) (name_fits t spot n.entry.name (good_entry t k n.entry n.among));
      writes = λ x kept. (a, reads x kept);
      before = λ x kept. refers_before t k spot p f h (c ∷ d ∷ []) n.entry.name x (reads x kept);
    })

number_choice : (t : List Entry) → IsTable t → (rules : CharacterRules) (spot : Spot) (c : ℕ) (p : Pending) → Fits t spot p → is_some (step t spot p 38) ≡ true → rules.refers c ≡ true → (e : Choice) → IsIn e (by_decimal (best_number c) ++ by_hexadecimal c) → WritesOne t rules spot c p e
number_choice t k rules spot c p f h a e i = record {
  fits = number_fits t spot c e i;
  writes = λ x kept. inr (a, number_reads t k spot c e i x kept);
  before = λ x kept. refers_before t k spot p f h (c ∷ []) e.bytes x (number_reads t k spot c e i x kept);
}

-- each choice of a character writes it, or it and the next
abbrev pub Writes : List Entry → CharacterRules → Spot → ℕ → Option ℕ → Pending → Choice → Type 0
Writes t rules spot c next p e = WritesOne t rules spot c p e ⊎ ((d : ℕ) × (next ≡ Some d) × WritesTwo t rules spot c d p e)

pair_writes : (t : List Entry) → IsTable t → (rules : CharacterRules) (spot : Spot) (c : ℕ) (next : Option ℕ) (p : Pending) → Fits t spot p → is_some (step t spot p 38) ≡ true → rules.refers c ≡ true → (e : Choice) → IsIn e (by_pairs t c next) → Writes t rules spot c next p e
pair_writes t k rules spot c None p f h a e i = elim i [ ]
pair_writes t k rules spot c (Some d) p f h a e i = inr (d, refl, pair_choice t k rules spot c d p f h a e (named_is t after_pair (c ∷ d ∷ []) e i))

reference_writes : (t : List Entry) → IsTable t → (rules : CharacterRules) (spot : Spot) (c : ℕ) (next : Option ℕ) (p : Pending) → Fits t spot p → is_some (step t spot p 38) ≡ true → rules.refers c ≡ true → (e : Choice) → IsIn e (by_references t c next) → Writes t rules spot c next p e
reference_writes t k rules spot c next p f h a e i = by_first (in_append e (by_names after_name (c ∷ []) t) (by_pairs t c next ++ (by_decimal (best_number c) ++ by_hexadecimal c)) i)
  where
    by_second : IsIn e (by_pairs t c next) ⊎ IsIn e (by_decimal (best_number c) ++ by_hexadecimal c) → Writes t rules spot c next p e
    by_second (inl j) = pair_writes t k rules spot c next p f h a e j
    by_second (inr j) = inl (number_choice t k rules spot c p f h a e j)

    by_first : IsIn e (by_names after_name (c ∷ []) t) ⊎ IsIn e (by_pairs t c next ++ (by_decimal (best_number c) ++ by_hexadecimal c)) → Writes t rules spot c next p e
    by_first (inl j) = inl (name_choice t k rules spot c p f h a e (named_is t after_name (c ∷ []) e j))
    by_first (inr j) = by_second (in_append e (by_pairs t c next) (by_decimal (best_number c) ++ by_hexadecimal c) j)

pub choice_writes : (t : List Entry) → IsTable t → (rules : CharacterRules) (spot : Spot) (c : ℕ) (next : Option ℕ) (p : Pending) → Fits t spot p → (e : Choice) → IsIn e (choices t rules spot c next p) → Writes t rules spot c next p e
choice_writes t k rules spot c next p f e i = by_takes (is_some (step t spot p 38) && rules.refers c) refl (subst (λ o. IsIn e (choices_by o t rules spot c next p)) (whole_of t spot p f) i)
  where
    by_part : (b : Bool) → (is_some (step t spot p 38) && rules.refers c) ≡ b → IsIn e (cond b (by_references t c next) []) → Writes t rules spot c next p e
    by_part true h j = reference_writes t k rules spot c next p f (and_left (is_some (step t spot p 38)) (rules.refers c) h) (and_right (is_some (step t spot p 38)) (rules.refers c) h) e j
    by_part false h j = elim j [ ]

    by_either : (b : Bool) → (is_some (step t spot p 38) && rules.refers c) ≡ b → IsIn e (as_itself t rules spot c p) ⊎ IsIn e (cond b (by_references t c next) []) → Writes t rules spot c next p e
    by_either b h (inl j) = inl (itself_choice t k rules spot c p f e j)
    by_either b h (inr j) = by_part b h j

    by_takes : (b : Bool) → (is_some (step t spot p 38) && rules.refers c) ≡ b → IsIn e (as_itself t rules spot c p ++ cond b (by_references t c next) []) → Writes t rules spot c next p e
    by_takes b h j = by_either b h (in_append e (as_itself t rules spot c p) (cond b (by_references t c next) []) j)

-- a choice for a spelling of one point
pub record ChoiceFor (t : List Entry) (spot : Spot) (choices : List Choice) (piece x : List ℕ) : Type 0 where
  pub choice_for : Choice
  pub among : IsIn choice_for choices
  pub fits : Fits t spot choice_for.to
  pub kept : keeps t spot choice_for.to x ≡ true
  pub short : length choice_for.bytes ≤ length piece

put_in : (t : List Entry) (spot : Spot) (es fs : List Choice) (piece x : List ℕ) → ((e : Choice) → IsIn e es → IsIn e fs) → ChoiceFor t spot es piece x → ChoiceFor t spot fs piece x
put_in t spot es fs piece x each e = record { choice_for = e.choice_for; among = each e.choice_for e.among; fits = e.fits; kept = e.kept; short = e.short }

itself_for : (t : List Entry) → IsTable t → (rules : CharacterRules) (spot : Spot) (c : ℕ) (p : Pending) (piece x : List ℕ) → Fits t spot p → Itself t rules spot c piece x → keeps t spot p (piece ++ x) ≡ true → ChoiceFor t spot (as_itself t rules spot c p) piece x
unfolding as_itself
itself_for t k rules spot c p piece x f l kept =
    by_run (run t spot (Some p) (encode_utf8 c)) refl (run_fits t spot (encode_utf8 c) (Some p) f)
    (sym (run_law t k spot (encode_utf8 c) x p f) ∙ subst (λ w. keeps t spot p (w ++ x) ≡ true) l.bytes kept)
  where
    by_run : (n : Option Pending) → run t spot (Some p) (encode_utf8 c) ≡ n → FitsAfter t spot n → keeps_after t spot (run t spot (Some p) (encode_utf8 c)) x ≡ true → ChoiceFor t spot (as_itself t rules spot c p) piece x
    by_run None e g h = absurd (let h' = subst (λ n. keeps_after t spot n x ≡ true) e h in cc)
    by_run (Some q) e g h =
        let here : as_itself t rules spot c p ≡ choice (encode_utf8 c) (itself_to spot c q) ∷ [] = rw (l.stands, e) refl in
        record {
          choice_for = choice (encode_utf8 c) (itself_to spot c q);
          among = subst (λ es. IsIn (choice (encode_utf8 c) (itself_to spot c q)) es) (sym here) (first []);
          fits = itself_fits t k spot c q g;
          kept = sym (literal_law t k spot p c f q e x) ∙ and_from (stays t spot c x) (keeps t spot q x) l.is_kept (subst (λ n. keeps_after t spot n x ≡ true) e h);
          short = subst (λ w. length (encode_utf8 c) ≤ length w) (sym l.bytes) (omega arith);
        }

pub named_in : (t : List Entry) (state : List ℕ → Pending) (points : List ℕ) (n : Entry) → IsIn n t → n.points ≡ points → IsIn (choice n.name (state n.name)) (by_names state points t)
named_in [] state points n i h = elim i [ ]
named_in (y ∷ t) state points n (first zs) h = let e : bytes_eq y.points points ≡ true = (bytes_eq-Decides y.points points).1 h in rw e (first (by_names state points t))
named_in (y ∷ t) state points n (later z zs i) h = by_test (bytes_eq y.points points) (named_in t state points n i h)
  where
    by_test : (b : Bool) → IsIn (choice n.name (state n.name)) (by_names state points t) → IsIn (choice n.name (state n.name)) (cond b (choice y.name (state y.name) ∷ by_names state points t) (by_names state points t))
    by_test true j = later (choice y.name (state y.name)) (by_names state points t) j
    by_test false j = j

-- the choice of a name that spells these points
pub name_in : (t : List Entry) (spot : Spot) (state : List ℕ → Pending) (points piece x : List ℕ) → IsName t spot points piece x → IsIn (choice piece (state piece)) (by_names state points t)
name_in t spot state points piece x n = let en = entry_of t piece points n.own in
    subst (λ m. IsIn (choice m (state m)) (by_names state points t)) en.name_is (named_in t state points en.entry en.among en.points_are)

name_for : (t : List Entry) → IsTable t → (spot : Spot) (c : ℕ) (piece x : List ℕ) → IsName t spot (c ∷ []) piece x → ChoiceFor t spot (by_names after_name (c ∷ []) t) piece x
name_for t k spot c piece x n = record {
  choice_for = choice piece (after_name piece);
  among = name_in t spot after_name (c ∷ []) piece x n;
  fits = name_fits t spot piece (good_of t k piece (c ∷ []) n.own);
  kept = n.kept;
  short = omega arith;
}

-- where a reference keeps what is pending, '&' breaks nothing
pub takes_amp : (t : List Entry) → IsTable t → (spot : Spot) (p : Pending) → Fits t spot p → (points piece x : List ℕ) → Refers t spot points piece x → keeps t spot p (piece ++ x) ≡ true → is_some (step t spot p 38) ≡ true
takes_amp t k spot p f points piece x r h = by_step (step t spot p 38) (sym (step_law t k spot p 38 (r.inner ++ x) f) ∙ subst (λ w. keeps t spot p (w ++ x) ≡ true) r.bytes h)
  where
    by_step : (n : Option Pending) → keeps_after t spot n (r.inner ++ x) ≡ true → is_some n ≡ true
    by_step None g = absurd (cc)
    by_step (Some q) g = refl

reference_for : (t : List Entry) → IsTable t → (spot : Spot) (c : ℕ) (next : Option ℕ) (piece x : List ℕ) → IsName t spot (c ∷ []) piece x ⊎ IsNumber (c ∷ []) piece x → ChoiceFor t spot (by_references t c next) piece x
reference_for t k spot c next piece x (inl n) = put_in t spot (by_names after_name (c ∷ []) t) (by_references t c next) piece x (λ e i. in_left e (by_names after_name (c ∷ []) t) (by_pairs t c next ++ (by_decimal (best_number c) ++ by_hexadecimal c)) i) (name_for t k spot c piece x n)
reference_for t k spot c next piece x (inr n) =
    let m = number_for t spot c piece x n in
    record {
      choice_for = m.choice_for;
      among = in_right m.choice_for (by_names after_name (c ∷ []) t) (by_pairs t c next ++ (by_decimal (best_number c) ++ by_hexadecimal c)) (in_right m.choice_for (by_pairs t c next) (by_decimal (best_number c) ++ by_hexadecimal c) m.among);
      fits = number_fits t spot c m.choice_for m.among;
      kept = m.kept;
      short = m.short;
    }

-- where '&' breaks nothing, the choices that refer are there
pub refer_in : (t : List Entry) (rules : CharacterRules) (spot : Spot) (c : ℕ) (next : Option ℕ) (p : Pending) → Fits t spot p → is_some (step t spot p 38) ≡ true → rules.refers c ≡ true → (e : Choice) → IsIn e (by_references t c next) → IsIn e (choices t rules spot c next p)
refer_in t rules spot c next p f h a e i =
    let part : IsIn e (cond (is_some (step t spot p 38) && rules.refers c) (by_references t c next) []) = rw (h, a) i in
    subst (λ o. IsIn e (choices_by o t rules spot c next p)) (sym (whole_of t spot p f)) (in_right e (as_itself t rules spot c p) (cond (is_some (step t spot p 38) && rules.refers c) (by_references t c next) []) part)

itself_in : (t : List Entry) (rules : CharacterRules) (spot : Spot) (c : ℕ) (next : Option ℕ) (p : Pending) → Fits t spot p → (e : Choice) → IsIn e (as_itself t rules spot c p) → IsIn e (choices t rules spot c next p)
itself_in t rules spot c next p f e i = subst (λ o. IsIn e (choices_by o t rules spot c next p)) (sym (whole_of t spot p f)) (in_left e (as_itself t rules spot c p) (cond (is_some (step t spot p 38) && rules.refers c) (by_references t c next) []) i)

-- each spelling of a point has a choice with at most as many bytes
pub choice_for_one : (t : List Entry) → IsTable t → (rules : CharacterRules) (spot : Spot) (c : ℕ) (next : Option ℕ) (p : Pending) (piece x : List ℕ) → Fits t spot p → keeps t spot p (piece ++ x) ≡ true → Itself t rules spot c piece x ⊎ (rules.refers c ≡ true) × Refers t spot (c ∷ []) piece x → ChoiceFor t spot (choices t rules spot c next p) piece x
choice_for_one t k rules spot c next p piece x f h (inl l) = put_in t spot (as_itself t rules spot c p) (choices t rules spot c next p) piece x (itself_in t rules spot c next p f) (itself_for t k rules spot c p piece x f l h)
choice_for_one t k rules spot c next p piece x f h (inr (a, r)) = put_in t spot (by_references t c next) (choices t rules spot c next p) piece x (refer_in t rules spot c next p f (takes_amp t k spot p f (c ∷ []) piece x r h) a) (reference_for t k spot c next piece x (reference_is t k spot (c ∷ []) piece x r))

-- a choice for a spelling of two points
pub record PairFor (t : List Entry) (spot : Spot) (choices : List Choice) (piece x : List ℕ) : Type 0 where
  pub left : Option (List ℕ)
  pub among : IsIn (choice piece (half left)) choices
  pub fits : Fits t spot (after_half left)
  pub kept : keeps t spot (after_half left) x ≡ true

pub choice_for_two : (t : List Entry) → IsTable t → (rules : CharacterRules) (spot : Spot) (c d : ℕ) (p : Pending) (piece x : List ℕ) → Fits t spot p → keeps t spot p (piece ++ x) ≡ true → rules.refers c ≡ true → Refers t spot (c ∷ d ∷ []) piece x → PairFor t spot (choices t rules spot c (Some d) p) piece x
choice_for_two t k rules spot c d p piece x f h a r = by_kind (reference_is t k spot (c ∷ d ∷ []) piece x r)
  where
    by_kind : IsName t spot (c ∷ d ∷ []) piece x ⊎ IsNumber (c ∷ d ∷ []) piece x → PairFor t spot (choices t rules spot c (Some d) p) piece x
    by_kind (inl n) =
        let (left, to, same) = pair_to_is piece in
        let i = name_in t spot after_pair (c ∷ d ∷ []) piece x n in
        let i' = subst (λ s. IsIn (choice piece s) (by_pairs t c (Some d))) to i in
        record {
          left = left;
          among = refer_in t rules spot c (Some d) p f (takes_amp t k spot p f (c ∷ d ∷ []) piece x r h) a (choice piece (half left))
              (in_right (choice piece (half left)) (by_names after_name (c ∷ []) t) (by_pairs t c (Some d) ++ (by_decimal (best_number c) ++ by_hexadecimal c)) (in_left (choice piece (half left)) (by_pairs t c (Some d)) (by_decimal (best_number c) ++ by_hexadecimal c) i'));
          fits = subst (λ q. Fits t spot q) (sym same) (name_fits t spot piece (good_of t k piece (c ∷ d ∷ []) n.own));
          kept = subst (λ q. keeps t spot q x ≡ true) (sym same) n.kept;
        }
    by_kind (inr n) = absurd (let (m, i) = hash_one n.inner (record { points = c ∷ d ∷ []; len = length piece }) n.read in cc)
