-- The JSON of a walk, item by item.
use Rattle.std.proofs.Common.{◌≡◌, ℕ, ◌+◌, ◌<◌, Bool, true, false, nat_lt, List, [], ◌∷◌, ◌++◌, length, take, drop, get_or, slice_get, flat_map, Some, codes, refl, sym, ap, ◌∙◌, arith, append_assoc}
use Rattle.std.proofs.lemmas.Grind.{flat_map-append}
use Rattle.std.proofs.lemmas.List.{append-nil, take_more, take-append-drop, length-take-le}
use Rattle.std.proofs.lemmas.Option.{slice_get_within, get_or_from_slice_get}
use Rattle.hm_base.specs.Walks.{Attribute, Event, start, text, comment, end}
use Rattle.serde_json.specs.Written.{items_text, comma_if}
use Rattle.json.specs.Print.{escape_byte}
use Rattle.hm_json_tree.specs.Reading.{attributes_data, walk_data}
use Rattle.hm_json_tree.specs.Texts.{json_text}
use Rattle.hm_json_tree.specs.Written.{with_commas, event_text, attribute_text, events_text, attributes_text}

module _ {X : Type 0} (shown : X → List ℕ) where
  later_push : (xs : List X) (x : X) → with_commas shown true (xs ++ x ∷ []) ≡ with_commas shown true xs ++ (44 ∷ shown x)
  later_push [] x = ap (λ t. 44 ∷ t) (append-nil (shown x))
  later_push (y ∷ xs) x = ap (λ t. 44 ∷ (shown y ++ t)) (later_push xs x) ∙ ap (λ t. 44 ∷ t) (sym (append_assoc (shown y) (with_commas shown true xs) (44 ∷ shown x)))

  first_push : (xs : List X) (x : X) (i : ℕ) → i ≡ length xs → with_commas shown false (xs ++ x ∷ []) ≡ with_commas shown false xs ++ (comma_if (nat_lt 0 i) ++ shown x)
  first_push [] x i e = rw e (append-nil (shown x))
  first_push (y ∷ xs) x i e = let some : nat_lt 0 i ≡ true = let n : 0 < i = omega (arith, e) in grind arith in rw some (ap (λ t. shown y ++ t) (later_push xs x) ∙ sym (append_assoc (shown y) (with_commas shown true xs) (44 ∷ shown x)))

  -- one more text
  pub commas_more : (xs : List X) (i : ℕ) (x : X) → slice_get xs i ≡ Some x → with_commas shown false (take i xs) ++ (comma_if (nat_lt 0 i) ++ shown x) ≡ with_commas shown false (take (i + 1) xs)
  commas_more xs i x at =
      let within = slice_get_within xs i x at in
      sym (ap (with_commas shown false) (rw (take_more xs i x within, get_or_from_slice_get xs i x x at) refl) ∙ first_push (take i xs) x i (sym (length-take-le i xs (omega (arith, within)))))

  later_append : (xs ys : List X) → with_commas shown true (xs ++ ys) ≡ with_commas shown true xs ++ with_commas shown true ys
  later_append [] ys = refl
  later_append (x ∷ xs) ys = ap (λ t. 44 ∷ (shown x ++ t)) (later_append xs ys) ∙ ap (λ t. 44 ∷ t) (sym (append_assoc (shown x) (with_commas shown true xs) (with_commas shown true ys)))

  -- texts so far begin all texts
  rest_of : (xs ys : List X) → (rest : List ℕ) × (with_commas shown false xs ++ rest ≡ with_commas shown false (xs ++ ys))
  rest_of [] ys = (with_commas shown false ys, refl)
  rest_of (x ∷ xs) ys = (with_commas shown true ys, append_assoc (shown x) (with_commas shown true xs) (with_commas shown true ys) ∙ ap (λ t. shown x ++ t) (sym (later_append xs ys)))

  pub commas_rest : (xs : List X) (i : ℕ) → (rest : List ℕ) × (with_commas shown false (take i xs) ++ rest ≡ with_commas shown false xs)
  commas_rest xs i = let r = rest_of (take i xs) (drop i xs) in (r.0, r.1 ∙ ap (with_commas shown false) (take-append-drop i xs))

closed_walk : (later : Bool) (w : List Event) → items_text later (walk_data w) ≡ with_commas event_text later w ++ 93 ∷ []
closed_walk later [] = refl
closed_walk later (e ∷ w) =
    ap (λ t. comma_if later ++ (event_text e ++ t)) (closed_walk true w) ∙ ap (λ t. comma_if later ++ t) (sym (append_assoc (event_text e) (with_commas event_text true w) (93 ∷ [])))
    ∙ sym (append_assoc (comma_if later) (event_text e ++ with_commas event_text true w) (93 ∷ []))

pub closed_text : (w : List Event) → 91 ∷ (events_text w ++ 93 ∷ []) ≡ json_text w
unfolding json_text
closed_text w = sym (ap (λ t. 91 ∷ t) (closed_walk false w))

closed_attributes : (later : Bool) (attributes : List Attribute) → items_text later (attributes_data attributes) ≡ with_commas attribute_text later attributes ++ 93 ∷ []
closed_attributes later [] = refl
closed_attributes later (a ∷ attributes) =
    ap (λ t. comma_if later ++ (attribute_text a ++ t)) (closed_attributes true attributes) ∙ ap (λ t. comma_if later ++ t) (sym (append_assoc (attribute_text a) (with_commas attribute_text true attributes) (93 ∷ [])))
    ∙ sym (append_assoc (comma_if later) (attribute_text a ++ with_commas attribute_text true attributes) (93 ∷ []))

-- ---- Items

-- the quote after a text, and what follows it
quoted_then : (s rest : List ℕ) → flat_map escape_byte s ++ (34 ∷ rest) ≡ (flat_map escape_byte s ++ 34 ∷ []) ++ rest
quoted_then s rest = sym (append_assoc (flat_map escape_byte s) (34 ∷ []) rest)

pub text_shown : (s : List ℕ) (raw : Bool) → codes "[\"text\",\"" ++ (flat_map escape_byte s ++ codes "\"]") ≡ event_text (text s raw)
unfolding escape_byte
text_shown s raw = ap (λ t. codes "[\"text\",\"" ++ t) (quoted_then s (93 ∷ []))

pub comment_shown : (s : List ℕ) → codes "[\"comment\",\"" ++ (flat_map escape_byte s ++ codes "\"]") ≡ event_text (comment s)
unfolding escape_byte
comment_shown s = ap (λ t. codes "[\"comment\",\"" ++ t) (quoted_then s (93 ∷ []))

pub end_shown : (n : List ℕ) (f : Bool) → codes "[\"end\"]" ≡ event_text (end n f)
unfolding escape_byte
end_shown n f = refl

pub start_shown : (n : List ℕ) (f : Bool) (attributes : List Attribute) → (codes "[\"start\",\"" ++ (flat_map escape_byte n ++ codes "\",[")) ++ (attributes_text attributes ++ codes "]]") ≡ event_text (start n f attributes)
unfolding escape_byte
start_shown n f attributes =
    let b : List ℕ = attributes_text attributes in
    let inner : b ++ 93 ∷ 93 ∷ [] ≡ items_text false (attributes_data attributes) ++ 93 ∷ [] = sym (append_assoc b (93 ∷ []) (93 ∷ [])) ∙ ap (λ t. t ++ 93 ∷ []) (sym (closed_attributes false attributes)) in
    ap (λ t. codes "[\"start\",\"" ++ t)
    (append_assoc (flat_map escape_byte n) (34 ∷ 44 ∷ 91 ∷ []) (b ++ 93 ∷ 93 ∷ []) ∙ quoted_then n (44 ∷ 91 ∷ (b ++ 93 ∷ 93 ∷ [])) ∙ ap (λ t. (flat_map escape_byte n ++ 34 ∷ []) ++ (44 ∷ 91 ∷ t)) inner)

pub attribute_shown : (n v : List ℕ) → (codes "[\"" ++ (flat_map escape_byte n ++ codes "\",\"")) ++ ([] ++ (flat_map escape_byte v ++ codes "\"]")) ≡ attribute_text (record { name = n; value = v })
attribute_shown n v =
    ap (λ t. codes "[\"" ++ t)
    (append_assoc (flat_map escape_byte n) (34 ∷ 44 ∷ 34 ∷ []) (flat_map escape_byte v ++ 34 ∷ 93 ∷ []) ∙ quoted_then n (44 ∷ 34 ∷ (flat_map escape_byte v ++ 34 ∷ 93 ∷ [])) ∙ ap (λ t. (flat_map escape_byte n ++ 34 ∷ []) ++ (44 ∷ 34 ∷ t)) (quoted_then v (93 ∷ [])))

-- ---- Bytes one by one

pub escaped_more : (s : List ℕ) (i : ℕ) → i < length s → flat_map escape_byte (take i s) ++ escape_byte (get_or s i 0) ≡ flat_map escape_byte (take (i + 1) s)
escaped_more s i within = sym (rw (take_more s i 0 within, flat_map-append escape_byte (take i s) (get_or s i 0 ∷ []), append-nil) refl)

pub same_known : (s t : List ℕ) → Some s ≡ Some t → s ≡ t
same_known s t h = cc
