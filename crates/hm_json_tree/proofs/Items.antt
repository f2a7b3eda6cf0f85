-- Items of arrays: those that are no event or no pair by their number, and attributes item by item.
use Rattle.std.proofs.Common.{◌≡◌, ℕ, suc, ◌≤◌, ◌<◌, true, false, List, [], ◌∷◌, length, drop, get_or, Option, Some, None, option_map, option_and_then, is_some, refl, sym, ap, ◌∙◌, arith, drop-cons}
use Rattle.std.specs.Prelude.{unwrap_or}
use Rattle.serde_json.specs.Data.{Data, null, boolean, number, string, array, object, Items, no_items, item}
use Rattle.serde_json.specs.Find.{as_array, as_str}
use Rattle.serde_json.specs.View.{view, items_view}
use Rattle.serde_json.specs.declared.value.Value.{Value}
use Rattle.hm_base.specs.Walks.{Attribute, start, Element}
use Rattle.hm_json_tree.specs.Reading.{doctype_in, start_in, text_in, comment_in, end_in, attribute_in, attributes_in, is_svg_here}
use Rattle.hm_json_tree.specs.Pairs.{attributes_at}

-- ---- Too few or too many items

pub no_end : (path : List Element) (vs : List Value) → 1 ≤ length vs → end_in path (items_view vs) ≡ None
no_end path [] l = absurd (omega (arith, l))
no_end [] (v ∷ vs) l = refl
no_end (m ∷ path) (v ∷ vs) l = refl

module _ (ds : Items) where
  comment_of_two : (d e : Data) → comment_in (item d (item e ds)) ≡ None
  comment_of_two null e = refl
  comment_of_two (boolean b) e = refl
  comment_of_two (number n) e = refl
  comment_of_two (string s) e = refl
  comment_of_two (array ds) e = refl
  comment_of_two (object ms) e = refl

  text_of_two : (path : List Element) (d e : Data) → text_in path (item d (item e ds)) ≡ None
  text_of_two path null e = refl
  text_of_two path (boolean b) e = refl
  text_of_two path (number n) e = refl
  text_of_two path (string s) e = refl
  text_of_two path (array ds) e = refl
  text_of_two path (object ms) e = refl

  doctype_of_two : (d e : Data) → doctype_in (item d (item e ds)) ≡ None
  doctype_of_two null e = refl
  doctype_of_two (boolean b) e = refl
  doctype_of_two (number n) e = refl
  doctype_of_two (string s) e = refl
  doctype_of_two (array ds) e = refl
  doctype_of_two (object ms) e = refl

pub no_comment : (vs : List Value) → 2 ≤ length vs → comment_in (items_view vs) ≡ None
no_comment [] l = absurd (omega (arith, l))
no_comment (v ∷ []) l = absurd (omega (arith, l))
no_comment (v ∷ u ∷ vs) l = comment_of_two (items_view vs) (view v) (view u)

pub no_text : (path : List Element) (vs : List Value) → 2 ≤ length vs → text_in path (items_view vs) ≡ None
no_text path [] l = absurd (omega (arith, l))
no_text path (v ∷ []) l = absurd (omega (arith, l))
no_text path (v ∷ u ∷ vs) l = text_of_two (items_view vs) path (view v) (view u)

pub no_doctype : (vs : List Value) → 2 ≤ length vs → doctype_in (items_view vs) ≡ None
no_doctype [] l = absurd (omega (arith, l))
no_doctype (v ∷ []) l = absurd (omega (arith, l))
no_doctype (v ∷ u ∷ vs) l = doctype_of_two (items_view vs) (view v) (view u)

start_of_one : (path : List Element) (d : Data) → start_in path (item d no_items) ≡ None
start_of_one path null = refl
start_of_one path (boolean b) = refl
start_of_one path (number n) = refl
start_of_one path (string s) = refl
start_of_one path (array ds) = refl
start_of_one path (object ms) = refl

module _ (f : Data) (ds : Items) where
  start_of_text : (path : List Element) (n : List ℕ) (e : Data) → start_in path (item (string n) (item e (item f ds))) ≡ None
  start_of_text path n null = refl
  start_of_text path n (boolean b) = refl
  start_of_text path n (number m) = refl
  start_of_text path n (string s) = refl
  start_of_text path n (array es) = refl
  start_of_text path n (object ms) = refl

  start_of_three : (path : List Element) (d e : Data) → start_in path (item d (item e (item f ds))) ≡ None
  start_of_three path null e = refl
  start_of_three path (boolean b) e = refl
  start_of_three path (number n) e = refl
  start_of_three path (string s) e = start_of_text path s e
  start_of_three path (array es) e = refl
  start_of_three path (object ms) e = refl

  pair_of_text : (n : List ℕ) (e : Data) → attribute_in (array (item (string n) (item e (item f ds)))) ≡ None
  pair_of_text n null = refl
  pair_of_text n (boolean b) = refl
  pair_of_text n (number m) = refl
  pair_of_text n (string s) = refl
  pair_of_text n (array es) = refl
  pair_of_text n (object ms) = refl

  pair_of_three : (d e : Data) → attribute_in (array (item d (item e (item f ds)))) ≡ None
  pair_of_three null e = refl
  pair_of_three (boolean b) e = refl
  pair_of_three (number n) e = refl
  pair_of_three (string s) e = pair_of_text s e
  pair_of_three (array es) e = refl
  pair_of_three (object ms) e = refl

pair_of_one : (d : Data) → attribute_in (array (item d no_items)) ≡ None
pair_of_one null = refl
pair_of_one (boolean b) = refl
pair_of_one (number n) = refl
pair_of_one (string s) = refl
pair_of_one (array es) = refl
pair_of_one (object ms) = refl

pub no_start_of_one : (path : List Element) (vs : List Value) → 1 ≤ length vs → length vs < 2 → start_in path (items_view vs) ≡ None
no_start_of_one path [] l m = absurd (omega (arith, l))
no_start_of_one path (v ∷ []) l m = start_of_one path (view v)
no_start_of_one path (v ∷ u ∷ vs) l m = absurd (omega (arith, m))

pub no_start : (path : List Element) (vs : List Value) → 3 ≤ length vs → start_in path (items_view vs) ≡ None
no_start path [] l = absurd (omega (arith, l))
no_start path (v ∷ []) l = absurd (omega (arith, l))
no_start path (v ∷ u ∷ []) l = absurd (omega (arith, l))
no_start path (v ∷ u ∷ x ∷ vs) l = start_of_three (view x) (items_view vs) path (view v) (view u)

array_is : (d : Data) (ds : Items) → Some ds ≡ as_array d → d ≡ array ds
array_is null ds h = cc
array_is (boolean b) ds h = cc
array_is (number n) ds h = cc
array_is (string s) ds h = cc
array_is (array es) ds h = cc
array_is (object ms) ds h = cc

pub no_pair_of_one : (d : Data) (vs : List Value) → Some (items_view vs) ≡ as_array d → 1 ≤ length vs → length vs < 2 → None ≡ attribute_in d
no_pair_of_one d [] a l m = absurd (omega (arith, l))
no_pair_of_one d (v ∷ []) a l m = sym (ap attribute_in (array_is d _ a) ∙ pair_of_one (view v))
no_pair_of_one d (v ∷ u ∷ vs) a l m = absurd (omega (arith, m))

pub no_pair : (d : Data) (vs : List Value) → Some (items_view vs) ≡ as_array d → 3 ≤ length vs → None ≡ attribute_in d
no_pair d [] a l = absurd (omega (arith, l))
no_pair d (v ∷ []) a l = absurd (omega (arith, l))
no_pair d (v ∷ u ∷ []) a l = absurd (omega (arith, l))
no_pair d (v ∷ u ∷ x ∷ vs) a l = sym (ap attribute_in (array_is d _ a) ∙ pair_of_three (view x) (items_view vs) (view v) (view u))

pub pair_of_two : (d : Data) (vs : List Value) (a b : Value) (o : Option Attribute) → Some (items_view vs) ≡ as_array d → 2 ≤ length vs → length vs < 3 → a ≡ get_or vs 0 a → b ≡ get_or vs 1 b
    → o ≡ attribute_in (array (item (view a) (item (view b) no_items))) → o ≡ attribute_in d
pair_of_two d [] a b o s l m i j is = absurd (omega (arith, l))
pair_of_two d (v ∷ []) a b o s l m i j is = absurd (omega (arith, l))
pair_of_two d (v ∷ u ∷ []) a b o s l m i j is = is ∙ (λ k. attribute_in (array (item (view (i k)) (item (view (j k)) no_items)))) ∙ sym (ap attribute_in (array_is d _ s))
pair_of_two d (v ∷ u ∷ x ∷ vs) a b o s l m i j is = absurd (omega (arith, m))

-- ---- Attributes

-- where an item is no pair, there are no attributes
pub no_attributes : (vs : List Value) (i : ℕ) (v : Value) → v ≡ get_or vs i v → i < length vs → attribute_in (view v) ≡ None → attributes_in (items_view (drop i vs)) ≡ None
no_attributes vs i v at l h = rw (drop-cons vs i v l, ← at) (ap (option_and_then (λ a. option_map (λ rest. a ∷ rest) (attributes_in (items_view (drop (suc i) vs))))) h)

both : (v : Value) (vs : List Value) (o : Option Attribute) (r : Option (List Attribute)) → is_some (option_and_then (λ a. option_map (λ rest. a ∷ rest) r) o) ≡ true → (is_some r ≡ true → r ≡ Some (attributes_at vs)) → option_and_then (λ a. option_map (λ rest. a ∷ rest) r) o ≡ Some (unwrap_or o (record { name = []; value = [] }) ∷ attributes_at vs)
both v vs None r h more = cc
both v vs (Some a) None h more = cc
both v vs (Some a) (Some rest) h more = ap (option_map (λ rest. a ∷ rest)) (more refl)

pub attributes_read : (vs : List Value) → is_some (attributes_in (items_view vs)) ≡ true → attributes_in (items_view vs) ≡ Some (attributes_at vs)
attributes_read [] h = refl
attributes_read (v ∷ vs) h = both v vs (attribute_in (view v)) (attributes_in (items_view vs)) h (attributes_read vs)

-- what is nothing stays nothing
pub none_mapped : {A B : Type 0} (f : A → B) (o : Option A) (r : Option B) → option_map f o ≡ r → is_some o ≡ false → r ≡ None
none_mapped f None r h n = sym h
none_mapped f (Some a) r h n = cc

-- the start with its attributes
start_told : (path : List Element) (d e : Data) (n : List ℕ) (vs : List Value) → Some n ≡ as_str d → Some (items_view vs) ≡ as_array e → is_some (attributes_in (items_view vs)) ≡ true → start_in path (item d (item e no_items)) ≡ Some (start n (is_svg_here n path) (attributes_at vs))
start_told path d e n vs s a h = rw (string_is d n s, array_is e (items_view vs) a) (ap (option_map (start n (is_svg_here n path))) (attributes_read vs h))
  where
    string_is : (d : Data) (n : List ℕ) → Some n ≡ as_str d → d ≡ string n
    string_is null n h = cc
    string_is (boolean b) n h = cc
    string_is (number m) n h = cc
    string_is (string t) n h = cc
    string_is (array es) n h = cc
    string_is (object ms) n h = cc

pub start_of_two : (path : List Element) (vs us : List Value) (a b : Value) (n : List ℕ) → 2 ≤ length vs → length vs < 3 → a ≡ get_or vs 0 a → b ≡ get_or vs 1 b → Some n ≡ as_str (view a) → Some (items_view us) ≡ as_array (view b) → is_some (attributes_in (items_view us)) ≡ true
    → start_in path (items_view vs) ≡ Some (start n (is_svg_here n path) (attributes_at us))
start_of_two path [] us a b n l m i j s t h = absurd (omega (arith, l))
start_of_two path (v ∷ []) us a b n l m i j s t h = absurd (omega (arith, l))
start_of_two path (v ∷ u ∷ []) us a b n l m i j s t h = start_told path (view v) (view u) n us (s ∙ ap (λ x. as_str (view x)) i) (t ∙ ap (λ x. as_array (view x)) j) h
start_of_two path (v ∷ u ∷ x ∷ vs) us a b n l m i j s t h = absurd (omega (arith, m))
