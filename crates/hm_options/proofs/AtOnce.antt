-- The rewrites that change single events, made at once and made one by one.
use Rattle.std.proofs.Common.{◌≡◌, ℕ, Bool, true, false, not, ◌&&◌, ◌||◌, List, [], ◌∷◌, ◌++◌, flat_map, map, Option, Some, None, if◌then◌else◌, sym, ap, ◌∙◌, refl}
use Rattle.std.proofs.lemmas.Bool.{and_parts, not-true}
use Rattle.std.proofs.lemmas.Grind.{flat_map-append}
use Rattle.std.proofs.lemmas.List.{append-nil, map-append}
use Rattle.hm_base.specs.Bytes.{is_null}
use Rattle.hm_base.specs.Walks.{Event, doctype, start, text, comment, end, Attribute, Element, path_after_event, text_before, pushed, pushes, begins_text}
use Rattle.hm_base.specs.declared.plain.TreeOptions.{TreeOptions}
use Rattle.hm_elements.specs.Attributes.{is_redundant}
use Rattle.hm_options.specs.Passes.{valued, attribute_pass, changed, kept, event_pass, passed, all_but_space}
use Rattle.hm_options.specs.Rewrites.{by, plain_doctype, no_comment, with_attributes, no_boolean_values, no_empty, no_redundant, without, without_value, is_empty, uncommented, where_set}
use Rattle.hm_options.proofs.Kept.{same_list, without_by}
use Rattle.hm_options.specs.Rewritten.{first_event, rewritten}
use Rattle.hm_tree.specs.Trees.{is_apart, are_texts_apart}

abbrev Rewrite : Type 0
Rewrite = List Element → Option Event → Event → Option Event → List Event

-- nothing is asked for but one of the rewrites
abbrev doctypes : Bool → TreeOptions
doctypes b = record { doctype = b; comments = false; booleans = false; empty = false; redundant = false; space = false; conservative = false }

abbrev booleans : Bool → TreeOptions
booleans b = record { doctype = false; comments = false; booleans = b; empty = false; redundant = false; space = false; conservative = false }

abbrev empties : Bool → TreeOptions
empties b = record { doctype = false; comments = false; booleans = false; empty = b; redundant = false; space = false; conservative = false }

abbrev redundants : Bool → TreeOptions
redundants b = record { doctype = false; comments = false; booleans = false; empty = false; redundant = b; space = false; conservative = false }

-- ---- each rewrite as a change of each event

by_each : (f : Rewrite) (g : Event → Event) → ((path : List Element) (before : Option Event) (e : Event) (next : Option Event) → f path before e next ≡ g e ∷ []) → (path : List Element) (before : Option Event) (w : List Event)
    → rewritten f path before w ≡ map g w
by_each f g one path before [] = refl
by_each f g one path before (e ∷ w) = rw (one path before e (first_event w)) (ap (λ v. g e ∷ v) (by_each f g one (path_after_event path e) (Some e) w))

same_attributes : (n : List ℕ) (attributes : List Attribute) → flat_map (attribute_pass (doctypes false) n) attributes ≡ attributes
same_attributes n attributes = sym (same_list (attribute_pass (doctypes false) n) (λ a. refl) attributes)

unchanged : (e : Event) → changed (doctypes false) e ≡ e
unchanged (doctype legacy) = refl
unchanged (start n true attributes) = refl
unchanged (start n false attributes) = ap (start n false) (same_attributes n attributes)
unchanged (text s raw) = refl
unchanged (comment s) = refl
unchanged (end n foreign) = refl

all_unchanged : (w : List Event) → map (changed (doctypes false)) w ≡ w
all_unchanged [] = refl
all_unchanged (e ∷ w) = rw (unchanged e, all_unchanged w) refl

where_each : (flag : Bool) (f : Rewrite) (asked : Bool → TreeOptions) → ((path : List Element) (before : Option Event) (e : Event) (next : Option Event) → f path before e next ≡ changed (asked true) e ∷ []) → asked false ≡ doctypes false
    → (w : List Event) → where_set flag (by f) w ≡ map (changed (asked flag)) w
where_each true f asked one none w = by_each f (changed (asked true)) one [] None w
where_each false f asked one none w = rw none (sym (all_unchanged w))

one_doctype : (path : List Element) (before : Option Event) (e : Event) (next : Option Event) → plain_doctype path before e next ≡ changed (doctypes true) e ∷ []
one_doctype path before (doctype legacy) next = refl
one_doctype path before (start n true attributes) next = refl
one_doctype path before (start n false attributes) next = ap (λ a. start n false a ∷ []) (same_list (attribute_pass (doctypes true) n) (λ a. refl) attributes)
one_doctype path before (text s raw) next = refl
one_doctype path before (comment s) next = refl
one_doctype path before (end n foreign) next = refl

-- a rewrite of attributes
one_start : (f : List ℕ → List Attribute → List Attribute) (o : TreeOptions) → o.doctype ≡ false → ((n : List ℕ) (attributes : List Attribute) → f n attributes ≡ flat_map (attribute_pass o n) attributes)
    → (path : List Element) (before : Option Event) (e : Event) (next : Option Event) → with_attributes f path before e next ≡ changed o e ∷ []
one_start f o no_doctype same path before (doctype legacy) next = rw no_doctype refl
one_start f o no_doctype same path before (start n true attributes) next = refl
one_start f o no_doctype same path before (start n false attributes) next = ap (λ a. start n false a ∷ []) (same n attributes)
one_start f o no_doctype same path before (text s raw) next = refl
one_start f o no_doctype same path before (comment s) next = refl
one_start f o no_doctype same path before (end n foreign) next = refl

no_values : (n : List ℕ) (attributes : List Attribute) → no_boolean_values n attributes ≡ flat_map (attribute_pass (booleans true) n) attributes
no_values n [] = refl
no_values n (a ∷ attributes) = ap (λ rest. without_value a ∷ rest) (no_values n attributes)

or_false : (b : Bool) → (b || false) ≡ b
or_false true = refl
or_false false = refl

none_empty : (n : List ℕ) (attributes : List Attribute) → no_empty n attributes ≡ flat_map (attribute_pass (empties true) n) attributes
none_empty n [] = refl
none_empty n (a ∷ attributes) = rw (or_false (is_empty a)) (without_by (is_empty a) a (without is_empty attributes) (flat_map (attribute_pass (empties true) n) attributes) (none_empty n attributes))

none_redundant : (n : List ℕ) (attributes : List Attribute) → no_redundant n attributes ≡ flat_map (attribute_pass (redundants true) n) attributes
none_redundant n [] = refl
none_redundant n (a ∷ attributes) = without_by (is_redundant n a) a (without (is_redundant n) attributes) (flat_map (attribute_pass (redundants true) n) attributes) (none_redundant n attributes)

-- ---- all changes of an event at once

module _ (n : List ℕ) (v : Attribute) (rule : Attribute → List Attribute) where
  dropped_by : (p q : Bool) → rule v ≡ (if q then [] else v ∷ []) → flat_map rule (if p || false then [] else v ∷ []) ≡ (if p || q then [] else v ∷ [])
  dropped_by true q one = refl
  dropped_by false q one = append-nil (rule v) ∙ one

module _ (o : TreeOptions) where
  attributes_at_once : (n : List ℕ) (attributes : List Attribute)
      → flat_map (attribute_pass (redundants o.redundant) n) (flat_map (attribute_pass (empties o.empty) n) (flat_map (attribute_pass (booleans o.booleans) n) (flat_map (attribute_pass (doctypes o.doctype) n) attributes)))
      ≡ flat_map (attribute_pass o n) attributes
  attributes_at_once n [] = refl
  attributes_at_once n (a ∷ attributes) =
      let v = valued o a in
      let rest = flat_map (attribute_pass (empties o.empty) n) (flat_map (attribute_pass (booleans o.booleans) n) (flat_map (attribute_pass (doctypes o.doctype) n) attributes)) in
      flat_map-append (attribute_pass (redundants o.redundant) n) (attribute_pass (empties o.empty) n v) rest
      ∙ ap (λ front. front ++ flat_map (attribute_pass (redundants o.redundant) n) rest) (dropped_by n v (attribute_pass (redundants o.redundant) n) (o.empty && is_empty v) (o.redundant && is_redundant n v) refl)
      ∙ ap (λ after. attribute_pass o n a ++ after) (attributes_at_once n attributes)

  changed_at_once : (e : Event) → changed (redundants o.redundant) (changed (empties o.empty) (changed (booleans o.booleans) (changed (doctypes o.doctype) e))) ≡ changed o e
  changed_at_once (doctype legacy) = refl
  changed_at_once (start n true attributes) = refl
  changed_at_once (start n false attributes) = ap (start n false) (attributes_at_once n attributes)
  changed_at_once (text s raw) = refl
  changed_at_once (comment s) = refl
  changed_at_once (end n foreign) = refl

  all_at_once : (w : List Event) → map (changed (redundants o.redundant)) (map (changed (empties o.empty)) (map (changed (booleans o.booleans)) (map (changed (doctypes o.doctype)) w))) ≡ map (changed o) w
  all_at_once [] = refl
  all_at_once (e ∷ w) = rw (changed_at_once e, all_at_once w) refl

  -- ---- changes, and texts that are joined

  text_changed : (s : List ℕ) (raw : Bool) (w : List Event) → text_before s raw (map (changed o) w) ≡ map (changed o) (text_before s raw w)
  text_changed s raw [] = refl
  text_changed s raw (doctype legacy ∷ w) = refl
  text_changed s raw (start n foreign attributes ∷ w) = refl
  text_changed s raw (text t r ∷ w) = refl
  text_changed s raw (comment t ∷ w) = refl
  text_changed s raw (end n foreign ∷ w) = refl

  pushed_changed : (e : Event) (w : List Event) → pushed (changed o e) (map (changed o) w) ≡ map (changed o) (pushed e w)
  pushed_changed (doctype legacy) w = refl
  pushed_changed (start n foreign attributes) w = refl
  pushed_changed (text s raw) w = text_changed s raw w
  pushed_changed (comment s) w = refl
  pushed_changed (end n foreign) w = refl

  pushes_changed : (w : List Event) → pushes (map (changed o) w) [] ≡ map (changed o) (pushes w [])
  pushes_changed [] = refl
  pushes_changed (e ∷ w) = ap (pushed (changed o e)) (pushes_changed w) ∙ pushed_changed e (pushes w [])

  -- ---- changes, and comments that are left out

  kept_changed : (e : Event) → kept true (changed o e) ≡ map (changed o) (kept true e)
  kept_changed (doctype legacy) = refl
  kept_changed (start n foreign attributes) = refl
  kept_changed (text s raw) = refl
  kept_changed (comment s) = refl
  kept_changed (end n foreign) = refl

  all_kept_changed : (w : List Event) → flat_map (kept true) (map (changed o) w) ≡ map (changed o) (flat_map (kept true) w)
  all_kept_changed [] = refl
  all_kept_changed (e ∷ w) = rw (kept_changed e, all_kept_changed w) (sym (map-append (changed o) (kept true e) (flat_map (kept true) w)))

  passed_each : (path : List Element) (before : Option Event) (w : List Event) → rewritten (event_pass o) path before w ≡ map (changed o) (flat_map (kept o.comments) w)
  passed_each path before [] = refl
  passed_each path before (e ∷ w) = rw (passed_each (path_after_event path e) (Some e) w) (sym (map-append (changed o) (kept o.comments e) (flat_map (kept o.comments) w)))

one_kept : (path : List Element) (before : Option Event) (e : Event) (next : Option Event) → no_comment path before e next ≡ kept true e
one_kept path before (doctype legacy) next = refl
one_kept path before (start n foreign attributes) next = refl
one_kept path before (text s raw) next = refl
one_kept path before (comment s) next = refl
one_kept path before (end n foreign) next = refl

kept_each : (path : List Element) (before : Option Event) (w : List Event) → rewritten no_comment path before w ≡ flat_map (kept true) w
kept_each path before [] = refl
kept_each path before (e ∷ w) = rw (one_kept path before e (first_event w)) (ap (λ v. kept true e ++ v) (kept_each (path_after_event path e) (Some e) w))

all_kept : (w : List Event) → flat_map (kept false) w ≡ w
all_kept [] = refl
all_kept (e ∷ w) = ap (λ v. e ∷ v) (all_kept w)

-- ---- texts that stand apart aren't joined

text_apart : (s : List ℕ) (raw : Bool) (w : List Event) → begins_text w ≡ false → text_before s raw w ≡ text s raw ∷ w
text_apart s raw [] h = refl
text_apart s raw (doctype legacy ∷ w) h = refl
text_apart s raw (start n foreign attributes ∷ w) h = refl
text_apart s raw (text t r ∷ w) h = absurd (cc)
text_apart s raw (comment t ∷ w) h = refl
text_apart s raw (end n foreign ∷ w) h = refl

pushed_apart : (e : Event) (w : List Event) → is_apart e w ≡ true → pushed e w ≡ e ∷ w
pushed_apart (doctype legacy) w h = refl
pushed_apart (start n foreign attributes) w h = refl
pushed_apart (text s raw) w h = text_apart s raw w (not-true (begins_text w) (and_parts (not (is_null s)) (not (begins_text w)) h).1)
pushed_apart (comment s) w h = refl
pushed_apart (end n foreign) w h = refl

pushes_apart : (w : List Event) → are_texts_apart w ≡ true → pushes w [] ≡ w
pushes_apart [] h = refl
pushes_apart (e ∷ w) h =
    let parts = and_parts (is_apart e w) (are_texts_apart w) h in
    ap (pushed e) (pushes_apart w parts.1) ∙ pushed_apart e w parts.0

-- ---- the pass

joined_by : (flag : Bool) (w : List Event) → are_texts_apart w ≡ true → pushes (flat_map (kept flag) w) [] ≡ where_set flag uncommented w
joined_by true w h = ap (λ v. pushes v []) (sym (kept_each [] None w))
joined_by false w h = ap (λ v. pushes v []) (all_kept w) ∙ pushes_apart w h

comments_after : (flag : Bool) (o : TreeOptions) (w : List Event) → where_set flag uncommented (map (changed o) w) ≡ map (changed o) (where_set flag uncommented w)
comments_after true o w =
    ap (λ v. pushes v []) (kept_each [] None (map (changed o) w) ∙ all_kept_changed o w) ∙ pushes_changed o (flat_map (kept true) w) ∙ ap (λ v. map (changed o) (pushes v [])) (sym (kept_each [] None w))
comments_after false o w = refl

-- the pass makes what the rewrites make in their order
pub at_once : (o : TreeOptions) (w : List Event) → are_texts_apart w ≡ true → passed o w ≡ all_but_space o w
at_once o w h =
    let a = where_set o.doctype (by plain_doctype) w in
    let b = where_set o.comments uncommented a in
    let c = where_set o.booleans (by (with_attributes no_boolean_values)) b in
    let d = where_set o.empty (by (with_attributes no_empty)) c in
    let u = where_set o.comments uncommented w in
    let first : a ≡ map (changed (doctypes o.doctype)) w = where_each o.doctype plain_doctype doctypes one_doctype refl w in
    let second : b ≡ map (changed (doctypes o.doctype)) u = ap (where_set o.comments uncommented) first ∙ comments_after o.comments (doctypes o.doctype) w in
    let third : c ≡ map (changed (booleans o.booleans)) b = where_each o.booleans (with_attributes no_boolean_values) booleans (one_start no_boolean_values (booleans true) refl no_values) refl b in
    let fourth : d ≡ map (changed (empties o.empty)) c = where_each o.empty (with_attributes no_empty) empties (one_start no_empty (empties true) refl none_empty) refl c in
    let fifth : all_but_space o w ≡ map (changed (redundants o.redundant)) d = where_each o.redundant (with_attributes no_redundant) redundants (one_start no_redundant (redundants true) refl none_redundant) refl d in
    let whole : passed o w ≡ map (changed o) u = ap (λ v. pushes v []) (passed_each o [] None w) ∙ pushes_changed o (flat_map (kept o.comments) w) ∙ ap (map (changed o)) (joined_by o.comments w h) in
    whole ∙ sym (all_at_once o u) ∙ sym (fifth ∙ ap (map (changed (redundants o.redundant))) (fourth ∙ ap (map (changed (empties o.empty))) (third ∙ ap (map (changed (booleans o.booleans))) second)))

-- nothing is asked for
pub nothing_asked : (o : TreeOptions) (w : List Event) → o.doctype ≡ false → o.comments ≡ false → o.booleans ≡ false → o.empty ≡ false → o.redundant ≡ false → w ≡ all_but_space o w
nothing_asked o w a b c d e = rw (a, b, c, d, e) refl
