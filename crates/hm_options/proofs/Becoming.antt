-- A settled walk whose events are rewritten or left out one by one is settled.
use Rattle.std.proofs.Common.{◌≡◌, ℕ, Bool, true, false, ◌⊎◌, inl, inr, List, [], ◌∷◌, ap, refl}
use Rattle.hm_base.specs.Forms.{is_blank}
use Rattle.hm_base.specs.Walks.{Event, doctype, start, text, comment, end, Attribute, Element, begins_end}
use Rattle.hm_elements.specs.Names.{html, head, body}
use Rattle.hm_elements.specs.Tables.{is_root}
use Rattle.hm_elements.specs.Paths.{html_element, outer}
use Rattle.hm_elements.specs.Settled.{is_html, Settled}
use Rattle.hm_elements.specs.Places.{AttributesAllowed, ElementAllowed, RootAllowed, TextAllowed, CommentAllowed, html_path, SettledLast, SettledAfterBody, SettledInside, SettledBeforeBody, SettledBeforeHead, SettledBeforeHtml, SettledPage}
use Rattle.hm_elements.proofs.Chain.{Inside, at_root, deeper, inside_is_open, no_root_is_other, html_is_itself, head_is_root, body_is_root, settled_page}
use Rattle.hm_elements.proofs.Events.{start_is_no_root}
use Rattle.hm_elements.proofs.Gathered.{page_settles}

abbrev pub element_of : List ℕ → Bool → Element
element_of n foreign = record { name = n; foreign = foreign }

-- What is known of each event of a settled walk: attributes, texts and comments are allowed where they stand.
abbrev pub Fine : List Element → List Event → Type 0
Fine path [] = Unit {0}
Fine path (doctype legacy ∷ w) = Fine path w
Fine path (start n foreign attributes ∷ w) = AttributesAllowed attributes × Fine (element_of n foreign ∷ path) w
Fine path (text s raw ∷ w) = TextAllowed path s raw w × (path ≡ html_path → is_blank s ≡ true) × Fine path w
Fine path (comment s ∷ w) = CommentAllowed path s × Fine path w
Fine path (end n foreign ∷ w) = Fine (outer path) w

-- What a walk becomes: starts may have other attributes, texts may be others or none, comments may be left out.
abbrev pub Becomes : List Element → List Event → List Event → Type 0
Becomes path [] v = v ≡ []
Becomes path (doctype legacy ∷ w) v = (other : Bool) × (rest : List Event) × (v ≡ doctype other ∷ rest) × Becomes path w rest
Becomes path (start n foreign attributes ∷ w) v =
    (made : List Attribute) × (rest : List Event) × (v ≡ start n foreign made ∷ rest) × AttributesAllowed made × (begins_end w ≡ true → begins_end rest ≡ true) × Becomes (element_of n foreign ∷ path) w rest
Becomes path (text s raw ∷ w) v =
    Becomes path w v ⊎ ((t : List ℕ) × (kind : Bool) × (rest : List Event) × (v ≡ text t kind ∷ rest) × TextAllowed path t kind rest × (path ≡ html_path → is_blank t ≡ true) × Becomes path w rest)
Becomes path (comment s ∷ w) v = Becomes path w v ⊎ ((rest : List Event) × (v ≡ comment s ∷ rest) × Becomes path w rest)
Becomes path (end n foreign ∷ w) v = (rest : List Event) × (v ≡ end n foreign ∷ rest) × Becomes (outer path) w rest

-- A path inside head or body isn't that of html.
inside_is_deeper : (root : List ℕ) (path : List Element) → Inside root path → path ≡ html_path → ⊥
inside_is_deeper root path at_root e = absurd (cc)
inside_is_deeper root path (deeper m path' ne i) e =
    let inner : path' ≡ [] = ap outer e in
    inside_is_open root path' i inner

-- After an end inside a root: either the root has ended, or what is open is inside it still.
module _ (root : List ℕ) (after : List Event → Type 0) (B : List Element → Type 0) where
  pub at_end : (path : List Element) → Inside root path → (n : List ℕ) (foreign : Bool) (w : List Event) → SettledInside root after path (end n foreign ∷ w)
      → (after w → B html_path) → ((path' : List Element) → Inside root path' → SettledInside root after path' w → B path') → B (outer path)
  at_end path at_root n foreign w h whole inner = whole (rw (html_is_itself root n foreign h.0) at h.1)
  at_end path (deeper m path' ne i) n foreign w h whole inner =
      let other : is_html root n foreign ≡ false = rw h.0 at ne in
      inner path' i (rw other at h.1)

-- Settled walks are fine, place by place.
fine_last : (w : List Event) → SettledLast w → Fine [] w
fine_last [] h = tt
fine_last (comment s ∷ w) h = (h.0, fine_last w h.1)
fine_last (doctype legacy ∷ w) h = absurd h
fine_last (start n foreign attributes ∷ w) h = absurd h
fine_last (text s raw ∷ w) h = absurd h
fine_last (end n foreign ∷ w) h = absurd h

fine_after_body : (w : List Event) → SettledAfterBody w → Fine html_path w
fine_after_body [] h = absurd h
fine_after_body (comment s ∷ w) h = (h.0, fine_after_body w h.1)
fine_after_body (end n foreign ∷ w) h = fine_last w h.2
fine_after_body (doctype legacy ∷ w) h = absurd h
fine_after_body (start n foreign attributes ∷ w) h = absurd h
fine_after_body (text s raw ∷ w) h = absurd h

-- an element inside a root is deeper inside it
start_inside : (root : List ℕ) → is_root root ≡ true → (path : List Element) → Inside root path → (n : List ℕ) (foreign : Bool) (attributes : List Attribute) (w : List Event) → ElementAllowed n foreign path w → Inside root (element_of n foreign ∷ path)
start_inside root known path i n foreign attributes w a = deeper (element_of n foreign) path (no_root_is_other root n foreign known (start_is_no_root path n foreign attributes w a)) i

fine_inside : (root : List ℕ) → is_root root ≡ true → (after : List Event → Type 0) → ((w : List Event) → after w → Fine html_path w) → (w : List Event) (path : List Element) → Inside root path → SettledInside root after path w → Fine path w
fine_inside root known after more [] path i h = absurd h
fine_inside root known after more (doctype legacy ∷ w) path i h = absurd h
fine_inside root known after more (start n foreign attributes ∷ w) path i h =
    (h.0.attributes_allowed, fine_inside root known after more w (element_of n foreign ∷ path) (start_inside root known path i n foreign attributes w h.0.element) h.1)
fine_inside root known after more (text s raw ∷ w) path i h = (h.0, (λ e. absurd (inside_is_deeper root path i e)), fine_inside root known after more w path i h.1)
fine_inside root known after more (comment s ∷ w) path i h = (h.0, fine_inside root known after more w path i h.1)
fine_inside root known after more (end n foreign ∷ w) path i h = at_end root after (λ p. Fine p w) path i n foreign w h (more w) (λ path' i' h'. fine_inside root known after more w path' i' h')

fine_before_body : (w : List Event) → SettledBeforeBody w → Fine html_path w
fine_before_body [] h = absurd h
fine_before_body (text s raw ∷ w) h = (h.0, (λ e. h.1), fine_before_body w h.2)
fine_before_body (comment s ∷ w) h = (h.0, fine_before_body w h.1)
fine_before_body (start n foreign attributes ∷ w) h =
    let a : RootAllowed body n foreign attributes = h.0 in
    rw (a.name, a.kind) (a.attributes_allowed, fine_inside body body_is_root SettledAfterBody fine_after_body w (html_element body ∷ html_path) at_root h.1)
fine_before_body (doctype legacy ∷ w) h = absurd h
fine_before_body (end n foreign ∷ w) h = absurd h

fine_before_head : (w : List Event) → SettledBeforeHead w → Fine html_path w
fine_before_head [] h = absurd h
fine_before_head (comment s ∷ w) h = (h.0, fine_before_head w h.1)
fine_before_head (start n foreign attributes ∷ w) h =
    let a : RootAllowed head n foreign attributes = h.0 in
    rw (a.name, a.kind) (a.attributes_allowed, fine_inside head head_is_root SettledBeforeBody fine_before_body w (html_element head ∷ html_path) at_root h.1)
fine_before_head (text s raw ∷ w) h = absurd h
fine_before_head (doctype legacy ∷ w) h = absurd h
fine_before_head (end n foreign ∷ w) h = absurd h

fine_before_html : (w : List Event) → SettledBeforeHtml w → Fine [] w
fine_before_html [] h = absurd h
fine_before_html (comment s ∷ w) h = (h.0, fine_before_html w h.1)
fine_before_html (start n foreign attributes ∷ w) h =
    let a : RootAllowed html n foreign attributes = h.0 in
    rw (a.name, a.kind) (a.attributes_allowed, fine_before_head w h.1)
fine_before_html (text s raw ∷ w) h = absurd h
fine_before_html (doctype legacy ∷ w) h = absurd h
fine_before_html (end n foreign ∷ w) h = absurd h

fine_page : (w : List Event) → SettledPage w → Fine [] w
fine_page [] h = absurd h
fine_page (comment s ∷ w) h = (h.0, fine_page w h.1)
fine_page (doctype legacy ∷ w) h = fine_before_html w h
fine_page (start n foreign attributes ∷ w) h = absurd h
fine_page (text s raw ∷ w) h = absurd h
fine_page (end n foreign ∷ w) h = absurd h

-- a settled walk is fine
pub settled_is_fine : (w : List Event) → Settled w → Fine [] w
settled_is_fine w h = fine_page w (settled_page w h)

-- What a settled walk becomes is settled, place by place.
last_stays : (w v : List Event) → SettledLast w → Becomes [] w v → SettledLast v
last_stays [] v h b = rw b tt
last_stays (comment s ∷ w) v h (inl b) = last_stays w v h.1 b
last_stays (comment s ∷ w) v h (inr (rest, is, b)) = rw is (h.0, last_stays w rest h.1 b)
last_stays (doctype legacy ∷ w) v h b = absurd h
last_stays (start n foreign attributes ∷ w) v h b = absurd h
last_stays (text s raw ∷ w) v h b = absurd h
last_stays (end n foreign ∷ w) v h b = absurd h

after_body_stays : (w v : List Event) → SettledAfterBody w → Becomes html_path w v → SettledAfterBody v
after_body_stays [] v h b = absurd h
after_body_stays (comment s ∷ w) v h (inl b) = after_body_stays w v h.1 b
after_body_stays (comment s ∷ w) v h (inr (rest, is, b)) = rw is (h.0, after_body_stays w rest h.1 b)
after_body_stays (end n foreign ∷ w) v h (rest, is, b) = rw is (h.0, h.1, last_stays w rest h.2 b)
after_body_stays (doctype legacy ∷ w) v h b = absurd h
after_body_stays (start n foreign attributes ∷ w) v h b = absurd h
after_body_stays (text s raw ∷ w) v h b = absurd h

element_stays : (path : List Element) (n : List ℕ) (foreign : Bool) (w v : List Event) → (begins_end w ≡ true → begins_end v ≡ true) → ElementAllowed n foreign path w → ElementAllowed n foreign path v
element_stays path n foreign w v ends (inl (e, s)) = inl (e, s)
element_stays path n foreign w v ends (inr (e, a)) = inr (
  e,
  record {
    kind = a.kind;
    name = a.name;
    known = a.known;
    stands = a.stands;
    kept = a.kept;
    no_block_in_p = a.no_block_in_p;
    not_nested = a.not_nested;
    void_is_closed = λ void. ends (a.void_is_closed void);
  },
)

-- the end of an element inside a root
end_stays : (root : List ℕ) (after : List Event → Type 0) (path : List Element) → Inside root path → (n : List ℕ) (foreign : Bool) (w rest : List Event)
    → ((w v : List Event) → after w → Becomes html_path w v → after v) → ((path' : List Element) → Inside root path' → SettledInside root after path' w → Becomes path' w rest → SettledInside root after path' rest)
    → SettledInside root after path (end n foreign ∷ w) → Becomes (outer path) w rest → SettledInside root after path (end n foreign ∷ rest)
end_stays root after path at_root n foreign w rest more inner h b =
    (h.0, rw (html_is_itself root n foreign h.0) (more w rest (rw (html_is_itself root n foreign h.0) at h.1) b))
end_stays root after path (deeper m path' ne i) n foreign w rest more inner h b =
    let other : is_html root n foreign ≡ false = rw h.0 at ne in
    (h.0, rw other (inner path' i (rw other at h.1) b))

inside_stays : (root : List ℕ) → is_root root ≡ true → (after : List Event → Type 0) → ((w v : List Event) → after w → Becomes html_path w v → after v)
    → (w v : List Event) (path : List Element) → Inside root path → SettledInside root after path w → Becomes path w v → SettledInside root after path v
inside_stays root known after more [] v path i h b = absurd h
inside_stays root known after more (doctype legacy ∷ w) v path i h b = absurd h
inside_stays root known after more (start n foreign attributes ∷ w) v path i h (made, rest, is, allowed, ends, b) =
    rw is (
      record { element = element_stays path n foreign w rest ends h.0.element; attributes_allowed = allowed; not_deep = h.0.not_deep },
      inside_stays root known after more w rest (element_of n foreign ∷ path) (start_inside root known path i n foreign attributes w h.0.element) h.1 b,
    )
inside_stays root known after more (text s raw ∷ w) v path i h (inl b) = inside_stays root known after more w v path i h.1 b
inside_stays root known after more (text s raw ∷ w) v path i h (inr (t, kind, rest, is, allowed, blank, b)) = rw is (allowed, inside_stays root known after more w rest path i h.1 b)
inside_stays root known after more (comment s ∷ w) v path i h (inl b) = inside_stays root known after more w v path i h.1 b
inside_stays root known after more (comment s ∷ w) v path i h (inr (rest, is, b)) = rw is (h.0, inside_stays root known after more w rest path i h.1 b)
inside_stays root known after more (end n foreign ∷ w) v path i h (rest, is, b) =
    rw is (end_stays root after path i n foreign w rest more (λ path' i' h' b'. inside_stays root known after more w rest path' i' h' b') h b)

root_stays : (wanted n : List ℕ) (foreign : Bool) (attributes made : List Attribute) → RootAllowed wanted n foreign attributes → AttributesAllowed made → RootAllowed wanted n foreign made
root_stays wanted n foreign attributes made a allowed = record { name = a.name; kind = a.kind; attributes_allowed = allowed }

before_body_stays : (w v : List Event) → SettledBeforeBody w → Becomes html_path w v → SettledBeforeBody v
before_body_stays [] v h b = absurd h
before_body_stays (text s raw ∷ w) v h (inl b) = before_body_stays w v h.2 b
before_body_stays (text s raw ∷ w) v h (inr (t, kind, rest, is, allowed, blank, b)) = rw is (allowed, blank refl, before_body_stays w rest h.2 b)
before_body_stays (comment s ∷ w) v h (inl b) = before_body_stays w v h.1 b
before_body_stays (comment s ∷ w) v h (inr (rest, is, b)) = rw is (h.0, before_body_stays w rest h.1 b)
before_body_stays (start n foreign attributes ∷ w) v h (made, rest, is, allowed, ends, b) =
    let a : RootAllowed body n foreign attributes = h.0 in
    rw is (root_stays body n foreign attributes made a allowed, inside_stays body body_is_root SettledAfterBody after_body_stays w rest (html_element body ∷ html_path) at_root h.1 (rw (a.name, a.kind) at b))
before_body_stays (doctype legacy ∷ w) v h b = absurd h
before_body_stays (end n foreign ∷ w) v h b = absurd h

before_head_stays : (w v : List Event) → SettledBeforeHead w → Becomes html_path w v → SettledBeforeHead v
before_head_stays [] v h b = absurd h
before_head_stays (comment s ∷ w) v h (inl b) = before_head_stays w v h.1 b
before_head_stays (comment s ∷ w) v h (inr (rest, is, b)) = rw is (h.0, before_head_stays w rest h.1 b)
before_head_stays (start n foreign attributes ∷ w) v h (made, rest, is, allowed, ends, b) =
    let a : RootAllowed head n foreign attributes = h.0 in
    rw is (root_stays head n foreign attributes made a allowed, inside_stays head head_is_root SettledBeforeBody before_body_stays w rest (html_element head ∷ html_path) at_root h.1 (rw (a.name, a.kind) at b))
before_head_stays (text s raw ∷ w) v h b = absurd h
before_head_stays (doctype legacy ∷ w) v h b = absurd h
before_head_stays (end n foreign ∷ w) v h b = absurd h

before_html_stays : (w v : List Event) → SettledBeforeHtml w → Becomes [] w v → SettledBeforeHtml v
before_html_stays [] v h b = absurd h
before_html_stays (comment s ∷ w) v h (inl b) = before_html_stays w v h.1 b
before_html_stays (comment s ∷ w) v h (inr (rest, is, b)) = rw is (h.0, before_html_stays w rest h.1 b)
before_html_stays (start n foreign attributes ∷ w) v h (made, rest, is, allowed, ends, b) =
    let a : RootAllowed html n foreign attributes = h.0 in
    rw is (root_stays html n foreign attributes made a allowed, before_head_stays w rest h.1 (rw (a.name, a.kind) at b))
before_html_stays (text s raw ∷ w) v h b = absurd h
before_html_stays (doctype legacy ∷ w) v h b = absurd h
before_html_stays (end n foreign ∷ w) v h b = absurd h

page_stays : (w v : List Event) → SettledPage w → Becomes [] w v → SettledPage v
page_stays [] v h b = absurd h
page_stays (comment s ∷ w) v h (inl b) = page_stays w v h.1 b
page_stays (comment s ∷ w) v h (inr (rest, is, b)) = rw is (h.0, page_stays w rest h.1 b)
page_stays (doctype legacy ∷ w) v h (other, rest, is, b) = rw is (before_html_stays w rest h b)
page_stays (start n foreign attributes ∷ w) v h b = absurd h
page_stays (text s raw ∷ w) v h b = absurd h
page_stays (end n foreign ∷ w) v h b = absurd h

pub settled_stays : (w v : List Event) → Settled w → Becomes [] w v → Settled v
settled_stays w v h b = page_settles v (page_stays w v (settled_page w h) b)
