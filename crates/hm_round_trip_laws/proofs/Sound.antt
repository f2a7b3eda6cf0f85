-- What is allowed of each event of a settled tree by itself.
use Rattle.std.proofs.Common.{◌≡◌, ℕ, Bool, true, false, List, [], ◌∷◌, refl, sym, subst, inl, inr}
use Rattle.std.specs.Str.{is_utf8}
use Rattle.hm_base.specs.Forms.{has_byte, is_tag_name, is_small, is_tag_byte, is_comment_text}
use Rattle.hm_base.specs.Bytes.{is_digit_of}
use Rattle.hm_base.specs.Walks.{Attribute, Event, doctype, start, text, comment, end, Element}
use Rattle.hm_elements.specs.Names.{html, head, body}
use Rattle.hm_elements.specs.Paths.{html_element}
use Rattle.hm_elements.specs.Places.{AttributesAllowed, ElementAllowed, RootAllowed, TextAllowed, CommentAllowed, one_of_two, html_path, SettledLast, SettledAfterBody, SettledInside, SettledBeforeBody, SettledBeforeHead, SettledBeforeHtml, SettledPage}
use Rattle.hm_elements.specs.Settled.{Settled, is_html}
use Rattle.hm_elements.proofs.Chain.{settled_page}
use Rattle.hm_elements.proofs.NameFacts.{svg_name_is_tag_name}

pub record IsSoundText (s : List ℕ) (raw : Bool) : Type 0 where
  pub no_zero : has_byte 0 s ≡ false
  pub utf8 : is_utf8 s ≡ true
  pub no_return : raw ≡ true → has_byte 13 s ≡ false

pub record IsSoundComment (s : List ℕ) : Type 0 where
  pub form : is_comment_text s ≡ true
  pub no_zero : has_byte 0 s ≡ false
  pub utf8 : is_utf8 s ≡ true

abbrev pub IsSound : Event → Type 0
IsSound (doctype legacy) = Unit {0}
IsSound (start n foreign attributes) = (is_tag_name n ≡ true) × AttributesAllowed attributes
IsSound (text s raw) = IsSoundText s raw
IsSound (comment s) = IsSoundComment s
IsSound (end n foreign) = is_tag_name n ≡ true

abbrev pub AreSound : List Event → Type 0
AreSound [] = Unit {0}
AreSound (e ∷ w) = IsSound e × AreSound w

-- ---- one event

sound_comment : (path : List Element) (s : List ℕ) → CommentAllowed path s → IsSoundComment s
sound_comment path s c = record { form = c.form; no_zero = c.no_zero; utf8 = c.utf8 }

sound_text : (path : List Element) (s : List ℕ) (raw : Bool) (w : List Event) → TextAllowed path s raw w → IsSoundText s raw
sound_text path s raw w a = record { no_zero = a.no_zero; utf8 = a.utf8; no_return = a.no_return }

element_name : (n : List ℕ) (foreign : Bool) (path : List Element) (w : List Event) → ElementAllowed n foreign path w → is_tag_name n ≡ true
element_name n foreign path w (inl (here, a)) = svg_name_is_tag_name n a.name
element_name n foreign path w (inr (here, a)) = a.name

root_names : (is_tag_name html ≡ true) × (is_tag_name head ≡ true) × (is_tag_name body ≡ true)
unfolding is_tag_name is_small is_tag_byte is_digit_of
root_names = (refl, refl, refl)

sound_root : (wanted n : List ℕ) (foreign : Bool) (attributes : List Attribute) → is_tag_name wanted ≡ true → RootAllowed wanted n foreign attributes → IsSound (start n foreign attributes)
sound_root wanted n foreign attributes h a = (subst (λ x. is_tag_name x ≡ true) (sym a.name) h, a.attributes_allowed)

-- ---- part by part, the last part first

last_sound : (w : List Event) → SettledLast w → AreSound w
last_sound [] h = tt
last_sound (comment s ∷ w) (c, h) = (sound_comment [] s c, last_sound w h)
last_sound (doctype legacy ∷ w) h = absurd h
last_sound (start n foreign attributes ∷ w) h = absurd h
last_sound (text s raw ∷ w) h = absurd h
last_sound (end n foreign ∷ w) h = absurd h

after_body_sound : (w : List Event) → SettledAfterBody w → AreSound w
after_body_sound [] h = absurd h
after_body_sound (comment s ∷ w) (c, h) = (sound_comment html_path s c, after_body_sound w h)
after_body_sound (doctype legacy ∷ w) h = absurd h
after_body_sound (start n foreign attributes ∷ w) h = absurd h
after_body_sound (text s raw ∷ w) h = absurd h
after_body_sound (end n foreign ∷ w) (is, kind, h) = (subst (λ x. is_tag_name x ≡ true) (sym is) root_names.0, last_sound w h)

abbrev AreNamed : List Element → Type 0
AreNamed [] = Unit {0}
AreNamed (e ∷ path) = (is_tag_name e.name ≡ true) × AreNamed path

inside_sound : (root : List ℕ) (after : List Event → Type 0) (path : List Element) (w : List Event) → ((v : List Event) → after v → AreSound v) → AreNamed path → SettledInside root after path w → AreSound w
inside_sound root after path [] next named h = absurd h
inside_sound root after path (doctype legacy ∷ w) next named h = absurd h
inside_sound root after path (start n foreign attributes ∷ w) next named (a, h) =
    let name = element_name n foreign path w a.element in
    ((name, a.attributes_allowed), inside_sound root after (record { name = n; foreign = foreign } ∷ path) w next (name, named) h)
inside_sound root after path (text s raw ∷ w) next named (a, h) = (sound_text path s raw w a, inside_sound root after path w next named h)
inside_sound root after path (comment s ∷ w) next named (c, h) = (sound_comment path s c, inside_sound root after path w next named h)
inside_sound root after [] (end n foreign ∷ w) next named h = absurd h
inside_sound root after (e ∷ path) (end n foreign ∷ w) next named (is, h) =
    (subst (λ (x : Element). is_tag_name x.name ≡ true) is named.0, by_test (is_html root n foreign) h (next w) (inside_sound root after path w next named.1))
  where
    by_test : (b : Bool) → one_of_two b (after w) (SettledInside root after path w) → (after w → AreSound w) → (SettledInside root after path w → AreSound w) → AreSound w
    by_test true k near far = near k
    by_test false k near far = far k

before_body_sound : (w : List Event) → SettledBeforeBody w → AreSound w
before_body_sound [] h = absurd h
before_body_sound (text s raw ∷ w) (a, blank, h) = (sound_text html_path s raw w a, before_body_sound w h)
before_body_sound (comment s ∷ w) (c, h) = (sound_comment html_path s c, before_body_sound w h)
before_body_sound (start n foreign attributes ∷ w) (a, h) =
    (sound_root body n foreign attributes root_names.2 a, inside_sound body SettledAfterBody (html_element body ∷ html_path) w after_body_sound (root_names.2, (root_names.0, tt)) h)
before_body_sound (doctype legacy ∷ w) h = absurd h
before_body_sound (end n foreign ∷ w) h = absurd h

before_head_sound : (w : List Event) → SettledBeforeHead w → AreSound w
before_head_sound [] h = absurd h
before_head_sound (comment s ∷ w) (c, h) = (sound_comment html_path s c, before_head_sound w h)
before_head_sound (start n foreign attributes ∷ w) (a, h) =
    (sound_root head n foreign attributes root_names.1 a, inside_sound head SettledBeforeBody (html_element head ∷ html_path) w before_body_sound (root_names.1, (root_names.0, tt)) h)
before_head_sound (doctype legacy ∷ w) h = absurd h
before_head_sound (text s raw ∷ w) h = absurd h
before_head_sound (end n foreign ∷ w) h = absurd h

before_html_sound : (w : List Event) → SettledBeforeHtml w → AreSound w
before_html_sound [] h = absurd h
before_html_sound (comment s ∷ w) (c, h) = (sound_comment [] s c, before_html_sound w h)
before_html_sound (start n foreign attributes ∷ w) (a, h) = (sound_root html n foreign attributes root_names.0 a, before_head_sound w h)
before_html_sound (doctype legacy ∷ w) h = absurd h
before_html_sound (text s raw ∷ w) h = absurd h
before_html_sound (end n foreign ∷ w) h = absurd h

pub page_sound : (w : List Event) → SettledPage w → AreSound w
page_sound [] h = absurd h
page_sound (comment s ∷ w) (c, h) = (sound_comment [] s c, page_sound w h)
page_sound (doctype legacy ∷ w) h = (tt, before_html_sound w h)
page_sound (start n foreign attributes ∷ w) h = absurd h
page_sound (text s raw ∷ w) h = absurd h
page_sound (end n foreign ∷ w) h = absurd h

pub settled_sound : (w : List Event) → Settled w → AreSound w
settled_sound w h = page_sound w (settled_page w h)
