-- Texts stay apart where an event is appended to a walk, or bytes to the text that stands last.
use Rattle.std.proofs.Common.{◌≡◌, ℕ, Bool, true, false, not, ◌&&◌, List, [], ◌∷◌, ◌++◌, ◌∙◌, refl}
use Rattle.std.proofs.Math.Bool.{and-false}
use Rattle.std.proofs.lemmas.Bool.{and_parts, and_from}
use Rattle.hm_base.specs.Bytes.{is_null}
use Rattle.hm_base.specs.Walks.{Event, doctype, start, text, comment, end, begins_text}
use Rattle.hm_tree.specs.Trees.{is_apart, are_texts_apart}
use Rattle.hm_tree.specs.Rows.{is_text, ends_in_text, with_more, extended}

pub begins_alike : (e : Event) (v w : List Event) → begins_text (e ∷ v) ≡ begins_text (e ∷ w)
begins_alike (doctype legacy) v w = refl
begins_alike (start n foreign attributes) v w = refl
begins_alike (text s raw) v w = refl
begins_alike (comment s) v w = refl
begins_alike (end n foreign) v w = refl

pub apart_alike : (e : Event) (v w : List Event) → begins_text v ≡ begins_text w → is_apart e v ≡ is_apart e w
apart_alike (doctype legacy) v w same = refl
apart_alike (start n foreign attributes) v w same = refl
apart_alike (text s raw) v w same = rw same refl
apart_alike (comment s) v w same = refl
apart_alike (end n foreign) v w same = refl

-- what follows is no text, or the event is none
neither : (x e : Event) → is_apart x [] ≡ true → is_text x && is_text e ≡ false → is_apart x (e ∷ []) ≡ true
neither (doctype legacy) e some other = refl
neither (start n foreign attributes) e some other = refl
neither (text s raw) (doctype legacy) some other = some
neither (text s raw) (start n foreign attributes) some other = some
neither (text s raw) (text t is_raw) some other = absurd (cc)
neither (text s raw) (comment t) some other = some
neither (text s raw) (end n foreign) some other = some
neither (comment s) e some other = refl
neither (end n foreign) e some other = refl

-- an event appended to a walk, not both of them texts where they meet
pub are_texts_apart-push : (w : List Event) (e : Event) → are_texts_apart w ≡ true → is_apart e [] ≡ true → ends_in_text w && is_text e ≡ false → are_texts_apart (w ++ e ∷ []) ≡ true
are_texts_apart-push [] e all one other = rw one refl
are_texts_apart-push (x ∷ []) e all one other = rw (neither x e ((and_parts (is_apart x []) true all).0) other, one) refl
are_texts_apart-push (x ∷ y ∷ w) e all one other =
    let parts = and_parts (is_apart x (y ∷ w)) (are_texts_apart (y ∷ w)) all in
    and_from (is_apart x (y ∷ (w ++ e ∷ []))) (are_texts_apart (y ∷ (w ++ e ∷ [])))
    (apart_alike x (y ∷ (w ++ e ∷ [])) (y ∷ w) (begins_alike y (w ++ e ∷ []) w) ∙ parts.0)
    (are_texts_apart-push (y ∷ w) e parts.1 one other)

null_more : (s more : List ℕ) → not (is_null s) ≡ true → not (is_null (s ++ more)) ≡ true
null_more [] more h = absurd (cc)
null_more (c ∷ s) more h = refl

apart_more : (e : Event) (more : List ℕ) → is_apart e [] ≡ true → is_apart (with_more e more) [] ≡ true
apart_more (doctype legacy) more h = refl
apart_more (start n foreign attributes) more h = refl
apart_more (text s raw) more h = rw (null_more s more ((and_parts (not (is_null s)) true h).0)) refl
apart_more (comment s) more h = refl
apart_more (end n foreign) more h = refl

begins_more : (e : Event) (more : List ℕ) → begins_text (with_more e more ∷ []) ≡ begins_text (e ∷ [])
begins_more (doctype legacy) more = refl
begins_more (start n foreign attributes) more = refl
begins_more (text s raw) more = refl
begins_more (comment s) more = refl
begins_more (end n foreign) more = refl

begins_extended : (e : Event) (w : List Event) (more : List ℕ) → begins_text (extended (e ∷ w) more) ≡ begins_text (e ∷ w)
begins_extended e [] more = begins_more e more
begins_extended e (x ∷ w) more = begins_alike e (extended (x ∷ w) more) (x ∷ w)

-- more bytes of the text that stands last
pub are_texts_apart-extended : (w : List Event) (more : List ℕ) → are_texts_apart w ≡ true → are_texts_apart (extended w more) ≡ true
are_texts_apart-extended [] more all = refl
are_texts_apart-extended (e ∷ []) more all = rw (apart_more e more ((and_parts (is_apart e []) true all).0)) refl
are_texts_apart-extended (e ∷ x ∷ w) more all =
    let parts = and_parts (is_apart e (x ∷ w)) (are_texts_apart (x ∷ w)) all in
    and_from (is_apart e (extended (x ∷ w) more)) (are_texts_apart (extended (x ∷ w) more))
    (apart_alike e (extended (x ∷ w) more) (x ∷ w) (begins_extended x w more) ∙ parts.0)
    (are_texts_apart-extended (x ∷ w) more parts.1)

-- an event that is no text
pub are_texts_apart-other : (w : List Event) (e : Event) → are_texts_apart w ≡ true → is_text e ≡ false → are_texts_apart (w ++ e ∷ []) ≡ true
are_texts_apart-other w (doctype legacy) all other = are_texts_apart-push w (doctype legacy) all refl (and-false (ends_in_text w))
are_texts_apart-other w (start n foreign attributes) all other = are_texts_apart-push w (start n foreign attributes) all refl (and-false (ends_in_text w))
are_texts_apart-other w (text s raw) all other = absurd (cc)
are_texts_apart-other w (comment s) all other = are_texts_apart-push w (comment s) all refl (and-false (ends_in_text w))
are_texts_apart-other w (end n foreign) all other = are_texts_apart-push w (end n foreign) all refl (and-false (ends_in_text w))

-- a text that isn't empty, after what is no text
pub are_texts_apart-text : (w : List Event) (c : ℕ) (s : List ℕ) (raw : Bool) → are_texts_apart w ≡ true → ends_in_text w ≡ false → are_texts_apart (w ++ text (c ∷ s) raw ∷ []) ≡ true
are_texts_apart-text w c s raw all ends = are_texts_apart-push w (text (c ∷ s) raw) all refl (rw ends refl)
