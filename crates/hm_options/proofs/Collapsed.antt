-- A settled walk stays settled where its whitespace is collapsed.
use Rattle.std.proofs.Common.{◌≡◌, ℕ, Bool, true, false, ◌&&◌, ◌⊎◌, inl, inr, List, [], ◌∷◌, ◌++◌, Option, Some, None, if◌then◌else◌, refl}
use Rattle.std.proofs.lemmas.Str.{IsUtf8-from_is_utf8, is_utf8-from_IsUtf8}
use Rattle.hm_base.specs.Bytes.{is_null}
use Rattle.hm_base.specs.Forms.{is_blank}
use Rattle.hm_base.specs.Walks.{Event, doctype, start, text, comment, end, Element, begins_end, begins_text}
use Rattle.hm_elements.specs.Settled.{Settled}
use Rattle.hm_elements.specs.Places.{TextAllowed, html_path}
use Rattle.hm_options.specs.Rewritten.{first_event, rewritten}
use Rattle.hm_options.specs.Space.{spaced, is_kept, hides_space, is_edge, without_leading, without_trailing, is_one_space, text_of, trimmed, collapsed_text, collapsed_event, collapsed}
use Rattle.hm_options.proofs.Becoming.{Fine, Becomes, element_of, settled_is_fine, settled_stays}
use Rattle.hm_options.proofs.Better.{Better, better_self, better_twice, spaced_better, leading_better, trailing_better}
use Rattle.hm_options.proofs.Trims.{spaced_some}

-- where the text s may stand, the text t may
pub text_better : (path : List Element) (s t : List ℕ) (w v : List Event) → TextAllowed path s false w → Better s t → is_null t ≡ false → begins_text v ≡ false → TextAllowed path t false v
text_better path s t w v a better some alone = record {
  not_empty = some;
  alone = alone;
  no_zero = better.no_zero a.no_zero;
  kind = a.kind;
  blank = λ e. better.blank (a.blank e);
  no_return = λ e. absurd (cc);
  ends = λ e. absurd (cc);
  utf8 = is_utf8-from_IsUtf8 t (better.utf8 (IsUtf8-from_is_utf8 s a.utf8));
}

-- the same text before other events
pub text_before_others : (path : List Element) (s : List ℕ) (raw : Bool) (w v : List Event) → TextAllowed path s raw w → begins_text v ≡ false → TextAllowed path s raw v
text_before_others path s raw w v a alone = record {
  not_empty = a.not_empty;
  alone = alone;
  no_zero = a.no_zero;
  kind = a.kind;
  blank = a.blank;
  no_return = a.no_return;
  ends = a.ends;
  utf8 = a.utf8;
}

-- a text becomes nothing, or a text that may stand where it does
TextBecomes : List ℕ → List Event → Type 0
TextBecomes s es = (es ≡ []) ⊎ ((t : List ℕ) × (es ≡ text t false ∷ []) × Better s t × (is_null t ≡ false))

of_becomes : (s t : List ℕ) → Better s t → TextBecomes s (text_of t)
unfolding TextBecomes
of_becomes s [] better = inl refl
of_becomes s (c ∷ t) better = inr (c ∷ t, refl, better, refl)

becomes_by : (s : List ℕ) (b : Bool) (xs ys : List Event) → TextBecomes s xs → TextBecomes s ys → TextBecomes s (if b then xs else ys)
becomes_by s true xs ys x y = x
becomes_by s false xs ys x y = y

module _ (conservative : Bool) (path : List Element) (before next : Option Event) (s : List ℕ) where
  trimmed_becomes : (t : List ℕ) → Better s t → TextBecomes s (trimmed path before next t)
  unfolding TextBecomes
  trimmed_becomes t better =
      let first = without_leading (is_edge before) t in
      let second = without_trailing (is_edge next) first in
      becomes_by s (is_one_space t && hides_space path) [] (text_of second) (inl refl)
      (of_becomes s second (better_twice s t second better (better_twice t first second (leading_better (is_edge before) t) (trailing_better (is_edge next) first))))

  text_becomes : is_null s ≡ false → TextBecomes s (collapsed_text conservative path before next s)
  unfolding TextBecomes
  text_becomes some =
      becomes_by s (is_kept path) (text s false ∷ []) (if conservative then text (spaced false s) false ∷ [] else trimmed path before next (spaced false s)) (inr (s, refl, better_self s, some))
      (becomes_by s conservative (text (spaced false s) false ∷ []) (trimmed path before next (spaced false s)) (inr (spaced false s, refl, spaced_better s, spaced_some s some)) (trimmed_becomes (spaced false s) (spaced_better s)))

module _ (conservative : Bool) where
  -- a text comes first only where one did
  no_text_first : (path : List Element) (before : Option Event) (w : List Event) → begins_text w ≡ false → begins_text (rewritten (collapsed_event conservative) path before w) ≡ false
  no_text_first path before [] h = refl
  no_text_first path before (doctype legacy ∷ w) h = refl
  no_text_first path before (start n foreign attributes ∷ w) h = refl
  no_text_first path before (text s raw ∷ w) h = absurd (cc)
  no_text_first path before (comment s ∷ w) h = refl
  no_text_first path before (end n foreign ∷ w) h = refl

  end_first : (path : List Element) (before : Option Event) (w : List Event) → begins_end w ≡ true → begins_end (rewritten (collapsed_event conservative) path before w) ≡ true
  end_first path before [] h = absurd (cc)
  end_first path before (doctype legacy ∷ w) h = absurd (cc)
  end_first path before (start n foreign attributes ∷ w) h = absurd (cc)
  end_first path before (text s raw ∷ w) h = absurd (cc)
  end_first path before (comment s ∷ w) h = absurd (cc)
  end_first path before (end n foreign ∷ w) h = refl

  text_put : (path : List Element) (s : List ℕ) (w rest es : List Event) → TextAllowed path s false w → (path ≡ html_path → is_blank s ≡ true) → begins_text rest ≡ false → Becomes path w rest → TextBecomes s es → Becomes path (text s false ∷ w) (es ++ rest)
  unfolding TextBecomes
  text_put path s w rest es a blank alone b (inl is) = rw is (inl b)
  text_put path s w rest es a blank alone b (inr (t, is, better, some)) = rw is (inr (t, false, rest, refl, text_better path s t w rest a better some alone, (λ e. better.blank (blank e)), b))

  collapsed_becomes : (path : List Element) (before : Option Event) (w : List Event) → Fine path w → Becomes path w (rewritten (collapsed_event conservative) path before w)
  collapsed_becomes path before [] h = refl
  collapsed_becomes path before (doctype legacy ∷ w) h = (legacy, rewritten (collapsed_event conservative) path (Some (doctype legacy)) w, refl, collapsed_becomes path (Some (doctype legacy)) w h)
  collapsed_becomes path before (start n foreign attributes ∷ w) h = (
    attributes,
    rewritten (collapsed_event conservative) (element_of n foreign ∷ path) (Some (start n foreign attributes)) w,
    refl,
    h.0,
    end_first (element_of n foreign ∷ path) (Some (start n foreign attributes)) w,
    collapsed_becomes (element_of n foreign ∷ path) (Some (start n foreign attributes)) w h.1,
  )
  collapsed_becomes path before (text s true ∷ w) h =
      let rest = rewritten (collapsed_event conservative) path (Some (text s true)) w in
      inr (s, true, rest, refl, text_before_others path s true w rest h.0 (no_text_first path (Some (text s true)) w h.0.alone), h.1, collapsed_becomes path (Some (text s true)) w h.2)
  collapsed_becomes path before (text s false ∷ w) h =
      let rest = rewritten (collapsed_event conservative) path (Some (text s false)) w in
      text_put path s w rest (collapsed_text conservative path before (first_event w) s) h.0 h.1 (no_text_first path (Some (text s false)) w h.0.alone) (collapsed_becomes path (Some (text s false)) w h.2) (text_becomes conservative path before (first_event w) s h.0.not_empty)
  collapsed_becomes path before (comment s ∷ w) h = inr (rewritten (collapsed_event conservative) path (Some (comment s)) w, refl, collapsed_becomes path (Some (comment s)) w h.1)
  collapsed_becomes [] before (end n foreign ∷ w) h = (rewritten (collapsed_event conservative) [] (Some (end n foreign)) w, refl, collapsed_becomes [] (Some (end n foreign)) w h)
  collapsed_becomes (e ∷ path) before (end n foreign ∷ w) h = (rewritten (collapsed_event conservative) path (Some (end n foreign)) w, refl, collapsed_becomes path (Some (end n foreign)) w h)

  pub collapsed_settled : (w : List Event) → Settled w → Settled (collapsed conservative w)
  unfolding collapsed
  collapsed_settled w h = settled_stays w (rewritten (collapsed_event conservative) [] None w) h (collapsed_becomes [] None w (settled_is_fine w h))
