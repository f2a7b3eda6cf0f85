-- Between two events: the state of a way, and what a spelling knows of the event before.
use Rattle.std.proofs.Common.{◌≡◌, ℕ, Bool, true, false, ◌&&◌, ◌||◌, List, [], ◌∷◌, refl, sym, ap, ◌∙◌, subst, Some, None}
use Rattle.std.proofs.lemmas.Bool.{both_ways}
use Rattle.hm_base.specs.Walks.{Attribute, Event, doctype, start, text, comment, end, Element, begins_end, begins_text}
use Rattle.hm_elements.specs.Names.{words, is_among, table}
use Rattle.hm_elements.specs.Omission.{start_tag_required_after}
use Rattle.hm_elements.specs.Paths.{current, is_in_svg, is_in_text, outer}
use Rattle.hm_elements.specs.Tables.{holds_text, is_void}
use Rattle.hm_refs.specs.Names.{Entry}
use Rattle.hm_spelling_spec.specs.Omission.{bars, end_falls}
use Rattle.hm_spelling_spec.specs.Spellings.{Before, drops_first_line_feed, end_omitted, is_opening, is_self_closing, left_out_before, opening, other, self_closing, spot_of}
use Rattle.hm_graph_laws.specs.TagEdges.{is_after_omitted_end, is_self_closed, omission_forgotten}
use Rattle.hm_graph_laws.specs.States.{Where, outside, after_omitted_end, self_closed, Pending, nothing}
use Rattle.hm_graph_laws.specs.Steps.{Fits}
use Rattle.hm_graph_laws.specs.Units.{Previous, is_after_start, is_required_after_omission, is_omission_noted}
use Rattle.hm_optimality_laws.proofs.Order.{element, EndFits}
use Rattle.hm_optimality_laws.proofs.Spots.{fits_over, text_spot}
use Rattle.hm_optimality_laws.proofs.Tables.{bars_nothing, begins_tag, IsOpenName, loose_goes, table_not_void, table_stays, void_plain}

-- where a way (path through the layered graph) may stand before these events
pub data Place (path : List Element) (w : List Event) (at : Where) : Type 0 where
  at_outside : at ≡ outside → Place path w at
  at_omitted_end : at ≡ after_omitted_end → current path ≡ table → begins_tag w ≡ true → Place path w at
  at_closed : at ≡ self_closed → is_in_svg path ≡ true → begins_end w ≡ true → Place path w at

-- a raw text comes first, or a line feed that isn't read, or a text of title or textarea
abbrev pub needs_nothing : Previous → List Element → List Event → Bool
needs_nothing previous path w = begins_text w && (is_in_text path || (is_after_start previous && drops_first_line_feed path))

pub record Agrees (t : List Entry) (before : Before) (previous : Previous) (path : List Element) (at : Where) (p : Pending) (w : List Event) : Type 0 where
  pub place : Place path w at
  pub fits : Fits t (spot_of path) p
  pub quiet : needs_nothing previous path w ≡ true → p ≡ nothing
  pub calm : is_self_closed at ≡ true → p ≡ nothing
  pub self : is_self_closing before ≡ is_self_closed at
  pub after_start : begins_text w ≡ true → is_opening before ≡ is_after_start previous
  pub barred : (n : List ℕ) → bars (left_out_before before) n ≡ is_required_after_omission previous n && is_after_omitted_end at

and_false : (b : Bool) → b && false ≡ false
and_false true = refl
and_false false = refl

and_true : (b : Bool) → b && true ≡ b
and_true true = refl
and_true false = refl

moved : (t : List Entry) (a b : List Element) (p : Pending) → Fits t (spot_of a) p → Fits t (spot_of b) p
moved t a b p f = fits_over t (spot_of a) (spot_of b) p (text_spot a ∙ sym (text_spot b)) f

not_closed : (at : Where) → at ≡ outside → is_self_closed at ≡ true → ⊥
not_closed at e h = let k : is_self_closed outside ≡ true = subst (λ a. is_self_closed a ≡ true) e h in cc

-- after what is written nothing is pending
pub fresh : (t : List Entry) (before : Before) (previous : Previous) (path : List Element) (w : List Event) → is_opening before ≡ is_after_start previous → is_self_closing before ≡ false → left_out_before before ≡ None → Agrees t before previous path outside nothing w
fresh t before previous path w o s l = record {
  place = at_outside refl;
  fits = tt;
  quiet = λ h. refl;
  calm = λ h. refl;
  self = s;
  after_start = λ h. o;
  barred = λ n. ap (λ x. bars x n) l ∙ sym (and_false (is_required_after_omission previous n));
}

pub after_text : (t : List Entry) (path : List Element) (w : List Event) (s : List ℕ) (raw : Bool) (at : Where) (p : Pending) → at ≡ outside → Fits t (spot_of path) p → begins_text w ≡ false → Agrees t other (Some (text s raw)) path at p w
after_text t path w s raw at p here f alone = record {
  place = at_outside here;
  fits = f;
  quiet = λ h. absurd (let k : false && (is_in_text path || (false && drops_first_line_feed path)) ≡ true = rw alone at h in cc);
  calm = λ h. absurd (not_closed at here h);
  self = rw here refl;
  after_start = λ h. refl;
  barred = λ n. refl;
}

feed_is : (n : List ℕ) (path : List Element) → drops_first_line_feed (element n false ∷ path) ≡ is_among n (words "pre textarea")
unfolding drops_first_line_feed
feed_is n path = refl

nothing_needed : (b : Bool) → b && (false || (true && false)) ≡ true → ⊥
nothing_needed true h = cc
nothing_needed false h = cc

pub start_left : (t : List Entry) (before : Before) (previous : Previous) (path : List Element) (at : Where) (p : Pending) (n : List ℕ) (attributes : List Attribute) (w : List Event) → IsOpenName n
    → Agrees t before previous path at p (start n false attributes ∷ w) → Agrees t opening (Some (start n false attributes)) (element n false ∷ path) (omission_forgotten at) p w
start_left t before previous path at p n attributes w o a =
    let here = omission_forgotten_is a.place in
    record {
      place = at_outside here;
      fits = moved t path (element n false ∷ path) p a.fits;
      quiet = λ h. absurd (nothing_needed (begins_text w) (rw (feed_is n path, o.no_text, o.no_feed) at h));
      calm = λ h. absurd (not_closed (omission_forgotten at) here h);
      self = rw here refl;
      after_start = λ h. refl;
      barred = λ m. refl;
    }
  where
    omission_forgotten_is : Place path (start n false attributes ∷ w) at → omission_forgotten at ≡ outside
    omission_forgotten_is (at_outside e) = ap omission_forgotten e
    omission_forgotten_is (at_omitted_end e k b) = ap omission_forgotten e
    omission_forgotten_is (at_closed e k b) = absurd (cc)

end_no_text : (w : List Event) → begins_end w ≡ true → begins_text w ≡ true → ⊥
end_no_text [] e h = cc
end_no_text (doctype legacy ∷ w) e h = cc
end_no_text (text s raw ∷ w) e h = cc
end_no_text (comment s ∷ w) e h = cc
end_no_text (start n foreign attributes ∷ w) e h = cc
end_no_text (end n foreign ∷ w) e h = cc

pub start_closed : (t : List Entry) (path : List Element) (n : List ℕ) (attributes : List Attribute) (w : List Event) → begins_end w ≡ true → Agrees t self_closing (Some (start n true attributes)) (element n true ∷ path) self_closed nothing w
start_closed t path n attributes w e = record {
  place = at_closed refl refl e;
  fits = tt;
  quiet = λ h. refl;
  calm = λ h. refl;
  self = refl;
  after_start = λ h. absurd (end_no_text w e h);
  barred = λ m. refl;
}

-- ---- ends

pub top_name : (n : List ℕ) (foreign : Bool) (path : List Element) → EndFits n foreign path → current path ≡ n
top_name n foreign path f = ap current f.top

pub top_kind : (n : List ℕ) (foreign : Bool) (path : List Element) → EndFits n foreign path → is_in_svg path ≡ foreign
top_kind n foreign path f = ap is_in_svg f.top

pub end_in_text : (n : List ℕ) (path : List Element) → EndFits n false path → holds_text n ≡ false → is_in_text path ≡ false
end_in_text n path f h = ap is_in_text f.top ∙ h

quiet_end : (n : List ℕ) (path : List Element) (w : List Event) → is_in_text (outer path) ≡ false → needs_nothing (Some (end n false)) (outer path) w ≡ true → ⊥
quiet_end n path w around h = by_text (begins_text w) (rw around at h)
  where
    by_text : (b : Bool) → b && (false || (false && drops_first_line_feed (outer path))) ≡ true → ⊥
    by_text true k = cc
    by_text false k = cc

-- a void element has no end tag
pub end_void : (t : List Entry) (before : Before) (previous : Previous) (path : List Element) (at : Where) (p : Pending) (n : List ℕ) (w : List Event) → EndFits n false path → is_void n ≡ true
    → Agrees t before previous path at p (end n false ∷ w) → Agrees t other (Some (end n false)) (outer path) at p w
end_void t before previous path at p n w f v a =
    let here = outside_is a.place in
    record {
      place = at_outside here;
      fits = moved t path (outer path) p a.fits;
      quiet = λ h. absurd (quiet_end n path w f.placed.around h);
      calm = λ h. absurd (not_closed at here h);
      self = rw here refl;
      after_start = λ h. refl;
      barred = λ m. sym (rw (bars_nothing n m (void_plain n v).0) refl);
    }
  where
    outside_is : Place path (end n false ∷ w) at → at ≡ outside
    outside_is (at_outside e) = e
    outside_is (at_omitted_end e k b) = absurd (both_ways (is_void table) table_not_void (subst (λ x. is_void x ≡ true) (sym (top_name n false path f) ∙ k) v))
    outside_is (at_closed e k b) = absurd (both_ways (is_in_svg path) (top_kind n false path f) k)

-- an end tag that is left out, of another element than a section or colgroup
pub end_left : (t : List Entry) (before : Before) (previous : Previous) (path : List Element) (at : Where) (p : Pending) (n : List ℕ) (w : List Event) → EndFits n false path → is_omission_noted n ≡ false → is_self_closed at ≡ false
    → end_falls n (current (outer path)) w ≡ true → Agrees t before previous path at p (end n false ∷ w) → Agrees t (end_omitted n) (Some (end n false)) (outer path) at p w
end_left t before previous path at p n w f l s falls a =
    let here = outside_is a.place in
    record {
      place = at_outside here;
      fits = moved t path (outer path) p a.fits;
      quiet = λ h. absurd (quiet_end n path w f.placed.around h);
      calm = λ h. absurd (not_closed at here h);
      self = rw here refl;
      after_start = λ h. refl;
      barred = λ m. rw (bars_nothing n m l) refl;
    }
  where
    outside_is : Place path (end n false ∷ w) at → at ≡ outside
    outside_is (at_outside e) = e
    outside_is (at_omitted_end e k b) = absurd (both_ways (end_falls table (current (outer path)) w) (table_stays (current (outer path)) w) (subst (λ x. end_falls x (current (outer path)) w ≡ true) (sym (top_name n false path f) ∙ k) falls))
    outside_is (at_closed e k b) = absurd (both_ways (is_self_closed at) s (ap is_self_closed e))

-- an end tag of a section or colgroup that is left out
pub omission_noted : (t : List Entry) (path : List Element) (n : List ℕ) (w : List Event) → EndFits n false path → is_omission_noted n ≡ true → end_falls n (current (outer path)) w ≡ true → Agrees t (end_omitted n) (Some (end n false)) (outer path) after_omitted_end nothing w
omission_noted t path n w f l falls = record {
  place = at_omitted_end refl (f.placed.in_table refl l) (loose_goes n (current (outer path)) w l falls);
  fits = tt;
  quiet = λ h. refl;
  calm = λ h. refl;
  self = refl;
  after_start = λ h. refl;
  barred = λ m. sym (and_true (start_tag_required_after n m));
}

-- before a text the place is outside of all
pub text_outside : (path : List Element) (w : List Event) (s : List ℕ) (raw : Bool) (at : Where) → Place path (text s raw ∷ w) at → at ≡ outside
text_outside path w s raw at (at_outside e) = e
text_outside path w s raw at (at_omitted_end e k b) = absurd (cc)
text_outside path w s raw at (at_closed e k b) = absurd (cc)
