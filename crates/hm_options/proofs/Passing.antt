-- Walks whose events are rewritten one by one, in place.
use Rattle.std.proofs.Common.{◌≡◌, ℕ, zero, suc, ◌+◌, ◌<◌, ◌≤◌, Bool, true, false, not, ◌&&◌, List, [], ◌∷◌, ◌++◌, map, length, take, drop, slice_get, Option, Some, None, sym, ap, ◌∙◌, subst, refl, arith, length-append, append_assoc}
use Rattle.std.proofs.lemmas.Bool.{and_parts}
use Rattle.std.proofs.lemmas.List.{append-nil, drop-drop, drop_all, drop_more, length-drop}
use Rattle.std.proofs.lemmas.Option.{get_or_from_slice_get, slice_get_within}
use Rattle.hm_base.specs.Bytes.{is_null}
use Rattle.hm_base.specs.Walks.{Event, doctype, start, text, comment, end, Element, begins_comment, begins_text, path_after_event, text_before, pushed, pushes, event_size, walk_size}
use Rattle.hm_base.specs.declared.plain.TreeOptions.{TreeOptions}
use Rattle.hm_options.specs.Passes.{changed, kept, event_pass, passed}
use Rattle.hm_options.specs.Passing.{IsCalm, IsChanged, IsPassing, begins_loose, loose_count, text_in, texts_of, with_touching}
use Rattle.hm_options.specs.Rewrites.{by}
use Rattle.hm_options.specs.Rewritten.{rewritten}
use Rattle.hm_tree.specs.Edits.{Edited, IsJoined, are_loose, begins_doctype, is_loose, with_joined, with_plain_doctype, without_first}
use Rattle.hm_tree.specs.Edits as edits
use Rattle.hm_tree.specs.Rows.{ends_in_text, is_text}
use Rattle.hm_tree.specs.Trees.{IsWalk, is_apart, are_texts_apart}
use Rattle.hm_tree.proofs.LastLemmas.{ends_in_text-push}

-- ---- Events put before others

pub pushes-append : (w v u : List Event) → pushes (w ++ v) u ≡ pushes w (pushes v u)
pushes-append [] v u = refl
pushes-append (e ∷ w) v u = ap (pushed e) (pushes-append w v u)

-- a text before a text before the rest
touching : (s t : List ℕ) (raw r : Bool) (w : List Event) → text_before s raw (text_before t r w) ≡ text_before (s ++ t) raw w
touching s t raw r [] = refl
touching s t raw r (doctype legacy ∷ w) = refl
touching s t raw r (start n foreign attributes ∷ w) = refl
touching s t raw r (text u q ∷ w) = ap (λ x. text x raw ∷ w) (sym (append_assoc s t u))
touching s t raw r (comment u ∷ w) = refl
touching s t raw r (end n foreign ∷ w) = refl

-- events whose texts are apart are put as they are
apart_text : (s : List ℕ) (raw : Bool) (w : List Event) → begins_text w ≡ false → text_before s raw w ≡ text s raw ∷ w
apart_text s raw [] h = refl
apart_text s raw (doctype legacy ∷ w) h = refl
apart_text s raw (start n foreign attributes ∷ w) h = refl
apart_text s raw (text t r ∷ w) h = absurd (cc)
apart_text s raw (comment t ∷ w) h = refl
apart_text s raw (end n foreign ∷ w) h = refl

not_true : (b : Bool) → not b ≡ true → b ≡ false
not_true true h = absurd (cc)
not_true false h = refl

apart_pushed : (e : Event) (w : List Event) → is_apart e w ≡ true → pushed e w ≡ e ∷ w
apart_pushed (doctype legacy) w h = refl
apart_pushed (start n foreign attributes) w h = refl
apart_pushed (text s raw) w h = apart_text s raw w (not_true (begins_text w) (and_parts (not (is_null s)) (not (begins_text w)) h).1)
apart_pushed (comment s) w h = refl
apart_pushed (end n foreign) w h = refl

pub apart_pushes : (w : List Event) → are_texts_apart w ≡ true → pushes w [] ≡ w
apart_pushes [] h = refl
apart_pushes (e ∷ w) h =
    let parts = and_parts (is_apart e w) (are_texts_apart w) h in
    ap (pushed e) (apart_pushes w parts.1) ∙ apart_pushed e w parts.0

-- ---- The pass, event by event

-- what stands before an event says nothing of it
any_place : (o : TreeOptions) (path other : List Element) (before last : Option Event) (w : List Event) → rewritten (event_pass o) path before w ≡ rewritten (event_pass o) other last w
any_place o path other before last [] = refl
any_place o path other before last (e ∷ w) = ap (λ v. event_pass o [] None e None ++ v) (any_place o (path_after_event path e) (path_after_event other e) (Some e) (Some e) w)

pub passed_more : (o : TreeOptions) (e : Event) (w : List Event) → passed o (e ∷ w) ≡ pushes (event_pass o [] None e None) (passed o w)
passed_more o e w =
    ap (λ v. pushes (event_pass o [] None e None ++ v) []) (any_place o (path_after_event [] e) [] (Some e) None w) ∙ pushes-append (event_pass o [] None e None) (by (event_pass o) w) []

kept_by : (b : Bool) (o : TreeOptions) (e : Event) (w : List Event) → b && begins_comment (e ∷ w) ≡ false → map (changed o) (kept b e) ≡ changed o e ∷ []
kept_by true o (doctype legacy) w plain = refl
kept_by true o (start n foreign attributes) w plain = refl
kept_by true o (text s raw) w plain = refl
kept_by true o (comment s) w plain = absurd (cc)
kept_by true o (end n foreign) w plain = refl
kept_by false o e w plain = refl

-- an event that stays
pub passed_kept : (o : TreeOptions) (e : Event) (w : List Event) → o.comments && begins_comment (e ∷ w) ≡ false → passed o (e ∷ w) ≡ pushed (changed o e) (passed o w)
passed_kept o e w plain = passed_more o e w ∙ ap (λ v. pushes v (passed o w)) (kept_by o.comments o e w plain)

-- a comment that goes
pub passed_comment : (o : TreeOptions) (s : List ℕ) (w : List Event) → o.comments ≡ true → passed o (comment s ∷ w) ≡ passed o w
passed_comment o s w on = passed_more o (comment s) w ∙ rw on refl

text_plain : (b : Bool) (s : List ℕ) (raw : Bool) (w : List Event) → b && begins_comment (text s raw ∷ w) ≡ false
text_plain true s raw w = refl
text_plain false s raw w = refl

pub passed_text : (o : TreeOptions) (s : List ℕ) (raw : Bool) (w : List Event) → passed o (text s raw ∷ w) ≡ text_before s raw (passed o w)
passed_text o s raw w = passed_kept o (text s raw) w (text_plain o.comments s raw w)

-- ---- One event more

-- the next event has changed, and is done
pub changed_and_kept : (o : TreeOptions) (v before left : List Event) (e : Edited) → IsChanged o before left → e ≡ edits.kept v left → IsPassing o (record { done = v; left = before }) e
changed_and_kept o v before left e h is =
    let kept_is : e ≡ record { done = v ++ h.event ∷ []; left = h.rest } = is ∙ ap (edits.kept v) h.is in
    rw kept_is (record {
      same = pushes-append v (h.event ∷ []) (passed o h.rest) ∙ ap (pushes v) h.same;
      fewer = h.fewer;
      calm = λ on ends. h.calm on (sym (ends_in_text-push v h.event) ∙ ends);
    })

-- a comment was left out
pub comment_left_out : (o : TreeOptions) (old new : Edited) → o.comments ≡ true → begins_comment old.left ≡ true → ends_in_text old.done ≡ false → new ≡ record { done = old.done; left = without_first old.left } → IsPassing o old new
comment_left_out o old new on begins other is = by_left old.left refl
  where
    by_left : (l : List Event) → old.left ≡ l → IsPassing o old new
    by_left [] e = absurd (let h = ap begins_comment e in cc)
    by_left (comment s ∷ w) e = rw (is, e) (record {
      same = ap (pushes old.done) (sym (passed_comment o s w on));
      fewer = omega arith;
      calm = λ _ ends. absurd (let h = sym other ∙ ends in cc);
    })
    by_left (doctype legacy ∷ w) e = absurd (let h = ap begins_comment e in cc)
    by_left (start n foreign attributes ∷ w) e = absurd (let h = ap begins_comment e in cc)
    by_left (text s raw ∷ w) e = absurd (let h = ap begins_comment e in cc)
    by_left (end n foreign ∷ w) e = absurd (let h = ap begins_comment e in cc)

-- where the comment comes, no text is directly before it
pub calm_before : (o : TreeOptions) (e : Edited) → IsCalm o e → o.comments ≡ true → begins_comment e.left ≡ true → ends_in_text e.done ≡ false
calm_before o e calm on begins = by_end (ends_in_text e.done) refl
  where
    by_end : (b : Bool) → ends_in_text e.done ≡ b → b ≡ false
    by_end true h = absurd (let off = calm on h in let both = sym begins ∙ off in cc)
    by_end false h = refl

-- ---- What an event becomes

no_text_calm : (o : TreeOptions) (e : Event) (w : List Event) → is_text e ≡ false → o.comments ≡ true → is_text e ≡ true → begins_comment w ≡ false
no_text_calm o e w other on is = absurd (let both = sym other ∙ is in cc)

-- an event that isn't a text
pub changed_so : (o : TreeOptions) (e new : Event) (w : List Event) → o.comments && begins_comment (e ∷ w) ≡ false → changed o e ≡ new → is_text new ≡ false → IsChanged o (e ∷ w) (new ∷ w)
changed_so o e new w plain is other = record {
  event = new;
  rest = w;
  is = refl;
  same = sym (passed_kept o e w plain ∙ ap (λ x. pushed x (passed o w)) is);
  fewer = omega arith;
  calm = no_text_calm o new w other;
}

-- a text where comments stay
pub text_alone : (o : TreeOptions) (s : List ℕ) (raw : Bool) (w : List Event) → o.comments ≡ false → IsChanged o (text s raw ∷ w) (text s raw ∷ w)
text_alone o s raw w off = record {
  event = text s raw;
  rest = w;
  is = refl;
  same = sym (passed_text o s raw w);
  fewer = omega arith;
  calm = λ on. absurd (let both = sym off ∙ on in cc);
}

-- ---- Texts that touch

loose_rest : (w : List Event) → begins_loose (drop (loose_count w) w) ≡ false
loose_rest [] = refl
loose_rest (doctype legacy ∷ w) = refl
loose_rest (start n foreign attributes ∷ w) = refl
loose_rest (text s raw ∷ w) = loose_rest w
loose_rest (comment s ∷ w) = loose_rest w
loose_rest (end n foreign ∷ w) = refl

no_comment_loose : (w : List Event) → begins_loose w ≡ false → begins_comment w ≡ false
no_comment_loose [] h = refl
no_comment_loose (doctype legacy ∷ w) h = refl
no_comment_loose (start n foreign attributes ∷ w) h = refl
no_comment_loose (text s raw ∷ w) h = refl
no_comment_loose (comment s ∷ w) h = absurd (cc)
no_comment_loose (end n foreign ∷ w) h = refl

no_text_loose : (w : List Event) → begins_loose w ≡ false → begins_text w ≡ false
no_text_loose [] h = refl
no_text_loose (doctype legacy ∷ w) h = refl
no_text_loose (start n foreign attributes ∷ w) h = refl
no_text_loose (text s raw ∷ w) h = absurd (cc)
no_text_loose (comment s ∷ w) h = refl
no_text_loose (end n foreign ∷ w) h = refl

pub count_within : (w : List Event) → loose_count w ≤ length w
count_within [] = omega arith
count_within (doctype legacy ∷ w) = omega arith
count_within (start n foreign attributes ∷ w) = omega arith
count_within (text s raw ∷ w) = omega (arith, count_within w)
count_within (comment s ∷ w) = omega (arith, count_within w)
count_within (end n foreign ∷ w) = omega arith

pub loose_front : (w : List Event) → are_loose (take (loose_count w) w) ≡ true
loose_front [] = refl
loose_front (doctype legacy ∷ w) = refl
loose_front (start n foreign attributes ∷ w) = refl
loose_front (text s raw ∷ w) = loose_front w
loose_front (comment s ∷ w) = loose_front w
loose_front (end n foreign ∷ w) = refl

text_short : (e : Event) → length (text_in e) ≤ event_size e
text_short (doctype legacy) = omega arith
text_short (start n foreign attributes) = omega arith
text_short (text s raw) = omega arith
text_short (comment s) = omega arith
text_short (end n foreign) = omega arith

texts_short : (w : List Event) → length (texts_of w) ≤ walk_size w
texts_short [] = omega arith
texts_short (e ∷ w) = omega (arith, texts_short w, text_short e, length-append (text_in e) (texts_of w))

null_more : (s more : List ℕ) → is_null s ≡ false → is_null (s ++ more) ≡ false
null_more [] more h = absurd (cc)
null_more (c ∷ s) more h = refl

some_text : (v : List Event) (s : List ℕ) (raw : Bool) (l : List Event) → are_texts_apart (v ++ text s raw ∷ l) ≡ true → is_null s ≡ false
some_text [] s raw l h =
    let mine = (and_parts (is_apart (text s raw) l) (are_texts_apart l) h).0 in
    not_true (is_null s) (and_parts (not (is_null s)) (not (begins_text l)) mine).0
some_text (e ∷ v) s raw l h = some_text v s raw l (and_parts (is_apart e (v ++ text s raw ∷ l)) (are_texts_apart (v ++ text s raw ∷ l)) h).1

-- the texts and comments after a text can be joined with it
pub may_be_joined : (v : List Event) (s : List ℕ) (raw : Bool) (w : List Event) → IsWalk (v ++ text s raw ∷ w) → IsJoined (text s raw ∷ w) (loose_count w) (s ++ texts_of (take (loose_count w) w))
may_be_joined v s raw w walk = (
  count_within w,
  loose_front w,
  no_text_loose (drop (loose_count w) w) (loose_rest w),
  omega (arith, length-append s (texts_of (take (loose_count w) w)), texts_short (take (loose_count w) w)),
  null_more s (texts_of (take (loose_count w) w)) (some_text v s raw w walk.apart),
)

joined_passed : (o : TreeOptions) (s : List ℕ) (raw : Bool) (w : List Event) → o.comments ≡ true → text_before s raw (passed o w) ≡ text_before (s ++ texts_of (take (loose_count w) w)) raw (passed o (drop (loose_count w) w))
joined_passed o s raw [] on = ap (λ t. text_before t raw (passed o [])) (sym (append-nil s))
joined_passed o s raw (doctype legacy ∷ w) on = ap (λ t. text_before t raw (passed o (doctype legacy ∷ w))) (sym (append-nil s))
joined_passed o s raw (start n foreign attributes ∷ w) on = ap (λ t. text_before t raw (passed o (start n foreign attributes ∷ w))) (sym (append-nil s))
joined_passed o s raw (text t r ∷ w) on =
    ap (text_before s raw) (passed_text o t r w) ∙ touching s t raw r (passed o w) ∙ joined_passed o (s ++ t) raw w on
    ∙ ap (λ u. text_before u raw (passed o (drop (loose_count w) w))) (append_assoc s t (texts_of (take (loose_count w) w)))
joined_passed o s raw (comment t ∷ w) on = ap (text_before s raw) (passed_comment o t w on) ∙ joined_passed o s raw w on
joined_passed o s raw (end n foreign ∷ w) on = ap (λ t. text_before t raw (passed o (end n foreign ∷ w))) (sym (append-nil s))

pub text_joined : (o : TreeOptions) (s : List ℕ) (raw : Bool) (w : List Event) → o.comments ≡ true → IsChanged o (text s raw ∷ w) (with_touching (text s raw ∷ w))
text_joined o s raw w on = record {
  event = text (s ++ texts_of (take (loose_count w) w)) raw;
  rest = drop (loose_count w) w;
  is = refl;
  same = sym (passed_text o s raw w ∙ joined_passed o s raw w on);
  fewer = omega (arith, length-drop (loose_count w) w);
  calm = λ _ _. no_comment_loose (drop (loose_count w) w) (loose_rest w);
}

-- nothing touches it
pub nothing_touches : (s : List ℕ) (raw : Bool) (w : List Event) → loose_count w ≡ 0 → text s raw ∷ w ≡ with_touching (text s raw ∷ w)
nothing_touches s raw w none = rw (none, append-nil) refl

-- ---- Doctypes

doctype_plain : (b : Bool) (legacy : Bool) (w : List Event) → b && begins_comment (doctype legacy ∷ w) ≡ false
doctype_plain true legacy w = refl
doctype_plain false legacy w = refl

pub doctype_changes : (o : TreeOptions) (l after : List Event) → begins_doctype l ≡ true → o.doctype ≡ true → after ≡ with_plain_doctype l → IsChanged o l after
doctype_changes o [] after b on is = absurd (cc)
doctype_changes o (doctype legacy ∷ w) after b on is = rw is (changed_so o (doctype legacy) (doctype false) w (doctype_plain o.comments legacy w) (rw on refl) refl)
doctype_changes o (start n foreign attributes ∷ w) after b on is = absurd (cc)
doctype_changes o (text s raw ∷ w) after b on is = absurd (cc)
doctype_changes o (comment s ∷ w) after b on is = absurd (cc)
doctype_changes o (end n foreign ∷ w) after b on is = absurd (cc)

pub doctype_stays : (o : TreeOptions) (l : List Event) → begins_doctype l ≡ true → o.doctype ≡ false → IsChanged o l l
doctype_stays o [] b off = absurd (cc)
doctype_stays o (doctype legacy ∷ w) b off = changed_so o (doctype legacy) (doctype legacy) w (doctype_plain o.comments legacy w) (rw off refl) refl
doctype_stays o (start n foreign attributes ∷ w) b off = absurd (cc)
doctype_stays o (text s raw ∷ w) b off = absurd (cc)
doctype_stays o (comment s ∷ w) b off = absurd (cc)
doctype_stays o (end n foreign ∷ w) b off = absurd (cc)

-- ---- Texts and comments are counted

pub count_begins : (l : List Event) → loose_count (without_first l) + 1 ≡ 1 + loose_count (drop 1 l)
count_begins [] = refl
count_begins (e ∷ w) = omega arith

pub count_ends : (n : ℕ) (l : List Event) → length l ≤ n → loose_count (drop n l) ≡ 0
count_ends n l past = ap loose_count (drop_all n l past)

drop_there : (l : List Event) (i : ℕ) (e : Event) → slice_get l i ≡ Some e → drop i l ≡ e ∷ drop (i + 1) l
drop_there l i e at = drop_more l i e (slice_get_within l i e at) ∙ ap (λ x. x ∷ drop (i + 1) l) (get_or_from_slice_get l i e e at)

pub text_there : (l : List Event) (i : ℕ) (e : Event) → slice_get l i ≡ Some e → texts_of (take 1 (drop i l)) ≡ text_in e
text_there l i e at = ap (λ w. texts_of (take 1 w)) (drop_there l i e at) ∙ append-nil (text_in e)

pub no_text_there : (l : List Event) (i : ℕ) → slice_get l i ≡ None → texts_of (take 1 (drop i l)) ≡ []
no_text_there [] zero at = refl
no_text_there [] (suc i) at = refl
no_text_there (e ∷ l) zero at = absurd (cc)
no_text_there (e ∷ l) (suc i) at = no_text_there l i at

pub loose_there : (l : List Event) (i : ℕ) (e : Event) → slice_get l i ≡ Some e → begins_loose (drop i l) ≡ is_loose e
loose_there l i e at = ap begins_loose (drop_there l i e at)

pub not_loose_there : (l : List Event) (i : ℕ) → slice_get l i ≡ None → begins_loose (drop i l) ≡ false
not_loose_there [] zero at = refl
not_loose_there [] (suc i) at = refl
not_loose_there (e ∷ l) zero at = absurd (cc)
not_loose_there (e ∷ l) (suc i) at = not_loose_there l i at

texts_step : (l : List Event) (i : ℕ) → texts_of (take (suc i) l) ≡ texts_of (take i l) ++ texts_of (take 1 (drop i l))
texts_step [] zero = refl
texts_step [] (suc i) = refl
texts_step (e ∷ l) zero = refl
texts_step (e ∷ l) (suc i) = ap (λ t. text_in e ++ t) (texts_step l i) ∙ sym (append_assoc (text_in e) (texts_of (take i l)) (texts_of (take 1 (drop i l))))

-- the texts of one event more
pub texts_more : (l : List Event) (i : ℕ) → texts_of (take (i + 1) l) ≡ texts_of (take i l) ++ texts_of (take 1 (drop i l))
texts_more l i = let one : i + 1 ≡ suc i = omega arith in ap (λ k. texts_of (take k l)) one ∙ texts_step l i

count_step : (w : List Event) → begins_loose w ≡ true → loose_count w ≡ 1 + loose_count (drop 1 w)
count_step [] h = absurd (cc)
count_step (e ∷ w) h = rw h (omega arith)

count_none : (w : List Event) → begins_loose w ≡ false → loose_count w ≡ 0
count_none [] h = refl
count_none (e ∷ w) h = rw h refl

pub count_more : (l : List Event) (i : ℕ) → begins_loose (drop i l) ≡ true → loose_count (drop i l) ≡ 1 + loose_count (drop (i + 1) l)
count_more l i h =
    let one : 1 + i ≡ i + 1 = omega arith in
    count_step (drop i l) h ∙ ap (λ w. 1 + loose_count w) (drop-drop 1 i l ∙ ap (λ k. drop k l) (omega arith))

pub count_stops : (l : List Event) (i : ℕ) → begins_loose (drop i l) ≡ false → loose_count (drop i l) ≡ 0
count_stops l i h = count_none (drop i l) h

-- ---- The text that is first

pub some_text_first : (l : List Event) → begins_text l ≡ true → 0 < length l
some_text_first [] b = absurd (cc)
some_text_first (e ∷ w) b = omega arith

pub none_left : (l : List Event) → length l ≤ 0 → l ≡ []
none_left [] h = refl
none_left (e ∷ l) h = absurd (omega (arith, h))

pub count_short : (v l : List Event) → IsWalk (v ++ l) → 0 < length l → loose_count (without_first l) + 1 ≤ length l
count_short v [] walk some = absurd (omega (arith, some))
count_short v (e ∷ w) walk some = omega (arith, count_within w)

pub joined_so : (v l : List Event) → begins_text l ≡ true → IsWalk (v ++ l) → IsJoined l (loose_count (without_first l)) (texts_of (take (loose_count (without_first l) + 1) l))
joined_so v [] b walk = absurd (cc)
joined_so v (doctype legacy ∷ w) b walk = absurd (cc)
joined_so v (start n foreign attributes ∷ w) b walk = absurd (cc)
joined_so v (text s raw ∷ w) b walk =
    let one : loose_count w + 1 ≡ suc (loose_count w) = omega arith in
    subst (λ k. IsJoined (text s raw ∷ w) (loose_count w) (texts_of (take k (text s raw ∷ w)))) (sym one) (may_be_joined v s raw w walk)
joined_so v (comment s ∷ w) b walk = absurd (cc)
joined_so v (end n foreign ∷ w) b walk = absurd (cc)

pub touching_so : (l : List Event) → begins_text l ≡ true → with_joined (loose_count (without_first l)) (texts_of (take (loose_count (without_first l) + 1) l)) l ≡ with_touching l
touching_so [] b = absurd (cc)
touching_so (doctype legacy ∷ w) b = absurd (cc)
touching_so (start n foreign attributes ∷ w) b = absurd (cc)
touching_so (text s raw ∷ w) b =
    let one : loose_count w + 1 ≡ suc (loose_count w) = omega arith in
    ap (λ k. text (texts_of (take k (text s raw ∷ w))) raw ∷ drop (loose_count w) w) one
touching_so (comment s ∷ w) b = absurd (cc)
touching_so (end n foreign ∷ w) b = absurd (cc)

pub alone_so : (l : List Event) → begins_text l ≡ true → loose_count (without_first l) ≡ 0 → l ≡ with_touching l
alone_so [] b none = absurd (cc)
alone_so (doctype legacy ∷ w) b none = absurd (cc)
alone_so (start n foreign attributes ∷ w) b none = absurd (cc)
alone_so (text s raw ∷ w) b none = nothing_touches s raw w none
alone_so (comment s ∷ w) b none = absurd (cc)
alone_so (end n foreign ∷ w) b none = absurd (cc)

pub text_changes : (o : TreeOptions) (l after : List Event) → begins_text l ≡ true → o.comments ≡ true → after ≡ with_touching l → IsChanged o l after
text_changes o [] after b on is = absurd (cc)
text_changes o (doctype legacy ∷ w) after b on is = absurd (cc)
text_changes o (start n foreign attributes ∷ w) after b on is = absurd (cc)
text_changes o (text s raw ∷ w) after b on is = rw is (text_joined o s raw w on)
text_changes o (comment s ∷ w) after b on is = absurd (cc)
text_changes o (end n foreign ∷ w) after b on is = absurd (cc)

pub text_stays : (o : TreeOptions) (l : List Event) → begins_text l ≡ true → o.comments ≡ false → IsChanged o l l
text_stays o [] b off = absurd (cc)
text_stays o (doctype legacy ∷ w) b off = absurd (cc)
text_stays o (start n foreign attributes ∷ w) b off = absurd (cc)
text_stays o (text s raw ∷ w) b off = text_alone o s raw w off
text_stays o (comment s ∷ w) b off = absurd (cc)
text_stays o (end n foreign ∷ w) b off = absurd (cc)

-- ---- The next event, whatever it is

-- an event that is changed by no rewrite
pub same_stays : (o : TreeOptions) (l : List Event) (e : Event) → slice_get l 0 ≡ Some e → o.comments && begins_comment l ≡ false → changed o e ≡ e → is_text e ≡ false → IsChanged o l l
same_stays o [] e at plain same other = absurd (cc)
same_stays o (x ∷ w) e at plain same other =
    let is : x ≡ e = cc in
    subst (λ y. o.comments && begins_comment (y ∷ w) ≡ false → IsChanged o (y ∷ w) (y ∷ w)) (sym is) (λ p. changed_so o e e w p same other) plain

pub comment_first : (l : List Event) (e : Event) → slice_get l 0 ≡ Some e → begins_comment l ≡ begins_comment (e ∷ [])
comment_first [] e at = absurd (cc)
comment_first (x ∷ w) e at = let is : x ≡ e = cc in same is
  where
    of : (y : Event) → begins_comment (y ∷ w) ≡ begins_comment (y ∷ [])
    of (doctype legacy) = refl
    of (start n foreign attributes) = refl
    of (text s raw) = refl
    of (comment s) = refl
    of (end n foreign) = refl

    same : x ≡ e → begins_comment (x ∷ w) ≡ begins_comment (e ∷ [])
    same is = of x ∙ ap (λ y. begins_comment (y ∷ [])) is

-- ---- The pass

-- what holds between two steps
pub record IsPassed (o : TreeOptions) (w : List Event) (e : Edited) : Type 0 where
  pub same : pushes e.done (passed o e.left) ≡ passed o w
  pub calm : IsCalm o e

pub passing_begins : (o : TreeOptions) (w : List Event) (e : Edited) → e ≡ record { done = []; left = w } → IsPassed o w e
passing_begins o w e is = rw is (record { same = refl; calm = λ on ends. absurd (cc) })

pub passing_more : (o : TreeOptions) (w : List Event) (old new : Edited) → IsPassed o w old → IsPassing o old new → IsPassed o w new
passing_more o w old new h step = record { same = step.same ∙ h.same; calm = step.calm }

pub passing_ends : (o : TreeOptions) (w : List Event) (e : Edited) → IsPassed o w e → e.left ≡ [] → IsWalk (e.done ++ e.left) → e.done ≡ passed o w
passing_ends o w e h none walk =
    let whole : e.done ++ e.left ≡ e.done = ap (λ l. e.done ++ l) none ∙ append-nil e.done in
    let apart : are_texts_apart e.done ≡ true = ap are_texts_apart (sym whole) ∙ walk.apart in
    sym (apart_pushes e.done apart) ∙ ap (λ l. pushes e.done (passed o l)) (sym none) ∙ h.same
