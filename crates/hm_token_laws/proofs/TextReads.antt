-- A text that is written piece by piece is read as it is meant.
use Rattle.std.proofs.Common.{◌≡◌, ℕ, suc, ◌+◌, Bool, true, false, cond, not, ◌&&◌, ◌==◌, List, [], ◌∷◌, ◌++◌, map, length, take, drop, Some, encode_utf8_all, refl, ap, ap₂, sym, subst, ◌∙◌, arith, append_assoc, append-nil, length-append}
use Rattle.std.proofs.lemmas.Bool.{and_parts, eqb-true}
use Rattle.std.proofs.lemmas.List.{take_at, drop_at}
use Rattle.hm_base.specs.Bytes.{is_null, is_alnum, is_letter, is_digit_of}
use Rattle.hm_base.specs.RawText.{place_from, begins_end_tag, raw_end}
use Rattle.hm_refs.specs.Names.{Entry}
use Rattle.hm_refs.specs.References.{Reference}
use Rattle.hm_refs.specs.Tables.{IsTable}
use Rattle.hm_scan.specs.TextPlaces.{reference_here}
use Rattle.hm_scan.specs.Texts.{begins_markup, reference_in, ends_plain, plain_front, read_by, read_text}
use Rattle.hm_tree.specs.Tokens.{Seen, slice, points, taken}
use Rattle.hm_token_laws.specs.First.{Mode, ordinary, in_svg, raw, script, after_bytes, three_more, nothing_skipped, after_empty_tags, next_here, before_rest, first}
use Rattle.hm_token_laws.specs.First as modes
use Rattle.hm_token_laws.specs.Laws.{reads_markup}
use Rattle.hm_token_laws.specs.Readings.{ReadsAs}
use Rattle.hm_token_laws.specs.Decided.{TextPiece, literal, referred, written_so, meant, ArePieces, in_mode, texts_of, is_text, are_texts, ends_text, TextsAreRead, ElementTextsAreRead, MarkupEndsTexts, goes_on, cuts_text}
use Rattle.hm_token_laws.proofs.Bools.{or_parts, none_there}
use Rattle.hm_token_laws.proofs.Texts.{Piece, piece, plain_cut}
use Rattle.hm_token_laws.proofs.Marks.{markup_shape}
use Rattle.hm_token_laws.proofs.Values.{at_amp}
use Rattle.hm_token_laws.proofs.TextPieces.{names_of_table}

-- ---- pieces of text one after another

-- text is read here: something is left, and no markup begins
record TextHere (closed : Bool) (s : List ℕ) : Type 0 where
  some : is_null s ≡ false
  no_markup : not closed && begins_markup s ≡ false

ReadsText : List Entry → Bool → List Seen → List ℕ → List ℕ → Type 0
ReadsText t closed [] s rest = s ≡ rest
ReadsText t closed (k ∷ ks) s rest = (left : List ℕ) × (read_text t closed s ≡ taken k left) × TextHere closed s × ReadsText t closed ks left rest

record TextRead (t : List Entry) (closed : Bool) (s rest text : List ℕ) : Type 0 where
  tokens : List Seen
  reads : ReadsText t closed tokens s rest
  texts : are_texts tokens ≡ true
  joined : texts_of tokens ≡ text

-- a byte that stands for itself, and the plain text after it
plain_first : (t : List Entry) (closed : Bool) (c : ℕ) (s : List ℕ) → ends_plain t closed c s ≡ false
    → read_text t closed (c ∷ s) ≡ taken (slice (c ∷ plain_front t closed s)) (drop (length (plain_front t closed s)) s)
unfolding read_text
plain_first t closed c s h =
    let none = none_there (reference_in t c s) (or_parts (not closed && begins_markup (c ∷ s)) _ h).1 in
    let front : plain_front t closed (c ∷ s) ≡ c ∷ plain_front t closed s = rw h refl in
    rw none (ap₂ (λ x n. taken (slice x) (drop n (c ∷ s))) front (ap length front))

text_here : (t : List Entry) (closed : Bool) (c : ℕ) (s : List ℕ) → ends_plain t closed c s ≡ false → TextHere closed (c ∷ s)
text_here t closed c s h = record { some = refl; no_markup = (or_parts (not closed && begins_markup (c ∷ s)) _ h).0 }

-- a plain text that isn't empty is read as it is
front_first : (t : List Entry) (closed : Bool) (s : List ℕ) (e : ℕ) (f : List ℕ) → plain_front t closed s ≡ e ∷ f → read_text t closed s ≡ taken (slice (e ∷ f)) (drop (length (e ∷ f)) s)
front_first t closed [] e f h = absurd (cc)
front_first t closed (c ∷ s) e f h = by_test (ends_plain t closed c s) refl h
  where
    by_test : (b : Bool) → ends_plain t closed c s ≡ b → cond b [] (c ∷ plain_front t closed s) ≡ e ∷ f → read_text t closed (c ∷ s) ≡ taken (slice (e ∷ f)) (drop (length (e ∷ f)) (c ∷ s))
    by_test true g k = absurd (cc)
    by_test false g k = subst (λ x. read_text t closed (c ∷ s) ≡ taken (slice x) (drop (length x) (c ∷ s))) k (plain_first t closed c s g)

literal_read : (t : List Entry) (closed : Bool) (c : ℕ) (s after text : List ℕ) → plain_front t closed after ≡ [] → ends_plain t closed c s ≡ false → TextRead t closed s after text → TextRead t closed (c ∷ s) after (c ∷ text)
unfolding ReadsText
literal_read t closed c s after text ended h more = by_front (plain_front t closed s) refl more.tokens more.reads more.texts more.joined
  where
    by_front : (f : List ℕ) → plain_front t closed s ≡ f → (ks : List Seen) → ReadsText t closed ks s after → are_texts ks ≡ true → texts_of ks ≡ text → TextRead t closed (c ∷ s) after (c ∷ text)
    by_front [] e ks reads texts joined = record {
      tokens = slice (c ∷ []) ∷ ks;
      reads = (s, plain_first t closed c s h ∙ rw e refl, text_here t closed c s h, reads);
      texts = texts;
      joined = ap (λ x. c ∷ x) joined;
    }
    by_front (d ∷ f) e [] reads texts joined = absurd (clash (subst (λ x. plain_front t closed x ≡ d ∷ f) reads e))
      where
        clash : plain_front t closed after ≡ d ∷ f → ⊥
        clash k = cc
    by_front (d ∷ f) e (k ∷ ks) (left, read, here, reads) texts joined =
        let first = front_first t closed s d f e in
        let same : taken (slice (d ∷ f)) (drop (length (d ∷ f)) s) ≡ taken k left = sym first ∙ read in
        let token : slice (d ∷ f) ≡ k = cc in
        let rest : drop (length (d ∷ f)) s ≡ left = cc in
        let both = and_parts (is_text k) (are_texts ks) texts in
        record {
          tokens = slice (c ∷ d ∷ f) ∷ ks;
          reads = (left, plain_first t closed c s h ∙ rw e (ap (taken (slice (c ∷ d ∷ f))) rest), text_here t closed c s h, reads);
          texts = both.1;
          joined = ap (λ x. c ∷ x) (subst (λ x. texts_of (x ∷ ks) ≡ text) (sym token) joined);
        }

-- a reference, and what follows it
text_by : (t : List Entry) (closed : Bool) (s : List ℕ) → read_text t closed s ≡ read_by (reference_here t s) t closed s
unfolding read_text
text_by t closed [] = refl
text_by t closed (c ∷ s) = refl

amp_here : (t : List Entry) → IsTable t → (closed : Bool) (s : List ℕ) (r : Reference) → reference_here t s ≡ Some r → TextHere closed s
unfolding reference_in begins_markup
amp_here t k closed [] r h = absurd (cc)
amp_here t k closed (c ∷ s) r h =
    let amp = (at_amp t false c s r (names_of_table t k) h).amp in
    record { some = refl; no_markup = rw amp (either closed) }
  where
    either : (b : Bool) → not b && false ≡ false
    either true = refl
    either false = refl

referred_read : (t : List Entry) → IsTable t → (closed : Bool) (b qs s after text : List ℕ) → reference_here t (b ++ s) ≡ Some (record { points = qs; len = length b }) → TextRead t closed s after text
    → TextRead t closed (b ++ s) after (encode_utf8_all qs ++ text)
unfolding ReadsText
referred_read t k closed b qs s after text h more = record {
  tokens = points qs ∷ more.tokens;
  reads = (s, text_by t closed (b ++ s) ∙ rw h (ap (taken (points qs)) (drop_at b s (length b) refl)), amp_here t k closed (b ++ s) _ h, more.reads);
  texts = more.texts;
  joined = ap (λ x. encode_utf8_all qs ++ x) more.joined;
}

text_read : (t : List Entry) → IsTable t → (closed : Bool) (ps : List TextPiece) (after : List ℕ) → plain_front t closed after ≡ [] → ArePieces t closed ps after → TextRead t closed (written_so ps ++ after) after (meant ps)
unfolding ReadsText
text_read t k closed [] after ended h = record { tokens = []; reads = refl; texts = refl; joined = refl }
text_read t k closed (literal c ∷ ps) after ended h = literal_read t closed c (written_so ps ++ after) after (meant ps) ended h.0 (text_read t k closed ps after ended h.1)
text_read t k closed (referred b qs ∷ ps) after ended h =
    subst (λ x. TextRead t closed x after (encode_utf8_all qs ++ meant ps)) (sym (append_assoc b (written_so ps) after))
    (referred_read t k closed b qs (written_so ps ++ after) after (meant ps) h.0 (text_read t k closed ps after ended h.1))

-- ---- ordinary text

-- `</>` is markup
no_empty_tags : (s : List ℕ) → begins_markup s ≡ false → after_empty_tags s ≡ nothing_skipped s
unfolding begins_markup
no_empty_tags [] h = refl
no_empty_tags (a ∷ []) h = refl
no_empty_tags (a ∷ b ∷ []) h = refl
no_empty_tags (a ∷ b ∷ c ∷ s) h = by_test (a == 60 && (b == 47 && c == 62)) refl
  where
    opens : a ≡ 60 → b ≡ 47 → begins_markup (a ∷ b ∷ c ∷ s) ≡ true
    opens e f = grind (arith, e, f)

    by_test : (x : Bool) → (a == 60 && (b == 47 && c == 62)) ≡ x → cond x (three_more (after_empty_tags s)) (nothing_skipped (a ∷ b ∷ c ∷ s)) ≡ nothing_skipped (a ∷ b ∷ c ∷ s)
    by_test false e = refl
    by_test true e =
        let one = and_parts (a == 60) (b == 47 && c == 62) e in
        let two = and_parts (b == 47) (c == 62) one.1 in
        let there = opens (eqb-true a 60 one.0) (eqb-true b 47 two.0) in
        absurd (cc)

here_first : (t : List Entry) (foreign : Bool) (s : List ℕ) → is_null s ≡ false → begins_markup s ≡ false → next_here t foreign (after_empty_tags s) ≡ after_bytes 0 (read_text t false s)
here_first t foreign s some none = rw (no_empty_tags s none, some, none) refl

ordinary_first : (t : List Entry) (mode : Mode) (s : List ℕ) → reads_markup mode ≡ true → TextHere false s → first t mode s ≡ after_bytes 0 (read_text t false s)
unfolding first
ordinary_first t ordinary s m h = here_first t false s h.some h.no_markup
ordinary_first t in_svg s m h = here_first t true s h.some h.no_markup
ordinary_first t (modes.rcdata name) s m h = absurd (cc)
ordinary_first t (raw name) s m h = absurd (cc)
ordinary_first t script s m h = absurd (cc)

ordinary_reads : (t : List Entry) (mode : Mode) → reads_markup mode ≡ true → (ks : List Seen) (s rest : List ℕ) → ReadsText t false ks s rest → ReadsAs t (map (in_mode mode) ks) s rest
unfolding ReadsText
ordinary_reads t mode m [] s rest h = h
ordinary_reads t mode m (k ∷ ks) s rest (left, read, here, more) = (0, left, ordinary_first t mode s m here ∙ ap (after_bytes 0) read, ordinary_reads t mode m ks left rest more)

ended_front : (t : List Entry) (s : List ℕ) → ends_text t s ≡ true → plain_front t false s ≡ []
ended_front t [] h = refl
ended_front t (c ∷ s) h = rw h refl

pub texts_are_read : TextsAreRead
texts_are_read t mode ps after k m h ended =
    let r = text_read t k false ps after (ended_front t after ended) h in
    record { tokens = r.tokens; reads = ordinary_reads t mode m r.tokens (written_so ps ++ after) after r.reads; texts = r.texts; joined = r.joined }

-- ---- title and textarea

-- where counting begins one lower, the place that is found is one lower
place_back : (passes : List ℕ → Bool) (i n : ℕ) (s : List ℕ) → place_from passes (suc i) s ≡ Some (suc n) → place_from passes i s ≡ Some n
place_back passes i n [] h = absurd (cc)
place_back passes i n (c ∷ s) h = by_test (passes (c ∷ s)) h (place_back passes (suc i) n s)
  where
    by_test : (b : Bool) → cond b (Some (suc i)) (place_from passes (suc (suc i)) s) ≡ Some (suc n) → (place_from passes (suc (suc i)) s ≡ Some (suc n) → place_from passes (suc i) s ≡ Some n)
        → cond b (Some i) (place_from passes (suc i) s) ≡ Some n
    by_test true h more = cc
    by_test false h more = more h

place_after : (passes : List ℕ → Bool) (x s : List ℕ) (n : ℕ) → place_from passes 0 (x ++ s) ≡ Some (length x + n) → place_from passes 0 s ≡ Some n
place_after passes [] s n h = h ∙ ap Some (omega arith)
place_after passes (c ∷ x) s n h = place_after passes x s n (place_back passes 0 (length x + n) (x ++ s) (by_test (passes (c ∷ (x ++ s))) (h ∙ ap Some (omega arith))))
  where
    by_test : (b : Bool) → cond b (Some 0) (place_from passes 1 (x ++ s)) ≡ Some (suc (length x + n)) → place_from passes 1 (x ++ s) ≡ Some (suc (length x + n))
    by_test true h = absurd (cc)
    by_test false h = h

-- what is read of a text, and what is left of it
record Split (s left : List ℕ) : Type 0 where
  front : List ℕ
  is : s ≡ front ++ left

split_read : (t : List Entry) → IsTable t → (s : List ℕ) (token : Seen) (left : List ℕ) → TextHere true s → read_text t true s ≡ taken token left → Split s left
split_read t k s token left here h = by_piece (piece t true s token left (names_of_table t k) here.some here.no_markup h)
  where
    by_piece : Piece t true s token left → Split s left
    by_piece (Piece.referred r good token_is rest_is) =
        let at : drop r.len s ≡ good.rest = ap (drop r.len) good.is ∙ drop_at good.written good.rest r.len (sym good.len) in
        record { front = good.written; is = good.is ∙ ap (λ x. good.written ++ x) (sym at ∙ rest_is) }
    by_piece (Piece.plain some token_is rest_is) =
        let c = plain_cut t true s in
        let f = plain_front t true s in
        let at : drop (length f) s ≡ c.tail = ap (drop (length f)) c.is ∙ drop_at f c.tail (length f) refl in
        record { front = f; is = c.is ∙ ap (λ x. f ++ x) (sym at ∙ rest_is) }

-- a text that isn't empty, up to the end tag
inside_first : (t : List Entry) (name s after : List ℕ) → is_null s ≡ false → raw_end name (s ++ after) ≡ Some (length s) → first t (modes.rcdata name) (s ++ after) ≡ after_bytes 0 (before_rest (read_text t true s) after)
unfolding first
inside_first t name [] after some h = absurd (cc)
inside_first t name (c ∷ s) after some h =
    let cut : (take (length (c ∷ s)) ((c ∷ s) ++ after) ≡ c ∷ s) × (drop (length (c ∷ s)) ((c ∷ s) ++ after) ≡ after) = (take_at (c ∷ s) after (length (c ∷ s)) refl, drop_at (c ∷ s) after (length (c ∷ s)) refl) in
    rw h (ap₂ (λ x y. after_bytes 0 (before_rest (read_text t true x) y)) cut.0 cut.1)

element_reads : (t : List Entry) → IsTable t → (name : List ℕ) (ks : List Seen) (s after : List ℕ) → ReadsText t true ks s [] → raw_end name (s ++ after) ≡ Some (length s)
    → ReadsAs t (map (in_mode (modes.rcdata name)) ks) (s ++ after) after
unfolding ReadsText
element_reads t k name [] s after h found = rw h refl
element_reads t k name (token ∷ ks) s after (left, read, here, more) found =
    let c = split_read t k s token left here read in
    let nearer : raw_end name (left ++ after) ≡ Some (length left) =
    place_after (begins_end_tag name) c.front (left ++ after) (length left)
    (subst (λ x. raw_end name x ≡ Some (length c.front + length left)) (append_assoc c.front left after)
    (subst (λ x. raw_end name (x ++ after) ≡ Some (length c.front + length left)) c.is (found ∙ ap Some (ap length c.is ∙ length-append c.front left)))) in
    (0, left ++ after, inside_first t name s after here.some found ∙ ap (λ x. after_bytes 0 (before_rest x after)) read, element_reads t k name ks left after more nearer)

pub element_texts_are_read : ElementTextsAreRead
element_texts_are_read t name ps after k h found =
    let r = text_read t k true ps [] refl h in
    record {
      tokens = r.tokens;
      reads = element_reads t k name r.tokens (written_so ps) after (subst (λ x. ReadsText t true r.tokens x []) (append-nil (written_so ps)) r.reads) found;
      texts = r.texts;
      joined = r.joined;
    }

-- ---- where markup begins

sign_cuts : (s : List ℕ) → cuts_text (60 ∷ s) ≡ true
unfolding goes_on is_alnum is_letter is_digit_of
sign_cuts s = refl

markup_ends : (t : List Entry) (s : List ℕ) → begins_markup s ≡ true → ends_text t s ≡ true
markup_ends t [] h = refl
markup_ends t (c ∷ s) h = rw h refl

pub markup_ends_texts : MarkupEndsTexts
markup_ends_texts t s h = let m = markup_shape s h in (markup_ends t s h, rw m.is (sign_cuts (m.second ∷ m.more)))
