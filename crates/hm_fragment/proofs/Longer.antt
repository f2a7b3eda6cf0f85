-- A token of a text is the same before an end tag of body, also where it doesn't end by itself.
use Rattle.std.proofs.Common.{◌≡◌, ℕ, ◌⊎◌, inl, inr, Bool, true, false, cond, ◌&&◌, ◌||◌, ◌==◌, List, [], ◌∷◌, ◌++◌, length, drop, Option, Some, None, refl, sym, ap, ap₂, ◌∙◌, subst, append_assoc, append-nil, is_some, arith}
use Rattle.std.proofs.lemmas.Bool.{and_parts, both_ways, eqb-true}
use Rattle.std.proofs.lemmas.List.{drop_at}
use Rattle.hm_base.specs.Bytes.{is_null, is_letter, is_space, is_alnum, is_digit_of}
use Rattle.hm_base.specs.Forms.{is_blank}
use Rattle.hm_refs.specs.Names.{Entry}
use Rattle.hm_refs.specs.References.{Reference, reference}
use Rattle.hm_refs.specs.Tables.{IsTable}
use Rattle.hm_scan.specs.Texts.{begins_markup, reference_in, ends_plain, plain_front, read_by, read_text}
use Rattle.hm_tree.specs.Tokens.{Seen, taken, refused, slice, points}
use Rattle.hm_token_laws.specs.First.{Mode, ordinary, in_svg, rcdata, raw, script, Remainder, three_more, nothing_skipped, after_empty_tags, read_here, next_here, Next, at_end, after_bytes, first}
use Rattle.hm_token_laws.specs.Decided.{goes_on}
use Rattle.hm_token_laws.specs.Readings.{NextExtends}
use Rattle.hm_token_laws.proofs.Decided.{references_are_decided}
use Rattle.hm_token_laws.proofs.Longer.{longer_after, markup_longer, next_tokens_extend}
use Rattle.hm_token_laws.proofs.References.{GoodReference}
use Rattle.hm_token_laws.proofs.TextPieces.{names_of_table}
use Rattle.hm_token_laws.proofs.Texts.{PlainCut, plain_cut}
use Rattle.hm_token_laws.proofs.Values.{at_amp}
use Rattle.hm_fragment.specs.Laws.{body_end}

-- ---- `</>` at the front

pub tags_longer : (s : List ℕ) → after_empty_tags (s ++ body_end) ≡ longer_after body_end (after_empty_tags s)
tags_longer [] = refl
tags_longer (a ∷ []) = either (a == 60)
  where
    either : (x : Bool) → cond (x && false) (three_more (after_empty_tags (98 ∷ 111 ∷ 100 ∷ 121 ∷ 62 ∷ []))) (nothing_skipped (a ∷ body_end)) ≡ nothing_skipped (a ∷ body_end)
    either true = refl
    either false = refl
tags_longer (a ∷ b ∷ []) = either (a == 60) (b == 47)
  where
    either : (x y : Bool) → cond (x && (y && false)) (three_more (after_empty_tags (47 ∷ 98 ∷ 111 ∷ 100 ∷ 121 ∷ 62 ∷ []))) (nothing_skipped (a ∷ b ∷ body_end)) ≡ nothing_skipped (a ∷ b ∷ body_end)
    either true true = refl
    either true false = refl
    either false y = refl
tags_longer (a ∷ b ∷ c ∷ s) = by_test (a == 60 && (b == 47 && c == 62)) (tags_longer s)
  where
    by_test : (x : Bool) → after_empty_tags (s ++ body_end) ≡ longer_after body_end (after_empty_tags s)
        → cond x (three_more (after_empty_tags (s ++ body_end))) (nothing_skipped (a ∷ b ∷ c ∷ (s ++ body_end))) ≡ longer_after body_end (cond x (three_more (after_empty_tags s)) (nothing_skipped (a ∷ b ∷ c ∷ s)))
    by_test true more = ap three_more more
    by_test false more = refl

-- ---- texts

reference_longer : (t : List Entry) → IsTable t → (c : ℕ) (r : List ℕ) → reference_in t c (r ++ body_end) ≡ reference_in t c r
unfolding reference_in goes_on is_alnum is_letter is_digit_of
reference_longer t k c r = by_test (c == 38) refl
  where
    by_test : (b : Bool) → (c == 38) ≡ b → cond b (reference t false (c ∷ (r ++ body_end))) None ≡ cond b (reference t false (c ∷ r)) None
    by_test true e = let same : c ≡ 38 = eqb-true c 38 e in rw same (references_are_decided t false r 60 (47 ∷ 98 ∷ 111 ∷ 100 ∷ 121 ∷ 62 ∷ []) k refl)
    by_test false e = refl

-- after this byte something is left, or it can't be a '/' that is the last one
abbrev is_last_slash : List ℕ → Bool
is_last_slash [] = false
is_last_slash (d ∷ []) = d == 47
is_last_slash (d ∷ e ∷ r) = false

markup_same : (c : ℕ) (r : List ℕ) → is_last_slash r ≡ false → begins_markup (c ∷ (r ++ body_end)) ≡ begins_markup (c ∷ r)
unfolding begins_markup is_letter
markup_same c [] h = refl
markup_same c (d ∷ []) h = rw h refl
markup_same c (d ∷ e ∷ r) h = refl

ends_same : (t : List Entry) → IsTable t → (c : ℕ) (r : List ℕ) → is_last_slash r ≡ false → ends_plain t false c (r ++ body_end) ≡ ends_plain t false c r
ends_same t k c r h = rw (markup_same c r h, reference_longer t k c r) refl

ends_more : (t : List Entry) → IsTable t → (c : ℕ) (r : List ℕ) → ends_plain t false c r ≡ true → ends_plain t false c (r ++ body_end) ≡ true
ends_more t k c r h = by (begins_markup (c ∷ r)) refl h
  where
    by : (b : Bool) → begins_markup (c ∷ r) ≡ b → b || is_some (reference_in t c r) ≡ true → begins_markup (c ∷ (r ++ body_end)) || is_some (reference_in t c (r ++ body_end)) ≡ true
    by true e h = rw (markup_longer (c ∷ r) body_end e) refl
    by false e h = rw (reference_longer t k c r, h) (or_true (begins_markup (c ∷ (r ++ body_end))))
      where
        or_true : (b : Bool) → b || true ≡ true
        or_true true = refl
        or_true false = refl

-- what is after the plain front of a text
abbrev after_plain_front : List Entry → List ℕ → List ℕ
after_plain_front t u = drop (length (plain_front t false u)) u

slash_alone : (t : List Entry) → after_plain_front t (47 ∷ []) ≡ []
unfolding begins_markup reference_in
slash_alone t = refl

no_last_slash : (t : List Entry) (r : List ℕ) → is_null (after_plain_front t r) ≡ false → is_last_slash r ≡ false
no_last_slash t [] h = refl
no_last_slash t (d ∷ []) h = by_test (d == 47) refl
  where
    by_test : (b : Bool) → (d == 47) ≡ b → b ≡ false
    by_test true e = let same : d ≡ 47 = eqb-true d 47 e in let k : is_null (after_plain_front t (47 ∷ [])) ≡ false = subst (λ x. is_null (after_plain_front t (x ∷ [])) ≡ false) same h in absurd (both_ways (is_null (after_plain_front t (47 ∷ []))) k (ap is_null (slash_alone t)))
    by_test false e = refl
no_last_slash t (d ∷ e ∷ r) h = refl

-- a plain text with something after it ends there also in a longer text
front_longer : (t : List Entry) → IsTable t → (u : List ℕ) → is_null (after_plain_front t u) ≡ false → plain_front t false (u ++ body_end) ≡ plain_front t false u
front_longer t k [] h = absurd (cc)
front_longer t k (c ∷ r) h = by (ends_plain t false c r) refl h (front_longer t k r)
  where
    by : (b : Bool) → ends_plain t false c r ≡ b → is_null (drop (length (cond b [] (c ∷ plain_front t false r))) (c ∷ r)) ≡ false
        → (is_null (after_plain_front t r) ≡ false → plain_front t false (r ++ body_end) ≡ plain_front t false r)
        → cond (ends_plain t false c (r ++ body_end)) [] (c ∷ plain_front t false (r ++ body_end)) ≡ cond b [] (c ∷ plain_front t false r)
    by true e h more = rw (ends_more t k c r e) refl
    by false e h more = rw (ends_same t k c r (no_last_slash t r h), e) (ap (λ x. c ∷ x) (more h))

space_no_less : (c : ℕ) → is_space c ≡ true → (c == 60) ≡ false
unfolding is_space
space_no_less c h = grind arith

space_no_amp : (c : ℕ) → is_space c ≡ true → (c == 38) ≡ false
unfolding is_space
space_no_amp c h = grind arith

space_plain : (t : List Entry) (c : ℕ) (s : List ℕ) → is_space c ≡ true → ends_plain t false c s ≡ false
unfolding begins_markup reference_in
space_plain t c s h = rw (space_no_less c h, space_no_amp c h) refl

-- so does whitespace at the end
blank_longer : (t : List Entry) (u : List ℕ) → is_blank u ≡ true → plain_front t false (u ++ body_end) ≡ u
unfolding begins_markup is_letter
blank_longer t [] h = refl
blank_longer t (c ∷ u) h = let two = and_parts (is_space c) (is_blank u) h in rw (space_plain t c (u ++ body_end) two.0) (ap (λ x. c ∷ x) (blank_longer t u two.1))

-- what may stand at the end of a text: a slice only where something is after it or where it is whitespace
abbrev pub GoesOn : Seen → List ℕ → Type 0
GoesOn k rest = (x : List ℕ) → k ≡ slice x → (is_null rest ≡ false) ⊎ (is_blank x ≡ true)

whole_front : (t : List Entry) (u : List ℕ) → after_plain_front t u ≡ [] → plain_front t false u ≡ u
whole_front t u e = by (plain_cut t false u)
  where
    by : PlainCut (plain_front t false u) u → plain_front t false u ≡ u
    by k =
        let tail : k.tail ≡ [] = sym (drop_at (plain_front t false u) k.tail (length (plain_front t false u)) refl) ∙ ap (drop (length (plain_front t false u))) (sym k.is) ∙ e in
        sym (append-nil (plain_front t false u)) ∙ ap (λ x. plain_front t false u ++ x) (sym tail) ∙ sym k.is

after_more : (front u y : List ℕ) → PlainCut front u → drop (length front) (u ++ y) ≡ drop (length front) u ++ y
after_more front u y k =
    ap (λ x. drop (length front) (x ++ y)) k.is ∙ ap (drop (length front)) (append_assoc front k.tail y) ∙ drop_at front (k.tail ++ y) (length front) refl
    ∙ ap (λ x. x ++ y) (sym (ap (drop (length front)) k.is ∙ drop_at front k.tail (length front) refl))

plain_longer : (t : List Entry) → IsTable t → (u : List ℕ) → (is_null (after_plain_front t u) ≡ false) ⊎ (is_blank (plain_front t false u) ≡ true) → plain_front t false (u ++ body_end) ≡ plain_front t false u
plain_longer t k u (inl h) = front_longer t k u h
plain_longer t k u (inr h) = by (after_plain_front t u) refl
  where
    by : (r : List ℕ) → after_plain_front t u ≡ r → plain_front t false (u ++ body_end) ≡ plain_front t false u
    by [] e = let w = whole_front t u e in blank_longer t u (subst (λ x. is_blank x ≡ true) w h) ∙ sym w
    by (d ∷ r) e = front_longer t k u (ap is_null e)

text_longer : (t : List Entry) → IsTable t → (u : List ℕ) (k : Seen) (rest : List ℕ) → is_null u ≡ false → read_text t false u ≡ taken k rest → GoesOn k rest → read_text t false (u ++ body_end) ≡ taken k (rest ++ body_end)
unfolding read_text reference_in
text_longer t table [] k rest some h on = absurd (cc)
text_longer t table (c ∷ r) k rest some h on = rw (reference_longer t table c r) (by (reference_in t c r) refl h)
  where
    by : (o : Option Reference) → reference_in t c r ≡ o → read_by o t false (c ∷ r) ≡ taken k rest → read_by o t false (c ∷ (r ++ body_end)) ≡ taken k (rest ++ body_end)
    by None e h =
        let token : k ≡ slice (plain_front t false (c ∷ r)) = cc in
        let after : after_plain_front t (c ∷ r) ≡ rest = cc in
        let same : plain_front t false (c ∷ r ++ body_end) ≡ plain_front t false (c ∷ r) = plain_longer t table (c ∷ r) (subst (λ x. (is_null x ≡ false) ⊎ (is_blank (plain_front t false (c ∷ r)) ≡ true)) (sym after) (on (plain_front t false (c ∷ r)) token)) in
        ap₂ taken (ap slice same ∙ sym token)
        (ap (λ f. drop (length f) (c ∷ (r ++ body_end))) same ∙ after_more (plain_front t false (c ∷ r)) (c ∷ r) body_end (plain_cut t false (c ∷ r)) ∙ ap (λ x. x ++ body_end) after)
    by (Some f) e h =
        let token : points f.points ≡ k = cc in
        let after : drop f.len (c ∷ r) ≡ rest = cc in
        let good : GoodReference (c ∷ r) f = (at_amp t false c r f (names_of_table t table) e).good in
        ap₂ taken token (cut good ∙ ap (λ x. x ++ body_end) after)
      where
        cut : GoodReference (c ∷ r) f → drop f.len ((c ∷ r) ++ body_end) ≡ drop f.len (c ∷ r) ++ body_end
        cut g =
            ap (λ x. drop f.len (x ++ body_end)) g.is ∙ ap (drop f.len) (append_assoc g.written g.rest body_end) ∙ drop_at g.written (g.rest ++ body_end) f.len (sym g.len)
            ∙ ap (λ x. x ++ body_end) (sym (ap (drop f.len) g.is ∙ drop_at g.written g.rest f.len (sym g.len)))

-- ---- the next token

same_token : (y : List ℕ) (n : ℕ) (k : Seen) (rest : List ℕ) (a b : Next) → a ≡ after_bytes n (taken k rest) → NextExtends y a b → b ≡ after_bytes n (taken k (rest ++ y))
same_token y n k rest a b e h = by a b e h
  where
    by : (a b : Next) → a ≡ after_bytes n (taken k rest) → NextExtends y a b → b ≡ after_bytes n (taken k (rest ++ y))
    by at_end b e h = cc
    by (after_bytes m (refused fault)) b e h = cc
    by (after_bytes m (taken token left)) b e (longer, is, extends) =
        let number : m ≡ n = cc in
        let token_is : token ≡ k = cc in
        let rest_is : left ≡ rest = cc in
        is ∙ ap₂ after_bytes number (extends ∙ ap₂ taken token_is (ap (λ x. x ++ y) rest_is))

-- a text that ends with `</` has nothing after it
open_end : (t : List Entry) (k : Seen) (rest : List ℕ) → GoesOn k rest → read_text t false (60 ∷ 47 ∷ []) ≡ taken k rest → ⊥
unfolding read_text begins_markup reference_in is_letter is_space
open_end t k rest on h =
    let token : k ≡ slice (60 ∷ 47 ∷ []) = cc in
    let none : rest ≡ [] = cc in
    elim (on (60 ∷ 47 ∷ []) token) [
      | inl e ↦ let f : is_null [] ≡ false = subst (λ x. is_null x ≡ false) none e in cc
      | inr e ↦ let f : false ≡ true = e in cc
    ]

other_sign : (c : ℕ) (s : List ℕ) → (c == 60) ≡ false → begins_markup (c ∷ s) ≡ false
unfolding begins_markup
other_sign c s f = rw f refl

no_markup : (t : List Entry) (u : List ℕ) (k : Seen) (rest : List ℕ) → is_null u ≡ false → begins_markup u ≡ false → GoesOn k rest → read_text t false u ≡ taken k rest → begins_markup (u ++ body_end) ≡ false
no_markup t [] k rest some none on h = cc
no_markup t (c ∷ []) k rest some none on h = markup_same c [] refl ∙ none
no_markup t (c ∷ d ∷ e ∷ r) k rest some none on h = markup_same c (d ∷ e ∷ r) refl ∙ none
no_markup t (c ∷ d ∷ []) k rest some none on h = by (d == 47) (c == 60) refl refl
  where
    by : (x y : Bool) → (d == 47) ≡ x → (c == 60) ≡ y → begins_markup (c ∷ (d ∷ body_end)) ≡ false
    by false y e f = markup_same c (d ∷ []) e ∙ none
    by true false e f = other_sign c (d ∷ body_end) f
    by true true e f = absurd (open_end t k rest on (let first : c ≡ 60 = eqb-true c 60 f in let second : d ≡ 47 = eqb-true d 47 e in (λ i. read_text t false (sym first i ∷ sym second i ∷ [])) ∙ h))

here_longer : (t : List Entry) → IsTable t → (foreign : Bool) (b : Remainder) (n : ℕ) (k : Seen) (rest : List ℕ) → begins_markup b.rest ≡ false → GoesOn k rest → next_here t foreign b ≡ after_bytes n (taken k rest) → next_here t foreign (longer_after body_end b) ≡ after_bytes n (taken k (rest ++ body_end))
here_longer t table foreign b n k rest none on h = by (is_null b.rest) refl h
  where
    some : (u : List ℕ) → is_null u ≡ false → is_null (u ++ body_end) ≡ false
    some [] e = cc
    some (c ∷ u) e = refl

    by : (x : Bool) → is_null b.rest ≡ x → cond x at_end (after_bytes b.count (read_here t foreign b.rest)) ≡ after_bytes n (taken k rest) → next_here t foreign (longer_after body_end b) ≡ after_bytes n (taken k (rest ++ body_end))
    by true e h = cc
    by false e h =
        let all : after_bytes b.count (read_text t false b.rest) ≡ after_bytes n (taken k rest) = rw none at h in
        let number : b.count ≡ n = cc in
        let read : read_text t false b.rest ≡ taken k rest = cc in
        rw (some b.rest e, no_markup t b.rest k rest e none on read) (ap₂ after_bytes number (text_longer t table b.rest k rest e read on))

pub first_longer : (t : List Entry) → IsTable t → (mode : Mode) (s : List ℕ) (n : ℕ) (k : Seen) (rest : List ℕ) → GoesOn k rest → first t mode s ≡ after_bytes n (taken k rest) → first t mode (s ++ body_end) ≡ after_bytes n (taken k (rest ++ body_end))
unfolding first
first_longer t table ordinary s n k rest on h = by (begins_markup (after_empty_tags s).rest) refl
  where
    by : (b : Bool) → begins_markup (after_empty_tags s).rest ≡ b → first t ordinary (s ++ body_end) ≡ after_bytes n (taken k (rest ++ body_end))
    by true e = same_token body_end n k rest (first t ordinary s) (first t ordinary (s ++ body_end)) h (next_tokens_extend t ordinary s body_end e)
    by false e = rw (tags_longer s) (here_longer t table false (after_empty_tags s) n k rest e on h)
first_longer t table in_svg s n k rest on h = by (begins_markup (after_empty_tags s).rest) refl
  where
    by : (b : Bool) → begins_markup (after_empty_tags s).rest ≡ b → first t in_svg (s ++ body_end) ≡ after_bytes n (taken k (rest ++ body_end))
    by true e = same_token body_end n k rest (first t in_svg s) (first t in_svg (s ++ body_end)) h (next_tokens_extend t in_svg s body_end e)
    by false e = rw (tags_longer s) (here_longer t table true (after_empty_tags s) n k rest e on h)
first_longer t table (rcdata name) s n k rest on h = same_token body_end n k rest (first t (rcdata name) s) (first t (rcdata name) (s ++ body_end)) h (next_tokens_extend t (rcdata name) s body_end refl)
first_longer t table (raw name) s n k rest on h = same_token body_end n k rest (first t (raw name) s) (first t (raw name) (s ++ body_end)) h (next_tokens_extend t (raw name) s body_end refl)
first_longer t table script s n k rest on h = same_token body_end n k rest (first t script s) (first t script (s ++ body_end)) h (next_tokens_extend t script s body_end refl)
