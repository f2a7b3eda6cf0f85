-- The parts of a tag that is read from a text: texts themselves, and no longer than what they are read from.
use Rattle.std.proofs.Common.{◌≡◌, ℕ, zero, suc, ◌+◌, ◌-◌, ◌<◌, ◌≤◌, Bool, true, false, ◌==◌, List, [], ◌∷◌, ◌++◌, length, drop, Option, Some, None, refl, ap, sym, subst, ◌∙◌, arith, append_assoc, length-append, append-nil}
use Rattle.std.proofs.lemmas.Bool.{cond_both, not-false, eqb-true}
use Rattle.std.proofs.lemmas.List.{drop_at}
use Rattle.hm_base.specs.Bytes.{Cut, front, rest_after, head_is, all_pass, is_space}
use Rattle.hm_base.specs.RawText.{is_name_end}
use Rattle.hm_base.specs.Walks.{Attribute, attributes_size}
use Rattle.hm_scan.specs.Tags.{is_name_byte, is_later_byte, is_unquoted_byte, is_inside, is_quote, is_tag_end, cut_after, cut_quoted, cut_value, cut_assigned, Written, attribute_at, CutTag, with_attribute, with_slash, attribute_then, tag_from, cut_tag}
use Rattle.hm_token_laws.specs.Laws.{IsPlain}
use Rattle.hm_token_laws.proofs.Plain.{plain_nothing, plain_before, plain_from, plain_after, plain_parts, plain_after_front, front_and_rest, front_passes, after_fails}

-- ---- bytes that end a part are ASCII

pub space_low : (c : ℕ) → is_space c ≡ true → c < 128
unfolding is_space
space_low c h = grind arith

pub name_end_low : (c : ℕ) → is_name_byte c ≡ false → c < 128
unfolding is_name_byte is_name_end is_space
name_end_low c h = grind arith

pub later_end_low : (c : ℕ) → is_later_byte c ≡ false → c < 128
unfolding is_later_byte is_name_end is_space
later_end_low c h = grind arith

unquoted_end_low : (c : ℕ) → is_unquoted_byte c ≡ false → c < 128
unfolding is_unquoted_byte is_space
unquoted_end_low c h = grind arith

quote_low : (q : ℕ) → is_quote q ≡ true → q < 128
unfolding is_quote
quote_low q h = grind arith

inside_end : (q c : ℕ) → is_inside q c ≡ false → c ≡ q
unfolding is_inside
inside_end q c h = eqb-true c q (not-false (c == q) h)

tag_end_low : (c : ℕ) → is_tag_end c ≡ true → c < 128
unfolding is_tag_end
tag_end_low c h = grind arith

pub equals_low : (c k : ℕ) → k < 128 → (c == k) ≡ true → c < 128
equals_low c k low h = let same : c ≡ k = eqb-true c k h in omega arith

-- ---- sizes

-- rest stands at the end of s, and at least `size` bytes before it
pub record Fits (s : List ℕ) (size : ℕ) (rest : List ℕ) : Type 0 where
  pub before : List ℕ
  pub is : s ≡ before ++ rest
  pub room : size ≤ length before

pub fits_more : (xs s : List ℕ) (size : ℕ) (rest : List ℕ) → Fits s size rest → Fits (xs ++ s) (length xs + size) rest
fits_more xs s size rest f = record {
  before = xs ++ f.before;
  is = ap (λ r. xs ++ r) f.is ∙ sym (append_assoc xs f.before rest);
  room = let room = f.room in simp length-append (omega arith);
}

pub fits_less : (s : List ℕ) (more less : ℕ) (rest : List ℕ) → less ≤ more → Fits s more rest → Fits s less rest
fits_less s more less rest h f = record { before = f.before; is = f.is; room = let room = f.room in omega arith }

pub fits_front : (p : ℕ → Bool) (s : List ℕ) → Fits s (length (front p s)) (rest_after p s)
fits_front p s = record { before = front p s; is = front_and_rest p s; room = omega arith }

pub fits_same : (s t : List ℕ) (size : ℕ) (rest : List ℕ) → s ≡ t → Fits t size rest → Fits s size rest
fits_same s t size rest e f = record { before = f.before; is = e ∙ f.is; room = f.room }

pub drop_suffix : (s : List ℕ) (size : ℕ) (rest : List ℕ) → Fits s size rest → drop (length s - length rest) s ≡ rest
drop_suffix s size rest f =
    let long : length s ≡ length f.before + length rest = ap length f.is ∙ length-append f.before rest in
    let at : length f.before ≡ length s - length rest = omega arith in
    ap (drop (length s - length rest)) f.is ∙ drop_at f.before rest (length s - length rest) at

abbrev CutFits : List ℕ → Cut → Type 0
CutFits s k = Fits s (length k.before) k.after

quoted_fits : (q : ℕ) (s : List ℕ) → Fits (q ∷ s) (length (front (is_inside q) s)) (drop 1 (rest_after (is_inside q) s))
quoted_fits q s = by_rest (rest_after (is_inside q) s) (front_and_rest (is_inside q) s)
  where
    by_rest : (r : List ℕ) → s ≡ front (is_inside q) s ++ r → Fits (q ∷ s) (length (front (is_inside q) s)) (drop 1 r)
    by_rest [] e = record {
      before = q ∷ front (is_inside q) s;
      is = ap (λ x. q ∷ x) e;
      room = omega arith;
    }
    by_rest (d ∷ ds) e = record {
      before = q ∷ (front (is_inside q) s ++ d ∷ []);
      is = ap (λ x. q ∷ x) (e ∙ sym (append_assoc (front (is_inside q) s) (d ∷ []) ds));
      room = simp length-append (omega arith);
    }

value_fits : (s : List ℕ) → CutFits s (cut_value s)
value_fits [] = record { before = []; is = refl; room = omega arith }
value_fits (c ∷ s) = cond_both (is_quote c) (cut_quoted c s) (cut_after is_unquoted_byte (c ∷ s)) (CutFits (c ∷ s)) (λ e. quoted_fits c s) (λ e. fits_front is_unquoted_byte (c ∷ s))

assigned_fits : (s r : List ℕ) (size : ℕ) → Fits s size r → CutFits s (cut_assigned s r)
assigned_fits s [] size f = record { before = s; is = sym (append-nil s); room = omega arith }
assigned_fits s (c ∷ r) size f =
    cond_both (c == 61) (cut_value (rest_after is_space r)) (record { before = []; after = s }) (CutFits s)
    (λ e. let v = value_fits (rest_after is_space r) in
    let k = cut_value (rest_after is_space r) in
    fits_same s (f.before ++ c ∷ r) (length k.before) k.after f.is
    (fits_less (f.before ++ c ∷ r) _ (length k.before) k.after (omega arith)
    (fits_more f.before (c ∷ r) _ k.after
    (fits_more (c ∷ []) r _ k.after
    (fits_same r (front is_space r ++ rest_after is_space r) _ k.after (front_and_rest is_space r)
    (fits_more (front is_space r) (rest_after is_space r) (length k.before) k.after v))))))
    (λ e. record { before = []; is = refl; room = omega arith })

pub attribute_fits : (c : ℕ) (s : List ℕ) → Fits (c ∷ s) (length (attribute_at c s).attribute.name + length (attribute_at c s).attribute.value) (attribute_at c s).rest
unfolding attribute_at
attribute_fits c s =
    let r = rest_after is_later_byte s in
    let k = cut_assigned r (rest_after is_space r) in
    let f : CutFits r k = assigned_fits r (rest_after is_space r) _ (fits_front is_space r) in
    fits_same (c ∷ s) ((c ∷ front is_later_byte s) ++ r) _ k.after (ap (λ x. c ∷ x) (front_and_rest is_later_byte s))
    (fits_more (c ∷ front is_later_byte s) r (length k.before) k.after f)

-- ---- a whole tag after its name

-- an attribute stands before rest, with a byte for each of its own
abbrev TagFits : List ℕ → Option CutTag → Type 0
TagFits s None = Unit {0}
TagFits s (Some g) = Fits s (attributes_size g.attributes + 1) g.rest

with_slash_fits : (slash : Bool) (s : List ℕ) (o : Option CutTag) → TagFits s o → TagFits s (with_slash slash o)
with_slash_fits slash s None f = tt
with_slash_fits slash s (Some g) f = f

one_more : (c : ℕ) (s : List ℕ) (o : Option CutTag) → TagFits s o → TagFits (c ∷ s) o
one_more c s None f = tt
one_more c s (Some g) f = fits_less (c ∷ s) (1 + (attributes_size g.attributes + 1)) _ g.rest (omega arith) (fits_more (c ∷ []) s _ g.rest f)

with_attribute_fits : (a : Attribute) (s r : List ℕ) (o : Option CutTag) → Fits s (length a.name + length a.value) r → TagFits r o → TagFits s (with_attribute a o)
with_attribute_fits a s r None f h = tt
with_attribute_fits a s r (Some g) f h = record {
  before = f.before ++ h.before;
  is = f.is ∙ ap (λ x. f.before ++ x) h.is ∙ sym (append_assoc f.before h.before g.rest);
  room = let one = f.room in let two = h.room in simp length-append (omega arith);
}

name_some : (c : ℕ) (s : List ℕ) → 1 ≤ length (attribute_at c s).attribute.name
unfolding attribute_at
name_some c s = omega arith

same_tail : (c x : ℕ) (s r : List ℕ) → c ∷ s ≡ x ∷ r → s ≡ r
same_tail c x s r e = ap (drop 1) e

fits_tail : (c : ℕ) (s : List ℕ) (size : ℕ) (rest : List ℕ) → 1 ≤ size → Fits (c ∷ s) size rest → Fits s 0 rest
fits_tail c s size rest some f = by_before f.before f.is f.room
  where
    by_before : (x : List ℕ) → c ∷ s ≡ x ++ rest → size ≤ length x → Fits s 0 rest
    by_before [] e room = absurd (omega arith)
    by_before (x ∷ xs) e room = record { before = xs; is = same_tail c x s (xs ++ rest) e; room = omega arith }

-- the first k bytes of s are skipped
tag_fits : (k : ℕ) (s : List ℕ) → TagFits (drop k s) (tag_from k s)
tag_fits zero [] = tt
tag_fits (suc k) [] = tt
tag_fits (suc k) (c ∷ s) = tag_fits k s
tag_fits zero (c ∷ s) =
    cond_both (is_tag_end c) _ _ (TagFits (c ∷ s)) (λ e. record { before = c ∷ []; is = refl; room = omega arith })
    (λ e. cond_both (c == 47) _ _ (TagFits (c ∷ s)) (λ e. one_more c s _ (with_slash_fits (head_is is_tag_end s) s (tag_from 0 s) (tag_fits 0 s)))
    (λ e. cond_both (is_space c) _ _ (TagFits (c ∷ s)) (λ e. one_more c s _ (tag_fits 0 s))
    (λ e. attributed (attribute_at c s) (name_some c s) (attribute_fits c s) (λ k. tag_fits k s))))
  where
    attributed : (w : Written) → 1 ≤ length w.attribute.name → Fits (c ∷ s) (length w.attribute.name + length w.attribute.value) w.rest → ((k : ℕ) → TagFits (drop k s) (tag_from k s)) → TagFits (c ∷ s) (attribute_then s w (λ k. tag_from k s))
    attributed w some f more =
        let k = length s - length w.rest in
        let at : drop k s ≡ w.rest = drop_suffix s 0 w.rest (fits_tail c s _ w.rest (omega arith) f) in
        with_attribute_fits w.attribute (c ∷ s) w.rest (tag_from k s) f (subst (λ r. TagFits r (tag_from k s)) at (more k))

pub cut_tag_fits : (s : List ℕ) (g : CutTag) → cut_tag s ≡ Some g → Fits s (attributes_size g.attributes + 1) g.rest
cut_tag_fits s g e = subst (TagFits s) e (tag_fits 0 s)

-- ---- the parts of a text are texts

abbrev CutPlain : Cut → Type 0
CutPlain k = IsPlain k.before × IsPlain k.after

front_cut_plain : (p : ℕ → Bool) (s : List ℕ) → ((c : ℕ) → p c ≡ false → c < 128) → IsPlain s → CutPlain (cut_after p s)
front_cut_plain p s low h = let parts = plain_parts p s low h in (parts.front_plain, parts.after_plain)

quoted_plain : (q : ℕ) (s : List ℕ) → q < 128 → IsPlain s → CutPlain (cut_quoted q s)
quoted_plain q s low h =
    let parts = plain_parts (is_inside q) s (λ c e. let same = inside_end q c e in omega arith) h in
    (parts.front_plain, by_rest (rest_after (is_inside q) s) (after_fails (is_inside q) s) parts.after_plain)
  where
    by_rest : (r : List ℕ) → ((ds : List ℕ) (d : ℕ) → r ≡ d ∷ ds → is_inside q d ≡ false) → IsPlain r → IsPlain (drop 1 r)
    by_rest [] fails i = i
    by_rest (d ∷ ds) fails i = let same : d ≡ q = inside_end q d (fails ds d refl) in plain_after ds d (omega arith) i

value_plain : (s : List ℕ) → IsPlain s → CutPlain (cut_value s)
value_plain [] h = (h, h)
value_plain (c ∷ s) h = cond_both (is_quote c) (cut_quoted c s) (cut_after is_unquoted_byte (c ∷ s)) CutPlain
    (λ e. quoted_plain c s (quote_low c e) (plain_after s c (quote_low c e) h))
    (λ e. front_cut_plain is_unquoted_byte (c ∷ s) unquoted_end_low h)

assigned_plain : (s r : List ℕ) → IsPlain s → IsPlain r → CutPlain (cut_assigned s r)
assigned_plain s [] h i = (i, i)
assigned_plain s (c ∷ r) h i = cond_both (c == 61) (cut_value (rest_after is_space r)) (record { before = []; after = s }) CutPlain
    (λ e. value_plain (rest_after is_space r) (plain_after_front is_space r space_low (plain_after r c (equals_low c 61 (omega arith) e) i)))
    (λ e. (plain_nothing, h))

-- an attribute as it is written in a tag
pub record GoodAttribute (a : Attribute) : Type 0 where
  pub head : ℕ
  pub more : List ℕ
  pub name_is : a.name ≡ head ∷ more
  pub no_end : is_tag_end head ≡ false
  pub no_slash : (head == 47) ≡ false
  pub no_space : is_space head ≡ false
  pub later : all_pass is_later_byte more ≡ true
  pub name_plain : IsPlain a.name
  pub value_plain : IsPlain a.value

abbrev pub AllGood : List Attribute → Type 0
AllGood [] = Unit {0}
AllGood (a ∷ attributes) = GoodAttribute a × AllGood attributes

-- a prefix and the byte before it
plain_named : (c : ℕ) (s : List ℕ) → IsPlain (c ∷ s) → IsPlain (c ∷ front is_later_byte s) × IsPlain (rest_after is_later_byte s)
plain_named c s h = by_rest (rest_after is_later_byte s) refl
  where
    by_rest : (r : List ℕ) → rest_after is_later_byte s ≡ r → IsPlain (c ∷ front is_later_byte s) × IsPlain (rest_after is_later_byte s)
    by_rest [] e =
        let same : s ≡ front is_later_byte s = front_and_rest is_later_byte s ∙ rw e (append-nil (front is_later_byte s)) in
        (subst (λ r. IsPlain (c ∷ r)) same h, rw e plain_nothing)
    by_rest (d ∷ ds) e =
        let same : s ≡ front is_later_byte s ++ d ∷ ds = front_and_rest is_later_byte s ∙ ap (λ r. front is_later_byte s ++ r) e in
        let h' = subst (λ r. IsPlain (c ∷ r)) same h in
        let low = later_end_low d (after_fails is_later_byte s ds d e) in
        (plain_before (c ∷ front is_later_byte s) ds d low h', rw e (plain_from (c ∷ front is_later_byte s) ds d low h'))

attribute_plain : (c : ℕ) (s : List ℕ) → is_tag_end c ≡ false → (c == 47) ≡ false → is_space c ≡ false → IsPlain (c ∷ s) → GoodAttribute (attribute_at c s).attribute × IsPlain (attribute_at c s).rest
unfolding attribute_at
attribute_plain c s no_end no_slash no_space h =
    let parts = plain_named c s h in
    let r = rest_after is_later_byte s in
    let k = assigned_plain r (rest_after is_space r) parts.1 (plain_after_front is_space r space_low parts.1) in
    (record { head = c; more = front is_later_byte s; name_is = refl; no_end = no_end; no_slash = no_slash; no_space = no_space; later = front_passes is_later_byte s; name_plain = parts.0; value_plain = k.0 }, k.1)

abbrev TagPlain : Option CutTag → Type 0
TagPlain None = Unit {0}
TagPlain (Some g) = AllGood g.attributes × IsPlain g.rest

with_slash_plain : (slash : Bool) (o : Option CutTag) → TagPlain o → TagPlain (with_slash slash o)
with_slash_plain slash None f = tt
with_slash_plain slash (Some g) f = f

with_attribute_plain : (a : Attribute) (o : Option CutTag) → GoodAttribute a → TagPlain o → TagPlain (with_attribute a o)
with_attribute_plain a None f h = tt
with_attribute_plain a (Some g) f h = ((f, h.0), h.1)

tag_plain : (k : ℕ) (s : List ℕ) → IsPlain (drop k s) → TagPlain (tag_from k s)
tag_plain zero [] h = tt
tag_plain (suc k) [] h = tt
tag_plain (suc k) (c ∷ s) h = tag_plain k s h
tag_plain zero (c ∷ s) h =
    cond_both (is_tag_end c) _ _ TagPlain (λ e. (tt, plain_after s c (tag_end_low c e) h))
    (λ no_end. cond_both (c == 47) _ _ TagPlain (λ e. with_slash_plain (head_is is_tag_end s) (tag_from 0 s) (tag_plain 0 s (plain_after s c (equals_low c 47 (omega arith) e) h)))
    (λ no_slash. cond_both (is_space c) _ _ TagPlain (λ e. tag_plain 0 s (plain_after s c (space_low c e) h))
    (λ no_space. attributed (attribute_at c s) (name_some c s) (attribute_fits c s) (attribute_plain c s no_end no_slash no_space h) (λ k. tag_plain k s))))
  where
    attributed : (w : Written) → 1 ≤ length w.attribute.name → Fits (c ∷ s) (length w.attribute.name + length w.attribute.value) w.rest → GoodAttribute w.attribute × IsPlain w.rest
        → ((k : ℕ) → IsPlain (drop k s) → TagPlain (tag_from k s)) → TagPlain (attribute_then s w (λ k. tag_from k s))
    attributed w some f good more =
        let k = length s - length w.rest in
        let at : drop k s ≡ w.rest = drop_suffix s 0 w.rest (fits_tail c s _ w.rest (omega arith) f) in
        with_attribute_plain w.attribute (tag_from k s) good.0 (more k (rw at good.1))

pub cut_tag_plain : (s : List ℕ) (g : CutTag) → IsPlain s → cut_tag s ≡ Some g → AllGood g.attributes × IsPlain g.rest
cut_tag_plain s g h e = subst TagPlain e (tag_plain 0 s h)
