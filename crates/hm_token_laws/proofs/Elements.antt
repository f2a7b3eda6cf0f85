-- The texts of title, textarea, style, iframe and script as they are read.
use Rattle.std.proofs.Common.{◌≡◌, ℕ, zero, suc, ◌+◌, ◌<◌, ◌≤◌, Bool, true, false, not, ◌&&◌, ◌==◌, List, [], ◌∷◌, ◌++◌, length, take, drop, Option, Some, None, refl, inl, inr, ap, sym, subst, ◌∙◌, arith, length-append, codes}
use Rattle.std.proofs.lemmas.Bool.{and_parts, eq-eqb}
use Rattle.std.proofs.lemmas.List.{take-append-drop, length-take-le}
use Rattle.hm_base.specs.Bytes.{strip_word, all_pass, is_null, is_space, lower, is_digit_of}
use Rattle.hm_base.specs.Forms.{is_small, is_tag_byte, is_tag_name}
use Rattle.hm_base.specs.RawText.{is_name_end, begins_end_tag, raw_end, script_end, unescaped}
use Rattle.hm_elements.specs.Settled as settled
use Rattle.hm_scan.proofs.Lowered.{lower_cases}
use Rattle.hm_scan.proofs.RawTextLaws.{place_found, place_same}
use Rattle.hm_scan.proofs.ScriptLaws.{first_found, first_same}
use Rattle.hm_refs.specs.Names.{Entry}
use Rattle.hm_scan.specs.Reading.{read_tag}
use Rattle.hm_scan.specs.Texts.{begins_markup, read_text}
use Rattle.hm_tree.specs.Tokens.{Seen, slice, Scanned, taken, refused}
use Rattle.hm_token_laws.specs.First.{Mode, rcdata, before_rest, read_inside, read_references, read_nothing}
use Rattle.hm_token_laws.specs.Laws.{IsPlain, SoundNames, EndsElement, IsWhole, IsText, SoundToken, TakesBytes}
use Rattle.hm_token_laws.proofs.Plain.{plain_both, plain_before, plain_from, no_zero_byte, no_return_byte}
use Rattle.hm_token_laws.proofs.Tags.{EndTagHere, end_tag_here, end_tag_sound, end_tag_takes}
use Rattle.hm_token_laws.proofs.Texts.{piece, piece_sound, piece_takes}

-- ---- the shortest end tag

no_capital : (c : ℕ) → 65 ≤ c → c ≤ 90 → is_tag_byte c ≡ false
unfolding is_tag_byte is_small is_digit_of
no_capital c low high = grind arith

lower_itself : (c : ℕ) → is_tag_byte c ≡ true → lower c ≡ c
lower_itself c h = elim (lower_cases c) [
  | inl w ↦ let none = no_capital c w.0 w.1 in absurd (cc)
  | inr w ↦ w.1
]

strip_itself : (name s : List ℕ) → all_pass is_tag_byte name ≡ true → strip_word name (name ++ s) ≡ Some s
strip_itself [] s h = refl
strip_itself (c ∷ name) s h =
    let both = and_parts (is_tag_byte c) (all_pass is_tag_byte name) h in
    let same : (c == lower c) ≡ true = eq-eqb c (lower c) (sym (lower_itself c both.0)) in
    rw same (strip_itself name s both.1)

name_bytes : (name : List ℕ) → is_tag_name name ≡ true → all_pass is_tag_byte name ≡ true
unfolding is_tag_name is_tag_byte
name_bytes [] h = refl
name_bytes (c ∷ name) h = let both = and_parts (is_small c) (all_pass is_tag_byte name) h in rw (both.0, both.1) refl

pub end_tag_begins : (name : List ℕ) → is_tag_name name ≡ true → begins_end_tag name (settled.end_tag name) ≡ true
unfolding begins_end_tag lower is_name_end is_space
end_tag_begins name h = rw (strip_itself name (codes ">") (name_bytes name h)) refl

-- ---- the whole text and the end tag after it

cut_plain : (s text tail name : List ℕ) → s ≡ text ++ tail → EndTagHere name tail → IsPlain s → IsPlain text × IsPlain tail
cut_plain s text tail name e k h =
    let h' = subst (λ x. IsPlain (text ++ x)) k.is (subst IsPlain e h) in
    (plain_before text (47 ∷ k.after_slash) 60 (omega arith) h', rw k.is (plain_from text (47 ∷ k.after_slash) 60 (omega arith) h'))

taken_some : (n : ℕ) (s : List ℕ) → suc n < length s → is_null (take (suc n) s) ≡ false
taken_some n [] h = absurd (omega arith)
taken_some n (c ∷ s) h = refl

-- ---- what is read, of an element with such a name

-- the end tag stands after n bytes
pub record EndsAt (name s : List ℕ) (n : ℕ) : Type 0 where
  pub inside : n < length s
  pub begins : begins_end_tag name (drop n s) ≡ true

pub raw_ends_at : (name s : List ℕ) (n : ℕ) → raw_end name s ≡ Some n → EndsAt name s n
raw_ends_at name s n h =
    let q = place_found (begins_end_tag name) 0 s n h in
    let at : q.0 ≡ n = omega (arith, q.1) in
    record { inside = omega (arith, q.2); begins = subst (λ k. begins_end_tag name (drop k s) ≡ true) at q.3 }

pub script_ends_at : (s : List ℕ) (n : ℕ) → script_end s ≡ Some n → EndsAt (codes "script") s n
script_ends_at s n h =
    let q = first_found unescaped 0 n s h in
    let at : q.0 ≡ n = omega (arith, q.1) in
    record { inside = omega (arith, q.2); begins = subst (λ k. begins_end_tag (codes "script") (drop k s) ≡ true) at q.3 }

pub script_is_name : is_tag_name (codes "script") ≡ true
unfolding is_tag_name is_tag_byte is_small is_digit_of
script_is_name = refl

-- the text alone, before the shortest end tag
pub raw_whole : (name s : List ℕ) (n : ℕ) → is_tag_name name ≡ true → raw_end name s ≡ Some n → raw_end name (take n s ++ settled.end_tag name) ≡ Some (length (take n s))
raw_whole name s n good h =
    let k = raw_ends_at name s n h in
    let inside = k.inside in
    let long : length (take n s) ≡ n = length-take-le n s (omega arith) in
    let found : raw_end name (take n s ++ drop n s) ≡ Some (length (take n s)) = rw (take-append-drop n s, long) h in
    place_same name (drop n s) (settled.end_tag name) k.begins (end_tag_begins name good) (take n s) 0 (length (take n s)) (omega arith) found

pub script_whole : (s : List ℕ) (n : ℕ) → script_end s ≡ Some n → script_end (take n s ++ settled.end_tag (codes "script")) ≡ Some (length (take n s))
script_whole s n h =
    let k = script_ends_at s n h in
    let inside = k.inside in
    let long : length (take n s) ≡ n = length-take-le n s (omega arith) in
    let found : script_end (take n s ++ drop n s) ≡ Some (length (take n s)) = rw (take-append-drop n s, long) h in
    first_same (drop n s) (settled.end_tag (codes "script")) k.begins (end_tag_begins (codes "script") script_is_name) unescaped (take n s) 0 (length (take n s)) (omega arith) found

-- an end tag at once, or a text before it
pub data Inside (t : List Entry) (name s : List ℕ) (o : Option ℕ) (more : List ℕ → List ℕ → Scanned) (token : Seen) (rest : List ℕ) : Type 0 where
  at_end : EndTagHere name s → read_tag t s ≡ taken token rest → Inside t name s o more token rest
  before_end : (n : ℕ) → o ≡ Some (suc n) → suc n < length s → EndTagHere name (drop (suc n) s) → more (take (suc n) s) (drop (suc n) s) ≡ taken token rest → Inside t name s o more token rest

pub inside : (t : List Entry) (name s : List ℕ) (o : Option ℕ) (more : List ℕ → List ℕ → Scanned) (token : Seen) (rest : List ℕ) → is_tag_name name ≡ true → ((n : ℕ) → o ≡ Some n → EndsAt name s n)
    → read_inside t s o more ≡ taken token rest → Inside t name s o more token rest
inside t name s None more token rest good ends h = absurd (cc)
inside t name s (Some zero) more token rest good ends h = at_end (end_tag_here name s good (ends zero refl).begins) h
inside t name s (Some (suc n)) more token rest good ends h = let k = ends (suc n) refl in before_end n refl k.inside (end_tag_here name (drop (suc n) s) good k.begins) h

-- ---- what they are

-- a text in which nothing is read
pub whole_sound : (t : List Entry) (mode : Mode) (name s : List ℕ) (o : Option ℕ) (token : Seen) (rest : List ℕ) → EndsElement mode name → ((n : ℕ) → o ≡ Some (suc n) → is_null (take (suc n) s) ≡ false → IsWhole mode (take (suc n) s))
    → IsPlain s → Inside t name s o read_nothing token rest → SoundToken mode token × IsPlain rest
whole_sound t mode name s o token rest own whole plain (at_end k h) = end_tag_sound t mode name s token rest own k plain h
whole_sound t mode name s o token rest own whole plain (before_end n found long k h) =
    let text = take (suc n) s in
    let parts = cut_plain s text (drop (suc n) s) name (sym (take-append-drop (suc n) s)) k plain in
    let is : IsText mode text = record { whole = whole n found (taken_some n s long); no_zero = no_zero_byte text parts.0; no_return = no_return_byte text parts.0; utf8 = parts.0.utf8 } in
    let token_is : slice text ≡ token = cc in
    let rest_is : drop (suc n) s ≡ rest = cc in
    (subst (SoundToken mode) token_is is, subst IsPlain rest_is parts.1)

pub whole_takes : (t : List Entry) (name s : List ℕ) (o : Option ℕ) (token : Seen) (rest : List ℕ) → Inside t name s o read_nothing token rest → TakesBytes s 0 token rest
whole_takes t name s o token rest (at_end k h) = end_tag_takes t name s token rest k h
whole_takes t name s o token rest (before_end n found long k h) =
    let text = take (suc n) s in
    let all : length s ≡ length text + length (drop (suc n) s) = ap length (sym (take-append-drop (suc n) s)) ∙ length-append text (drop (suc n) s) in
    let some : length text ≡ suc n = length-take-le (suc n) s (omega arith) in
    let token_is : slice text ≡ token = cc in
    let rest_is : drop (suc n) s ≡ rest = cc in
    subst (λ x. TakesBytes s 0 x rest) token_is (subst (λ x. TakesBytes s 0 (slice text) x) rest_is (record { count = length text; whole = omega arith; size = omega arith; least = omega arith }))

-- a text in which references are read
record Before (x tail : List ℕ) (read : Scanned) (token : Seen) (rest : List ℕ) : Type 0 where
  left : List ℕ
  is : read ≡ taken token left
  rest_is : left ++ tail ≡ rest

before : (x tail : List ℕ) (read : Scanned) (token : Seen) (rest : List ℕ) → before_rest read tail ≡ taken token rest → Before x tail read token rest
before x tail (refused fault) token rest h = absurd (cc)
before x tail (taken k left) token rest h = let same : k ≡ token = cc in record { left = left; is = rw same refl; rest_is = cc }

no_markup_in : (b : Bool) → not true && b ≡ false
no_markup_in b = refl

pub references_sound : (t : List Entry) (name s : List ℕ) (o : Option ℕ) (token : Seen) (rest : List ℕ) → SoundNames t → IsPlain s → Inside t name s o (read_references t) token rest → SoundToken (rcdata name) token × IsPlain rest
references_sound t name s o token rest names plain (at_end k h) = end_tag_sound t (rcdata name) name s token rest refl k plain h
references_sound t name s o token rest names plain (before_end n found long k h) =
    let text = take (suc n) s in
    let tail = drop (suc n) s in
    let parts = cut_plain s text tail name (sym (take-append-drop (suc n) s)) k plain in
    let b = before text tail (read_text t true text) token rest h in
    let p = piece t true text token b.left names (taken_some n s long) (no_markup_in (begins_markup text)) b.is in
    let sound = piece_sound t (rcdata name) true text token b.left refl (λ x some. some) parts.0 p in
    (sound.0, subst IsPlain b.rest_is (plain_both b.left tail sound.1 parts.1))

pub references_take : (t : List Entry) (name s : List ℕ) (o : Option ℕ) (token : Seen) (rest : List ℕ) → SoundNames t → Inside t name s o (read_references t) token rest → TakesBytes s 0 token rest
references_take t name s o token rest names (at_end k h) = end_tag_takes t name s token rest k h
references_take t name s o token rest names (before_end n found long k h) =
    let text = take (suc n) s in
    let tail = drop (suc n) s in
    let b = before text tail (read_text t true text) token rest h in
    let p = piece t true text token b.left names (taken_some n s long) (no_markup_in (begins_markup text)) b.is in
    let takes = piece_takes t true text token b.left p in
    let all : length s ≡ length text + length tail = ap length (sym (take-append-drop (suc n) s)) ∙ length-append text tail in
    let after : length rest ≡ length b.left + length tail = ap length (sym b.rest_is) ∙ length-append b.left tail in
    let whole = takes.whole in
    let size = takes.size in
    let least = takes.least in
    record { count = takes.count; whole = omega arith; size = omega arith; least = omega arith }
