-- Parts of a text, and what is put together from texts.
use Rattle.std.proofs.Common.{◌≡◌, ℕ, ◌<◌, ◌⊎◌, Bool, true, false, cond, not, ◌==◌, List, [], ◌∷◌, ◌++◌, length, get_or, refl, ap, subst, ◌∙◌, inl, inr, arith, length-append, append-nil}
use Rattle.std.specs.Str.{is_utf8}
use Rattle.std.proofs.lemmas.Bool.{and_parts, or_from, not-true}
use Rattle.std.proofs.lemmas.List.{take_at, drop_at}
use Rattle.std.proofs.lemmas.Str.{IsUtf8-append, IsUtf8-take, IsUtf8-drop, IsUtf8-nil, IsUtf8-from_is_utf8, is_utf8-from_IsUtf8, IsCharBoundary-before_ascii, IsCharBoundary-after_ascii}
use Rattle.hm_base.specs.Bytes.{all_pass, front, rest_after}
use Rattle.hm_base.specs.Forms.{has_byte}
use Rattle.hm_base.specs.Source.{is_text_byte}
use Rattle.hm_token_laws.specs.Laws.{IsPlain}

-- ---- bytes of parts

pub pass_left : (p : ℕ → Bool) (xs ys : List ℕ) → all_pass p (xs ++ ys) ≡ true → all_pass p xs ≡ true
pass_left p [] ys h = refl
pass_left p (x ∷ xs) ys h = let both = and_parts (p x) (all_pass p (xs ++ ys)) h in rw (both.0, pass_left p xs ys both.1) refl

pub pass_right : (p : ℕ → Bool) (xs ys : List ℕ) → all_pass p (xs ++ ys) ≡ true → all_pass p ys ≡ true
pass_right p [] ys h = h
pass_right p (x ∷ xs) ys h = pass_right p xs ys (and_parts (p x) (all_pass p (xs ++ ys)) h).1

pub pass_both : (p : ℕ → Bool) (xs ys : List ℕ) → all_pass p xs ≡ true → all_pass p ys ≡ true → all_pass p (xs ++ ys) ≡ true
pass_both p [] ys h i = i
pass_both p (x ∷ xs) ys h i = let both = and_parts (p x) (all_pass p xs) h in rw (both.0, pass_both p xs ys both.1 i) refl

-- ---- UTF-8 of parts

pub utf8_both : (xs ys : List ℕ) → is_utf8 xs ≡ true → is_utf8 ys ≡ true → is_utf8 (xs ++ ys) ≡ true
utf8_both xs ys h i = is_utf8-from_IsUtf8 (xs ++ ys) (IsUtf8-append xs ys (IsUtf8-from_is_utf8 xs h) (IsUtf8-from_is_utf8 ys i))

first_byte : (xs ys : List ℕ) (c : ℕ) → get_or (xs ++ c ∷ ys) (length xs) 0 ≡ c
first_byte [] ys c = refl
first_byte (x ∷ xs) ys c = first_byte xs ys c

-- before an ASCII byte
pub utf8_before : (xs ys : List ℕ) (c : ℕ) → c < 128 → is_utf8 (xs ++ c ∷ ys) ≡ true → is_utf8 xs ≡ true
utf8_before xs ys c low h =
    let u = IsUtf8-from_is_utf8 (xs ++ c ∷ ys) h in
    let long : length xs < length (xs ++ c ∷ ys) = simp length-append (omega arith) in
    let at = IsCharBoundary-before_ascii (xs ++ c ∷ ys) (length xs) long (rw (first_byte xs ys c) low) in
    is_utf8-from_IsUtf8 xs (rw (take_at xs (c ∷ ys) (length xs) refl) at (IsUtf8-take (xs ++ c ∷ ys) (length xs) u at))

pub utf8_from : (xs ys : List ℕ) (c : ℕ) → c < 128 → is_utf8 (xs ++ c ∷ ys) ≡ true → is_utf8 (c ∷ ys) ≡ true
utf8_from xs ys c low h =
    let u = IsUtf8-from_is_utf8 (xs ++ c ∷ ys) h in
    let long : length xs < length (xs ++ c ∷ ys) = simp length-append (omega arith) in
    let at = IsCharBoundary-before_ascii (xs ++ c ∷ ys) (length xs) long (rw (first_byte xs ys c) low) in
    is_utf8-from_IsUtf8 (c ∷ ys) (rw (drop_at xs (c ∷ ys) (length xs) refl) at (IsUtf8-drop (xs ++ c ∷ ys) (length xs) u at))

-- after an ASCII byte
pub utf8_after : (ys : List ℕ) (c : ℕ) → c < 128 → is_utf8 (c ∷ ys) ≡ true → is_utf8 ys ≡ true
utf8_after ys c low h =
    let u = IsUtf8-from_is_utf8 (c ∷ ys) h in
    is_utf8-from_IsUtf8 ys (IsUtf8-drop (c ∷ ys) 1 u (IsCharBoundary-after_ascii (c ∷ ys) 0 u (omega arith) low))

-- ---- texts

pub plain_nothing : IsPlain []
plain_nothing = record { bytes = refl; utf8 = is_utf8-from_IsUtf8 [] IsUtf8-nil }

pub plain_both : (xs ys : List ℕ) → IsPlain xs → IsPlain ys → IsPlain (xs ++ ys)
plain_both xs ys h i = record { bytes = pass_both is_text_byte xs ys h.bytes i.bytes; utf8 = utf8_both xs ys h.utf8 i.utf8 }

pub plain_before : (xs ys : List ℕ) (c : ℕ) → c < 128 → IsPlain (xs ++ c ∷ ys) → IsPlain xs
plain_before xs ys c low h = record { bytes = pass_left is_text_byte xs (c ∷ ys) h.bytes; utf8 = utf8_before xs ys c low h.utf8 }

pub plain_from : (xs ys : List ℕ) (c : ℕ) → c < 128 → IsPlain (xs ++ c ∷ ys) → IsPlain (c ∷ ys)
plain_from xs ys c low h = record { bytes = pass_right is_text_byte xs (c ∷ ys) h.bytes; utf8 = utf8_from xs ys c low h.utf8 }

pub plain_after : (ys : List ℕ) (c : ℕ) → c < 128 → IsPlain (c ∷ ys) → IsPlain ys
plain_after ys c low h = record { bytes = pass_right is_text_byte (c ∷ []) ys h.bytes; utf8 = utf8_after ys c low h.utf8 }

-- after ASCII bytes
pub plain_after_all : (p : ℕ → Bool) (xs ys : List ℕ) → ((c : ℕ) → p c ≡ true → c < 128) → all_pass p xs ≡ true → IsPlain (xs ++ ys) → IsPlain ys
plain_after_all p [] ys low all h = h
plain_after_all p (x ∷ xs) ys low all h =
    let both = and_parts (p x) (all_pass p xs) all in
    plain_after_all p xs ys low both.1 (plain_after (xs ++ ys) x (low x both.0) h)

-- ---- prefixes whose bytes pass a test

pub front_and_rest : (p : ℕ → Bool) (s : List ℕ) → s ≡ front p s ++ rest_after p s
front_and_rest p [] = refl
front_and_rest p (c ∷ s) = elim (p c) as (λ b. c ∷ s ≡ cond b (c ∷ front p s) [] ++ cond b (rest_after p s) (c ∷ s)) [ true ↦ ap (λ r. c ∷ r) (front_and_rest p s) | false ↦ refl ]

pub front_passes : (p : ℕ → Bool) (s : List ℕ) → all_pass p (front p s) ≡ true
front_passes p [] = refl
front_passes p (c ∷ s) = elim (p c) as (λ b. p c ≡ b → all_pass p (cond b (c ∷ front p s) []) ≡ true)
    [ true ↦ λ e. rw (e, front_passes p s) refl | false ↦ λ e. refl ] refl

pub after_fails : (p : ℕ → Bool) (s ds : List ℕ) (d : ℕ) → rest_after p s ≡ d ∷ ds → p d ≡ false
after_fails p [] ds d e = cc
after_fails p (c ∷ s) ds d e = by_test (p c) refl e (after_fails p s ds d)
  where
    by_test : (b : Bool) → p c ≡ b → cond b (rest_after p s) (c ∷ s) ≡ d ∷ ds → (rest_after p s ≡ d ∷ ds → p d ≡ false) → p d ≡ false
    by_test true f e more = more e
    by_test false f e more = let same : c ≡ d = cc in subst (λ k. p k ≡ false) same f

-- a prefix that is cut before a byte that fails, where every byte that fails is ASCII
pub record Parts (p : ℕ → Bool) (s : List ℕ) : Type 0 where
  pub front_plain : IsPlain (front p s)
  pub after_plain : IsPlain (rest_after p s)

pub plain_parts : (p : ℕ → Bool) (s : List ℕ) → ((c : ℕ) → p c ≡ false → c < 128) → IsPlain s → Parts p s
plain_parts p s low h = by_rest (rest_after p s) refl
  where
    by_rest : (r : List ℕ) → rest_after p s ≡ r → Parts p s
    by_rest [] e =
        let same : s ≡ front p s = front_and_rest p s ∙ rw e (append-nil (front p s)) in
        record { front_plain = subst IsPlain same h; after_plain = rw e plain_nothing }
    by_rest (d ∷ ds) e =
        let same : s ≡ front p s ++ d ∷ ds = front_and_rest p s ∙ ap (λ r. front p s ++ r) e in
        let h' = subst IsPlain same h in
        let below = low d (after_fails p s ds d e) in
        record { front_plain = plain_before (front p s) ds d below h'; after_plain = rw e (plain_from (front p s) ds d below h') }

-- after a prefix of ASCII bytes
pub plain_after_front : (p : ℕ → Bool) (s : List ℕ) → ((c : ℕ) → p c ≡ true → c < 128) → IsPlain s → IsPlain (rest_after p s)
plain_after_front p s low h = plain_after_all p (front p s) (rest_after p s) low (front_passes p s) (subst IsPlain (front_and_rest p s) h)

-- ---- no zero byte and no CR

text_byte : (c d : ℕ) → (d ≡ 0) ⊎ (d ≡ 13) → is_text_byte c ≡ true → (c == d) ≡ false
text_byte c d (inl e) h = let both = and_parts (not (c == 0)) (not (c == 13)) h in rw e (not-true (c == 0) both.0)
text_byte c d (inr e) h = let both = and_parts (not (c == 0)) (not (c == 13)) h in rw e (not-true (c == 13) both.1)

has_none : (s : List ℕ) (d : ℕ) → (d ≡ 0) ⊎ (d ≡ 13) → all_pass is_text_byte s ≡ true → has_byte d s ≡ false
has_none [] d w h = refl
has_none (c ∷ s) d w h =
    let both = and_parts (is_text_byte c) (all_pass is_text_byte s) h in
    or_from (c == d) (has_byte d s) (text_byte c d w both.0) (has_none s d w both.1)

pub no_zero_byte : (s : List ℕ) → IsPlain s → has_byte 0 s ≡ false
no_zero_byte s h = has_none s 0 (inl refl) h.bytes

pub no_return_byte : (s : List ℕ) → IsPlain s → has_byte 13 s ≡ false
no_return_byte s h = has_none s 13 (inr refl) h.bytes
