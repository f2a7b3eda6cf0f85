-- The whitespace of one text: character by character, and at its ends.
use Rattle.std.proofs.Common.{◌≡◌, ◌≢◌, ℕ, zero, suc, ◌+◌, ◌-◌, ◌<◌, ◌≤◌, Bool, true, false, ◌&&◌, ◌==◌, List, [], ◌∷◌, ◌++◌, length, take, drop, get_or, chars, encode_utf8, encode_utf8_all, IsUtf8, if◌then◌else◌, sym, ap, ◌∙◌, refl, inl, inr, arith}
use Rattle.std.proofs.lemmas.Bool.{cases_lt, ne_eqb}
use Rattle.std.proofs.lemmas.List.{append-nil}
use Rattle.std.proofs.lemmas.Str.{encode_ascii, encodes-chars, inside_one, length-encode, len_utf8_bounds}
use Rattle.hm_base.specs.Bytes.{is_space}
use Rattle.hm_options.specs.Space.{spaced, without_trailing}

-- the bytes of characters, each longest run of whitespace as one space
abbrev pub spaced_chars : Bool → List ℕ → List ℕ
spaced_chars after [] = []
spaced_chars after (c ∷ cs) =
    if is_space c then (if after then spaced_chars true cs else 32 ∷ spaced_chars true cs)
    else encode_utf8 c ++ spaced_chars false cs

pub not_space : (c : ℕ) → 128 ≤ c → is_space c ≡ false
unfolding is_space
not_space c h = rw (ne_eqb c 9 (λ e. omega arith), ne_eqb c 10 (λ e. omega arith), ne_eqb c 12 (λ e. omega arith), ne_eqb c 13 (λ e. omega arith), ne_eqb c 32 (λ e. omega arith)) refl

high_stay : (xs t : List ℕ) → ((k : ℕ) → k < length xs → 128 ≤ get_or xs k 0) → spaced false (xs ++ t) ≡ xs ++ spaced false t
high_stay [] t high = refl
high_stay (x ∷ xs) t high = rw (not_space x (high 0 (omega arith))) (ap (λ s. x ∷ s) (high_stay xs t (λ k within. high (suc k) (omega arith))))

some_high : (after : Bool) (xs t : List ℕ) → 0 < length xs → ((k : ℕ) → k < length xs → 128 ≤ get_or xs k 0) → spaced after (xs ++ t) ≡ xs ++ spaced false t
some_high after [] t some high = absurd (omega arith)
some_high after (x ∷ xs) t some high = rw (not_space x (high 0 (omega arith))) (ap (λ s. x ∷ s) (high_stay xs t (λ k within. high (suc k) (omega arith))))

high_byte : (c : ℕ) → 128 ≤ c → (k : ℕ) → k < length (encode_utf8 c) → 128 ≤ get_or (encode_utf8 c) k 0
high_byte c h k within = elim (cases_lt (get_or (encode_utf8 c) k 0) 128) [
  | inl low ↦
      let same : c ≡ get_or (encode_utf8 c) k 0 = inside_one c [] (encode_utf8 c) k (sym (append-nil (encode_utf8 c))) within low in
      absurd (omega arith)
  | inr high ↦ high
]

-- the bytes of one character before others
one_char : (after : Bool) (c : ℕ) (t : List ℕ) → spaced after (encode_utf8 c ++ t) ≡ (if is_space c then (if after then spaced true t else 32 ∷ spaced true t) else encode_utf8 c ++ spaced false t)
one_char after c t = elim (cases_lt c 128) [
  | inl low ↦ rw (encode_ascii c low) refl
  | inr high ↦
      let some : 0 < length (encode_utf8 c) = omega (arith, length-encode c, (len_utf8_bounds c).0) in
      rw (not_space c high) (some_high after (encode_utf8 c) t some (high_byte c high))
]

module _ (c : ℕ) (cs : List ℕ) (more : (after : Bool) → spaced_chars after cs ≡ spaced after (encode_utf8_all cs)) where
  char_space : (after : Bool) → (if after then spaced_chars true cs else 32 ∷ spaced_chars true cs) ≡ (if after then spaced true (encode_utf8_all cs) else 32 ∷ spaced true (encode_utf8_all cs))
  char_space true = more true
  char_space false = ap (λ s. 32 ∷ s) (more true)

  char_by : (b after : Bool) → (if b then (if after then spaced_chars true cs else 32 ∷ spaced_chars true cs) else encode_utf8 c ++ spaced_chars false cs)
      ≡ (if b then (if after then spaced true (encode_utf8_all cs) else 32 ∷ spaced true (encode_utf8_all cs)) else encode_utf8 c ++ spaced false (encode_utf8_all cs))
  char_by true after = char_space after
  char_by false after = ap (λ s. encode_utf8 c ++ s) (more false)

all_chars : (after : Bool) (cs : List ℕ) → spaced_chars after cs ≡ spaced after (encode_utf8_all cs)
all_chars after [] = refl
all_chars after (c ∷ cs) = char_by c cs (λ a. all_chars a cs) (is_space c) after ∙ sym (one_char after c (encode_utf8_all cs))

-- what is written character by character is the text with its runs made short
pub spaced_text : (s : List ℕ) → IsUtf8 s → spaced_chars false (chars s) ≡ spaced false s
spaced_text s utf8 = all_chars false (chars s) ∙ ap (spaced false) (encodes-chars s utf8)

-- a text without the space at its end
pub trailing_cut : (s : List ℕ) (n : ℕ) → n + 1 ≡ length s → get_or s n 0 ≡ 32 → take n s ≡ without_trailing true s
trailing_cut [] n last is = absurd (omega arith)
trailing_cut (c ∷ []) zero last is = rw is refl
trailing_cut (c ∷ []) (suc n) last is = absurd (omega arith)
trailing_cut (c ∷ d ∷ s) zero last is = absurd (omega arith)
trailing_cut (c ∷ d ∷ s) (suc n) last is = ap (λ t. c ∷ t) (trailing_cut (d ∷ s) n (omega arith) is)

pub trailing_unasked : (s : List ℕ) → s ≡ without_trailing false s
trailing_unasked [] = refl
trailing_unasked (c ∷ []) = refl
trailing_unasked (c ∷ d ∷ s) = ap (λ t. c ∷ t) (trailing_unasked (d ∷ s))

edge_byte : (edge : Bool) (c : ℕ) → c ≢ 32 → (if edge && c == 32 then [] else c ∷ []) ≡ c ∷ []
edge_byte true c h = rw (ne_eqb c 32 h) refl
edge_byte false c h = refl

pub trailing_stays : (edge : Bool) (s : List ℕ) (n : ℕ) → n + 1 ≡ length s → get_or s n 0 ≢ 32 → s ≡ without_trailing edge s
trailing_stays edge [] n last other = absurd (omega arith)
trailing_stays edge (c ∷ []) zero last other = sym (edge_byte edge c other)
trailing_stays edge (c ∷ []) (suc n) last other = absurd (omega arith)
trailing_stays edge (c ∷ d ∷ s) zero last other = absurd (omega arith)
trailing_stays edge (c ∷ d ∷ s) (suc n) last other = ap (λ t. c ∷ t) (trailing_stays edge (d ∷ s) n (omega arith) other)

pub trailing_none : (edge : Bool) (s : List ℕ) → length s ≡ 0 → s ≡ without_trailing edge s
trailing_none edge [] none = refl
trailing_none edge (c ∷ s) none = absurd (omega arith)

-- a text that a test finds not empty
pub some_bytes : (s : List ℕ) (r : Bool) → r ≡ (length s == 0) → r ≡ false → 0 < length s
some_bytes [] r is h = absurd (cc)
some_bytes (c ∷ s) r is h = omega arith

pub no_bytes : (s : List ℕ) (r : Bool) → r ≡ (length s == 0) → r ≡ true → length s ≡ 0
no_bytes [] r is h = refl
no_bytes (c ∷ s) r is h = grind (arith, is, h)

module _ (s : List ℕ) where
  pub trailing_goes : (bytes : List ℕ) (cut : List ℕ) (edge : Bool) → bytes ≡ s → edge ≡ true → 0 < length bytes → get_or bytes (length bytes - 1) 0 ≡ 32 → cut ≡ take (length bytes - 1 - 0) (drop 0 s) → cut ≡ without_trailing edge s
  trailing_goes bytes cut edge same on some is of =
      let last : length s - 1 + 1 ≡ length s = omega (arith, some, ap length same) in
      let byte : get_or s (length s - 1) 0 ≡ 32 = rw (← same) is in
      let less : length bytes - 1 - 0 ≡ length s - 1 = omega (arith, ap length same) in
      let front : cut ≡ take (length s - 1) s = of ∙ ap (λ n. take n s) less in
      rw on (front ∙ trailing_cut s (length s - 1) last byte)

  pub trailing_kept : (bytes : List ℕ) (edge : Bool) → bytes ≡ s → 0 < length bytes → get_or bytes (length bytes - 1) 0 ≢ 32 → s ≡ without_trailing edge s
  trailing_kept bytes edge same some other =
      let last : length s - 1 + 1 ≡ length s = omega (arith, some, ap length same) in
      trailing_stays edge s (length s - 1) last (λ e. other (rw same e))
