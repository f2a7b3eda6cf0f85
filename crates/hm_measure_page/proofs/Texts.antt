-- Generated pages are their own texts.
use Rattle.std.proofs.Common.{◌≡◌, ℕ, ◌+◌, ◌<◌, ◌∙◌, sym, ap, true, false, List, [], ◌∷◌, None, length, map, refl, arith, nat_eq, nat_lt}
use Rattle.std.specs.Str.{IsAscii, IsUtf8}
use Rattle.std.proofs.lemmas.Bool.{eq-eqb}
use Rattle.std.proofs.lemmas.Bool.Decides.{nat_tests}
use Rattle.std.proofs.lemmas.List.{append-nil}
use Rattle.std.proofs.lemmas.Str.{IsUtf8-from_ascii, utf8_valid_len-IsUtf8}
use Rattle.std.proofs.lemmas.Str.Ascii.{IsAscii-nil, IsAscii-cons}
use Rattle.hm_base.specs.Bytes.{all_pass}
use Rattle.hm_base.specs.Source.{PlacedByte, byte_of, is_text_byte, numbered, pairs_joined, placed_text, returns_replaced, without_mark, bad_sequence, zero_from, text_fault}
use Rattle.hm_base.proofs.Bytes.{both_true, first_true, second_true}
use Rattle.hm_base.proofs.Lines.{lines_line}
use Rattle.hm_measure_page.specs.Pages.{page}
use Rattle.hm_measure_page.specs.Laws.{is_plain, IsItsText, PagesAreTexts}
use Rattle.hm_measure_page.proofs.Plain.{pages_are_plain}

below_128 : (c : ℕ) → is_plain c ≡ true → c < 128
below_128 c h = grind (arith, nat_tests)

not_zero : (c : ℕ) → is_plain c ≡ true → nat_eq c 0 ≡ false
not_zero c h = grind (arith, nat_tests)

ascii : (s : List ℕ) → all_pass is_plain s ≡ true → IsAscii s
ascii [] h = IsAscii-nil
ascii (c ∷ s) h = IsAscii-cons c s (below_128 c (first_true (is_plain c) (all_pass is_plain s) h)) (ascii s (second_true (is_plain c) (all_pass is_plain s) h))

text_bytes : (s : List ℕ) → all_pass is_plain s ≡ true → all_pass is_text_byte s ≡ true
text_bytes [] h = refl
text_bytes (c ∷ s) h =
    both_true (is_text_byte c) (all_pass is_text_byte s)
    (first_true (is_text_byte c) (nat_lt c 128) (first_true (is_plain c) (all_pass is_plain s) h))
    (text_bytes s (second_true (is_plain c) (all_pass is_plain s) h))

no_zero : (n : ℕ) (s : List ℕ) → all_pass is_plain s ≡ true → zero_from n s ≡ None
no_zero n [] h = refl
no_zero n (c ∷ s) h = rw (not_zero c (first_true (is_plain c) (all_pass is_plain s) h)) (no_zero (n + 1) s (second_true (is_plain c) (all_pass is_plain s) h))

no_bad : (s : List ℕ) → IsUtf8 s → bad_sequence s ≡ None
no_bad s h = rw (utf8_valid_len-IsUtf8 s h, eq-eqb (length s) (length s) refl) refl

no_fault : (s : List ℕ) → all_pass is_plain s ≡ true → text_fault s ≡ None
no_fault s h = rw (no_bad s (IsUtf8-from_ascii s (ascii s h)), no_zero 0 s h) refl

kept_lines : (s : List ℕ) → all_pass is_text_byte s ≡ true → returns_replaced (pairs_joined (numbered 0 s)) ≡ numbered 0 s
kept_lines s h =
    ap (λ t. returns_replaced (pairs_joined (numbered 0 t))) (sym (append-nil s))
    ∙ lines_line 0 s [] h
    ∙ append-nil (numbered 0 s)

bytes_numbered : (n : ℕ) (s : List ℕ) → map byte_of (numbered n s) ≡ s
bytes_numbered n [] = refl
bytes_numbered n (c ∷ s) = ap (λ t. c ∷ t) (bytes_numbered (n + 1) s)

its_text : (s : List ℕ) → all_pass is_plain s ≡ true → without_mark (numbered 0 s) ≡ numbered 0 s → IsItsText s
its_text s h unmarked =
    let places : placed_text s ≡ numbered 0 s = ap (λ (r : List PlacedByte). returns_replaced (pairs_joined r)) unmarked ∙ kept_lines s (text_bytes s h) in
    record { sound = no_fault s h; places = places; bytes = ap (λ (r : List PlacedByte). map byte_of r) places ∙ bytes_numbered 0 s }

unmarked : (number size : ℕ) → without_mark (numbered 0 (page number size)) ≡ numbered 0 (page number size)
unfolding page
unmarked number size = refl

pub pages_are_texts : PagesAreTexts
pages_are_texts number size h k = its_text (page number size) (pages_are_plain number size h k) (unmarked number size)
