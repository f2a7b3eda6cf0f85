-- The text of a page that has one is UTF-8 without zero byte and CR, so every page is built to a settled walk.
use Rattle.std.proofs.Common.{◌≡◌, ℕ, zero, suc, ◌+◌, ◌≤◌, Bool, true, false, cond, ◌&&◌, ◌==◌, if◌then◌else◌, List, [], ◌∷◌, ◌++◌, length, take, map, Option, Some, None, refl, sym, ap, subst, arith, append_assoc}
use lib.Utf8.{encode}
use Rattle.std.proofs.lemmas.Bool.{and_parts, and_from, eqb-true}
use Rattle.std.proofs.lemmas.List.{take_all}
use Rattle.std.specs.Str.{is_utf8, chars}
use Rattle.std.specs.Str.Lossy.{utf8_valid_len, valid_len_up_to}
use Rattle.std.proofs.lemmas.Str.{IsUtf8-from_is_utf8, is_utf8-from_IsUtf8, IsUtf8-past_char}
use Rattle.hm_base.specs.Bytes.{all_pass}
use Rattle.hm_base.specs.Places.{is_nonzero}
use Rattle.hm_base.specs.Source.{PlacedByte, numbered, without_mark, pairs_joined, returns_replaced, byte_of, is_text_byte, zero_from, bad_sequence, Refusal, refusal_at, earlier, text_fault, source_of}
use Rattle.hm_base.specs.declared.rules.Rule.TheVariants.{NotUtf8, Nul}
use Rattle.hm_base.specs.Walks.{Event}
use Rattle.hm_base.proofs.Faults.{no_zero}
use Rattle.hm_refs.specs.Names.{Entry}
use Rattle.hm_elements.specs.Settled.{Settled}
use Rattle.hm_token_laws.specs.Laws.{IsPlain, SoundNames}
use Rattle.hm_token_laws.proofs.Plain.{utf8_both, utf8_before, utf8_from, utf8_after}
use Rattle.hm_construction_laws.specs.Trees.{built, unless_faulty, tree_of_text, page_tree}
use Rattle.hm_construction_laws.proofs.Built.{what_is_built_is_settled}

-- ---- A page with a text is UTF-8

no_bad_of : (bad nul : Option ℕ) → earlier bad nul ≡ None → bad ≡ None
no_bad_of None nul h = refl
no_bad_of (Some bad) None h = cc
no_bad_of (Some bad) (Some nul) h = by _ h
  where
    by : (b : Bool) → cond b (Some (refusal_at Nul nul)) (Some (refusal_at NotUtf8 bad)) ≡ None → Some bad ≡ None
    by true k = cc
    by false k = cc

valid_up_to : (s : List ℕ) (n : ℕ) → valid_len_up_to s n ≤ n
valid_up_to s zero = omega arith
valid_up_to s (suc n) = by (is_utf8 (take (suc n) s)) (valid_up_to s n)
  where
    by : (b : Bool) → valid_len_up_to s n ≤ n → cond b (suc n) (valid_len_up_to s n) ≤ suc n
    by true h = omega arith
    by false h = omega arith

nothing_utf8 : is_utf8 [] ≡ true
unfolding is_utf8 chars
nothing_utf8 = refl

valid_is_utf8 : (s : List ℕ) (n : ℕ) → valid_len_up_to s n ≡ n → is_utf8 (take n s) ≡ true
valid_is_utf8 s zero h = nothing_utf8
valid_is_utf8 s (suc n) h = by (is_utf8 (take (suc n) s)) refl (valid_up_to s n) h
  where
    by : (b : Bool) → is_utf8 (take (suc n) s) ≡ b → valid_len_up_to s n ≤ n → cond b (suc n) (valid_len_up_to s n) ≡ suc n → is_utf8 (take (suc n) s) ≡ true
    by true e l k = e
    by false e l k = absurd (omega arith)

no_bad_is_utf8 : (page : List ℕ) → bad_sequence page ≡ None → is_utf8 page ≡ true
unfolding utf8_valid_len
no_bad_is_utf8 page h = by (valid_len_up_to page (length page) == length page) refl h
  where
    by : (b : Bool) → valid_len_up_to page (length page) == length page ≡ b → cond b None (Some (valid_len_up_to page (length page))) ≡ None → is_utf8 page ≡ true
    by true e k = subst (λ s. is_utf8 s ≡ true) (take_all (length page) page (omega arith)) (valid_is_utf8 page (length page) (eqb-true (valid_len_up_to page (length page)) (length page) e))
    by false e k = cc

page_utf8 : (page : List ℕ) → text_fault page ≡ None → is_utf8 page ≡ true
page_utf8 page h = no_bad_is_utf8 page (no_bad_of (bad_sequence page) (zero_from 0 page) h)

-- ---- Line ends

abbrev bytes : List PlacedByte → List ℕ
bytes s = map byte_of s

-- UTF-8 without zero byte
record Clean (u s : List ℕ) : Type 0 where
  utf8 : is_utf8 (u ++ s) ≡ true
  nonzero : all_pass is_nonzero s ≡ true

-- UTF-8 after u, without zero byte and CR
record Lined (u s : List ℕ) : Type 0 where
  utf8 : is_utf8 (u ++ s) ≡ true
  text : all_pass is_text_byte s ≡ true

feed_utf8 : is_utf8 (10 ∷ []) ≡ true
unfolding is_utf8 chars encode
feed_utf8 = refl

-- a CR gives way to a line feed
feed_for_return : (u s : List ℕ) → is_utf8 (u ++ 13 ∷ s) ≡ true → is_utf8 ((u ++ 10 ∷ []) ++ s) ≡ true
feed_for_return u s h =
    let before = utf8_before u s 13 (omega arith) h in
    let after = utf8_after s 13 (omega arith) (utf8_from u s 13 (omega arith) h) in
    utf8_both (u ++ 10 ∷ []) s (utf8_both u (10 ∷ []) before feed_utf8) after

-- and so does CR LF
feed_for_pair : (u s : List ℕ) → is_utf8 (u ++ 13 ∷ 10 ∷ s) ≡ true → is_utf8 ((u ++ 10 ∷ []) ++ s) ≡ true
feed_for_pair u s h =
    let before = utf8_before u (10 ∷ s) 13 (omega arith) h in
    let after = utf8_after s 10 (omega arith) (utf8_after (10 ∷ s) 13 (omega arith) (utf8_from u (10 ∷ s) 13 (omega arith) h)) in
    utf8_both (u ++ 10 ∷ []) s (utf8_both u (10 ∷ []) before feed_utf8) after

one_more : (u : List ℕ) (c : ℕ) (s : List ℕ) → is_text_byte c ≡ true → Lined (u ++ c ∷ []) s → Lined u (c ∷ s)
one_more u c s h l = record { utf8 = subst (λ x. is_utf8 x ≡ true) (append_assoc u (c ∷ []) s) l.utf8; text = and_from (is_text_byte c) (all_pass is_text_byte s) h l.text }

other_byte : (c : ℕ) → is_nonzero c ≡ true → c == 13 ≡ false → is_text_byte c ≡ true
other_byte c h k = rw (h, k) refl

-- the byte that a line end or another byte becomes
abbrev lined_byte : Bool → ℕ → ℕ
lined_byte b c = if b then 10 else c

lined_first : (u : List ℕ) (c : ℕ) (s r : List ℕ) → Clean u (c ∷ s) → ((v : List ℕ) → Clean v s → Lined v r) → Lined u (lined_byte (c == 13) c ∷ r)
lined_first u c s r clean more = by (c == 13) refl
  where
    two : (is_nonzero c ≡ true) × (all_pass is_nonzero s ≡ true)
    two = and_parts (is_nonzero c) (all_pass is_nonzero s) clean.nonzero

    by : (b : Bool) → c == 13 ≡ b → Lined u (lined_byte b c ∷ r)
    by true e =
        let is : c ≡ 13 = eqb-true c 13 e in
        one_more u 10 r refl (more (u ++ 10 ∷ []) (record { utf8 = feed_for_return u s (rw is at clean.utf8); nonzero = two.1 }))
    by false e = one_more u c r (other_byte c two.0 e) (more (u ++ c ∷ []) (record { utf8 = subst (λ x. is_utf8 x ≡ true) (sym (append_assoc u (c ∷ []) s)) clean.utf8; nonzero = two.1 }))

lined_nothing : (v : List ℕ) → Clean v [] → Lined v []
lined_nothing v c = record { utf8 = c.utf8; text = refl }

lined_pair : (u : List ℕ) (c d : ℕ) (s r : List ℕ) → c == 13 && d == 10 ≡ true → Clean u (c ∷ d ∷ s) → ((v : List ℕ) → Clean v s → Lined v r) → Lined u (10 ∷ r)
lined_pair u c d s r e clean more =
    let both = and_parts (c == 13) (d == 10) e in
    let is : c ≡ 13 = eqb-true c 13 both.0 in
    let is' : d ≡ 10 = eqb-true d 10 both.1 in
    let two = and_parts (is_nonzero c) (all_pass is_nonzero (d ∷ s)) clean.nonzero in
    let three = and_parts (is_nonzero d) (all_pass is_nonzero s) two.1 in
    one_more u 10 r refl (more (u ++ 10 ∷ []) (record { utf8 = feed_for_pair u s (rw (is, is') at clean.utf8); nonzero = three.1 }))

lined : (s : List PlacedByte) (u : List ℕ) → Clean u (bytes s) → Lined u (bytes (returns_replaced (pairs_joined s)))
lined [] u c = lined_nothing u c
lined (a ∷ []) u c = lined_first u a.byte [] [] c lined_nothing
lined (a ∷ b ∷ s) u c = by (a.byte == 13 && b.byte == 10) refl (λ v d. lined s v d) (λ v d. lined (b ∷ s) v d)
  where
    by : (k : Bool) → a.byte == 13 && b.byte == 10 ≡ k → ((v : List ℕ) → Clean v (bytes s) → Lined v (bytes (returns_replaced (pairs_joined s)))) → ((v : List ℕ) → Clean v (bytes (b ∷ s)) → Lined v (bytes (returns_replaced (pairs_joined (b ∷ s)))))
        → Lined u (bytes (returns_replaced (cond k (record { byte = 10; place = a.place } ∷ pairs_joined s) (a ∷ pairs_joined (b ∷ s)))))
    by true e rest more = lined_pair u a.byte b.byte (bytes s) (bytes (returns_replaced (pairs_joined s))) e c rest
    by false e rest more = lined_first u a.byte (bytes (b ∷ s)) (bytes (returns_replaced (pairs_joined (b ∷ s)))) c more

-- ---- The mark

numbered_bytes : (n : ℕ) (s : List ℕ) → bytes (numbered n s) ≡ s
numbered_bytes n [] = refl
numbered_bytes n (c ∷ s) = ap (λ x. c ∷ x) (numbered_bytes (n + 1) s)

mark_bytes : encode 0xFEFF ≡ 0xEF ∷ 0xBB ∷ 0xBF ∷ []
unfolding encode
mark_bytes = refl

after_mark : (s : List ℕ) → is_utf8 (0xEF ∷ 0xBB ∷ 0xBF ∷ s) ≡ true → is_utf8 s ≡ true
after_mark s h = is_utf8-from_IsUtf8 s (IsUtf8-past_char (0xEF ∷ 0xBB ∷ 0xBF ∷ s) s 0xFEFF (IsUtf8-from_is_utf8 (0xEF ∷ 0xBB ∷ 0xBF ∷ s) h) (rw mark_bytes refl))

unmarked : (s : List PlacedByte) → Clean [] (bytes s) → Clean [] (bytes (without_mark s))
unmarked [] c = c
unmarked (a ∷ []) c = c
unmarked (a ∷ b ∷ []) c = c
unmarked (a ∷ b ∷ d ∷ s) c = by (a.byte == 0xEF && (b.byte == 0xBB && d.byte == 0xBF)) refl
  where
    by : (k : Bool) → a.byte == 0xEF && (b.byte == 0xBB && d.byte == 0xBF) ≡ k → Clean [] (bytes (cond k s (a ∷ b ∷ d ∷ s)))
    by true e =
        let one = and_parts (a.byte == 0xEF) (b.byte == 0xBB && d.byte == 0xBF) e in
        let two = and_parts (b.byte == 0xBB) (d.byte == 0xBF) one.1 in
        let x : a.byte ≡ 0xEF = eqb-true a.byte 0xEF one.0 in
        let y : b.byte ≡ 0xBB = eqb-true b.byte 0xBB two.0 in
        let z : d.byte ≡ 0xBF = eqb-true d.byte 0xBF two.1 in
        let f = and_parts (is_nonzero a.byte) (all_pass is_nonzero (b.byte ∷ d.byte ∷ bytes s)) c.nonzero in
        let g = and_parts (is_nonzero b.byte) (all_pass is_nonzero (d.byte ∷ bytes s)) f.1 in
        let h = and_parts (is_nonzero d.byte) (all_pass is_nonzero (bytes s)) g.1 in
        record { utf8 = after_mark (bytes s) (rw (x, y, z) at c.utf8); nonzero = h.1 }
    by false e = c

-- the text of a page that has one
pub text_is_plain : (page : List ℕ) → text_fault page ≡ None → IsPlain (map byte_of (source_of page).placed)
text_is_plain page h =
    let whole : Clean [] (bytes (numbered 0 page)) = record { utf8 = rw (numbered_bytes 0 page) (page_utf8 page h); nonzero = rw (numbered_bytes 0 page) (no_zero page h) } in
    let l = lined (without_mark (numbered 0 page)) [] (unmarked (numbered 0 page) whole) in
    record { bytes = l.text; utf8 = l.utf8 }

-- every page
pub pages_are_settled : (t : List Entry) (page : List ℕ) (w : List Event) → SoundNames t → page_tree t page ≡ built w → Settled w
unfolding page_tree
pages_are_settled t page w names h = by (text_fault page) refl h
  where
    by : (o : Option Refusal) → text_fault page ≡ o → unless_faulty o (tree_of_text t page) ≡ built w → Settled w
    by None e k = what_is_built_is_settled t (source_of page) w names (text_is_plain page e) k
    by (Some r) e k = cc
