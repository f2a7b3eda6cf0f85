-- A CDATA section that is written is the next token, and its text has its end nowhere else.
use Rattle.std.proofs.Common.{◌≡◌, ℕ, ◌<◌, ◌≤◌, ◌⊎◌, Bool, true, false, cond, ◌||◌, ◌==◌, nat_lt, nat_le, List, [], ◌∷◌, ◌++◌, length, Option, Some, None, option_map, inl, inr, refl, ap, sym, ◌∙◌, arith, codes, encode_utf8_all}
use Rattle.std.proofs.lemmas.Bool.{and_parts, cases_lt}
use Rattle.std.proofs.lemmas.Str.{encode_ascii, length-encode, len_utf8_bounds}
use lib.Utf8.{encode}
use Rattle.hm_base.specs.Bytes.{all_pass, strip, cut_at, is_letter, lower}
use Rattle.hm_base.specs.Forms.{has_mark}
use Rattle.hm_base.specs.RawText.{is_found}
use Rattle.hm_refs.specs.Names.{Entry}
use Rattle.hm_scan.specs.Reading.{begins_tag}
use Rattle.hm_scan.specs.Texts.{begins_markup}
use Rattle.hm_scan.specs.Comments.{begins, begins_cdata, read_cdata}
use Rattle.hm_scan.specs.Doctypes.{begins_doctype}
use Rattle.hm_scan.proofs.Cuts.{strip_whole}
use Rattle.hm_scan.proofs.Searches.{begins_not}
use Rattle.hm_token_laws.specs.First.{in_svg, after_bytes, first}
use Rattle.hm_token_laws.proofs.Bools.{or_parts}
use Rattle.hm_tree.specs.Tokens.{taken, slice}
use Rattle.hm_round_trip_laws.proofs.Encoded.{encode_passes}

-- ---- a mark in ASCII stands in bytes where it stands in characters

abbrev high : ℕ → Bool
high c = nat_le 128 c

abbrev low : ℕ → Bool
low c = nat_lt c 128

not_same : (a c : ℕ) → low a ≡ true → high c ≡ true → (a == c) ≡ false
not_same a c h i = grind arith

encode_high : (c : ℕ) → 128 ≤ c → all_pass high (encode c) ≡ true
encode_high c g = encode_passes high c (λ d h. grind arith) (grind arith)

some_bytes : (c : ℕ) → 1 ≤ length (encode c)
some_bytes c = let l = length-encode c in let b = len_utf8_bounds c in omega (arith, l, b.0)

-- a mark isn't found before bytes above ASCII
none_high : (a : ℕ) (m ds s : List ℕ) → low a ≡ true → 1 ≤ length ds → all_pass high ds ≡ true → is_found (strip (a ∷ m) (ds ++ s)) ≡ false
none_high a m [] s h some all = absurd (omega arith)
none_high a m (d ∷ ds) s h some all = rw (not_same a d h (and_parts (high d) (all_pass high ds) all).0) refl

found_same : (m cs : List ℕ) → all_pass low m ≡ true → is_found (strip m (encode_utf8_all cs)) ≡ is_found (strip m cs)
found_same [] cs h = refl
found_same (a ∷ m) [] h = refl
found_same (a ∷ m) (c ∷ cs) h = by_size (cases_lt c 128) (found_same m cs (and_parts (low a) (all_pass low m) h).1)
  where
    by_size : (c < 128) ⊎ (128 ≤ c) → is_found (strip m (encode_utf8_all cs)) ≡ is_found (strip m cs) → is_found (strip (a ∷ m) (encode c ++ encode_utf8_all cs)) ≡ is_found (strip (a ∷ m) (c ∷ cs))
    by_size (inl l) more = rw (encode_ascii c l) (elim (a == c) as (λ b. is_found (cond b (strip m (encode_utf8_all cs)) None) ≡ is_found (cond b (strip m cs) None))
        [ true ↦ more | false ↦ refl ])
    by_size (inr g) more =
        let l = (and_parts (low a) (all_pass low m) h).0 in
        let none : is_found (strip (a ∷ m) (c ∷ cs)) ≡ false = rw (not_same a c l (grind arith)) refl in
        none_high a m (encode c) (encode_utf8_all cs) l (some_bytes c) (encode_high c g) ∙ sym none

mark_after : (a : ℕ) (m ds s : List ℕ) → low a ≡ true → all_pass high ds ≡ true → has_mark (a ∷ m) (ds ++ s) ≡ has_mark (a ∷ m) s
mark_after a m [] s h all = refl
mark_after a m (d ∷ ds) s h all = let both = and_parts (high d) (all_pass high ds) all in rw (not_same a d h both.0) (mark_after a m ds s h both.1)

mark_same : (a : ℕ) (m cs : List ℕ) → all_pass low (a ∷ m) ≡ true → has_mark (a ∷ m) (encode_utf8_all cs) ≡ has_mark (a ∷ m) cs
mark_same a m [] h = refl
mark_same a m (c ∷ cs) h = by_size (cases_lt c 128) (mark_same a m cs h)
  where
    by_size : (c < 128) ⊎ (128 ≤ c) → has_mark (a ∷ m) (encode_utf8_all cs) ≡ has_mark (a ∷ m) cs → has_mark (a ∷ m) (encode c ++ encode_utf8_all cs) ≡ has_mark (a ∷ m) (c ∷ cs)
    by_size (inl l) more =
        let one = encode_ascii c l in
        let found : is_found (strip (a ∷ m) (c ∷ encode_utf8_all cs)) ≡ is_found (strip (a ∷ m) (c ∷ cs)) = ap (λ x. is_found (strip (a ∷ m) (x ++ encode_utf8_all cs))) (sym one) ∙ found_same (a ∷ m) (c ∷ cs) h in
        rw one (ap (λ x. x || has_mark (a ∷ m) (encode_utf8_all cs)) found ∙ ap (λ x. is_found (strip (a ∷ m) (c ∷ cs)) || x) more)
    by_size (inr g) more =
        let l = (and_parts (low a) (all_pass low m) h).0 in
        rw (not_same a c l (grind arith)) (mark_after a m (encode c) (encode_utf8_all cs) l (encode_high c g) ∙ more)

pub section_unended : (cs : List ℕ) → has_mark (codes "]]>") cs ≡ false → has_mark (codes "]]>") (encode_utf8_all cs) ≡ false
section_unended cs h = mark_same 93 (93 ∷ 62 ∷ []) cs refl ∙ h

-- ---- the section is cut at its end

no_end_before : (c : ℕ) (s rest : List ℕ) → begins (codes "]]>") (c ∷ s) ≡ false → strip (codes "]]>") (c ∷ (s ++ (codes "]]>" ++ rest))) ≡ None
no_end_before c [] rest e = elim (93 == c) as (λ b. cond {A = Option (List ℕ)} b None None ≡ None) [ true ↦ refl | false ↦ refl ]
no_end_before c (d ∷ []) rest e = by_tests (93 == c) (93 == d)
  where
    by_tests : (a b : Bool) → cond {A = Option (List ℕ)} a (cond b None None) None ≡ None
    by_tests true true = refl
    by_tests true false = refl
    by_tests false b = refl
no_end_before c (d ∷ g ∷ s) rest e =
    strip_whole (codes "]]>") (c ∷ d ∷ g ∷ s) (codes "]]>" ++ rest) (omega arith) ∙ ap (option_map (λ r. r ++ (codes "]]>" ++ rest))) (begins_not (codes "]]>") (c ∷ d ∷ g ∷ s) e)

section_cut : (s rest : List ℕ) → has_mark (codes "]]>") s ≡ false → cut_at (codes "]]>") (s ++ (codes "]]>" ++ rest)) ≡ Some (record { before = s; after = rest })
section_cut [] rest e = refl
section_cut (c ∷ s) rest e =
    let p = or_parts (begins (codes "]]>") (c ∷ s)) (has_mark (codes "]]>") s) e in
    rw (no_end_before c s rest p.0, section_cut s rest p.1) refl

-- A section that doesn't hold its own end is the next token, whatever follows it.
pub section_next : (t : List Entry) (s rest : List ℕ) → has_mark (codes "]]>") s ≡ false → first t in_svg (codes "<![CDATA[" ++ (s ++ (codes "]]>" ++ rest))) ≡ after_bytes 0 (taken (slice s) rest)
unfolding first begins_markup is_letter begins_tag begins_doctype lower begins_cdata read_cdata
section_next t s rest e = rw (section_cut s rest e) refl

pub section_markup : (s : List ℕ) → begins_markup (codes "<![CDATA[" ++ s) ≡ true
unfolding begins_markup is_letter
section_markup s = refl
