-- What spells a settled tree is clean, and spells it with each line end as a line feed too.
use Rattle.std.proofs.Common.{◌≡◌, ℕ, zero, suc, ◌+◌, Bool, true, false, ◌==◌, List, [], ◌∷◌, ◌++◌, length, map, None, refl, ap, sym, subst, ◌∙◌, append_assoc, arith, codes}
use Rattle.std.specs.Str.{IsUtf8}
use Rattle.std.proofs.lemmas.Bool.{and_parts, eq-eqb}
use Rattle.std.proofs.lemmas.Str.{IsUtf8-from_is_utf8, utf8_valid_len-IsUtf8}
use Rattle.hm_base.specs.Bytes.{all_pass, lower}
use Rattle.hm_base.specs.Forms.{has_byte, is_tag_name, is_comment_text, is_attribute_name}
use Rattle.hm_base.specs.Source.{zero_from, bad_sequence, text_fault, numbered, without_mark}
use Rattle.hm_base.specs.Walks.{Attribute, Event, doctype, start, text, comment, end, Element}
use Rattle.hm_elements.specs.Paths.{outer}
use Rattle.hm_elements.specs.Places.{AttributesAllowed, SettledPage}
use Rattle.hm_elements.specs.Settled.{Settled, all_names_in_form}
use Rattle.hm_elements.proofs.Chain.{settled_page}
use Rattle.hm_markup_spec.specs.Doctypes.{WritesDoctype}
use Rattle.hm_markup_spec.proofs.LineEnds.{newlines, is_no_return, newlines_plain, text_is_newlines, unmarked}
use Rattle.hm_markup_spec.proofs.WrittenLines.{HasLines, AreNamed, start_lines, end_lines, doctype_lines}
use Rattle.hm_refs.specs.Tables.{IsTable}
use Rattle.hm_spelling_spec.specs.Spellings.{Before, other, after_start, after_end, TextSp, StartForm, StartSp, EndForm, EndSp, SpellsFrom}
use Rattle.hm_spelling_spec.specs.Tags.{Spelling, character_rules, SpellsStart}
use Rattle.hm_token_laws.proofs.Bools.{or_parts}
use Rattle.hm_round_trip_laws.specs.Pages.{IsClean, SettledSpellingsAreClean, SettledSpellingsHaveText}
use Rattle.hm_round_trip_laws.proofs.Clean.{is_no_zero, Clean, clean_both, clean_text, has_no_byte}
use Rattle.hm_round_trip_laws.proofs.CleanPieces.{clean_nothing, clean_spelled_text, clean_start, clean_end, clean_doctype, clean_comment}
use Rattle.hm_round_trip_laws.proofs.Decided.{points_lines}
use Rattle.hm_round_trip_laws.proofs.Lines.{spelled_no_return, no_return_of, values_have_lines}
use Rattle.hm_round_trip_laws.proofs.Sound.{IsSoundText, AreSound, settled_sound}

-- ---- clean

clean_text_piece : (g : Spelling) (before : Before) (path : List Element) (s : List ℕ) (raw : Bool) (b after : List ℕ) → IsTable g.table → IsSoundText s raw → TextSp g before path s raw b after → Clean b
clean_text_piece g before path s true b after k h sp = subst Clean (sym sp) (clean_text s h.no_zero h.utf8)
clean_text_piece g before path s false b after k h sp = clean_spelled_text g.table (character_rules g) _ before path s b after k (clean_text s h.no_zero h.utf8) sp

clean_start_piece : (g : Spelling) (before : Before) (n : List ℕ) (foreign : Bool) (attributes : List Attribute) (w : List Event) (form : StartForm) (b after : List ℕ) → IsTable g.table
    → (is_tag_name n ≡ true) × AttributesAllowed attributes → StartSp g before n foreign attributes w form b after → Clean b
clean_start_piece g before n foreign attributes w StartForm.omitted b after k h sp = subst Clean (sym sp.0) clean_nothing
clean_start_piece g before n foreign attributes w StartForm.written b after k h sp = clean_start g n attributes false b after k h.0 h.1 sp
clean_start_piece g before n foreign attributes w StartForm.slashed b after k h sp = clean_start g n attributes true b after k h.0 h.1 sp.1

clean_end_piece : (g : Spelling) (before : Before) (n : List ℕ) (foreign : Bool) (path : List Element) (w : List Event) (form : EndForm) (b : List ℕ) → is_tag_name n ≡ true → EndSp g before n foreign path w form b → Clean b
clean_end_piece g before n foreign path w EndForm.absent b h sp = subst Clean (sym sp.0) clean_nothing
clean_end_piece g before n foreign path w EndForm.omitted b h sp = subst Clean (sym sp.0) clean_nothing
clean_end_piece g before n foreign path w EndForm.written b h sp = clean_end n b h sp.1

clean_events : (g : Spelling) (before : Before) (path : List Element) (w : List Event) (b : List ℕ) → IsTable g.table → AreSound w → SpellsFrom g before path w b → Clean b
clean_events g before path [] b k h sp = subst Clean (sym sp) clean_nothing
clean_events g before path (doctype legacy ∷ w) b k (i, h) (piece, rest, is, d, sp) = subst Clean (sym is) (clean_both piece rest (clean_doctype legacy piece d) (clean_events g other path w rest k h sp))
clean_events g before path (comment s ∷ w) b k (i, h) (rest, is, sp) = subst Clean (sym is) (clean_comment s rest (clean_text s i.no_zero i.utf8) (clean_events g other path w rest k h sp))
clean_events g before path (text s raw ∷ w) b k (i, h) (piece, rest, is, t, sp) = subst Clean (sym is) (clean_both piece rest (clean_text_piece g before path s raw piece rest k i t) (clean_events g other path w rest k h sp))
clean_events g before path (start n foreign attributes ∷ w) b k (i, h) (form, piece, rest, is, t, sp) =
    subst Clean (sym is) (clean_both piece rest (clean_start_piece g before n foreign attributes w form piece rest k i t) (clean_events g (after_start foreign form) (record { name = n; foreign = foreign } ∷ path) w rest k h sp))
clean_events g before path (end n foreign ∷ w) b k (i, h) (form, piece, rest, is, t, sp) =
    subst Clean (sym is) (clean_both piece rest (clean_end_piece g before n foreign (outer path) w form piece i t) (clean_events g (after_end n form) (outer path) w rest k h sp))

no_zero_fails : is_no_zero 0 ≡ false
unfolding is_no_zero
no_zero_fails = refl

settled_clean : (g : Spelling) (w : List Event) (b : List ℕ) → IsTable g.table → Settled w → SpellsFrom g other [] w b → Clean b
settled_clean g w b k h sp = clean_events g other [] w b k (settled_sound w h) sp

pub settled_spellings_are_clean : SettledSpellingsAreClean
settled_spellings_are_clean g w b k h sp =
    let c = settled_clean g w b k h sp in
    record { utf8 = IsUtf8-from_is_utf8 b c.utf8; no_zero = has_no_byte is_no_zero 0 b no_zero_fails c.bytes }

-- ---- line ends

-- a piece without CR stays as it is
stays_whole : (W : List ℕ → List ℕ → Type 0) (b after : List ℕ) → all_pass is_no_return b ≡ true → W b (newlines after) → HasLines W b after
stays_whole W b after all w = record { other = b; written = w; is = newlines_plain b after all }

text_piece_lines : (g : Spelling) (before : Before) (path : List Element) (s : List ℕ) (raw : Bool) (b after : List ℕ) → IsTable g.table → IsSoundText s raw → TextSp g before path s raw b after → HasLines (TextSp g before path s raw) b after
text_piece_lines g before path s true b after k h sp = stays_whole (TextSp g before path s true) b after (subst (λ x. all_pass is_no_return x ≡ true) (sym sp) (no_return_of s (h.no_return refl))) sp
text_piece_lines g before path s false b after k h sp =
    stays_whole (TextSp g before path s false) b after (spelled_no_return g.table (character_rules g) _ _ b after k sp) (points_lines g.table (character_rules g) _ _ b after k sp)

nothing_lines : (W : List ℕ → List ℕ → Type 0) (b after : List ℕ) → b ≡ [] → W b (newlines after) → HasLines W b after
nothing_lines W b after e w = record { other = b; written = w; is = rw e refl }

names_of : (attributes : List Attribute) → all_names_in_form attributes ≡ true → AreNamed attributes
names_of [] h a (k, low, here) = absurd (omega arith)
names_of (d ∷ attributes) h a (zero, low, here) = subst (λ (e : Attribute). is_attribute_name e.name ≡ true) here (and_parts (is_attribute_name d.name) (all_names_in_form attributes) h).0
names_of (d ∷ attributes) h a (suc k, low, here) = names_of attributes (and_parts (is_attribute_name d.name) (all_names_in_form attributes) h).1 a (k, omega arith, here)

tag_lines : (g : Spelling) (n : List ℕ) (attributes : List Attribute) (slash : Bool) (b after : List ℕ) → IsTable g.table → is_tag_name n ≡ true → AttributesAllowed attributes → SpellsStart g n attributes slash b after
    → HasLines (SpellsStart g n attributes slash) b after
tag_lines g n attributes slash b after k h a sp = start_lines _ g.rules.tight n attributes slash b after h (names_of attributes a.names) (values_have_lines g attributes k a.utf8) sp

start_piece_lines : (g : Spelling) (before : Before) (n : List ℕ) (foreign : Bool) (attributes : List Attribute) (w : List Event) (form : StartForm) (b after : List ℕ) → IsTable g.table
    → (is_tag_name n ≡ true) × AttributesAllowed attributes → StartSp g before n foreign attributes w form b after → HasLines (StartSp g before n foreign attributes w form) b after
start_piece_lines g before n foreign attributes w StartForm.omitted b after k h sp = nothing_lines (StartSp g before n foreign attributes w StartForm.omitted) b after sp.0 sp
start_piece_lines g before n foreign attributes w StartForm.written b after k h sp = tag_lines g n attributes false b after k h.0 h.1 sp
start_piece_lines g before n foreign attributes w StartForm.slashed b after k h sp =
    let l = tag_lines g n attributes true b after k h.0 h.1 sp.1 in
    record { other = l.other; written = (sp.0, l.written); is = l.is }

end_piece_lines : (g : Spelling) (before : Before) (n : List ℕ) (foreign : Bool) (path : List Element) (w : List Event) (form : EndForm) (b after : List ℕ) → is_tag_name n ≡ true → EndSp g before n foreign path w form b
    → HasLines (λ x rest. EndSp g before n foreign path w form x) b after
end_piece_lines g before n foreign path w EndForm.absent b after h sp = nothing_lines (λ x rest. EndSp g before n foreign path w EndForm.absent x) b after sp.0 sp
end_piece_lines g before n foreign path w EndForm.omitted b after h sp = nothing_lines (λ x rest. EndSp g before n foreign path w EndForm.omitted x) b after sp.0 sp
end_piece_lines g before n foreign path w EndForm.written b after h sp =
    let l = end_lines n b after h sp.1 in
    record { other = l.other; written = (sp.0, l.written); is = l.is }

comment_no_return : (s : List ℕ) → is_comment_text s ≡ true → has_byte 13 s ≡ false
unfolding is_comment_text
comment_no_return s h = by_test (has_byte 13 s) refl
  where
    by_test : (b : Bool) → has_byte 13 s ≡ b → b ≡ false
    by_test false e = refl
    by_test true e = absurd (let no : false ≡ true = rw e at h in cc)

comment_lines : (s rest : List ℕ) → is_comment_text s ≡ true → newlines (codes "<!--" ++ (s ++ (codes "-->" ++ rest))) ≡ codes "<!--" ++ (s ++ (codes "-->" ++ newlines rest))
comment_lines s rest h = ap (λ x. codes "<!--" ++ x) (newlines_plain s (codes "-->" ++ rest) (no_return_of s (comment_no_return s h)))

events_lines : (g : Spelling) (before : Before) (path : List Element) (w : List Event) (b : List ℕ) → IsTable g.table → AreSound w → SpellsFrom g before path w b → SpellsFrom g before path w (newlines b)
events_lines g before path [] b k h sp = ap newlines sp
events_lines g before path (doctype legacy ∷ w) b k (i, h) (piece, rest, is, d, sp) =
    let l = doctype_lines true legacy piece rest d in
    (l.other, newlines rest, ap newlines is ∙ l.is, l.written, events_lines g other path w rest k h sp)
events_lines g before path (comment s ∷ w) b k (i, h) (rest, is, sp) = (newlines rest, ap newlines is ∙ comment_lines s rest i.form, events_lines g other path w rest k h sp)
events_lines g before path (text s raw ∷ w) b k (i, h) (piece, rest, is, t, sp) =
    let l = text_piece_lines g before path s raw piece rest k i t in
    (l.other, newlines rest, ap newlines is ∙ l.is, l.written, events_lines g other path w rest k h sp)
events_lines g before path (start n foreign attributes ∷ w) b k (i, h) (form, piece, rest, is, t, sp) =
    let l = start_piece_lines g before n foreign attributes w form piece rest k i t in
    (form, l.other, newlines rest, ap newlines is ∙ l.is, l.written, events_lines g (after_start foreign form) (record { name = n; foreign = foreign } ∷ path) w rest k h sp)
events_lines g before path (end n foreign ∷ w) b k (i, h) (form, piece, rest, is, t, sp) =
    let l = end_piece_lines g before n foreign (outer path) w form piece rest i t in
    (form, l.other, newlines rest, ap newlines is ∙ l.is, l.written, events_lines g (after_end n form) (outer path) w rest k h sp)

-- ---- the text of the page

zero_none : (n : ℕ) (s : List ℕ) → has_byte 0 s ≡ false → zero_from n s ≡ None
zero_none n [] h = refl
zero_none n (c ∷ s) h = let both = or_parts (c == 0) (has_byte 0 s) h in rw both.0 (zero_none (n + 1) s both.1)

bad_none : (b : List ℕ) → IsUtf8 b → bad_sequence b ≡ None
bad_none b u = rw (utf8_valid_len-IsUtf8 b u, eq-eqb (length b) (length b) refl) refl

no_fault : (b : List ℕ) → IsClean b → text_fault b ≡ None
no_fault b c = rw (bad_none b c.utf8, zero_none 0 b c.no_zero) refl

-- it begins with '<', which begins no mark
not_mark : (c : ℕ) → lower c ≡ 60 → (c == 0xEF) ≡ false
unfolding lower
not_mark c h = grind arith

word_unmarked : (word more s : List ℕ) (v : List ℕ) → map lower word ≡ 60 ∷ v → s ≡ word ++ more → without_mark (numbered 0 s) ≡ numbered 0 s
word_unmarked [] more s v e is = absurd (cc)
word_unmarked (c ∷ word) more s v e is = let first : lower c ≡ 60 = cc in rw is (unmarked c (word ++ more) (not_mark c first))

doctype_unmarked : (legacy : Bool) (piece rest b : List ℕ) → WritesDoctype true legacy piece → b ≡ piece ++ rest → without_mark (numbered 0 b) ≡ numbered 0 b
doctype_unmarked false piece rest b d is = word_unmarked d.word _ b _ d.word_is (is ∙ ap (λ x. x ++ rest) d.whole ∙ append_assoc d.word _ rest)
doctype_unmarked true piece rest b d is = word_unmarked d.word _ b _ d.word_is (is ∙ ap (λ x. x ++ rest) d.whole ∙ append_assoc d.word _ rest)

page_unmarked : (g : Spelling) (w : List Event) (b : List ℕ) → SettledPage w → SpellsFrom g other [] w b → without_mark (numbered 0 b) ≡ numbered 0 b
page_unmarked g [] b h sp = absurd h
page_unmarked g (comment s ∷ w) b h (rest, is, sp) = rw is refl
page_unmarked g (doctype legacy ∷ w) b h (piece, rest, is, d, sp) = doctype_unmarked legacy piece rest b d is
page_unmarked g (start n foreign attributes ∷ w) b h sp = absurd h
page_unmarked g (text s raw ∷ w) b h sp = absurd h
page_unmarked g (end n foreign ∷ w) b h sp = absurd h

pub settled_spellings_have_text : SettledSpellingsHaveText
settled_spellings_have_text g w b k h sp = (
  no_fault b (settled_spellings_are_clean g w b k h sp),
  subst (SpellsFrom g other [] w) (sym (text_is_newlines b (page_unmarked g w b (settled_page w h) sp))) (events_lines g other [] w b k (settled_sound w h) sp),
)
