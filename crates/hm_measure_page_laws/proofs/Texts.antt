-- What a tree is built of: texts before it, and the text of a title.
use Rattle.std.proofs.Common.{◌≡◌, ℕ, suc, ◌+◌, ◌%◌, ◌^◌, ◌<◌, Bool, true, false, cond, ◌&&◌, ◌==◌, nat_le, List, [], ◌∷◌, ◌++◌, length, Some, refl, ap, subst, ◌∙◌, arith}
use Rattle.std.specs.Fmt.{decimal}
use Rattle.std.proofs.lemmas.Bool.{and_parts, both_ways}
use Rattle.std.proofs.lemmas.Bool.Decides.{nat_tests}
use Rattle.std.proofs.lemmas.Fmt.{decimal_by_steps}
use Rattle.hm_base.specs.Bytes.{all_pass, lower}
use Rattle.hm_base.specs.Forms.{has_byte}
use Rattle.hm_base.specs.RawText.{begins_end_tag, place_from, raw_end}
use Rattle.hm_base.specs.Walks.{Event, Element, pushes}
use Rattle.hm_base.proofs.Bytes.{all_pass-append}
use Rattle.hm_elements.specs.Paths.{is_in_raw, is_in_text, is_in_blank}
use Rattle.hm_refs.specs.Names.{Entry}
use Rattle.hm_refs.specs.Tables.{IsTable}
use Rattle.hm_scan.specs.Texts.{reference_in, ends_plain}
use Rattle.hm_tree.specs.Tokens.{Seen, taken}
use Rattle.hm_token_laws.specs.First.{Mode, ordinary, rcdata, after_bytes, first}
use Rattle.hm_token_laws.specs.Laws.{IsMode}
use Rattle.hm_token_laws.specs.Decided.{TextPiece, literal, written_so, meant, ArePieces, IsReadAs, ends_text}
use Rattle.hm_token_laws.proofs.TextPieces.{names_of_table}
use Rattle.hm_token_laws.proofs.TextReads.{texts_are_read, element_texts_are_read, markup_ends_texts}
use Rattle.hm_construction_laws.specs.Steps.{InsertionMode, in_body, Construction, went, no_drop, kept_byte, step_byte, step}
use Rattle.hm_construction_laws.specs.Trees.{mode_of}
use Rattle.hm_construction_laws.proofs.Texts.{texts}
use Rattle.hm_round_trip_laws.proofs.Reading.{Builds, written}
use Rattle.hm_round_trip_laws.proofs.Runs.{ran, run_of, run_bytes, Holds, Keeps, Reads}
use Rattle.hm_round_trip_laws.proofs.Ahead.{text_alone}
use Rattle.hm_round_trip_laws.proofs.Frame.{here}
use Rattle.hm_round_trip_laws.proofs.TreeTexts.{run_kept, any_byte, all_any, body_byte, text_byte}
use Rattle.hm_round_trip_laws.proofs.TextElements.{On, text_kept}
use Rattle.hm_round_trip_laws.proofs.BodyTexts.{Plain, plain_reads}
use Rattle.hm_measure_page_laws.proofs.Pieces.{Ends, over, tag, InPieces, texts_in_pieces}

-- some tree is built of the bytes from here on
pub record Grows (t : List Entry) (st : Construction) (b : List ℕ) : Type 0 where
  pub tree : List Event
  pub builds : Builds t st b tree

-- ---- Tokens

pub token_grows : (t : List Entry) → IsTable t → (mode : Mode) (st next : Construction) (es : List Event) (b : List ℕ) (token : Seen) (rest : List ℕ) → IsMode mode → mode_of st.path ≡ mode
    → first t mode b ≡ after_bytes 0 (taken token rest) → step st token ≡ went es next → Grows t next rest → Grows t st b
token_grows t k mode st next es b token rest m e h goes more = record { tree = pushes es more.tree; builds = written t mode st next es more.tree b 0 token rest (names_of_table t k) m e h goes more.builds }

-- ---- Ordinary texts

pub ends_here : (t : List Entry) (rest : List ℕ) → Ends rest → ends_text t rest ≡ true
ends_here t rest over = refl
ends_here t rest (tag s h) = (markup_ends_texts t (60 ∷ s) h).0

pub text_grows : (t : List Entry) → IsTable t → (st next : Construction) (es : List Event) (s rest : List ℕ) (p : InPieces t s rest) → Plain st → Ends rest → run_bytes (meant p.pieces) st ≡ ran es next → Grows t next rest → Grows t st (s ++ rest)
text_grows t k st next es s rest p plain e runs more =
    let r : IsReadAs t ordinary (s ++ rest) rest (meant p.pieces) = subst (λ x. IsReadAs t ordinary (x ++ rest) rest (meant p.pieces)) p.written (texts_are_read t ordinary p.pieces rest k refl p.good (ends_here t rest e)) in
    record { tree = pushes es more.tree; builds = text_alone t (names_of_table t k) Plain ordinary tt plain_reads (meant p.pieces) (s ++ rest) rest st next es more.tree plain r runs more.builds }

-- any text may stand in the innermost element
pub record TakesTexts (path : List Element) : Type 0 where
  pub mode_is : mode_of path ≡ ordinary
  pub outside : is_in_text path ≡ false
  pub allowed : is_in_blank path ≡ false

kept_in_body : (path : List Element) (s : List ℕ) → TakesTexts path → run_bytes s (here in_body path false) ≡ ran (texts (is_in_raw path) s) (here in_body path false)
kept_in_body path s takes = run_kept (here in_body path false) (is_in_raw path) any_byte (λ c h. ap run_of (body_byte path c takes.outside (λ k. absurd (both_ways (is_in_blank path) takes.allowed k)))) s (all_any s)

-- a text without '<' in body
pub body_text_grows : (t : List Entry) → IsTable t → (path : List Element) (s rest : List ℕ) → TakesTexts path → has_byte 60 s ≡ false → Ends rest → Grows t (here in_body path false) rest → Grows t (here in_body path false) (s ++ rest)
body_text_grows t k path s rest takes h e more =
    let p = texts_in_pieces t k s rest e h in
    text_grows t k (here in_body path false) (here in_body path false) (texts (is_in_raw path) (meant p.pieces)) s rest p takes.mode_is e (kept_in_body path (meant p.pieces) takes) more

-- ---- Decimal digits

pub is_figure : ℕ → Bool
is_figure c = nat_le 48 c && nat_le c 57

one_figure : (n : ℕ) → n < 10 → all_pass is_figure ((48 + n) ∷ []) ≡ true
unfolding is_figure
one_figure n h = let f : nat_le 48 (48 + n) && nat_le (48 + n) 57 ≡ true = grind (arith, nat_tests) in rw f refl

pub decimal_figures : (n : ℕ) → n < 2 ^ 64 → all_pass is_figure (decimal n) ≡ true
decimal_figures n h =
    let P : ℕ → List ℕ → Type 0 = λ m ds. all_pass is_figure ds ≡ true in
    decimal_by_steps P one_figure (λ m ds low before. all_pass-append is_figure ds ((48 + m % 10) ∷ []) before (one_figure (m % 10) (omega arith))) n h

no_sign : (c : ℕ) → is_figure c ≡ true → (c == 60) ≡ false
unfolding is_figure
no_sign c h = grind (arith, nat_tests)

not_sign : (c : ℕ) → is_figure c ≡ true → (60 == c) ≡ false
unfolding is_figure
not_sign c h = grind (arith, nat_tests)

no_amp : (c : ℕ) → is_figure c ≡ true → (c == 38) ≡ false
unfolding is_figure
no_amp c h = grind (arith, nat_tests)

no_capital : (c : ℕ) → is_figure c ≡ true → lower c ≡ c
unfolding is_figure lower
no_capital c h = let low : nat_le 65 c && nat_le c 90 ≡ false = grind (arith, nat_tests) in rw low refl

pub figures_no_sign : (s : List ℕ) → all_pass is_figure s ≡ true → has_byte 60 s ≡ false
figures_no_sign [] h = refl
figures_no_sign (c ∷ s) h = let two = and_parts (is_figure c) (all_pass is_figure s) h in rw (no_sign c two.0) (figures_no_sign s two.1)

-- ---- Digits in title

literals : List ℕ → List TextPiece
literals [] = []
literals (c ∷ s) = literal c ∷ literals s

literals_written : (s : List ℕ) → written_so (literals s) ≡ s
unfolding literals
literals_written [] = refl
literals_written (c ∷ s) = ap (λ x. c ∷ x) (literals_written s)

literals_meant : (s : List ℕ) → meant (literals s) ≡ s
unfolding literals
literals_meant [] = refl
literals_meant (c ∷ s) = ap (λ x. c ∷ x) (literals_meant s)

stands_alone : (t : List Entry) (c : ℕ) (s : List ℕ) → (c == 38) ≡ false → ends_plain t true c s ≡ false
unfolding reference_in
stands_alone t c s h = rw h refl

literals_good : (t : List Entry) (s : List ℕ) → all_pass is_figure s ≡ true → ArePieces t true (literals s) []
unfolding literals
literals_good t [] h = tt
literals_good t (c ∷ s) h = let two = and_parts (is_figure c) (all_pass is_figure s) h in (stands_alone t c _ (no_amp c two.0), literals_good t s two.1)

no_end_tag : (name : List ℕ) (c : ℕ) (s : List ℕ) → is_figure c ≡ true → begins_end_tag name (c ∷ s) ≡ false
unfolding begins_end_tag
no_end_tag name c s h =
    let differs : (60 == lower c) ≡ false = rw (no_capital c h) (not_sign c h) in
    rw differs refl

end_place : (name : List ℕ) (i : ℕ) (s : List ℕ) (d : ℕ) (rest : List ℕ) → all_pass is_figure s ≡ true → begins_end_tag name (d ∷ rest) ≡ true → place_from (begins_end_tag name) i (s ++ d ∷ rest) ≡ Some (i + length s)
end_place name i [] d rest h e = rw e (ap Some (omega arith))
end_place name i (c ∷ s) d rest h e =
    let two = and_parts (is_figure c) (all_pass is_figure s) h in
    let next : suc i + length s ≡ i + suc (length s) = omega arith in
    rw (no_end_tag name c (s ++ d ∷ rest) two.0) (end_place name (suc i) s d rest two.1 e ∙ ap Some next)

figures_are_read : (t : List Entry) → IsTable t → (name s : List ℕ) (d : ℕ) (rest : List ℕ) → all_pass is_figure s ≡ true → begins_end_tag name (d ∷ rest) ≡ true → IsReadAs t (rcdata name) (s ++ d ∷ rest) (d ∷ rest) s
figures_are_read t k name s d rest h e =
    let written_is = literals_written s in
    let found : raw_end name (s ++ d ∷ rest) ≡ Some (length s) = end_place name 0 s d rest h e ∙ ap Some (omega arith) in
    let there : IsReadAs t (rcdata name) (written_so (literals s) ++ d ∷ rest) (d ∷ rest) (meant (literals s)) =
    element_texts_are_read t name (literals s) (d ∷ rest) k (literals_good t s h) (rw written_is found) in
    rw (written_is, literals_meant s) at there

kept_in_title : (mode : InsertionMode) (path : List Element) (s : List ℕ) → is_in_text path ≡ true → run_bytes s (here mode path false) ≡ ran (texts (is_in_raw path) s) (here mode path false)
kept_in_title mode path s t = run_kept (here mode path false) (is_in_raw path) any_byte (λ c h. ap run_of (text_byte mode path c t)) s (all_any s)

-- digits in an element that holds one text with references
pub figures_grow : (t : List Entry) → IsTable t → (mode : InsertionMode) (path : List Element) (name s : List ℕ) (d : ℕ) (rest : List ℕ) → IsMode (rcdata name) → mode_of path ≡ rcdata name → is_in_text path ≡ true
    → all_pass is_figure s ≡ true → begins_end_tag name (d ∷ rest) ≡ true → Grows t (here mode path false) (d ∷ rest) → Grows t (here mode path false) (s ++ d ∷ rest)
figures_grow t k mode path name s d rest m e inside h ends more =
    let es = texts (is_in_raw path) s in
    let st = here mode path false in
    let reads : Reads (On path) (rcdata name) = record { mode_is = λ st on. ap mode_of on ∙ e; keeps = text_kept path inside } in
    record { tree = pushes es more.tree; builds = text_alone t (names_of_table t k) (On path) (rcdata name) m reads s (s ++ d ∷ rest) (d ∷ rest) st st es more.tree refl (figures_are_read t k name s d rest h ends) (kept_in_title mode path s inside) more.builds }
