-- The text of title and textarea ends at its end tag and not before: no '/' follows a '<' that stands as itself.
use Rattle.std.proofs.Common.{◌≡◌, ℕ, suc, ◌+◌, Bool, true, false, cond, not, ◌==◌, List, [], ◌∷◌, ◌++◌, length, Some, None, refl, ap, sym, subst, ◌∙◌, arith, append_assoc, length-append}
use Rattle.std.proofs.lemmas.Bool.{and_parts, eqb-true}
use Rattle.std.proofs.lemmas.Str.{encode_ascii}
use lib.Utf8.{encode}
use Rattle.hm_base.specs.Bytes.{all_pass, head_is, strip_word, lower, is_alnum, is_letter, is_digit_of}
use Rattle.hm_base.specs.RawText.{is_found_whole, begins_end_tag, place_from, raw_end}
use Rattle.hm_refs.specs.Names.{Entry}
use Rattle.hm_refs.specs.Tables.{IsTable}
use Rattle.hm_token_laws.specs.Decided.{goes_on, cuts_text}
use Rattle.hm_scan.proofs.RawTextLaws.{place_first}
use Rattle.hm_spelling_spec.specs.Characters.{rcdata, stays, CharacterRules, Piece, itself, reference_to, section, spelled, AreAllowed}
use Rattle.hm_round_trip_laws.specs.References.{is_reference_byte}
use Rattle.hm_round_trip_laws.specs.Texts.{SpelledPointsEndThere}
use Rattle.hm_round_trip_laws.proofs.Encoded.{PassesHigh, encode_passes}
use Rattle.hm_round_trip_laws.proofs.Within.{not_few, reference_pass}

-- ---- where no end tag begins

unfoldable pub no_lt : ℕ → Bool
no_lt c = not (c == 60)

no_lt_high : PassesHigh no_lt
unfolding no_lt
no_lt_high d h = grind arith

no_lt_few : (c : ℕ) → is_reference_byte c ≡ true → no_lt c ≡ true
unfolding no_lt is_reference_byte is_alnum is_letter is_digit_of
no_lt_few c h = rw (not_few 60 c refl h) refl

amp_no_lt : no_lt 38 ≡ true
unfolding no_lt
amp_no_lt = refl

lower_lt : (c : ℕ) → not (c == 60) ≡ true → (60 == lower c) ≡ false
unfolding lower
lower_lt c h = grind arith

lower_slash : (c : ℕ) → (c == 47) ≡ false → (47 == lower c) ≡ false
unfolding lower
lower_slash c h = grind arith

lt_lower : (60 == lower 60) ≡ true
unfolding lower
lt_lower = refl

not_here : (name : List ℕ) (c : ℕ) (s : List ℕ) → no_lt c ≡ true → begins_end_tag name (c ∷ s) ≡ false
unfolding begins_end_tag no_lt
not_here name c s h = rw (lower_lt c h) refl

not_after : (name s : List ℕ) → not (head_is (λ c. c == 47) s) ≡ true → begins_end_tag name (60 ∷ s) ≡ false
unfolding begins_end_tag
not_after name [] h = rw lt_lower refl
not_after name (c ∷ s) h = by_test (c == 47) refl h
  where
    by_test : (b : Bool) → (c == 47) ≡ b → not b ≡ true → is_found_whole (cond (60 == lower 60) (cond (47 == lower c) (strip_word name s) None) None) ≡ false
    by_test true e h = absurd (cc)
    by_test false e h = rw (lt_lower, lower_slash c e) refl

-- ---- places

passed_place : (name xs ys : List ℕ) (i : ℕ) → all_pass no_lt xs ≡ true → place_from (begins_end_tag name) i (xs ++ ys) ≡ place_from (begins_end_tag name) (i + length xs) ys
passed_place name [] ys i h = let same : i + 0 ≡ i = omega arith in rw same refl
passed_place name (x ∷ xs) ys i h =
    let both = and_parts (no_lt x) (all_pass no_lt xs) h in
    let more = passed_place name xs ys (suc i) both.1 in
    let at : suc i + length xs ≡ i + length (x ∷ xs) = omega arith in
    rw (not_here name x (xs ++ ys) both.0) (more ∙ ap (λ n. place_from (begins_end_tag name) n ys) at)

itself_place : (t : List Entry) (name : List ℕ) (c : ℕ) (s : List ℕ) (i : ℕ) → stays t rcdata c s ≡ true → place_from (begins_end_tag name) i (encode c ++ s) ≡ place_from (begins_end_tag name) (i + length (encode c)) s
unfolding no_lt stays
itself_place t name c s i h = by_test (c == 60) refl
  where
    lt_stays : stays t rcdata 60 s ≡ true → not (head_is (λ c. c == 47) s) ≡ true
    lt_stays h = h

    by_test : (b : Bool) → (c == 60) ≡ b → place_from (begins_end_tag name) i (encode c ++ s) ≡ place_from (begins_end_tag name) (i + length (encode c)) s
    by_test true e =
        let same : c ≡ 60 = eqb-true c 60 e in
        let one : encode c ≡ 60 ∷ [] = ap encode same ∙ encode_ascii 60 (omega arith) in
        let at : i + 1 ≡ suc i = omega arith in
        rw (one, not_after name s (lt_stays (subst (λ x. stays t rcdata x s ≡ true) same h)), at) refl
    by_test false e = passed_place name (encode c) s i (encode_passes no_lt c no_lt_high (rw e refl))

pieces_place : (t : List Entry) (rules : CharacterRules) (name : List ℕ) (ps : List Piece) (after : List ℕ) (i : ℕ) → IsTable t → begins_end_tag name after ≡ true → AreAllowed t rules rcdata ps after
    → place_from (begins_end_tag name) i (spelled ps ++ after) ≡ Some (i + length (spelled ps))
pieces_place t rules name [] after i k e g = let same : i + 0 ≡ i = omega arith in rw same (place_first name after i e)
pieces_place t rules name (itself c ∷ ps) after i k e ((stands, kept), g) =
    let at : (i + length (encode c)) + length (spelled ps) ≡ i + length (encode c ++ spelled ps) = simp length-append (omega arith) in
    ap (place_from (begins_end_tag name) i) (append_assoc (encode c) (spelled ps) after) ∙ itself_place t name c (spelled ps ++ after) i kept
    ∙ pieces_place t rules name ps after (i + length (encode c)) k e g ∙ ap Some at
pieces_place t rules name (reference_to b qs ∷ ps) after i k e ((begins, r), g) =
    let all : all_pass no_lt b ≡ true = reference_pass t rcdata no_lt qs b (spelled ps ++ after) k amp_no_lt no_lt_few r in
    let at : (i + length b) + length (spelled ps) ≡ i + length (b ++ spelled ps) = simp length-append (omega arith) in
    ap (place_from (begins_end_tag name) i) (append_assoc b (spelled ps) after) ∙ passed_place name b (spelled ps ++ after) i all
    ∙ pieces_place t rules name ps after (i + length b) k e g ∙ ap Some at
pieces_place t rules name (section cs ∷ ps) after i k e ((here, good), g) = absurd (cc)

pub spelled_points_end_there : SpelledPointsEndThere
spelled_points_end_there t rules name cs b after k e s =
    let all = pieces_place t rules name s.pieces after 0 k e s.allowed in
    let at : 0 + length (spelled s.pieces) ≡ length (spelled s.pieces) = omega arith in
    subst (λ x. raw_end name (x ++ after) ≡ Some (length x)) s.whole (all ∙ ap Some at)

-- ---- what follows

lt_cuts : (s : List ℕ) → cuts_text (60 ∷ s) ≡ true
unfolding goes_on is_alnum is_letter is_digit_of
lt_cuts s = refl

-- an end tag cuts a text
pub tag_cuts : (name s : List ℕ) → begins_end_tag name s ≡ true → cuts_text s ≡ true
unfolding no_lt begins_end_tag
tag_cuts name [] h = absurd (cc)
tag_cuts name (c ∷ s) h = by_test (c == 60) refl
  where
    by_test : (b : Bool) → (c == 60) ≡ b → cuts_text (c ∷ s) ≡ true
    by_test true e = subst (λ x. cuts_text (x ∷ s) ≡ true) (sym (eqb-true c 60 e)) (lt_cuts s)
    by_test false e = let none : begins_end_tag name (c ∷ s) ≡ false = not_here name c s (rw e refl) in absurd (cc)
