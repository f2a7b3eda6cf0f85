-- The texts of a tree that are spelled are read as the texts.
use Rattle.std.proofs.Common.{◌≡◌, ℕ, Bool, true, false, cond, ◌&&◌, List, ◌∷◌, ◌++◌, length, Some, refl, ap, sym, subst, ◌∙◌, arith, chars, encode_utf8_all}
use Rattle.std.specs.Str.{is_utf8}
use Rattle.std.proofs.lemmas.Str.{encode_ascii}
use Rattle.hm_base.specs.RawText.{raw_end}
use Rattle.hm_base.specs.Walks.{Element}
use Rattle.hm_elements.specs.Paths.{current, is_in_svg}
use Rattle.hm_elements.specs.Tables.{is_rcdata}
use Rattle.hm_token_laws.specs.First as modes
use Rattle.hm_token_laws.specs.Decided.{meant, IsReadAs}
use Rattle.hm_token_laws.proofs.TextPieces.{texts_are_decided}
use Rattle.hm_token_laws.proofs.TextReads.{texts_are_read, element_texts_are_read}
use Rattle.hm_spelling_spec.specs.Characters as spots
use Rattle.hm_spelling_spec.specs.Characters.{Spot, SpellsPoints}
use Rattle.hm_spelling_spec.specs.Spellings.{Before, is_opening, drops_first_line_feed, wants_line_feed, with_line_feed, spot_of, TextSp}
use Rattle.hm_spelling_spec.specs.Tags.{Spelling, character_rules}
use Rattle.hm_round_trip_laws.specs.Texts.{InPieces, text_spot, text_as_read, SpelledTextsAreInPieces, SpelledTextsAreRead, SpelledSvgTextsAreRead, SpelledElementTextsAreRead}
use Rattle.hm_round_trip_laws.proofs.Ends.{spelled_points_end_there, tag_cuts}
use Rattle.hm_round_trip_laws.proofs.SvgTexts.{spelled_svg_points_are_read}
use Rattle.hm_round_trip_laws.proofs.TextPieces.{spelled_points_are_in_pieces}
use Rattle.hm_round_trip_laws.proofs.Values.{bytes_back}

-- the code points that are spelled, in UTF-8, are the text as it is read
line_feed_bytes : (before : Before) (path : List Element) (s : List ℕ) → is_utf8 s ≡ true → encode_utf8_all (with_line_feed before path (chars s)) ≡ text_as_read before path s
line_feed_bytes before path s u = by_test (wants_line_feed before path (chars s))
  where
    by_test : (b : Bool) → encode_utf8_all (cond b (10 ∷ chars s) (chars s)) ≡ cond b (10 ∷ s) s
    by_test true = ap (λ x. x ++ encode_utf8_all (chars s)) (encode_ascii 10 (omega arith)) ∙ ap (λ x. 10 ∷ x) (bytes_back s u)
    by_test false = bytes_back s u

-- in HTML
html_spot : (path : List Element) → is_in_svg path ≡ false → spot_of path ≡ text_spot (is_rcdata (current path))
html_spot path h = rw h (elim (is_rcdata (current path)) as (λ b. cond b spots.rcdata spots.text ≡ text_spot b) [ true ↦ refl | false ↦ refl ])

html_points : (g : Spelling) (before : Before) (path : List Element) (s b after : List ℕ) → is_in_svg path ≡ false → TextSp g before path s false b after
    → SpellsPoints g.table (character_rules g) (text_spot (is_rcdata (current path))) (with_line_feed before path (chars s)) b after
html_points g before path s b after h sp = subst (λ x. SpellsPoints g.table (character_rules g) x (with_line_feed before path (chars s)) b after) (html_spot path h) sp

pub spelled_texts_are_in_pieces : SpelledTextsAreInPieces
spelled_texts_are_in_pieces g before path s b after k u h sp =
    subst (λ x. InPieces g.table (is_rcdata (current path)) x b after) (line_feed_bytes before path s u)
    (spelled_points_are_in_pieces g.table (character_rules g) (is_rcdata (current path)) (with_line_feed before path (chars s)) b after k (html_points g before path s b after h sp))

pub spelled_texts_are_read : SpelledTextsAreRead
spelled_texts_are_read g mode before path s b after k u m h n e sp =
    let p = subst (λ x. InPieces g.table x (text_as_read before path s) b after) n (spelled_texts_are_in_pieces g before path s b after k u h sp) in
    let r = texts_are_read g.table mode p.pieces after k m p.good e in
    subst (λ x. IsReadAs g.table mode (b ++ after) after x) p.means (subst (λ x. IsReadAs g.table mode (x ++ after) after (meant p.pieces)) p.written r)

-- no line feed is dropped in SVG
svg_as_it_is : (before : Before) (path : List Element) (s : List ℕ) → is_in_svg path ≡ true → text_as_read before path s ≡ s
unfolding drops_first_line_feed
svg_as_it_is before path s h = rw h (elim (is_opening before) as (λ b. cond (b && false) (10 ∷ s) s ≡ s) [ true ↦ refl | false ↦ refl ])

pub spelled_svg_texts_are_read : SpelledSvgTextsAreRead
spelled_svg_texts_are_read g before path s b after k u h e sp =
    let there : spot_of path ≡ spots.foreign = rw h refl in
    let points = subst (λ x. SpellsPoints g.table (character_rules g) x (with_line_feed before path (chars s)) b after) there sp in
    subst (λ x. IsReadAs g.table modes.in_svg (b ++ after) after x) (line_feed_bytes before path s u ∙ svg_as_it_is before path s h)
    (spelled_svg_points_are_read g.table (character_rules g) (with_line_feed before path (chars s)) b after k e points)

pub spelled_element_texts_are_read : SpelledElementTextsAreRead
spelled_element_texts_are_read g before path s b after k u h n e sp =
    let name = current path in
    let in_rcdata = λ (x : Bool). SpellsPoints g.table (character_rules g) (text_spot x) (with_line_feed before path (chars s)) b after in
    let points = subst in_rcdata n (html_points g before path s b after h sp) in
    let p = subst (λ x. InPieces g.table x (text_as_read before path s) b after) n (spelled_texts_are_in_pieces g before path s b after k u h sp) in
    let cuts = tag_cuts name after e in
    let alone = (texts_are_decided g.table true p.pieces after after k cuts cuts p.good).1 in
    let ends = spelled_points_end_there g.table (character_rules g) name (with_line_feed before path (chars s)) b after k e points in
    let r = element_texts_are_read g.table name p.pieces after k alone (subst (λ x. raw_end name (x ++ after) ≡ Some (length x)) (sym p.written) ends) in
    subst (λ x. IsReadAs g.table (modes.rcdata name) (b ++ after) after x) p.means (subst (λ x. IsReadAs g.table (modes.rcdata name) (x ++ after) after (meant p.pieces)) p.written r)
