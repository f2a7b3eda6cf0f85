-- Each piece of a spelling is the next token or text, whatever follows it. The laws of this crate cite this, for one table
-- and one set of rules.
use Rattle.std.proofs.Common.{◌≡◌, ℕ, Bool, true, false, ◌||◌, ◌==◌, List, [], ◌∷◌, ◌++◌, map, codes, refl, ◌∙◌, ap, append_assoc, Some, eq-eqb}
use Rattle.std.proofs.lemmas.Bool.{and_parts}
use Rattle.std.specs.Str.{is_utf8}
use Rattle.hm_base.specs.Bytes.{is_space, head_is, lower, strip_word}
use Rattle.hm_base.specs.Forms.{is_blank, is_tag_name, is_comment_text}
use Rattle.hm_base.specs.RawText.{is_name_end, begins_end_tag}
use Rattle.hm_base.specs.Walks.{Attribute, Element}
use Rattle.hm_elements.specs.Paths.{current, is_in_svg}
use Rattle.hm_elements.specs.Places.{AttributesAllowed}
use Rattle.hm_elements.specs.Tables.{is_rcdata}
use Rattle.hm_markup_spec.specs.Tags.{WritesEnd}
use Rattle.hm_refs.specs.Tables.{IsTable}
use Rattle.hm_spelling_spec.specs.Spellings.{Before, TextSp}
use Rattle.hm_spelling_spec.specs.Tags.{Spelling, SpellsStart, SpellsDoctype}
use Rattle.hm_tree.specs.Tokens.{doctype, start_tag, end_tag, comment}
use Rattle.hm_token_laws.specs.First.{Mode, in_svg, rcdata}
use Rattle.hm_token_laws.specs.Laws.{reads_markup}
use Rattle.hm_token_laws.specs.Decided.{IsReadAs, ends_text}
use Rattle.hm_token_laws.specs.Written.{IsNext, IsNextMarkup, IsTextOf}
use Rattle.hm_token_laws.proofs.Written.{ends_are_next, text_ends_are_next, comments_are_next}
use Rattle.hm_round_trip_laws.specs.Texts.{InPieces, text_as_read}
use Rattle.hm_round_trip_laws.proofs.Tags.{spelled_starts_are_next, spelled_doctypes_are_next}
use Rattle.hm_round_trip_laws.proofs.Texts.{spelled_texts_are_in_pieces, spelled_svg_texts_are_read, spelled_element_texts_are_read}

-- what is known of the pieces of spellings with this table and these rules
pub record PiecesAreNext (g : Spelling) : Type 0 where
  pub starts : (mode : Mode) (name : List ℕ) (attributes : List Attribute) (slash : Bool) (b after : List ℕ)
      → reads_markup mode ≡ true → is_tag_name name ≡ true → AttributesAllowed attributes → SpellsStart g name attributes slash b after
      → IsNextMarkup g.table mode (b ++ after) (start_tag name attributes slash) after
  pub ends : (mode : Mode) (name b after : List ℕ) → reads_markup mode ≡ true → is_tag_name name ≡ true → WritesEnd name b → IsNextMarkup g.table mode (b ++ after) (end_tag name) after
  pub text_ends : (mode : Mode) (name b after : List ℕ) → IsTextOf mode name → is_tag_name name ≡ true → WritesEnd name b → IsNext g.table mode (b ++ after) (end_tag name) after
  pub end_begins : (name b after : List ℕ) → WritesEnd name b → begins_end_tag name (b ++ after) ≡ true
  pub doctypes : (mode : Mode) (legacy : Bool) (b after : List ℕ) → reads_markup mode ≡ true → SpellsDoctype legacy b → IsNextMarkup g.table mode (b ++ after) (doctype legacy) after
  pub comments : (mode : Mode) (s after : List ℕ) → reads_markup mode ≡ true → is_comment_text s ≡ true → IsNextMarkup g.table mode (codes "<!--" ++ (s ++ (codes "-->" ++ after))) (comment s) after
  pub texts : (before : Before) (path : List Element) (s b after : List ℕ) → is_utf8 s ≡ true → is_in_svg path ≡ false → TextSp g before path s false b after → InPieces g.table (is_rcdata (current path)) (text_as_read before path s) b after
  pub svg_texts : (before : Before) (path : List Element) (s b after : List ℕ) → is_utf8 s ≡ true → is_in_svg path ≡ true → ends_text g.table after ≡ true → TextSp g before path s false b after → IsReadAs g.table in_svg (b ++ after) after s
  pub element_texts : (before : Before) (path : List Element) (s b after : List ℕ) → is_utf8 s ≡ true → is_in_svg path ≡ false → is_rcdata (current path) ≡ true → begins_end_tag (current path) after ≡ true
      → TextSp g before path s false b after → IsReadAs g.table (rcdata (current path)) (b ++ after) after (text_as_read before path s)

gap_ends : (gap r : List ℕ) → is_blank gap ≡ true → head_is is_name_end (gap ++ 62 ∷ r) ≡ true
unfolding is_name_end is_space
gap_ends [] r h = refl
gap_ends (c ∷ gap) r h = by_test (and_parts (is_space c) (is_blank gap) h).0
  where
    by_test : is_space c ≡ true → is_space c || c == 47 || c == 62 ≡ true
    by_test e = rw e refl

-- a word in some ASCII case is found
word_front : (w xs s : List ℕ) → map lower xs ≡ w → strip_word w (xs ++ s) ≡ Some s
word_front w [] s e = rw (← e) refl
word_front w (x ∷ xs) s e =
    let same : (lower x == lower x) ≡ true = eq-eqb (lower x) (lower x) refl in
    rw (← e, same) (word_front (map lower xs) xs s refl)

-- a written end tag begins one of the name
written_end : (name b after : List ℕ) → WritesEnd name b → begins_end_tag name (b ++ after) ≡ true
unfolding begins_end_tag lower
written_end name b after w =
    let cut : (w.written ++ (w.gap ++ 62 ∷ [])) ++ after ≡ w.written ++ (w.gap ++ 62 ∷ after) = append_assoc w.written (w.gap ++ 62 ∷ []) after ∙ ap (λ x. w.written ++ x) (append_assoc w.gap (62 ∷ []) after) in
    rw (w.is, cut, word_front name w.written (w.gap ++ 62 ∷ after) w.lowered) (gap_ends w.gap after w.blank)

pub pieces_are_next : (g : Spelling) → IsTable g.table → PiecesAreNext g
pieces_are_next g table = record {
  starts = λ mode name attributes slash b after reads named allowed sp. spelled_starts_are_next g mode name attributes slash b after table reads named allowed sp;
  ends = ends_are_next g.table;
  text_ends = text_ends_are_next g.table;
  end_begins = written_end;
  doctypes = spelled_doctypes_are_next g;
  comments = comments_are_next g.table;
  texts = λ before path s b after u out sp. spelled_texts_are_in_pieces g before path s b after table u out sp;
  svg_texts = λ before path s b after u inside ends sp. spelled_svg_texts_are_read g before path s b after table u inside ends sp;
  element_texts = λ before path s b after u out is ends sp. spelled_element_texts_are_read g before path s b after table u out is ends sp;
}
