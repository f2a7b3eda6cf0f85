-- A text in an element of SVG: runs of ordinary text, and CDATA sections between them.
use Rattle.std.proofs.Common.{◌≡◌, ℕ, true, false, List, [], ◌∷◌, ◌++◌, refl, ap, sym, subst, ◌∙◌, append_assoc, codes, encode_utf8_all}
use Rattle.std.proofs.lemmas.Bool.{not-true}
use Rattle.std.proofs.lemmas.Str.{encodes-append}
use lib.Utf8.{encode}
use Rattle.hm_base.specs.Forms.{has_mark}
use Rattle.hm_refs.specs.Names.{Entry}
use Rattle.hm_refs.specs.Tables.{IsTable}
use Rattle.hm_tree.specs.Tokens.{slice}
use Rattle.hm_token_laws.specs.First.{in_svg}
use Rattle.hm_token_laws.specs.Decided.{written_so, ends_text, IsReadAs}
use Rattle.hm_token_laws.specs.Decided as decided
use Rattle.hm_token_laws.proofs.TextReads.{texts_are_read, markup_ends_texts}
use Rattle.hm_spelling_spec.specs.Characters.{foreign, stays, CharacterRules, Piece, itself, reference_to, section, spelled, meant, AreAllowed}
use Rattle.hm_round_trip_laws.specs.Texts.{InPieces, SpelledSvgPointsAreRead}
use Rattle.hm_round_trip_laws.proofs.ReadTexts.{read_nothing, read_both}
use Rattle.hm_round_trip_laws.proofs.ReferencePieces.{Refers}
use Rattle.hm_round_trip_laws.proofs.Within.{sectioned}
use Rattle.hm_round_trip_laws.proofs.Sections.{section_unended, section_next, section_markup}
use Rattle.hm_round_trip_laws.proofs.TextPieces.{svg_spot, with_itself, with_reference}

-- what is spelled is a run of ordinary text up to a section or to the end, and is read from there on
record Run (t : List Entry) (b after text : List ℕ) : Type 0 where
  front : List ℕ
  front_text : List ℕ
  rest : List ℕ
  rest_text : List ℕ
  is : b ≡ front ++ rest
  means : front_text ++ rest_text ≡ text
  pieces : InPieces t false front_text front (rest ++ after)
  ended : ends_text t (rest ++ after) ≡ true
  reads : IsReadAs t in_svg (rest ++ after) after rest_text

module _ (t : List Entry) (table : IsTable t) (after : List ℕ) where
  -- a run is read, and then what follows it
  run_read : (b text : List ℕ) → Run t b after text → IsReadAs t in_svg (b ++ after) after text
  run_read b text r =
      let front = texts_are_read t in_svg r.pieces.pieces (r.rest ++ after) table refl r.pieces.good r.ended in
      let whole = read_both t in_svg (written_so r.pieces.pieces ++ (r.rest ++ after)) (r.rest ++ after) after (decided.meant r.pieces.pieces) r.rest_text front r.reads in
      let here : written_so r.pieces.pieces ++ (r.rest ++ after) ≡ b ++ after =
      ap (λ x. x ++ (r.rest ++ after)) r.pieces.written ∙ sym (append_assoc r.front r.rest after) ∙ ap (λ x. x ++ after) (sym r.is) in
      let says : decided.meant r.pieces.pieces ++ r.rest_text ≡ text = ap (λ x. x ++ r.rest_text) r.pieces.means ∙ r.means in
      subst (λ x. IsReadAs t in_svg (b ++ after) after x) says (subst (λ x. IsReadAs t in_svg x after (decided.meant r.pieces.pieces ++ r.rest_text)) here whole)

  run_none : ends_text t after ≡ true → Run t [] after []
  run_none e = record {
    front = [];
    front_text = [];
    rest = [];
    rest_text = [];
    is = refl;
    means = refl;
    pieces = record { pieces = []; written = refl; means = refl; good = tt };
    ended = e;
    reads = read_nothing t in_svg after;
  }

  -- what follows one more piece of the run
  following : (b text : List ℕ) (r : Run t b after text) → b ++ after ≡ r.front ++ (r.rest ++ after)
  following b text r = ap (λ x. x ++ after) r.is ∙ append_assoc r.front r.rest after

  run_itself : (c : ℕ) (b text : List ℕ) → stays t foreign c (b ++ after) ≡ true → Run t b after text → Run t (encode c ++ b) after (encode c ++ text)
  run_itself c b text kept r = record {
    front = encode c ++ r.front;
    front_text = encode c ++ r.front_text;
    rest = r.rest;
    rest_text = r.rest_text;
    is = ap (λ x. encode c ++ x) r.is ∙ sym (append_assoc (encode c) r.front r.rest);
    means = append_assoc (encode c) r.front_text r.rest_text ∙ ap (λ x. encode c ++ x) r.means;
    pieces = with_itself t foreign false c r.front_text r.front (r.rest ++ after) svg_spot (subst (λ x. stays t foreign c x ≡ true) (following b text r) kept) r.pieces;
    ended = r.ended;
    reads = r.reads;
  }

  run_reference : (qs a b text : List ℕ) → Refers t foreign qs a (b ++ after) → Run t b after text → Run t (a ++ b) after (encode_utf8_all qs ++ text)
  run_reference qs a b text h r = record {
    front = a ++ r.front;
    front_text = encode_utf8_all qs ++ r.front_text;
    rest = r.rest;
    rest_text = r.rest_text;
    is = ap (λ x. a ++ x) r.is ∙ sym (append_assoc a r.front r.rest);
    means = append_assoc (encode_utf8_all qs) r.front_text r.rest_text ∙ ap (λ x. encode_utf8_all qs ++ x) r.means;
    pieces = with_reference t foreign false qs a r.front_text r.front (r.rest ++ after) table svg_spot (subst (λ x. Refers t foreign qs a x) (following b text r) h) r.pieces;
    ended = r.ended;
    reads = r.reads;
  }

  -- a section, with what follows it
  section_shape : (s b : List ℕ) → ((codes "<![CDATA[" ++ (s ++ codes "]]>")) ++ b) ++ after ≡ codes "<![CDATA[" ++ (s ++ (codes "]]>" ++ (b ++ after)))
  section_shape s b = ap (λ x. codes "<![CDATA[" ++ x) (append_assoc (s ++ codes "]]>") b after ∙ append_assoc s (codes "]]>") (b ++ after))

  section_read : (s b text : List ℕ) → has_mark (codes "]]>") s ≡ false → IsReadAs t in_svg (b ++ after) after text → IsReadAs t in_svg (codes "<![CDATA[" ++ (s ++ (codes "]]>" ++ (b ++ after)))) after (s ++ text)
  section_read s b text unended more = record { tokens = slice s ∷ more.tokens; reads = (0, b ++ after, section_next t s (b ++ after) unended, more.reads); texts = more.texts; joined = ap (λ x. s ++ x) more.joined }

  run_section : (s b text : List ℕ) → has_mark (codes "]]>") s ≡ false → Run t b after text → Run t ((codes "<![CDATA[" ++ (s ++ codes "]]>")) ++ b) after (s ++ text)
  run_section s b text unended r =
      let shape = section_shape s b in
      record {
        front = [];
        front_text = [];
        rest = (codes "<![CDATA[" ++ (s ++ codes "]]>")) ++ b;
        rest_text = s ++ text;
        is = refl;
        means = refl;
        pieces = record { pieces = []; written = refl; means = refl; good = tt };
        ended = subst (λ x. ends_text t x ≡ true) (sym shape) (markup_ends_texts t _ (section_markup (s ++ (codes "]]>" ++ (b ++ after))))).0;
        reads = subst (λ x. IsReadAs t in_svg x after (s ++ text)) (sym shape) (section_read s b text unended (run_read b text r));
      }

  runs : (rules : CharacterRules) (ps : List Piece) → ends_text t after ≡ true → AreAllowed t rules foreign ps after → Run t (spelled ps) after (encode_utf8_all (meant ps))
  runs rules [] e g = run_none e
  runs rules (itself c ∷ ps) e ((stands, kept), g) = run_itself c (spelled ps) (encode_utf8_all (meant ps)) kept (runs rules ps e g)
  runs rules (reference_to b qs ∷ ps) e ((begins, r), g) =
      subst (λ x. Run t (b ++ spelled ps) after x) (sym (encodes-append qs (meant ps))) (run_reference qs b (spelled ps) (encode_utf8_all (meant ps)) r (runs rules ps e g))
  runs rules (section cs ∷ ps) e ((here, good), g) =
      let unended = section_unended cs (not-true _ (sectioned rules.ascii cs good).unended) in
      subst (λ x. Run t ((codes "<![CDATA[" ++ (encode_utf8_all cs ++ codes "]]>")) ++ spelled ps) after x) (sym (encodes-append cs (meant ps)))
      (run_section (encode_utf8_all cs) (spelled ps) (encode_utf8_all (meant ps)) unended (runs rules ps e g))

pub spelled_svg_points_are_read : SpelledSvgPointsAreRead
spelled_svg_points_are_read t rules cs b after k e s =
    let read = run_read t k after (spelled s.pieces) (encode_utf8_all (meant s.pieces)) (runs t k after rules s.pieces e s.allowed) in
    subst (λ x. IsReadAs t in_svg (b ++ after) after (encode_utf8_all x)) s.means (subst (λ x. IsReadAs t in_svg (x ++ after) after (encode_utf8_all (meant s.pieces))) s.whole read)
