-- A line feed that isn't read is shortest as itself.
use Rattle.std.proofs.Common.{◌≡◌, ℕ, suc, ◌≤◌, Bool, true, false, cond, not, ◌&&◌, List, [], ◌∷◌, ◌++◌, length, encode_utf8, refl, sym, ap, ◌∙◌, inl, inr, ◌⊎◌, arith, length-append}
use Rattle.std.proofs.lemmas.Bool.{and_parts, both_ways, eqb-true, not-true}
use Rattle.std.proofs.lemmas.Str.{encode_ascii}
use Rattle.hm_base.specs.Bytes.{head_is}
use Rattle.hm_base.specs.Walks.{Element}
use Rattle.hm_elements.specs.Paths.{current, is_in_svg}
use Rattle.hm_elements.specs.Tables.{is_rcdata}
use Rattle.hm_refs.specs.Names.{Entry}
use Rattle.hm_refs.specs.Tables.{IsTable}
use Rattle.hm_refs.proofs.Found.{good_of}
use Rattle.hm_spelling_spec.specs.Characters as spots
use Rattle.hm_spelling_spec.specs.Characters.{AreAllowed, CharacterRules, is_foreign, is_value, itself, meant, Piece, reference_to, section, spelled, SpellsPoints, Spot}
use Rattle.hm_spelling_spec.specs.Spellings.{Before, drops_first_line_feed, is_line_feed, is_opening, spot_of, wants_line_feed}
use Rattle.hm_graph_laws.proofs.Numbers.{hash_one}
use Rattle.hm_graph_laws.proofs.Pieces.{Refers}
use Rattle.hm_graph_laws.proofs.CharacterReading.{IsName, IsNumber, name_shape, reference_is}
use Rattle.hm_graph_laws.proofs.ReferenceStarts.{OneOrTwo, one_point, points_few, refers_of, two_points}
use Rattle.hm_optimality_laws.proofs.Texts.{with_feed}

-- what is left after a line feed
pub record Fed (t : List Entry) (rules : CharacterRules) (spot : Spot) (cs b after : List ℕ) : Type 0 where
  pub bytes : List ℕ
  pub spells : SpellsPoints t rules spot cs bytes after
  pub short : suc (length bytes) ≤ length b

no_points : (c : ℕ) (cs : List ℕ) → [] ≡ c ∷ cs → ⊥
no_points c cs e = cc

first_same : (c d : ℕ) (cs ds : List ℕ) → c ∷ cs ≡ d ∷ ds → c ≡ d
first_same c d cs ds e = cc

rest_same : (c d : ℕ) (cs ds : List ℕ) → c ∷ cs ≡ d ∷ ds → cs ≡ ds
rest_same c d cs ds e = cc

module _ (t : List Entry) (table : IsTable t) (rules : CharacterRules) (spot : Spot) (v : is_value spot ≡ false) (no_section : is_foreign spot ≡ false) where
  others : (ps : List Piece) (cs b after : List ℕ) (piece : List ℕ) → meant ps ≡ cs → AreAllowed t rules spot ps after → piece ++ spelled ps ≡ b → 1 ≤ length piece → Fed t rules spot cs b after
  others ps cs b after piece means allowed whole some = record {
    bytes = spelled ps;
    spells = record { pieces = ps; whole = refl; means = means; allowed = allowed };
    short = omega (arith, some, length-append piece (spelled ps), ap length whole);
  }

  pair_long : (qs piece x : List ℕ) (c d : ℕ) → qs ≡ c ∷ d ∷ [] → Refers t spot qs piece x → 2 ≤ length piece
  pair_long qs piece x c d two r = by_kind (reference_is t table spot qs piece x r)
    where
      by_kind : IsName t spot qs piece x ⊎ IsNumber qs piece x → 2 ≤ length piece
      by_kind (inl n) = let s = name_shape piece (good_of t table piece qs n.own) in omega (arith, ap length s.is)
      by_kind (inr n) = absurd (let (m, is) = hash_one n.inner (record { points = qs; len = length piece }) n.read in let k : c ∷ d ∷ [] ≡ m ∷ [] = sym two ∙ is in cc)

  by_points : (qs : List ℕ) → OneOrTwo qs → (ps : List Piece) (cs b after piece : List ℕ) → qs ++ meant ps ≡ 10 ∷ 10 ∷ cs → AreAllowed t rules spot ps after → piece ++ spelled ps ≡ b → Refers t spot qs piece (spelled ps ++ after) → Fed t rules spot (10 ∷ cs) b after
  by_points qs (one_point c) ps cs b after piece means allowed whole r = others ps (10 ∷ cs) b after piece (rest_same c 10 (meant ps) (10 ∷ cs) means) allowed whole (omega (arith, ap length r.bytes))
  by_points qs (two_points c d) ps cs b after piece means allowed whole r =
      let more = rest_same c 10 (d ∷ meant ps) (10 ∷ cs) means in
      let long = pair_long (c ∷ d ∷ []) piece (spelled ps ++ after) c d refl r in
      record {
        bytes = 10 ∷ spelled ps;
        spells = with_feed t rules spot cs (spelled ps) after v (record { pieces = ps; whole = refl; means = rest_same d 10 (meant ps) cs more; allowed = allowed });
        short = omega (arith, long, length-append piece (spelled ps), ap length whole);
      }

  by_pieces : (ps : List Piece) (cs b after : List ℕ) → meant ps ≡ 10 ∷ 10 ∷ cs → AreAllowed t rules spot ps after → spelled ps ≡ b → Fed t rules spot (10 ∷ cs) b after
  by_pieces [] cs b after means allowed whole = absurd (no_points 10 (10 ∷ cs) means)
  by_pieces (itself c ∷ ps) cs b after means (here, allowed) whole =
      let one : encode_utf8 c ≡ 10 ∷ [] = ap encode_utf8 (first_same c 10 (meant ps) (10 ∷ cs) means) ∙ encode_ascii 10 (omega arith) in
      others ps (10 ∷ cs) b after (encode_utf8 c) (rest_same c 10 (meant ps) (10 ∷ cs) means) allowed whole (omega (arith, ap length one))
  by_pieces (reference_to piece qs ∷ ps) cs b after means ((refers, read), allowed) whole =
      let r = refers_of t table spot qs piece (spelled ps ++ after) read in
      by_points qs (points_few t table spot qs piece (spelled ps ++ after) r) ps cs b after piece means allowed whole r
  by_pieces (section ds ∷ ps) cs b after means ((here, good), allowed) whole = absurd (both_ways (is_foreign spot) no_section here)

  pub feed_cut : (cs b after : List ℕ) → SpellsPoints t rules spot (10 ∷ 10 ∷ cs) b after → Fed t rules spot (10 ∷ cs) b after
  feed_cut cs b after s = by_pieces s.pieces cs b after s.means s.allowed s.whole

-- where a line feed is due no section may open, and the text begins with one
pub no_section_at : (before : Before) (path : List Element) (cs : List ℕ) → wants_line_feed before path cs ≡ true → is_foreign (spot_of path) ≡ false
unfolding drops_first_line_feed
no_section_at before path cs h =
    let drops = (and_parts (drops_first_line_feed path) (head_is is_line_feed cs) (and_parts (is_opening before) (drops_first_line_feed path && head_is is_line_feed cs) h).1).0 in
    by_tests (is_in_svg path) (is_rcdata (current path)) (not-true (is_in_svg path) (and_parts (not (is_in_svg path)) _ drops).0)
  where
    by_tests : (a b : Bool) → a ≡ false → is_foreign (cond a spots.foreign (cond b spots.rcdata spots.text)) ≡ false
    by_tests true b e = absurd (cc)
    by_tests false true e = refl
    by_tests false false e = refl

pub begins_feed : (before : Before) (path : List Element) (cs : List ℕ) → wants_line_feed before path cs ≡ true → (ds : List ℕ) × (cs ≡ 10 ∷ ds)
begins_feed before path cs h = by_head cs (and_parts (drops_first_line_feed path) (head_is is_line_feed cs) (and_parts (is_opening before) (drops_first_line_feed path && head_is is_line_feed cs) h).1).1
  where
    by_head : (cs : List ℕ) → head_is is_line_feed cs ≡ true → (ds : List ℕ) × (cs ≡ 10 ∷ ds)
    by_head [] k = absurd (cc)
    by_head (c ∷ ds) k = (ds, ap (λ x. x ∷ ds) (eqb-true c 10 k))
