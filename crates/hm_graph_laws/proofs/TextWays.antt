-- Each spelling has edges with no more bytes.
use Rattle.std.proofs.Common.{◌≡◌, ℕ, ◌≤◌, Bool, true, false, not, ◌||◌, List, [], ◌∷◌, ◌++◌, length, Option, Some, None, codes, encode_utf8, encode_utf8_all, refl, sym, ap, ◌∙◌, subst, inl, inr, ◌⊎◌, ◌+◌, append_assoc, append-nil, arith, length-append}
use Rattle.std.proofs.lemmas.Bool.{and_parts}
use Rattle.hm_base.specs.Bytes.{all_pass, head_is, is_null}
use Rattle.hm_base.specs.Forms.{has_mark}
use Rattle.hm_refs.specs.Names.{Entry}
use Rattle.hm_refs.specs.Tables.{IsIn, IsTable, first, later}
use Rattle.hm_spelling_spec.specs.Characters.{AreAllowed, CharacterRules, is_foreign, is_section, is_writable, itself, meant, Piece, reference_to, section, spelled}
use Rattle.hm_graph_laws.specs.CharacterEdges.{after_half, character_edges, choice, closes_section, in_section_after, is_in_section, is_outside, kept_at, section_edges_by, spot_at}
use Rattle.hm_graph_laws.specs.CharacterLaws.{SpellingsHaveWays, keeps_at, stands_at}
use Rattle.hm_graph_laws.specs.Edges.{Edge, edge, edge_to}
use Rattle.hm_graph_laws.specs.States.{Where, outside, after_omitted_end, self_closed, after_name, after_unquoted, after_quoted, in_unquoted, in_double, in_single, in_section, Pending, nothing, half, State, first_state, state}
use Rattle.hm_graph_laws.specs.Steps.{Fits, keeps}
use Rattle.hm_graph_laws.specs.Units.{TextKind, in_value, in_text, in_rcdata, in_foreign, next_of}
use Rattle.hm_graph_laws.proofs.CharacterWays.{Way, to_units, choice_in, into_section, opening_in}
use Rattle.hm_graph_laws.proofs.ChoiceLaws.{choice_for_one, choice_for_two, whole_of}
use Rattle.hm_graph_laws.proofs.Pieces.{Itself, Refers}
use Rattle.hm_graph_laws.proofs.ReferenceStarts.{OneOrTwo, one_point, points_few, refers_of, two_points}
use Rattle.hm_graph_laws.proofs.Sections.{brackets, mark_step, outside_at, place_open}

-- edges with at most n bytes, to an end that is kept
record Found (t : List Entry) (rules : CharacterRules) (kind : TextKind) (at : Where) (after cs : List ℕ) (p : Pending) (n : ℕ) : Type 0 where
  end : Pending
  bytes : List ℕ
  way : Way t rules kind cs (state at p) bytes (state at end)
  kept : keeps t (spot_at kind at) end after ≡ true
  fits : Fits t (spot_at kind at) end
  short : length bytes ≤ n

-- edges of a section's code points after the first one, whose edge is `by`
record Through (t : List Entry) (rules : CharacterRules) (kind : TextKind) (front : List ℕ) (c : ℕ) (cs : List ℕ) (p : Pending) (b : List ℕ) (to : State) : Type 0 where
  by : Edge
  among : IsIn by (section_edges_by (next_of cs) front c p)
  rest : List ℕ
  way : Way t rules kind cs by.to rest to
  whole : by.bytes ++ rest ≡ front ++ b

module _ (t : List Entry) (table : IsTable t) (rules : CharacterRules) (kind : TextKind) (at : Where) (after : List ℕ) (placed : is_in_section at ≡ false) where
  one_way : (c : ℕ) (cs : List ℕ) (p : Pending) (piece rest : List ℕ) → (e : Edge) → IsIn e (character_edges t rules kind c (next_of cs) (state at p)) → (q : Pending) → e.to ≡ state at q → length e.bytes ≤ length piece
      → Found t rules kind at after cs q (length rest) → Found t rules kind at after (c ∷ cs) p (length (piece ++ rest))
  one_way c cs p piece rest e i q to short w = record {
    end = w.end;
    bytes = e.bytes ++ w.bytes;
    way = (e, i, (w.bytes, refl, subst (λ s. Way t rules kind cs s w.bytes (state at w.end)) (sym to) w.way));
    kept = w.kept;
    fits = w.fits;
    short = omega (arith, length-append e.bytes w.bytes, length-append piece rest, short, w.short);
  }

  abbrev AllFound : List Piece → Type 0
  AllFound ps = (p : Pending) → Fits t (spot_at kind at) p → AreAllowed t rules (spot_at kind at) ps after → keeps t (spot_at kind at) p (spelled ps ++ after) ≡ true → Found t rules kind at after (meant ps) p (length (spelled ps))

  as_points : (c : ℕ) (ps : List Piece) (p : Pending) (piece : List ℕ) → Fits t (spot_at kind at) p → Itself t rules (spot_at kind at) c piece (spelled ps ++ after) ⊎ (rules.refers c ≡ true) × Refers t (spot_at kind at) (c ∷ []) piece (spelled ps ++ after)
      → keeps t (spot_at kind at) p ((piece ++ spelled ps) ++ after) ≡ true → AllFound ps → AreAllowed t rules (spot_at kind at) ps after → Found t rules kind at after (c ∷ meant ps) p (length (piece ++ spelled ps))
  as_points c ps p piece f one kept more g =
      let e = choice_for_one t table rules (spot_at kind at) c (next_of (meant ps)) p piece (spelled ps ++ after) f (subst (λ w. keeps t (spot_at kind at) p w ≡ true) (append_assoc piece (spelled ps) after) kept) one in
      one_way c (meant ps) p piece (spelled ps) (kept_at at e.choice_for) (choice_in t rules kind at c (next_of (meant ps)) p e.choice_for placed e.among) e.choice_for.to refl e.short
      (more e.choice_for.to e.fits g e.kept)

  as_pair : (c d : ℕ) (ps : List Piece) (p : Pending) (piece : List ℕ) → Fits t (spot_at kind at) p → rules.refers c ≡ true → Refers t (spot_at kind at) (c ∷ d ∷ []) piece (spelled ps ++ after)
      → keeps t (spot_at kind at) p ((piece ++ spelled ps) ++ after) ≡ true → AllFound ps → AreAllowed t rules (spot_at kind at) ps after → Found t rules kind at after (c ∷ d ∷ meant ps) p (length (piece ++ spelled ps))
  as_pair c d ps p piece f a r kept more g =
      let e = choice_for_two t table rules (spot_at kind at) c d p piece (spelled ps ++ after) f (subst (λ w. keeps t (spot_at kind at) p w ≡ true) (append_assoc piece (spelled ps) after) kept) a r in
      one_way c (d ∷ meant ps) p piece (spelled ps) (kept_at at (choice piece (half e.left))) (choice_in t rules kind at c (Some d) p (choice piece (half e.left)) placed e.among) (half e.left) refl (omega arith)
      (one_way d (meant ps) (half e.left) [] (spelled ps) (kept_at at (choice [] (after_half e.left))) (choice_in t rules kind at d (next_of (meant ps)) (half e.left) (choice [] (after_half e.left)) placed (first [])) (after_half e.left) refl (omega arith)
      (more (after_half e.left) e.fits g e.kept))

  as_reference : (qs : List ℕ) (ps : List Piece) (p : Pending) (piece : List ℕ) → OneOrTwo qs → Fits t (spot_at kind at) p → head_is rules.refers qs ≡ true → Refers t (spot_at kind at) qs piece (spelled ps ++ after)
      → keeps t (spot_at kind at) p ((piece ++ spelled ps) ++ after) ≡ true → AllFound ps → AreAllowed t rules (spot_at kind at) ps after → Found t rules kind at after (qs ++ meant ps) p (length (piece ++ spelled ps))
  as_reference qs ps p piece (one_point c) f a r kept more g = as_points c ps p piece f (inr (a, r)) kept more g
  as_reference qs ps p piece (two_points c d) f a r kept more g = as_pair c d ps p piece f a r kept more g

  -- ---- sections

  closing_in : (next : Option ℕ) (front : List ℕ) (c : ℕ) (p : Pending) → IsIn (edge_to (front ++ (encode_utf8 c ++ codes "]]>")) first_state) (section_edges_by next front c p)
  closing_in None front c p = first []
  closing_in (Some d) front c p = later (edge (front ++ encode_utf8 c) in_section (in_section_after c p)) (edge_to (front ++ (encode_utf8 c ++ codes "]]>")) first_state ∷ []) (first [])

  not_closed : (c : ℕ) (ds : List ℕ) (p : Pending) → has_mark (codes "]]>") (brackets p ++ c ∷ ds) ≡ false → (closes_section c p ≡ false) × (has_mark (codes "]]>") (brackets (in_section_after c p) ++ ds) ≡ false)
  not_closed c ds p h = by_tests (closes_section c p) (has_mark (codes "]]>") (brackets (in_section_after c p) ++ ds)) (sym (mark_step c p ds) ∙ h)
    where
      by_tests : (a b : Bool) → (a || b) ≡ false → (a ≡ false) × (b ≡ false)
      by_tests true b k = absurd (cc)
      by_tests false b k = (refl, k)

  through : (front : List ℕ) (c : ℕ) (ds : List ℕ) (p : Pending) (others rest : List ℕ) (to : State) → all_pass (is_writable rules.ascii) (c ∷ ds) ≡ true → has_mark (codes "]]>") (brackets p ++ c ∷ ds) ≡ false
      → Way t rules kind others first_state rest to → Through t rules kind front c (ds ++ others) p (encode_utf8_all (c ∷ ds) ++ (codes "]]>" ++ rest)) to
  through front c [] p others rest to written unmarked w = record {
    by = edge_to (front ++ (encode_utf8 c ++ codes "]]>")) first_state;
    among = closing_in (next_of others) front c p;
    rest = rest;
    way = w;
    whole = append_assoc front (encode_utf8 c ++ codes "]]>") rest ∙ ap (λ x. front ++ x) (append_assoc (encode_utf8 c) (codes "]]>") rest ∙ ap (λ x. x ++ (codes "]]>" ++ rest)) (sym (append-nil (encode_utf8 c))));
  }
  through front c (d ∷ ds) p others rest to written unmarked w =
      let q = in_section_after c p in
      let here = not_closed c (d ∷ ds) p unmarked in
      let all = and_parts (is_writable rules.ascii c) (all_pass (is_writable rules.ascii) (d ∷ ds)) written in
      let next = and_parts (is_writable rules.ascii d) (all_pass (is_writable rules.ascii) ds) all.1 in
      let m = through [] d ds q others rest to all.1 here.1 w in
      record {
        by = edge (front ++ encode_utf8 c) in_section q;
        among = first (edge_to (front ++ (encode_utf8 c ++ codes "]]>")) first_state ∷ []);
        rest = encode_utf8_all (d ∷ ds) ++ (codes "]]>" ++ rest);
        way = (m.by, into_section rules.ascii d (next_of (ds ++ others)) q m.by (record { written = next.0; unclosed = (not_closed d ds q here.1).0 }) m.among, (m.rest, sym m.whole, m.way));
        whole = append_assoc front (encode_utf8 c) (encode_utf8_all (d ∷ ds) ++ (codes "]]>" ++ rest)) ∙ ap (λ x. front ++ x) (sym (append_assoc (encode_utf8 c) (encode_utf8_all (d ∷ ds)) (codes "]]>" ++ rest)));
      }

  foreign_outside : stands_at kind at ≡ true → is_foreign (spot_at kind at) ≡ true → is_outside at ≡ true
  foreign_outside h f = by_kind kind refl h f
    where
      no_value : (a : Where) → is_foreign (spot_at in_value a) ≡ true → ⊥
      no_value outside g = cc
      no_value after_omitted_end g = cc
      no_value self_closed g = cc
      no_value after_name g = cc
      no_value after_unquoted g = cc
      no_value after_quoted g = cc
      no_value in_unquoted g = cc
      no_value in_double g = cc
      no_value in_single g = cc
      no_value in_section g = cc

      by_kind : (k : TextKind) → kind ≡ k → stands_at k at ≡ true → is_foreign (spot_at k at) ≡ true → is_outside at ≡ true
      by_kind in_text e i g = i
      by_kind in_rcdata e i g = i
      by_kind in_foreign e i g = i
      by_kind in_value e i g = absurd (no_value at g)

  as_section : (c : ℕ) (ds : List ℕ) (ps : List Piece) (p : Pending) → stands_at kind at ≡ true → Fits t (spot_at kind at) p → is_foreign (spot_at kind at) ≡ true → is_section rules.ascii (c ∷ ds) ≡ true → AllFound ps → AreAllowed t rules (spot_at kind at) ps after
      → Found t rules kind at after ((c ∷ ds) ++ meant ps) p (length ((codes "<![CDATA[" ++ (encode_utf8_all (c ∷ ds) ++ codes "]]>")) ++ spelled ps))
  unfolding is_section
  as_section c ds ps p stands f here good more g =
      let parts = and_parts (all_pass (is_writable rules.ascii) (c ∷ ds)) (not (has_mark (codes "]]>") (c ∷ ds))) good in
      let at_is = outside_at at (foreign_outside stands here) in
      let w = more nothing tt g refl in
      let m = through (codes "<![CDATA[") c ds nothing (meant ps) w.bytes (state at w.end) parts.0 (not_true (has_mark (codes "]]>") (c ∷ ds)) parts.1) (subst (λ a. Way t rules kind (meant ps) (state a nothing) w.bytes (state at w.end)) at_is w.way) in
      let written = (and_parts (is_writable rules.ascii c) (all_pass (is_writable rules.ascii) ds) parts.0).0 in
      let long : length m.by.bytes + length m.rest ≡ length (codes "<![CDATA[" ++ (encode_utf8_all (c ∷ ds) ++ (codes "]]>" ++ w.bytes))) = sym (length-append m.by.bytes m.rest) ∙ ap length m.whole in
      record {
        end = w.end;
        bytes = m.by.bytes ++ m.rest;
        way = (m.by, opening_in t rules kind at c (next_of (ds ++ meant ps)) p m.by placed (record { is_here = here; is_outside = foreign_outside stands here; whole = rw (whole_of t (spot_at kind at) p f) refl; written = written }) m.among, (m.rest, refl, m.way));
        kept = w.kept;
        fits = w.fits;
        short = omega (arith, length-append m.by.bytes m.rest, long, length-append (encode_utf8_all (c ∷ ds)) (codes "]]>" ++ w.bytes), length-append (codes "<![CDATA[" ++ (encode_utf8_all (c ∷ ds) ++ codes "]]>")) (spelled ps), length-append (encode_utf8_all (c ∷ ds)) (codes "]]>"), w.short);
      }
    where
      not_true : (b : Bool) → not b ≡ true → b ≡ false
      not_true true h = absurd (cc)
      not_true false h = refl

  some_section : (cs : List ℕ) → is_section rules.ascii cs ≡ true → not (is_null cs) ≡ true
  unfolding is_section
  some_section cs h = (and_parts (not (is_null cs)) _ h).0

  section_found : (cs : List ℕ) (ps : List Piece) (p : Pending) → stands_at kind at ≡ true → Fits t (spot_at kind at) p → is_foreign (spot_at kind at) ≡ true → is_section rules.ascii cs ≡ true → AllFound ps → AreAllowed t rules (spot_at kind at) ps after
      → Found t rules kind at after (cs ++ meant ps) p (length ((codes "<![CDATA[" ++ (encode_utf8_all cs ++ codes "]]>")) ++ spelled ps))
  section_found [] ps p stands f here good more g = absurd (let s = some_section [] good in cc)
  section_found (c ∷ ds) ps p stands f here good more g = as_section c ds ps p stands f here good more g

  all_found : stands_at kind at ≡ true → (ps : List Piece) → AllFound ps
  all_found stands [] p f g kept = record { end = p; bytes = []; way = (refl, refl); kept = kept; fits = f; short = omega arith }
  all_found stands (itself c ∷ ps) p f ((can, stays), g) kept = as_points c ps p (encode_utf8 c) f (inl (record { bytes = refl; stands = can; is_kept = stays })) kept (all_found stands ps) g
  all_found stands (reference_to b qs ∷ ps) p f ((begins, read), g) kept =
      let r = refers_of t table (spot_at kind at) qs b (spelled ps ++ after) read in
      as_reference qs ps p b (points_few t table (spot_at kind at) qs b (spelled ps ++ after) r) f begins r kept (all_found stands ps) g
  all_found stands (section cs ∷ ps) p f ((here, good), g) kept = section_found cs ps p stands f here good (all_found stands ps) g

pub spellings_have_ways : SpellingsHaveWays
spellings_have_ways t table rules es h kind cs from b after stands s kept =
    let w = all_found t table rules kind from.at after (place_open kind from.at stands.place) stands.place s.pieces from.pending stands.fits s.allowed (subst (λ x. keeps_at t kind from (x ++ after) ≡ true) (sym s.whole) kept) in
    record {
      to = state from.at w.end;
      bytes = w.bytes;
      way = to_units t rules es h kind cs from w.bytes (state from.at w.end) (subst (λ x. Way t rules kind x from w.bytes (state from.at w.end)) s.means w.way);
      kept = w.kept;
      ends = record { place = stands.place; fits = w.fits };
      same_place = refl;
      short = subst (λ x. length w.bytes ≤ length x) s.whole w.short;
    }
