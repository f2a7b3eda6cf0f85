-- The bytes along edges are a spelling.
use Rattle.std.proofs.Common.{◌≡◌, ℕ, true, false, not, List, [], ◌∷◌, ◌++◌, Option, Some, codes, encode_utf8, encode_utf8_all, refl, sym, ap, ◌∙◌, subst, inl, inr, ◌⊎◌, append_assoc, append-nil}
use Rattle.std.proofs.lemmas.Bool.{and_from}
use Rattle.hm_base.specs.Bytes.{all_pass, is_null}
use Rattle.hm_base.specs.Forms.{has_mark}
use Rattle.hm_refs.specs.Names.{Entry}
use Rattle.hm_refs.specs.Tables.{IsIn, IsTable}
use Rattle.hm_spelling_spec.specs.Characters.{CharacterRules, is_foreign, is_section, is_writable, IsAllowed, Piece, itself, reference_to, section, piece_bytes, piece_points, SpellsPoints}
use Rattle.hm_graph_laws.specs.CharacterEdges.{Choice, after_half, choice, in_section_after, is_in_section, kept_at, spot_at, character_edges}
use Rattle.hm_graph_laws.specs.CharacterLaws.{keeps_at, stands_at, WaysSpell}
use Rattle.hm_graph_laws.specs.Edges.{Edge, edge}
use Rattle.hm_graph_laws.specs.States.{Where, outside, in_section, Pending, nothing, half, State, state}
use Rattle.hm_graph_laws.specs.Steps.{Fits, keeps}
use Rattle.hm_graph_laws.specs.Units.{TextKind, next_of}
use Rattle.hm_graph_laws.proofs.Closing.{markup_law}
use Rattle.hm_graph_laws.proofs.CharacterWays.{Way, of_units, IsOutsideEdge, chooses, opens, outside_edge_is, IsSectionEdge, closes, goes_on, section_edge_is, GoesOn, section_edges_are}
use Rattle.hm_graph_laws.proofs.ChoiceLaws.{choice_writes, Writes, WritesOne, WritesTwo}
use Rattle.hm_graph_laws.proofs.In.{only}
use Rattle.hm_graph_laws.proofs.Pieces.{Itself, Refers}
use Rattle.hm_graph_laws.proofs.Sections.{brackets, foreign_text, mark_step, outside_at, place_open, unended}

-- one more piece before the others
add_piece : (t : List Entry) (rules : CharacterRules) (kind : TextKind) (at : Where) (q : Piece) (cs b rest after : List ℕ) → IsAllowed t rules (spot_at kind at) q (rest ++ after) → b ≡ piece_bytes q ++ rest
    → SpellsPoints t rules (spot_at kind at) cs rest after → SpellsPoints t rules (spot_at kind at) (piece_points q ++ cs) b after
add_piece t rules kind at q cs b rest after a is s = record {
  pieces = q ∷ s.pieces;
  whole = ap (λ w. piece_bytes q ++ w) s.whole ∙ sym is;
  means = ap (λ w. piece_points q ++ w) s.means;
  allowed = (subst (λ w. IsAllowed t rules (spot_at kind at) q (w ++ after)) (sym s.whole) a, s.allowed);
}

-- what the edges from a place outside of sections write
record SpelledAfter (t : List Entry) (rules : CharacterRules) (kind : TextKind) (at : Where) (to : State) (after cs : List ℕ) (p : Pending) (b : List ℕ) : Type 0 where
  spells : SpellsPoints t rules (spot_at kind at) cs b after
  kept : keeps t (spot_at kind at) p (b ++ after) ≡ true
  fits : Fits t (spot_at kind at) to.pending
  same_place : to.at ≡ at

-- what the edges from inside a section write: what is left of it, and a spelling
record Inside (t : List Entry) (rules : CharacterRules) (kind : TextKind) (at : Where) (to : State) (after cs : List ℕ) (p : Pending) (b : List ℕ) : Type 0 where
  points : List ℕ
  others : List ℕ
  rest : List ℕ
  cut : cs ≡ points ++ others
  some : not (is_null points) ≡ true
  written : all_pass (is_writable rules.ascii) points ≡ true
  unmarked : has_mark (codes "]]>") (brackets p ++ points) ≡ false
  whole : b ≡ encode_utf8_all points ++ (codes "]]>" ++ rest)
  later : SpelledAfter t rules kind at to after others nothing rest

-- the same after the bytes of `front`
record InsideAfter (t : List Entry) (rules : CharacterRules) (kind : TextKind) (at : Where) (to : State) (after front cs : List ℕ) (p : Pending) (b : List ℕ) : Type 0 where
  tail : List ℕ
  is : b ≡ front ++ tail
  inside : Inside t rules kind at to after cs p tail

module _ (t : List Entry) (table : IsTable t) (rules : CharacterRules) (kind : TextKind) (at : Where) (to : State) (after : List ℕ) (placed : is_in_section at ≡ false) where
  abbrev AllOutside : List ℕ → Type 0
  AllOutside cs = (p : Pending) (b : List ℕ) → Fits t (spot_at kind at) p → Way t rules kind cs (state at p) b to → SpelledAfter t rules kind at to after cs p b

  abbrev AllInside : List ℕ → Type 0
  AllInside cs = at ≡ outside → (p : Pending) (b : List ℕ) → is_null cs ≡ false → Way t rules kind cs (state in_section p) b to → Inside t rules kind at to after cs p b

  record So (cs : List ℕ) : Type 0 where
    from_outside : AllOutside cs
    from_inside : AllInside cs

  -- with the first code point skipped
  abbrev Skipped : List ℕ → Type 0
  Skipped [] = Unit {0}
  Skipped (d ∷ cs) = AllOutside cs

  one_more : (c : ℕ) (p : Pending) (k : Choice) (cs b rest : List ℕ) → WritesOne t rules (spot_at kind at) c p k → b ≡ k.bytes ++ rest → SpelledAfter t rules kind at to after cs k.to rest → SpelledAfter t rules kind at to after (c ∷ cs) p b
  one_more c p k cs b rest o is n =
      let cut : b ++ after ≡ k.bytes ++ (rest ++ after) = ap (λ w. w ++ after) is ∙ append_assoc k.bytes rest after in
      record {
        spells = by_kind (o.writes (rest ++ after) n.kept);
        kept = subst (λ w. keeps t (spot_at kind at) p w ≡ true) (sym cut) (o.before (rest ++ after) n.kept);
        fits = n.fits;
        same_place = n.same_place;
      }
    where
      by_kind : Itself t rules (spot_at kind at) c k.bytes (rest ++ after) ⊎ (rules.refers c ≡ true) × Refers t (spot_at kind at) (c ∷ []) k.bytes (rest ++ after) → SpellsPoints t rules (spot_at kind at) (c ∷ cs) b after
      by_kind (inl l) = add_piece t rules kind at (itself c) cs b rest after (l.stands, l.is_kept) (is ∙ ap (λ w. w ++ rest) l.bytes) n.spells
      by_kind (inr (a, r)) = add_piece t rules kind at (reference_to k.bytes (c ∷ [])) cs b rest after (a, r.found) is n.spells

  two_more : (c d : ℕ) (p : Pending) (k : Choice) (cs b rest : List ℕ) (o : WritesTwo t rules (spot_at kind at) c d p k) → b ≡ k.bytes ++ rest → SpelledAfter t rules kind at to after cs (after_half o.left) rest → SpelledAfter t rules kind at to after (c ∷ d ∷ cs) p b
  two_more c d p k cs b rest o is n =
      let cut : b ++ after ≡ k.bytes ++ (rest ++ after) = ap (λ w. w ++ after) is ∙ append_assoc k.bytes rest after in
      let w = o.writes (rest ++ after) n.kept in
      record {
        spells = add_piece t rules kind at (reference_to k.bytes (c ∷ d ∷ [])) cs b rest after (w.0, w.1.found) is n.spells;
        kept = subst (λ w. keeps t (spot_at kind at) p w ≡ true) (sym cut) (o.before (rest ++ after) n.kept);
        fits = n.fits;
        same_place = n.same_place;
      }

  -- the code point that is due has an edge without bytes, and no other
  pub due_edge : (d : ℕ) (next : Option ℕ) (left : Option (List ℕ)) (e : Edge) → IsIn e (character_edges t rules kind d next (state at (half left))) → e ≡ edge [] at (after_half left)
  due_edge d next left e i = by_kind (outside_edge_is t rules kind at d next (half left) e placed i)
    where
      by_kind : IsOutsideEdge t rules (spot_at kind at) at d next (half left) e → e ≡ edge [] at (after_half left)
      by_kind (chooses k j is) = is ∙ ap (kept_at at) (only k (choice [] (after_half left)) j)
      by_kind (opens o j) = absurd (let h = o.whole in cc)

  pair_more : (c d : ℕ) (cs : List ℕ) (p : Pending) (k : Choice) (b rest : List ℕ) → next_of cs ≡ Some d → Skipped cs → WritesTwo t rules (spot_at kind at) c d p k → b ≡ k.bytes ++ rest → Way t rules kind cs (state at k.to) rest to → SpelledAfter t rules kind at to after (c ∷ cs) p b
  pair_more c d [] p k b rest n skip o is w = absurd (cc)
  pair_more c d (f ∷ cs) p k b rest n skip o is w = by_way (subst (λ q. Way t rules kind (f ∷ cs) (state at q) rest to) o.to_is w)
    where
      by_way : Way t rules kind (f ∷ cs) (state at (half o.left)) rest to → SpelledAfter t rules kind at to after (c ∷ f ∷ cs) p b
      by_way (e, i, (rest', is', w')) =
          let here = due_edge f (next_of cs) o.left e i in
          let left : rest ≡ rest' = is' ∙ ap (λ x. x.bytes ++ rest') here in
          let more = skip (after_half o.left) rest' o.fits (subst (λ x. Way t rules kind cs x.to rest' to) here w') in
          let same : d ≡ f = cc in
          subst (λ x. SpelledAfter t rules kind at to after (c ∷ x ∷ cs) p b) same (two_more c d p k cs b rest' o (is ∙ ap (λ x. k.bytes ++ x) left) more)

  -- ---- sections

  inside_more : (front : List ℕ) (c : ℕ) (cs : List ℕ) (p : Pending) (b rest : List ℕ) (e : Edge) → So cs → at ≡ outside → GoesOn rules.ascii c p → IsSectionEdge front c cs p e → b ≡ e.bytes ++ rest → Way t rules kind cs e.to rest to
      → InsideAfter t rules kind at to after front (c ∷ cs) p b
  inside_more front c cs p b rest e s here g (closes same) is w = record {
    tail = encode_utf8 c ++ (codes "]]>" ++ rest);
    is = is ∙ ap (λ x. x.bytes ++ rest) same ∙ append_assoc front (encode_utf8 c ++ codes "]]>") rest ∙ ap (λ x. front ++ x) (append_assoc (encode_utf8 c) (codes "]]>") rest);
    inside = record {
      points = c ∷ [];
      others = cs;
      rest = rest;
      cut = refl;
      some = refl;
      written = rw g.written refl;
      unmarked = mark_step c p [] ∙ rw (g.unclosed, unended (in_section_after c p)) refl;
      whole = ap (λ x. x ++ (codes "]]>" ++ rest)) (sym (append-nil (encode_utf8 c)));
      later = s.from_outside nothing rest tt (subst (λ a. Way t rules kind cs (state a nothing) rest to) (sym here) (subst (λ x. Way t rules kind cs x.to rest to) same w));
    };
  }
  inside_more front c cs p b rest e s here g (goes_on some same) is w =
      let m = s.from_inside here (in_section_after c p) rest some (subst (λ x. Way t rules kind cs x.to rest to) same w) in
      record {
        tail = encode_utf8 c ++ rest;
        is = is ∙ ap (λ x. x.bytes ++ rest) same ∙ append_assoc front (encode_utf8 c) rest;
        inside = record {
          points = c ∷ m.points;
          others = m.others;
          rest = m.rest;
          cut = ap (λ x. c ∷ x) m.cut;
          some = refl;
          written = and_from (is_writable rules.ascii c) (all_pass (is_writable rules.ascii) m.points) g.written m.written;
          unmarked = mark_step c p m.points ∙ rw (g.unclosed, m.unmarked) refl;
          whole = ap (λ x. encode_utf8 c ++ x) m.whole ∙ sym (append_assoc (encode_utf8 c) (encode_utf8_all m.points) (codes "]]>" ++ m.rest));
          later = m.later;
        };
      }

  good_section : (points : List ℕ) → not (is_null points) ≡ true → all_pass (is_writable rules.ascii) points ≡ true → has_mark (codes "]]>") points ≡ false → is_section rules.ascii points ≡ true
  unfolding is_section
  good_section points some written unmarked = rw (some, written, unmarked) refl

  -- a section before the others
  opened : (c : ℕ) (cs : List ℕ) (p : Pending) (b : List ℕ) → is_foreign (spot_at kind at) ≡ true → Fits t (spot_at kind at) p → InsideAfter t rules kind at to after (codes "<![CDATA[") (c ∷ cs) nothing b → SpelledAfter t rules kind at to after (c ∷ cs) p b
  opened c cs p b here f m =
      let i = m.inside in
      let cut : b ≡ codes "<![CDATA[" ++ ((encode_utf8_all i.points ++ codes "]]>") ++ i.rest) = m.is ∙ ap (λ x. codes "<![CDATA[" ++ x) (i.whole ∙ sym (append_assoc (encode_utf8_all i.points) (codes "]]>") i.rest)) in
      record {
        spells = subst (λ x. SpellsPoints t rules (spot_at kind at) x b after) (sym i.cut)
            (add_piece t rules kind at (section i.points) i.others b i.rest after (here, good_section i.points i.some i.written i.unmarked) cut i.later.spells);
        kept = subst (λ w. keeps t (spot_at kind at) p (w ++ after) ≡ true) (sym m.is) (markup_law t table (spot_at kind at) p (codes "![CDATA[" ++ (m.tail ++ after)) (foreign_text (spot_at kind at) here) f);
        fits = i.later.fits;
        same_place = i.later.same_place;
      }

  -- ---- by the code points

  step : (c : ℕ) (cs : List ℕ) → So cs → Skipped cs → So (c ∷ cs)
  step c cs s skip = record { from_outside = outer; from_inside = inner }
    where
      outer : AllOutside (c ∷ cs)
      outer p b f (e, i, (rest, is, w)) = by_kind (outside_edge_is t rules kind at c (next_of cs) p e placed i)
        where
          by_writes : (k : Choice) → b ≡ k.bytes ++ rest → Way t rules kind cs (state at k.to) rest to → Writes t rules (spot_at kind at) c (next_of cs) p k → SpelledAfter t rules kind at to after (c ∷ cs) p b
          by_writes k is' w' (inl o) = one_more c p k cs b rest o is' (s.from_outside k.to rest o.fits w')
          by_writes k is' w' (inr (d, n, o)) = pair_more c d cs p k b rest n skip o is' w'

          by_kind : IsOutsideEdge t rules (spot_at kind at) at c (next_of cs) p e → SpelledAfter t rules kind at to after (c ∷ cs) p b
          by_kind (chooses k j same) = by_writes k (is ∙ ap (λ x. x.bytes ++ rest) same) (subst (λ x. Way t rules kind cs x.to rest to) same w) (choice_writes t table rules (spot_at kind at) c (next_of cs) p f k j)
          by_kind (opens o j) =
              opened c cs p b o.is_here f
              (inside_more (codes "<![CDATA[") c cs nothing b rest e s (outside_at at o.is_outside) (record { written = o.written; unclosed = refl }) (section_edge_is (codes "<![CDATA[") c cs nothing e j) is w)

      inner : AllInside (c ∷ cs)
      inner here p b some (e, i, (rest, is, w)) =
          let g = section_edges_are rules.ascii c (next_of cs) p e i in
          let m = inside_more [] c cs p b rest e s here g.0 (section_edge_is [] c cs p e g.1) is w in
          subst (λ x. Inside t rules kind at to after (c ∷ cs) p x) (sym m.is) m.inside

  module _ (kept : keeps_at t kind to after ≡ true) where
    ends : AllOutside []
    ends p b f (e, is) = record {
      spells = record { pieces = []; whole = sym e; means = refl; allowed = tt };
      kept = subst (λ w. keeps t (spot_at kind at) p (w ++ after) ≡ true) (sym e) (subst (λ s. keeps_at t kind s after ≡ true) (sym is) kept);
      fits = subst (λ s. Fits t (spot_at kind at) s.pending) is f;
      same_place = ap (λ s. s.at) (sym is);
    }

    all : (cs : List ℕ) → So cs
    all [] = record { from_outside = ends; from_inside = λ here p b some w. absurd (cc) }
    all (c ∷ []) = step c [] (all []) tt
    all (c ∷ d ∷ cs) = step c (d ∷ cs) (all (d ∷ cs)) (let s = all cs in s.from_outside)

pub ways_spell : WaysSpell
ways_spell t table rules es h kind cs from to b after stands w kept =
    let s = all t table rules kind from.at to after (place_open kind from.at stands.place) kept cs in
    let r = s.from_outside from.pending b stands.fits (of_units t rules es h kind cs from b to w) in
    record {
      spells = r.spells;
      kept = r.kept;
      ends = record { place = subst (λ a. stands_at kind a ≡ true) (sym r.same_place) stands.place; fits = subst (λ a. Fits t (spot_at kind a) to.pending) (sym r.same_place) r.fits };
      same_place = r.same_place;
    }
