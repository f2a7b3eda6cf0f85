-- Each spelling has a way (path through the layered graph) with no more bytes, event by event.
use Rattle.std.proofs.Common.{◌≡◌, ℕ, ◌≤◌, Bool, true, false, cond, not, ◌&&◌, List, [], ◌∷◌, ◌++◌, length, Some, None, codes, refl, sym, ap, ◌∙◌, subst, arith, length-append}
use Rattle.std.proofs.lemmas.Bool.{both_ways, or_parts, or_right}
use Rattle.hm_graph_laws.proofs.AttributeWays.{spellings_have_tags}
use Rattle.hm_graph_laws.specs.AttributeLaws.{tag_units}
use Rattle.hm_base.specs.Walks.{Attribute, Event, doctype, start, text, comment, end, Element, begins_end}
use Rattle.hm_elements.specs.Paths.{current, outer}
use Rattle.hm_elements.specs.Tables.{is_void}
use Rattle.hm_graph_laws.specs.UnitEdges.{edges_of}
use Rattle.hm_graph_laws.specs.Ways.{Way}
use Rattle.hm_refs.specs.Tables.{first, IsIn, IsTable}
use Rattle.hm_spelling_spec.specs.Omission.{bars, end_falls, has_none, may_omit_end, start_falls}
use Rattle.hm_spelling_spec.specs.Spellings as forms
use Rattle.hm_spelling_spec.specs.Spellings.{Before, after_end, after_start, end_omitted, EndForm, EndSp, has_no_end_tag, is_self_closing, left_out_before, opening, other, self_closing, SpellsFrom, spot_of, StartForm, StartSp}
use Rattle.hm_spelling_spec.specs.Tags.{Spelling, SpellsStart}
use Rattle.hm_graph_laws.specs.TagEdges.{after_left_out, end_bytes, is_self_closed, start_bytes, omission_forgotten}
use Rattle.hm_graph_laws.specs.Edges.{edge_to}
use Rattle.hm_graph_laws.specs.States.{Where, outside, after_omitted_end, self_closed, Pending, nothing, State, first_state, state}
use Rattle.hm_graph_laws.specs.Steps.{keeps}
use Rattle.hm_graph_laws.specs.Units.{doctype_bytes, end_tag, is_required_after_omission, is_omission_noted, may_close_itself, Previous, start_tag, text_units, Unit, units_from}
use Rattle.hm_optimality_laws.specs.SpellingLaws.{HasWay}
use Rattle.hm_optimality_laws.proofs.Between.{Agrees, after_text, end_in_text, end_left, omission_noted, end_void, fresh, start_closed, start_left, text_outside}
use Rattle.hm_optimality_laws.proofs.Cuts.{joined}
use Rattle.hm_optimality_laws.proofs.Markup.{leaves_end, leaves_start}
use Rattle.hm_optimality_laws.proofs.Order.{element, EndFits, InOrder, StartFits}
use Rattle.hm_optimality_laws.proofs.Spots.{same_kept}
use Rattle.hm_optimality_laws.proofs.Tables.{end_open, start_open, void_plain}
use Rattle.hm_optimality_laws.proofs.TagEdges.{into_closed, into_end_left_out, into_end_written, into_left_out, into_slashed, into_written, slashed_bytes}
use Rattle.hm_optimality_laws.proofs.Texts.{tag_edges}
use Rattle.hm_optimality_laws.proofs.TextWays.{text_way}
use Rattle.hm_optimality_laws.proofs.Written.{doctype_short, end_short, slashed_short, start_short}

-- a way with no more bytes than b
record Found (g : Spelling) (previous : Previous) (path : List Element) (s : State) (w : List Event) (b : List ℕ) : Type 0 where
  bytes : List ℕ
  way : Way (edges_of g) (units_from g.rules previous path w) s bytes
  short : length bytes ≤ length b

abbrev More : Spelling → List Event → Type 0
More g w = (before : Before) (previous : Previous) (path : List Element) (at : Where) (p : Pending) (b : List ℕ) → Agrees g.table before previous path at p w → InOrder path w → SpellsFrom g before path w b → keeps g.table (spot_of path) p b ≡ true
    → Found g previous path (state at p) w b

-- an edge before a way
record Through (g : Spelling) (unit : Unit) (units : List Unit) (from : State) (b : List ℕ) : Type 0 where
  bytes : List ℕ
  way : Way (edges_of g) (unit ∷ units) from bytes
  short : length bytes ≤ length b

module _ (g : Spelling) (table : IsTable g.table) where
  through : (unit : Unit) (units : List Unit) (from to : State) (front : List ℕ) (more b piece rest : List ℕ) → IsIn (edge_to front to) (edges_of g unit from) → length front ≤ length piece → b ≡ piece ++ rest → Way (edges_of g) units to more → length more ≤ length rest → Through g unit units from b
  through unit units from to front more b piece rest i short is way le = record {
    bytes = front ++ more;
    way = (edge_to front to, i, (more, refl, way));
    short = omega (arith, short, le, ap length is, length-append front more, length-append piece rest);
  }

  doctype_case : (w : List Event) → More g w → (legacy : Bool) → More g (doctype legacy ∷ w)
  doctype_case w more legacy before previous path at p b a o (piece, rest, is, d, s) k =
      let m = more other (Some (doctype legacy)) path outside nothing rest (fresh g.table other (Some (doctype legacy)) path w refl refl refl) o s refl in
      let t = through (Unit.fixed (doctype_bytes legacy)) (units_from g.rules (Some (doctype legacy)) path w) (state at p) first_state (doctype_bytes legacy) m.bytes b piece rest (first []) (doctype_short legacy piece d) is m.way m.short in
      record { bytes = t.bytes; way = t.way; short = t.short }

  comment_case : (w : List Event) → More g w → (c : List ℕ) → More g (comment c ∷ w)
  comment_case w more c before previous path at p b a o (rest, is, s) k =
      let m = more other (Some (comment c)) path outside nothing rest (fresh g.table other (Some (comment c)) path w refl refl refl) o s refl in
      let front = codes "<!--" ++ (c ++ codes "-->") in
      record {
        bytes = front ++ m.bytes;
        way = (edge_to front first_state, first [], (m.bytes, refl, m.way));
        short = omega (arith, m.short, ap length is, length-append front m.bytes, length-append c (codes "-->"), length-append c (codes "-->" ++ rest));
      }

  text_case : (w : List Event) → More g w → (c : List ℕ) (raw : Bool) → More g (text c raw ∷ w)
  text_case w more c raw before previous path at p b a (f, o) (piece, rest, is, t, s) k =
      let here = text_outside path w c raw at a.place in
      subst (λ x. Found g previous path (state x p) (text c raw ∷ w) b) (sym here) (at_outside (subst (λ x. Agrees g.table before previous path x p (text c raw ∷ w)) here a))
    where
      at_outside : Agrees g.table before previous path outside p (text c raw ∷ w) → Found g previous path (state outside p) (text c raw ∷ w) b
      at_outside a =
          let r = text_way g table before previous path c raw w p piece rest a t (subst (λ x. keeps g.table (spot_of path) p x ≡ true) is k) in
          let m = more other (Some (text c raw)) path r.to.at r.to.pending rest (after_text g.table path w c raw r.to.at r.to.pending r.there r.fits f.alone) o s r.kept in
          record {
            bytes = r.bytes ++ m.bytes;
            way = joined (edges_of g) (text_units previous path c raw) (units_from g.rules (Some (text c raw)) path w) (state outside p) r.to r.bytes m.bytes r.way m.way;
            short = omega (arith, r.short, m.short, ap length is, length-append r.bytes m.bytes, length-append piece rest);
          }

  -- ---- starts

  no_attributes : (attributes : List Attribute) → has_none attributes ≡ true → attributes ≡ []
  no_attributes [] h = refl
  no_attributes (a ∷ attributes) h = absurd (cc)

  start_omitted : (w : List Event) → More g w → (n : List ℕ) (foreign : Bool) (attributes : List Attribute) (before : Before) (previous : Previous) (path : List Element) (at : Where) (p : Pending) (b : List ℕ)
      → foreign ≡ false → attributes ≡ [] → g.rules.omit ≡ true → bars (left_out_before before) n ≡ false → start_falls g.rules.frame n w ≡ true
      → Agrees g.table before previous path at p (start n foreign attributes ∷ w) → StartFits n foreign attributes path → InOrder (element n foreign ∷ path) w → SpellsFrom g (after_start foreign forms.omitted) (element n foreign ∷ path) w b → keeps g.table (spot_of path) p b ≡ true
      → Found g previous path (state at p) (start n foreign attributes ∷ w) b
  start_omitted w more n true attributes before previous path at p b kind none omits free falls a f o s k = absurd (cc)
  start_omitted w more n false (x ∷ attributes) before previous path at p b kind none omits free falls a f o s k = absurd (cc)
  start_omitted w more n false [] before previous path at p b kind none omits free falls a f o s k =
      let opens = start_open g.rules.frame n w falls in
      let m = more opening (Some (start n false [])) (element n false ∷ path) (omission_forgotten at) p b (start_left g.table before previous path at p n [] w opens a) o s (same_kept g.table (element n false ∷ path) path p b opens.no_text f.placed.around k) in
      let may : g.rules.omit && (not false && start_falls g.rules.frame n w) ≡ true = rw (omits, falls) refl in
      let t = through (start_tag n (g.rules.omit && (not false && start_falls g.rules.frame n w)) (is_required_after_omission previous n) (may_close_itself false w)) (units_from g.rules (Some (start n false [])) (element n false ∷ path) w) (state at p) (state (omission_forgotten at) p) [] m.bytes b [] b
      (into_left_out n (g.rules.omit && (not false && start_falls g.rules.frame n w)) (is_required_after_omission previous n) (may_close_itself false w) (state at p) may (sym (a.barred n) ∙ free)) (omega arith) refl m.way m.short in
      record { bytes = t.bytes; way = t.way; short = t.short }

  -- with or without a '/' that says nothing
  start_written : (w : List Event) → More g w → (n : List ℕ) (foreign : Bool) (attributes : List Attribute) (slash : Bool) (before : Before) (previous : Previous) (path : List Element) (at : Where) (p : Pending) (b piece rest : List ℕ)
      → InOrder (element n foreign ∷ path) w → b ≡ piece ++ rest → SpellsStart g n attributes slash piece rest → SpellsFrom g opening (element n foreign ∷ path) w rest → Found g previous path (state at p) (start n foreign attributes ∷ w) b
  start_written w more n foreign [] slash before previous path at p b piece rest o is s more_spells =
      let m = more opening (Some (start n foreign [])) (element n foreign ∷ path) outside nothing rest (fresh g.table opening (Some (start n foreign [])) (element n foreign ∷ path) w refl refl refl) o more_spells refl in
      let t = through (start_tag n (g.rules.omit && (not foreign && start_falls g.rules.frame n w)) (is_required_after_omission previous n) (may_close_itself foreign w)) (units_from g.rules (Some (start n foreign [])) (element n foreign ∷ path) w) (state at p) first_state (start_bytes n) m.bytes b piece rest
      (into_written n (g.rules.omit && (not foreign && start_falls g.rules.frame n w)) (is_required_after_omission previous n) (may_close_itself foreign w) (state at p)) (start_short g n [] slash piece rest s) is m.way m.short in
      record { bytes = t.bytes; way = t.way; short = t.short }
  start_written w more n foreign (x ∷ attributes) slash before previous path at p b piece rest o is s more_spells =
      let m = more opening (Some (start n foreign (x ∷ attributes))) (element n foreign ∷ path) outside nothing rest (fresh g.table opening (Some (start n foreign (x ∷ attributes))) (element n foreign ∷ path) w refl refl refl) o more_spells refl in
      let t = spellings_have_tags g table (edges_of g) (tag_edges g) n (x ∷ attributes) (may_close_itself foreign w) slash false (state at p) piece rest s (λ h. absurd (cc)) in
      record {
        bytes = t.bytes ++ m.bytes;
        way = joined (edges_of g) (tag_units n (x ∷ attributes) (may_close_itself foreign w)) (units_from g.rules (Some (start n foreign (x ∷ attributes))) (element n foreign ∷ path) w) (state at p) first_state t.bytes m.bytes t.way m.way;
        short = omega (arith, t.short, m.short, ap length is, length-append t.bytes m.bytes, length-append piece rest);
      }

  start_slashed : (w : List Event) → More g w → (n : List ℕ) (attributes : List Attribute) (before : Before) (previous : Previous) (path : List Element) (at : Where) (p : Pending) (b piece rest : List ℕ)
      → InOrder (element n true ∷ path) w → begins_end w ≡ true → b ≡ piece ++ rest → SpellsStart g n attributes true piece rest → SpellsFrom g self_closing (element n true ∷ path) w rest → Found g previous path (state at p) (start n true attributes ∷ w) b
  start_slashed w more n [] before previous path at p b piece rest o e is s more_spells =
      let m = more self_closing (Some (start n true [])) (element n true ∷ path) self_closed nothing rest (start_closed g.table path n [] w e) o more_spells refl in
      let t = through (start_tag n (g.rules.omit && (not true && start_falls g.rules.frame n w)) (is_required_after_omission previous n) (may_close_itself true w)) (units_from g.rules (Some (start n true [])) (element n true ∷ path) w) (state at p) (state self_closed nothing) (slashed_bytes n) m.bytes b piece rest
      (into_slashed n (g.rules.omit && (not true && start_falls g.rules.frame n w)) (is_required_after_omission previous n) (may_close_itself true w) (state at p) e) (slashed_short g n [] piece rest s) is m.way m.short in
      record { bytes = t.bytes; way = t.way; short = t.short }
  start_slashed w more n (x ∷ attributes) before previous path at p b piece rest o e is s more_spells =
      let m = more self_closing (Some (start n true (x ∷ attributes))) (element n true ∷ path) self_closed nothing rest (start_closed g.table path n (x ∷ attributes) w e) o more_spells refl in
      let t = spellings_have_tags g table (edges_of g) (tag_edges g) n (x ∷ attributes) (may_close_itself true w) true true (state at p) piece rest s (λ h. (refl, e)) in
      record {
        bytes = t.bytes ++ m.bytes;
        way = joined (edges_of g) (tag_units n (x ∷ attributes) (may_close_itself true w)) (units_from g.rules (Some (start n true (x ∷ attributes))) (element n true ∷ path) w) (state at p) (state self_closed nothing) t.bytes m.bytes t.way m.way;
        short = omega (arith, t.short, m.short, ap length is, length-append t.bytes m.bytes, length-append piece rest);
      }

  written_after : (foreign : Bool) → after_start foreign forms.written ≡ opening
  written_after true = refl
  written_after false = refl

  start_case : (w : List Event) → More g w → (n : List ℕ) (foreign : Bool) (attributes : List Attribute) → More g (start n foreign attributes ∷ w)
  start_case w more n foreign attributes before previous path at p b a (f, o) (forms.omitted, piece, rest, is, s, more_spells) k =
      let l = leaves_start g.rules (left_out_before before) n foreign attributes w s.1 in
      let same : b ≡ rest = is ∙ ap (λ x. x ++ rest) s.0 in
      start_omitted w more n foreign attributes before previous path at p b l.kind (no_attributes attributes l.bare) l.omits l.free l.falls a f o (subst (λ x. SpellsFrom g (after_start foreign forms.omitted) (element n foreign ∷ path) w x) (sym same) more_spells) k
  start_case w more n foreign attributes before previous path at p b a (f, o) (forms.written, piece, rest, is, s, more_spells) k =
      start_written w more n foreign attributes false before previous path at p b piece rest o is s (subst (λ x. SpellsFrom g x (element n foreign ∷ path) w rest) (written_after foreign) more_spells)
  start_case w more n true attributes before previous path at p b a (f, o) (forms.slashed, piece, rest, is, (e, s), more_spells) k = start_slashed w more n attributes before previous path at p b piece rest o e is s more_spells
  start_case w more n false attributes before previous path at p b a (f, o) (forms.slashed, piece, rest, is, (e, s), more_spells) k = start_written w more n false attributes true before previous path at p b piece rest o is s more_spells

  -- ---- ends

  -- where an end tag may stand, the units have one
  with_end : (w : List Event) (n : List ℕ) (foreign : Bool) (previous : Previous) (path : List Element) (s : State) (b : List ℕ) → not foreign && is_void n ≡ false → Through g (end_tag n (may_omit_end g.rules n foreign (outer path) w) (is_omission_noted n)) (units_from g.rules (Some (end n foreign)) (outer path) w) s b
      → Found g previous path s (end n foreign ∷ w) b
  with_end w n foreign previous path s b v t = record {
    bytes = t.bytes;
    way = subst (λ c. Way (edges_of g) (cond c [] (end_tag n (may_omit_end g.rules n foreign (outer path) w) (is_omission_noted n) ∷ []) ++ units_from g.rules (Some (end n foreign)) (outer path) w) s t.bytes) (sym v) t.way;
    short = t.short;
  }

  end_void_way : (w : List Event) → More g w → (n : List ℕ) (foreign : Bool) (before : Before) (previous : Previous) (path : List Element) (at : Where) (p : Pending) (b : List ℕ) → not foreign && is_void n ≡ true
      → Agrees g.table before previous path at p (end n foreign ∷ w) → EndFits n foreign path → InOrder (outer path) w → SpellsFrom g other (outer path) w b → keeps g.table (spot_of path) p b ≡ true → Found g previous path (state at p) (end n foreign ∷ w) b
  end_void_way w more n true before previous path at p b v a f o s k = absurd (cc)
  end_void_way w more n false before previous path at p b v a f o s k =
      let m = more other (Some (end n false)) (outer path) at p b (end_void g.table before previous path at p n w f v a) o s (same_kept g.table (outer path) path p b f.placed.around (end_in_text n path f (void_plain n v).1) k) in
      record {
        bytes = m.bytes;
        way = subst (λ c. Way (edges_of g) (cond c [] (end_tag n (may_omit_end g.rules n false (outer path) w) (is_omission_noted n) ∷ []) ++ units_from g.rules (Some (end n false)) (outer path) w) (state at p) m.bytes) (sym v) m.way;
        short = m.short;
      }

  end_self : (w : List Event) → More g w → (n : List ℕ) (foreign : Bool) (before : Before) (previous : Previous) (path : List Element) (at : Where) (p : Pending) (b : List ℕ) → not foreign && is_void n ≡ false → is_self_closed at ≡ true
      → InOrder (outer path) w → SpellsFrom g other (outer path) w b → Found g previous path (state at p) (end n foreign ∷ w) b
  end_self w more n foreign before previous path at p b v c o s =
      let m = more other (Some (end n foreign)) (outer path) outside nothing b (fresh g.table other (Some (end n foreign)) (outer path) w refl refl refl) o s refl in
      with_end w n foreign previous path (state at p) b v
      (through (end_tag n (may_omit_end g.rules n foreign (outer path) w) (is_omission_noted n)) (units_from g.rules (Some (end n foreign)) (outer path) w) (state at p) first_state [] m.bytes b [] b (into_closed n (may_omit_end g.rules n foreign (outer path) w) (is_omission_noted n) (state at p) c) (omega arith) refl m.way m.short)

  -- the way after an end tag that is left out
  record FoundAfter (n : List ℕ) (path : List Element) (to : State) (w : List Event) (b : List ℕ) : Type 0 where
    bytes : List ℕ
    way : Way (edges_of g) (units_from g.rules (Some (end n false)) (outer path) w) to bytes
    short : length bytes ≤ length b

  end_after : (w : List Event) → More g w → (n : List ℕ) (before : Before) (previous : Previous) (path : List Element) (at : Where) (p : Pending) (b : List ℕ) → is_self_closed at ≡ false → end_falls n (current (outer path)) w ≡ true
      → Agrees g.table before previous path at p (end n false ∷ w) → EndFits n false path → InOrder (outer path) w → SpellsFrom g (end_omitted n) (outer path) w b → keeps g.table (spot_of path) p b ≡ true → (l : Bool) → is_omission_noted n ≡ l → FoundAfter n path (after_left_out l (state at p)) w b
  end_after w more n before previous path at p b c falls a f o s k true l =
      let m = more (end_omitted n) (Some (end n false)) (outer path) after_omitted_end nothing b (omission_noted g.table path n w f l falls) o s refl in
      record { bytes = m.bytes; way = m.way; short = m.short }
  end_after w more n before previous path at p b c falls a f o s k false l =
      let m = more (end_omitted n) (Some (end n false)) (outer path) at p b (end_left g.table before previous path at p n w f l c falls a) o s (same_kept g.table (outer path) path p b f.placed.around (end_in_text n path f (end_open n (current (outer path)) w falls)) k) in
      record { bytes = m.bytes; way = m.way; short = m.short }

  end_omits : (w : List Event) → More g w → (n : List ℕ) (foreign : Bool) (before : Before) (previous : Previous) (path : List Element) (at : Where) (p : Pending) (b : List ℕ) → not foreign && is_void n ≡ false → is_self_closed at ≡ false → may_omit_end g.rules n foreign (outer path) w ≡ true
      → Agrees g.table before previous path at p (end n foreign ∷ w) → EndFits n foreign path → InOrder (outer path) w → SpellsFrom g (end_omitted n) (outer path) w b → keeps g.table (spot_of path) p b ≡ true → Found g previous path (state at p) (end n foreign ∷ w) b
  end_omits w more n true before previous path at p b v c may a f o s k = absurd (let l = (leaves_end g.rules n true (outer path) w may).kind in cc)
  end_omits w more n false before previous path at p b v c may a f o s k =
      let m = end_after w more n before previous path at p b c (leaves_end g.rules n false (outer path) w may).falls a f o s k (is_omission_noted n) refl in
      with_end w n false previous path (state at p) b v
      (through (end_tag n (may_omit_end g.rules n false (outer path) w) (is_omission_noted n)) (units_from g.rules (Some (end n false)) (outer path) w) (state at p) (after_left_out (is_omission_noted n) (state at p)) [] m.bytes b [] b
      (into_end_left_out n (may_omit_end g.rules n false (outer path) w) (is_omission_noted n) (state at p) c may) (omega arith) refl m.way m.short)

  end_written : (w : List Event) → More g w → (n : List ℕ) (foreign : Bool) (before : Before) (previous : Previous) (path : List Element) (at : Where) (p : Pending) (b piece rest : List ℕ) → not foreign && is_void n ≡ false → is_self_closed at ≡ false
      → InOrder (outer path) w → b ≡ piece ++ rest → length (end_bytes n) ≤ length piece → SpellsFrom g other (outer path) w rest → Found g previous path (state at p) (end n foreign ∷ w) b
  end_written w more n foreign before previous path at p b piece rest v c o is short s =
      let m = more other (Some (end n foreign)) (outer path) outside nothing rest (fresh g.table other (Some (end n foreign)) (outer path) w refl refl refl) o s refl in
      with_end w n foreign previous path (state at p) b v
      (through (end_tag n (may_omit_end g.rules n foreign (outer path) w) (is_omission_noted n)) (units_from g.rules (Some (end n foreign)) (outer path) w) (state at p) first_state (end_bytes n) m.bytes b piece rest (into_end_written n (may_omit_end g.rules n foreign (outer path) w) (is_omission_noted n) (state at p) c) short is m.way m.short)

  end_case : (w : List Event) → More g w → (n : List ℕ) (foreign : Bool) → More g (end n foreign ∷ w)
  end_case w more n foreign before previous path at p b a (f, o) (form, piece, rest, is, s, more_spells) k = by_form form s more_spells (not foreign && is_void n) refl (is_self_closed at) refl
    where
      none : (P : Type 0) → not foreign && is_void n ≡ true → has_no_end_tag before n foreign ≡ false → P
      none P v h = absurd (both_ways (has_no_end_tag before n foreign) h (or_right (is_self_closing before) (not foreign && is_void n) v))

      open_at : has_no_end_tag before n foreign ≡ false → is_self_closed at ≡ false
      open_at h = sym a.self ∙ (or_parts (is_self_closing before) (not foreign && is_void n) h).0

      same : piece ≡ [] → b ≡ rest
      same e = is ∙ ap (λ x. x ++ rest) e

      by_form : (form : EndForm) → EndSp g before n foreign (outer path) w form piece → SpellsFrom g (after_end n form) (outer path) w rest → (v : Bool) → not foreign && is_void n ≡ v → (c : Bool) → is_self_closed at ≡ c → Found g previous path (state at p) (end n foreign ∷ w) b
      by_form forms.absent (e, h) m true v c hc = end_void_way w more n foreign before previous path at p b v a f o (subst (λ x. SpellsFrom g other (outer path) w x) (sym (same e)) m) k
      by_form forms.absent (e, h) m false v true hc = end_self w more n foreign before previous path at p b v hc o (subst (λ x. SpellsFrom g other (outer path) w x) (sym (same e)) m)
      by_form forms.absent (e, h) m false v false hc = absurd (both_ways (has_no_end_tag before n foreign) (rw (a.self, hc, v) refl) h)
      by_form forms.omitted (e, h, may) m true v c hc = none _ v h
      by_form forms.omitted (e, h, may) m false v c hc = end_omits w more n foreign before previous path at p b v (open_at h) may a f o (subst (λ x. SpellsFrom g (end_omitted n) (outer path) w x) (sym (same e)) m) k
      by_form forms.written (h, e) m true v c hc = none _ v h
      by_form forms.written (h, e) m false v c hc = end_written w more n foreign before previous path at p b piece rest v (open_at h) o is (end_short n piece e) m

  -- ---- all events

  found : (w : List Event) → More g w
  found [] before previous path at p b a o is k = record { bytes = []; way = refl; short = omega arith }
  found (doctype legacy ∷ w) before previous path at p b a o s k = doctype_case w (found w) legacy before previous path at p b a o s k
  found (comment c ∷ w) before previous path at p b a o s k = comment_case w (found w) c before previous path at p b a o s k
  found (text c raw ∷ w) before previous path at p b a o s k = text_case w (found w) c raw before previous path at p b a o s k
  found (start n foreign attributes ∷ w) before previous path at p b a o s k = start_case w (found w) n foreign attributes before previous path at p b a o s k
  found (end n foreign ∷ w) before previous path at p b a o s k = end_case w (found w) n foreign before previous path at p b a o s k

  pub spelling_way : (w : List Event) → InOrder [] w → (b : List ℕ) → SpellsFrom g other [] w b → HasWay g w b
  spelling_way w o b s = let f = found w other None [] outside nothing b (fresh g.table other None [] w refl refl refl) o s refl in record { bytes = f.bytes; way = f.way; short = f.short }
