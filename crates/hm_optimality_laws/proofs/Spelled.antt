-- The bytes of each way (path through the layered graph) are a spelling, event by event.
use Rattle.std.proofs.Common.{◌≡◌, ℕ, Bool, true, false, cond, not, ◌&&◌, List, [], ◌∷◌, ◌++◌, Some, None, codes, refl, sym, ap, ◌∙◌, subst, append_assoc}
use Rattle.std.proofs.lemmas.Bool.{and_parts, or_left, or_right}
use Rattle.hm_graph_laws.proofs.AttributesSpelled.{tags_spell}
use Rattle.hm_graph_laws.specs.AttributeLaws.{state_after_tag, tag_units}
use Rattle.hm_base.specs.Walks.{Attribute, Event, doctype, start, text, comment, end, Element, begins_end}
use Rattle.hm_elements.specs.Paths.{current, outer}
use Rattle.hm_elements.specs.Tables.{is_void}
use Rattle.hm_graph_laws.specs.UnitEdges.{edges_of}
use Rattle.hm_graph_laws.specs.Ways.{Way}
use Rattle.hm_refs.specs.Tables.{IsTable}
use Rattle.hm_spelling_spec.specs.Omission.{may_omit_end, start_falls}
use Rattle.hm_spelling_spec.specs.Spellings as forms
use Rattle.hm_spelling_spec.specs.Spellings.{Before, after_end, end_omitted, has_no_end_tag, is_self_closing, left_out_before, opening, other, self_closing, SpellsFrom, spot_of}
use Rattle.hm_spelling_spec.specs.Tags.{Spelling, SpellsStart}
use Rattle.hm_graph_laws.specs.TagEdges.{after_left_out, end_bytes, is_after_omitted_end, is_self_closed, omission_forgotten}
use Rattle.hm_graph_laws.proofs.In.{only}
use Rattle.hm_graph_laws.specs.Edges.{edge_to}
use Rattle.hm_graph_laws.specs.States.{Where, outside, after_omitted_end, self_closed, Pending, nothing, first_state, state}
use Rattle.hm_graph_laws.specs.Steps.{Fits, keeps}
use Rattle.hm_graph_laws.specs.Units.{doctype_bytes, end_tag, is_required_after_omission, is_omission_noted, may_close_itself, Previous, text_units, units_from}
use Rattle.hm_optimality_laws.proofs.Between.{Agrees, after_text, end_in_text, end_left, omission_noted, end_void, fresh, start_closed, start_left, text_outside}
use Rattle.hm_optimality_laws.proofs.Cuts.{cut}
use Rattle.hm_optimality_laws.proofs.Markup.{doctype_markup, leaves_end, markup_front, markup_keeps, may_leave_start, table_markup}
use Rattle.hm_optimality_laws.proofs.Order.{element, EndFits, InOrder, StartFits}
use Rattle.hm_optimality_laws.proofs.Spots.{end_keeps, same_kept, text_spot}
use Rattle.hm_optimality_laws.proofs.Tables.{end_open, loose_goes, start_open, void_plain}
use Rattle.hm_optimality_laws.proofs.TagEdges.{closed, end_edge_is, IsEndEdge, IsStartEdge, leaves_out, slashed_bytes, slashes, start_edge_is, writes}
use Rattle.hm_optimality_laws.proofs.TagEdges as edges
use Rattle.hm_optimality_laws.proofs.Texts.{tag_edges, text_end, text_spell}
use Rattle.hm_optimality_laws.proofs.Written.{doctype_spelled, end_spelled, slashed_spelled, start_spelled}

-- a way's bytes spell the events, and keep what was pending
record Spells (g : Spelling) (before : Before) (path : List Element) (p : Pending) (w : List Event) (b : List ℕ) : Type 0 where
  spells : SpellsFrom g before path w b
  kept : keeps g.table (spot_of path) p b ≡ true

-- from outside of all, with nothing pending
abbrev More : Spelling → List Event → Type 0
More g w = (before : Before) (previous : Previous) (path : List Element) (at : Where) (p : Pending) (b : List ℕ) → Agrees g.table before previous path at p w → InOrder path w → Way (edges_of g) (units_from g.rules previous path w) (state at p) b → Spells g before path p w b

module _ (g : Spelling) (table : IsTable g.table) where
  doctype_case : (w : List Event) → More g w → (legacy : Bool) → More g (doctype legacy ∷ w)
  doctype_case w more legacy before previous path at p b a o (e, i, (rest, is, way)) =
      let same = only e (edge_to (doctype_bytes legacy) first_state) i in
      let whole : b ≡ doctype_bytes legacy ++ rest = is ∙ ap (λ x. x.bytes ++ rest) same in
      let m = more other (Some (doctype legacy)) path outside nothing rest (fresh g.table other (Some (doctype legacy)) path w refl refl refl) o (subst (λ x. Way (edges_of g) (units_from g.rules (Some (doctype legacy)) path w) x.to rest) same way) in
      record { spells = (doctype_bytes legacy, rest, whole, doctype_spelled legacy, m.spells); kept = markup_keeps g.table table path p b a.fits (markup_front b (doctype_bytes legacy) rest whole (doctype_markup legacy)) }

  comment_case : (w : List Event) → More g w → (s : List ℕ) → More g (comment s ∷ w)
  comment_case w more s before previous path at p b a o (e, i, (rest, is, way)) =
      let same = only e (edge_to (codes "<!--" ++ (s ++ codes "-->")) first_state) i in
      let whole : b ≡ codes "<!--" ++ (s ++ (codes "-->" ++ rest)) = is ∙ ap (λ x. x.bytes ++ rest) same ∙ ap (λ x. codes "<!--" ++ x) (append_assoc s (codes "-->") rest) in
      let m = more other (Some (comment s)) path outside nothing rest (fresh g.table other (Some (comment s)) path w refl refl refl) o (subst (λ x. Way (edges_of g) (units_from g.rules (Some (comment s)) path w) x.to rest) same way) in
      record { spells = (rest, whole, m.spells); kept = markup_keeps g.table table path p b a.fits (_, whole) }

  text_case : (w : List Event) → More g w → (s : List ℕ) (raw : Bool) → More g (text s raw ∷ w)
  text_case w more s raw before previous path at p b a (o, rest) way =
      let here = text_outside path w s raw at a.place in
      at_outside (subst (λ x. Agrees g.table before previous path x p (text s raw ∷ w)) here a) (subst (λ x. Way (edges_of g) (units_from g.rules previous path (text s raw ∷ w)) (state x p) b) here way)
    where
      at_outside : Agrees g.table before previous path outside p (text s raw ∷ w) → Way (edges_of g) (units_from g.rules previous path (text s raw ∷ w)) (state outside p) b → Spells g before path p (text s raw ∷ w) b
      at_outside a way =
          let c = cut (edges_of g) (text_units previous path s raw) (units_from g.rules (Some (text s raw)) path w) (state outside p) b way in
          let (there, fits) = text_end g table before previous path s raw w p c.front c.middle a c.before in
          let m = more other (Some (text s raw)) path c.middle.at c.middle.pending c.rest (after_text g.table path w s raw c.middle.at c.middle.pending there fits o.alone) rest c.after in
          let t = text_spell g table before previous path s raw w p c.front c.rest c.middle o.kind a c.before m.kept in
          record { spells = (c.front, c.rest, c.whole, t.spells, m.spells); kept = subst (λ x. keeps g.table (spot_of path) p x ≡ true) (sym c.whole) t.kept }

  -- ---- starts

  -- what is written begins with '<'
  start_kept : (path : List Element) (p : Pending) (n more b rest : List ℕ) → Fits g.table (spot_of path) p → b ≡ (60 ∷ more) ++ rest → keeps g.table (spot_of path) p b ≡ true
  start_kept path p n more b rest f is = markup_keeps g.table table path p b f (markup_front b (60 ∷ more) rest is (more, refl))

  start_omitted : (w : List Event) → More g w → (n : List ℕ) (attributes : List Attribute) (before : Before) (previous : Previous) (path : List Element) (at : Where) (p : Pending) (b : List ℕ) → attributes ≡ []
      → Agrees g.table before previous path at p (start n false attributes ∷ w) → StartFits n false attributes path → InOrder (element n false ∷ path) w → g.rules.omit ≡ true → start_falls g.rules.frame n w ≡ true → is_required_after_omission previous n && is_after_omitted_end at ≡ false
      → Way (edges_of g) (units_from g.rules (Some (start n false attributes)) (element n false ∷ path) w) (state (omission_forgotten at) p) b → Spells g before path p (start n false attributes ∷ w) b
  start_omitted w more n attributes before previous path at p b none a f o omits falls free way =
      let opens = start_open g.rules.frame n w falls in
      let m = more opening (Some (start n false attributes)) (element n false ∷ path) (omission_forgotten at) p b (start_left g.table before previous path at p n attributes w opens a) o way in
      record {
        spells = (forms.omitted, [], b, refl, (refl, may_leave_start g.rules (left_out_before before) n false attributes w (record { omits = omits; kind = refl; bare = rw none refl; free = a.barred n ∙ free; falls = falls })), m.spells);
        kept = same_kept g.table path (element n false ∷ path) p b f.placed.around opens.no_text m.kept;
      }

  start_written : (w : List Event) → More g w → (n : List ℕ) (foreign : Bool) (attributes : List Attribute) (before : Before) (previous : Previous) (path : List Element) (at : Where) (p : Pending) (b inner rest : List ℕ)
      → Agrees g.table before previous path at p (start n foreign attributes ∷ w) → InOrder (element n foreign ∷ path) w → b ≡ (60 ∷ inner) ++ rest → forms.StartSp g before n foreign attributes w forms.written (60 ∷ inner) rest
      → Way (edges_of g) (units_from g.rules (Some (start n foreign attributes)) (element n foreign ∷ path) w) first_state rest → Spells g before path p (start n foreign attributes ∷ w) b
  start_written w more n foreign attributes before previous path at p b inner rest a o is s way =
      let m = more opening (Some (start n foreign attributes)) (element n foreign ∷ path) outside nothing rest (fresh g.table opening (Some (start n foreign attributes)) (element n foreign ∷ path) w refl refl refl) o way in
      record {
        spells = (forms.written, 60 ∷ inner, rest, is, s, subst (λ x. SpellsFrom g x (element n foreign ∷ path) w rest) (by_kind foreign) m.spells);
        kept = start_kept path p n inner b rest a.fits is;
      }
    where
      by_kind : (f : Bool) → opening ≡ forms.after_start f forms.written
      by_kind true = refl
      by_kind false = refl

  start_slashed : (w : List Event) → More g w → (n : List ℕ) (attributes : List Attribute) (before : Before) (previous : Previous) (path : List Element) (at : Where) (p : Pending) (b inner rest : List ℕ)
      → Agrees g.table before previous path at p (start n true attributes ∷ w) → InOrder (element n true ∷ path) w → begins_end w ≡ true → b ≡ (60 ∷ inner) ++ rest → SpellsStart g n attributes true (60 ∷ inner) rest
      → Way (edges_of g) (units_from g.rules (Some (start n true attributes)) (element n true ∷ path) w) (state self_closed nothing) rest → Spells g before path p (start n true attributes ∷ w) b
  start_slashed w more n attributes before previous path at p b inner rest a o e is s way =
      let m = more self_closing (Some (start n true attributes)) (element n true ∷ path) self_closed nothing rest (start_closed g.table path n attributes w e) o way in
      record { spells = (forms.slashed, 60 ∷ inner, rest, is, (e, s), m.spells); kept = start_kept path p n inner b rest a.fits is }

  start_case : (w : List Event) → More g w → (n : List ℕ) (foreign : Bool) (attributes : List Attribute) → More g (start n foreign attributes ∷ w)
  start_case w more n foreign [] before previous path at p b a (f, o) (e, i, (rest, is, way)) = by_edge foreign a f o way (start_edge_is n _ (is_required_after_omission previous n) (may_close_itself foreign w) (state at p) e i)
    where
      by_edge : (foreign : Bool) → Agrees g.table before previous path at p (start n foreign [] ∷ w) → StartFits n foreign [] path → InOrder (element n foreign ∷ path) w → Way (edges_of g) (units_from g.rules (Some (start n foreign [])) (element n foreign ∷ path) w) e.to rest
          → IsStartEdge n (g.rules.omit && (not foreign && start_falls g.rules.frame n w)) (is_required_after_omission previous n) (may_close_itself foreign w) (state at p) e → Spells g before path p (start n foreign [] ∷ w) b
      by_edge false a f o way (edges.leaves_out omits free same) =
          let two = and_parts g.rules.omit (start_falls g.rules.frame n w) omits in
          start_omitted w more n [] before previous path at p b refl a f o two.0 two.1 free
          (subst (λ x. Way (edges_of g) (units_from g.rules (Some (start n false [])) (element n false ∷ path) w) (state (omission_forgotten at) p) x) (sym (is ∙ ap (λ x. x.bytes ++ rest) same))
          (subst (λ x. Way (edges_of g) (units_from g.rules (Some (start n false [])) (element n false ∷ path) w) x.to rest) same way))
      by_edge true a f o way (edges.leaves_out omits free same) = absurd (let two = and_parts g.rules.omit false omits in cc)
      by_edge foreign a f o way (edges.writes same) =
          start_written w more n foreign [] before previous path at p b (n ++ codes ">") rest a o (is ∙ ap (λ x. x.bytes ++ rest) same) (start_spelled g n rest f.placed.low)
          (subst (λ x. Way (edges_of g) (units_from g.rules (Some (start n foreign [])) (element n foreign ∷ path) w) x.to rest) same way)
      by_edge true a f o way (edges.slashes closes same) =
          start_slashed w more n [] before previous path at p b (n ++ codes "/>") rest a o closes (is ∙ ap (λ x. x.bytes ++ rest) same) (slashed_spelled g n rest f.placed.low)
          (subst (λ x. Way (edges_of g) (units_from g.rules (Some (start n true [])) (element n true ∷ path) w) x.to rest) same way)
      by_edge false a f o way (edges.slashes closes same) = absurd (cc)
  start_case w more n foreign (x ∷ attributes) before previous path at p b a (f, o) way =
      let c = cut (edges_of g) (tag_units n (x ∷ attributes) (may_close_itself foreign w)) (units_from g.rules (Some (start n foreign (x ∷ attributes))) (element n foreign ∷ path) w) (state at p) b way in
      let t = tags_spell g table (edges_of g) (tag_edges g) n (x ∷ attributes) (may_close_itself foreign w) (state at p) c.middle c.front c.rest f.placed.low f.names c.before in
      by_slash foreign a o t.slash t.inner c.rest (c.whole ∙ ap (λ y. y ++ c.rest) t.is) (subst (λ y. SpellsStart g n (x ∷ attributes) t.slash y c.rest) t.is t.spells) t.may
      (subst (λ s. Way (edges_of g) (units_from g.rules (Some (start n foreign (x ∷ attributes))) (element n foreign ∷ path) w) s c.rest) t.leads c.after)
    where
      by_slash : (foreign : Bool) → Agrees g.table before previous path at p (start n foreign (x ∷ attributes) ∷ w) → InOrder (element n foreign ∷ path) w → (slash : Bool) (inner rest : List ℕ) → b ≡ (60 ∷ inner) ++ rest → SpellsStart g n (x ∷ attributes) slash (60 ∷ inner) rest
          → (slash ≡ true → may_close_itself foreign w ≡ true) → Way (edges_of g) (units_from g.rules (Some (start n foreign (x ∷ attributes))) (element n foreign ∷ path) w) (state_after_tag slash) rest → Spells g before path p (start n foreign (x ∷ attributes) ∷ w) b
      by_slash foreign a o false inner rest is s may way = start_written w more n foreign (x ∷ attributes) before previous path at p b inner rest a o is s way
      by_slash true a o true inner rest is s may way = start_slashed w more n (x ∷ attributes) before previous path at p b inner rest a o (may refl) is s way
      by_slash false a o true inner rest is s may way = absurd (let h = may refl in cc)

  -- ---- ends

  -- an element that has no end tag
  end_absent : (w : List Event) → More g w → (n : List ℕ) (before : Before) (previous : Previous) (path : List Element) (at : Where) (p : Pending) (b : List ℕ) → EndFits n false path → is_void n ≡ true
      → Agrees g.table before previous path at p (end n false ∷ w) → InOrder (outer path) w → Way (edges_of g) (units_from g.rules (Some (end n false)) (outer path) w) (state at p) b → Spells g before path p (end n false ∷ w) b
  end_absent w more n before previous path at p b f v a o way =
      let m = more other (Some (end n false)) (outer path) at p b (end_void g.table before previous path at p n w f v a) o way in
      record {
        spells = (forms.absent, [], b, refl, (refl, or_right (is_self_closing before) (is_void n) v), m.spells);
        kept = same_kept g.table path (outer path) p b (end_in_text n path f (void_plain n v).1) f.placed.around m.kept;
      }

  end_self : (w : List Event) → More g w → (n : List ℕ) (foreign : Bool) (before : Before) (previous : Previous) (path : List Element) (at : Where) (p : Pending) (b : List ℕ) → is_self_closed at ≡ true
      → Agrees g.table before previous path at p (end n foreign ∷ w) → InOrder (outer path) w → Way (edges_of g) (units_from g.rules (Some (end n foreign)) (outer path) w) first_state b → Spells g before path p (end n foreign ∷ w) b
  end_self w more n foreign before previous path at p b c a o way =
      let m = more other (Some (end n foreign)) (outer path) outside nothing b (fresh g.table other (Some (end n foreign)) (outer path) w refl refl refl) o way in
      record {
        spells = (forms.absent, [], b, refl, (refl, or_left (is_self_closing before) (not foreign && is_void n) (a.self ∙ c)), m.spells);
        kept = subst (λ q. keeps g.table (spot_of path) q b ≡ true) (sym (a.calm c)) refl;
      }

  end_written : (w : List Event) → More g w → (n : List ℕ) (foreign : Bool) (before : Before) (previous : Previous) (path : List Element) (at : Where) (p : Pending) (b rest : List ℕ) → EndFits n foreign path → has_no_end_tag before n foreign ≡ false
      → Agrees g.table before previous path at p (end n foreign ∷ w) → InOrder (outer path) w → b ≡ end_bytes n ++ rest → Way (edges_of g) (units_from g.rules (Some (end n foreign)) (outer path) w) first_state rest → Spells g before path p (end n foreign ∷ w) b
  end_written w more n foreign before previous path at p b rest f h a o is way =
      let m = more other (Some (end n foreign)) (outer path) outside nothing rest (fresh g.table other (Some (end n foreign)) (outer path) w refl refl refl) o way in
      record { spells = (forms.written, end_bytes n, rest, is, (h, end_spelled n f.placed.low), m.spells); kept = markup_keeps g.table table path p b a.fits (_, is) }

  end_omits : (w : List Event) → More g w → (n : List ℕ) (before : Before) (previous : Previous) (path : List Element) (at : Where) (p : Pending) (b : List ℕ) → EndFits n false path → has_no_end_tag before n false ≡ false → is_self_closed at ≡ false
      → may_omit_end g.rules n false (outer path) w ≡ true → Agrees g.table before previous path at p (end n false ∷ w) → InOrder (outer path) w → (l : Bool) → is_omission_noted n ≡ l
      → Way (edges_of g) (units_from g.rules (Some (end n false)) (outer path) w) (after_left_out l (state at p)) b → Spells g before path p (end n false ∷ w) b
  end_omits w more n before previous path at p b f h c may a o true l way =
      let falls = (leaves_end g.rules n false (outer path) w may).falls in
      let agrees = omission_noted g.table path n w f l falls in
      let m = more (end_omitted n) (Some (end n false)) (outer path) after_omitted_end nothing b agrees o way in
      record {
        spells = (forms.omitted, [], b, refl, (refl, h, may), m.spells);
        kept = markup_keeps g.table table path p b a.fits (table_markup g n (outer path) w b (f.placed.in_table refl l) (loose_goes n (current (outer path)) w l falls) o m.spells);
      }
  end_omits w more n before previous path at p b f h c may a o false l way =
      let falls = (leaves_end g.rules n false (outer path) w may).falls in
      let m = more (end_omitted n) (Some (end n false)) (outer path) at p b (end_left g.table before previous path at p n w f l c falls a) o way in
      record {
        spells = (forms.omitted, [], b, refl, (refl, h, may), m.spells);
        kept = same_kept g.table path (outer path) p b (end_in_text n path f (end_open n (current (outer path)) w falls)) f.placed.around m.kept;
      }

  end_tag_case : (w : List Event) → More g w → (n : List ℕ) (foreign : Bool) (before : Before) (previous : Previous) (path : List Element) (at : Where) (p : Pending) (b : List ℕ) → not foreign && is_void n ≡ false
      → Agrees g.table before previous path at p (end n foreign ∷ w) → EndFits n foreign path → InOrder (outer path) w
      → Way (edges_of g) (end_tag n (may_omit_end g.rules n foreign (outer path) w) (is_omission_noted n) ∷ units_from g.rules (Some (end n foreign)) (outer path) w) (state at p) b → Spells g before path p (end n foreign ∷ w) b
  end_tag_case w more n foreign before previous path at p b v a f o (e, i, (rest, is, way)) = by_edge (end_edge_is n _ (is_omission_noted n) (state at p) e i)
    where
      none : is_self_closed at ≡ false → has_no_end_tag before n foreign ≡ false
      none c = rw (a.self, c, v) refl

      by_kind : (foreign : Bool) → has_no_end_tag before n foreign ≡ false → is_self_closed at ≡ false → may_omit_end g.rules n foreign (outer path) w ≡ true → Agrees g.table before previous path at p (end n foreign ∷ w) → EndFits n foreign path
          → Way (edges_of g) (units_from g.rules (Some (end n foreign)) (outer path) w) (after_left_out (is_omission_noted n) (state at p)) b → Spells g before path p (end n foreign ∷ w) b
      by_kind true h c may a f way = absurd (let k = (leaves_end g.rules n true (outer path) w may).kind in cc)
      by_kind false h c may a f way = end_omits w more n before previous path at p b f h c may a o (is_omission_noted n) refl way

      by_edge : IsEndEdge n (may_omit_end g.rules n foreign (outer path) w) (is_omission_noted n) (state at p) e → Spells g before path p (end n foreign ∷ w) b
      by_edge (closed c same) =
          end_self w more n foreign before previous path at p b c a o
          (subst (λ x. Way (edges_of g) (units_from g.rules (Some (end n foreign)) (outer path) w) first_state x) (sym (is ∙ ap (λ x. x.bytes ++ rest) same))
          (subst (λ x. Way (edges_of g) (units_from g.rules (Some (end n foreign)) (outer path) w) x.to rest) same way))
      by_edge (edges.leaves_out c may same) =
          by_kind foreign (none c) c may a f
          (subst (λ x. Way (edges_of g) (units_from g.rules (Some (end n foreign)) (outer path) w) (after_left_out (is_omission_noted n) (state at p)) x) (sym (is ∙ ap (λ x. x.bytes ++ rest) same))
          (subst (λ x. Way (edges_of g) (units_from g.rules (Some (end n foreign)) (outer path) w) x.to rest) same way))
      by_edge (edges.writes c same) =
          end_written w more n foreign before previous path at p b rest f (none c) a o (is ∙ ap (λ x. x.bytes ++ rest) same)
          (subst (λ x. Way (edges_of g) (units_from g.rules (Some (end n foreign)) (outer path) w) x.to rest) same way)

  end_case : (w : List Event) → More g w → (n : List ℕ) (foreign : Bool) → More g (end n foreign ∷ w)
  end_case w more n foreign before previous path at p b a (f, o) way = by_void (not foreign && is_void n) refl way
    where
      by_kind : (foreign : Bool) → not foreign && is_void n ≡ true → Agrees g.table before previous path at p (end n foreign ∷ w) → EndFits n foreign path → Way (edges_of g) (units_from g.rules (Some (end n foreign)) (outer path) w) (state at p) b → Spells g before path p (end n foreign ∷ w) b
      by_kind true v a f way = absurd (cc)
      by_kind false v a f way = end_absent w more n before previous path at p b f v a o way

      by_void : (v : Bool) → not foreign && is_void n ≡ v → Way (edges_of g) (cond v [] (end_tag n (may_omit_end g.rules n foreign (outer path) w) (is_omission_noted n) ∷ []) ++ units_from g.rules (Some (end n foreign)) (outer path) w) (state at p) b → Spells g before path p (end n foreign ∷ w) b
      by_void true v way = by_kind foreign v a f way
      by_void false v way = end_tag_case w more n foreign before previous path at p b v a f o way

  -- ---- all events

  spelled : (w : List Event) → More g w
  spelled [] before previous path at p b a o is = record { spells = is; kept = subst (λ x. keeps g.table (spot_of path) p x ≡ true) (sym is) (end_keeps g.table (spot_of path) p (text_spot path) a.fits) }
  spelled (doctype legacy ∷ w) before previous path at p b a o way = doctype_case w (spelled w) legacy before previous path at p b a o way
  spelled (comment s ∷ w) before previous path at p b a o way = comment_case w (spelled w) s before previous path at p b a o way
  spelled (text s raw ∷ w) before previous path at p b a o way = text_case w (spelled w) s raw before previous path at p b a o way
  spelled (start n foreign attributes ∷ w) before previous path at p b a o way = start_case w (spelled w) n foreign attributes before previous path at p b a o way
  spelled (end n foreign ∷ w) before previous path at p b a o way = end_case w (spelled w) n foreign before previous path at p b a o way

  pub way_spells : (w : List Event) → InOrder [] w → (b : List ℕ) → Way (edges_of g) (units_from g.rules None [] w) first_state b → SpellsFrom g other [] w b
  way_spells w o b way = (spelled w other None [] outside nothing b (fresh g.table other None [] w refl refl refl) o way).spells
