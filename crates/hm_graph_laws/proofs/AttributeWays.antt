-- For each spelling of a tag there are edges with no more bytes.
use Rattle.std.proofs.Common.{◌≡◌, ℕ, ◌+◌, ◌≤◌, Bool, true, false, cond, ◌&&◌, List, [], ◌∷◌, ◌++◌, length, codes, chars, refl, sym, ap, ◌∙◌, subst, append_assoc, append-nil, inl, inr, ◌⊎◌, arith, length-append}
use Rattle.std.proofs.lemmas.List.{length-map}
use Rattle.hm_base.specs.Bytes.{lower}
use Rattle.hm_base.specs.Walks.{Attribute}
use Rattle.hm_markup_spec.specs.Gaps.{is_gap}
use Rattle.hm_markup_spec.specs.Tags.{bare, double, Quoting, IsAssigned, parts_attributes, parts_slash, single, tag_end, unquoted, WritesAttributes}
use Rattle.hm_refs.specs.Tables.{first, IsIn, IsTable, later}
use Rattle.hm_spelling_spec.specs.Characters.{SpellsPoints}
use Rattle.hm_spelling_spec.specs.Tags.{character_rules, Spelling, SpellsStart, SpellsValue}
use Rattle.hm_graph_laws.specs.AttributeEdges.{closed_at, close_edges, closing_edges, gap_at, is_after_unquoted, opening_edges}
use Rattle.hm_graph_laws.specs.AttributeLaws.{state_after_tag, HasTagEdges, HasTagWay, SpellingsHaveTags}
use Rattle.hm_graph_laws.specs.CharacterLaws.{keeps_at, MayStand}
use Rattle.hm_graph_laws.proofs.In.{in_right}
use Rattle.hm_graph_laws.proofs.TextWays.{spellings_have_ways}
use Rattle.hm_graph_laws.specs.Edges.{Edge, edge, edge_to}
use Rattle.hm_graph_laws.specs.States.{after_name, after_quoted, after_unquoted, first_state, in_double, in_single, in_unquoted, nothing, self_closed, State, state, value_spot, Where}
use Rattle.hm_graph_laws.specs.Steps.{may_end}
use Rattle.hm_graph_laws.specs.Units.{attribute_end, attribute_name, attribute_units, character_units, in_value, tag_close, tag_name}
use Rattle.hm_graph_laws.specs.UnitWays.{WayTo}
use Rattle.hm_graph_laws.specs.Ways.{Edges}
use Rattle.hm_graph_laws.proofs.Closing.{closing_law}
use Rattle.hm_graph_laws.proofs.Splits.{join_ways}
use Rattle.hm_graph_laws.proofs.ValueEnds.{attributes_close, Closes, end_closes}
use Rattle.hm_graph_laws.proofs.AttributeForms.{after_form, slash_gap, spot_value}

-- Where a way (path through the layered graph) stands after an attribute of this form. It stands in the form's place, or
-- after a name with bytes to spare, where an empty value was written in quotes.
abbrev pub Credit : Where → Quoting → ℕ → Type 0
Credit at before k = (at ≡ after_form before) ⊎ ((at ≡ after_name) × (1 ≤ k))

gap_least : (tight : Bool) (before : Quoting) (gap : List ℕ) → is_gap (parts_attributes tight before) gap ≡ true → length (gap_at tight (after_form before)) ≤ length gap
unfolding is_gap
gap_least true bare [] h = absurd (cc)
gap_least true unquoted [] h = absurd (cc)
gap_least true double [] h = omega arith
gap_least true single [] h = omega arith
gap_least false bare [] h = absurd (cc)
gap_least false unquoted [] h = absurd (cc)
gap_least false double [] h = absurd (cc)
gap_least false single [] h = absurd (cc)
gap_least true bare (c ∷ gap) h = omega arith
gap_least true unquoted (c ∷ gap) h = omega arith
gap_least true double (c ∷ gap) h = omega arith
gap_least true single (c ∷ gap) h = omega arith
gap_least false bare (c ∷ gap) h = omega arith
gap_least false unquoted (c ∷ gap) h = omega arith
gap_least false double (c ∷ gap) h = omega arith
gap_least false single (c ∷ gap) h = omega arith

name_gap : (tight : Bool) → length (gap_at tight after_name) ≡ 1
name_gap true = refl
name_gap false = refl

gap_short : (tight : Bool) (before : Quoting) (at : Where) (k : ℕ) (gap : List ℕ) → Credit at before k → is_gap (parts_attributes tight before) gap ≡ true → length (gap_at tight at) ≤ length gap + k
gap_short tight before at k gap (inl e) h = let l = gap_least tight before gap h in subst (λ a. length (gap_at tight a) ≤ length gap + k) (sym e) (omega (arith, l))
gap_short tight before at k gap (inr (e, l)) h = subst (λ a. length (gap_at tight a) ≤ length gap + k) (sym e) (omega (arith, name_gap tight, l))

slash_least : (last : Quoting) (gap : List ℕ) → is_gap (parts_slash last) gap ≡ true → length (slash_gap last) ≤ length gap
unfolding is_gap
slash_least bare gap h = omega arith
slash_least unquoted [] h = absurd (cc)
slash_least unquoted (c ∷ gap) h = omega arith
slash_least double gap h = omega arith
slash_least single gap h = omega arith

assigned_length : (v b : List ℕ) → IsAssigned v b → 1 + length v ≤ length b
assigned_length v b a = omega (arith, ap length a.is, length-append a.left (61 ∷ (a.right ++ v)), length-append a.right v)

module _ (g : Spelling) (table : IsTable g.table) (es : Edges) (has : HasTagEdges g es) where
  -- ---- values

  record ValueFound (at : Where) (close : Edge) (cs : List ℕ) (n : ℕ) : Type 0 where
    bytes : List ℕ
    way : WayTo es (character_units in_value cs ++ attribute_end ∷ []) (state at nothing) (bytes ++ close.bytes) close.to
    short : length bytes ≤ n

  value_found : (at : Where) (close : Edge) (cs written s : List ℕ) → closed_at at ≡ close ∷ [] → MayStand g.table in_value (state at nothing) → SpellsPoints g.table (character_rules g) (value_spot at) cs written s → Closes s
      → ValueFound at close cs (length written)
  value_found at close cs written s closed stands spells closes =
      let w = spellings_have_ways g.table table (character_rules g) es has.characters in_value cs (state at nothing) written s stands spells refl in
      let kept = subst (λ y. keeps_at g.table in_value w.to y ≡ true) closes.is w.kept in
      let may : may_end g.table (value_spot w.to.at) w.to.pending ≡ true = sym (closing_law g.table table (value_spot w.to.at) w.to.pending closes.byte closes.rest (spot_value w.to.at) closes.among w.ends.fits) ∙ kept in
      let all : closing_edges g.table w.to ≡ close ∷ [] = rw may (ap closed_at w.same_place ∙ closed) in
      let i : IsIn close (es attribute_end w.to) = subst (λ l. IsIn close l) (sym (has.closings w.to ∙ all)) (first []) in
      record {
        bytes = w.bytes;
        way = join_ways es (character_units in_value cs) (attribute_end ∷ []) (state at nothing) w.to close.to w.bytes close.bytes w.way (close, i, ([], sym (append-nil close.bytes), (refl, refl)));
        short = w.short;
      }

  -- ---- attributes

  -- the edges of the first attribute, before those of the others
  record FirstFound (form : Quoting) (a : Attribute) (attributes : List Attribute) (at : Where) (n k : ℕ) : Type 0 where
    next_at : Where
    credit : ℕ
    bytes : List ℕ
    extend : (rest : List ℕ) (to : State) → WayTo es (attribute_units attributes) (state next_at nothing) rest to → WayTo es (attribute_units (a ∷ attributes)) (state at nothing) (bytes ++ rest) to
    ends : Credit next_at form credit
    short : length bytes + credit ≤ n + k

  with_value : (n : List ℕ) (c : ℕ) (s : List ℕ) (attributes : List Attribute) (at : Where) (opening : Edge) (inside : Where) (close : Edge) (m : ℕ) → IsIn opening (opening_edges g.rules.tight g.rules.unquote n (state at nothing)) → opening.to ≡ state inside nothing
      → (v : ValueFound inside close (chars (c ∷ s)) m) (rest : List ℕ) (to : State) → WayTo es (attribute_units attributes) close.to rest to
      → WayTo es (attribute_units (record { name = n; value = c ∷ s } ∷ attributes)) (state at nothing) ((opening.bytes ++ (v.bytes ++ close.bytes)) ++ rest) to
  with_value n c s attributes at opening inside close m i leads v rest to w =
      let j : IsIn opening (es (attribute_name n (chars (c ∷ s))) (state at nothing)) = subst (λ l. IsIn opening l) (sym (has.openings n (chars (c ∷ s)) (state at nothing))) i in
      let more = join_ways es (character_units in_value (chars (c ∷ s)) ++ attribute_end ∷ []) (attribute_units attributes) (state inside nothing) close.to to (v.bytes ++ close.bytes) rest v.way w in (
        opening,
        j,
        (
          (v.bytes ++ close.bytes) ++ rest,
          append_assoc opening.bytes (v.bytes ++ close.bytes) rest,
          subst (λ f. WayTo es ((character_units in_value (chars (c ∷ s)) ++ attribute_end ∷ []) ++ attribute_units attributes) f ((v.bytes ++ close.bytes) ++ rest) to) (sym leads) more,
        ),
      )

  empty_value : (n : List ℕ) (attributes : List Attribute) (at : Where) (rest : List ℕ) (to : State) → WayTo es (attribute_units attributes) (state after_name nothing) rest to
      → WayTo es (attribute_units (record { name = n; value = [] } ∷ attributes)) (state at nothing) ((gap_at g.rules.tight at ++ n) ++ rest) to
  empty_value n attributes at rest to w =
      let e = edge (gap_at g.rules.tight at ++ n) after_name nothing in
      (e, subst (λ l. IsIn e l) (sym (has.bare_ones n (state at nothing))) (first []), (rest, refl, w))

  -- by the parts of the attribute that is spelled
  first_found : (before form : Quoting) (n v : List ℕ) (attributes : List Attribute) (at : Where) (k : ℕ) (gap name value s : List ℕ) → Credit at before k → is_gap (parts_attributes g.rules.tight before) gap ≡ true → length name ≡ length n → SpellsValue g form v value s → (form ≡ unquoted → Closes s)
      → FirstFound form (record { name = n; value = v }) attributes at (length gap + (length name + length value)) k
  first_found before bare n [] attributes at k gap name value s credit apart same (none, is) closes = record {
    next_at = after_name;
    credit = 0;
    bytes = gap_at g.rules.tight at ++ n;
    extend = empty_value n attributes at;
    ends = inl refl;
    short = omega (arith, length-append (gap_at g.rules.tight at) n, gap_short g.rules.tight before at k gap credit apart, same);
  }
  first_found before bare n (c ∷ t) attributes at k gap name value s credit apart same (none, is) closes = absurd (cc)
  first_found before unquoted n [] attributes at k gap name value s credit apart same a closes = absurd (let no = a.some in cc)
  first_found before unquoted n (c ∷ t) attributes at k gap name value s credit apart same a closes =
      let opening = edge (gap_at g.rules.tight at ++ (n ++ codes "=")) in_unquoted nothing in
      let v = value_found in_unquoted (edge [] after_unquoted nothing) (chars (c ∷ t)) a.written s refl (record { place = refl; fits = tt }) a.spells (closes refl) in
      record {
        next_at = after_unquoted;
        credit = 0;
        bytes = opening.bytes ++ (v.bytes ++ []);
        extend = with_value n c t attributes at opening in_unquoted (edge [] after_unquoted nothing) (length a.written) (rw a.allowed (first _)) refl v;
        ends = inl refl;
        short = omega (arith, length-append opening.bytes (v.bytes ++ []), length-append v.bytes [], length-append (gap_at g.rules.tight at) (n ++ codes "="), length-append n (codes "="), gap_short g.rules.tight before at k gap credit apart, same, v.short, assigned_length a.written value a.is);
      }
  first_found before double n [] attributes at k gap name value s credit apart same a closes = record {
    next_at = after_name;
    credit = 1;
    bytes = gap_at g.rules.tight at ++ n;
    extend = empty_value n attributes at;
    ends = inr (refl, omega arith);
    short = omega (arith, length-append (gap_at g.rules.tight at) n, gap_short g.rules.tight before at k gap credit apart, same, assigned_length (34 ∷ (a.written ++ 34 ∷ [])) value a.is);
  }
  first_found before double n (c ∷ t) attributes at k gap name value s credit apart same a closes =
      let opening = edge (gap_at g.rules.tight at ++ (n ++ codes "=\"")) in_double nothing in
      let v = value_found in_double (edge (34 ∷ []) after_quoted nothing) (chars (c ∷ t)) a.written (34 ∷ s) refl (record { place = refl; fits = tt }) a.spells (record { byte = 34; rest = s; is = refl; among = first _ }) in
      record {
        next_at = after_quoted;
        credit = 0;
        bytes = opening.bytes ++ (v.bytes ++ 34 ∷ []);
        extend = with_value n c t attributes at opening in_double (edge (34 ∷ []) after_quoted nothing) (length a.written) (in_right opening (cond g.rules.unquote (edge (gap_at g.rules.tight at ++ (n ++ codes "=")) in_unquoted nothing ∷ []) []) (opening ∷ edge (gap_at g.rules.tight at ++ (n ++ codes "='")) in_single nothing ∷ []) (first _)) refl v;
        ends = inl refl;
        short = omega (arith, length-append opening.bytes (v.bytes ++ 34 ∷ []), length-append v.bytes (34 ∷ []), length-append (gap_at g.rules.tight at) (n ++ codes "=\""), length-append n (codes "=\""), gap_short g.rules.tight before at k gap credit apart, same, v.short, assigned_length (34 ∷ (a.written ++ 34 ∷ [])) value a.is, length-append a.written (34 ∷ []));
      }
  first_found before single n [] attributes at k gap name value s credit apart same a closes = record {
    next_at = after_name;
    credit = 1;
    bytes = gap_at g.rules.tight at ++ n;
    extend = empty_value n attributes at;
    ends = inr (refl, omega arith);
    short = omega (arith, length-append (gap_at g.rules.tight at) n, gap_short g.rules.tight before at k gap credit apart, same, assigned_length (39 ∷ (a.written ++ 39 ∷ [])) value a.is);
  }
  first_found before single n (c ∷ t) attributes at k gap name value s credit apart same a closes =
      let opening = edge (gap_at g.rules.tight at ++ (n ++ codes "='")) in_single nothing in
      let v = value_found in_single (edge (39 ∷ []) after_quoted nothing) (chars (c ∷ t)) a.written (39 ∷ s) refl (record { place = refl; fits = tt }) a.spells (record { byte = 39; rest = s; is = refl; among = later 34 _ (first _) }) in
      record {
        next_at = after_quoted;
        credit = 0;
        bytes = opening.bytes ++ (v.bytes ++ 39 ∷ []);
        extend = with_value n c t attributes at opening in_single (edge (39 ∷ []) after_quoted nothing) (length a.written) (in_right opening (cond g.rules.unquote (edge (gap_at g.rules.tight at ++ (n ++ codes "=")) in_unquoted nothing ∷ []) []) (edge (gap_at g.rules.tight at ++ (n ++ codes "=\"")) in_double nothing ∷ opening ∷ []) (later _ _ (first _))) refl v;
        ends = inl refl;
        short = omega (arith, length-append opening.bytes (v.bytes ++ 39 ∷ []), length-append v.bytes (39 ∷ []), length-append (gap_at g.rules.tight at) (n ++ codes "='"), length-append n (codes "='"), gap_short g.rules.tight before at k gap credit apart, same, v.short, assigned_length (39 ∷ (a.written ++ 39 ∷ [])) value a.is, length-append a.written (39 ∷ []));
      }

  record AttributesFound (attributes : List Attribute) (last : Quoting) (at : Where) (n k : ℕ) : Type 0 where
    end_at : Where
    credit : ℕ
    bytes : List ℕ
    way : WayTo es (attribute_units attributes) (state at nothing) bytes (state end_at nothing)
    ends : Credit end_at last credit
    short : length bytes + credit ≤ n + k

  attributes_found : (attributes : List Attribute) (before last : Quoting) (at : Where) (k : ℕ) (b x : List ℕ) → Credit at before k → WritesAttributes (SpellsValue g) g.rules.tight before last attributes b x → (last ≡ unquoted → Closes x) → AttributesFound attributes last at (length b) k
  attributes_found [] before last at k b x credit (e, is) closes = record { end_at = at; credit = k; bytes = []; way = (refl, refl); ends = subst (λ f. Credit at f k) (sym e) credit; short = omega arith }
  attributes_found (a ∷ attributes) before last at k b x credit (form, piece, rest, is, one, more) closes =
      let same : length one.name ≡ length a.name = sym (length-map one.name lower) ∙ ap length one.lowered in
      let f = first_found before form a.name a.value attributes at k one.gap one.name one.value (rest ++ x) credit one.apart same one.assigned
      (λ u. attributes_close g g.rules.tight last attributes rest x (subst (λ y. WritesAttributes (SpellsValue g) g.rules.tight y last attributes rest x) u more) closes) in
      let m = attributes_found attributes form last f.next_at f.credit rest x f.ends more closes in
      record {
        end_at = m.end_at;
        credit = m.credit;
        bytes = f.bytes ++ m.bytes;
        way = f.extend m.bytes (state m.end_at nothing) m.way;
        ends = m.ends;
        short = omega (arith, length-append f.bytes m.bytes, f.short, m.short, ap length is, length-append piece rest, ap length one.is, length-append one.gap (one.name ++ one.value), length-append one.name one.value);
      }

  -- ---- the tag

  record EndFound (closes leads : Bool) (at : Where) (n : ℕ) : Type 0 where
    close : Edge
    among : IsIn close (close_edges closes (state at nothing))
    to_is : close.to ≡ state_after_tag leads
    short : length close.bytes ≤ n

  slash_length : (last : Quoting) (at : Where) (k : ℕ) (gap : List ℕ) → Credit at last k → is_gap (parts_slash last) gap ≡ true → length (cond (is_after_unquoted at) (codes " />") (codes "/>")) ≤ length gap + 2
  slash_length last at k gap (inl e) h = subst (λ a. length (cond (is_after_unquoted a) (codes " />") (codes "/>")) ≤ length gap + 2) (sym e) (by_form last (slash_least last gap h))
    where
      by_form : (f : Quoting) → length (slash_gap f) ≤ length gap → length (cond (is_after_unquoted (after_form f)) (codes " />") (codes "/>")) ≤ length gap + 2
      by_form bare l = omega arith
      by_form unquoted l = omega (arith, l)
      by_form double l = omega arith
      by_form single l = omega arith
  slash_length last at k gap (inr (e, l)) h = subst (λ a. length (cond (is_after_unquoted a) (codes " />") (codes "/>")) ≤ length gap + 2) (sym e) (omega arith)

  end_found : (closes leads slash : Bool) (last : Quoting) (at : Where) (k : ℕ) (gap : List ℕ) → Credit at last k → is_gap (slash && parts_slash last) gap ≡ true → (leads ≡ true → (slash ≡ true) × (closes ≡ true)) → EndFound closes leads at (length gap + length (tag_end slash))
  end_found closes false true last at k gap credit apart may = record { close = edge_to (62 ∷ []) first_state; among = first _; to_is = refl; short = omega arith }
  end_found closes false false last at k gap credit apart may = record { close = edge_to (62 ∷ []) first_state; among = first _; to_is = refl; short = omega arith }
  end_found closes true false last at k gap credit apart may = absurd (let no = (may refl).0 in cc)
  end_found false true true last at k gap credit apart may = absurd (let no = (may refl).1 in cc)
  end_found true true true last at k gap credit apart may = record {
    close = edge (cond (is_after_unquoted at) (codes " />") (codes "/>")) self_closed nothing;
    among = later _ _ (first _);
    to_is = refl;
    short = omega (arith, slash_length last at k gap credit apart);
  }

  tag_found : (n : List ℕ) (attributes : List Attribute) (closes slash leads : Bool) (from : State) (b after : List ℕ) → SpellsStart g n attributes slash b after → (leads ≡ true → (slash ≡ true) × (closes ≡ true)) → HasTagWay es n attributes closes leads from b
  tag_found n attributes closes slash leads from b after s may =
      let first_edge = edge (60 ∷ n) after_name nothing in
      let i : IsIn first_edge (es (tag_name n) from) = subst (λ l. IsIn first_edge l) (sym (has.names n from)) (first []) in
      let m = attributes_found attributes bare s.last after_name 0 s.middle (s.gap ++ (tag_end slash ++ after)) (inl refl) s.attributed
      (λ u. end_closes slash s.gap after (subst (λ f. is_gap (slash && parts_slash f) s.gap ≡ true) u s.apart)) in
      let e = end_found closes leads slash s.last m.end_at m.credit s.gap m.ends s.apart may in
      let j : IsIn e.close (es (tag_close closes) (state m.end_at nothing)) = subst (λ l. IsIn e.close l) (sym (has.ends closes (state m.end_at nothing))) e.among in
      let last_way : WayTo es (tag_close closes ∷ []) (state m.end_at nothing) e.close.bytes (state_after_tag leads) = (e.close, j, ([], sym (append-nil e.close.bytes), (refl, e.to_is))) in
      let same : length s.written ≡ length n = sym (length-map s.written lower) ∙ ap length s.lowered in
      record {
        bytes = (60 ∷ n) ++ (m.bytes ++ e.close.bytes);
        way = (first_edge, i, (m.bytes ++ e.close.bytes, refl, join_ways es (attribute_units attributes) (tag_close closes ∷ []) (state after_name nothing) (state m.end_at nothing) (state_after_tag leads) m.bytes e.close.bytes m.way last_way));
        short = omega (arith, ap length s.is, length-append s.written (s.middle ++ (s.gap ++ tag_end slash)), length-append s.middle (s.gap ++ tag_end slash), length-append s.gap (tag_end slash), length-append n (m.bytes ++ e.close.bytes), length-append m.bytes e.close.bytes, m.short, e.short, same);
      }

pub spellings_have_tags : SpellingsHaveTags
spellings_have_tags g table es has n attributes closes slash leads from b after s may = tag_found g table es has n attributes closes slash leads from b after s may
