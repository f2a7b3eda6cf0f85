-- The bytes along the edges of a tag are a spelling.
use Rattle.std.proofs.Common.{◌≡◌, ℕ, Bool, true, false, cond, ◌&&◌, List, [], ◌∷◌, ◌++◌, map, codes, chars, refl, sym, ap, ◌∙◌, subst, append_assoc, append-nil, inl, inr, ◌⊎◌}
use Rattle.hm_base.specs.Bytes.{lower}
use Rattle.hm_base.specs.Walks.{Attribute}
use Rattle.hm_markup_spec.specs.Gaps.{is_gap}
use Rattle.hm_markup_spec.specs.Tags.{bare, double, Quoting, IsAssigned, parts_slash, single, tag_end, unquoted, WritesAttribute, WritesAttributes}
use Rattle.hm_refs.specs.Tables.{first, IsIn, IsTable, later}
use Rattle.hm_spelling_spec.specs.Characters.{SpellsPoints}
use Rattle.hm_spelling_spec.specs.Tags.{character_rules, Spelling, SpellsValue}
use Rattle.hm_graph_laws.specs.AttributeEdges.{closed_at, gap_at, is_after_unquoted, opening_edges}
use Rattle.hm_graph_laws.specs.AttributeLaws.{AreLow, state_after_tag, HasTagEdges, TagSpelled, TagsSpell}
use Rattle.hm_graph_laws.specs.CharacterLaws.{IsEnd, keeps_at, MayStand}
use Rattle.hm_graph_laws.proofs.Ends.{ways_end}
use Rattle.hm_graph_laws.proofs.In.{in_append, only}
use Rattle.hm_graph_laws.proofs.Numbers.{two_in}
use Rattle.hm_graph_laws.proofs.CharactersSpelled.{ways_spell}
use Rattle.hm_graph_laws.specs.Edges.{Edge, edge, edge_to}
use Rattle.hm_graph_laws.specs.States.{after_name, after_quoted, after_unquoted, first_state, in_double, in_single, in_unquoted, nothing, self_closed, State, state, value_spot, Where}
use Rattle.hm_graph_laws.specs.Steps.{may_end}
use Rattle.hm_graph_laws.specs.Units.{attribute_end, attribute_units, character_units, in_value, tag_close, tag_name}
use Rattle.hm_graph_laws.specs.UnitWays.{WayTo}
use Rattle.hm_graph_laws.specs.Ways.{Edges}
use Rattle.hm_graph_laws.proofs.Closing.{closing_law}
use Rattle.hm_graph_laws.proofs.Splits.{Parted, way_parts}
use Rattle.hm_graph_laws.proofs.ValueEnds.{attributes_close, Closes, end_closes}
use Rattle.hm_graph_laws.proofs.AttributeForms.{after_form, bracket_closes, gap_parts, no_gap, slash_bytes, slash_gap, slash_parts, spot_value}

module _ (g : Spelling) (table : IsTable g.table) (es : Edges) (has : HasTagEdges g es) where
  -- ---- values

  -- the characters of a value, and the edge that closes it
  record ValueWay (at : Where) (close : Edge) (cs b : List ℕ) (to : State) : Type 0 where
    written : List ℕ
    whole : b ≡ written ++ close.bytes
    leads : to ≡ close.to
    spells : (x : List ℕ) → Closes (close.bytes ++ x) → SpellsPoints g.table (character_rules g) (value_spot at) cs written (close.bytes ++ x)

  value_way : (at : Where) (close : Edge) (cs b : List ℕ) (to : State) → closed_at at ≡ close ∷ [] → MayStand g.table in_value (state at nothing) → WayTo es (character_units in_value cs ++ attribute_end ∷ []) (state at nothing) b to → ValueWay at close cs b to
  value_way at close cs b to closed stands w = by_way p.after
    where
      p : Parted es (character_units in_value cs) (attribute_end ∷ []) (state at nothing) b to
      p = way_parts es (character_units in_value cs) (attribute_end ∷ []) (state at nothing) b to w

      ended : IsEnd g.table in_value (state at nothing) p.middle
      ended = ways_end g.table table (character_rules g) es has.characters in_value cs (state at nothing) p.middle p.left stands p.before

      kept : may_end g.table (value_spot p.middle.at) p.middle.pending ≡ true → (s : List ℕ) → Closes s → keeps_at g.table in_value p.middle s ≡ true
      kept may s c =
          subst (λ y. keeps_at g.table in_value p.middle y ≡ true) (sym c.is)
          (closing_law g.table table (value_spot p.middle.at) p.middle.pending c.byte c.rest (spot_value p.middle.at) c.among ended.ends.fits ∙ may)

      by_edge : (e : Edge) (rest : List ℕ) (m : Bool) → may_end g.table (value_spot p.middle.at) p.middle.pending ≡ m → IsIn e (cond m (closed_at p.middle.at) []) → p.right ≡ e.bytes ++ rest → rest ≡ [] → e.to ≡ to → ValueWay at close cs b to
      by_edge e rest false may i is none same = elim i [ ]
      by_edge e rest true may i is none same =
          let here : e ≡ close = only e close (subst (λ l. IsIn e l) (ap closed_at ended.same_place ∙ closed) i) in
          let right : p.right ≡ close.bytes = is ∙ ap (λ y. e.bytes ++ y) none ∙ append-nil e.bytes ∙ ap (λ x. x.bytes) here in
          record {
            written = p.left;
            whole = p.whole ∙ ap (λ y. p.left ++ y) right;
            leads = sym same ∙ ap (λ x. x.to) here;
            spells = λ x c. let r = ways_spell g.table table (character_rules g) es has.characters in_value cs (state at nothing) p.middle p.left (close.bytes ++ x) stands p.before (kept may (close.bytes ++ x) c) in r.spells;
          }

      by_way : WayTo es (attribute_end ∷ []) p.middle p.right to → ValueWay at close cs b to
      by_way (e, i, (rest, is, (none, same))) = by_edge e rest (may_end g.table (value_spot p.middle.at) p.middle.pending) refl (subst (λ l. IsIn e l) (has.closings p.middle) i) is none same

  -- ---- attributes

  -- the first attribute, and the way (path through the layered graph) after it
  record First (before : Quoting) (a : Attribute) (attributes : List Attribute) (b : List ℕ) (to : State) : Type 0 where
    form : Quoting
    left : List ℕ
    right : List ℕ
    whole : b ≡ left ++ right
    writes : (x : List ℕ) → (form ≡ unquoted → Closes x) → WritesAttribute (SpellsValue g) g.rules.tight before form a left x
    after : WayTo es (attribute_units attributes) (state (after_form form) nothing) right to

  abbrev bare_edge : List ℕ → Where → Edge
  bare_edge n at = edge (gap_at g.rules.tight at ++ (n ++ codes "=")) in_unquoted nothing

  abbrev double_edge : List ℕ → Where → Edge
  double_edge n at = edge (gap_at g.rules.tight at ++ (n ++ codes "=\"")) in_double nothing

  abbrev single_edge : List ℕ → Where → Edge
  single_edge n at = edge (gap_at g.rules.tight at ++ (n ++ codes "='")) in_single nothing

  data IsOpening (n : List ℕ) (at : Where) (e : Edge) : Type 0 where
    no_quote : g.rules.unquote ≡ true → e ≡ edge (gap_at g.rules.tight at ++ (n ++ codes "=")) in_unquoted nothing → IsOpening n at e
    double_quote : e ≡ edge (gap_at g.rules.tight at ++ (n ++ codes "=\"")) in_double nothing → IsOpening n at e
    single_quote : e ≡ edge (gap_at g.rules.tight at ++ (n ++ codes "='")) in_single nothing → IsOpening n at e

  opening_is : (n : List ℕ) (at : Where) (e : Edge) → IsIn e (opening_edges g.rules.tight g.rules.unquote n (state at nothing)) → IsOpening n at e
  opening_is n at e i = by_rule g.rules.unquote refl i
    where
      by_two : IsIn e ((double_edge n at) ∷ (single_edge n at) ∷ []) → IsOpening n at e
      by_two j = by_part (two_in e (double_edge n at) (single_edge n at) j)
        where
          by_part : (e ≡ (double_edge n at)) ⊎ (e ≡ (single_edge n at)) → IsOpening n at e
          by_part (inl is) = double_quote is
          by_part (inr is) = single_quote is

      by_rule : (u : Bool) → g.rules.unquote ≡ u → IsIn e (cond u ((bare_edge n at) ∷ []) [] ++ (double_edge n at) ∷ (single_edge n at) ∷ []) → IsOpening n at e
      by_rule false r j = by_two j
      by_rule true r j = by_part (in_append e ((bare_edge n at) ∷ []) ((double_edge n at) ∷ (single_edge n at) ∷ []) j)
        where
          by_part : IsIn e ((bare_edge n at) ∷ []) ⊎ IsIn e ((double_edge n at) ∷ (single_edge n at) ∷ []) → IsOpening n at e
          by_part (inl k) = no_quote r (only e (bare_edge n at) k)
          by_part (inr k) = by_two k

  assigned : (v : List ℕ) → IsAssigned v (61 ∷ v)
  assigned v = record { left = []; right = []; is = refl; left_blank = refl; right_blank = refl }

  -- the bytes of an attribute with a value, in its three parts
  join_parts : (gap n opening left inner : List ℕ) → left ≡ inner → (gap ++ (n ++ opening)) ++ left ≡ gap ++ (n ++ (opening ++ inner))
  join_parts gap n opening left inner is = append_assoc gap (n ++ opening) left ∙ ap (λ y. gap ++ y) (append_assoc n opening left ∙ ap (λ y. n ++ (opening ++ y)) is)

  valued : (before : Quoting) (n : List ℕ) (c : ℕ) (s : List ℕ) (attributes : List Attribute) (b : List ℕ) (to : State) → map lower n ≡ n → (e : Edge) (rest : List ℕ) → IsOpening n (after_form before) e → b ≡ e.bytes ++ rest
      → WayTo es ((character_units in_value (chars (c ∷ s)) ++ attribute_end ∷ []) ++ attribute_units attributes) e.to rest to → First before (record { name = n; value = c ∷ s }) attributes b to
  valued before n c s attributes b to low e rest (no_quote allowed same) is w =
      let gap = gap_at g.rules.tight (after_form before) in
      let p = way_parts es (character_units in_value (chars (c ∷ s)) ++ attribute_end ∷ []) (attribute_units attributes) (state in_unquoted nothing) rest to (subst (λ x. WayTo es ((character_units in_value (chars (c ∷ s)) ++ attribute_end ∷ []) ++ attribute_units attributes) x.to rest to) same w) in
      let v = value_way in_unquoted (edge [] after_unquoted nothing) (chars (c ∷ s)) p.left p.middle refl (record { place = refl; fits = tt }) p.before in
      record {
        form = unquoted;
        left = (gap ++ (n ++ codes "=")) ++ p.left;
        right = p.right;
        whole = is ∙ ap (λ x. x.bytes ++ rest) same ∙ ap (λ y. (gap ++ (n ++ codes "=")) ++ y) p.whole ∙ sym (append_assoc (gap ++ (n ++ codes "=")) p.left p.right);
        writes = λ x closes. record {
          gap = gap;
          name = n;
          value = 61 ∷ v.written;
          is = join_parts gap n (codes "=") p.left v.written (v.whole ∙ append-nil v.written);
          apart = gap_parts g.rules.tight before;
          lowered = low;
          assigned = record { written = v.written; is = assigned v.written; allowed = allowed; some = refl; spells = v.spells x (closes refl) };
        };
        after = subst (λ m. WayTo es (attribute_units attributes) m p.right to) v.leads p.after;
      }
  valued before n c s attributes b to low e rest (double_quote same) is w =
      let gap = gap_at g.rules.tight (after_form before) in
      let p = way_parts es (character_units in_value (chars (c ∷ s)) ++ attribute_end ∷ []) (attribute_units attributes) (state in_double nothing) rest to (subst (λ x. WayTo es ((character_units in_value (chars (c ∷ s)) ++ attribute_end ∷ []) ++ attribute_units attributes) x.to rest to) same w) in
      let v = value_way in_double (edge (34 ∷ []) after_quoted nothing) (chars (c ∷ s)) p.left p.middle refl (record { place = refl; fits = tt }) p.before in
      record {
        form = double;
        left = (gap ++ (n ++ codes "=\"")) ++ p.left;
        right = p.right;
        whole = is ∙ ap (λ x. x.bytes ++ rest) same ∙ ap (λ y. (gap ++ (n ++ codes "=\"")) ++ y) p.whole ∙ sym (append_assoc (gap ++ (n ++ codes "=\"")) p.left p.right);
        writes = λ x closes. record {
          gap = gap;
          name = n;
          value = 61 ∷ 34 ∷ (v.written ++ 34 ∷ []);
          is = join_parts gap n (codes "=\"") p.left (v.written ++ 34 ∷ []) v.whole;
          apart = gap_parts g.rules.tight before;
          lowered = low;
          assigned = record { written = v.written; is = assigned (34 ∷ (v.written ++ 34 ∷ [])); spells = v.spells x (record { byte = 34; rest = x; is = refl; among = first _ }) };
        };
        after = subst (λ m. WayTo es (attribute_units attributes) m p.right to) v.leads p.after;
      }
  valued before n c s attributes b to low e rest (single_quote same) is w =
      let gap = gap_at g.rules.tight (after_form before) in
      let p = way_parts es (character_units in_value (chars (c ∷ s)) ++ attribute_end ∷ []) (attribute_units attributes) (state in_single nothing) rest to (subst (λ x. WayTo es ((character_units in_value (chars (c ∷ s)) ++ attribute_end ∷ []) ++ attribute_units attributes) x.to rest to) same w) in
      let v = value_way in_single (edge (39 ∷ []) after_quoted nothing) (chars (c ∷ s)) p.left p.middle refl (record { place = refl; fits = tt }) p.before in
      record {
        form = single;
        left = (gap ++ (n ++ codes "='")) ++ p.left;
        right = p.right;
        whole = is ∙ ap (λ x. x.bytes ++ rest) same ∙ ap (λ y. (gap ++ (n ++ codes "='")) ++ y) p.whole ∙ sym (append_assoc (gap ++ (n ++ codes "='")) p.left p.right);
        writes = λ x closes. record {
          gap = gap;
          name = n;
          value = 61 ∷ 39 ∷ (v.written ++ 39 ∷ []);
          is = join_parts gap n (codes "='") p.left (v.written ++ 39 ∷ []) v.whole;
          apart = gap_parts g.rules.tight before;
          lowered = low;
          assigned = record { written = v.written; is = assigned (39 ∷ (v.written ++ 39 ∷ [])); spells = v.spells x (record { byte = 39; rest = x; is = refl; among = later 34 _ (first _) }) };
        };
        after = subst (λ m. WayTo es (attribute_units attributes) m p.right to) v.leads p.after;
      }

  first_attribute : (before : Quoting) (n v : List ℕ) (attributes : List Attribute) (b : List ℕ) (to : State) → map lower n ≡ n → WayTo es (attribute_units (record { name = n; value = v } ∷ attributes)) (state (after_form before) nothing) b to
      → First before (record { name = n; value = v }) attributes b to
  first_attribute before n [] attributes b to low (e, i, (rest, is, w)) =
      let gap = gap_at g.rules.tight (after_form before) in
      let here = only e (edge (gap ++ n) after_name nothing) (subst (λ l. IsIn e l) (has.bare_ones n (state (after_form before) nothing)) i) in
      record {
        form = bare;
        left = gap ++ n;
        right = rest;
        whole = is ∙ ap (λ x. x.bytes ++ rest) here;
        writes = λ x closes. record { gap = gap; name = n; value = []; is = ap (λ y. gap ++ y) (sym (append-nil n)); apart = gap_parts g.rules.tight before; lowered = low; assigned = (refl, refl) };
        after = subst (λ x. WayTo es (attribute_units attributes) x.to rest to) here w;
      }
  first_attribute before n (c ∷ s) attributes b to low (e, i, (rest, is, w)) =
      valued before n c s attributes b to low e rest (opening_is n (after_form before) e (subst (λ l. IsIn e l) (has.openings n (chars (c ∷ s)) (state (after_form before) nothing)) i)) is w

  record AttributesSpelled (before : Quoting) (attributes : List Attribute) (b : List ℕ) (to : State) : Type 0 where
    last : Quoting
    leads : to ≡ state (after_form last) nothing
    writes : (x : List ℕ) → (last ≡ unquoted → Closes x) → WritesAttributes (SpellsValue g) g.rules.tight before last attributes b x

  attributes_spelled : (attributes : List Attribute) → AreLow attributes → (before : Quoting) (b : List ℕ) (to : State) → WayTo es (attribute_units attributes) (state (after_form before) nothing) b to → AttributesSpelled before attributes b to
  attributes_spelled [] low before b to (none, same) = record { last = before; leads = sym same; writes = λ x closes. (refl, none) }
  attributes_spelled (a ∷ attributes) low before b to w =
      let f = first_attribute before a.name a.value attributes b to low.0 w in
      let m = attributes_spelled attributes low.1 f.form f.right to f.after in
      record {
        last = m.last;
        leads = m.leads;
        writes = λ x closes. (
          f.form,
          f.left,
          f.right,
          f.whole,
          f.writes (f.right ++ x) (λ u. attributes_close g g.rules.tight m.last attributes f.right x (subst (λ y. WritesAttributes (SpellsValue g) g.rules.tight y m.last attributes f.right x) u (m.writes x closes)) closes),
          m.writes x closes,
        );
      }

  -- ---- the tag

  -- what ends a tag
  record Ended (closes : Bool) (last : Quoting) (b : List ℕ) (to : State) : Type 0 where
    slash : Bool
    gap : List ℕ
    whole : b ≡ gap ++ tag_end slash
    apart : is_gap (slash && parts_slash last) gap ≡ true
    leads : to ≡ state_after_tag slash
    may : slash ≡ true → closes ≡ true
    closing : (x : List ℕ) → last ≡ unquoted → Closes (gap ++ (tag_end slash ++ x))

  abbrev plain_end : Edge
  plain_end = edge_to (62 ∷ []) first_state

  abbrev slashed_end : Quoting → Edge
  slashed_end last = edge (cond (is_after_unquoted (after_form last)) (codes " />") (codes "/>")) self_closed nothing

  ended : (closes : Bool) (last : Quoting) (b : List ℕ) (to : State) → WayTo es (tag_close closes ∷ []) (state (after_form last) nothing) b to → Ended closes last b to
  ended closes last b to (e, i, (rest, is, (none, same))) = by_closes closes refl (subst (λ l. IsIn e l) (has.ends closes (state (after_form last) nothing)) i)
    where
      bytes : (f : Edge) → e ≡ f → b ≡ f.bytes
      bytes f h = is ∙ ap (λ y. e.bytes ++ y) none ∙ append-nil e.bytes ∙ ap (λ x. x.bytes) h

      by_plain : e ≡ plain_end → Ended closes last b to
      by_plain h = record {
        slash = false;
        gap = [];
        whole = bytes plain_end h;
        apart = no_gap;
        leads = sym same ∙ ap (λ x. x.to) h;
        may = λ k. absurd (cc);
        closing = λ x u. bracket_closes x;
      }

      by_slash : closes ≡ true → e ≡ (slashed_end last) → Ended closes last b to
      by_slash k h = record {
        slash = true;
        gap = slash_gap last;
        whole = bytes (slashed_end last) h ∙ slash_bytes last;
        apart = slash_parts last;
        leads = sym same ∙ ap (λ x. x.to) h;
        may = λ j. k;
        closing = λ x u. end_closes true (slash_gap last) x (subst (λ f. is_gap (parts_slash f) (slash_gap last) ≡ true) u (slash_parts last));
      }

      by_closes : (k : Bool) → closes ≡ k → IsIn e (plain_end ∷ cond k ((slashed_end last) ∷ []) []) → Ended closes last b to
      by_closes false k j = by_plain (only e plain_end j)
      by_closes true k j = by_two (two_in e plain_end (slashed_end last) j)
        where
          by_two : (e ≡ plain_end) ⊎ (e ≡ (slashed_end last)) → Ended closes last b to
          by_two (inl h) = by_plain h
          by_two (inr h) = by_slash k h

  tag_bytes : (b n rest left right tail : List ℕ) → b ≡ (60 ∷ n) ++ rest → rest ≡ left ++ right → right ≡ tail → b ≡ 60 ∷ (n ++ (left ++ tail))
  tag_bytes b n rest left right tail is cut same = is ∙ ap (λ y. 60 ∷ (n ++ y)) (cut ∙ ap (λ y. left ++ y) same)

  tag_spelled : (n : List ℕ) (attributes : List Attribute) (closes : Bool) (from to : State) (b after : List ℕ) → map lower n ≡ n → AreLow attributes → WayTo es (tag_name n ∷ (attribute_units attributes ++ tag_close closes ∷ [])) from b to
      → TagSpelled g n attributes closes to b after
  tag_spelled n attributes closes from to b after low lows (e, i, (rest, is, w)) =
      let here = only e (edge (60 ∷ n) after_name nothing) (subst (λ l. IsIn e l) (has.names n from) i) in
      let p = way_parts es (attribute_units attributes) (tag_close closes ∷ []) (state after_name nothing) rest to (subst (λ x. WayTo es (attribute_units attributes ++ tag_close closes ∷ []) x.to rest to) here w) in
      let m = attributes_spelled attributes lows bare p.left p.middle p.before in
      let f = ended closes m.last p.right to (subst (λ s. WayTo es (tag_close closes ∷ []) s p.right to) m.leads p.after) in
      let cut = tag_bytes b n rest p.left p.right (f.gap ++ tag_end f.slash) (is ∙ ap (λ x. x.bytes ++ rest) here) p.whole f.whole in
      record {
        slash = f.slash;
        inner = n ++ (p.left ++ (f.gap ++ tag_end f.slash));
        is = cut;
        spells = record { written = n; last = m.last; middle = p.left; gap = f.gap; is = cut; lowered = low; attributed = m.writes (f.gap ++ (tag_end f.slash ++ after)) (λ u. f.closing after u); apart = f.apart };
        leads = f.leads;
        may = f.may;
      }

pub tags_spell : TagsSpell
tags_spell g table es has n attributes closes from to b after low lows w = tag_spelled g table es has n attributes closes from to b after low lows w
