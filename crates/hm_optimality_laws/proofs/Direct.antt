-- A tree has a way (path through the layered graph): every tag is written, and a character stands as itself or is a
-- reference by its number.
use Rattle.std.proofs.Common.{◌≡◌, ℕ, Bool, true, false, cond, not, ◌&&◌, ◌||◌, ◌==◌, nat_lt, List, [], ◌∷◌, ◌++◌, Option, Some, None, is_none, is_some, codes, chars, encode_utf8, refl, sym, ap, ◌∙◌, subst}
use Rattle.std.specs.Fmt as digits
use Rattle.std.proofs.lemmas.Bool.{eqb-true, false_from_ne_true}
use Rattle.hm_graph_laws.specs.AttributeEdges.{gap_at}
use Rattle.hm_base.specs.Bytes.{is_space}
use Rattle.hm_base.specs.Walks.{Attribute, Event, doctype, start, text, comment, end, Element}
use Rattle.hm_elements.specs.Paths.{outer}
use Rattle.hm_elements.specs.Tables.{is_void}
use Rattle.hm_graph_laws.specs.UnitEdges.{edges_of}
use Rattle.hm_graph_laws.specs.Ways.{Way}
use Rattle.hm_refs.specs.Names.{Entry}
use Rattle.hm_refs.specs.Numbers.{best_number, point_of}
use Rattle.hm_refs.specs.Tables.{first, IsIn, later}
use Rattle.hm_spelling_spec.specs.Characters as spots
use Rattle.hm_spelling_spec.specs.Characters.{CharacterRules, is_barred, is_value, is_writable, may_stand, may_stand_in, Spot}
use Rattle.hm_spelling_spec.specs.Omission.{may_omit_end, start_falls}
use Rattle.hm_spelling_spec.specs.Tags.{character_rules, Spelling}
use Rattle.hm_graph_laws.specs.TagEdges.{end_bytes, start_bytes}
use Rattle.hm_graph_laws.proofs.CharacterWays.{choice_in}
use Rattle.hm_graph_laws.proofs.In.{in_left, in_right}
use Rattle.hm_graph_laws.specs.CharacterEdges.{as_itself, after_name, by_decimal, by_hexadecimal, by_names, by_pairs, by_references, choice, choices, is_in_section, kept_at, spot_at}
use Rattle.hm_graph_laws.proofs.Splits.{join_ways}
use Rattle.hm_graph_laws.specs.Edges.{Edge, edge, edge_to}
use Rattle.hm_graph_laws.specs.States.{Where, after_name as at_name, after_quoted, decimal, in_double, in_single, in_unquoted, nothing, outside, State, first_state, state}
use Rattle.hm_graph_laws.specs.Steps.{run}
use Rattle.hm_graph_laws.specs.Units.{attribute_end, attribute_name, attribute_units, bare_attribute, character, character_units, doctype_bytes, end_tag, end_units, fixed, in_value, is_required_after_omission, is_omission_noted, kind_of, line_feed_units, may_close_itself, next_of, Previous, start_tag, start_units, tag_close, tag_name, text_units, TextKind, Unit, units_from}
use Rattle.hm_graph_laws.specs.UnitWays.{WayTo}
use Rattle.hm_optimality_laws.specs.SpellingLaws.{AlwaysStands, SparesOnlyPlain, TreesHaveWays}
use Rattle.hm_optimality_laws.proofs.Cuts.{joined}
use Rattle.hm_optimality_laws.proofs.Order.{element}
use Rattle.hm_optimality_laws.proofs.TagEdges.{into_end_written, into_written}

-- ---- characters

-- a character without a number is none of these
record HasNumbers : Type 0 where
  tab : is_some (best_number 9) ≡ true
  feed : is_some (best_number 10) ≡ true
  form : is_some (best_number 12) ≡ true
  return : is_some (best_number 13) ≡ true
  space : is_some (best_number 32) ≡ true
  double : is_some (best_number 34) ≡ true
  amp : is_some (best_number 38) ≡ true
  single : is_some (best_number 39) ≡ true
  lt : is_some (best_number 60) ≡ true
  equals : is_some (best_number 61) ≡ true
  gt : is_some (best_number 62) ≡ true
  grave : is_some (best_number 96) ≡ true

numbers : HasNumbers
unfolding best_number point_of
numbers = record { tab = refl; feed = refl; form = refl; return = refl; space = refl; double = refl; amp = refl; single = refl; lt = refl; equals = refl; gt = refl; grave = refl }

other_than : (c d : ℕ) → best_number c ≡ None → is_some (best_number d) ≡ true → (c == d) ≡ false
other_than c d none some = false_from_ne_true (c == d) (λ e. let k : is_some (best_number c) ≡ true = subst (λ x. is_some (best_number x) ≡ true) (sym (eqb-true c d e)) some in let m : false ≡ true = sym (ap is_some none) ∙ k in cc)

no_number : (c : ℕ) → best_number c ≡ None → AlwaysStands c
unfolding may_stand is_writable is_barred is_space
no_number c none = record { stands = stands; no_amp = other_than c 38 none numbers.amp; no_lt = other_than c 60 none numbers.lt }
  where
    written : (ascii low : Bool) → (not ascii || (low || true)) ≡ true
    written true true = refl
    written true false = refl
    written false low = refl

    writable : (ascii : Bool) → (not (c == 13) && (not ascii || (nat_lt c 128 || is_none (best_number c)))) ≡ true
    writable ascii = rw (other_than c 13 none numbers.return, none) (written ascii (nat_lt c 128))

    stands_in : (spot : Spot) → may_stand_in spot c ≡ true
    stands_in spots.text = refl
    stands_in spots.rcdata = refl
    stands_in spots.foreign = refl
    stands_in spots.unquoted = rw (
      other_than c 9 none numbers.tab,
      other_than c 10 none numbers.feed,
      other_than c 12 none numbers.form,
      other_than c 13 none numbers.return,
      other_than c 32 none numbers.space,
      other_than c 34 none numbers.double,
      other_than c 39 none numbers.single,
      other_than c 61 none numbers.equals,
      other_than c 60 none numbers.lt,
      other_than c 62 none numbers.gt,
      other_than c 96 none numbers.grave,
    ) refl
    stands_in spots.double = rw (other_than c 34 none numbers.double) refl
    stands_in spots.single = rw (other_than c 39 none numbers.single) refl

    stands : (ascii : Bool) (spot : Spot) → may_stand ascii spot c ≡ true
    stands ascii spot = rw (writable ascii, stands_in spot) refl

run_nothing : (t : List Entry) (spot : Spot) (s : List ℕ) → run t spot (Some nothing) s ≡ Some nothing
run_nothing t spot [] = refl
run_nothing t spot (c ∷ s) = run_nothing t spot s

-- a choice after which nothing is pending
record Calm (t : List Entry) (rules : CharacterRules) (spot : Spot) (c : ℕ) (next : Option ℕ) : Type 0 where
  bytes : List ℕ
  among : IsIn (choice bytes nothing) (choices t rules spot c next nothing)

stands_here : (t : List Entry) (rules : CharacterRules) (spot : Spot) (c : ℕ) → AlwaysStands c → IsIn (choice (encode_utf8 c) nothing) (as_itself t rules spot c nothing)
unfolding as_itself
stands_here t rules spot c s = rw (s.stands rules.ascii spot, run_nothing t spot (encode_utf8 c), s.no_amp, s.no_lt) (first [])

calm_itself : (t : List Entry) (rules : CharacterRules) (spot : Spot) (c : ℕ) (next : Option ℕ) → AlwaysStands c → Calm t rules spot c next
calm_itself t rules spot c next s = record { bytes = encode_utf8 c; among = in_left (choice (encode_utf8 c) nothing) (as_itself t rules spot c nothing) (cond (true && rules.refers c) (by_references t c next) []) (stands_here t rules spot c s) }

calm_number : (t : List Entry) (rules : CharacterRules) (spot : Spot) (c : ℕ) (next : Option ℕ) (n : ℕ) → rules.refers c ≡ true → best_number c ≡ Some n → Calm t rules spot c next
calm_number t rules spot c next n r e =
    let b = codes "&#" ++ (digits.decimal n ++ codes ";") in
    let open_one = choice (codes "&#" ++ digits.decimal n) decimal in
    record {
      bytes = b;
      among = in_right (choice b nothing) (as_itself t rules spot c nothing) (cond (true && rules.refers c) (by_references t c next) [])
          (rw r (in_right (choice b nothing) (by_names after_name (c ∷ []) t) (by_pairs t c next ++ (by_decimal (best_number c) ++ by_hexadecimal c))
          (in_right (choice b nothing) (by_pairs t c next) (by_decimal (best_number c) ++ by_hexadecimal c) (rw e (later open_one (choice b nothing ∷ by_hexadecimal c) (first (by_hexadecimal c)))))));
    }

calm : (t : List Entry) (rules : CharacterRules) → ((c : ℕ) → rules.refers c ≡ false → AlwaysStands c) → (spot : Spot) (c : ℕ) (next : Option ℕ) → Calm t rules spot c next
calm t rules plain spot c next = by_refers (rules.refers c) (best_number c) refl refl
  where
    by_refers : (r : Bool) (o : Option ℕ) → rules.refers c ≡ r → best_number c ≡ o → Calm t rules spot c next
    by_refers false o hr ho = calm_itself t rules spot c next (plain c hr)
    by_refers true None hr ho = calm_itself t rules spot c next (no_number c ho)
    by_refers true (Some n) hr ho = calm_number t rules spot c next n hr ho

-- ---- ways over some units

record Over (g : Spelling) (us : List Unit) (from to : State) : Type 0 where
  bytes : List ℕ
  way : WayTo (edges_of g) us from bytes to

module _ (g : Spelling) where
  none : (s : State) → Over g [] s s
  none s = record { bytes = []; way = (refl, refl) }

  add : (unit : Unit) (us : List Unit) (from to : State) (e : Edge) → IsIn e (edges_of g unit from) → Over g us e.to to → Over g (unit ∷ us) from to
  add unit us from to e i o = record { bytes = e.bytes ++ o.bytes; way = (e, i, (o.bytes, refl, o.way)) }

  join : (us vs : List Unit) (from middle to : State) → Over g us from middle → Over g vs middle to → Over g (us ++ vs) from to
  join us vs from middle to o p = record { bytes = o.bytes ++ p.bytes; way = join_ways (edges_of g) us vs from middle to o.bytes p.bytes o.way p.way }

  -- ---- texts and values

  chars_over : SparesOnlyPlain g → (kind : TextKind) (at : Where) → is_in_section at ≡ false → (cs : List ℕ) → Over g (character_units kind cs) (state at nothing) (state at nothing)
  chars_over plain kind at h [] = none (state at nothing)
  chars_over plain kind at h (c ∷ cs) =
      let k = calm g.table (character_rules g) plain (spot_at kind at) c (next_of cs) in
      add (character kind c (next_of cs)) (character_units kind cs) (state at nothing) (state at nothing) (kept_at at (choice k.bytes nothing))
      (choice_in g.table (character_rules g) kind at c (next_of cs) nothing (choice k.bytes nothing) h k.among) (chars_over plain kind at h cs)

  text_over : SparesOnlyPlain g → (previous : Previous) (path : List Element) (s : List ℕ) (raw : Bool) → Over g (text_units previous path s raw) first_state first_state
  text_over plain previous path s true = add (fixed s) [] first_state first_state (edge_to s first_state) (first []) (none first_state)
  text_over plain previous path s false = join (line_feed_units previous path (chars s)) (character_units (kind_of path) (chars s)) first_state first_state first_state (by_feed _) (chars_over plain (kind_of path) outside refl (chars s))
    where
      by_feed : (v : Bool) → Over g (cond v (fixed (10 ∷ []) ∷ []) []) first_state first_state
      by_feed true = add (fixed (10 ∷ [])) [] first_state first_state (edge_to (10 ∷ []) first_state) (first []) (none first_state)
      by_feed false = none first_state

  -- ---- tags

  -- a state after attributes
  record Attributed (attributes : List Attribute) (from : State) : Type 0 where
    to : State
    over : Over g (attribute_units attributes) from to

  attribute_over : SparesOnlyPlain g → (n v : List ℕ) (attributes : List Attribute) (from : State) → ((s : State) → Attributed attributes s) → Attributed (record { name = n; value = v } ∷ attributes) from
  attribute_over plain n [] attributes from more =
      let m = more (state at_name nothing) in
      record { to = m.to; over = add (bare_attribute n) (attribute_units attributes) from m.to (edge (gap_at g.rules.tight from.at ++ n) at_name nothing) (first []) m.over }
  attribute_over plain n (c ∷ s) attributes from more =
      let m = more (state after_quoted nothing) in
      let opens = edge (gap_at g.rules.tight from.at ++ (n ++ codes "=\"")) in_double nothing in
      let closes = add attribute_end [] (state in_double nothing) (state after_quoted nothing) (edge (34 ∷ []) after_quoted nothing) (first []) (none (state after_quoted nothing)) in
      let inside = join (character_units in_value (chars (c ∷ s))) (attribute_end ∷ []) (state in_double nothing) (state in_double nothing) (state after_quoted nothing) (chars_over plain in_value in_double refl (chars (c ∷ s))) closes in
      record {
        to = m.to;
        over = add (attribute_name n (chars (c ∷ s))) ((character_units in_value (chars (c ∷ s)) ++ attribute_end ∷ []) ++ attribute_units attributes) from m.to opens
            (in_right opens (cond g.rules.unquote (edge (gap_at g.rules.tight from.at ++ (n ++ codes "=")) in_unquoted nothing ∷ []) []) (opens ∷ edge (gap_at g.rules.tight from.at ++ (n ++ codes "='")) in_single nothing ∷ []) (first (edge (gap_at g.rules.tight from.at ++ (n ++ codes "='")) in_single nothing ∷ [])))
            (join (character_units in_value (chars (c ∷ s)) ++ attribute_end ∷ []) (attribute_units attributes) (state in_double nothing) (state after_quoted nothing) m.to inside m.over);
      }

  attributes_over : SparesOnlyPlain g → (attributes : List Attribute) (from : State) → Attributed attributes from
  attributes_over plain [] from = record { to = from; over = none from }
  attributes_over plain (a ∷ attributes) from = attribute_over plain a.name a.value attributes from (λ s. attributes_over plain attributes s)

  start_over : SparesOnlyPlain g → (previous : Previous) (n : List ℕ) (foreign : Bool) (attributes : List Attribute) (w : List Event) → Over g (start_units g.rules previous n foreign attributes w) first_state first_state
  start_over plain previous n foreign [] w =
      add (start_tag n (g.rules.omit && (not foreign && start_falls g.rules.frame n w)) (is_required_after_omission previous n) (may_close_itself foreign w)) [] first_state first_state (edge_to (start_bytes n) first_state)
      (into_written n (g.rules.omit && (not foreign && start_falls g.rules.frame n w)) (is_required_after_omission previous n) (may_close_itself foreign w) first_state) (none first_state)
  start_over plain previous n foreign (x ∷ attributes) w =
      let a = attributes_over plain (x ∷ attributes) (state at_name nothing) in
      let closes = add (tag_close (may_close_itself foreign w)) [] a.to first_state (edge_to (62 ∷ []) first_state) (first _) (none first_state) in
      add (tag_name n) (attribute_units (x ∷ attributes) ++ tag_close (may_close_itself foreign w) ∷ []) first_state first_state (edge (60 ∷ n) at_name nothing) (first [])
      (join (attribute_units (x ∷ attributes)) (tag_close (may_close_itself foreign w) ∷ []) (state at_name nothing) a.to first_state a.over closes)

  end_over : (n : List ℕ) (foreign : Bool) (path : List Element) (w : List Event) → Over g (end_units g.rules n foreign path w) first_state first_state
  end_over n foreign path w = by_void (not foreign && is_void n)
    where
      by_void : (v : Bool) → Over g (cond v [] (end_tag n (may_omit_end g.rules n foreign path w) (is_omission_noted n) ∷ [])) first_state first_state
      by_void true = none first_state
      by_void false =
          add (end_tag n (may_omit_end g.rules n foreign path w) (is_omission_noted n)) [] first_state first_state (edge_to (end_bytes n) first_state)
          (into_end_written n (may_omit_end g.rules n foreign path w) (is_omission_noted n) first_state refl) (none first_state)

  -- ---- all events

  in_front : (us vs : List Unit) → Over g us first_state first_state → (b : List ℕ) × Way (edges_of g) vs first_state b → (b : List ℕ) × Way (edges_of g) (us ++ vs) first_state b
  in_front us vs o (b, w) = (o.bytes ++ b, joined (edges_of g) us vs first_state first_state o.bytes b o.way w)

  written_way : SparesOnlyPlain g → (w : List Event) (previous : Previous) (path : List Element) → (b : List ℕ) × Way (edges_of g) (units_from g.rules previous path w) first_state b
  written_way plain [] previous path = ([], refl)
  written_way plain (doctype legacy ∷ w) previous path =
      in_front (fixed (doctype_bytes legacy) ∷ []) (units_from g.rules (Some (doctype legacy)) path w) (add (fixed (doctype_bytes legacy)) [] first_state first_state (edge_to (doctype_bytes legacy) first_state) (first []) (none first_state)) (written_way plain w (Some (doctype legacy)) path)
  written_way plain (comment s ∷ w) previous path =
      let b = codes "<!--" ++ (s ++ codes "-->") in
      in_front (fixed b ∷ []) (units_from g.rules (Some (comment s)) path w) (add (fixed b) [] first_state first_state (edge_to b first_state) (first []) (none first_state)) (written_way plain w (Some (comment s)) path)
  written_way plain (text s raw ∷ w) previous path = in_front (text_units previous path s raw) (units_from g.rules (Some (text s raw)) path w) (text_over plain previous path s raw) (written_way plain w (Some (text s raw)) path)
  written_way plain (start n foreign attributes ∷ w) previous path =
      in_front (start_units g.rules previous n foreign attributes w) (units_from g.rules (Some (start n foreign attributes)) (element n foreign ∷ path) w) (start_over plain previous n foreign attributes w) (written_way plain w (Some (start n foreign attributes)) (element n foreign ∷ path))
  written_way plain (end n foreign ∷ w) previous path =
      in_front (end_units g.rules n foreign (outer path) w) (units_from g.rules (Some (end n foreign)) (outer path) w) (end_over n foreign (outer path) w) (written_way plain w (Some (end n foreign)) (outer path))

pub trees_have_ways : TreesHaveWays
trees_have_ways g plain w = written_way g plain w None []
