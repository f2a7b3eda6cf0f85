-- Texts along edges: what they spell, and where they end.
use Rattle.std.proofs.Common.{◌≡◌, ℕ, Bool, true, false, cond, not, ◌&&◌, ◌||◌, List, [], ◌∷◌, ◌++◌, chars, refl, sym, ap, ◌∙◌, subst, append-nil, arith}
use Rattle.std.proofs.lemmas.Bool.{and_parts, or_left, or_right}
use Rattle.std.proofs.lemmas.Str.{encode_ascii}
use Rattle.hm_graph_laws.specs.AttributeLaws.{HasTagEdges}
use Rattle.hm_base.specs.Bytes.{head_is}
use Rattle.hm_base.specs.Walks.{Element, Event, text}
use Rattle.hm_elements.specs.Paths.{is_in_raw, is_in_text}
use Rattle.hm_elements.specs.Tables.{holds_text, is_raw}
use Rattle.hm_graph_laws.specs.UnitEdges.{edges_of}
use Rattle.hm_refs.specs.Tables.{IsTable}
use Rattle.hm_refs.specs.Names.{Entry}
use Rattle.hm_spelling_spec.specs.Characters as spots
use Rattle.hm_spelling_spec.specs.Characters.{CharacterRules, Spot, is_barred, is_value, is_writable, itself, may_stand, spelled, SpellsPoints, stays}
use Rattle.hm_spelling_spec.specs.Spellings.{Before, drops_first_line_feed, is_line_feed, is_opening, opening, other, spot_of, TextSp, wants_line_feed}
use Rattle.hm_spelling_spec.specs.Tags.{character_rules, Spelling}
use Rattle.hm_graph_laws.proofs.Ends.{ways_end}
use Rattle.hm_graph_laws.proofs.In.{only}
use Rattle.hm_graph_laws.proofs.CharactersSpelled.{ways_spell}
use Rattle.hm_graph_laws.specs.CharacterEdges.{spot_at}
use Rattle.hm_graph_laws.specs.CharacterLaws.{HasCharacterEdges, keeps_at, MayStand}
use Rattle.hm_graph_laws.specs.Edges.{edge_to}
use Rattle.hm_graph_laws.specs.States.{outside, Pending, nothing, State, first_state, state}
use Rattle.hm_graph_laws.specs.Steps.{Fits, keeps}
use Rattle.hm_graph_laws.specs.Units.{character_units, fixed, is_after_start, kind_of, line_feed_units, Previous, text_units, Unit}
use Rattle.hm_graph_laws.specs.UnitWays.{WayTo}
use Rattle.hm_optimality_laws.proofs.Between.{Agrees}
use Rattle.hm_optimality_laws.proofs.Spots.{kind_spot, kind_stands, text_spot}

pub has_edges : (g : Spelling) → HasCharacterEdges g.table (character_rules g) (edges_of g)
has_edges g kind c next s = refl

pub tag_edges : (g : Spelling) → HasTagEdges g (edges_of g)
tag_edges g = record { names = λ n s. refl; bare_ones = λ n s. refl; openings = λ n v s. refl; characters = has_edges g; closings = λ s. refl; ends = λ closes s. refl }

-- a text may begin outside of all
pub may_begin : (t : List Entry) (path : List Element) (p : Pending) → Fits t (spot_of path) p → MayStand t (kind_of path) (state outside p)
may_begin t path p f = record { place = kind_stands path; fits = subst (λ spot. Fits t spot p) (sym (kind_spot path)) f }

-- ---- a line feed that isn't read

opening_cond : (b : Bool) → is_opening (cond b opening other) ≡ b
opening_cond true = refl
opening_cond false = refl

pub feed_units : (before : Before) (previous : Previous) (path : List Element) (cs : List ℕ) → is_opening before ≡ is_after_start previous → line_feed_units previous path cs ≡ cond (wants_line_feed before path cs) (fixed (10 ∷ []) ∷ []) []
feed_units before previous path cs o =
    let U : Bool → List Unit = λ b. cond (b && (drops_first_line_feed path && head_is is_line_feed cs)) (fixed (10 ∷ []) ∷ []) [] in
    ap U (opening_cond (is_after_start previous) ∙ sym o)

-- where one is due, it is the first thing in its element
pub feed_first : (before : Before) (previous : Previous) (path : List Element) (cs : List ℕ) → is_opening before ≡ is_after_start previous → wants_line_feed before path cs ≡ true → is_in_text path || (is_after_start previous && drops_first_line_feed path) ≡ true
feed_first before previous path cs o h =
    let two = and_parts (is_opening before) (drops_first_line_feed path && head_is is_line_feed cs) h in
    let drops = (and_parts (drops_first_line_feed path) (head_is is_line_feed cs) two.1).0 in
    or_right (is_in_text path) (is_after_start previous && drops_first_line_feed path) (rw (sym o ∙ two.0, drops) refl)

feed_stands : (ascii : Bool) (spot : Spot) → is_value spot ≡ false → may_stand ascii spot 10 ≡ true
unfolding may_stand is_writable
feed_stands true spots.text v = refl
feed_stands true spots.rcdata v = refl
feed_stands true spots.foreign v = refl
feed_stands false spots.text v = refl
feed_stands false spots.rcdata v = refl
feed_stands false spots.foreign v = refl
feed_stands ascii spots.unquoted v = absurd (cc)
feed_stands ascii spots.double v = absurd (cc)
feed_stands ascii spots.single v = absurd (cc)

feed_stays : (t : List Entry) (spot : Spot) (after : List ℕ) → stays t spot 10 after ≡ true
unfolding stays
feed_stays t spot after = refl

-- a line feed as itself before the others
pub with_feed : (t : List Entry) (rules : CharacterRules) (spot : Spot) (cs b after : List ℕ) → is_value spot ≡ false → SpellsPoints t rules spot cs b after → SpellsPoints t rules spot (10 ∷ cs) (10 ∷ b) after
with_feed t rules spot cs b after v s = record {
  pieces = itself 10 ∷ s.pieces;
  whole = ap (λ w. w ++ spelled s.pieces) (encode_ascii 10 (omega arith)) ∙ ap (λ w. 10 ∷ w) s.whole;
  means = ap (λ w. 10 ∷ w) s.means;
  allowed = ((feed_stands rules.ascii spot v, feed_stays t spot _), s.allowed);
}

-- ---- texts

pub record TextSpelled (g : Spelling) (before : Before) (path : List Element) (s : List ℕ) (raw : Bool) (p : Pending) (b after : List ℕ) : Type 0 where
  pub spells : TextSp g before path s raw b after
  pub kept : keeps g.table (spot_of path) p (b ++ after) ≡ true

raw_in_text : (path : List Element) → is_in_raw path ≡ true → is_in_text path ≡ true
unfolding holds_text
raw_in_text [] h = absurd (cc)
raw_in_text (e ∷ path) h = let two = and_parts (not e.foreign) (is_raw e.name) h in rw (two.0, two.1) refl

module _ (g : Spelling) (table : IsTable g.table) where
  chars_end : (path : List Element) (cs : List ℕ) (p : Pending) (b : List ℕ) (to : State) → Fits g.table (spot_of path) p → WayTo (edges_of g) (character_units (kind_of path) cs) (state outside p) b to → (to.at ≡ outside) × Fits g.table (spot_of path) to.pending
  chars_end path cs p b to f w =
      let e = ways_end g.table table (character_rules g) (edges_of g) (has_edges g) (kind_of path) cs (state outside p) to b (may_begin g.table path p f) w in
      (e.same_place, subst (λ spot. Fits g.table spot to.pending) (ap (λ a. spot_at (kind_of path) a) e.same_place ∙ kind_spot path) e.ends.fits)

  chars_spell : (path : List Element) (cs : List ℕ) (p : Pending) (b after : List ℕ) (to : State) → Fits g.table (spot_of path) p → WayTo (edges_of g) (character_units (kind_of path) cs) (state outside p) b to → keeps g.table (spot_of path) to.pending after ≡ true
      → SpellsPoints g.table (character_rules g) (spot_of path) cs b after × (keeps g.table (spot_of path) p (b ++ after) ≡ true)
  chars_spell path cs p b after to f w k =
      let (here, fits) = chars_end path cs p b to f w in
      let kept : keeps_at g.table (kind_of path) to after ≡ true = subst (λ spot. keeps g.table spot to.pending after ≡ true) (sym (ap (λ a. spot_at (kind_of path) a) here ∙ kind_spot path)) k in
      let s = ways_spell g.table table (character_rules g) (edges_of g) (has_edges g) (kind_of path) cs (state outside p) to b after (may_begin g.table path p f) w kept in (
        subst (λ spot. SpellsPoints g.table (character_rules g) spot cs b after) (kind_spot path) s.spells,
        subst (λ spot. keeps g.table spot p (b ++ after) ≡ true) (kind_spot path) s.kept,
      )

  -- the same with a line feed at the start that isn't read
  abbrev FeedWay : List Element → List ℕ → Pending → List ℕ → State → Bool → Type 0
  FeedWay path cs p b to v = WayTo (edges_of g) (cond v (fixed (10 ∷ []) ∷ []) [] ++ character_units (kind_of path) cs) (state outside p) b to

  feed_way : (before : Before) (previous : Previous) (path : List Element) (s : List ℕ) (p : Pending) (b : List ℕ) (to : State) → is_opening before ≡ is_after_start previous
      → WayTo (edges_of g) (text_units previous path s false) (state outside p) b to → FeedWay path (chars s) p b to (wants_line_feed before path (chars s))
  feed_way before previous path s p b to o w = subst (λ us. WayTo (edges_of g) (us ++ character_units (kind_of path) (chars s)) (state outside p) b to) (feed_units before previous path (chars s) o) w

  feed_end : (path : List Element) (cs : List ℕ) (p : Pending) (b : List ℕ) (to : State) → Fits g.table (spot_of path) p → (v : Bool) → FeedWay path cs p b to v → (to.at ≡ outside) × Fits g.table (spot_of path) to.pending
  feed_end path cs p b to f false w = chars_end path cs p b to f w
  feed_end path cs p b to f true (e, i, (rest, is, w)) = chars_end path cs nothing rest to tt (subst (λ x. WayTo (edges_of g) (character_units (kind_of path) cs) x.to rest to) (only e (edge_to (10 ∷ []) first_state) i) w)

  feed_spell : (path : List Element) (cs : List ℕ) (p : Pending) (b after : List ℕ) (to : State) → Fits g.table (spot_of path) p → keeps g.table (spot_of path) to.pending after ≡ true → (v : Bool) → (v ≡ true → p ≡ nothing) → FeedWay path cs p b to v
      → SpellsPoints g.table (character_rules g) (spot_of path) (cond v (10 ∷ cs) cs) b after × (keeps g.table (spot_of path) p (b ++ after) ≡ true)
  feed_spell path cs p b after to f k false q w = chars_spell path cs p b after to f w k
  feed_spell path cs p b after to f k true q (e, i, (rest, is, w)) =
      let same = only e (edge_to (10 ∷ []) first_state) i in
      let s = chars_spell path cs nothing rest after to tt (subst (λ x. WayTo (edges_of g) (character_units (kind_of path) cs) x.to rest to) same w) k in (
        subst (λ w. SpellsPoints g.table (character_rules g) (spot_of path) (10 ∷ cs) w after) (sym (is ∙ ap (λ x. x.bytes ++ rest) same)) (with_feed g.table (character_rules g) (spot_of path) cs rest after (text_spot path) s.0),
        subst (λ z. keeps g.table (spot_of path) z (b ++ after) ≡ true) (sym (q refl)) refl,
      )

  pub text_end : (before : Before) (previous : Previous) (path : List Element) (s : List ℕ) (raw : Bool) (w : List Event) (p : Pending) (b : List ℕ) (to : State) → Agrees g.table before previous path outside p (text s raw ∷ w)
      → WayTo (edges_of g) (text_units previous path s raw) (state outside p) b to → (to.at ≡ outside) × Fits g.table (spot_of path) to.pending
  text_end before previous path s true w p b to a (e, i, (rest, is, (none, same))) =
      let k : first_state ≡ to = ap (λ x. x.to) (sym (only e (edge_to s first_state) i)) ∙ same in
      (sym (ap (λ z. z.at) k), subst (λ z. Fits g.table (spot_of path) z.pending) k tt)
  text_end before previous path s false w p b to a way = feed_end path (chars s) p b to a.fits (wants_line_feed before path (chars s)) (feed_way before previous path s p b to (a.after_start refl) way)

  pub text_spell : (before : Before) (previous : Previous) (path : List Element) (s : List ℕ) (raw : Bool) (w : List Event) (p : Pending) (b after : List ℕ) (to : State) → raw ≡ is_in_raw path → Agrees g.table before previous path outside p (text s raw ∷ w)
      → WayTo (edges_of g) (text_units previous path s raw) (state outside p) b to → keeps g.table (spot_of path) to.pending after ≡ true → TextSpelled g before path s raw p b after
  text_spell before previous path s true w p b after to kind a (e, i, (rest, is, (none, same))) k =
      let written : b ≡ s = is ∙ ap (λ x. x.bytes ++ rest) (only e (edge_to s first_state) i) ∙ ap (λ x. s ++ x) none ∙ append-nil s in
      let q : p ≡ nothing = a.quiet (or_left (is_in_text path) _ (raw_in_text path (sym kind))) in
      record { spells = written; kept = subst (λ z. keeps g.table (spot_of path) z (b ++ after) ≡ true) (sym q) refl }
  text_spell before previous path s false w p b after to kind a way k =
      let o = a.after_start refl in
      let r = feed_spell path (chars s) p b after to a.fits k (wants_line_feed before path (chars s)) (λ v. a.quiet (feed_first before previous path (chars s) o v)) (feed_way before previous path s p b to o way) in
      record { spells = r.0; kept = r.1 }
