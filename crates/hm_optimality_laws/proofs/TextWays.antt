-- Edges for a spelled text.
use Rattle.std.proofs.Common.{◌≡◌, ℕ, ◌≤◌, Bool, true, false, cond, List, [], ◌∷◌, ◌++◌, length, chars, refl, sym, ap, ◌∙◌, subst, append-nil, arith}
use Rattle.hm_base.specs.Walks.{Element, Event, text}
use Rattle.hm_graph_laws.specs.UnitEdges.{edges_of}
use Rattle.hm_refs.specs.Tables.{first, IsTable}
use Rattle.hm_spelling_spec.specs.Characters.{SpellsPoints}
use Rattle.hm_spelling_spec.specs.Spellings.{Before, spot_of, TextSp, wants_line_feed}
use Rattle.hm_spelling_spec.specs.Tags.{character_rules, Spelling}
use Rattle.hm_graph_laws.proofs.TextWays.{spellings_have_ways}
use Rattle.hm_graph_laws.specs.CharacterEdges.{spot_at}
use Rattle.hm_graph_laws.specs.Edges.{edge_to}
use Rattle.hm_graph_laws.specs.States.{outside, Pending, nothing, State, first_state, state}
use Rattle.hm_graph_laws.specs.Steps.{Fits, keeps}
use Rattle.hm_graph_laws.specs.Units.{character_units, fixed, kind_of, Previous, text_units, Unit}
use Rattle.hm_graph_laws.specs.UnitWays.{WayTo}
use Rattle.hm_optimality_laws.proofs.Between.{Agrees}
use Rattle.hm_optimality_laws.proofs.Feeds.{begins_feed, feed_cut, no_section_at}
use Rattle.hm_optimality_laws.proofs.Spots.{kind_spot, text_spot}
use Rattle.hm_optimality_laws.proofs.Texts.{feed_units, has_edges, may_begin}

-- edges of a text with no more bytes than b, to an end that is kept by what follows
pub record HasText (g : Spelling) (previous : Previous) (path : List Element) (s : List ℕ) (raw : Bool) (p : Pending) (b after : List ℕ) : Type 0 where
  pub to : State
  pub bytes : List ℕ
  pub way : WayTo (edges_of g) (text_units previous path s raw) (state outside p) bytes to
  pub there : to.at ≡ outside
  pub fits : Fits g.table (spot_of path) to.pending
  pub kept : keeps g.table (spot_of path) to.pending after ≡ true
  pub short : length bytes ≤ length b

-- the same for code points
record HasPoints (g : Spelling) (path : List Element) (cs : List ℕ) (p : Pending) (b after : List ℕ) : Type 0 where
  to : State
  bytes : List ℕ
  way : WayTo (edges_of g) (character_units (kind_of path) cs) (state outside p) bytes to
  there : to.at ≡ outside
  fits : Fits g.table (spot_of path) to.pending
  kept : keeps g.table (spot_of path) to.pending after ≡ true
  short : length bytes ≤ length b

module _ (g : Spelling) (table : IsTable g.table) where
  points_way : (path : List Element) (cs : List ℕ) (p : Pending) (b after : List ℕ) → Fits g.table (spot_of path) p → SpellsPoints g.table (character_rules g) (spot_of path) cs b after → keeps g.table (spot_of path) p (b ++ after) ≡ true → HasPoints g path cs p b after
  points_way path cs p b after f s k =
      let w = spellings_have_ways g.table table (character_rules g) (edges_of g) (has_edges g) (kind_of path) cs (state outside p) b after (may_begin g.table path p f)
      (subst (λ spot. SpellsPoints g.table (character_rules g) spot cs b after) (sym (kind_spot path)) s) (subst (λ spot. keeps g.table spot p (b ++ after) ≡ true) (sym (kind_spot path)) k) in
      let same = ap (λ a. spot_at (kind_of path) a) w.same_place ∙ kind_spot path in
      record {
        to = w.to;
        bytes = w.bytes;
        way = w.way;
        there = w.same_place;
        fits = subst (λ spot. Fits g.table spot w.to.pending) same w.ends.fits;
        kept = subst (λ spot. keeps g.table spot w.to.pending after ≡ true) same w.kept;
        short = w.short;
      }

  pub text_way : (before : Before) (previous : Previous) (path : List Element) (s : List ℕ) (raw : Bool) (w : List Event) (p : Pending) (b after : List ℕ) → Agrees g.table before previous path outside p (text s raw ∷ w) → TextSp g before path s raw b after → keeps g.table (spot_of path) p (b ++ after) ≡ true
      → HasText g previous path s raw p b after
  text_way before previous path s true w p b after a is k = record {
    to = first_state;
    bytes = s ++ [];
    way = (edge_to s first_state, first [], ([], refl, (refl, refl)));
    there = refl;
    fits = tt;
    kept = refl;
    short = omega (arith, ap length is, ap length (append-nil s));
  }
  text_way before previous path s false w p b after a t k = by_feed (wants_line_feed before path (chars s)) refl t
    where
      Feed : Bool → List Unit
      Feed v = cond v (fixed (10 ∷ []) ∷ []) []

      with_units : (v : Bool) → wants_line_feed before path (chars s) ≡ v → (bytes : List ℕ) (to : State) → WayTo (edges_of g) (Feed v ++ character_units (kind_of path) (chars s)) (state outside p) bytes to → WayTo (edges_of g) (text_units previous path s false) (state outside p) bytes to
      with_units v e bytes to way = subst (λ us. WayTo (edges_of g) (us ++ character_units (kind_of path) (chars s)) (state outside p) bytes to) (sym (feed_units before previous path (chars s) (a.after_start refl) ∙ ap Feed e)) way

      by_feed : (v : Bool) → wants_line_feed before path (chars s) ≡ v → SpellsPoints g.table (character_rules g) (spot_of path) (cond v (10 ∷ chars s) (chars s)) b after → HasText g previous path s false p b after
      by_feed false e t =
          let r = points_way path (chars s) p b after a.fits t k in
          record { to = r.to; bytes = r.bytes; way = with_units false e r.bytes r.to r.way; there = r.there; fits = r.fits; kept = r.kept; short = r.short }
      by_feed true e t =
          let (ds, is) = begins_feed before path (chars s) e in
          let c = feed_cut g.table table (character_rules g) (spot_of path) (text_spot path) (no_section_at before path (chars s) e) ds b after (subst (λ x. SpellsPoints g.table (character_rules g) (spot_of path) (10 ∷ x) b after) is t) in
          let r = points_way path (chars s) nothing c.bytes after tt (subst (λ x. SpellsPoints g.table (character_rules g) (spot_of path) x c.bytes after) (sym is) c.spells) refl in
          record {
            to = r.to;
            bytes = 10 ∷ r.bytes;
            way = with_units true e (10 ∷ r.bytes) r.to (edge_to (10 ∷ []) first_state, first [], (r.bytes, refl, r.way));
            there = r.there;
            fits = r.fits;
            kept = r.kept;
            short = omega (arith, c.short, r.short);
          }
