-- What holds of fragments, and of pages that close their body.
use Rattle.std.specs.Prelude.{◌≡◌, ℕ, ◌+◌, ◌≤◌, true, List, [], ◌∷◌, ◌++◌, length, Some, None}
use Rattle.hm_base.specs.Walks.{Event}
use Rattle.hm_refs.specs.Names.{Entry}
use Rattle.hm_refs.specs.Tables.{IsTable}
use Rattle.hm_token_laws.specs.Laws.{IsPlain}
use Rattle.hm_construction_laws.specs.Steps.{first_state}
use Rattle.hm_construction_laws.specs.Trees.{built, tree_from, page_tree}
use Rattle.hm_base.specs.declared.plain.SpellRules.{SpellRules}
use Rattle.hm_base.specs.declared.plain.TreeOptions.{TreeOptions}
use Rattle.hm_options.specs.Rewrites.{rewrite}
use Rattle.hm_elements.specs.Settled.{Settled}
use Rattle.hm_graph_laws.specs.UnitEdges.{edges_of}
use Rattle.hm_graph_laws.specs.Ways.{first_way}
use Rattle.hm_graph_laws.specs.States.{first_state as first_way_state}
use Rattle.hm_graph_laws.specs.Units.{units_of}
use Rattle.hm_graph_laws.specs.ExchangeLaws.{sparing_plain}
use Rattle.hm_construction_laws.specs.Closing.{closed_from, closed_at}
use Rattle.hm_spelling_spec.specs.Spellings.{Shortest, Spells}
use Rattle.hm_fragment.specs.Fragments.{fragment_tree}
use Rattle.hm_fragment.specs.Frames.{front, framed, unframed, IsFramed}

-- `</body>`
abbrev pub body_end : List ℕ
body_end = 60 ∷ 47 ∷ 98 ∷ 111 ∷ 100 ∷ 121 ∷ 62 ∷ []

-- A text that is read as a tree and closes its body isn't read as any tree with one more end tag of body after it.
abbrev pub ClosedPagesTakeNoEndTag : Type 0
ClosedPagesTakeNoEndTag = (t : List Entry) → IsTable t → (place : ℕ → ℕ) (s : List ℕ) (at p : ℕ) (v w : List Event) → IsPlain s
    → closed_from t place 0 at first_state s ≡ Some p → tree_from t place 0 at first_state s ≡ built v → tree_from t place 0 at first_state (s ++ body_end) ≡ built w → ⊥

-- The shortest text of a tree of a fragment, if the tags of the frame may be omitted except for the start tag of body, starts with
-- the front, and no token of it closes body.
pub record StaysOpen (t : List Entry) (b : List ℕ) : Type 0 where
  pub fragment : List ℕ
  pub framed_is : b ≡ framed fragment
  pub never_closed : closed_at t b ≡ None

abbrev pub FragmentsStayOpen : Type 0
FragmentsStayOpen = (t : List Entry) → IsTable t → (r : SpellRules) → r.omit ≡ true → r.frame ≡ true → (w : List Event) → Settled w → IsFramed w
    → StaysOpen t (first_way (edges_of (sparing_plain t r)) (units_of r w) first_way_state)

-- A page that starts with the front and doesn't close its body has the tree of a fragment.
abbrev pub OpenPagesAreFramed : Type 0
OpenPagesAreFramed = (t : List Entry) (fragment : List ℕ) (w : List Event) → page_tree t (framed fragment) ≡ built w → closed_at t (framed fragment) ≡ None → IsFramed w

-- The tree of such a page is that of the fragment.
abbrev pub OpenPagesAreFragments : Type 0
OpenPagesAreFragments = (t : List Entry) (fragment : List ℕ) (w : List Event) → page_tree t (framed fragment) ≡ built w → closed_at t (framed fragment) ≡ None → fragment_tree t fragment ≡ built w

-- The tree of a fragment stays one whatever options ask for.
abbrev pub RewrittenStaysFramed : Type 0
RewrittenStaysFramed = (o : TreeOptions) (w : List Event) → IsFramed w → IsFramed (rewrite o w)

-- The tree of a fragment is settled and stands in body.
pub record IsInBody (w : List Event) : Type 0 where
  pub settled : Settled w
  pub framed : IsFramed w

abbrev pub FragmentsAreInBody : Type 0
FragmentsAreInBody = (t : List Entry) → IsTable t → (fragment : List ℕ) (w : List Event) → fragment_tree t fragment ≡ built w → IsInBody w

-- The text starts with the front, and the rest is a fragment with this tree.
pub record IsReadBack (t : List Entry) (w : List Event) (b : List ℕ) : Type 0 where
  pub framed_is : framed (unframed b) ≡ b
  pub reads : fragment_tree t (unframed b) ≡ built w

-- So is the shortest text of each settled tree that stands in body, where tags of the frame may be left out but for the start tag of body.
abbrev pub ShortestIsReadBack : Type 0
ShortestIsReadBack = (t : List Entry) → IsTable t → (r : SpellRules) → r.omit ≡ true → r.frame ≡ true → (w : List Event) → Settled w → IsFramed w
    → IsReadBack t w (first_way (edges_of (sparing_plain t r)) (units_of r w) first_way_state)

-- And that of the tree of each fragment, rewritten by any options.
abbrev pub RewrittenIsReadBack : Type 0
RewrittenIsReadBack = (t : List Entry) → IsTable t → (r : SpellRules) → r.omit ≡ true → r.frame ≡ true → (o : TreeOptions) (fragment : List ℕ) (w : List Event) → fragment_tree t fragment ≡ built w
    → IsReadBack t (rewrite o w) (first_way (edges_of (sparing_plain t r)) (units_of r (rewrite o w)) first_way_state)

-- If no spelling of a tree has fewer bytes than a front and n more, no fragment that spells it after a front has fewer than n.
abbrev pub BoundsAreOfFragments : Type 0
BoundsAreOfFragments = (t : List Entry) (r : SpellRules) (w : List Event) (n : ℕ) → Shortest t r w (length front + n) → (fragment : List ℕ) → Spells t r w (framed fragment) → n ≤ length fragment
