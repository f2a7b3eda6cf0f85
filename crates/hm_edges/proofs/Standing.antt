-- The units of a tree that a unit of the code stands for.
use Rattle.std.proofs.Common.{◌≡◌, ◌∙◌, ℕ, Bool, List, [], ◌++◌, Option, is_some, Result, Ok, Err, OnOk, sym, ap, subst}
use Rattle.hm_base.specs.declared.plain.SpellRules.{SpellRules}
use Rattle.hm_graph_laws.specs.UnitEdges.{edges_of}
use Rattle.hm_refs.specs.Names.{Entry}
use Rattle.hm_refs.specs.Tables.{TableView}
use Rattle.hm_graph_laws.specs.Units as units
use Rattle.hm_edges.specs.declared.pieces.Edge.{Edge}
use Rattle.hm_edges.specs.declared.states.State.{State}
use Rattle.hm_edges.specs.declared.units.TextKind.{TextKind}
use Rattle.hm_edges.specs.declared.units.Unit.{Unit}
use Rattle.hm_edges.specs.declared.units.Unit.TheVariants as code
use Rattle.hm_edges.specs.Found.{AreEdges, AreFront, AddsEdges}
use Rattle.hm_graph_laws.specs.ExchangeLaws.{sparing_plain}
use Rattle.hm_edges.specs.Pieces.{edges_seen, AreOfTable}
use Rattle.hm_edges.specs.States.{state_of}
use Rattle.hm_edges.specs.declared.units.Needs.{Needs}
use Rattle.hm_edges.specs.Units.{StandsFor, needs_of, fixed, start_tag, tag_name, bare_attribute, attribute_name, character, attribute_end, tag_close, end_tag, kind_of, pair_of}

pub of_fixed : (t : List Entry) (len : ℕ) (P : units.Unit → Type 0) → ((b : List ℕ) → P (units.fixed b)) → (u : units.Unit) → StandsFor t (code.Fixed len) u → P u
of_fixed t len P f u (fixed b l e) = f b

pub of_start_tag : (t : List Entry) (len : ℕ) (omits required_after_omission closes : Bool) (P : units.Unit → Type 0) → ((n : List ℕ) → P (units.start_tag n omits required_after_omission closes)) → (u : units.Unit) → StandsFor t (code.StartTag len omits required_after_omission closes) u → P u
of_start_tag t len omits required_after_omission closes P f u (start_tag n l o i c e) = f n

pub of_tag_name : (t : List Entry) (len : ℕ) (P : units.Unit → Type 0) → ((n : List ℕ) → P (units.tag_name n)) → (u : units.Unit) → StandsFor t (code.TagName len) u → P u
of_tag_name t len P f u (tag_name n l e) = f n

pub of_bare_attribute : (t : List Entry) (len : ℕ) (P : units.Unit → Type 0) → ((n : List ℕ) → P (units.bare_attribute n)) → (u : units.Unit) → StandsFor t (code.BareAttribute len) u → P u
of_bare_attribute t len P f u (bare_attribute n l e) = f n

pub of_attribute_name : (t : List Entry) (len : ℕ) (needs : Needs) (P : units.Unit → Type 0) → ((n v : List ℕ) → needs ≡ needs_of t v → P (units.attribute_name n v))
    → (u : units.Unit) → StandsFor t (code.AttributeName len needs) u → P u
of_attribute_name t len needs P f u (attribute_name n v l o e h) = f n v h

pub of_character : (t : List Entry) (kind : TextKind) (c : ℕ) (pair : Option ℕ) (more : Bool) (P : units.Unit → Type 0)
    → ((next : Option ℕ) → pair ≡ pair_of t c next → more ≡ is_some next → P (units.character (kind_of kind) c next))
    → (u : units.Unit) → StandsFor t (code.Character kind c pair more) u → P u
of_character t kind c pair more P f u (character k d p next m e h) = f next e h

pub of_attribute_end : (t : List Entry) (P : units.Unit → Type 0) → P units.attribute_end → (u : units.Unit) → StandsFor t code.AttributeEnd u → P u
of_attribute_end t P f u attribute_end = f

pub of_tag_close : (t : List Entry) (closes : Bool) (P : units.Unit → Type 0) → P (units.tag_close closes) → (u : units.Unit) → StandsFor t (code.TagClose closes) u → P u
of_tag_close t closes P f u (tag_close c) = f

pub of_end_tag : (t : List Entry) (len : ℕ) (omits notes_omission : Bool) (P : units.Unit → Type 0) → ((n : List ℕ) → P (units.end_tag n omits notes_omission)) → (u : units.Unit) → StandsFor t (code.EndTag len omits notes_omission) u → P u
of_end_tag t len omits notes_omission P f u (end_tag n l o w e) = f n

-- ---- What was found, by what was added to an empty buffer

-- the edges of a unit of a tree are added
abbrev pub AddsFor : {E : Type 0} → Result (Prim.Unit {0}) E → TableView → SpellRules → Unit → State → List Edge → List Edge → units.Unit → Type 0
AddsFor r v rules unit from before now u = AddsEdges r v u before now (edges_of (sparing_plain v.entries rules) u (state_of v from))

-- for each that the unit stands for
abbrev pub AddsAll : {E : Type 0} → Result (Prim.Unit {0}) E → TableView → SpellRules → Unit → State → List Edge → List Edge → Type 0
AddsAll r v rules unit from before now = (u : units.Unit) → StandsFor v.entries unit u → AddsFor r v rules unit from before now u

are_edges : {E : Type 0} (r : Result (Prim.Unit {0}) E) (v : TableView) (rules : SpellRules) (unit : Unit) (from : State) (before now : List Edge) → before ≡ [] → AddsAll r v rules unit from before now → OnOk r (AreEdges v rules unit from now)
are_edges (Err x) v rules unit from before now e all = tt
are_edges (Ok x) v rules unit from before now e all = λ u stands.
    (all u stands).edges ∙ ap (λ w. edges_seen v u w ++ edges_of (sparing_plain v.entries rules) u (state_of v from)) e

are_front : {E : Type 0} (r : Result (Prim.Unit {0}) E) (v : TableView) (rules : SpellRules) (unit : Unit) (from : State) (before now : List Edge) → before ≡ [] → AddsAll r v rules unit from before now → AreFront v rules unit from now
are_front r v rules unit from before now e all = λ u stands.
    let h : AddsEdges r v u before now (edges_of (sparing_plain v.entries rules) u (state_of v from)) = all u stands in
    (h.front.0, h.front.1 ∙ ap (λ w. edges_seen v u w ++ edges_of (sparing_plain v.entries rules) u (state_of v from)) e)

are_known : (v : TableView) (before now : List Edge) → before ≡ [] → (AreOfTable v before → AreOfTable v now) → AreOfTable v now
are_known v before now e h = h (subst (AreOfTable v) (sym e) tt)

pub record IsFound {E : Type 0} (r : Result (Prim.Unit {0}) E) (v : TableView) (rules : SpellRules) (unit : Unit) (from : State) (now : List Edge) : Type 0 where
  pub edges : OnOk r (AreEdges v rules unit from now)
  pub front : AreFront v rules unit from now
  pub known : AreOfTable v now

pub found : {E : Type 0} (r : Result (Prim.Unit {0}) E) (v : TableView) (rules : SpellRules) (unit variant : Unit) (from : State) (before now : List Edge) → unit ≡ variant → before ≡ []
    → AddsAll r v rules variant from before now → (AreOfTable v before → AreOfTable v now) → IsFound r v rules unit from now
found r v rules unit variant from before now is e all known =
    rw is (record { edges = are_edges r v rules variant from before now e all; front = are_front r v rules variant from before now e all; known = are_known v before now e known })
