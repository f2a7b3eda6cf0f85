-- Sections: whether there is a next character, and where a section may begin.
use Rattle.std.proofs.Common.{◌≡◌, ℕ, Bool, true, false, not, cond, ◌&&◌, List, [], ◌∷◌, ◌++◌, Option, Some, None, is_some, refl, codes, encode_utf8}
use Rattle.hm_spelling_spec.specs.Characters.{is_foreign, is_writable}
use Rattle.hm_graph_laws.specs.CharacterEdges.{spot_at, section_edges_by, opened_sections, in_section_after, is_outside, half_of}
use Rattle.hm_graph_laws.specs.Edges.{edge, edge_to}
use Rattle.hm_graph_laws.specs.States as states
use Rattle.hm_graph_laws.specs.States.{Where, Pending, State, in_section, first_state, value_spot}
use Rattle.hm_edges.specs.declared.units.TextKind.{TextKind}
use Rattle.hm_edges.specs.declared.units.TextKind.TheVariants.{Text, Rcdata, Foreign, Value}
use Rattle.hm_edges.specs.Units.{kind_of, is_foreign_kind}

pub going_on : (next : Option ℕ) (more : Bool) (front : List ℕ) (c : ℕ) (p : Pending) → more ≡ is_some next
    → cond more (edge (front ++ encode_utf8 c) in_section (in_section_after c p) ∷ []) [] ++ edge_to (front ++ (encode_utf8 c ++ codes "]]>")) first_state ∷ [] ≡ section_edges_by next front c p
going_on None more front c p e = rw e refl
going_on (Some d) more front c p e = rw e refl

never_foreign : (at : Where) → is_foreign (value_spot at) ≡ false
never_foreign states.outside = refl
never_foreign states.after_omitted_end = refl
never_foreign states.self_closed = refl
never_foreign states.after_name = refl
never_foreign states.after_unquoted = refl
never_foreign states.after_quoted = refl
never_foreign states.in_unquoted = refl
never_foreign states.in_double = refl
never_foreign states.in_single = refl
never_foreign states.in_section = refl

foreign_is : (kind : TextKind) (at : Where) → is_foreign (spot_at (kind_of kind) at) ≡ is_foreign_kind kind
foreign_is Text at = refl
foreign_is Rcdata at = refl
foreign_is Foreign at = refl
foreign_is Value at = never_foreign at

pub not_opened : (ascii : Bool) (kind : TextKind) (c : ℕ) (next : Option ℕ) (s : State) → (is_foreign_kind kind && (is_outside s.at && not (is_some (half_of s.pending)))) ≡ false → [] ≡ opened_sections ascii (spot_at (kind_of kind) s.at) c next s
not_opened ascii kind c next s h = rw (foreign_is kind s.at) (by_tests (is_foreign_kind kind) (is_outside s.at) (not (is_some (half_of s.pending))) h)
  where
    by_tests : (f o d : Bool) → (f && (o && d)) ≡ false → [] ≡ cond (f && (o && (d && is_writable ascii c))) (section_edges_by next (codes "<![CDATA[") c states.nothing) []
    by_tests false o d e = refl
    by_tests true false d e = refl
    by_tests true true false e = refl
    by_tests true true true e = absurd (cc)

pub opened : (ascii : Bool) (kind : TextKind) (c : ℕ) (next : Option ℕ) (s : State) → (is_foreign_kind kind && (is_outside s.at && not (is_some (half_of s.pending)))) ≡ true
    → cond (is_writable ascii c) (section_edges_by next (codes "<![CDATA[") c states.nothing) [] ≡ opened_sections ascii (spot_at (kind_of kind) s.at) c next s
opened ascii kind c next s h = rw (foreign_is kind s.at) (by_tests (is_foreign_kind kind) (is_outside s.at) (not (is_some (half_of s.pending))) h)
  where
    by_tests : (f o d : Bool) → (f && (o && d)) ≡ true → cond (is_writable ascii c) (section_edges_by next (codes "<![CDATA[") c states.nothing) [] ≡ cond (f && (o && (d && is_writable ascii c))) (section_edges_by next (codes "<![CDATA[") c states.nothing) []
    by_tests false o d e = absurd (cc)
    by_tests true false d e = absurd (cc)
    by_tests true true false e = absurd (cc)
    by_tests true true true e = refl

pub next_for : (more : Bool) → (next : Option ℕ) × (more ≡ is_some next)
next_for true = (Some 0, refl)
next_for false = (None, refl)
