-- Markup begins with '<', which keeps whatever is pending in a text.
use Rattle.std.proofs.Common.{◌≡◌, ℕ, Bool, true, false, not, ◌&&◌, List, [], ◌∷◌, ◌++◌, codes, refl, sym, ap, ◌∙◌, subst}
use Rattle.std.proofs.lemmas.Bool.{and_parts, both_ways, not-true}
use Rattle.hm_base.specs.Walks.{Attribute, Event, doctype, start, text, comment, end, Element}
use Rattle.hm_elements.specs.Names.{table}
use Rattle.hm_elements.specs.Omission.{start_tag_optional_before}
use Rattle.hm_elements.specs.Paths.{current, outer}
use Rattle.hm_elements.specs.Tables.{is_void}
use Rattle.hm_refs.specs.Names.{Entry}
use Rattle.hm_refs.specs.Tables.{IsTable}
use Rattle.hm_spelling_spec.specs.Omission.{bars, begins_child_of, end_falls, has_none, LeftOut, may_omit_end, may_omit_start, start_falls}
use Rattle.hm_spelling_spec.specs.Spellings as forms
use Rattle.hm_spelling_spec.specs.Spellings.{Before, after_end, after_start, end_omitted, EndForm, EndSp, left_out_before, SpellsFrom, spot_of, StartForm, StartSp}
use Rattle.hm_base.specs.declared.plain.SpellRules.{SpellRules}
use Rattle.hm_spelling_spec.specs.Tags.{Spelling}
use Rattle.hm_graph_laws.specs.States.{Pending}
use Rattle.hm_graph_laws.specs.Steps.{Fits, keeps}
use Rattle.hm_graph_laws.specs.Units.{doctype_bytes}
use Rattle.hm_graph_laws.proofs.Closing.{markup_law}
use Rattle.hm_optimality_laws.proofs.Between.{top_name}
use Rattle.hm_optimality_laws.proofs.Order.{EndFits, InOrder, StartFits, element}
use Rattle.hm_optimality_laws.proofs.Spots.{text_spot}
use Rattle.hm_optimality_laws.proofs.Tables.{before_child, begins_tag, child_stays, table_not_void, table_stays}

abbrev pub IsMarkup : List ℕ → Type 0
IsMarkup b = (inner : List ℕ) × (b ≡ 60 ∷ inner)

pub markup_keeps : (t : List Entry) → IsTable t → (path : List Element) (p : Pending) (b : List ℕ) → Fits t (spot_of path) p → IsMarkup b → keeps t (spot_of path) p b ≡ true
markup_keeps t k path p b f (inner, is) = subst (λ x. keeps t (spot_of path) p x ≡ true) (sym is) (markup_law t k (spot_of path) p inner (text_spot path) f)

pub markup_front : (b piece rest : List ℕ) → b ≡ piece ++ rest → IsMarkup piece → IsMarkup b
markup_front b piece rest is (inner, begins) = (inner ++ rest, is ∙ ap (λ x. x ++ rest) begins)

pub doctype_markup : (legacy : Bool) → IsMarkup (doctype_bytes legacy)
doctype_markup false = (codes "!doctype html>", refl)
doctype_markup true = (codes "!doctype html SYSTEM \"about:legacy-compat\">", refl)

-- ---- tags that may be left out

pub record LeavesStart (r : SpellRules) (before : LeftOut) (n : List ℕ) (foreign : Bool) (attributes : List Attribute) (w : List Event) : Type 0 where
  pub omits : r.omit ≡ true
  pub kind : foreign ≡ false
  pub bare : has_none attributes ≡ true
  pub free : bars before n ≡ false
  pub falls : start_falls r.frame n w ≡ true

pub leaves_start : (r : SpellRules) (before : LeftOut) (n : List ℕ) (foreign : Bool) (attributes : List Attribute) (w : List Event) → may_omit_start r before n foreign attributes w ≡ true → LeavesStart r before n foreign attributes w
unfolding may_omit_start
leaves_start r before n foreign attributes w h =
    let a = and_parts r.omit (not foreign && (has_none attributes && (not (bars before n) && start_falls r.frame n w))) h in
    let b = and_parts (not foreign) (has_none attributes && (not (bars before n) && start_falls r.frame n w)) a.1 in
    let c = and_parts (has_none attributes) (not (bars before n) && start_falls r.frame n w) b.1 in
    let d = and_parts (not (bars before n)) (start_falls r.frame n w) c.1 in
    record { omits = a.0; kind = not-true foreign b.0; bare = c.0; free = not-true (bars before n) d.0; falls = d.1 }

pub may_leave_start : (r : SpellRules) (before : LeftOut) (n : List ℕ) (foreign : Bool) (attributes : List Attribute) (w : List Event) → LeavesStart r before n foreign attributes w → may_omit_start r before n foreign attributes w ≡ true
unfolding may_omit_start
may_leave_start r before n foreign attributes w l = rw (l.omits, l.kind, l.bare, l.free, l.falls) refl

pub record LeavesEnd (r : SpellRules) (n : List ℕ) (foreign : Bool) (path : List Element) (w : List Event) : Type 0 where
  pub kind : foreign ≡ false
  pub falls : end_falls n (current path) w ≡ true

pub leaves_end : (r : SpellRules) (n : List ℕ) (foreign : Bool) (path : List Element) (w : List Event) → may_omit_end r n foreign path w ≡ true → LeavesEnd r n foreign path w
unfolding may_omit_end
leaves_end r n foreign path w h =
    let a = and_parts r.omit (not foreign && end_falls n (current path) w) h in
    let b = and_parts (not foreign) (end_falls n (current path) w) a.1 in
    record { kind = not-true foreign b.0; falls = b.1 }

-- ---- what stands in a table

-- the start tag of the only child is written
child_markup : (g : Spelling) (before : Before) (path : List Element) (m : List ℕ) (foreign : Bool) (attributes : List Attribute) (w : List Event) (b : List ℕ) → start_falls g.rules.frame m w ≡ false → SpellsFrom g before path (start m foreign attributes ∷ w) b → IsMarkup b
child_markup g before path m foreign attributes w b stays (forms.omitted, piece, rest, is, s, more) = absurd (both_ways (start_falls g.rules.frame m w) stays (leaves_start g.rules (left_out_before before) m foreign attributes w s.1).falls)
child_markup g before path m foreign attributes w b stays (forms.written, piece, rest, is, s, more) = markup_front b piece rest is (_, s.is)
child_markup g before path m foreign attributes w b stays (forms.slashed, piece, rest, is, s, more) = markup_front b piece rest is (_, s.1.is)

after_child : (g : Spelling) (before : Before) (path : List Element) (n : List ℕ) (w : List Event) (b : List ℕ) → begins_child_of n w ≡ true → SpellsFrom g before path w b → IsMarkup b
after_child g before path n [] b h s = absurd (cc)
after_child g before path n (doctype legacy ∷ w) b h s = absurd (cc)
after_child g before path n (text x raw ∷ w) b h s = absurd (cc)
after_child g before path n (comment x ∷ w) b h s = absurd (cc)
after_child g before path n (end m foreign ∷ w) b h s = absurd (cc)
after_child g before path n (start m foreign attributes ∷ w) b h s = child_markup g before path m foreign attributes w b (child_stays g.rules.frame n m w (and_parts (not foreign) (start_tag_optional_before n m) h).1) s

start_markup : (g : Spelling) (before : Before) (path : List Element) (n : List ℕ) (foreign : Bool) (attributes : List Attribute) (w : List Event) (b : List ℕ) → current path ≡ table → StartFits n foreign attributes path
    → SpellsFrom g before path (start n foreign attributes ∷ w) b → IsMarkup b
start_markup g before path n foreign attributes w b here f (forms.omitted, piece, rest, is, s, more) =
    let l = leaves_start g.rules (left_out_before before) n foreign attributes w s.1 in
    subst (λ x. IsMarkup x) (sym (is ∙ ap (λ x. x ++ rest) s.0)) (after_child g (after_start foreign forms.omitted) (element n foreign ∷ path) n w rest (before_child g.rules.frame n w (f.no_root here l.kind) l.falls) more)
start_markup g before path n foreign attributes w b here f (forms.written, piece, rest, is, s, more) = markup_front b piece rest is (_, s.is)
start_markup g before path n foreign attributes w b here f (forms.slashed, piece, rest, is, s, more) = markup_front b piece rest is (_, s.1.is)

end_markup : (g : Spelling) (m : List ℕ) (path : List Element) (n : List ℕ) (foreign : Bool) (w : List Event) (b : List ℕ) → current path ≡ table → EndFits n foreign path → SpellsFrom g (end_omitted m) path (end n foreign ∷ w) b → IsMarkup b
end_markup g m path n foreign w b here f (forms.absent, piece, rest, is, s, more) =
    absurd (both_ways (is_void table) table_not_void (subst (λ x. is_void x ≡ true) (sym (top_name n foreign path f) ∙ here) (and_parts (not foreign) (is_void n) s.1).1))
end_markup g m path n foreign w b here f (forms.omitted, piece, rest, is, s, more) =
    absurd (both_ways (end_falls table (current (outer path)) w) (table_stays (current (outer path)) w)
    (subst (λ x. end_falls x (current (outer path)) w ≡ true) (sym (top_name n foreign path f) ∙ here) (leaves_end g.rules n foreign (outer path) w s.2).falls))
end_markup g m path n foreign w b here f (forms.written, piece, rest, is, s, more) = markup_front b piece rest is (_, s.1.is)

-- what stands in a table after an end tag that was left out begins with '<'
pub table_markup : (g : Spelling) (m : List ℕ) (path : List Element) (w : List Event) (b : List ℕ) → current path ≡ table → begins_tag w ≡ true → InOrder path w → SpellsFrom g (end_omitted m) path w b → IsMarkup b
table_markup g m path [] b here h o s = absurd (cc)
table_markup g m path (doctype legacy ∷ w) b here h o s = absurd (cc)
table_markup g m path (text x raw ∷ w) b here h o s = absurd (cc)
table_markup g m path (comment x ∷ w) b here h o s = absurd (cc)
table_markup g m path (start n foreign attributes ∷ w) b here h o s = start_markup g (end_omitted m) path n foreign attributes w b here o.0 s
table_markup g m path (end n foreign ∷ w) b here h o s = end_markup g m path n foreign w b here o.0 s
