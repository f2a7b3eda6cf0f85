-- What it means that an element would stand in one of its own kind, kind by kind.
use Rattle.std.proofs.Common.{◌≡◌, ℕ, true, false, ◌||◌, ◌&&◌, not, List, bytes_eq, refl, sym, ap, ◌∙◌, codes}
use Rattle.std.specs.List.{list_all}
use Rattle.std.proofs.lemmas.Bool.{false_from_ne_true, not-true}
use Rattle.std.proofs.Math.Bool.{and_comm, or-false}
use Rattle.hm_base.specs.Walks.{Element}
use Rattle.hm_elements.specs.Names.{is_among}
use Rattle.hm_elements.specs.Tables.{is_unnested, unnested_names, is_heading, headings}
use Rattle.hm_elements.specs.Paths.{is_nested, is_open, is_heading_open}
use Rattle.hm_elements.proofs.TableTools.{same_bytes, entry_passes}
use Rattle.hm_open_elements.specs.declared.element.ScopeFlags.{ScopeFlags}
use Rattle.hm_open_elements.specs.Elements.{marks_of}

no_headings : list_all (λ n. not (is_heading n)) unnested_names ≡ true
unfolding unnested_names is_heading headings is_among
no_headings = refl

-- an element that doesn't stand in one of its own name
pub nested_in_own_name : (n : List ℕ) (path : List Element) → is_unnested n ≡ true → is_open n path ≡ is_nested n path
unfolding is_nested is_unnested
nested_in_own_name n path e =
    let other : is_heading n ≡ false = not-true (is_heading n) (entry_passes (λ m. not (is_heading m)) n unnested_names no_headings e) in
    rw (e, other) (sym (or-false (is_open n path)))

-- any other is nested only as a heading in a heading
pub nested_heading : (n : List ℕ) (m : ScopeFlags) (path : List Element) → is_unnested n ≡ false → m ≡ marks_of path → m.heading && is_heading n ≡ is_nested n path
unfolding is_nested
nested_heading n m path e h = ap (λ (k : ScopeFlags). k.heading && is_heading n) h ∙ and_comm (is_heading_open path) (is_heading n) ∙ rw e refl

differs : (n m : List ℕ) → (n ≡ m → ⊥) → bytes_eq m n ≡ false
differs n m h = false_from_ne_true (bytes_eq m n) (λ e. h (sym (same_bytes m n e)))

-- one of the four names that isn't one of the first three
pub last_name : (n : List ℕ) → is_unnested n ≡ true → (n ≡ codes "a" → ⊥) → (n ≡ codes "button" → ⊥) → (n ≡ codes "form" → ⊥) → n ≡ codes "nobr"
unfolding is_unnested unnested_names is_among
last_name n e a button form =
    let last : bytes_eq (codes "nobr") n || false ≡ true = rw (differs n (codes "a") a, differs n (codes "button") button, differs n (codes "form") form) at e in
    sym (same_bytes (codes "nobr") n (sym (or-false (bytes_eq (codes "nobr") n)) ∙ last))
