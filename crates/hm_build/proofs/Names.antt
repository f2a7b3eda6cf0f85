-- Elements whose text is read in a mode of its own.
use Rattle.std.proofs.Common.{◌≡◌, ℕ, Bool, true, false, List, [], ◌∷◌, codes, bytes_eq, refl, sym}
use Rattle.std.proofs.lemmas.Bool.{or_parts, both_ways}
use Rattle.std.proofs.lemmas.Slice.Eq.{bytes_eq-Decides}
use Rattle.std.specs.Bool.{Decides}
use Rattle.hm_base.specs.Walks.{Element}
use Rattle.hm_elements.specs.Names.{is_among, script}
use Rattle.hm_elements.specs.Tables.{holds_text, is_raw, raw_names, is_rcdata, rcdata_names}
use Rattle.hm_elements.specs.Paths.{is_in_svg, is_in_text}
use Rattle.hm_token_laws.specs.First.{ordinary}
use Rattle.hm_construction_laws.specs.Trees.{mode_of, mode_of_name}

differs : (n m : List ℕ) → (n ≡ m → ⊥) → (bytes_eq m n ≡ false) × (bytes_eq n m ≡ false)
differs n m h = (by (bytes_eq m n) (bytes_eq-Decides m n) (λ e. h (sym e)), by (bytes_eq n m) (bytes_eq-Decides n m) h)
  where
    by : {P : Type 0} (b : Bool) → Decides b P → (P → ⊥) → b ≡ false
    by true d k = absurd (k (d.0 refl))
    by false d k = refl

pub is_ordinary : (n : List ℕ) → (n ≡ codes "title" → ⊥) → (n ≡ codes "textarea" → ⊥) → (n ≡ codes "style" → ⊥) → (n ≡ codes "iframe" → ⊥) → (n ≡ codes "script" → ⊥) → ordinary ≡ mode_of_name n
unfolding is_raw raw_names is_rcdata rcdata_names is_among
is_ordinary n title textarea style iframe script' =
    let a = differs n (codes "title") title in
    let b = differs n (codes "textarea") textarea in
    let c = differs n (codes "style") style in
    let d = differs n (codes "iframe") iframe in
    let e = differs n (codes "script") script' in
    rw (a.0, b.0, c.0, d.0, e.0, e.1) refl

script_is_raw : is_raw script ≡ true
unfolding is_raw raw_names is_among
script_is_raw = refl

is_ordinary_without_text : (n : List ℕ) → holds_text n ≡ false → ordinary ≡ mode_of_name n
unfolding holds_text
is_ordinary_without_text n h =
    let none = or_parts (is_raw n) (is_rcdata n) h in
    rw (none.1, (differs n script (λ e. both_ways (is_raw n) none.0 (rw e script_is_raw))).1, none.0) refl

-- where no element of SVG is open, and none of HTML that holds one text
pub is_ordinary_outside : (path : List Element) → is_in_svg path ≡ false → is_in_text path ≡ false → ordinary ≡ mode_of path
unfolding holds_text is_raw raw_names is_rcdata rcdata_names is_among
is_ordinary_outside [] html outside = is_ordinary_without_text [] refl
is_ordinary_outside (e ∷ path) html outside = rw html (is_ordinary_without_text e.name (rw html at outside))
