-- Where the text of an element ends, its end tag begins.
use Rattle.std.proofs.Common.{◌≡◌, ℕ, zero, suc, ◌+◌, ◌-◌, ◌<◌, ◌≤◌, Bool, true, false, cond, ◌||◌, ◌==◌, List, [], ◌∷◌, length, drop, Option, Some, None, refl, ap, subst, ◌∙◌, arith, codes, lit<, add-zero, length-drop}
use Rattle.std.specs.Str.{IsCharBoundary}
use Rattle.std.proofs.lemmas.Bool.Decides.{nat_tests, Decides-eqb}
use Rattle.std.proofs.lemmas.List.{drop-drop}
use Rattle.hm_base.specs.Bytes.{head_is, is_letter, lower, strip_word}
use Rattle.hm_base.specs.Forms.{is_small}
use Rattle.hm_base.specs.RawText.{begins_end_tag, is_found_whole, place_from, raw_end, script_end, unescaped}
use Rattle.hm_tree.specs.Tokens.{Reads, refused}
use Rattle.hm_tree.specs.declared.tokens.Token.{Token}
use Rattle.hm_tree.specs.declared.tokens.ScanFault.{ScanFault}
use Rattle.hm_scan.specs.Reading.{begins_tag}
use Rattle.hm_scan.specs.Pieces.{slice_up_to}
use Rattle.hm_scan.specs.RawTexts.{read_raw, read_script}
use Rattle.hm_scan.proofs.Lowered.{eqb_lower}
use Rattle.hm_scan.proofs.RawTextLaws.{place_found}
use Rattle.hm_scan.proofs.ScriptLaws.{first_found}
use Rattle.hm_lexer.specs.Modes.{rcdata_name, raw_name}
use Rattle.hm_lexer.specs.Steps.{IsEndAt, IsLexer}
use Rattle.hm_lexer.specs.declared.lexer.TextEnd.{TextEnd}
use Rattle.hm_lexer.specs.declared.modes.RcdataName.{RcdataName}
use Rattle.hm_lexer.specs.declared.modes.RcdataName.TheVariants.{Title, Textarea}
use Rattle.hm_lexer.specs.declared.modes.RawName.{RawName}
use Rattle.hm_lexer.specs.declared.modes.RawName.TheVariants.{Style, Iframe}

pub rcdata_small : (name : RcdataName) → head_is is_small (rcdata_name name) ≡ true
unfolding is_small
rcdata_small Title = refl
rcdata_small Textarea = refl

pub raw_small : (name : RawName) → head_is is_small (raw_name name) ≡ true
unfolding is_small
raw_small Style = refl
raw_small Iframe = refl

-- ---- an end tag is a tag

lowered_letter : (c d : ℕ) → is_small c ≡ true → c ≡ lower d → is_letter d ≡ true
unfolding is_small is_letter lower
lowered_letter c d h e = grind (arith, nat_tests)

or_true : (a : Bool) → a || true ≡ true
or_true true = refl
or_true false = refl

tag_begins : (name s : List ℕ) → head_is is_small name ≡ true → begins_end_tag name s ≡ true → begins_tag s ≡ true
unfolding begins_end_tag begins_tag
tag_begins [] s h e = absurd (cc)
tag_begins (c ∷ name) [] h e = absurd (cc)
tag_begins (c ∷ name) (a ∷ []) h e = by_test (60 == lower a) e
  where
    by_test : (x : Bool) → is_found_whole (cond x None None) ≡ true → begins_tag (a ∷ []) ≡ true
    by_test true e = absurd (cc)
    by_test false e = absurd (cc)
tag_begins (c ∷ name) (a ∷ b ∷ []) h e = by_tests (60 == lower a) (47 == lower b) e
  where
    by_tests : (x y : Bool) → is_found_whole (cond x (cond y None None) None) ≡ true → begins_tag (a ∷ b ∷ []) ≡ true
    by_tests true true e = absurd (cc)
    by_tests true false e = absurd (cc)
    by_tests false y e = absurd (cc)
tag_begins (c ∷ name) (a ∷ b ∷ d ∷ s) h e = by_tests (60 == a) refl (47 == b) refl (c == lower d) refl (rw (eqb_lower 60 a (lit< tt), eqb_lower 47 b (lit< tt)) at e)
  where
    by_tests : (x : Bool) → (60 == a) ≡ x → (y : Bool) → (47 == b) ≡ y → (z : Bool) → (c == lower d) ≡ z
        → is_found_whole (cond x (cond y (cond z (strip_word name s) None) None) None) ≡ true → begins_tag (a ∷ b ∷ d ∷ s) ≡ true
    by_tests true p true q true r e =
        let letter : is_letter d ≡ true = lowered_letter c d h ((Decides-eqb c (lower d)).0 r) in
        rw (p, q, letter) (or_true (is_letter b))
    by_tests true p true q false r e = absurd (cc)
    by_tests true p false q z r e = absurd (cc)
    by_tests false p y q z r e = absurd (cc)

-- ---- the place that a scan returns

-- at the place that is found a tag begins
abbrev pub IsTagAt : List ℕ → ℕ → Type 0
IsTagAt r n = (n < length r) × (begins_tag (drop n r) ≡ true)

end_at : (found : Option ℕ) (s : List ℕ) (at to : ℕ) (token : Token) → at ≤ to → ((n : ℕ) → found ≡ Some n → IsTagAt (drop at s) n) → Reads (slice_up_to (drop at s) found) s token to → IsEndAt found s at to
end_at None s at to token low tag reads = absurd (let e = reads.is in cc)
end_at (Some n) s at to token low tag reads =
    let t = tag n refl in
    let inside : n < length (drop at s) = t.0 in
    let rest : drop n (drop at s) ≡ drop to s = let e = reads.is in cc in
    let whole : length (drop at s) ≡ length s - at = length-drop at s in
    let left : length (drop n (drop at s)) ≡ length (drop at s) - n = length-drop n (drop at s) in
    let after : length (drop to s) ≡ length s - to = length-drop to s in
    let same : length (drop n (drop at s)) ≡ length (drop to s) = ap length rest in
    let place : n ≡ to - at = omega arith in
    record { is = ap Some place; forward = low; boundary = reads.boundary; tag = rw rest at t.1 }

none_at : (found : Option ℕ) (r : List ℕ) (fault : ScanFault) → slice_up_to r found ≡ refused fault → found ≡ None
none_at None r fault e = refl
none_at (Some n) r fault e = absurd (cc)

raw_tag : (name r : List ℕ) (n : ℕ) → head_is is_small name ≡ true → raw_end name r ≡ Some n → IsTagAt r n
raw_tag name r n h found =
    let q = place_found (begins_end_tag name) 0 r n found in
    let at : q.0 ≡ n = omega (arith, q.1) in
    (omega (arith, q.2), tag_begins name (drop n r) h (subst (λ k. begins_end_tag name (drop k r) ≡ true) at q.3))

pub raw_ends : (name s : List ℕ) (at to : ℕ) (token : Token) → head_is is_small name ≡ true → at ≤ to → Reads (read_raw name (drop at s)) s token to → IsEndAt (raw_end name (drop at s)) s at to
unfolding read_raw
raw_ends name s at to token h low reads = end_at (raw_end name (drop at s)) s at to token low (λ n e. raw_tag name (drop at s) n h e) reads

pub raw_open : (name r : List ℕ) (fault : ScanFault) → read_raw name r ≡ refused fault → raw_end name r ≡ None
unfolding read_raw
raw_open name r fault e = none_at (raw_end name r) r fault e

script_small : head_is is_small (codes "script") ≡ true
unfolding is_small
script_small = refl

script_tag : (r : List ℕ) (n : ℕ) → script_end r ≡ Some n → IsTagAt r n
script_tag r n found =
    let q = first_found unescaped 0 n r found in
    let at : q.0 ≡ n = omega (arith, q.1) in
    (omega (arith, q.2), tag_begins (codes "script") (drop n r) script_small (subst (λ k. begins_end_tag (codes "script") (drop k r) ≡ true) at q.3))

pub script_ends : (s : List ℕ) (at to : ℕ) (token : Token) → at ≤ to → Reads (read_script (drop at s)) s token to → IsEndAt (script_end (drop at s)) s at to
unfolding read_script
script_ends s at to token low reads = end_at (script_end (drop at s)) s at to token low (λ n e. script_tag (drop at s) n e) reads

pub script_open : (r : List ℕ) (fault : ScanFault) → read_script r ≡ refused fault → script_end r ≡ None
unfolding read_script
script_open r fault e = none_at (script_end r) r fault e

-- ---- the end from a place further on

from_later : (passes : List ℕ → Bool) (i m n : ℕ) (r : List ℕ) → i + n ≤ m → place_from passes i r ≡ Some m → place_from passes (i + n) (drop n r) ≡ Some m
from_later passes i m zero r low found = rw add-zero found
from_later passes i m (suc n) [] low found = absurd (cc)
from_later passes i m (suc n) (c ∷ r) low found = either (passes (c ∷ r)) found (from_later passes (suc i) m n r)
  where
    either : (b : Bool) → cond b (Some i) (place_from passes (suc i) r) ≡ Some m
        → (suc i + n ≤ m → place_from passes (suc i) r ≡ Some m → place_from passes (suc i + n) (drop n r) ≡ Some m) → place_from passes (i + suc n) (drop n r) ≡ Some m
    either true f more = let same : i ≡ m = cc in absurd (omega arith)
    either false f more = let next : suc i + n ≡ i + suc n = omega arith in rw (← next) (more (omega arith) f)

-- counted from an earlier place
counted : (passes : List ℕ → Bool) (i j m : ℕ) (r : List ℕ) → place_from passes (i + j) r ≡ Some m → place_from passes j r ≡ Some (m - i)
counted passes i j m [] found = absurd (cc)
counted passes i j m (c ∷ r) found = either (passes (c ∷ r)) found (counted passes i (suc j) m r)
  where
    either : (b : Bool) → cond b (Some (i + j)) (place_from passes (suc (i + j)) r) ≡ Some m → (place_from passes (i + suc j) r ≡ Some m → place_from passes (suc j) r ≡ Some (m - i))
        → cond b (Some j) (place_from passes (suc j) r) ≡ Some (m - i)
    either true f more = let same : i + j ≡ m = cc in ap Some (omega arith)
    either false f more = let next : i + suc j ≡ suc (i + j) = omega arith in more (rw next f)

later : (name r : List ℕ) (n m : ℕ) → n ≤ m → raw_end name r ≡ Some m → raw_end name (drop n r) ≡ Some (m - n)
later name r n m low found =
    let first : 0 + n ≡ n + 0 = omega arith in
    counted (begins_end_tag name) n 0 m (drop n r) (subst (λ i. place_from (begins_end_tag name) i (drop n r) ≡ Some m) first (from_later (begins_end_tag name) 0 m n r (omega arith) found))

pub still_kept : (s : List ℕ) (at to : ℕ) (e : TextEnd) → at ≤ to → to ≤ e.place → IsCharBoundary s to → IsLexer s at (Some e) → IsLexer s to (Some e)
still_kept s at to e low high starts lexer =
    let old : IsEndAt (raw_end (rcdata_name e.name) (drop at s)) s at e.place = lexer.end in
    let there : drop (to - at) (drop at s) ≡ drop to s = drop-drop (to - at) at s ∙ ap (λ m. drop m s) (omega arith) in
    let place : e.place - at - (to - at) ≡ e.place - to = omega arith in
    record {
      boundary = starts;
      end = record {
        is = rw (← there, ← place) (later (rcdata_name e.name) (drop at s) (to - at) (e.place - at) (omega arith) old.is);
        forward = high;
        boundary = old.boundary;
        tag = old.tag;
      };
    }
