-- A raw text is read as one piece, and its end tag follows it.
use Rattle.std.proofs.Common.{◌≡◌, ℕ, zero, suc, ◌+◌, Bool, true, false, cond, List, [], ◌∷◌, drop, Option, Some, None, refl, codes, arith}
use Rattle.std.proofs.lemmas.Bool.{both_ways}
use Rattle.hm_base.specs.Bytes.{strip}
use Rattle.hm_base.specs.RawText.{begins_end_tag, place_from, raw_end, Mark, opens_comment, closes_comment, opens_script, closes_script, mark_at, with_mark, marks_from, ScriptState, unescaped, escaped, double_escaped, state_after, ends_script, first_end, script_end}
use Rattle.hm_refs.specs.Names.{Entry}
use Rattle.hm_tree.specs.Tokens.{doctype, start_tag, end_tag, slice, points, comment, Scanned, taken, refused}
use Rattle.hm_tree.specs.declared.tokens.ScanFault.{ScanFault}
use Rattle.hm_scan.specs.Tags.{CutTag, cut_tag, is_name_byte}
use Rattle.hm_base.specs.Bytes as bytes
use Rattle.hm_scan.specs.Reading.{read_tag, read_by, read_start, read_end, start_of, end_of, tag_name, tag_fault, unless_fault, read_attributes}
use Rattle.hm_token_laws.specs.First.{Mode, after_bytes, read_inside, read_nothing, unless_end, first}
use Rattle.hm_construction_laws.proofs.Modes.{RawMode, of_script, of_raw}

-- ---- Where a text ends, its end tag stands

-- the place that is found, counted from the first byte, and what stands there
record Found (passes : List ℕ → Bool) (s : List ℕ) (i k : ℕ) : Type 0 where
  count : ℕ
  place : k ≡ count + i
  there : passes (drop count s) ≡ true

found_there : (passes : List ℕ → Bool) (s : List ℕ) (i k : ℕ) → place_from passes i s ≡ Some k → Found passes s i k
found_there passes [] i k h = cc
found_there passes (c ∷ s) i k h = by (passes (c ∷ s)) refl (λ e. found_there passes s (suc i) k e) h
  where
    by : (b : Bool) → passes (c ∷ s) ≡ b → (place_from passes (suc i) s ≡ Some k → Found passes s (suc i) k) → cond b (Some i) (place_from passes (suc i) s) ≡ Some k → Found passes (c ∷ s) i k
    by true e more h' = let is : i ≡ k = cc in record { count = 0; place = omega (arith, is); there = e }
    by false e more h' = let f = more h' in record { count = suc f.count; place = let p = f.place in omega arith; there = f.there }

nothing_begins : (name : List ℕ) → begins_end_tag name [] ≡ false
unfolding begins_end_tag
nothing_begins name = refl

tag_at_once : (name r : List ℕ) → begins_end_tag name r ≡ true → raw_end name r ≡ Some 0
tag_at_once name [] h = absurd (both_ways (begins_end_tag name []) (nothing_begins name) h)
tag_at_once name (c ∷ r) h = rw h refl

raw_ends_there : (name s : List ℕ) (k : ℕ) → raw_end name s ≡ Some k → raw_end name (drop k s) ≡ Some 0
raw_ends_there name s k h =
    let f = found_there (begins_end_tag name) s 0 k h in
    let is : k ≡ f.count = let p = f.place in omega arith in
    rw is (tag_at_once name (drop f.count s) f.there)

-- a mark that ends a script
abbrev is_closing : Option Mark → Bool
is_closing (Some closes_script) = true
is_closing m = false

closing_ends : (state : ScriptState) (m : Mark) → ends_script state m ≡ true → is_closing (Some m) ≡ true
closing_ends unescaped opens_comment h = cc
closing_ends unescaped closes_comment h = cc
closing_ends unescaped opens_script h = cc
closing_ends unescaped closes_script h = refl
closing_ends escaped opens_comment h = cc
closing_ends escaped closes_comment h = cc
closing_ends escaped opens_script h = cc
closing_ends escaped closes_script h = refl
closing_ends double_escaped opens_comment h = cc
closing_ends double_escaped closes_comment h = cc
closing_ends double_escaped opens_script h = cc
closing_ends double_escaped closes_script h = cc

script_there : (s : List ℕ) (state : ScriptState) (i k : ℕ) → first_end state (marks_from i s) ≡ Some k → Found (λ r. is_closing (mark_at r)) s i k
script_there [] state i k h = cc
script_there (c ∷ s) state i k h = by (mark_at (c ∷ s)) refl (λ next e. script_there s next (suc i) k e) h
  where
    later : Found (λ r. is_closing (mark_at r)) s (suc i) k → Found (λ r. is_closing (mark_at r)) (c ∷ s) i k
    later f = record { count = suc f.count; place = let p = f.place in omega arith; there = f.there }

    by_end : (m : Mark) → mark_at (c ∷ s) ≡ Some m → (b : Bool) → ends_script state m ≡ b → ((next : ScriptState) → first_end next (marks_from (suc i) s) ≡ Some k → Found (λ r. is_closing (mark_at r)) s (suc i) k)
        → cond b (Some i) (first_end (state_after state m) (marks_from (suc i) s)) ≡ Some k → Found (λ r. is_closing (mark_at r)) (c ∷ s) i k
    by_end m e true b more h' = let is : i ≡ k = cc in record { count = 0; place = omega (arith, is); there = rw e (closing_ends state m b) }
    by_end m e false b more h' = later (more (state_after state m) h')

    by : (o : Option Mark) → mark_at (c ∷ s) ≡ o → ((next : ScriptState) → first_end next (marks_from (suc i) s) ≡ Some k → Found (λ r. is_closing (mark_at r)) s (suc i) k) → first_end state (with_mark o i (marks_from (suc i) s)) ≡ Some k → Found (λ r. is_closing (mark_at r)) (c ∷ s) i k
    by None e more h' = later (more state h')
    by (Some m) e more h' = by_end m e (ends_script state m) refl more h'

no_mark : is_closing (mark_at []) ≡ false
unfolding mark_at
no_mark = refl

script_at_once : (r : List ℕ) → is_closing (mark_at r) ≡ true → script_end r ≡ Some 0
script_at_once [] h = absurd (both_ways (is_closing (mark_at [])) no_mark h)
script_at_once (c ∷ r) h = by (mark_at (c ∷ r)) refl h
  where
    by : (o : Option Mark) → mark_at (c ∷ r) ≡ o → is_closing o ≡ true → first_end unescaped (with_mark o 0 (marks_from 1 r)) ≡ Some 0
    by None e k = cc
    by (Some opens_comment) e k = cc
    by (Some closes_comment) e k = cc
    by (Some opens_script) e k = cc
    by (Some closes_script) e k = refl

script_ends_there : (s : List ℕ) (k : ℕ) → script_end s ≡ Some k → script_end (drop k s) ≡ Some 0
script_ends_there s k h =
    let f = script_there s unescaped 0 k h in
    let is : k ≡ f.count = let p = f.place in omega arith in
    rw is (script_at_once (drop f.count s) f.there)

-- ---- What is read there

-- a tag
abbrev pub IsTag : Scanned → Type 0
IsTag (taken (start_tag name attributes slash) rest) = Unit {0}
IsTag (taken (end_tag name) rest) = Unit {0}
IsTag (taken token rest) = ⊥
IsTag (refused fault) = Unit {0}

start_is_tag : (t : List Entry) (name : List ℕ) (o : Option CutTag) → IsTag (start_of t name o)
start_is_tag t name None = tt
start_is_tag t name (Some g) = by (tag_fault name g.attributes)
  where
    by : (f : Option ScanFault) → IsTag (unless_fault f (start_tag name (read_attributes t g.attributes) g.slash) g.rest)
    by None = tt
    by (Some f) = tt

end_is_tag : (name : List ℕ) (o : Option CutTag) → IsTag (end_of name o)
end_is_tag name None = tt
end_is_tag name (Some g) = by (tag_fault name g.attributes)
  where
    by : (f : Option ScanFault) → IsTag (unless_fault f (end_tag name) g.rest)
    by None = tt
    by (Some f) = tt

pub tag_is_read : (t : List Entry) (s : List ℕ) → IsTag (read_tag t s)
unfolding read_tag read_start read_end
tag_is_read t s = by (strip (codes "</") s)
  where
    by : (o : Option (List ℕ)) → IsTag (read_by t o (drop 1 s))
    by None = start_is_tag t (tag_name (drop 1 s)) (cut_tag (bytes.rest_after is_name_byte (drop 1 s)))
    by (Some r) = end_is_tag (tag_name r) (cut_tag (bytes.rest_after is_name_byte r))

-- the end tag of a text is read here
abbrev pub TagHere : List Entry → Mode → List ℕ → Type 0
TagHere t mode s = first t mode s ≡ unless_end s (read_tag t s)

slice_inside : (t : List Entry) (s : List ℕ) (o : Option ℕ) (n : ℕ) (x rest : List ℕ) → unless_end s (read_inside t s o read_nothing) ≡ after_bytes n (taken (slice x) rest) → (k : ℕ) × ((o ≡ Some k) × (rest ≡ drop k s))
slice_inside t [] o n x rest h = cc
slice_inside t (c ∷ s) None n x rest h = cc
slice_inside t (c ∷ s) (Some zero) n x rest h = absurd (by (read_tag t (c ∷ s)) (tag_is_read t (c ∷ s)) h)
  where
    by : (y : Scanned) → IsTag y → after_bytes 0 y ≡ after_bytes n (taken (slice x) rest) → ⊥
    by (taken (start_tag name attributes slash) r) i e = cc
    by (taken (end_tag name) r) i e = cc
    by (taken (doctype legacy) r) i e = absurd i
    by (taken (slice y) r) i e = absurd i
    by (taken (points ps) r) i e = absurd i
    by (taken (comment y) r) i e = absurd i
    by (refused fault) i e = cc
slice_inside t (c ∷ s) (Some (suc k)) n x rest h = (suc k, (refl, cc))

-- after a raw text its end tag is read
pub tag_after : (t : List Entry) (name : List ℕ) (mode : Mode) (s : List ℕ) (n : ℕ) (x rest : List ℕ) → RawMode name mode → first t mode s ≡ after_bytes n (taken (slice x) rest) → TagHere t mode rest
unfolding first
tag_after t name mode s n x rest (of_script e) h =
    let f = slice_inside t s (script_end s) n x rest h in
    let e : script_end rest ≡ Some 0 = rw f.1.1 (script_ends_there s f.0 f.1.0) in
    rw e refl
tag_after t name mode s n x rest (of_raw e) h =
    let f = slice_inside t s (raw_end name s) n x rest h in
    let e : raw_end name rest ≡ Some 0 = rw f.1.1 (raw_ends_there name s f.0 f.1.0) in
    rw e refl
