-- The files that the entries of an index map hold.
use Rattle.std.proofs.Common.{◌≡◌, ℕ, zero, suc, ◌+◌, ◌<◌, Bool, true, false, cond, not, if◌then◌else◌, List, [], ◌∷◌, ◌++◌, map, length, get_or, slice_get, Some, None, refl, sym, ap, ◌∙◌, arith, append-nil}
use Rattle.std.specs.declared.option.Option.{Option}
use Rattle.std.specs.declared.string.String.{String}
use Rattle.std.specs.declared.vec.Vec.{Vec}
use Rattle.std.specs.declared.alloc.Global.{Global}
use Rattle.std.specs.Option.{option_map, unwrap_or, is_some, IfSome}
use Rattle.std.specs.Ordering.{nat_cmp}
use Rattle.std.specs.Cmp.Lexicographic.{slice_cmp, nat_list_cmp_total, nat_list_eq_equiv}
use Rattle.std.specs.Str.{bytes_eq}
use Rattle.std.specs.String.{string_bytes, string_eq, string_eq_equiv}
use Rattle.std.specs.List.{position, position_or_len}
use Rattle.std.specs.Map.{keys_of, values_of, lookup}
use Rattle.std.specs.HashMap.{HashMap}
use Rattle.std.specs.FinMap as finmap
use Rattle.std.specs.FinMap.{find, get-from_entries}
use Rattle.std.proofs.lemmas.Map.Text.{is_eq-slice_cmp, hash_map_updates_text}
use Rattle.std.proofs.lemmas.Slice.Eq.{bytes_eq-Decides}
use Rattle.std.proofs.lemmas.Option.{same_Some}
use Rattle.std.proofs.lemmas.List.Quantifiers.{position-Some}
use Rattle.std.proofs.lemmas.Map.Entries.{hash_map_get_place}
use Rattle.indexmap.specs.IndexMap.{Updates, IsUnique, insert_entry, set_value_at, with_value_at, values}
use Rattle.indexmap.proofs.CallerLemmas.{updates-with_value_at}
use Rattle.hm_store.specs.Files.{FileMap, content}
use Rattle.hm_store.specs.NamedFiles.{NamedFiles, no_files, name_at, names_of, files_of, appended_at}
use Rattle.hm_store.proofs.FileLemmas.{same_files, get-with}

abbrev Bytes : Type 0
Bytes = Vec ℕ Global

abbrev Entries : Type 0
Entries = List (String Global × Bytes)

abbrev is_named : List ℕ → String Global → Bool
is_named q k = bytes_eq q (string_bytes k)

abbrev items : Bytes → List ℕ
items v = v.items

abbrev pair : String Global × Bytes → List ℕ × List ℕ
pair e = (string_bytes e.0, e.1.items)

map-cond : {A B : Type 0} (f : A → B) (b : Bool) (x : A) (o : Option A) → option_map f (cond b (Some x) o) ≡ cond b (Some (f x)) (option_map f o)
map-cond f true x o = refl
map-cond f false x o = refl

found : (q : List ℕ) (es : Entries) → find (slice_cmp nat_cmp) q (map pair es) ≡ option_map items (lookup (is_named q) es)
found q [] = refl
found q (e ∷ es) =
    ap (λ b. cond b (Some e.1.items) (find (slice_cmp nat_cmp) q (map pair es))) (is_eq-slice_cmp q (string_bytes e.0))
    ∙ ap (cond (is_named q e.0) (Some e.1.items)) (found q es)
    ∙ sym (map-cond items (is_named q e.0) e.1 (lookup (is_named q) es))

-- what the files have under a name
pub get-files_of : (es : Entries) (q : List ℕ) → finmap.get (files_of es) q ≡ option_map items (lookup (is_named q) es)
unfolding files_of
get-files_of es q = get-from_entries nat_list_cmp_total (map pair es) q ∙ found q es

-- an insertion into the map is one into the files
pub files_of-updated : {S : Type 0} (m n : HashMap (String Global) Bytes S) (k : String Global) (v : Bytes) → Updates string_eq m n k (Some v) → files_of n.entries ≡ finmap.insert (files_of m.entries) (string_bytes k) v.items
files_of-updated m n k v u = same_files _ _ (λ q.
    get-files_of n.entries q
    ∙ ap (option_map items) (hash_map_updates_text (string_bytes k) m n (Some v) u q)
    ∙ map-cond items (bytes_eq (string_bytes k) q) v (lookup (is_named q) m.entries)
    ∙ ap (λ b. cond b (Some v.items) (option_map items (lookup (is_named q) m.entries))) (nat_list_eq_equiv.symm (string_bytes k) q)
    ∙ ap (cond (bytes_eq q (string_bytes k)) (Some v.items)) (sym (get-files_of m.entries q))
    ∙ sym (get-with (files_of m.entries) (string_bytes k) v.items q))

-- the entry at a place
pub entry_at : (es : Entries) (i : ℕ) (v : Bytes) → slice_get (values_of es) i ≡ Some v → (k : String Global) × (slice_get es i ≡ Some (k, v))
entry_at [] i v h = absurd (cc)
entry_at (e ∷ es) zero v h = (e.0, ap (λ w. Some (e.0, w)) (same_Some e.1 v h))
entry_at (e ∷ es) (suc i) v h = entry_at es i v h

pub name_at-entry : (es : Entries) (i : ℕ) (k : String Global) (v : Bytes) → slice_get es i ≡ Some (k, v) → name_at (names_of es) i ≡ string_bytes k
name_at-entry [] i k v h = absurd (cc)
name_at-entry (e ∷ es) zero k v h = ap (λ p. string_bytes p.0) (same_Some e (k, v) h)
name_at-entry (e ∷ es) (suc i) k v h = name_at-entry es i k v h

pub content-files_of : (es : Entries) (k : String Global) (v : Bytes) → lookup (string_eq k) es ≡ Some v → content (files_of es) (string_bytes k) ≡ v.items
content-files_of es k v h = ap (λ o. unwrap_or o []) (get-files_of es (string_bytes k) ∙ ap (option_map items) h)

one_on : (n : ℕ) → 1 + n ≡ suc n
one_on n = omega arith

both : {names names' : List (List ℕ)} {files files' : FileMap} → names ≡ names' → files ≡ files' → ◌≡◌ {A = NamedFiles} (record { names = names; files = files }) (record { names = names'; files = files' })
both p q = λ i. record { names = p i; files = q i }

pairs-set : (es : Entries) (i : ℕ) (v w : Bytes) → slice_get (values_of es) i ≡ Some v → w.items ≡ v.items → map pair (set_value_at es i w) ≡ map pair es
pairs-set [] i v w at same = refl
pairs-set (e ∷ es) zero v w at same = ap (λ b. (string_bytes e.0, b) ∷ map pair es) (same ∙ sym (ap items (same_Some e.1 v at)))
pairs-set (e ∷ es) (suc i) v w at same = ap (λ ps. (string_bytes e.0, e.1.items) ∷ ps) (pairs-set es i v w at same)

-- a new value at a place leaves the names
pub names_of-set : (es : Entries) (i : ℕ) (w : Bytes) → names_of (set_value_at es i w) ≡ names_of es
names_of-set [] i w = refl
names_of-set (e ∷ es) zero w = refl
names_of-set (e ∷ es) (suc i) w = ap (λ ns. string_bytes e.0 ∷ ns) (names_of-set es i w)

pub names_of-inserted : (es : Entries) (k : String Global) (v : Bytes) → (more : List (List ℕ)) × (names_of (insert_entry string_eq es k v) ≡ names_of es ++ more)
names_of-inserted [] k v = (string_bytes k ∷ [], refl)
names_of-inserted (e ∷ es) k v =
    elim (string_eq k e.0) as (λ b. (more : List (List ℕ)) × (names_of (if b then (e.0, v) ∷ es else e ∷ insert_entry string_eq es k v) ≡ (string_bytes e.0 ∷ names_of es) ++ more)) [
      | true ↦ ([], sym (append-nil _))
      | false ↦ let rest = names_of-inserted es k v in (rest.0, ap (λ ns. string_bytes e.0 ∷ ns) rest.1)
    ]

-- the place that an inserted name has
pub name_at-inserted : (es : Entries) (k : String Global) (v : Bytes) → name_at (names_of (insert_entry string_eq es k v)) (position_or_len (string_eq k) (keys_of es)) ≡ string_bytes k
name_at-inserted [] k v = refl
name_at-inserted (e ∷ es) k v =
    elim (string_eq k e.0) as (λ b. string_eq k e.0 ≡ b → name_at (names_of (if b then (e.0, v) ∷ es else e ∷ insert_entry string_eq es k v)) (cond (not b) (1 + position_or_len (string_eq k) (keys_of es)) 0) ≡ string_bytes k) [
      | true ↦ λ same. sym ((bytes_eq-Decides (string_bytes k) (string_bytes e.0)).0 same)
      | false ↦ λ other. ap (name_at (string_bytes e.0 ∷ names_of (insert_entry string_eq es k v))) (one_on (position_or_len (string_eq k) (keys_of es))) ∙ name_at-inserted es k v
    ] refl

-- what contracts see of the entries
abbrev pub named : Entries → NamedFiles
named es = record { names = names_of es; files = files_of es }

pub named-none : (es : Entries) → es ≡ [] → named es ≡ no_files
unfolding files_of
named-none es e = ap named e

pub got : (es : Entries) (q : List ℕ) (t : NamedFiles) (o : Option Bytes) → named es ≡ t → o ≡ lookup (is_named q) es → option_map items o ≡ finmap.get t.files q
got es q t o is h = ap (option_map items) h ∙ sym (get-files_of es q) ∙ ap (λ (f : NamedFiles). finmap.get f.files q) is

is_some-map : {A B : Type 0} (f : A → B) (o : Option A) → is_some (option_map f o) ≡ is_some o
is_some-map f None = refl
is_some-map f (Some x) = refl

pub has : (es : Entries) (q : List ℕ) (t : NamedFiles) → named es ≡ t → is_some (lookup (is_named q) es) ≡ finmap.contains_key t.files q
has es q t is = sym (is_some-map items (lookup (is_named q) es)) ∙ ap is_some (got es q t (lookup (is_named q) es) is refl)

name_at-keys : (es : Entries) (i : ℕ) (d : String Global) → i < length (keys_of es) → name_at (names_of es) i ≡ string_bytes (get_or (keys_of es) i d)
name_at-keys [] i d h = absurd (omega arith)
name_at-keys (e ∷ es) zero d h = refl
name_at-keys (e ∷ es) (suc i) d h = name_at-keys es i d (omega arith)

some_place : (es : Entries) (q : List ℕ) (i : ℕ) → position (is_named q) (keys_of es) ≡ Some i → name_at (names_of es) i ≡ q
some_place [] q i h = absurd (cc)
some_place (e ∷ es) q i h =
    let p = position-Some (is_named q) (keys_of (e ∷ es)) i e.0 h in
    name_at-keys (e ∷ es) i e.0 p.0 ∙ sym ((bytes_eq-Decides q (string_bytes (get_or (keys_of (e ∷ es)) i e.0))).0 p.1)

pub placed : (es : Entries) (q : List ℕ) (t : NamedFiles) (o : Option ℕ) → named es ≡ t → o ≡ position (is_named q) (keys_of es) → IfSome o (λ i. name_at t.names i ≡ q)
placed es q t None is h = tt
placed es q t (Some i) is h = ap (λ (f : NamedFiles). name_at f.names i) (sym is) ∙ some_place es q i (sym h)

pub content_at : (es : Entries) (t : NamedFiles) (i : ℕ) (k : String Global) (v : Bytes) → named es ≡ t → slice_get es i ≡ Some (k, v) → lookup (string_eq k) es ≡ Some v → v.items ≡ content t.files (name_at t.names i)
content_at es t i k v is at h =
    sym (content-files_of es k v h) ∙ ap (content (files_of es)) (sym (name_at-entry es i k v at)) ∙ ap (λ (f : NamedFiles). content f.files (name_at f.names i)) is

-- bytes appended to those of the file at a place
pub appended : {S : Type 0} (m : HashMap (String Global) Bytes S) (i : ℕ) (v w : Bytes) (bytes : List ℕ) (t : NamedFiles)
    → named m.entries ≡ t → IsUnique string_eq m → slice_get (values m) i ≡ Some v → w.items ≡ v.items ++ bytes → named (set_value_at m.entries i w) ≡ appended_at t i bytes
appended m i v w bytes t is unique at more =
    let e = entry_at m.entries i v at in
    let name : name_at (names_of m.entries) i ≡ string_bytes e.0 = name_at-entry m.entries i e.0 v e.1 in
    let had : v.items ≡ content (files_of m.entries) (name_at (names_of m.entries) i) =
    sym (content-files_of m.entries e.0 v (hash_map_get_place string_eq_equiv m i e.0 v unique e.1)) ∙ ap (content (files_of m.entries)) (sym name) in
    let files : files_of (set_value_at m.entries i w) ≡ finmap.insert (files_of m.entries) (string_bytes e.0) w.items =
    files_of-updated m (with_value_at m i w) e.0 w (updates-with_value_at m i w string_eq_equiv unique e.0 v e.1) in
    both (names_of-set m.entries i w) (files ∙ ap (λ n. finmap.insert (files_of m.entries) n w.items) (sym name) ∙ ap (finmap.insert (files_of m.entries) (name_at (names_of m.entries) i)) (more ∙ ap (λ a. a ++ bytes) had))
    ∙ ap (λ s. appended_at s i bytes) is

-- a value that holds the same bytes changes nothing
pub kept : (es : Entries) (i : ℕ) (v w : Bytes) (t : NamedFiles) → named es ≡ t → slice_get (values_of es) i ≡ Some v → w.items ≡ v.items → named (set_value_at es i w) ≡ t
unfolding files_of
kept es i v w t is at same = both (names_of-set es i w) (ap finmap.from_entries (pairs-set es i v w at same)) ∙ is

-- what is left after an insertion
pub set_files : {S : Type 0} (m n : HashMap (String Global) Bytes S) (k : String Global) (v : Bytes) (q bytes : List ℕ) (t : NamedFiles)
    → named m.entries ≡ t → Updates string_eq m n k (Some v) → string_bytes k ≡ q → v.items ≡ bytes → files_of n.entries ≡ finmap.insert t.files q bytes
set_files m n k v q bytes t is u name had =
    files_of-updated m n k v u
    ∙ ap (λ n. finmap.insert (files_of m.entries) n v.items) name
    ∙ ap (finmap.insert (files_of m.entries) q) had
    ∙ ap (λ (f : NamedFiles). finmap.insert f.files q bytes) is

pub set_places : (es fs : Entries) (k : String Global) (v : Bytes) (t : NamedFiles) → named es ≡ t → fs ≡ insert_entry string_eq es k v → (more : List (List ℕ)) × (names_of fs ≡ t.names ++ more)
set_places es fs k v t is e =
    let p = names_of-inserted es k v in
    (p.0, ap names_of e ∙ p.1 ∙ ap (λ (f : NamedFiles). f.names ++ p.0) is)

pub set_named : (es fs : Entries) (k : String Global) (v : Bytes) (i : ℕ) (q : List ℕ) → fs ≡ insert_entry string_eq es k v → i ≡ position_or_len (string_eq k) (keys_of es) → string_bytes k ≡ q → name_at (names_of fs) i ≡ q
set_named es fs k v i q e at name = ap (λ f. name_at (names_of f) i) e ∙ ap (name_at (names_of (insert_entry string_eq es k v))) at ∙ name_at-inserted es k v ∙ name
