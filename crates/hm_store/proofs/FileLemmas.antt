-- Lemmas on known files, and on what is put into them.
use Rattle.std.proofs.Common.{◌≡◌, ℕ, ◌⊎◌, inl, inr, List, [], ◌++◌, length, take, Bool, true, false, cond, Some, None, refl, sym, ap, ◌∙◌, arith}
use Rattle.std.proofs.lemmas.List.{take_all}
use Rattle.std.specs.declared.option.Option.{Option}
use Rattle.std.specs.Option.{unwrap_or, IsSome}
use Rattle.std.specs.Cmp.Lexicographic.{nat_list_cmp_total}
use Rattle.std.specs.Str.{bytes_eq}
use Rattle.std.specs.FinMap as map
use Rattle.std.specs.FinMap.{same_map, get-insert, slice_cmp-IsAntisymmetric, nat_cmp-IsAntisymmetric}
use Rattle.std.proofs.lemmas.Map.Text.{is_eq-slice_cmp}
use Rattle.std.proofs.lemmas.Slice.Eq.{bytes_eq-Decides}
use Rattle.hm_store.specs.Files.{FileMap, content, with_file, with_more, HasFront, PutsFront}

-- two maps that give the same for every name are the same
pub same_files : (m n : FileMap) → ((q : List ℕ) → map.get m q ≡ map.get n q) → m ≡ n
same_files = same_map nat_list_cmp_total (slice_cmp-IsAntisymmetric nat_cmp-IsAntisymmetric)

-- what stands under a name after one insertion
pub get-with : (m : FileMap) (name bytes q : List ℕ) → map.get (map.insert m name bytes) q ≡ cond (bytes_eq q name) (Some bytes) (map.get m q)
get-with m name bytes q = get-insert nat_list_cmp_total m name bytes q ∙ ap (λ b. cond b (Some bytes) (map.get m q)) (is_eq-slice_cmp q name)

pub get-with_same : (m : FileMap) (name bytes : List ℕ) → map.get (map.insert m name bytes) name ≡ Some bytes
get-with_same m name bytes = get-with m name bytes name ∙ ap (λ b. cond b (Some bytes) (map.get m name)) ((bytes_eq-Decides name name).1 refl)

pub content-with_same : (m : FileMap) (name bytes : List ℕ) → content (map.insert m name bytes) name ≡ bytes
content-with_same m name bytes = ap (λ o. unwrap_or o []) (get-with_same m name bytes)

twice : (b : Bool) {A : Type 0} (x y z : A) → cond b x (cond b y z) ≡ cond b x z
twice true x y z = refl
twice false x y z = refl

-- of two insertions under one name only the second counts
pub insert_twice : (m : FileMap) (name a b : List ℕ) → map.insert (map.insert m name a) name b ≡ map.insert m name b
insert_twice m name a b = same_files _ _ (λ q.
    get-with (map.insert m name a) name b q
    ∙ ap (cond (bytes_eq q name) (Some b)) (get-with m name a q)
    ∙ twice (bytes_eq q name) (Some b) (Some a) (map.get m q)
    ∙ sym (get-with m name b q))

-- bytes appended to an empty file
pub put_first : (old : Option FileMap) (name target bytes : List ℕ) → (IsSome old → target ≡ name) → with_more (with_file old name []) target bytes ≡ with_file old name bytes
put_first None name target bytes h = refl
put_first (Some m) name target bytes h =
    ap Some (ap (λ k. map.insert (map.insert m name []) k (content (map.insert m name []) k ++ bytes)) (h refl)
    ∙ ap (λ a. map.insert (map.insert m name []) name (a ++ bytes)) (content-with_same m name [])
    ∙ insert_twice m name [] bytes)

pub front_none : (old new : Option FileMap) (name bytes : List ℕ) → new ≡ with_file old name [] → HasFront old new name bytes
front_none old new name bytes e = record { taken = 0; files = e }

pub front_all : (old new : Option FileMap) (name bytes : List ℕ) → new ≡ with_file old name bytes → HasFront old new name bytes
front_all old new name bytes e = record { taken = length bytes; files = e ∙ ap (with_file old name) (sym (take_all (length bytes) bytes (omega arith))) }

-- where a prefix was appended to an empty file, that prefix stands under its name
pub front_put : (old mid new : Option FileMap) (name target bytes : List ℕ) → mid ≡ with_file old name [] → (IsSome old → target ≡ name) → (new ≡ mid) ⊎ PutsFront mid new target bytes → HasFront old new name bytes
front_put old mid new name target bytes e h (inl s) = front_none old new name bytes (s ∙ e)
front_put old mid new name target bytes e h (inr p) = record {
  taken = p.taken;
  files = p.files ∙ ap (λ o. with_more o target (take p.taken bytes)) e ∙ put_first old name target (take p.taken bytes) h;
}
