-- Attributes that are kept, one after another.
use Rattle.std.proofs.Common.{◌≡◌, ℕ, ◌+◌, ◌≤◌, Bool, true, false, cond, not, ◌&&◌, ◌||◌, nat_le, List, [], ◌∷◌, ◌++◌, map, length, bytes_eq, refl, ap, sym, subst, ◌∙◌, arith, length-append, append-nil}
use Rattle.std.proofs.lemmas.Bool.{or_parts}
use Rattle.std.proofs.Math.Bool.{or-false}
use Rattle.std.proofs.lemmas.Slice.Eq.{bytes_eq-Decides}
use Rattle.hm_base.specs.Walks.{Attribute, has_name}
use Rattle.hm_refs.specs.Names.{Entry}
use Rattle.hm_scan.specs.Reading.{attribute_limit, is_bad_name, has_bad_name, read_attribute, without_name, without_repeats, read_attributes}
use Rattle.hm_scan.specs.Collected.{added, IsCollected}
use Rattle.hm_scan.specs.declared.collected.Collected.{Collected}

-- names that are the same, and that are not

eq_false : (n m : List ℕ) → bytes_eq n m ≡ false → bytes_eq m n ≡ false
eq_false n m h = elim (bytes_eq m n) as (λ b. bytes_eq m n ≡ b → b ≡ false)
    [ true ↦ λ e. absurd (clash ((bytes_eq-Decides n m).1 (sym ((bytes_eq-Decides m n).0 e)))) | false ↦ λ e. refl ] refl
  where
    clash : bytes_eq n m ≡ true → ⊥
    clash e = cc

has_without : (attributes : List Attribute) (n m : List ℕ) → bytes_eq n m ≡ false → has_name m (without_name n attributes) ≡ has_name m attributes
has_without [] n m h = refl
has_without (b ∷ attributes) n m h = by_test (bytes_eq b.name n) refl (has_without attributes n m h)
  where
    by_test : (e : Bool) → bytes_eq b.name n ≡ e → has_name m (without_name n attributes) ≡ has_name m attributes
        → has_name m (cond e (without_name n attributes) (b ∷ without_name n attributes)) ≡ cond (bytes_eq b.name m) true (has_name m attributes)
    by_test true e more = let same : b.name ≡ n = (bytes_eq-Decides b.name n).0 e in let other : bytes_eq b.name m ≡ false = rw same h in rw other more
    by_test false e more = ap (cond (bytes_eq b.name m) true) more

without_push : (n : List ℕ) (attributes : List Attribute) (a : Attribute) → without_name n (attributes ++ a ∷ []) ≡ without_name n attributes ++ without_name n (a ∷ [])
without_push n [] a = refl
without_push n (b ∷ attributes) a = by_test (bytes_eq b.name n) (without_push n attributes a)
  where
    by_test : (e : Bool) → without_name n (attributes ++ a ∷ []) ≡ without_name n attributes ++ without_name n (a ∷ [])
        → cond e (without_name n (attributes ++ a ∷ [])) (b ∷ without_name n (attributes ++ a ∷ []))
        ≡ cond e (without_name n attributes) (b ∷ without_name n attributes) ++ without_name n (a ∷ [])
    by_test true more = more
    by_test false more = ap (λ r. b ∷ r) more

-- one more attribute
pub repeats_push : (attributes : List Attribute) (a : Attribute) → without_repeats (attributes ++ a ∷ []) ≡ added (without_repeats attributes) a
repeats_push [] a = refl
repeats_push (x ∷ xs) a = ap (λ r. x ∷ without_name x.name r) (repeats_push xs a) ∙ by_test (bytes_eq x.name a.name) refl (has_name a.name rest) refl
  where
    rest : List Attribute
    rest = without_repeats xs

    by_test : (e : Bool) → bytes_eq x.name a.name ≡ e → (h : Bool) → has_name a.name rest ≡ h
        → x ∷ without_name x.name (cond h rest (rest ++ a ∷ [])) ≡ cond (cond e true (has_name a.name (without_name x.name rest))) (x ∷ without_name x.name rest) (x ∷ (without_name x.name rest ++ a ∷ []))
    by_test true e true f = refl
    by_test true e false f =
        let same : bytes_eq a.name x.name ≡ true = (bytes_eq-Decides a.name x.name).1 (sym ((bytes_eq-Decides x.name a.name).0 e)) in
        ap (λ r. x ∷ r) (without_push x.name rest a ∙ rw same (append-nil (without_name x.name rest)))
    by_test false e true f =
        let there : has_name a.name (without_name x.name rest) ≡ true = has_without rest x.name a.name e ∙ f in
        rw there refl
    by_test false e false f =
        let none : has_name a.name (without_name x.name rest) ≡ false = has_without rest x.name a.name e ∙ f in
        let other : bytes_eq a.name x.name ≡ false = eq_false x.name a.name e in
        rw none (ap (λ r. x ∷ r) (without_push x.name rest a ∙ rw other refl))

map_push : {A B : Type 0} (f : A → B) (xs : List A) (x : A) → map f (xs ++ x ∷ []) ≡ map f xs ++ f x ∷ []
map_push f [] x = refl
map_push f (y ∷ xs) x = ap (λ r. f y ∷ r) (map_push f xs x)

or_assoc : (a b c : Bool) → a || (b || c) ≡ (a || b) || c
or_assoc true b c = refl
or_assoc false b c = refl

bad_push : (attributes : List Attribute) (a : Attribute) → has_bad_name (attributes ++ a ∷ []) ≡ has_bad_name attributes || is_bad_name a.name
bad_push [] a = or-false (is_bad_name a.name)
bad_push (b ∷ attributes) a = ap (λ r. is_bad_name b.name || r) (bad_push attributes a) ∙ or_assoc (is_bad_name b.name) (has_bad_name attributes) (is_bad_name a.name)

added_few : (attributes : List Attribute) (a : Attribute) → length (added attributes a) ≤ length attributes + 1
added_few attributes a = by_test (has_name a.name attributes)
  where
    by_test : (b : Bool) → length (cond b attributes (attributes ++ a ∷ [])) ≤ length attributes + 1
    by_test true = omega arith
    by_test false = simp length-append (omega arith)

pub record Takes (t : List Entry) (a : Attribute) (old : Collected) (before : List Attribute) (new : Collected) (after : List Attribute) : Type 0 where
  pub keeps : new.keeps ≡ old.keeps
  pub count : new.count ≡ old.count + 1
  pub bad : new.has_bad_name ≡ old.has_bad_name || is_bad_name a.name
  pub attrs : after ≡ cond (new.keeps && not new.has_bad_name && nat_le new.count attribute_limit) (added before (read_attribute t a)) before

wanted : (keeps bad : Bool) (count : ℕ) → keeps ≡ true → bad ≡ false → count ≤ attribute_limit → keeps && not bad && nat_le count attribute_limit ≡ true
wanted keeps bad count k b h = let low : nat_le count 256 ≡ true = grind arith in rw (k, b) low

pub collected_more : (t : List Entry) (written : List Attribute) (a : Attribute) (old : Collected) (before : List Attribute) (new : Collected) (after : List Attribute)
    → IsCollected t written old before → Takes t a old before new after → IsCollected t (written ++ a ∷ []) new after
collected_more t written a old before new after c k =
    let count : new.count ≡ length (written ++ a ∷ []) = rw (k.count, length-append written (a ∷ []), c.count) refl in
    let bad : new.has_bad_name ≡ has_bad_name (written ++ a ∷ []) = k.bad ∙ ap (λ b. b || is_bad_name a.name) c.bad ∙ sym (bad_push written a) in
    record {
      count = count;
      bad = bad;
      few = subst (λ n. length after ≤ n) (sym k.count)
          (subst (λ r. length r ≤ old.count + 1) (sym k.attrs) (few (new.keeps && not new.has_bad_name && nat_le new.count attribute_limit)));
      read = λ keeps none short.
          let parts = or_parts (has_bad_name written) (is_bad_name a.name) (sym (bad_push written a) ∙ none) in
          let longer : length (written ++ a ∷ []) ≡ length written + 1 = length-append written (a ∷ []) in
          let wants : new.keeps && not new.has_bad_name && nat_le new.count attribute_limit ≡ true = wanted new.keeps new.has_bad_name new.count keeps (bad ∙ none) (omega arith) in
          let are : before ≡ read_attributes t written = c.read (sym k.keeps ∙ keeps) parts.0 (omega arith) in
          k.attrs ∙ ap (λ b. cond b (added before (read_attribute t a)) before) wants
          ∙ ap (λ r. added r (read_attribute t a)) are
          ∙ sym (ap without_repeats (map_push (read_attribute t) written a) ∙ repeats_push (map (read_attribute t) written) (read_attribute t a));
    }
  where
    few : (b : Bool) → length (cond b (added before (read_attribute t a)) before) ≤ old.count + 1
    few true = omega (arith, added_few before (read_attribute t a), c.few)
    few false = omega (arith, c.few)
