-- The search for the longest name, down a trie.
use Rattle.std.proofs.Common.{◌≡◌, ℕ, ◌+◌, ◌<◌, ◌≤◌, Bool, true, false, cond, ◌==◌, List, [], ◌∷◌, ◌++◌, length, get_or, take, drop, Option, Some, None, option_map, IfSome, refl, sym, ap, ◌∙◌, arith, is_some}
use Rattle.std.specs.Option.{option_or}
use Rattle.std.proofs.lemmas.List.{take_more, take-append-drop, drop_at, at_drop_more, at_drop_all}
use Rattle.hm_refs.specs.Names.{Entry, begins, is_front, child_of, is_name, Found, or_else, found_here, found, found_longer, longest}
use Rattle.hm_refs.specs.Tables.{names_in, entry_at, found_at, TableView, front_at, IsNode}
use Rattle.hm_refs.specs.Nodes.{place, AreNames, IsSought}
use Rattle.hm_refs.proofs.Bools.{and_left, eq_of}
use Rattle.hm_refs.proofs.Found.{or_else_none, here_none, here_found, found_none, found_over}
use Rattle.hm_refs.proofs.Whole.{front_of, name_place, named_at}

-- no name has fewer than three bytes
short_no : (t : List Entry) → AreNames t → (q : List ℕ) → length q < 3 → is_name t q ≡ false
short_no t a q l = name_place t q ∙ by_place (place q (names_in t)) refl
  where
    by_place : (o : Option ℕ) → place q (names_in t) ≡ o → is_some o ≡ false
    by_place None e = refl
    by_place (Some i) e = absurd (let n = named_at t q i e in let s = a.short i n.inside in omega (arith, s.long, ap length n.is))

-- after '&' only longer ones are found
pub longest_amp : (t : List Entry) → AreNames t → (s : List ℕ) → longest t (38 ∷ s) ≡ found_longer t (38 ∷ []) s
longest_amp t a s =
    rw (here_none t [] (38 ∷ s) (short_no t a [] (omega arith)), or_else_none (found t (38 ∷ []) s), found_over t (38 ∷ []) s, here_none t (38 ∷ []) s (short_no t a (38 ∷ []) (omega arith)))
    (or_else_none (found_longer t (38 ∷ []) s))

-- and nothing where no '&' stands
pub longest_other : (t : List Entry) → AreNames t → (c : ℕ) (s : List ℕ) → (c ≡ 38 → ⊥) → longest t (c ∷ s) ≡ None
longest_other t a c s d = rw (here_none t [] (c ∷ s) (short_no t a [] (omega arith)), found_none t (c ∷ []) s (by_front (is_front t (c ∷ [])) refl)) refl
  where
    first_is : (n : List ℕ) → n ≡ 38 ∷ drop 1 n → begins (c ∷ []) n ≡ true → c ≡ 38
    first_is [] e h = absurd (cc)
    first_is (x ∷ n) e h = let i : x ≡ 38 = cc in eq_of c x (and_left (c == x) true h) ∙ i

    by_front : (b : Bool) → is_front t (c ∷ []) ≡ b → b ≡ false
    by_front false e = refl
    by_front true e = absurd (let f = front_of t (c ∷ []) e in let s = a.short f.number f.inside in d (first_is (entry_at t f.number).name s.begins f.begins_so))

pub longest_nothing : (t : List Entry) → AreNames t → longest t [] ≡ None
longest_nothing t a = here_none t [] [] (short_no t a [] (omega arith))

same_found : (ps : List ℕ) {q m s r : List ℕ} → q ≡ m → s ≡ r → ◌≡◌ {A = Found} (record { name = q; points = ps; rest = s }) (record { name = m; points = ps; rest = r })
same_found ps f g = rw (f, g) refl

-- what a node's bytes are found as
here_at : (t : List Entry) (q s text : List ℕ) (o : Option ℕ) → o ≡ place q (names_in t) → text ≡ q ++ s → found_here t q s ≡ option_map (λ i. found_at t i text) o
here_at t q s text None e w = here_none t q s (name_place t q ∙ ap is_some (sym e))
here_at t q s text (Some i) e w =
    let n = named_at t q i (sym e) in
    let d : drop (length (entry_at t i).name) text ≡ s = rw (n.is, w) (drop_at q s (length q) refl) in
    here_found t q (entry_at t i).points s n.own ∙ ap Some (same_found (entry_at t i).points (sym n.is) (sym d))

or_else_assoc : (a : Option Found) (o b : Option ℕ) (f : ℕ → Found) → or_else (or_else a (option_map f o)) (option_map f b) ≡ or_else a (option_map f (option_or o b))
or_else_assoc None None b f = refl
or_else_assoc None (Some i) b f = refl
or_else_assoc (Some x) o b f = refl

module _ (v : TableView) (text rest : List ℕ) (i node : ℕ) (best : Option ℕ) (s : IsSought v text rest i node best) (l : i < length rest) (byte : ℕ) (b : byte ≡ get_or rest i 0) where
  longer_is : found_longer v.entries (front_at v node) (drop i rest) ≡ found v.entries (front_at v node ++ byte ∷ []) (drop (i + 1) rest)
  longer_is = at_drop_more (found_longer v.entries (front_at v node)) rest i 0 l ∙ ap (λ c. found v.entries (front_at v node ++ c ∷ []) (drop (i + 1) rest)) (sym b)

  -- no child: what was found so far is the longest
  pub sought_ends : None ≡ child_of v.entries (front_at v node) byte → longest v.entries text ≡ option_map (λ id. found_at v.entries id text) best
  unfolding child_of
  sought_ends h = s.so_far ∙ rw longer_is (rw (found_none v.entries (front_at v node ++ byte ∷ []) (drop (i + 1) rest) (by_front (is_front v.entries (front_at v node ++ byte ∷ [])) h)) refl)
    where
      by_front : (f : Bool) → None ≡ cond f (Some (front_at v node ++ byte ∷ [])) None → f ≡ false
      by_front true e = absurd (cc)
      by_front false e = refl

  pub sought_more : (child : ℕ) (o : Option ℕ) → child < length v.fronts → Some (front_at v child) ≡ child_of v.entries (front_at v node) byte → o ≡ place (front_at v child) (names_in v.entries) → IsSought v text rest (i + 1) child (option_or o best)
  unfolding child_of
  sought_more child o inside h e =
      let f : front_at v child ≡ front_at v node ++ byte ∷ [] = by_front (is_front v.entries (front_at v node ++ byte ∷ [])) h in
      let t : take (i + 1) rest ≡ take i rest ++ byte ∷ [] = rw b (take_more rest i 0 l) in
      let g : front_at v child ≡ 38 ∷ take (i + 1) rest = rw (f, s.front, t) refl in
      let w : text ≡ front_at v child ++ drop (i + 1) rest = rw (s.whole, g) (ap (λ r. 38 ∷ r) (sym (take-append-drop (i + 1) rest))) in
      record {
        whole = s.whole;
        inside = inside;
        front = g;
        so_far = s.so_far ∙ rw longer_is (rw (sym f, found_over v.entries (front_at v child) (drop (i + 1) rest), here_at v.entries (front_at v child) (drop (i + 1) rest) text o e w) (or_else_assoc (found_longer v.entries (front_at v child) (drop (i + 1) rest)) o best (λ id. found_at v.entries id text)));
        best_inside = by_or o best e s.best_inside;
      }
    where
      by_front : (g : Bool) → Some (front_at v child) ≡ cond g (Some (front_at v node ++ byte ∷ [])) None → front_at v child ≡ front_at v node ++ byte ∷ []
      by_front true e' = cc
      by_front false e' = absurd (cc)

      by_or : (o' r : Option ℕ) → o' ≡ place (front_at v child) (names_in v.entries) → IfSome r (λ id. id < length v.entries) → IfSome (option_or o' r) (λ id. id < length v.entries)
      by_or None r e' k = k
      by_or (Some j) r e' k = let n = named_at v.entries (front_at v child) j (sym e') in n.inside

pub sought_first : (v : TableView) (text rest : List ℕ) (node : ℕ) → AreNames v.entries → IsNode v node → front_at v node ≡ 38 ∷ [] → text ≡ 38 ∷ rest → IsSought v text rest 0 node None
sought_first v text rest node a n f is = record {
  whole = is;
  inside = n.inside;
  front = f;
  so_far = rw (is, f) (longest_amp v.entries a rest ∙ sym (or_else_none (found_longer v.entries (38 ∷ []) rest)));
  best_inside = tt;
}

pub sought_all : (v : TableView) (text rest : List ℕ) (i node : ℕ) (best : Option ℕ) → IsSought v text rest i node best → length rest ≤ i → longest v.entries text ≡ option_map (λ id. found_at v.entries id text) best
sought_all v text rest i node best s l = s.so_far ∙ ap (λ o. or_else o (option_map (λ id. found_at v.entries id text) best)) (at_drop_all (found_longer v.entries (front_at v node)) rest i l)

-- ---- a text by its first byte

pub amp_first : (text : List ℕ) → (text ≡ [] → ⊥) → get_or text 0 0 ≡ 38 → text ≡ 38 ∷ drop 1 text
amp_first [] n e = absurd (n refl)
amp_first (c ∷ s) n e = rw e refl

pub no_text : (t : List Entry) → AreNames t → (text : List ℕ) → length text ≡ 0 → None ≡ longest t text
no_text t a [] e = sym (longest_nothing t a)
no_text t a (c ∷ s) e = absurd (omega arith)

pub no_amp : (t : List Entry) → AreNames t → (text : List ℕ) → (get_or text 0 0 ≡ 38 → ⊥) → None ≡ longest t text
no_amp t a [] d = sym (longest_nothing t a)
no_amp t a (c ∷ s) d = sym (longest_other t a c s d)

pub some_text : (text : List ℕ) → false ≡ (length text == 0) → text ≡ [] → ⊥
some_text [] e i = cc
some_text (c ∷ s) e i = cc
