-- One step keeps the meaning of what is pending.
use Rattle.std.proofs.Common.{◌≡◌, ℕ, Bool, true, false, cond, ◌&&◌, ◌||◌, ◌==◌, not, List, [], ◌∷◌, ◌++◌, Option, Some, None, refl, sym, ◌∙◌, subst, inl, inr, ◌⊎◌, arith, is_some, is_none}
use Rattle.hm_base.specs.Bytes.{rest_after, front, is_alnum, is_digit, is_digit_of, is_hex, is_letter, is_null}
use Rattle.hm_refs.specs.Names.{Entry, Found, found, found_here, is_front, is_name, last_is, or_else}
use Rattle.hm_refs.specs.References.{blocks, is_blocked, is_semicolon, numeric}
use Rattle.hm_refs.specs.Tables.{IsTable}
use Rattle.hm_spelling_spec.specs.Characters.{Spot, is_value, opens}
use Rattle.hm_graph_laws.specs.States.{one_bracket, two_brackets, Pending, ampersand, decimal, half, hash, hash_x, hexadecimal, less_than, named, nothing}
use Rattle.hm_graph_laws.specs.Steps.{Fits, FitsAfter, IsOpen, ampersand_in_text, ampersand_in_value, goes_on_decimal, goes_on_hexadecimal, is_hash, is_root, keeps, keeps_after, may_end, named_in_text, named_in_value, onto, passes, reference_after, step, unless}
use Rattle.hm_refs.specs.References as references
use Rattle.hm_refs.proofs.Bools.{eq_of}
use Rattle.hm_refs.proofs.Found.{or_else_none, here_none, here_some, found_not_name, semicolon_found, last_append, found_none, found_some, child_is, null_append}

root_child : (q : List ℕ) (c : ℕ) → is_null q ≡ false → is_root (q ++ c ∷ []) ≡ false
unfolding is_root
root_child [] c h = absurd (cc)
root_child (x ∷ []) c h = grind (arith)
root_child (x ∷ y ∷ q) c h = grind (arith)

-- at a child '#' has no special meaning
after_child : (t : List Entry) (v : Bool) (q s : List ℕ) (c : ℕ) → is_null q ≡ false → reference_after t v (q ++ c ∷ []) s ≡ references.named v (found t (q ++ c ∷ []) s)
unfolding reference_after
after_child t v q [] c h = refl
after_child t v q (d ∷ s) c h = rw (root_child q c h) refl

-- what is read after a child, or after no child
onto_law : (t : List Entry) (spot : Spot) (q s : List ℕ) (c : ℕ) → is_null q ≡ false → keeps_after t spot (onto ampersand t q c) s ≡ is_none (references.named (is_value spot) (found t (q ++ c ∷ []) s))
unfolding onto
onto_law t spot q s c h = by_front (is_front t (q ++ c ∷ [])) refl
  where
    by_front : (b : Bool) → is_front t (q ++ c ∷ []) ≡ b → keeps_after t spot (cond b (Some (ampersand (q ++ c ∷ []))) (Some nothing)) s ≡ is_none (references.named (is_value spot) (found t (q ++ c ∷ []) s))
    by_front true k = rw (after_child t (is_value spot) q s c h) refl
    by_front false k = rw (found_none t (q ++ c ∷ []) s k) refl

some_none : (f : Option Found) → is_some f ≡ true → is_none f ≡ false
some_none None h = absurd (cc)
some_none (Some f) h = refl

no_stop : (t : List Entry) (spot : Spot) (s : List ℕ) (b : Bool) → true ≡ keeps_after t spot (cond (b && false) None (Some nothing)) s
no_stop t spot s true = refl
no_stop t spot s false = refl

pub name_front : (t : List Entry) (q : List ℕ) → is_name t q ≡ true → is_front t q ≡ true
name_front t q h = by_front (is_front t q) refl
  where
    by_front : (b : Bool) → is_front t q ≡ b → b ≡ true
    by_front true k = refl
    by_front false k = let f = found_some t q [] h in let n = found_none t q [] k in let e : is_some (found t q []) ≡ false = rw n refl in cc

-- in text each name that is found is a reference
text_named : (f : Option Found) → is_some f ≡ true → is_none (references.named false f) ≡ false
unfolding is_blocked
text_named None h = absurd (cc)
text_named (Some f) h = refl

amp_text_law : (t : List Entry) (spot : Spot) (q s : List ℕ) (c : ℕ) → is_value spot ≡ false → IsOpen t (is_value spot) q → is_none (reference_after t false q (c ∷ s)) ≡ keeps_after t spot (ampersand_in_text t q c) s
unfolding ampersand_in_text reference_after
amp_text_law t spot q s c v o = by_tests (is_root q && is_hash c) (is_name t (q ++ c ∷ [])) refl
  where
    by_tests : (r n : Bool) → is_name t (q ++ c ∷ []) ≡ n
        → is_none (cond r (references.hash s) (references.named false (or_else (found t (q ++ c ∷ []) s) (found_here t q (c ∷ s))))) ≡ keeps_after t spot (cond r (Some hash) (cond n None (onto ampersand t q c))) s
    by_tests true n k = refl
    by_tests false true k = rw (here_none t q (c ∷ s) (o.in_text v), or_else_none (found t (q ++ c ∷ []) s)) (text_named (found t (q ++ c ∷ []) s) (found_some t (q ++ c ∷ []) s k))
    by_tests false false k = rw (here_none t q (c ∷ s) (o.in_text v), or_else_none (found t (q ++ c ∷ []) s), onto_law t spot q s c o.some, v) refl

blocked_name : (q s : List ℕ) (ps : List ℕ) (c : ℕ) → last_is 59 q ≡ false → is_blocked true (record { name = q; points = ps; rest = c ∷ s }) ≡ blocks c
unfolding is_blocked
blocked_name q s ps c h = rw h refl

closed_name : (q s : List ℕ) (ps : List ℕ) → last_is 59 q ≡ true → is_blocked true (record { name = q; points = ps; rest = s }) ≡ false
unfolding is_blocked
closed_name q s ps h = rw h refl

or_else_blocked : (x : Option Found) (f : Found) → is_blocked true f ≡ true → is_none (references.named true (or_else x (Some f))) ≡ is_none (references.named true x)
or_else_blocked None f h = rw h refl
or_else_blocked (Some g) f h = refl

-- a name that ends in ';' is a reference in a value
semicolon_reads : (t : List Entry) → IsTable t → (q s : List ℕ) (c : ℕ) (here : Option Found) → is_null q ≡ false → c ≡ 59 → is_name t (q ++ c ∷ []) ≡ true → is_none (references.named true (or_else (found t (q ++ c ∷ []) s) here)) ≡ false
semicolon_reads t k q s c here h e n =
    let f = semicolon_found t k q s h (subst (λ d. is_name t (q ++ d ∷ []) ≡ true) e n) in
    rw (e, f.is, closed_name (q ++ 59 ∷ []) s f.points (last_append q 59)) refl

not_alnum : (c : ℕ) → blocks c ≡ false → is_alnum c ≡ false
not_alnum c h = by_test (61 == c) (is_alnum c) h
  where
    by_test : (a b : Bool) → (a || b) ≡ false → b ≡ false
    by_test true b k = absurd (cc)
    by_test false b k = k

-- what may follow a name, and blocks nothing, begins no longer name, except by ';'
ends_name : (t : List Entry) → IsTable t → (q : List ℕ) (c : ℕ) → is_null q ≡ false → blocks c ≡ false → (is_front t (q ++ c ∷ []) ≡ false) ⊎ ((c ≡ 59) × (is_name t (q ++ c ∷ []) ≡ true))
ends_name t k q c h b = by_front (is_front t (q ++ c ∷ [])) refl
  where
    by_front : (f : Bool) → is_front t (q ++ c ∷ []) ≡ f → (is_front t (q ++ c ∷ []) ≡ false) ⊎ ((c ≡ 59) × (is_name t (q ++ c ∷ []) ≡ true))
    by_front false e = inl e
    by_front true e = elim (child_is t k q c h e) [
      | inl a ↦ let n = not_alnum c b in absurd (cc)
      | inr p ↦ inr p
    ]

amp_value_law : (t : List Entry) → IsTable t → (spot : Spot) (q s : List ℕ) (c : ℕ) → is_value spot ≡ true → IsOpen t (is_value spot) q → is_none (reference_after t true q (c ∷ s)) ≡ keeps_after t spot (ampersand_in_value t q c) s
unfolding ampersand_in_value reference_after
amp_value_law t k spot q s c v o = by_tests (is_root q && is_hash c) (is_name t q) (blocks c) (is_name t (q ++ c ∷ [])) (is_semicolon c) refl refl refl refl
  where
    child : List ℕ
    child = q ++ c ∷ []

    by_tests : (r n b m e : Bool) → is_name t q ≡ n → blocks c ≡ b → is_name t (q ++ c ∷ []) ≡ m → is_semicolon c ≡ e
        → is_none (cond r (references.hash s) (references.named true (or_else (found t (q ++ c ∷ []) s) (found_here t q (c ∷ s)))))
        ≡ keeps_after t spot (cond r (Some hash) (cond n (cond b (onto ampersand t q c) None) (cond (m && e) None (onto ampersand t q c)))) s
    by_tests true n b m e hn hb hm he = refl
    by_tests false true true m e hn hb hm he =
        let f = here_some t q (c ∷ s) hn in
        rw (f.is, or_else_blocked (found t (q ++ c ∷ []) s) (record { name = q; points = f.points; rest = c ∷ s }) (blocked_name q s f.points c (o.in_value hn) ∙ hb), onto_law t spot q s c o.some, v) refl
    by_tests false true false m e hn hb hm he =
        let f = here_some t q (c ∷ s) hn in
        elim (ends_name t k q c o.some hb) [
          | inl g ↦ rw (f.is, found_none t (q ++ c ∷ []) s g, blocked_name q s f.points c (o.in_value hn), hb) refl
          | inr (i, g) ↦ semicolon_reads t k q s c (found_here t q (c ∷ s)) o.some i g
        ]
    by_tests false false b true true hn hb hm he = semicolon_reads t k q s c (found_here t q (c ∷ s)) o.some (sym (eq_of 59 c he)) hm
    by_tests false false b true false hn hb hm he = rw (here_none t q (c ∷ s) hn, or_else_none (found t (q ++ c ∷ []) s), onto_law t spot q s c o.some, v) refl
    by_tests false false b false e hn hb hm he = rw (here_none t q (c ∷ s) hn, or_else_none (found t (q ++ c ∷ []) s), onto_law t spot q s c o.some, v) refl

named_text_law : (t : List Entry) (spot : Spot) (q s : List ℕ) (c : ℕ) → is_value spot ≡ false → is_none (found t (q ++ c ∷ []) s) ≡ keeps_after t spot (named_in_text t q c) s
unfolding named_in_text onto
named_text_law t spot q s c v = by_tests (is_name t (q ++ c ∷ [])) (is_front t (q ++ c ∷ [])) refl refl
  where
    by_tests : (m f : Bool) → is_name t (q ++ c ∷ []) ≡ m → is_front t (q ++ c ∷ []) ≡ f
        → is_none (found t (q ++ c ∷ []) s) ≡ keeps_after t spot (cond m None (cond f (Some (named (q ++ c ∷ []))) (Some nothing))) s
    by_tests true f hm hf = some_none (found t (q ++ c ∷ []) s) (found_some t (q ++ c ∷ []) s hm)
    by_tests false true hm hf = rw (found_not_name t (q ++ c ∷ []) s hm, v) refl
    by_tests false false hm hf = rw (found_none t (q ++ c ∷ []) s hf) refl

named_value_law : (t : List Entry) → IsTable t → (spot : Spot) (q s : List ℕ) (c : ℕ) → is_null q ≡ false → (not (blocks c) && is_none (found t (q ++ c ∷ []) s)) ≡ keeps_after t spot (named_in_value t q c) s
unfolding named_in_value
named_value_law t k spot q s c h = by_tests (blocks c) refl
  where
    by_tests : (b : Bool) → blocks c ≡ b → (not b && is_none (found t (q ++ c ∷ []) s)) ≡ keeps_after t spot (cond (b || (is_semicolon c && is_front t (q ++ c ∷ []))) None (Some nothing)) s
    by_tests true hb = refl
    by_tests false hb = elim (ends_name t k q c h hb) [
      | inl g ↦ rw (found_none t (q ++ c ∷ []) s g, g) (no_stop t spot s (is_semicolon c))
      | inr (i, g) ↦ let n : is_none (found t (q ++ c ∷ []) s) ≡ false = some_none (found t (q ++ c ∷ []) s) (found_some t (q ++ c ∷ []) s g) in
          let semi : is_semicolon c ≡ true = rw i refl in rw (n, name_front t (q ++ c ∷ []) g, semi) refl
    ]

unless_law : (t : List Entry) (spot : Spot) (s : List ℕ) (b : Bool) → not b ≡ keeps_after t spot (unless b nothing) s
unless_law t spot s true = refl
unless_law t spot s false = refl

-- "&#" is a reference exactly where a digit follows
hash_law : (t : List Entry) (spot : Spot) (s : List ℕ) (c : ℕ) → is_none (references.hash (c ∷ s)) ≡ keeps_after t spot (step t spot hash c) s
hash_law t spot s c = by_tests (120 == c || 88 == c) (is_digit c)
  where
    by_tests : (x d : Bool) → is_none (cond x (references.hexadecimal s) (numeric 2 10 (cond d (c ∷ front is_digit s) []) (cond d (rest_after is_digit s) (c ∷ s)))) ≡ keeps_after t spot (cond x (Some hash_x) (unless d nothing)) s
    by_tests true d = refl
    by_tests false true = refl
    by_tests false false = refl

hash_x_law : (t : List Entry) (spot : Spot) (s : List ℕ) (c : ℕ) → is_none (references.hexadecimal (c ∷ s)) ≡ keeps_after t spot (unless (is_hex c) nothing) s
hash_x_law t spot s c = by_tests (is_hex c)
  where
    by_tests : (d : Bool) → is_none (numeric 3 16 (cond d (c ∷ front is_hex s) []) (cond d (rest_after is_hex s) (c ∷ s))) ≡ keeps_after t spot (unless d nothing) s
    by_tests true = refl
    by_tests false = refl

-- One more byte keeps what is pending exactly where it doesn't break it, and where the bytes after it keep what is then
-- pending.
none_passes : (t : List Entry) (spot : Spot) (s : List ℕ) → false ≡ passes t spot None s
none_passes t spot [] = refl
none_passes t spot (c ∷ s) = refl

pub step_law : (t : List Entry) → IsTable t → (spot : Spot) (p : Pending) (c : ℕ) (s : List ℕ) → Fits t spot p → keeps t spot p (c ∷ s) ≡ keeps_after t spot (step t spot p c) s
step_law t k spot nothing c s h = refl
step_law t k spot less_than c s h = unless_law t spot s (opens spot c)
step_law t k spot decimal c s h = unless_law t spot s (goes_on_decimal c)
step_law t k spot hexadecimal c s h = unless_law t spot s (goes_on_hexadecimal c)
step_law t k spot hash c s h = hash_law t spot s c
step_law t k spot hash_x c s h = hash_x_law t spot s c
step_law t k spot (ampersand q) c s h = by_value (is_value spot) refl
  where
    by_value : (v : Bool) → is_value spot ≡ v → is_none (reference_after t v q (c ∷ s)) ≡ keeps_after t spot (cond v (ampersand_in_value t q c) (ampersand_in_text t q c)) s
    by_value true v = amp_value_law t k spot q s c v h
    by_value false v = amp_text_law t spot q s c v h
step_law t k spot (named q) c s h = by_value (is_value spot) refl
  where
    by_value : (v : Bool) → is_value spot ≡ v → (not (v && blocks c) && is_none (found t (q ++ c ∷ []) s)) ≡ keeps_after t spot (cond v (named_in_value t q c) (named_in_text t q c)) s
    by_value true v = named_value_law t k spot q s c h
    by_value false v = named_text_law t spot q s c v
step_law t k spot (half left) c s h = refl
step_law t k spot one_bracket c s h = refl
step_law t k spot two_brackets c s h = refl

at_end : (q ps : List ℕ) → is_blocked true (record { name = q; points = ps; rest = [] }) ≡ false
unfolding is_blocked
at_end q ps = by_last (last_is 59 q)
  where
    by_last : (b : Bool) → (true && not b && false) ≡ false
    by_last true = refl
    by_last false = refl

-- at the end, too
pub end_law : (t : List Entry) (spot : Spot) (p : Pending) → Fits t spot p → keeps t spot p [] ≡ may_end t spot p
unfolding reference_after
end_law t spot nothing h = refl
end_law t spot less_than h = refl
end_law t spot decimal h = refl
end_law t spot hexadecimal h = refl
end_law t spot hash h = refl
end_law t spot hash_x h = refl
end_law t spot (ampersand q) h = by_name (is_name t q) refl
  where
    by_name : (n : Bool) → is_name t q ≡ n → is_none (references.named (is_value spot) (found t q [])) ≡ not (is_value spot && n)
    by_name false e = rw (here_none t q [] e) (ends_so (is_value spot))
      where
        ends_so : (v : Bool) → true ≡ not (v && false)
        ends_so true = refl
        ends_so false = refl
    by_name true e = let f = here_some t q [] e in by_value (is_value spot) refl f.points f.is
      where
        by_value : (v : Bool) → is_value spot ≡ v → (ps : List ℕ) → found_here t q [] ≡ Some (record { name = q; points = ps; rest = [] }) → is_none (references.named v (found_here t q [])) ≡ not (v && true)
        by_value true v ps i = rw (i, at_end q ps) refl
        by_value false v ps i = let n = h.in_text v in absurd (cc)
end_law t spot (named q) h = by_value (is_value spot)
  where
    by_value : (v : Bool) → (not (v && false) && true) ≡ true
    by_value true = refl
    by_value false = refl
end_law t spot (half left) h = refl
end_law t spot one_bracket h = refl
end_law t spot two_brackets h = refl

blocks_semicolon : blocks 59 ≡ false
unfolding is_alnum is_letter is_digit_of
blocks_semicolon = refl

not_semicolon : (c : ℕ) → blocks c ≡ true → (59 == c) ≡ false
not_semicolon c h = by_test (59 == c) refl
  where
    by_test : (b : Bool) → (59 == c) ≡ b → b ≡ false
    by_test false e = refl
    by_test true e = let i = eq_of 59 c e in let b = subst (λ d. blocks d ≡ true) (sym i) h in let n = blocks_semicolon in absurd (cc)

onto_fits : (t : List Entry) (spot : Spot) (q : List ℕ) (c : ℕ) → (is_value spot ≡ false → is_name t (q ++ c ∷ []) ≡ false) → (is_name t (q ++ c ∷ []) ≡ true → (59 == c) ≡ false) → FitsAfter t spot (onto ampersand t q c)
unfolding onto
onto_fits t spot q c h k = by_front (is_front t (q ++ c ∷ []))
  where
    by_front : (b : Bool) → FitsAfter t spot (cond b (Some (ampersand (q ++ c ∷ []))) (Some nothing))
    by_front true = record { some = null_append q c; in_text = h; in_value = λ n. last_append q c ∙ k n }
    by_front false = tt

amp_text_fits : (t : List Entry) (spot : Spot) (q : List ℕ) (c : ℕ) → FitsAfter t spot (ampersand_in_text t q c)
unfolding ampersand_in_text
amp_text_fits t spot q c = by_tests (is_root q && is_hash c) (is_name t (q ++ c ∷ [])) refl
  where
    by_tests : (r m : Bool) → is_name t (q ++ c ∷ []) ≡ m → FitsAfter t spot (cond r (Some hash) (cond m None (onto ampersand t q c)))
    by_tests true m e = tt
    by_tests false true e = tt
    by_tests false false e = onto_fits t spot q c (λ v. e) (λ n. absurd (cc))

amp_value_fits : (t : List Entry) (spot : Spot) (q : List ℕ) (c : ℕ) → is_value spot ≡ true → FitsAfter t spot (ampersand_in_value t q c)
unfolding ampersand_in_value
amp_value_fits t spot q c v = by_tests (is_root q && is_hash c) (is_name t q) (blocks c) (is_name t (q ++ c ∷ [])) (is_semicolon c) refl refl refl
  where
    by_tests : (r n b m e : Bool) → blocks c ≡ b → is_name t (q ++ c ∷ []) ≡ m → is_semicolon c ≡ e
        → FitsAfter t spot (cond r (Some hash) (cond n (cond b (onto ampersand t q c) None) (cond (m && e) None (onto ampersand t q c))))
    by_tests true n b m e hb hm he = tt
    by_tests false true true m e hb hm he = onto_fits t spot q c (λ w. absurd (cc)) (λ n. not_semicolon c hb)
    by_tests false true false m e hb hm he = tt
    by_tests false false b true true hb hm he = tt
    by_tests false false b true false hb hm he = onto_fits t spot q c (λ w. absurd (cc)) (λ n. he)
    by_tests false false b false e hb hm he = onto_fits t spot q c (λ w. absurd (cc)) (λ n. absurd (cc))

unless_fits : (t : List Entry) (spot : Spot) (b : Bool) → FitsAfter t spot (unless b nothing)
unless_fits t spot true = tt
unless_fits t spot false = tt

pub step_fits : (t : List Entry) (spot : Spot) (p : Pending) (c : ℕ) → Fits t spot p → FitsAfter t spot (step t spot p c)
unfolding named_in_text named_in_value onto
step_fits t spot nothing c h = tt
step_fits t spot less_than c h = unless_fits t spot (opens spot c)
step_fits t spot decimal c h = unless_fits t spot (goes_on_decimal c)
step_fits t spot hexadecimal c h = unless_fits t spot (goes_on_hexadecimal c)
step_fits t spot hash c h = by_tests (120 == c || 88 == c) (is_digit c)
  where
    by_tests : (x d : Bool) → FitsAfter t spot (cond x (Some hash_x) (unless d nothing))
    by_tests true d = tt
    by_tests false d = unless_fits t spot d
step_fits t spot hash_x c h = unless_fits t spot (is_hex c)
step_fits t spot (ampersand q) c h = by_value (is_value spot) refl
  where
    by_value : (v : Bool) → is_value spot ≡ v → FitsAfter t spot (cond v (ampersand_in_value t q c) (ampersand_in_text t q c))
    by_value true v = amp_value_fits t spot q c v
    by_value false v = amp_text_fits t spot q c
step_fits t spot (named q) c h = by_value (is_value spot) (blocks c || (is_semicolon c && is_front t (q ++ c ∷ []))) (is_name t (q ++ c ∷ [])) (is_front t (q ++ c ∷ []))
  where
    by_value : (v b m f : Bool) → FitsAfter t spot (cond v (cond b None (Some nothing)) (cond m None (cond f (Some (named (q ++ c ∷ []))) (Some nothing))))
    by_value true true m f = tt
    by_value true false m f = tt
    by_value false b true f = tt
    by_value false b false true = null_append q c
    by_value false b false false = tt
step_fits t spot (half left) c h = tt
step_fits t spot one_bracket c h = tt
step_fits t spot two_brackets c h = tt

-- the bytes that follow keep what is pending exactly where no step over them breaks it
pub passes_law : (t : List Entry) → IsTable t → (spot : Spot) (s : List ℕ) (p : Pending) → Fits t spot p → keeps t spot p s ≡ passes t spot (Some p) s
passes_law t k spot [] p h = end_law t spot p h
passes_law t k spot (c ∷ s) p h = step_law t k spot p c s h ∙ more (step t spot p c) (step_fits t spot p c h) (λ q g. passes_law t k spot s q g)
  where
    more : (n : Option Pending) → FitsAfter t spot n → ((q : Pending) → Fits t spot q → keeps t spot q s ≡ passes t spot (Some q) s) → keeps_after t spot n s ≡ passes t spot n s
    more None g each = none_passes t spot s
    more (Some q) g each = each q g
