-- CDATA sections: what is pending in one says where `]]>` would stand.
use Rattle.std.proofs.Common.{◌≡◌, ℕ, Bool, true, false, cond, ◌||◌, ◌==◌, List, [], ◌∷◌, ◌++◌, codes, refl, sym, subst, arith}
use Rattle.hm_base.specs.Forms.{has_mark}
use Rattle.hm_refs.proofs.Bools.{eq_of}
use Rattle.hm_spelling_spec.specs.Characters.{Spot, text, rcdata, foreign, unquoted, double, single, is_foreign, is_value}
use Rattle.hm_graph_laws.specs.CharacterEdges.{closes_section, in_section_after, is_in_section, is_outside}
use Rattle.hm_graph_laws.specs.CharacterLaws.{is_in_value, stands_at}
use Rattle.hm_graph_laws.specs.States.{Where, outside, after_omitted_end, self_closed, after_name, after_unquoted, after_quoted, in_unquoted, in_double, in_single, in_section, Pending, nothing, less_than, hash, hash_x, decimal, hexadecimal, ampersand, named, half, one_bracket, two_brackets}
use Rattle.hm_graph_laws.specs.Units.{TextKind, in_text, in_rcdata, in_foreign, in_value}

-- the brackets that are pending
abbrev pub brackets : Pending → List ℕ
brackets nothing = []
brackets two_brackets = 93 ∷ 93 ∷ []
brackets p = 93 ∷ []

no_bracket : (c : ℕ) → (c == 93) ≡ false → (93 == c) ≡ false
no_bracket c h = grind arith

no_end : (c : ℕ) → (c == 62) ≡ false → (62 == c) ≡ false
no_end c h = grind arith

ended_more : (c : ℕ) (s : List ℕ) → (c == 93) ≡ false → has_mark (codes "]]>") (c ∷ s) ≡ has_mark (codes "]]>") s
ended_more c s h = rw (no_bracket c h) refl

one_more : (c : ℕ) (s : List ℕ) → (c == 93) ≡ false → has_mark (codes "]]>") (93 ∷ c ∷ s) ≡ has_mark (codes "]]>") s
one_more c s h = rw (no_bracket c h) refl

two_more : (c : ℕ) (s : List ℕ) → (c == 93) ≡ false → (c == 62) ≡ false → has_mark (codes "]]>") (93 ∷ 93 ∷ c ∷ s) ≡ has_mark (codes "]]>") s
two_more c s h k = rw (no_bracket c h, no_end c k) refl

after_none : (c : ℕ) (s : List ℕ) → has_mark (codes "]]>") (c ∷ s) ≡ has_mark (codes "]]>") (brackets (cond (c == 93) one_bracket nothing) ++ s)
after_none c s = by_test (c == 93) refl
  where
    by_test : (b : Bool) → (c == 93) ≡ b → has_mark (codes "]]>") (c ∷ s) ≡ has_mark (codes "]]>") (brackets (cond b one_bracket nothing) ++ s)
    by_test true e = subst (λ d. has_mark (codes "]]>") (d ∷ s) ≡ has_mark (codes "]]>") (93 ∷ s)) (sym (eq_of c 93 e)) refl
    by_test false e = ended_more c s e

after_one : (c : ℕ) (s : List ℕ) → has_mark (codes "]]>") (93 ∷ c ∷ s) ≡ has_mark (codes "]]>") (brackets (cond (c == 93) two_brackets nothing) ++ s)
after_one c s = by_test (c == 93) refl
  where
    by_test : (b : Bool) → (c == 93) ≡ b → has_mark (codes "]]>") (93 ∷ c ∷ s) ≡ has_mark (codes "]]>") (brackets (cond b two_brackets nothing) ++ s)
    by_test true e = subst (λ d. has_mark (codes "]]>") (93 ∷ d ∷ s) ≡ has_mark (codes "]]>") (93 ∷ 93 ∷ s)) (sym (eq_of c 93 e)) refl
    by_test false e = one_more c s e

after_two : (c : ℕ) (s : List ℕ) → has_mark (codes "]]>") (93 ∷ 93 ∷ c ∷ s) ≡ ((c == 62) || has_mark (codes "]]>") (brackets (cond (c == 93) two_brackets nothing) ++ s))
after_two c s = by_tests (c == 93) (c == 62) refl refl
  where
    by_tests : (b e : Bool) → (c == 93) ≡ b → (c == 62) ≡ e → has_mark (codes "]]>") (93 ∷ 93 ∷ c ∷ s) ≡ (e || has_mark (codes "]]>") (brackets (cond b two_brackets nothing) ++ s))
    by_tests b true h k = subst (λ d. has_mark (codes "]]>") (93 ∷ 93 ∷ d ∷ s) ≡ true) (sym (eq_of c 62 k)) refl
    by_tests true false h k = subst (λ d. has_mark (codes "]]>") (93 ∷ 93 ∷ d ∷ s) ≡ has_mark (codes "]]>") (93 ∷ 93 ∷ s)) (sym (eq_of c 93 h)) refl
    by_tests false false h k = two_more c s h k

-- one character on
pub mark_step : (c : ℕ) (p : Pending) (s : List ℕ) → has_mark (codes "]]>") (brackets p ++ c ∷ s) ≡ (closes_section c p || has_mark (codes "]]>") (brackets (in_section_after c p) ++ s))
mark_step c nothing s = after_none c s
mark_step c less_than s = after_one c s
mark_step c hash s = after_one c s
mark_step c hash_x s = after_one c s
mark_step c decimal s = after_one c s
mark_step c hexadecimal s = after_one c s
mark_step c (ampersand q) s = after_one c s
mark_step c (named q) s = after_one c s
mark_step c (half left) s = after_one c s
mark_step c one_bracket s = after_one c s
mark_step c two_brackets s = after_two c s

pub unended : (p : Pending) → has_mark (codes "]]>") (brackets p ++ []) ≡ false
unended nothing = refl
unended less_than = refl
unended hash = refl
unended hash_x = refl
unended decimal = refl
unended hexadecimal = refl
unended (ampersand q) = refl
unended (named q) = refl
unended (half left) = refl
unended one_bracket = refl
unended two_brackets = refl

-- ---- places

pub outside_at : (at : Where) → is_outside at ≡ true → at ≡ outside
outside_at outside h = refl
outside_at after_omitted_end h = absurd (cc)
outside_at self_closed h = absurd (cc)
outside_at after_name h = absurd (cc)
outside_at after_unquoted h = absurd (cc)
outside_at after_quoted h = absurd (cc)
outside_at in_unquoted h = absurd (cc)
outside_at in_double h = absurd (cc)
outside_at in_single h = absurd (cc)
outside_at in_section h = absurd (cc)

value_open : (at : Where) → is_in_value at ≡ true → is_in_section at ≡ false
value_open outside h = absurd (cc)
value_open after_omitted_end h = absurd (cc)
value_open self_closed h = absurd (cc)
value_open after_name h = absurd (cc)
value_open after_unquoted h = absurd (cc)
value_open after_quoted h = absurd (cc)
value_open in_unquoted h = refl
value_open in_double h = refl
value_open in_single h = refl
value_open in_section h = absurd (cc)

outside_open : (at : Where) → is_outside at ≡ true → is_in_section at ≡ false
outside_open at h = subst (λ w. is_in_section w ≡ false) (sym (outside_at at h)) refl

pub place_open : (kind : TextKind) (at : Where) → stands_at kind at ≡ true → is_in_section at ≡ false
place_open in_text at h = outside_open at h
place_open in_rcdata at h = outside_open at h
place_open in_foreign at h = outside_open at h
place_open in_value at h = value_open at h

pub foreign_text : (spot : Spot) → is_foreign spot ≡ true → is_value spot ≡ false
foreign_text text h = absurd (cc)
foreign_text rcdata h = absurd (cc)
foreign_text foreign h = refl
foreign_text unquoted h = absurd (cc)
foreign_text double h = absurd (cc)
foreign_text single h = absurd (cc)
