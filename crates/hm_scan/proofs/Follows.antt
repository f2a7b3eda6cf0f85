-- A tag that ends is read the same, whatever follows it.
use Rattle.std.proofs.Common.{◌≡◌, ℕ, zero, suc, ◌-◌, ◌⊎◌, Bool, true, false, cond, ◌==◌, List, [], ◌∷◌, ◌++◌, length, Option, Some, None, refl, inl, inr, arith, length-append}
use Rattle.hm_base.specs.Bytes.{Cut, front, rest_after, head_is, is_space}
use Rattle.hm_base.specs.Walks.{Attribute}
use Rattle.hm_refs.specs.Names.{Entry}
use Rattle.hm_tree.specs.Tokens.{Seen, start_tag, end_tag, Extends}
use Rattle.hm_tree.specs.declared.tokens.ScanFault.{ScanFault}
use Rattle.hm_tree.specs.declared.tokens.ScanFault.TheVariants as faults
use Rattle.hm_scan.specs.Tags.{is_name_byte, is_later_byte, is_unquoted_byte, is_inside, is_quote, is_tag_end, cut_after, cut_quoted, cut_value, cut_assigned, Written, with_name, attribute_at, CutTag, with_attribute, with_slash, attribute_then, tag_from}
use Rattle.hm_scan.specs.Reading.{tag_fault, unless_fault, start_of, end_of, tag_name, read_attributes, read_start, read_end, read_by, read_tag}
use Rattle.hm_scan.specs.TagLaws.{WhateverFollows}
use Rattle.hm_scan.proofs.Fronts.{cond_both, cases_list, front_append, after_append}

-- nothing follows the cut, or it is the same in a longer text, with more after it
abbrev CutGoesOn : List ℕ → Cut → Cut → Type 0
CutGoesOn y k l = (k.after ≡ []) ⊎ (l ≡ record k { after = k.after ++ y })

after_goes_on : (p : ℕ → Bool) (s y : List ℕ) → CutGoesOn y (cut_after p s) (cut_after p (s ++ y))
after_goes_on p s y = elim (cases_list (rest_after p s)) [
  | inl e ↦ inl e
  | inr q ↦ inr (rw (front_append p s y q.0 q.1 q.2, after_append p s y q.0 q.1 q.2) refl)
]

quoted_goes_on : (q : ℕ) (s y : List ℕ) → CutGoesOn y (cut_quoted q s) (cut_quoted q (s ++ y))
quoted_goes_on q s y = elim (cases_list (rest_after (is_inside q) s)) [
  | inl e ↦ inl (rw e refl)
  | inr w ↦ inr (rw (front_append (is_inside q) s y w.0 w.1 w.2, after_append (is_inside q) s y w.0 w.1 w.2, w.2) refl)
]

value_goes_on : (s y : List ℕ) → CutGoesOn y (cut_value s) (cut_value (s ++ y))
value_goes_on [] y = inl refl
value_goes_on (c ∷ s) y = cond_both (CutGoesOn y) (is_quote c) (quoted_goes_on c s y) (after_goes_on is_unquoted_byte (c ∷ s) y)

spaced_goes_on : (s y : List ℕ) → CutGoesOn y (cut_value (rest_after is_space s)) (cut_value (rest_after is_space (s ++ y)))
spaced_goes_on s y = elim (cases_list (rest_after is_space s)) [
  | inl e ↦ inl (rw e refl)
  | inr q ↦ rw (after_append is_space s y q.0 q.1 q.2) (value_goes_on (rest_after is_space s) y)
]

assigned_goes_on : (s r y : List ℕ) → CutGoesOn y (cut_assigned s r) (cut_assigned (s ++ y) (r ++ y))
assigned_goes_on s [] y = inl refl
assigned_goes_on s (c ∷ r) y = cond_both (CutGoesOn y) (c == 61) (spaced_goes_on r y) (inr refl)

after_name_goes_on : (s y : List ℕ) → CutGoesOn y (cut_assigned s (rest_after is_space s)) (cut_assigned (s ++ y) (rest_after is_space (s ++ y)))
after_name_goes_on s y = elim (cases_list (rest_after is_space s)) [
  | inl e ↦ inl (rw e refl)
  | inr q ↦ rw (after_append is_space s y q.0 q.1 q.2) (assigned_goes_on s (rest_after is_space s) y)
]

abbrev GoesOn : List ℕ → Written → Written → Type 0
GoesOn y w v = (w.rest ≡ []) ⊎ (v ≡ record w { rest = w.rest ++ y })

with_name_goes_on : (name y : List ℕ) (k l : Cut) → CutGoesOn y k l → GoesOn y (with_name name k) (with_name name l)
with_name_goes_on name y k l (inl e) = inl e
with_name_goes_on name y k l (inr e) = inr (rw e refl)

attribute_goes_on : (c : ℕ) (s y : List ℕ) → GoesOn y (attribute_at c s) (attribute_at c (s ++ y))
unfolding attribute_at
attribute_goes_on c s y = elim (cases_list (rest_after is_later_byte s)) [
  | inl e ↦ inl (rw e refl)
  | inr q ↦ rw (front_append is_later_byte s y q.0 q.1 q.2, after_append is_later_byte s y q.0 q.1 q.2)
      (with_name_goes_on (c ∷ front is_later_byte s) y _ _ (after_name_goes_on (rest_after is_later_byte s) y))
]

-- a tag that has an end is the same in a longer text, with more after it
abbrev TagExtends : List ℕ → Option CutTag → Option CutTag → Type 0
TagExtends y None b = Unit {0}
TagExtends y (Some g) b = b ≡ Some (record g { rest = g.rest ++ y })

with_attribute_extends : (a : Attribute) (y : List ℕ) (o p : Option CutTag) → TagExtends y o p → TagExtends y (with_attribute a o) (with_attribute a p)
with_attribute_extends a y None p h = tt
with_attribute_extends a y (Some g) p h = rw h refl

with_slash_extends : (slash : Bool) (y : List ℕ) (o p : Option CutTag) → TagExtends y o p → TagExtends y (with_slash slash o) (with_slash slash p)
with_slash_extends slash y None p h = tt
with_slash_extends slash y (Some g) p h = rw h refl

attribute_extends : (s y : List ℕ) (w v : Written) (more longer : ℕ → Option CutTag) → GoesOn y w v → more (length s) ≡ None
    → ((k : ℕ) → TagExtends y (more k) (longer k)) → TagExtends y (attribute_then s w more) (attribute_then (s ++ y) v longer)
attribute_extends s y w v more longer (inl e) end each = let none : length s - 0 ≡ length s = omega arith in rw (e, none, end) tt
attribute_extends s y w v more longer (inr e) end each =
    let same : length (s ++ y) - length (w.rest ++ y) ≡ length s - length w.rest = simp length-append (omega arith) in
    rw (e, same) (with_attribute_extends w.attribute y (more (length s - length w.rest)) (longer (length s - length w.rest)) (each (length s - length w.rest)))

skipped_all : (s : List ℕ) → tag_from (length s) s ≡ None
skipped_all [] = refl
skipped_all (c ∷ s) = skipped_all s

slash_extends : (r y : List ℕ) → TagExtends y (tag_from zero r) (tag_from zero (r ++ y))
    → TagExtends y (with_slash (head_is is_tag_end r) (tag_from zero r)) (with_slash (head_is is_tag_end (r ++ y)) (tag_from zero (r ++ y)))
slash_extends [] y h = tt
slash_extends (d ∷ r) y h = with_slash_extends (is_tag_end d) y _ _ h

tag_extends : (k : ℕ) (s y : List ℕ) → TagExtends y (tag_from k s) (tag_from k (s ++ y))
tag_extends k [] y = tt
tag_extends (suc k) (c ∷ s) y = tag_extends k s y
tag_extends zero (c ∷ s) y =
    cond_both (TagExtends y) (is_tag_end c) refl
    (cond_both (TagExtends y) (c == 47) (slash_extends s y (tag_extends zero s y))
    (cond_both (TagExtends y) (is_space c) (tag_extends zero s y)
    (attribute_extends s y _ _ _ _ (attribute_goes_on c s y) (skipped_all s) (λ k. tag_extends k s y))))

fault_extends : (f : Option ScanFault) (token : Seen) (r y : List ℕ) → Extends y (unless_fault f token r) (unless_fault f token (r ++ y))
fault_extends None token r y = refl
fault_extends (Some faults.Cut) token r y = tt
fault_extends (Some faults.BadName) token r y = refl
fault_extends (Some faults.TooManyAttributes) token r y = refl
fault_extends (Some faults.BadDoctype) token r y = refl
fault_extends (Some faults.OutOfMemory) token r y = refl

start_of_extends : (t : List Entry) (name y : List ℕ) (o p : Option CutTag) → TagExtends y o p → Extends y (start_of t name o) (start_of t name p)
start_of_extends t name y None p h = tt
start_of_extends t name y (Some g) p h =
    rw h (fault_extends (tag_fault name g.attributes) (start_tag name (read_attributes t g.attributes) g.slash) g.rest y)

end_of_extends : (name y : List ℕ) (o p : Option CutTag) → TagExtends y o p → Extends y (end_of name o) (end_of name p)
end_of_extends name y None p h = tt
end_of_extends name y (Some g) p h = rw h (fault_extends (tag_fault name g.attributes) (end_tag name) g.rest y)

start_extends : (t : List Entry) (s y : List ℕ) → Extends y (read_start t s) (read_start t (s ++ y))
unfolding read_start
start_extends t s y = elim (cases_list (rest_after is_name_byte s)) [
  | inl e ↦ rw e tt
  | inr q ↦ rw (front_append is_name_byte s y q.0 q.1 q.2, after_append is_name_byte s y q.0 q.1 q.2)
      (start_of_extends t (tag_name s) y _ _ (tag_extends 0 (rest_after is_name_byte s) y))
]

end_extends : (s y : List ℕ) → Extends y (read_end s) (read_end (s ++ y))
unfolding read_end
end_extends s y = elim (cases_list (rest_after is_name_byte s)) [
  | inl e ↦ rw e tt
  | inr q ↦ rw (front_append is_name_byte s y q.0 q.1 q.2, after_append is_name_byte s y q.0 q.1 q.2)
      (end_of_extends (tag_name s) y _ _ (tag_extends 0 (rest_after is_name_byte s) y))
]

pub whatever_follows : WhateverFollows
unfolding read_tag
whatever_follows t [] y = unfold read_start in tt
whatever_follows t (c ∷ []) y = elim (60 == c) as (λ b. Extends y (read_by t (cond b None None) []) (read_tag t (c ∷ y))) [ true ↦ unfold read_start in tt | false ↦ unfold read_start in tt ]
whatever_follows t (c ∷ d ∷ s) y = either (60 == c) (47 == d)
  where
    either : (a b : Bool) → Extends y (read_by t (cond a (cond b (Some s) None) None) (d ∷ s)) (read_by t (cond a (cond b (Some (s ++ y)) None) None) (d ∷ (s ++ y)))
    either true true = end_extends s y
    either true false = start_extends t (d ∷ s) y
    either false b = start_extends t (d ∷ s) y
