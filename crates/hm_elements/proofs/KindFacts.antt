-- The kinds by number are those of the names.
use Rattle.std.proofs.Common.{◌≡◌, ℕ, ◌<◌, get_or, Bool, true, false, ◌==◌, List, [], map, refl, sym, ap, ◌∙◌}
use Rattle.std.specs.List.{list_all}
use Rattle.std.proofs.lemmas.Bool.{both_ways}
use Rattle.std.proofs.lemmas.List.{get_or-map}
use Rattle.hm_elements.specs.declared.kind.Kind.{Kind}
use Rattle.hm_elements.specs.declared.names.TheConstants.{NAME_COUNT}
use Rattle.hm_elements.specs.Kinds.{kind, other}
use Rattle.hm_elements.specs.Names.{is_among}
use Rattle.hm_elements.specs.Numbers.{names, number_of, text_of}
use Rattle.hm_elements.proofs.Finding.{many, text_of_listed, number_of_other, same_asked}
use Rattle.hm_elements.proofs.Listed.{listed, is_listed, no_class, no_heading, not_unnested, closes_no_p, no_boundary, no_block, no_colgroup, no_yields, not_before_p, no_ends, not_after_p, no_children, no_parents, not_bound}
use Rattle.hm_elements.proofs.TableTools.{none_among}

listed_named : list_all (λ m. is_among m names) listed ≡ true
unfolding names is_among
listed_named = refl

-- a name that has no number is of no kind
other_kind : (n : List ℕ) → is_among n names ≡ false → kind n ≡ other
other_kind n e =
    let none : is_listed n ≡ false = none_among n listed names e listed_named in
    rw (number_of_other n e, no_class n none, no_heading n none, not_unnested n none, closes_no_p n none, no_boundary n none, no_block n none, no_colgroup n none, no_yields n none, not_before_p n none, no_ends n none, not_after_p n none, no_children n none, no_parents n none, not_bound n none) refl

no_name_listed : is_listed [] ≡ false
unfolding is_among
no_name_listed = refl

empty_unnamed : number_of [] ≡ 0
unfolding number_of names is_among
empty_unnamed = refl

empty_kind : kind [] ≡ other
empty_kind =
    let none : is_listed [] ≡ false = no_name_listed in
    rw (empty_unnamed, no_class [] none, no_heading [] none, not_unnested [] none, closes_no_p [] none, no_boundary [] none, no_block [] none, no_colgroup [] none, no_yields [] none, not_before_p [] none, no_ends [] none, not_after_p [] none, no_children [] none, no_parents [] none, not_bound [] none) refl

pub kind_named : (n : List ℕ) → kind (text_of (number_of n)) ≡ kind n
kind_named n = same_asked kind n (λ e. empty_kind ∙ sym (other_kind n e))

pub kind_at : (ks : List Kind) (k : ℕ) (d : Kind) → ks ≡ map kind names → k < NAME_COUNT → get_or ks k d ≡ kind (text_of k)
unfolding text_of
kind_at ks k d e h = ap (λ l. get_or l k d) e ∙ get_or-map kind names k [] d (rw many h)

pub number_in_kind : (n : List ℕ) (k : Kind) → k ≡ kind n → k.number ≡ number_of n
number_in_kind n k e = ap (λ (k' : Kind). k'.number) e

-- a name with a number of its own is the text of that number
pub text_of_known : (n : List ℕ) → (number_of n == 0) ≡ false → text_of (number_of n) ≡ n
text_of_known n h = by (is_among n names) refl
  where
    by : (b : Bool) → is_among n names ≡ b → text_of (number_of n) ≡ n
    by true e = text_of_listed n e
    by false e = let is : (number_of n == 0) ≡ true = rw (number_of_other n e) refl in absurd (both_ways (number_of n == 0) h is)
