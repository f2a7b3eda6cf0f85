-- The page of a file, of which a builder has taken the bytes.
use Rattle.std.proofs.Common.{true≢false, ◌≡◌, ℕ, ◌+◌, ◌≤◌, ◌<◌, ◌⊎◌, inl, inr, Bool, true, false, List, [], ◌++◌, length, take, Some, None, refl, sym, ap, ◌∙◌, subst, arith, length-append}
use Rattle.std.proofs.lemmas.Bool.Decides.{nat_tests}
use Rattle.std.proofs.lemmas.Grind.{common_steps}
use Rattle.std.proofs.lemmas.List.{append_assoc, take_all}
use Rattle.std.specs.Bool.{nat_lt}
use Rattle.std.specs.Option.{IsSome}
use Rattle.std.specs.Prelude.{Result, Ok, Err}
use Rattle.std.specs.Result.{IsErrAnd, IfErr}
use Rattle.std.specs.declared.option.Option.{Option}
use Rattle.std.specs.Io.KnownBytes.{prepend_known, IsAtEnd}
use Rattle.hm_base.specs.Walks.{Event}
use Rattle.hm_base.specs.declared.limits.TheConstants.{PAGE_LIMIT}
use Rattle.hm_base.specs.declared.rules.Refused.{Refused}
use Rattle.hm_base.specs.declared.rules.Refused.TheVariants as answers
use Rattle.hm_base.specs.declared.rules.Rule.TheVariants.{TooLong}
use Rattle.hm_store.specs.Files.{FileMap, Takes, file_of}
use Rattle.hm_store.specs.declared.whole_files.LoadFault.{LoadFault}
use Rattle.hm_store.specs.declared.whole_files.LoadFault.TheVariants as loads
use Rattle.hm_store.proofs.LoadLemmas.{taken_after}
use Rattle.hm_refs.specs.Names.{Entry}
use Rattle.hm_build.specs.Trees.{built, refused_by}
use Rattle.hm_build.specs.Feeding.{page_outcome_within}
use Rattle.hm_build.specs.Parsing.{IsRefusedAs}
use Rattle.hm_page_loading.specs.Loading.{IsTaken, IsUnderWay, TakesNext}
use Rattle.hm_page_loading.specs.declared.fault.PageLoadFault.{PageLoadFault}
use Rattle.hm_page_loading.specs.declared.fault.PageLoadFault.TheVariants as faults
use Rattle.hm_page_loading.specs.Pages.{IsPageTree, NoPageTree, fault_of, load_fault_of}
use Rattle.hm_page_loading.specs.Spacing.{Spaced, HasTaken}

-- ---- pull by pull

begun : (known : Option (List ℕ)) → known ≡ prepend_known [] known
begun None = refl
begun (Some xs) = refl

further : (taken next : List ℕ) (rest : Option (List ℕ)) → prepend_known taken (prepend_known next rest) ≡ prepend_known (taken ++ next) rest
further taken next None = refl
further taken next (Some xs) = ap Some (sym (append_assoc taken next xs))

pub under_way : (s : Spaced) (file : Option (List ℕ)) → HasTaken s [] → IsUnderWay s file file 0
under_way s file h = record { taken = []; has = h; whole = begun file; count = refl }

pub more_taken : (s new : Spaced) (file rest rest_new : Option (List ℕ)) (n k : ℕ) → IsUnderWay s file rest n → TakesNext s rest k new rest_new → IsUnderWay new file rest_new (n + k)
more_taken s new file rest rest_new n k u t = record {
  taken = u.taken ++ t.next;
  has = t.taken u.taken u.has;
  whole = u.whole ∙ ap (prepend_known u.taken) t.front ∙ further u.taken t.next rest_new;
  count = length-append u.taken t.next ∙ ap (λ m. m + length t.next) u.count ∙ ap (λ m. n + m) t.count;
}

-- a load that is at the end, or that has taken enough
pub taken_all : (s : Spaced) (file rest : Option (List ℕ)) (limit n : ℕ) → IsUnderWay s file rest n → n ≤ limit + 1 → IsAtEnd rest ⊎ (n ≡ limit + 1) → IsTaken s file limit n
taken_all s file rest limit n u within end = record {
  taken = u.taken;
  has = u.has;
  front = taken_after file rest [] u.taken (limit + 1) (sym u.whole ∙ begun file) refl (omega (arith, u.count, within)) (elim end [ inl e ↦ inl e | inr e ↦ inr (omega (arith, u.count, e)) ]);
  count = u.count;
  within = within;
}

pub taken_at_end : (s new : Spaced) (file rest rest_new : Option (List ℕ)) (limit n k : ℕ) → IsUnderWay s file rest n → TakesNext s rest k new rest_new → k ≡ 0 → n ≤ limit + 1 → IsTaken new file limit n
taken_at_end s new file rest rest_new limit n k u t none within =
    let same : n + k ≡ n = omega (arith, none) in
    taken_all new file rest_new limit n (subst (IsUnderWay new file rest_new) same (more_taken s new file rest rest_new n k u t)) within (inl (t.ended none))

-- ---- the limit

long_by_test : (n m : ℕ) → nat_lt n m ≡ true → n < m
long_by_test n m e = grind (arith, nat_tests)

short_by_test : (n m : ℕ) → nat_lt n m ≡ false → m ≤ n + 1
short_by_test n m e = grind (arith, nat_tests)

still_long : (content : List ℕ) (n : ℕ) → n < length content → nat_lt n (length (take (n + 1) content)) ≡ true
still_long content n h = grind (arith, nat_tests, common_steps)

-- what is found of the first bytes, one more than the limit, is found of the page
page_front : (limit : ℕ) (t : List Entry) (page : List ℕ) → page_outcome_within limit t (take (limit + 1) page) ≡ page_outcome_within limit t page
page_front limit t page = by_length (nat_lt limit (length page)) refl
  where
    by_length : (long : Bool) → nat_lt limit (length page) ≡ long → page_outcome_within limit t (take (limit + 1) page) ≡ page_outcome_within limit t page
    by_length true e = rw (e, still_long page limit (long_by_test limit (length page) e)) refl
    by_length false e = ap (page_outcome_within limit t) (take_all (limit + 1) page (short_by_test limit (length page) e))

long_page : (limit : ℕ) (t : List Entry) (page : List ℕ) → nat_lt limit (length page) ≡ true → page_outcome_within limit t page ≡ refused_by TooLong limit
long_page limit t page long = rw long refl

-- a page that has a tree isn't too long
built_is_short : (limit : ℕ) (t : List Entry) (page : List ℕ) (tree : List Event) → page_outcome_within limit t page ≡ built tree → length page ≤ limit + 1
built_is_short limit t page tree e = by_length (nat_lt limit (length page)) refl
  where
    by_length : (long : Bool) → nat_lt limit (length page) ≡ long → length page ≤ limit + 1
    by_length true long = let k : refused_by TooLong limit ≡ built tree = sym (long_page limit t page long) ∙ e in absurd (cc)
    by_length false short = short_by_test limit (length page) short

-- ---- the page of a file

-- the content of the file where it is known, and otherwise what was taken
abbrev page_of : Option (List ℕ) → List ℕ → List ℕ
page_of None taken = taken
page_of (Some content) taken = content

is_there : (told : Option FileMap) (name : List ℕ) (file : Option (List ℕ)) (taken : List ℕ) → file ≡ file_of told name → (IsSome told → IsSome file) → IsSome told → file_of told name ≡ Some (page_of file taken)
is_there told name None taken e there some = absurd (cc (there some))
is_there told name (Some content) taken e there some = sym e

is_front : (file : Option (List ℕ)) (taken : List ℕ) (most : ℕ) → Takes file most taken → length taken ≤ most → taken ≡ take most (page_of file taken)
is_front None taken most h within = sym (take_all most taken within)
is_front (Some content) taken most h within = h

module _ (told : Option FileMap) (name : List ℕ) (file : Option (List ℕ)) (t : List Entry) (s : Spaced) (n : ℕ) (opened : file ≡ file_of told name) (there : IsSome told → IsSome file) (k : IsTaken s file PAGE_LIMIT n)
    (names : s.feeding.names ≡ t) (limit : s.feeding.pieces.limit ≡ PAGE_LIMIT) where
  abbrev page : List ℕ
  page = page_of file k.taken

  front : k.taken ≡ take (PAGE_LIMIT + 1) page
  front = is_front file k.taken (PAGE_LIMIT + 1) k.front (omega (arith, k.count, k.within))

  outcome : page_outcome_within PAGE_LIMIT t page ≡ page_outcome_within s.feeding.pieces.limit s.feeding.names k.taken
  outcome =
      sym (page_front PAGE_LIMIT t page)
      ∙ ap (page_outcome_within PAGE_LIMIT t) (sym front)
      ∙ ap (λ l. page_outcome_within l t k.taken) (sym limit)
      ∙ ap (λ x. page_outcome_within s.feeding.pieces.limit x k.taken) (sym names)

  pub page_tree : (tree : List Event) → ((taken : List ℕ) → HasTaken s taken → page_outcome_within s.feeding.pieces.limit s.feeding.names taken ≡ built tree) → IsPageTree told name t tree n
  page_tree tree is =
      let reads : page_outcome_within PAGE_LIMIT t page ≡ built tree = outcome ∙ is k.taken k.has in
      record {
        page = page;
        there = is_there told name file k.taken opened there;
        reads = reads;
        all = sym k.count ∙ ap length (front ∙ take_all (PAGE_LIMIT + 1) page (built_is_short PAGE_LIMIT t page tree reads));
      }

  pub no_page_tree : (refused : Refused) → ((taken : List ℕ) → HasTaken s taken → IsRefusedAs (page_outcome_within s.feeding.pieces.limit s.feeding.names taken) refused) → NoPageTree told name t (fault_of refused)
  no_page_tree (answers.Page rule at) is = record { page = page; there = is_there told name file k.taken opened there; refused = outcome ∙ is k.taken k.has }
  no_page_tree answers.OutOfMemory is = tt

-- a load that fails says nothing of the page
pub no_load : (told : Option FileMap) (name : List ℕ) (t : List Entry) (fault : LoadFault) → NoPageTree told name t (load_fault_of fault)
no_load told name t loads.Store = tt
no_load told name t loads.OutOfMemory = tt

-- an error that is given on as it is
pub given_on : {T E : Type 0} (r : Result T E) (P : E → Type 0) (e : E) → IsErrAnd r (λ y. y ≡ e) → P e → IfErr r P
given_on (Ok x) P e h p = tt
given_on (Err y) P e h p = subst P (sym h) p

abbrev is_store : PageLoadFault → Bool
is_store (faults.Page rule at) = false
is_store faults.Store = true
is_store faults.OutOfMemory = false

-- where a failed call is told, it was one of the load
pub from_store : {T P : Type 0} (r : Result T PageLoadFault) (fault : LoadFault) → IsErrAnd r (λ y. y ≡ load_fault_of fault) → (fault ≡ loads.Store → P) → r ≡ Err faults.Store → P
from_store (Ok x) fault h told e = absurd (cc)
from_store (Err y) loads.Store h told e = told refl
from_store (Err y) loads.OutOfMemory h told e =
    let same : y ≡ faults.Store = cc in
    absurd (true≢false (sym (ap is_store same) ∙ ap is_store h))
