-- What an answer on the tree of a request says of the request.
use Rattle.std.proofs.Common.{◌≡◌, ℕ, Bool, true, false, not, ◌||◌, ◌&&◌, List, Result, Ok, Err, IfOk, refl, sym, ap, ◌∙◌, subst}
use Rattle.std.specs.declared.option.Option.{Option}
use Rattle.std.specs.Str.{bytes_eq}
use Rattle.hm_base.specs.Walks.{Event}
use Rattle.hm_base.specs.declared.plain.SpellRules.{SpellRules}
use Rattle.hm_elements.specs.Settled.{Settled}
use Rattle.hm_input.specs.Inputs.{IsInput, Input, tree as tree_input, origin_input}
use Rattle.hm_minify.specs.Wanted.{input_of, wanted}
use Rattle.hm_refs.proofs.Places.{same_bytes}
use Rattle.hm_refs.specs.Names.{Entry}
use Rattle.hm_store.specs.Contents.{Contents, Sees}
use Rattle.hm_store.specs.Files.{FileMap, file_of}
use Rattle.hm_words.specs.Words.{Asked, Origin, Work, page_at, fragment_at, json_at, made, minifies, checks, shows, tells_json, explains, measures, is_apart, is_away, is_origin_apart, is_work_apart, is_table_word, are_apart, are_files_apart}
use Rattle.hm_words.specs.declared.writing.Writing.{Writing}
use Rattle.hm_minify.specs.Endings.{Ending, IsReadable, IsReadableTree, page_name, refusal, with_tree, tree_ending, asked_ending, check_ending}
use Rattle.hm_input.proofs.Seen.{IsApartFrom, mixed, sees_both, origin_stays}

-- ---- names that differ

left : (a b : Bool) → (a && b) ≡ true → a ≡ true
left true b h = refl
left false b h = cc

right : (a b : Bool) → (a && b) ≡ true → b ≡ true
right true b h = h
right false b h = cc

apart_of_both : (none a b : Bool) → (none || not a) ≡ true → (none || not b) ≡ true → (none || not (a || b)) ≡ true
apart_of_both true a b h k = refl
apart_of_both false true b h k = cc
apart_of_both false false b h k = k

not_true : (a : Bool) → not a ≡ true → a ≡ false
not_true true h = cc
not_true false h = refl

neither : (a b : Bool) → not a ≡ true → not b ≡ true → (a || b) ≡ false
neither true b h k = cc
neither false b h k = not_true b k

-- one of two names
abbrev pub is_either : List ℕ → List ℕ → List ℕ → Bool
is_either out cert name = bytes_eq name out || bytes_eq name cert

or_true : (a : Bool) → (a || true) ≡ true
or_true true = refl
or_true false = refl

-- the names of a text and of its certificate differ
pub files_apart : (origin : Origin) (out cert : List ℕ) → are_files_apart origin out cert ≡ true → bytes_eq out cert ≡ false
files_apart origin out cert apart =
    not_true (bytes_eq out cert) (right (is_away origin cert) (not (bytes_eq out cert)) (right (is_away origin out) (is_away origin cert && not (bytes_eq out cert)) apart))

-- neither is that of a table or of a second file
both_apart : (table page out cert : List ℕ) → (are_apart table out && not (bytes_eq page out)) ≡ true → (are_apart table cert && not (bytes_eq page cert)) ≡ true → ((is_table_word table || not (is_either out cert table)) ≡ true) × (is_either out cert page ≡ false)
both_apart table page out cert h k = (
  apart_of_both (is_table_word table) (bytes_eq table out) (bytes_eq table cert) (left (are_apart table out) (not (bytes_eq page out)) h) (left (are_apart table cert) (not (bytes_eq page cert)) k),
  neither (bytes_eq page out) (bytes_eq page cert) (right (are_apart table out) (not (bytes_eq page out)) h) (right (are_apart table cert) (not (bytes_eq page cert)) k),
)

both_away : (origin : Origin) (out cert : List ℕ) → is_away origin out ≡ true → is_away origin cert ≡ true → IsApartFrom (is_either out cert) origin
both_away (page_at table page) out cert h k = both_apart table page out cert h k
both_away (fragment_at table page) out cert h k = both_apart table page out cert h k
both_away (json_at table page) out cert h k = both_apart table page out cert h k
both_away (made table number size) out cert h k = apart_of_both (is_table_word table) (bytes_eq table out) (bytes_eq table cert) h k

-- they aren't those of the origin's files
pub away : (origin : Origin) (out cert : List ℕ) → are_files_apart origin out cert ≡ true → IsApartFrom (is_either out cert) origin
away origin out cert apart =
    both_away origin out cert (left (is_away origin out) (is_away origin cert && not (bytes_eq out cert)) apart)
    (left (is_away origin cert) (not (bytes_eq out cert)) (right (is_away origin out) (is_away origin cert && not (bytes_eq out cert)) apart))

-- the names of a work's files differ from the origin's, and from each other
pub work_apart : (origin : Origin) (work : Work) → is_apart origin work ≡ true → is_work_apart origin work ≡ true
work_apart origin work apart = right (is_origin_apart origin) (is_work_apart origin work) apart

-- ---- contents

first_comes : (out cert : List ℕ) (seen more : Contents) → mixed (is_either out cert) seen more out ≡ more out
first_comes out cert seen more = rw (same_bytes out) refl

second_comes : (out cert : List ℕ) (seen more : Contents) → mixed (is_either out cert) seen more cert ≡ more cert
second_comes out cert seen more = rw (same_bytes cert, or_true (bytes_eq cert out)) refl

check_comes : (r : SpellRules) (t : List Entry) (w : List Event) (out cert : List ℕ) (ended : Ending) (seen more : Contents) → ended ≡ check_ending r t w (more out) (more cert)
    → ended ≡ check_ending r t w (mixed (is_either out cert) seen more out) (mixed (is_either out cert) seen more cert)
check_comes r t w out cert ended seen more h =
    h ∙ ap (λ x. check_ending r t w x (more cert)) (sym (first_comes out cert seen more)) ∙ ap (check_ending r t w (mixed (is_either out cert) seen more out)) (sym (second_comes out cert seen more))

-- ---- the ending of a request

-- what doesn't depend on further files is said by the contents that are known
pub told_ending : (told : Option FileMap) (page : List ℕ) (a c : Work) (r : Writing) (bytes : ℕ) (t : List Entry) (w : List Event) (ended : Ending) → a ≡ c → ended ≡ tree_ending page c r (file_of told) bytes t w → Sees told (λ seen. ended ≡ tree_ending page a r seen bytes t w)
told_ending told page a c r bytes t w ended is e = record { seen = file_of told; are_told = λ _ _. refl; holds = e ∙ ap (λ x. tree_ending page x r (file_of told) bytes t w) (sym is) }

-- the tree and the ending are those of the same contents
ending_seen : (told : Option FileMap) (page : List ℕ) (origin : Origin) (work : Work) (r : Writing) (Reads : Contents → Type 0) (bytes : ℕ) (t : List Entry) (w : List Event) (ended : Ending) → is_work_apart origin work ≡ true
    → ((theirs : List ℕ → Bool) (seen more : Contents) → IsApartFrom theirs origin → Reads seen → Reads (mixed theirs seen more)) → Sees told Reads
    → Sees told (λ seen. ended ≡ tree_ending page work r seen bytes t w) → Sees told (λ seen. Reads seen × (ended ≡ tree_ending page work r seen bytes t w))
ending_seen told page origin (minifies out cert) r Reads bytes t w ended apart stays i a = record { seen = i.seen; are_told = i.are_told; holds = (i.holds, a.holds) }
ending_seen told page origin (checks out cert) r Reads bytes t w ended apart stays i a = sees_both told (is_either out cert) Reads (λ seen. ended ≡ check_ending r.rules t w (seen out) (seen cert))
    (λ seen more h. stays (is_either out cert) seen more (away origin out cert apart) h)
    (λ seen more h. check_comes r.rules t w out cert ended seen more h) i a
ending_seen told page origin shows r Reads bytes t w ended apart stays i a = record { seen = i.seen; are_told = i.are_told; holds = (i.holds, a.holds) }
ending_seen told page origin tells_json r Reads bytes t w ended apart stays i a = record { seen = i.seen; are_told = i.are_told; holds = (i.holds, a.holds) }
ending_seen told page origin explains r Reads bytes t w ended apart stays i a = record { seen = i.seen; are_told = i.are_told; holds = (i.holds, a.holds) }
ending_seen told page origin measures r Reads bytes t w ended apart stays i a = record { seen = i.seen; are_told = i.are_told; holds = (i.holds, a.holds) }

pub asked_seen : (told : Option FileMap) (a : Asked) (x : Input) (bytes : ℕ) (t : List Entry) (w : List Event) (ended : Ending) → is_work_apart a.origin a.work ≡ true → IsInput told a.origin a.options x → tree_input bytes t w ≡ wanted a x
    → Sees told (λ seen. ended ≡ tree_ending (page_name a.origin) a.work a.writing seen bytes t w) → Settled w × IsReadableTree a.work a.writing t w → Sees told (λ seen. (ended ≡ asked_ending a seen) × IsReadable a (input_of a seen))
asked_seen told a x bytes t w ended apart i is e readable =
    let s = ending_seen told (page_name a.origin) a.origin a.work a.writing (λ seen. origin_input a.origin a.options seen ≡ x) bytes t w ended apart (λ theirs seen more away h. origin_stays theirs a.origin a.options seen more away ∙ h) i e in
    let reads : tree_input bytes t w ≡ input_of a s.seen = is ∙ ap (wanted a) (sym s.holds.0) in
    record {
      seen = s.seen;
      are_told = s.are_told;
      holds = (s.holds.1 ∙ ap (λ y. with_tree y (refusal a.origin a.work s.seen) (tree_ending (page_name a.origin) a.work a.writing s.seen)) reads, subst (IsReadable a) reads readable);
    }

pub if_both : {A E : Type 0} (r : Result A E) (P Q : A → Type 0) → IfOk r P → IfOk r Q → IfOk r (λ a. P a × Q a)
if_both (Ok a) P Q p q = (p, q)
if_both (Err e) P Q p q = tt

-- ---- the steps of a request

-- the files are as they were before the tree was loaded
pub answer_before : (told mid : Option FileMap) (page : List ℕ) (work : Work) (r : Writing) (bytes : ℕ) (t : List Entry) (w : List Event) (ended : Ending) → mid ≡ told → Sees mid (λ seen. ended ≡ tree_ending page work r seen bytes t w) → Sees told (λ seen. ended ≡ tree_ending page work r seen bytes t w)
answer_before told mid page work r bytes t w ended same a = subst (λ files. Sees files (λ seen. ended ≡ tree_ending page work r seen bytes t w)) same a
