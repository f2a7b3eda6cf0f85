-- Writing changes no other file.
use Rattle.std.proofs.Common.{◌≡◌, ℕ, inl, inr, Bool, true, false, cond, ◌||◌, List, [], ◌∷◌, Some, None, refl, ap, ◌∙◌}
use Rattle.std.specs.declared.option.Option.{Option}
use Rattle.std.specs.Str.{bytes_eq}
use Rattle.std.specs.Cmp.Lexicographic.{nat_list_cmp_total}
use Rattle.std.specs.FinMap.{get, get-insert}
use Rattle.std.proofs.lemmas.Map.Text.{is_eq-slice_cmp}
use Rattle.hm_refs.proofs.Places.{same_bytes, other_bytes}
use Rattle.hm_base.specs.Walks.{Event}
use Rattle.hm_words.specs.declared.notices.Notice.{Notice}
use Rattle.hm_words.specs.declared.writing.Writing.{Writing}
use Rattle.hm_refs.specs.Names.{Entry}
use Rattle.hm_store.specs.Contents.{Contents, Sees}
use Rattle.hm_store.specs.Files.{FileMap, file_of, with_file, HasFront}
use Rattle.hm_input.specs.Inputs.{Input, missing, bad_table, bad_page, bad_json, tree as tree_input}
use Rattle.hm_minify.specs.Wanted.{input_of}
use Rattle.hm_words.specs.Words.{Origin, Work, Asked, minifies, checks, shows, tells_json, explains, measures, asked, has, notice_in}
use Rattle.hm_minify.specs.Endings.{page_name, refusal, with_tree, tree_ending, request_ending, words_ending, ending, outputs, asked_outputs}
use Rattle.hm_minify.specs.Writes.{Write, IsLeft}
use Rattle.hm_minify.proofs.Found.{check_writes}

abbrev names_of : List Write → List (List ℕ)
names_of [] = []
names_of (w ∷ ws) = w.name ∷ names_of ws

-- ---- files

flipped : (n m : List ℕ) → bytes_eq n m ≡ false → bytes_eq m n ≡ false
flipped n m h = other_bytes m n (λ e. let t : bytes_eq n m ≡ true = ap (bytes_eq n) e ∙ same_bytes n in cc)

with_other : (old : Option FileMap) (n b name : List ℕ) → bytes_eq n name ≡ false → file_of (with_file old n b) name ≡ file_of old name
with_other None n b name h = refl
with_other (Some m) n b name h = get-insert nat_list_cmp_total m n b name ∙ ap (λ t. cond t (Some b) (get m name)) (is_eq-slice_cmp name n ∙ flipped n name h)

first_differs : (a b : Bool) → (a || b) ≡ false → a ≡ false
first_differs true b h = cc
first_differs false b h = refl

second_differs : (a b : Bool) → (a || b) ≡ false → b ≡ false
second_differs true b h = cc
second_differs false b h = h

front_other : (old new : Option FileMap) (n b name : List ℕ) → HasFront old new n b → bytes_eq n name ≡ false → file_of new name ≡ file_of old name
front_other old new n b name f h = ap (λ o. file_of o name) f.files ∙ with_other old n _ name h

left_other : (old : Option FileMap) (ws : List Write) (new : Option FileMap) (name : List ℕ) → has (names_of ws) name ≡ false → IsLeft old ws new → file_of new name ≡ file_of old name
left_other old [] new name h e = ap (λ o. file_of o name) e
left_other old (w ∷ ws) new name h (inl e) = ap (λ o. file_of o name) e
left_other old (w ∷ ws) new name h (inr (inl f)) = front_other old new w.name w.bytes name f (first_differs (bytes_eq w.name name) (has (names_of ws) name) h)
left_other old (w ∷ ws) new name h (inr (inr l)) =
    left_other (with_file old w.name w.bytes) ws new name (second_differs (bytes_eq w.name name) (has (names_of ws) name) h) l
    ∙ with_other old w.name w.bytes name (first_differs (bytes_eq w.name name) (has (names_of ws) name) h)

-- ---- what is written

tree_names : (page : List ℕ) (work : Work) (r : Writing) (seen : Contents) (bytes : ℕ) (t : List Entry) (w : List Event) (name : List ℕ) → has (outputs work) name ≡ false → has (names_of (tree_ending page work r seen bytes t w).writes) name ≡ false
tree_names page (minifies out cert) r seen bytes t w name h = h
tree_names page (checks out cert) r seen bytes t w name h = ap (λ ws. has (names_of ws) name) (check_writes r.rules t w (seen out) (seen cert))
tree_names page shows r seen bytes t w name h = refl
tree_names page tells_json r seen bytes t w name h = refl
tree_names page explains r seen bytes t w name h = refl
tree_names page measures r seen bytes t w name h = refl

input_names : (origin : Origin) (work : Work) (r : Writing) (seen : Contents) (x : Input) (name : List ℕ) → has (outputs work) name ≡ false → has (names_of (with_tree x (refusal origin work seen) (tree_ending (page_name origin) work r seen)).writes) name ≡ false
input_names origin work r seen missing name h = refl
input_names origin work r seen (bad_table fault) name h = refl
input_names origin work r seen (bad_page rule at) name h = refl
input_names origin work r seen (bad_json fault) name h = refl
input_names origin work r seen (tree_input bytes t w) name h = tree_names (page_name origin) work r seen bytes t w name h

request_names : (a : Option Asked) (seen : Contents) (name : List ℕ) → has (asked_outputs a) name ≡ false → has (names_of (request_ending a seen).writes) name ≡ false
request_names None seen name h = refl
request_names (Some a) seen name h = input_names a.origin a.work a.writing seen (input_of a seen) name h

words_names : (n : Option Notice) (a : Option Asked) (seen : Contents) (name : List ℕ) → has (asked_outputs a) name ≡ false → has (names_of (words_ending n a seen).writes) name ≡ false
words_names (Some n) a seen name h = refl
words_names None a seen name h = request_names a seen name h

pub others : (words : List (List ℕ)) (old new : Option FileMap) (name : List ℕ) → Sees old (λ seen. IsLeft old (ending words seen).writes new) → has (asked_outputs (asked words)) name ≡ false → file_of new name ≡ file_of old name
others words old new name l h = left_other old (ending words l.seen).writes new name (words_names (notice_in words) (asked words) l.seen name h) l.holds
