-- All of a page has come to a builder.
use Rattle.std.proofs.Common.{◌≡◌, ℕ, Bool, true, false, cond, nat_lt, List, length, Option, Some, None, refl, sym, ap, ap₂, subst, ◌∙◌, arith, zero-add}
use Rattle.std.specs.Option.{option_or}
use Rattle.hm_base.specs.Source.{PlacedByte, Refusal, source_of, text_fault}
use Rattle.hm_base.specs.Walks.{Event}
use Rattle.hm_base.specs.declared.rules.Rule.{Rule}
use Rattle.hm_base.specs.declared.rules.Rule.TheVariants.{TooLong}
use Rattle.hm_base.specs.declared.rules.Refused.{Refused}
use Rattle.hm_base.specs.declared.rules.Refused.TheVariants as answers
use Rattle.hm_elements.specs.Settled.{Settled}
use Rattle.hm_refs.specs.Names.{Entry}
use Rattle.hm_refs.specs.Tables.{IsTable}
use Rattle.hm_construction_laws.specs.Trees.{Outcome, built, refused_by, page_tree, tree_of_text, unless_faulty}
use Rattle.hm_construction_laws.proofs.Pages.{pages_are_settled}
use Rattle.hm_decoder.specs.Fed.{decided}
use Rattle.hm_decoder.specs.Pieces.{HasFed, HasPage, Pieces, fault_of_page, told_at}
use Rattle.hm_decoder.proofs.Feeding.{fault_within}
use Rattle.hm_decoder.proofs.Texts.{whole_texts_follow}
use Rattle.hm_insertion.specs.Building.{first_building}
use Rattle.hm_build.specs.Feeding.{Comes, Ends, EndsAs, Feeding, HasCome, IsBuiltFrom, IsStopped, page_outcome_within, whole_tree}
use Rattle.hm_build.specs.Parsing.{IsRefusedAs, left_tree, reads}
use Rattle.hm_build.proofs.Growth.{page_grows, sound_page}
use Rattle.hm_build.proofs.PageEnds.{first_tree, sound_names}

some_is : {A : Type 0} {x y : A} → Some x ≡ Some y → x ≡ y
some_is e = cc

no_some : {A : Type 0} {x : A} → Some x ≡ None → ⊥
no_some e = cc

not_built : {rule : Rule} {at : ℕ} {w : List Event} → refused_by rule at ≡ built w → ⊥
not_built e = cc

-- a page without a text, or one that is too long
faulty_page : (limit : ℕ) (t : List Entry) (page : List ℕ) (r : Rule × ℕ) → fault_of_page limit page ≡ Some r → page_outcome_within limit t page ≡ refused_by r.0 r.1
unfolding page_tree
faulty_page limit t page r e = by (nat_lt limit (length page)) (text_fault page) e
  where
    by : (b : Bool) (o : Option Refusal) → cond b (Some (TooLong, limit)) (told_at 0 o) ≡ Some r → cond b (refused_by TooLong limit) (unless_faulty o (tree_of_text t page)) ≡ refused_by r.0 r.1
    by true o h = ap (λ (z : Rule × ℕ). refused_by z.0 z.1) (some_is h)
    by false None h = absurd (no_some (sym h))
    by false (Some f) h = ap (refused_by f.rule) (sym (zero-add f.at)) ∙ ap (λ (z : Rule × ℕ). refused_by z.0 z.1) (some_is h)

-- a page with a text
sound_tree : (limit : ℕ) (t : List Entry) (page : List ℕ) → fault_of_page limit page ≡ None → page_outcome_within limit t page ≡ tree_of_text t page
unfolding page_tree
sound_tree limit t page e = by (nat_lt limit (length page)) (text_fault page) e
  where
    by : (b : Bool) (o : Option Refusal) → cond b (Some (TooLong, limit)) (told_at 0 o) ≡ None → cond b (refused_by TooLong limit) (unless_faulty o (tree_of_text t page)) ≡ tree_of_text t page
    by true o h = absurd (no_some h)
    by false None h = refl
    by false (Some f) h = absurd (no_some h)

-- it had no fault before its end
sound_before : (p q : Pieces) (gone : List PlacedByte) (page : List ℕ) → HasFed p gone page → HasPage q gone page → q.limit ≡ p.limit → q.fault ≡ None → p.fault ≡ None
sound_before p q gone page h k same e =
    let sound = sound_page q.limit page (sym k.fault ∙ e) in
    h.fault ∙ fault_within p.limit page (omega (arith, sound.0)) ∙ ap (told_at 0) (whole_texts_follow page sound.1).0

-- ---- the answers

-- the text of the page has a fault
ends_faulty : (f : Feeding) (q : Pieces) (page : List ℕ) (rule : Rule) (at : ℕ) → HasCome f page → Ends f.pieces q → q.limit ≡ f.pieces.limit → q.fault ≡ Some (rule, at) → page_outcome_within f.pieces.limit f.names page ≡ refused_by rule at
ends_faulty f q page rule at h ends same some =
    faulty_page f.pieces.limit f.names page (rule, at) (ap (λ n. fault_of_page n page) (sym same) ∙ sym (ends h.gone page h.came).fault ∙ some)

-- a token was refused
ends_stopped : (f : Feeding) (q : Pieces) (page : List ℕ) (rule : Rule) (at : ℕ) → HasCome f page → Ends f.pieces q → q.limit ≡ f.pieces.limit → q.fault ≡ None → f.refused ≡ Some (rule, at) → page_outcome_within f.pieces.limit f.names page ≡ refused_by rule at
ends_stopped f q page rule at h ends same none some =
    let ended = ends h.gone page h.came in
    let before = sound_before f.pieces q h.gone page h.came ended same none in
    let stopped : IsStopped f.names first_building (decided page).placed rule at = subst (λ o. IsBuiltFrom o f.names (decided page).placed f.building f.pieces.source.placed) some (h.built before) in
    let grown_so = page_grows f.pieces q h.gone page h.came ended before none in
    sound_tree f.pieces.limit f.names page (ap (λ n. fault_of_page n page) (sym same) ∙ sym ended.fault ∙ none)
    ∙ sym (first_tree f.names (source_of page)) ∙ ap (λ l. whole_tree f.names first_building l (length page)) grown_so.text_is ∙ stopped.tree grown_so.new (length page)

-- one of the two, or memory was refused
pub ends_refused : (f : Feeding) (q : Pieces) (page : List ℕ) (refused : Refused) → HasCome f page → q.limit ≡ f.pieces.limit → EndsAs f.pieces q f.refused refused → IsRefusedAs (page_outcome_within f.pieces.limit f.names page) refused
ends_refused f q page (answers.Page rule at) h same e = by q.fault refl e.1
  where
    by : (o : Option (Rule × ℕ)) → q.fault ≡ o → option_or o f.refused ≡ Some (rule, at) → page_outcome_within f.pieces.limit f.names page ≡ refused_by rule at
    by (Some r) is k = ends_faulty f q page rule at h e.0 same (is ∙ k)
    by None is k = ends_stopped f q page rule at h e.0 same is k
ends_refused f q page answers.OutOfMemory h same e = tt

-- no refusal of either kind
pub none_of_both : {A : Type 0} (o p : Option A) → option_or o p ≡ None → (o ≡ None) × (p ≡ None)
none_of_both (Some r) p e = absurd (no_some e)
none_of_both None p e = (refl, e)

-- what was built goes on with what is left of the text
pub ends_sound : (f : Feeding) (q : Pieces) (page : List ℕ) → HasCome f page → q.limit ≡ f.pieces.limit → Ends f.pieces q → option_or q.fault f.refused ≡ None → page_outcome_within f.pieces.limit f.names page ≡ left_tree (reads f.names q.source) f.building
ends_sound f q page h same ends none =
    let no_fault : q.fault ≡ None = (none_of_both q.fault f.refused none).0 in
    let ended = ends h.gone page h.came in
    let before = sound_before f.pieces q h.gone page h.came ended same no_fault in
    let so_far : Comes f.names first_building (decided page).placed f.building f.pieces.source.placed =
    subst (λ o. IsBuiltFrom o f.names (decided page).placed f.building f.pieces.source.placed) (none_of_both q.fault f.refused none).1 (h.built before) in
    let grown_so = page_grows f.pieces q h.gone page h.came ended before no_fault in
    sound_tree f.pieces.limit f.names page (ap (λ n. fault_of_page n page) (sym same) ∙ sym ended.fault ∙ no_fault)
    ∙ sym (first_tree f.names (source_of page)) ∙ ap (λ l. whole_tree f.names first_building l (length page)) grown_so.text_is ∙ so_far.tree grown_so.new (length page)
    ∙ ap₂ (whole_tree f.names f.building) (sym grown_so.kept_is) (sym (ended.end no_fault))

-- what is built of a page is settled
pub settled_within : (limit : ℕ) (t : List Entry) (page : List ℕ) (w : List Event) → IsTable t → page_outcome_within limit t page ≡ built w → Settled w
settled_within limit t page w names h = by (nat_lt limit (length page)) h
  where
    by : (b : Bool) → cond b (refused_by TooLong limit) (page_tree t page) ≡ built w → Settled w
    by true e = absurd (not_built e)
    by false e = pages_are_settled t page w (sound_names t names) e

-- the same refusal
pub refused_same : (o p : Outcome) (answer : Refused) → o ≡ p → IsRefusedAs p answer → IsRefusedAs o answer
refused_same o p (answers.Page rule at) e h = e ∙ h
refused_same o p answers.OutOfMemory e h = tt
