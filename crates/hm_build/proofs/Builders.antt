-- What a builder that is fed has read, before and after one more piece of the page.
use Rattle.std.proofs.Common.{◌≡◌, ℕ, Bool, true, false, cond, ◌||◌, List, [], ◌∷◌, ◌++◌, length, map, drop, take, Option, Some, None, is_some, refl, sym, ap, ap₂, subst, ◌∙◌, arith, append-nil, length-append}
use Rattle.std.specs.Str.Lossy.{utf8_valid_len, utf8_error_len}
use Rattle.std.proofs.lemmas.List.{length-map}
use Rattle.hm_base.specs.Source.{PlacedByte, byte_of, source_of}
use Rattle.hm_base.specs.declared.rules.Rule.{Rule}
use Rattle.hm_refs.specs.Names.{Entry}
use Rattle.hm_token_laws.specs.First.{Mode, ordinary, in_svg, rcdata, raw, script, first}
use Rattle.hm_construction_laws.specs.Steps.{Construction, first_state}
use Rattle.hm_construction_laws.specs.Trees.{mode_of}
use Rattle.hm_decoder.specs.Fed.{decided, lasting_fault}
use Rattle.hm_decoder.specs.Pieces.{HasFed, Pieces, fault_so_far, told_at}
use Rattle.hm_decoder.proofs.Feeding.{fault_within, nothing_decided, sound_so_far}
use Rattle.hm_decoder.proofs.Texts.{earlier_none}
use Rattle.hm_lexer.specs.Ready.{ready}
use Rattle.hm_lexer.specs.Standing.{Standing, stand_at, stands}
use Rattle.hm_insertion.specs.Building.{first_building}
use Rattle.hm_build.specs.Feeding.{Comes, Feeding, HasCome, HasRead, IsBuiltFrom, IsStopped, is_refused, kept, left_at, standing_of}
use Rattle.hm_build.proofs.Coming.{comes_more, comes_not, comes_on, stopped_more, stopped_on}
use Rattle.hm_build.proofs.Growth.{Grows, feeding_grows}

no_some : {A : Type 0} {x : A} → Some x ≡ None → ⊥
no_some e = cc

-- nothing is ready where nothing is left
none_ready : (t : List Entry) (mode : Mode) → ready t mode [] ≡ false
unfolding ready first
none_ready t ordinary = refl
none_ready t in_svg = refl
none_ready t (rcdata name) = refl
none_ready t (raw name) = refl
none_ready t script = refl

-- ---- the first moment

nothing_lasts : lasting_fault [] ≡ None
unfolding utf8_valid_len utf8_error_len
nothing_lasts = refl

no_text : (decided []).placed ≡ []
no_text = ap (λ n. (source_of (take n [])).placed) nothing_decided

pub begins_read : (f : Feeding) → f.refused ≡ None → f.building ≡ first_building → HasFed f.pieces [] [] → HasRead f []
begins_read f none first h = record {
  come = record {
    gone = [];
    came = h;
    empty = λ e.
        let sound : f.pieces.fault ≡ None = h.fault ∙ fault_within f.pieces.limit [] (omega arith) ∙ ap (told_at 0) nothing_lasts in
        sym (h.text sound).placed ∙ no_text;
    built = λ e.
        let kept : (decided []).placed ≡ f.pieces.source.placed = (h.text e).placed in
        subst (λ o. IsBuiltFrom o f.names (decided []).placed f.building f.pieces.source.placed) (sym none)
        (subst (λ b. Comes f.names first_building (decided []).placed b f.pieces.source.placed) (sym first)
        (subst (Comes f.names first_building (decided []).placed first_building) kept (comes_not f.names first_building (decided []).placed)));
  };
  waits = λ e sound.
      let kept : (decided []).placed ≡ f.pieces.source.placed = (h.text e).placed in
      ap (λ (l : List PlacedByte). ready f.names (mode_of f.building.state.path) (map byte_of l)) (sym kept ∙ no_text) ∙ none_ready f.names (mode_of f.building.state.path);
}

-- ---- one more piece

-- the piece came, and no text was let go
abbrev pub Came : Pieces → Pieces → List ℕ → Type 0
Came old new piece = (gone : List PlacedByte) (fed : List ℕ) → HasFed old gone fed → HasFed new gone (fed ++ piece)

-- this text was let go
abbrev pub LetGo : Pieces → Pieces → List PlacedByte → Type 0
LetGo old new text = (gone : List PlacedByte) (fed : List ℕ) → HasFed old gone fed → HasFed new (gone ++ text) fed

-- a page that isn't refused wasn't before
fault_before : (p q : Pieces) (gone : List PlacedByte) (fed piece : List ℕ) → HasFed p gone fed → HasFed q gone (fed ++ piece) → q.limit ≡ p.limit → q.fault ≡ None → p.fault ≡ None
fault_before p q gone fed piece h k same e =
    let sound = sound_so_far q.limit (fed ++ piece) (sym k.fault ∙ e) in
    let size = length-append fed piece in
    let none : lasting_fault fed ≡ None = earlier_none fed piece sound.1 in
    h.fault ∙ fault_within p.limit fed (omega (arith, sound.0)) ∙ ap (told_at 0) none

-- where the page or a token is refused already, the text is let go
pub stays_refused : (f g : Feeding) (mid : Pieces) (piece fed : List ℕ) → HasCome f fed → Came f.pieces mid piece → LetGo mid g.pieces mid.source.placed → mid.limit ≡ f.pieces.limit → g.pieces.fault ≡ mid.fault → g.names ≡ f.names → g.refused ≡ f.refused
    → g.pieces.source.placed ≡ [] → (mid.fault ≡ None → f.refused ≡ None → ⊥) → HasCome g (fed ++ piece)
stays_refused f g mid piece fed h came let_go same fault names refused empty some = record {
  gone = h.gone ++ mid.source.placed;
  came = let_go h.gone (fed ++ piece) (came h.gone fed h.came);
  empty = λ e. empty;
  built = λ e.
      let none : mid.fault ≡ None = sym fault ∙ e in
      let before : f.pieces.fault ≡ None = fault_before f.pieces mid h.gone fed piece h.came (came h.gone fed h.came) same none in
      let grown_so = feeding_grows f.pieces mid h.gone fed piece h.came (came h.gone fed h.came) before none in
      by f.refused refl (h.built before) (some none) grown_so;
}
  where
    by : (o : Option (Rule × ℕ)) → f.refused ≡ o → IsBuiltFrom o f.names (decided fed).placed f.building f.pieces.source.placed → (o ≡ None → ⊥) → Grows (decided fed).placed f.pieces.source.placed (decided (fed ++ piece)).placed mid.source.placed
        → IsBuiltFrom g.refused g.names (decided (fed ++ piece)).placed g.building g.pieces.source.placed
    by None e built never k = absurd (never refl)
    by (Some r) e built never k =
        subst (λ o. IsBuiltFrom o g.names (decided (fed ++ piece)).placed g.building g.pieces.source.placed) (sym (refused ∙ e))
        (subst (λ t. IsStopped t first_building (decided (fed ++ piece)).placed r.0 r.1) (sym names)
        (subst (λ l. IsStopped f.names first_building l r.0 r.1) (sym k.text_is) (stopped_more f.names first_building (decided fed).placed k.new r.0 r.1 built)))

not_refused : (o p : Option (Rule × ℕ)) → o ≡ None → p ≡ None → is_some o || is_some p ≡ true → ⊥
not_refused None None e f h = cc
not_refused None (Some r) e f h = cc
not_refused (Some r) p e f h = cc

-- where nothing is refused, the text goes on
pub comes_on_with : (f g : Feeding) (piece fed : List ℕ) → HasCome f fed → Came f.pieces g.pieces piece → g.pieces.limit ≡ f.pieces.limit → g.pieces.fault ≡ None → f.refused ≡ None → g.refused ≡ None → g.names ≡ f.names → g.building ≡ f.building → HasCome g (fed ++ piece)
comes_on_with f g piece fed h came same none sound refused names building = record {
  gone = h.gone;
  came = came h.gone fed h.came;
  empty = λ e. absurd (not_refused g.refused g.pieces.fault refused none e);
  built = λ e.
      let before : f.pieces.fault ≡ None = fault_before f.pieces g.pieces h.gone fed piece h.came (came h.gone fed h.came) same none in
      let k = feeding_grows f.pieces g.pieces h.gone fed piece h.came (came h.gone fed h.came) before none in
      let built : Comes f.names first_building (decided fed).placed f.building f.pieces.source.placed = subst (λ o. IsBuiltFrom o f.names (decided fed).placed f.building f.pieces.source.placed) sound (h.built before) in
      subst (λ o. IsBuiltFrom o g.names (decided (fed ++ piece)).placed g.building g.pieces.source.placed) (sym refused)
      (subst (λ t. Comes t first_building (decided (fed ++ piece)).placed g.building g.pieces.source.placed) (sym names)
      (subst (λ b. Comes f.names first_building (decided (fed ++ piece)).placed b g.pieces.source.placed) (sym building)
      (subst (λ l. Comes f.names first_building l f.building g.pieces.source.placed) (sym k.text_is)
      (subst (Comes f.names first_building ((decided fed).placed ++ k.new) f.building) (sym k.kept_is)
      (comes_more f.names first_building f.building (decided fed).placed f.pieces.source.placed k.new built)))));
}

-- ---- what is ready

-- nothing is ready of a page that is refused
pub reads_refused : (f : Feeding) (fed : List ℕ) → HasCome f fed → (f.pieces.fault ≡ None → f.refused ≡ None → ⊥) → HasRead f fed
reads_refused f fed h some = record { come = h; waits = λ none sound. absurd (some none sound) }

-- where all that is ready is taken
pub goes_read : (f g : Feeding) (n : ℕ) (fed : List ℕ) → HasCome f fed → LetGo f.pieces g.pieces (take n f.pieces.source.placed) → f.pieces.fault ≡ None → g.pieces.fault ≡ f.pieces.fault → f.refused ≡ None → g.refused ≡ None → g.names ≡ f.names
    → Comes f.names f.building f.pieces.source.placed g.building (drop n f.pieces.source.placed) → g.pieces.source.placed ≡ drop n f.pieces.source.placed → ready f.names (mode_of g.building.state.path) (map byte_of (drop n f.pieces.source.placed)) ≡ false → HasRead g fed
goes_read f g n fed h let_go none fault sound refused names comes left waits = record {
  come = record {
    gone = h.gone ++ take n f.pieces.source.placed;
    came = let_go h.gone fed h.came;
    empty = λ e. absurd (not_refused g.refused g.pieces.fault refused (fault ∙ none) e);
    built = λ e.
        let built : Comes f.names first_building (decided fed).placed f.building f.pieces.source.placed = subst (λ o. IsBuiltFrom o f.names (decided fed).placed f.building f.pieces.source.placed) sound (h.built none) in
        subst (λ o. IsBuiltFrom o g.names (decided fed).placed g.building g.pieces.source.placed) (sym refused)
        (subst (λ t. Comes t first_building (decided fed).placed g.building g.pieces.source.placed) (sym names)
        (subst (Comes f.names first_building (decided fed).placed g.building) (sym left)
        (comes_on f.names first_building f.building g.building (decided fed).placed f.pieces.source.placed (drop n f.pieces.source.placed) built comes)));
  };
  waits = λ e s. ap₂ (λ t (l : List PlacedByte). ready t (mode_of g.building.state.path) (map byte_of l)) names left ∙ waits;
}

-- where a token is refused
pub stops_read : (f g : Feeding) (rule : Rule) (place : ℕ) (fed : List ℕ) → HasCome f fed → LetGo f.pieces g.pieces f.pieces.source.placed → f.pieces.fault ≡ None → f.refused ≡ None → g.refused ≡ Some (rule, place) → g.names ≡ f.names → g.pieces.source.placed ≡ []
    → IsStopped f.names f.building f.pieces.source.placed rule place → HasRead g fed
stops_read f g rule place fed h let_go none sound refused names empty stopped = record {
  come = record {
    gone = h.gone ++ f.pieces.source.placed;
    came = let_go h.gone fed h.came;
    empty = λ e. empty;
    built = λ e.
        let built : Comes f.names first_building (decided fed).placed f.building f.pieces.source.placed = subst (λ o. IsBuiltFrom o f.names (decided fed).placed f.building f.pieces.source.placed) sound (h.built none) in
        subst (λ o. IsBuiltFrom o g.names (decided fed).placed g.building g.pieces.source.placed) (sym refused)
        (subst (λ t. IsStopped t first_building (decided fed).placed rule place) (sym names)
        (stopped_on f.names first_building f.building (decided fed).placed f.pieces.source.placed rule place built stopped));
  };
  waits = λ e s. absurd (no_some (sym refused ∙ s));
}

-- ---- how far the building has come

stands_here : (t : List Entry) (st : Construction) (s : List ℕ) → ready t (mode_of st.path) s ≡ false → stands t 0 st s ≡ stand_at st s
stands_here t st [] h = refl
stands_here t st (c ∷ s) h = rw h refl

-- where a token is refused
pub stood_refused : (f : Feeding) (fed : List ℕ) (r : Rule × ℕ) → HasRead f fed → f.refused ≡ Some r → f.pieces.fault ≡ None → standing_of f.names fed ≡ None
stood_refused f fed r h some none =
    let built : IsStopped f.names first_building (decided fed).placed r.0 r.1 = subst (λ o. IsBuiltFrom o f.names (decided fed).placed f.building f.pieces.source.placed) some (h.come.built none) in
    ap (stands f.names 0 first_state) (sym (append-nil (map byte_of (decided fed).placed))) ∙ built.standing []

pub stood_built : (f : Feeding) (fed : List ℕ) → HasRead f fed → f.refused ≡ None → f.pieces.fault ≡ None → standing_of f.names fed ≡ stand_at f.building.state (map byte_of f.pieces.source.placed)
stood_built f fed h sound none =
    let built : Comes f.names first_building (decided fed).placed f.building f.pieces.source.placed = subst (λ o. IsBuiltFrom o f.names (decided fed).placed f.building f.pieces.source.placed) sound (h.come.built none) in
    ap (stands f.names 0 first_state) (sym (append-nil (map byte_of (decided fed).placed))) ∙ built.standing [] ∙ ap (stands f.names 0 f.building.state) (append-nil (map byte_of f.pieces.source.placed)) ∙ stands_here f.names f.building.state (map byte_of f.pieces.source.placed) (h.waits none sound)

-- what is asked of where construction stands
abbrev Asked : (Option Standing → ℕ) → Feeding → List ℕ → ℕ
Asked ask f fed = cond (is_some (fault_so_far f.pieces.limit fed)) 0 (ask (standing_of f.names fed))

pub asked_faulty : (ask : Option Standing → ℕ) (f : Feeding) (fed : List ℕ) → HasRead f fed → is_some f.pieces.fault ≡ true → 0 ≡ Asked ask f fed
asked_faulty ask f fed h some = ap (λ b. cond b 0 (ask (standing_of f.names fed))) (sym (ap is_some (sym h.come.came.fault) ∙ some))

pub asked_refused : (ask : Option Standing → ℕ) (f : Feeding) (fed : List ℕ) → ask None ≡ 0 → HasRead f fed → is_some f.refused ≡ true → 0 ≡ Asked ask f fed
asked_refused ask f fed zero_there h some = by f.pieces.fault refl f.refused refl some
  where
    by : (o : Option (Rule × ℕ)) → f.pieces.fault ≡ o → (q : Option (Rule × ℕ)) → f.refused ≡ q → is_some q ≡ true → 0 ≡ Asked ask f fed
    by (Some r) e q g k = asked_faulty ask f fed h (ap is_some e)
    by None e (Some r) g k = sym (ap (λ b. cond b 0 (ask (standing_of f.names fed))) (ap is_some (sym h.come.came.fault ∙ e)) ∙ ap ask (stood_refused f fed r h g e) ∙ zero_there)
    by None e None g k = cc

pub asked_built : (ask : Option Standing → ℕ) (f : Feeding) (fed : List ℕ) → HasRead f fed → f.refused ≡ None → f.pieces.fault ≡ None → ask (stand_at f.building.state (map byte_of f.pieces.source.placed)) ≡ Asked ask f fed
asked_built ask f fed h sound none = sym (ap (λ b. cond b 0 (ask (standing_of f.names fed))) (ap is_some (sym h.come.came.fault ∙ none)) ∙ ap ask (stood_built f fed h sound none))

-- the text that is kept is what isn't ready
pub kept_is : (f : Feeding) (fed : List ℕ) → HasRead f fed → length f.pieces.source.placed ≡ kept f.names f.pieces.limit fed
kept_is f fed h = by f.refused refl f.pieces.fault refl
  where
    none_left : is_refused f ≡ true → length f.pieces.source.placed ≡ 0
    none_left e = ap length (h.come.empty e)

    refused_so : is_some f.refused ≡ true → is_refused f ≡ true
    refused_so e = ap (λ b. b || is_some f.pieces.fault) e

    faulty_so : (b : Bool) → is_some f.pieces.fault ≡ true → b || is_some f.pieces.fault ≡ true
    faulty_so true e = refl
    faulty_so false e = e

    by : (o : Option (Rule × ℕ)) → f.refused ≡ o → (q : Option (Rule × ℕ)) → f.pieces.fault ≡ q → length f.pieces.source.placed ≡ kept f.names f.pieces.limit fed
    by (Some r) e q g = none_left (refused_so (ap is_some e)) ∙ asked_refused left_at f fed refl h (ap is_some e)
    by None e (Some r) g = none_left (faulty_so (is_some f.refused) (ap is_some g)) ∙ asked_faulty left_at f fed h (ap is_some g)
    by None e None g = sym (length-map f.pieces.source.placed byte_of) ∙ asked_built left_at f fed h e g
