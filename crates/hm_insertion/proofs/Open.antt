-- What the innermost element says of a text in it.
use Rattle.std.proofs.Common.{◌≡◌, true, false, not, Bool, List, [], ◌∷◌, Option, Some, None, ◌⊎◌, ⊎_elim, refl, ◌∙◌}
use Rattle.std.specs.Option.{is_some}
use Rattle.std.proofs.lemmas.Bool.{and_parts}
use Rattle.hm_base.specs.Walks.{Element}
use Rattle.hm_elements.specs.Names.{is_among}
use Rattle.hm_elements.specs.Tables.{is_raw, is_rcdata, raw_names, rcdata_names, holds_text}
use Rattle.hm_elements.specs.Paths.{current, is_in_raw, is_in_text}
use Rattle.hm_insertion.specs.Inside.{inside_head, open_path}
use Rattle.hm_insertion.specs.declared.insertion.HeadText.{HeadText}
use Rattle.hm_insertion.specs.declared.insertion.HeadText.TheVariants.{Title, Style, Script}
use Rattle.hm_insertion.specs.declared.insertion.BuilderMode.{BuilderMode}
use Rattle.hm_insertion.specs.declared.insertion.BuilderMode.TheVariants.{Initial, BeforeHtml, BeforeHead, AfterHead}

-- the name says whether the text is raw, where one text stands alone
pub raw_by : (path : List Element) → is_in_text path ≡ true → is_raw (current path) ≡ is_in_raw path
raw_by [] alone = cc
raw_by (e ∷ path) alone = rw (and_parts (not e.foreign) (holds_text e.name) alone).0 refl

-- html holds more than a text
pub no_text_around : (ph : BuilderMode) (path : List Element) → (ph ≡ Initial) ⊎ ((ph ≡ BeforeHtml) ⊎ ((ph ≡ BeforeHead) ⊎ (ph ≡ AfterHead))) → false ≡ is_in_text (open_path ph path)
unfolding holds_text is_raw is_rcdata raw_names rcdata_names is_among
no_text_around ph path = ⊎_elim (λ e. rw e refl) (⊎_elim (λ e. rw e refl) (⊎_elim (λ e. rw e refl) (λ e. rw e refl)))

-- in head the elements that hold one text are those that are distinguished
pub text_in_head : (here : Bool) (inner : Option HeadText) → is_some inner ≡ is_in_text (inside_head here inner)
unfolding holds_text is_raw is_rcdata raw_names rcdata_names is_among
text_in_head here (Some Title) = refl
text_in_head here (Some Style) = refl
text_in_head here (Some Script) = refl
text_in_head true None = refl
text_in_head false None = refl

-- ---- Cases that can't be

pub true_false : true ≡ false → ⊥
true_false e = cc

pub false_true : false ≡ true → ⊥
false_true e = cc

pub some_none : {A : Type 0} (x : A) → Some x ≡ None → ⊥
some_none x e = cc

-- where no text is open, none is open in head
pub no_text_in_head : (here : Bool) (text : HeadText) → is_in_text (inside_head here (Some text)) ≡ false → ⊥
no_text_in_head here text h = true_false (text_in_head here (Some text) ∙ h)
