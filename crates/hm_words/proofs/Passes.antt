-- Words that may be read are taken.
use Rattle.std.proofs.Common.{◌≡◌, ◌∙◌, ◌⊎◌, inl, inr, ◌&&◌, Bool, true, false, true≢false, refl, sym, ap, List, [], ◌∷◌, Option, Some, None}
use Rattle.std.specs.List.{list_all}
use Rattle.std.specs.Option.{is_some}
use Rattle.std.specs.Str.{bytes_eq}
use Rattle.clap.specs.Walk.{Row, Text, Walk, finished, has_row, walked}
use Rattle.clap.specs.Simple.{Shape, built, entered, is_simple}
use Rattle.clap.specs.Takes.{default_passes, entered_passes, is_valid, settle_passes, takes, turn_passes, walk_passes}
use Rattle.hm_base.proofs.Bytes.{both_true}
use Rattle.hm_elements.proofs.TableTools.{eq_self}
use Rattle.hm_words.specs.Words.{flags, has, is_flag, is_single, are_known, are_single}
use Rattle.hm_words.specs.Matches.{line}
use Rattle.hm_words.proofs.Rows.{row_at, has_row_is}
use Rattle.hm_words.proofs.Ends.{ends, known_first, known_rest, walk_ends, once, single_rest, single_among, no_dashed, other_name, name_alone, flag_alone, or_first, or_second}
use Rattle.hm_words.proofs.Parsed.{flag_apart}
use Rattle.hm_words.proofs.Walks.{rules, stands, with_name, with_flag, name_of, is_dashed, each_flag, flag_step, name_step, no_flag}

abbrev shape : Shape
shape = (built line).top

flag_turn : (rows : List Row) (p : Option Text) (w : Text) → has flags w ≡ true → has_row (name_of w) (with_name p rows) ≡ false → turn_passes shape [] (stands rows p) w ≡ true
flag_turn rows None = each_flag (λ w. has_row (name_of w) rows ≡ false → turn_passes shape [] (stands rows None) w ≡ true)
    (λ e. rw e refl) (λ e. rw e refl) (λ e. rw e refl) (λ e. rw e refl) (λ e. rw e refl) (λ e. rw e refl) (λ e. rw e refl) (λ e. rw e refl) (λ e. rw e refl) (λ e. rw e refl) (λ e. rw e refl) (λ e. rw e refl) (λ e. rw e refl)
flag_turn rows (Some v) = each_flag (λ w. has_row (name_of w) (with_name (Some v) rows) ≡ false → turn_passes shape [] (stands rows (Some v)) w ≡ true)
    (λ e. rw e refl) (λ e. rw e refl) (λ e. rw e refl) (λ e. rw e refl) (λ e. rw e refl) (λ e. rw e refl) (λ e. rw e refl) (λ e. rw e refl) (λ e. rw e refl) (λ e. rw e refl) (λ e. rw e refl) (λ e. rw e refl) (λ e. rw e refl)

name_turn : (rows : List Row) (p : Option Text) (v : Text) → is_flag v ≡ false → turn_passes shape [] (stands rows p) v ≡ true
name_turn rows None [] e = refl
name_turn rows (Some q) [] e = refl
name_turn rows None (x ∷ xs) e = let h = no_flag x xs e in rw (h.0, h.1, h.2) refl
name_turn rows (Some q) (x ∷ xs) e = let h = no_flag x xs e in rw (h.0, h.1, h.2) refl

-- a flag may still be read: it has no row and stands at most once, or it isn't there
abbrev IsFresh : List Text → List Row → Text → Type 0
IsFresh ws rows w = (row_at (name_of w) rows ≡ None) × (is_single ws w ≡ true) ⊎ (has ws w ≡ false)

abbrev AreFresh : List Text → List Row → Type 0
AreFresh ws rows = (w : Text) → has flags w ≡ true → IsFresh ws rows w

-- a flag that comes first has no row
first_fresh : (w : Text) (ws : List Text) (rows : List Row) → IsFresh (w ∷ ws) rows w → row_at (name_of w) rows ≡ None
first_fresh w ws rows (inl h) = h.0
first_fresh w ws rows (inr none) = absurd (true≢false (sym (eq_self w) ∙ or_first _ _ none))

fresh_after_name : (v : Text) (p : Option Text) (ws : List Text) (rows : List Row) → is_flag v ≡ false → AreFresh (v ∷ ws) rows → AreFresh ws (with_name p rows)
fresh_after_name v p ws rows e fresh w flag = by_case (fresh w flag)
  where
    by_case : IsFresh (v ∷ ws) rows w → IsFresh ws (with_name p rows) w
    by_case (inl h) = inl (name_alone p (name_of w) rows (flag_apart w flag) ∙ h.0, single_rest v w ws (ap (bytes_eq v) (is_dashed w flag) ∙ no_dashed v (name_of w) e) h.1)
    by_case (inr none) = inr (or_second _ _ none)

fresh_after_flag : (f : Text) (p : Option Text) (ws : List Text) (rows : List Row) → has flags f ≡ true → AreFresh (f ∷ ws) rows → AreFresh ws (with_flag (name_of f) (with_name p rows))
fresh_after_flag f p ws rows known fresh w flag = by_case (bytes_eq f w) refl (fresh w flag)
  where
    by_case : (b : Bool) → bytes_eq f w ≡ b → IsFresh (f ∷ ws) rows w → IsFresh ws (with_flag (name_of f) (with_name p rows)) w
    by_case true t (inl h) = inr (once f w ws t h.1)
    by_case false t (inl h) =
        let other : bytes_eq (name_of f) (name_of w) ≡ false = other_name f (name_of w) known (ap (bytes_eq f) (sym (is_dashed w flag)) ∙ t) in
        inl (flag_alone (name_of f) (name_of w) (with_name p rows) other ∙ name_alone p (name_of w) rows (flag_apart w flag) ∙ h.0, single_rest f w ws t h.1)
    by_case b t (inr none) = inr (or_second _ _ none)

walk_taken : (ws : List Text) (rows : List Row) (p : Option Text) → are_known flags ws ≡ true → AreFresh ws rows → walk_passes shape [] (stands rows p) ws ≡ true
unfolding walk_passes
walk_taken [] rows p known fresh = refl
walk_taken (w ∷ ws) rows p known fresh =
    by_test (is_flag w) refl (walk_taken ws (with_flag (name_of w) (with_name p rows)) None (known_rest w ws known)) (walk_taken ws (with_name p rows) (Some w) (known_rest w ws known))
  where
    by_test : (b : Bool) → is_flag w ≡ b
        → (AreFresh ws (with_flag (name_of w) (with_name p rows)) → walk_passes shape [] (stands (with_flag (name_of w) (with_name p rows)) None) ws ≡ true)
        → (AreFresh ws (with_name p rows) → walk_passes shape [] (stands (with_name p rows) (Some w)) ws ≡ true)
        → (turn_passes shape [] (stands rows p) w && walk_passes shape [] (walked rules [] (stands rows p) w) ws) ≡ true
    by_test true t flag name =
        let is_known = known_first w ws known t in
        let none : row_at (name_of w) (with_name p rows) ≡ None = name_alone p (name_of w) rows (flag_apart w is_known) ∙ first_fresh w ws rows (fresh w is_known) in
        both_true _ _ (flag_turn rows p w is_known (has_row_is (name_of w) (with_name p rows) ∙ ap is_some none))
        (ap (λ x. walk_passes shape [] x ws) (flag_step rows p w is_known) ∙ flag (fresh_after_flag w p ws rows is_known fresh))
    by_test false t flag name =
        both_true _ _ (name_turn rows p w t) (ap (λ x. walk_passes shape [] x ws) (name_step rows p w t) ∙ name (fresh_after_name w p ws rows t fresh))

settle_taken : (rows : List Row) (p : Option Text) → settle_passes rules false (stands rows p).held ≡ true
settle_taken rows None = refl
settle_taken rows (Some v) = refl

pub line_is_simple : is_simple line ≡ true
line_is_simple = refl

-- what is asked of the walk to its end
ends_well : List Text → Walk → Bool
ends_well ws end = entered_passes (built line) end.stopped && (walk_passes shape [] (stands [] None) ws && (settle_passes rules false end.held
    && (list_all default_passes rules && is_valid shape (finished rules end.held) (is_some (entered (built line) end.stopped)))))

-- words that may be read are taken: a parse fails for lack of memory alone
pub taken : (ws : List Text) → are_known flags ws ≡ true → are_single flags ws ≡ true → takes line ws ≡ true
unfolding ends_well
taken ws known single =
    ap (ends_well ws) (walk_ends ws [] None known)
    ∙ both_true _ _ (walk_taken ws [] None known (λ w flag. inl (refl, single_among ws flags w single flag))) (both_true _ _ (settle_taken (ends ws [] None).0 (ends ws [] None).1) refl)
