-- A name that isn't like those that a rule lists is none of them.
use Rattle.std.proofs.Common.{◌≡◌, ℕ, Bool, true, false, ◌&&◌, ◌||◌, List, [], ◌∷◌, bytes_eq, refl, Some, None}
use Rattle.std.specs.List.{list_all}
use Rattle.std.proofs.lemmas.Bool.{and_parts, false_from_ne_true, both_ways}
use Rattle.hm_base.specs.Walks.{Event, doctype, start, text, comment, end}
use Rattle.hm_elements.specs.Names.{is_among, PairRow, find, html, head, body, p, option, colgroup, tbody}
use Rattle.hm_elements.specs.Omission.{before_rows, end_tag_optional_before, up_names, end_tag_optional_in, start_rows, start_tag_optional_before, start_tag_required_after}
use Rattle.hm_elements.specs.Tables.{voids, is_void, sections, blocks, headings, is_section}
use Rattle.hm_elements.proofs.TableTools.{same_bytes, entry_passes}
use Rattle.hm_spelling_spec.specs.Omission.{begins_child_of, end_goes, start_falls, end_falls}
use Rattle.hm_graph_laws.specs.Units.{Previous, is_required_after_omission, is_omission_noted}
use Rattle.hm_event_parts.specs.Likely.{like_void, like_part, like_ended}

-- ---- A test that names of a list pass and another name doesn't

unlike : (test : List ℕ → Bool) (n m : List ℕ) → test n ≡ false → test m ≡ true → bytes_eq n m ≡ false
unlike test n m unlikely passes = false_from_ne_true (bytes_eq n m) (λ e. both_ways (test n) unlikely (rw (same_bytes n m e) passes))

unlike_all : (test : List ℕ → Bool) (n : List ℕ) (ms : List (List ℕ)) → test n ≡ false → list_all test ms ≡ true → is_among n ms ≡ false
unlike_all test n ms unlikely all = false_from_ne_true (is_among n ms) (λ e. both_ways (test n) unlikely (entry_passes test n ms all e))

abbrev heads_pass : (List ℕ → Bool) → List PairRow → Bool
heads_pass test [] = true
heads_pass test (r ∷ rs) = list_all test r.heads && heads_pass test rs

no_row : (test : List ℕ → Bool) (n : List ℕ) (rows : List PairRow) → test n ≡ false → heads_pass test rows ≡ true → find n rows ≡ None
no_row test n [] unlikely all = refl
no_row test n (r ∷ rs) unlikely all =
    let both : (list_all test r.heads ≡ true) × (heads_pass test rs ≡ true) = and_parts (list_all test r.heads) (heads_pass test rs) all in
    rw (unlike_all test n r.heads unlikely both.0) (no_row test n rs unlikely both.1)

-- ---- Void elements

pub no_void : (n : List ℕ) → like_void n ≡ false → is_void n ≡ false
unfolding is_void voids is_among
no_void n unlikely = unlike_all like_void n voids unlikely refl

-- ---- Start tags

no_child : (n : List ℕ) (w : List Event) → like_part n ≡ false → begins_child_of n w ≡ false
unfolding start_tag_optional_before start_rows is_among
no_child n [] unlikely = refl
no_child n (doctype legacy ∷ w) unlikely = refl
no_child n (start m true attributes ∷ w) unlikely = refl
no_child n (start m false attributes ∷ w) unlikely = rw (no_row like_part n start_rows unlikely refl) refl
no_child n (text s raw ∷ w) unlikely = refl
no_child n (comment s ∷ w) unlikely = refl
no_child n (end m foreign ∷ w) unlikely = refl

pub no_start : (frame : Bool) (n : List ℕ) (w : List Event) → like_part n ≡ false → start_falls frame n w ≡ false
unfolding start_falls
no_start frame n w unlikely = rw (unlike like_part n html unlikely refl, unlike like_part n head unlikely refl, unlike like_part n body unlikely refl) (no_child n w unlikely)

no_bar : (m n : List ℕ) → like_part n ≡ false → start_tag_required_after m n ≡ false
unfolding start_tag_required_after
no_bar m n unlikely = rw (unlike like_part n tbody unlikely refl, unlike like_part n colgroup unlikely refl) refl

pub none_required_after_omission : (previous : Previous) (n : List ℕ) → like_part n ≡ false → is_required_after_omission previous n ≡ false
none_required_after_omission None n unlikely = refl
none_required_after_omission (Some (doctype legacy)) n unlikely = refl
none_required_after_omission (Some (start m foreign attributes)) n unlikely = refl
none_required_after_omission (Some (text s raw)) n unlikely = refl
none_required_after_omission (Some (comment s)) n unlikely = refl
none_required_after_omission (Some (end m true)) n unlikely = refl
none_required_after_omission (Some (end m false)) n unlikely = no_bar m n unlikely

-- ---- End tags

no_before : (n m : List ℕ) → like_ended n ≡ false → end_tag_optional_before n m ≡ false
unfolding end_tag_optional_before before_rows is_among sections blocks headings
no_before n m unlikely = rw (unlike like_ended n colgroup unlikely refl, no_row like_ended n before_rows unlikely refl) refl

no_up : (n parent : List ℕ) → like_ended n ≡ false → end_tag_optional_in n parent ≡ false
unfolding end_tag_optional_in up_names is_among
no_up n parent unlikely = rw (unlike like_ended n p unlikely refl, unlike like_ended n option unlikely refl) (unlike_all like_ended n up_names unlikely refl)

no_goes : (n parent : List ℕ) (w : List Event) → like_ended n ≡ false → end_goes n parent w ≡ false
no_goes n parent [] unlikely = refl
no_goes n parent (doctype legacy ∷ w) unlikely = refl
no_goes n parent (start m true attributes ∷ w) unlikely = refl
no_goes n parent (start m false attributes ∷ w) unlikely = no_before n m unlikely
no_goes n parent (text s raw ∷ w) unlikely = refl
no_goes n parent (comment s ∷ w) unlikely = refl
no_goes n parent (end m foreign ∷ w) unlikely = no_up n parent unlikely

pub no_end : (n parent : List ℕ) (w : List Event) → like_ended n ≡ false → end_falls n parent w ≡ false
unfolding end_falls
no_end n parent w unlikely = rw (unlike like_ended n html unlikely refl, unlike like_ended n body unlikely refl, unlike like_ended n head unlikely refl) (no_goes n parent w unlikely)

pub no_loose : (n : List ℕ) → like_part n ≡ false → is_omission_noted n ≡ false
unfolding is_section sections is_among
no_loose n unlikely = rw (unlike_all like_part n sections unlikely refl, unlike like_part n colgroup unlikely refl) refl

-- ---- The parent, which the rules of p and option ask for alone

other_goes : (n one other : List ℕ) (w : List Event) → bytes_eq n p ≡ false → bytes_eq n option ≡ false → end_goes n one w ≡ end_goes n other w
unfolding end_tag_optional_in
other_goes n one other [] no_p no_option = refl
other_goes n one other (doctype legacy ∷ w) no_p no_option = refl
other_goes n one other (start m foreign attributes ∷ w) no_p no_option = refl
other_goes n one other (text s raw ∷ w) no_p no_option = refl
other_goes n one other (comment s ∷ w) no_p no_option = refl
other_goes n one other (end m foreign ∷ w) no_p no_option = rw (no_p, no_option) refl

neither : (a b : Bool) → a || b ≡ false → (a ≡ false) × (b ≡ false)
neither false false none = (refl, refl)
neither false true none = absurd (cc)
neither true b none = absurd (cc)

pub other_parent : (n one other : List ℕ) (w : List Event) → bytes_eq n p || bytes_eq n option ≡ false → end_falls n one w ≡ end_falls n other w
unfolding end_falls
other_parent n one other w none =
    let both = neither (bytes_eq n p) (bytes_eq n option) none in
    rw (other_goes n one other w both.0 both.1) refl
