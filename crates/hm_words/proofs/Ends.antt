-- The rows at the end of the walk.
use Rattle.std.proofs.Common.{◌≡◌, ◌∙◌, ◌++◌, ◌||◌, ◌+◌, not, Bool, cond, true, false, true≢false, refl, sym, ap, subst, List, [], ◌∷◌, Option, Some, None, codes, arith, append-nil, append_assoc, leb-true, le-leb}
use Rattle.std.proofs.lemmas.List.Sums.{sum_by-cons}
use Rattle.std.specs.List.{fold, list_any, count_by}
use Rattle.std.specs.Str.{bytes_eq}
use Rattle.clap.specs.Walk.{Row, Text, walked, with_values, without}
use Rattle.clap.specs.declared.builder.value_parser.Reading.TheVariants.{AsWritten}
use Rattle.clap.specs.declared.parser.matches.ValueSource.TheVariants.{CommandLine}
use Rattle.hm_base.proofs.Bytes.{first_true, second_true}
use Rattle.hm_elements.proofs.TableTools.{same_bytes}
use Rattle.hm_words.specs.Words.{dashed, flags, has, is_flag, is_single, are_known, are_single, names_in}
use Rattle.hm_words.proofs.Rows.{row_at, values_at, values_in, new_row, row_is_new, other_row, other_left, none_left, values_join}
use Rattle.hm_words.proofs.Walks.{rules, stands, with_name, with_flag, name_of, is_dashed, each_flag, flag_step, name_step}

-- where the walk over these words stands at its end
abbrev pub ends : List Text → List Row → Option Text → List Row × Option Text
ends [] rows p = (rows, p)
ends (w ∷ ws) rows p = cond (is_flag w) (ends ws (with_flag (name_of w) (with_name p rows)) None) (ends ws (with_name p rows) (Some w))

abbrev pub end_rows : List Text → List Row → Option Text → List Row
end_rows ws rows p = with_name (ends ws rows p).1 (ends ws rows p).0

-- a known flag is first, or a word that is no flag
pub known_first : (w : Text) (ws : List Text) → are_known flags (w ∷ ws) ≡ true → is_flag w ≡ true → has flags w ≡ true
known_first w ws known e = let h : (not (is_flag w) || has flags w) ≡ true = first_true _ _ known in rw e at h

pub known_rest : (w : Text) (ws : List Text) → are_known flags (w ∷ ws) ≡ true → are_known flags ws ≡ true
known_rest w ws known = second_true _ _ known

pub walk_ends : (ws : List Text) (rows : List Row) (p : Option Text) → are_known flags ws ≡ true → fold (walked rules []) (stands rows p) ws ≡ stands (ends ws rows p).0 (ends ws rows p).1
walk_ends [] rows p known = refl
walk_ends (w ∷ ws) rows p known = by_test (is_flag w) refl
    (walk_ends ws (with_flag (name_of w) (with_name p rows)) None (known_rest w ws known)) (walk_ends ws (with_name p rows) (Some w) (known_rest w ws known))
  where
    by_test : (b : Bool) → is_flag w ≡ b
        → fold (walked rules []) (stands (with_flag (name_of w) (with_name p rows)) None) ws ≡ stands (ends ws (with_flag (name_of w) (with_name p rows)) None).0 (ends ws (with_flag (name_of w) (with_name p rows)) None).1
        → fold (walked rules []) (stands (with_name p rows) (Some w)) ws ≡ stands (ends ws (with_name p rows) (Some w)).0 (ends ws (with_name p rows) (Some w)).1
        → fold (walked rules []) (stands rows p) (w ∷ ws) ≡ stands (ends (w ∷ ws) rows p).0 (ends (w ∷ ws) rows p).1
    by_test true t flag name = rw t (ap (λ x. fold (walked rules []) x ws) (flag_step rows p w (known_first w ws known t)) ∙ flag)
    by_test false t flag name = rw t (ap (λ x. fold (walked rules []) x ws) (name_step rows p w t) ∙ name)

-- ---- words and flags

counted : (p : Text → Bool) (w : Text) (ws : List Text) (b : Bool) → p w ≡ b → count_by p (w ∷ ws) ≡ cond b 1 0 + count_by p ws
counted p w ws b e = sum_by-cons (λ y. cond (p y) 1 0) w ws ∙ ap (λ x. cond x 1 0 + count_by p ws) e

none_counted : (p : Text → Bool) (ws : List Text) → count_by p ws ≡ 0 → list_any p ws ≡ false
none_counted p [] e = refl
none_counted p (w ∷ ws) e = by_test (p w) refl (none_counted p ws)
  where
    by_test : (b : Bool) → p w ≡ b → (count_by p ws ≡ 0 → list_any p ws ≡ false) → (p w || list_any p ws) ≡ false
    by_test true t more = let h = counted p w ws true t in absurd (omega arith)
    by_test false t more = let h = counted p w ws false t in rw t (more (omega arith))

-- a word stands once: after it there is no other
pub once : (w x : Text) (ws : List Text) → bytes_eq w x ≡ true → is_single (w ∷ ws) x ≡ true → has ws x ≡ false
once w x ws same single =
    let h = counted (λ y. bytes_eq y x) w ws true same in
    let le = leb-true (count_by (λ y. bytes_eq y x) (w ∷ ws)) 1 single in
    none_counted (λ y. bytes_eq y x) ws (omega arith)

pub single_rest : (w x : Text) (ws : List Text) → bytes_eq w x ≡ false → is_single (w ∷ ws) x ≡ true → is_single ws x ≡ true
single_rest w x ws other single =
    let h = counted (λ y. bytes_eq y x) w ws false other in
    let le = leb-true (count_by (λ y. bytes_eq y x) (w ∷ ws)) 1 single in
    le-leb (count_by (λ y. bytes_eq y x) ws) 1 (omega arith)

-- where each of these words stands at most once, so does one of them
pub single_among : (ws known : List Text) (w : Text) → are_single known ws ≡ true → has known w ≡ true → is_single ws w ≡ true
single_among ws [] w single e = absurd (true≢false (sym e))
single_among ws (k ∷ ks) w single e = by_test (bytes_eq k w) refl (single_among ws ks w (second_true _ _ single))
  where
    by_test : (b : Bool) → bytes_eq k w ≡ b → (has ks w ≡ true → is_single ws w ≡ true) → is_single ws w ≡ true
    by_test true t more = subst (λ x. is_single ws x ≡ true) (same_bytes k w t) (first_true _ _ single)
    by_test false t more = more (rw t at e)

-- a word that is no flag is none of them
pub no_dashed : (w name : Text) → is_flag w ≡ false → bytes_eq w (dashed name) ≡ false
no_dashed [] name e = refl
no_dashed (x ∷ xs) name e = rw e refl

-- a flag that isn't this one has another name
pub other_name : (w name : Text) → has flags w ≡ true → bytes_eq w (dashed name) ≡ false → bytes_eq (name_of w) name ≡ false
other_name w name known e = ap (λ x. bytes_eq x (dashed name)) (sym (is_dashed w known)) ∙ e

pub same_name : (w name : Text) → bytes_eq w (dashed name) ≡ true → name_of w ≡ name
same_name w name e = ap name_of (same_bytes w (dashed name) e)

-- ---- what the rows have

pub name_alone : (p : Option Text) (name : Text) (rows : List Row) → bytes_eq (codes "names") name ≡ false → row_at name (with_name p rows) ≡ row_at name rows
name_alone None name rows e = refl
name_alone (Some v) name rows e = other_row name (codes "names") AsWritten CommandLine (v ∷ []) rows e

pub flag_alone : (other name : Text) (rows : List Row) → bytes_eq other name ≡ false → row_at name (with_flag other rows) ≡ row_at name rows
flag_alone other name rows e = other_row name other AsWritten CommandLine (codes "true" ∷ []) (without other rows) e ∙ other_left name other rows e

pub flag_added : (name : Text) (rows : List Row) → row_at name rows ≡ None → row_at name (with_flag name rows) ≡ Some (new_row name AsWritten CommandLine (codes "true" ∷ []))
flag_added name rows e = ap (λ x. row_at name (with_values name AsWritten CommandLine (codes "true" ∷ []) x)) (none_left name rows e) ∙ row_is_new name AsWritten CommandLine (codes "true" ∷ []) rows e

-- no flag has the name of the names
pub no_names : (w : Text) → has flags w ≡ true → bytes_eq (name_of w) (codes "names") ≡ false
no_names = each_flag (λ w. bytes_eq (name_of w) (codes "names") ≡ false) refl refl refl refl refl refl refl refl refl refl refl refl refl

pub or_first : (a b : Bool) → a || b ≡ false → a ≡ false
or_first true b e = absurd (true≢false e)
or_first false b e = refl

pub or_second : (a b : Bool) → a || b ≡ false → b ≡ false
or_second true b e = absurd (true≢false e)
or_second false b e = e

-- a flag that isn't among the words gets no row
pub row_stays : (name : Text) (ws : List Text) (rows : List Row) (p : Option Text) → bytes_eq (codes "names") name ≡ false → are_known flags ws ≡ true → has ws (dashed name) ≡ false
    → row_at name (end_rows ws rows p) ≡ row_at name rows
row_stays name [] rows p apart known none = name_alone p name rows apart
row_stays name (w ∷ ws) rows p apart known none =
    let none_here = or_first _ _ none in
    let none_later = or_second _ _ none in
    let known_later = known_rest w ws known in
    by_test (is_flag w) refl none_here (row_stays name ws (with_flag (name_of w) (with_name p rows)) None apart known_later none_later)
    (row_stays name ws (with_name p rows) (Some w) apart known_later none_later)
  where
    by_test : (b : Bool) → is_flag w ≡ b → bytes_eq w (dashed name) ≡ false
        → row_at name (end_rows ws (with_flag (name_of w) (with_name p rows)) None) ≡ row_at name (with_flag (name_of w) (with_name p rows))
        → row_at name (end_rows ws (with_name p rows) (Some w)) ≡ row_at name (with_name p rows)
        → row_at name (end_rows (w ∷ ws) rows p) ≡ row_at name rows
    by_test true t miss flag plain = rw t (flag ∙ flag_alone (name_of w) name (with_name p rows) (other_name w name (known_first w ws known t) miss) ∙ name_alone p name rows apart)
    by_test false t miss flag plain = rw t (plain ∙ name_alone p name rows apart)

abbrev pub flag_row : Text → Row
flag_row name = new_row name AsWritten CommandLine (codes "true" ∷ [])

-- a flag that stands at most once has its row exactly where it is among the words
pub row_ends : (name : Text) (ws : List Text) (rows : List Row) (p : Option Text) → bytes_eq (codes "names") name ≡ false → are_known flags ws ≡ true → is_single ws (dashed name) ≡ true
    → row_at name rows ≡ None → row_at name (end_rows ws rows p) ≡ cond (has ws (dashed name)) (Some (flag_row name)) None
row_ends name [] rows p apart known single none = name_alone p name rows apart ∙ none
row_ends name (w ∷ ws) rows p apart known single none =
    by_test (is_flag w) (bytes_eq w (dashed name)) refl refl (row_ends name ws (with_flag (name_of w) (with_name p rows)) None apart (known_rest w ws known))
    (row_ends name ws (with_name p rows) (Some w) apart (known_rest w ws known))
  where
    named_none : row_at name (with_name p rows) ≡ None
    named_none = name_alone p name rows apart ∙ none

    by_test : (b same : Bool) → is_flag w ≡ b → bytes_eq w (dashed name) ≡ same
        → (is_single ws (dashed name) ≡ true → row_at name (with_flag (name_of w) (with_name p rows)) ≡ None → row_at name (end_rows ws (with_flag (name_of w) (with_name p rows)) None) ≡ cond (has ws (dashed name)) (Some (flag_row name)) None)
        → (is_single ws (dashed name) ≡ true → row_at name (with_name p rows) ≡ None → row_at name (end_rows ws (with_name p rows) (Some w)) ≡ cond (has ws (dashed name)) (Some (flag_row name)) None)
        → row_at name (end_rows (w ∷ ws) rows p) ≡ cond (has (w ∷ ws) (dashed name)) (Some (flag_row name)) None
    by_test true true t s flag plain =
        let gone : has ws (dashed name) ≡ false = once w (dashed name) ws s single in
        rw (t, s) (row_stays name ws (with_flag (name_of w) (with_name p rows)) None apart (known_rest w ws known) gone
        ∙ ap (λ x. row_at name (with_flag x (with_name p rows))) (same_name w name s) ∙ flag_added name (with_name p rows) named_none)
    by_test true false t s flag plain =
        rw (t, s) (flag (single_rest w (dashed name) ws s single) (flag_alone (name_of w) name (with_name p rows) (other_name w name (known_first w ws known t) s) ∙ named_none))
    by_test false true t s flag plain = absurd (true≢false (sym s ∙ no_dashed w name t))
    by_test false false t s flag plain = rw (t, s) (plain (single_rest w (dashed name) ws s single) named_none)

-- the names are the words that are no flags, after those that were there
pub names_end : (ws : List Text) (rows : List Row) (p : Option Text) → are_known flags ws ≡ true → values_at (codes "names") (end_rows ws rows p) ≡ values_at (codes "names") (with_name p rows) ++ names_in ws
names_end [] rows p known = sym (append-nil _)
names_end (w ∷ ws) rows p known =
    by_test (is_flag w) refl (names_end ws (with_flag (name_of w) (with_name p rows)) None (known_rest w ws known)) (names_end ws (with_name p rows) (Some w) (known_rest w ws known))
  where
    by_test : (b : Bool) → is_flag w ≡ b
        → values_at (codes "names") (end_rows ws (with_flag (name_of w) (with_name p rows)) None) ≡ values_at (codes "names") (with_flag (name_of w) (with_name p rows)) ++ names_in ws
        → values_at (codes "names") (end_rows ws (with_name p rows) (Some w)) ≡ values_at (codes "names") (with_name (Some w) (with_name p rows)) ++ names_in ws
        → values_at (codes "names") (end_rows (w ∷ ws) rows p) ≡ values_at (codes "names") (with_name p rows) ++ names_in (w ∷ ws)
    by_test true t flag plain =
        rw t (flag ∙ ap (λ r. values_in r ++ names_in ws) (flag_alone (name_of w) (codes "names") (with_name p rows) (no_names w (known_first w ws known t))))
    by_test false t flag plain =
        rw t (plain ∙ ap (λ x. x ++ names_in ws) (values_join (codes "names") AsWritten CommandLine (w ∷ []) (with_name p rows)) ∙ append_assoc (values_at (codes "names") (with_name p rows)) (w ∷ []) (names_in ws))
