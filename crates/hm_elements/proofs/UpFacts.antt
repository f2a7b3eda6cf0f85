-- What ends a parent ends the child that was left open in it.
use Rattle.std.proofs.Common.{◌≡◌, ℕ, Bool, true, false, cond, ◌||◌, ◌&&◌, not, List, bytes_eq, refl, codes, ◌⊎◌, inl, inr, Option, Some, None, if◌then◌else◌}
use Rattle.std.specs.List.{list_all}
use Rattle.std.specs.Option.{is_some}
use Rattle.std.proofs.lemmas.Bool.{and_parts, not-true, false_from_ne_true, both_ways}
use Rattle.hm_elements.specs.Names.{is_among, find, is_among_found, is_pair, body, p, option, table, tbody, tr, col, colgroup}
use Rattle.hm_elements.specs.Tables.{voids, rcdata_names, raw_names, headings, sections, parts, blocks, paragraph_ends, is_section, is_void, is_raw, is_rcdata, holds_text}
use Rattle.hm_elements.specs.Nesting.{children, noscript_children, own_parents, bound_names, may_stand, closed_by_start_rows, is_closed_by_start, end_rows, is_ended_by}
use Rattle.hm_elements.specs.Omission.{before_rows, end_tag_optional_before, up_names, up_of_p, end_tag_optional_in, start_tag_optional_before, start_tag_required_after}
use Rattle.hm_elements.proofs.TableTools.{same_bytes, entry_passes, each_pair, pair_passes, HoldsInTables, stands_passes, no_row}
use Rattle.hm_elements.proofs.TableFacts.{stands_parent, stands_beside_colgroup, start_cases, holds_more, holds_more_means}
use Rattle.hm_elements.specs.Laws.{Follows, HoldsMore}

abbrev all_found : (List ℕ → Bool) → Option (List (List ℕ)) → Bool
all_found test None = true
all_found test (Some ms) = list_all test ms

-- what ends the parent t ends c too; a p holds no such c, and body none but p
abbrev follows : List ℕ → List ℕ → Bool
follows c t = not (bytes_eq t p) && (not (bytes_eq t colgroup) && ((if bytes_eq t body then bytes_eq c p else is_ended_by c t) && (all_found (is_closed_by_start c) (find t closed_by_start_rows) && all_found (is_ended_by c) (find t end_rows))))

abbrev up_follows : List ℕ → List ℕ → Bool
up_follows c t = if end_tag_optional_in c t then follows c t else true

up_of_p_follow : list_all (follows p) up_of_p ≡ true
unfolding up_of_p blocks headings sections parts paragraph_ends is_closed_by_start closed_by_start_rows is_ended_by end_rows is_among
up_of_p_follow = refl

-- names that go up, but p and option, stand nowhere by themselves
up_are_bound : list_all (λ c. is_among c bound_names || is_some (find c own_parents)) up_names ≡ true
unfolding up_names bound_names parts own_parents is_among
up_are_bound = refl

option_row : is_some (find option own_parents) ≡ true
unfolding own_parents is_among
option_row = refl

up_ordinary : (n t : List ℕ) → find t children ≡ None → find n own_parents ≡ None → is_among n bound_names ≡ false → up_follows n t ≡ true
unfolding end_tag_optional_in
up_ordinary n t alone none not_in = by_p (bytes_eq n p) refl
  where
    not_up : is_among n up_names ≡ false
    not_up = false_from_ne_true (is_among n up_names) (λ e. let k : is_among n bound_names || is_some (find n own_parents) ≡ true = entry_passes (λ c. is_among c bound_names || is_some (find c own_parents)) n up_names up_are_bound e in let l : is_among n bound_names || is_some (find n own_parents) ≡ false = rw (not_in, none) refl in both_ways (is_among n bound_names || is_some (find n own_parents)) l k)

    of_p : (b : Bool) → is_among t up_of_p ≡ b → cond b (follows p t) true ≡ true
    of_p true e = entry_passes (follows p) t up_of_p up_of_p_follow e
    of_p false e = refl

    by_p : (b : Bool) → bytes_eq n p ≡ b → (if (if b then is_among t up_of_p else if bytes_eq n option then not (bytes_eq t (codes "datalist")) else is_among n up_names) then follows n t else true) ≡ true
    by_p true e = rw (same_bytes n p e) (of_p (is_among t up_of_p) refl)
    by_p false e = rw (no_row n option own_parents none option_row, not_up) refl

up_follows_hold : HoldsInTables up_follows
unfolding children noscript_children own_parents end_tag_optional_in up_of_p up_names is_closed_by_start closed_by_start_rows is_ended_by end_rows blocks headings sections parts paragraph_ends rcdata_names raw_names voids is_among
up_follows_hold = record {
  children_pass = refl;
  noscript_passes = refl;
  own_parents_pass = refl;
  div_passes = refl;
  ordinary_passes = up_ordinary;
}

stands_follows : (n t : List ℕ) (g : Option (List ℕ)) → may_stand n t g ≡ true → end_tag_optional_in n t ≡ true → follows n t ≡ true
stands_follows n t g h up = let k : up_follows n t ≡ true = stands_passes up_follows up_follows_hold n t g h in rw up at k

found_passes : (test : List ℕ → Bool) (o : Option (List (List ℕ))) (k : List ℕ) → all_found test o ≡ true → is_among_found k o ≡ true → test k ≡ true
found_passes test None k all h = cc
found_passes test (Some ms) k all h = entry_passes test k ms all h

follows_means : (c t : List ℕ) → bytes_eq t body ≡ false → follows c t ≡ true → Follows c t
unfolding is_closed_by_start is_ended_by
follows_means c t other h =
    let one = and_parts (not (bytes_eq t p)) _ h in
    let two = and_parts (not (bytes_eq t colgroup)) _ one.1 in
    let three = and_parts (if bytes_eq t body then bytes_eq c p else is_ended_by c t) _ two.1 in
    let four = and_parts (all_found (is_closed_by_start c) (find t closed_by_start_rows)) _ three.1 in
    let is_other : bytes_eq t colgroup ≡ false = not-true (bytes_eq t colgroup) two.0 in
    record {
      not_in_p = not-true (bytes_eq t p) one.0;
      ends_there = rw other at three.0;
      yields_on = λ k e. found_passes (is_closed_by_start c) (find t closed_by_start_rows) k four.0 (rw is_other at e);
      ends_on = λ k e. found_passes (is_ended_by c) (find t end_rows) k four.1 e;
    }

pub up_means : (c t : List ℕ) (g : Option (List ℕ)) → may_stand c t g ≡ true → end_tag_optional_in c t ≡ true → bytes_eq t body ≡ false → Follows c t
up_means c t g h up other = follows_means c t other (stands_follows c t g h up)

-- only a p may be left open at the end of the body
pub up_in_body : (c : List ℕ) (g : Option (List ℕ)) → may_stand c body g ≡ true → end_tag_optional_in c body ≡ true → c ≡ p
up_in_body c g h up =
    let one = and_parts (not (bytes_eq body p)) _ (stands_follows c body g h up) in
    let two = and_parts (not (bytes_eq body colgroup)) _ one.1 in
    let three = and_parts (bytes_eq c p) _ two.1 in
    same_bytes c p three.0

before_yields : each_pair is_closed_by_start before_rows ≡ true
unfolding before_rows blocks headings sections parts paragraph_ends is_closed_by_start closed_by_start_rows is_among
before_yields = refl

before_tbody : each_pair (λ c k. not (bytes_eq k tbody) || (is_section c || is_closed_by_start c tr)) before_rows ≡ true
unfolding before_rows blocks headings sections parts paragraph_ends is_closed_by_start closed_by_start_rows is_section is_among
before_tbody = refl

before_colgroup : each_pair (λ c k. not (bytes_eq k colgroup) || is_closed_by_start c col) before_rows ≡ true
unfolding before_rows blocks headings sections parts paragraph_ends is_closed_by_start closed_by_start_rows is_among
before_colgroup = refl

colgroup_in_table : (c t : List ℕ) (g : Option (List ℕ)) → may_stand c t g ≡ true → c ≡ colgroup → t ≡ table
unfolding is_among
colgroup_in_table c t g h e = (stands_parent c t g h).in_table (rw e refl)

-- what goes before a start tag yields to it, where both may stand in one parent
pub goes_yields : (c k t : List ℕ) (g : Option (List ℕ)) → may_stand c t g ≡ true → may_stand k t g ≡ true → end_tag_optional_before c k ≡ true → is_closed_by_start c k ≡ true
unfolding end_tag_optional_before is_closed_by_start
goes_yields c k t g hc hk goes = by_colgroup (bytes_eq c colgroup) refl goes
  where
    in_table : bytes_eq c colgroup ≡ true → t ≡ table
    in_table e = colgroup_in_table c t g hc (same_bytes c colgroup e)

    no_col : bytes_eq c colgroup ≡ true → bytes_eq k col ≡ false
    no_col e = stands_beside_colgroup k g (rw (in_table e) at hk)

    by_colgroup : (b : Bool) → bytes_eq c colgroup ≡ b → (if b then true else is_pair before_rows c k) ≡ true → (if b then not (bytes_eq k col) else is_pair closed_by_start_rows c k) ≡ true
    by_colgroup true e h = rw (no_col e) refl
    by_colgroup false e h = let y : is_closed_by_start c k ≡ true = pair_passes is_closed_by_start c k before_rows before_yields h in rw e at y

second_clause : (a b c d : Bool) → (a && b) || (c && d) ≡ false → (a ≡ true → b ≡ false) × (c ≡ true → d ≡ false)
second_clause false b false d h = (λ e. cc, λ e. cc)
second_clause false b true true h = cc
second_clause false b true false h = (λ e. cc, λ e. refl)
second_clause true true c d h = cc
second_clause true false false d h = (λ e. refl, λ e. cc)
second_clause true false true true h = cc
second_clause true false true false h = (λ e. refl, λ e. refl)

yields_tr : (c : List ℕ) → end_tag_optional_before c tbody ≡ true → is_section c ≡ false → is_closed_by_start c tr ≡ true
unfolding end_tag_optional_before is_closed_by_start
yields_tr c goes other = by_colgroup (bytes_eq c colgroup) refl goes
  where
    by_colgroup : (b : Bool) → bytes_eq c colgroup ≡ b → (if b then true else is_pair before_rows c tbody) ≡ true → (if b then not (bytes_eq tr col) else is_pair closed_by_start_rows c tr) ≡ true
    by_colgroup true e h = refl
    by_colgroup false e h =
        let y : is_section c || is_closed_by_start c tr ≡ true = pair_passes (λ c' k. not (bytes_eq k tbody) || (is_section c' || is_closed_by_start c' tr)) c tbody before_rows before_tbody h in
        let z : is_closed_by_start c tr ≡ true = rw other at y in
        rw e at z

yields_col : (c : List ℕ) → end_tag_optional_before c colgroup ≡ true → bytes_eq c colgroup ≡ false → is_closed_by_start c col ≡ true
unfolding end_tag_optional_before
yields_col c goes other = let h : is_pair before_rows c colgroup ≡ true = rw other at goes in pair_passes (λ c' k. not (bytes_eq k colgroup) || is_closed_by_start c' col) c colgroup before_rows before_colgroup h

-- an omitted start tag after an omitted end tag: what goes before the element yields to its first child too
pub goes_yields_inside : (c n k : List ℕ) → end_tag_optional_before c n ≡ true → start_tag_required_after c n ≡ false → start_tag_optional_before n k ≡ true → is_closed_by_start c k ≡ true
unfolding start_tag_required_after
goes_yields_inside c n k goes free before =
    let clauses = second_clause (bytes_eq n tbody) (is_section c) (bytes_eq n colgroup) (bytes_eq c colgroup) free in
    elim (start_cases n k before) [
      | inl (d, e) ↦ rw e (yields_col c (rw d at goes) (clauses.1 (rw d refl)))
      | inr (d, e) ↦ rw e (yields_tr c (rw d at goes) (clauses.0 (rw d refl)))
    ]

-- an element whose end tag may be left out holds no text of its own, and isn't void
before_holds : each_pair (λ c k. holds_more c) before_rows ≡ true
unfolding before_rows blocks headings sections holds_text is_raw raw_names is_rcdata rcdata_names is_void voids is_among
before_holds = refl

up_holds : list_all holds_more up_names ≡ true
unfolding up_names holds_text is_raw raw_names is_rcdata rcdata_names is_void voids is_among
up_holds = refl

three_hold : (holds_more p ≡ true) × (holds_more option ≡ true) × (holds_more colgroup ≡ true)
unfolding holds_text is_raw raw_names is_rcdata rcdata_names is_void voids is_among
three_hold = (refl, refl, refl)

before_holds_more : (c k : List ℕ) → end_tag_optional_before c k ≡ true → holds_more c ≡ true
unfolding end_tag_optional_before
before_holds_more c k h = by_colgroup (bytes_eq c colgroup) refl h
  where
    by_colgroup : (b : Bool) → bytes_eq c colgroup ≡ b → (if b then true else is_pair before_rows c k) ≡ true → holds_more c ≡ true
    by_colgroup true e h = rw (same_bytes c colgroup e) three_hold.2
    by_colgroup false e h = pair_passes (λ c' k'. holds_more c') c k before_rows before_holds h

pub end_tag_optional_before_holds_more : (c k : List ℕ) → end_tag_optional_before c k ≡ true → HoldsMore c
end_tag_optional_before_holds_more c k h = holds_more_means c (before_holds_more c k h)

up_holds_more : (c t : List ℕ) → end_tag_optional_in c t ≡ true → holds_more c ≡ true
unfolding end_tag_optional_in
up_holds_more c t h = by_p (bytes_eq c p) refl h
  where
    by_option : (b : Bool) → bytes_eq c option ≡ b → (if b then not (bytes_eq t (codes "datalist")) else is_among c up_names) ≡ true → holds_more c ≡ true
    by_option true e h = rw (same_bytes c option e) three_hold.1
    by_option false e h = entry_passes holds_more c up_names up_holds h

    by_p : (b : Bool) → bytes_eq c p ≡ b → (if b then is_among t up_of_p else if bytes_eq c option then not (bytes_eq t (codes "datalist")) else is_among c up_names) ≡ true → holds_more c ≡ true
    by_p true e h = rw (same_bytes c p e) three_hold.0
    by_p false e h = by_option (bytes_eq c option) refl h

pub end_tag_optional_in_holds_more : (c t : List ℕ) → end_tag_optional_in c t ≡ true → HoldsMore c
end_tag_optional_in_holds_more c t h = holds_more_means c (up_holds_more c t h)

pub left_open_holds : (c k : List ℕ) → (end_tag_optional_before c k ≡ true) ⊎ (end_tag_optional_in c k ≡ true) → HoldsMore c
left_open_holds c k (inl h) = end_tag_optional_before_holds_more c k h
left_open_holds c k (inr h) = end_tag_optional_in_holds_more c k h
