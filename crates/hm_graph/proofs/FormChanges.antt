-- Which forms of a value serve in place of which, by what the value needs.
use Rattle.std.proofs.Common.{◌≡◌, ◌∙◌, ℕ, ◌+◌, Bool, true, false, not, ◌&&◌, ◌||◌, ◌==◌, List, [], ◌∷◌, Option, Some, None, IfSome, refl, sym, ap, ap₂, subst, arith}
use Rattle.std.specs.List.{list_any, list_all}
use Rattle.hm_base.specs.Bytes.{is_space}
use Rattle.hm_edges.specs.Units.{need_by, need_for, needs_of, needs_quotes, some_costly}
use Rattle.hm_edges.specs.declared.units.Needs.{Needs}
use Rattle.hm_graph.specs.Forms.{AreNeeds, IsChange, IsFew, IsFormChange, by_change, change, change_where, form_change, takes_place}
use Rattle.hm_graph.specs.declared.forms.Change.{Change}
use Rattle.hm_graph_laws.specs.Edges.{edge_length}
use Rattle.hm_graph.specs.EntityFacts.{is_absent, is_costly_need}
use Rattle.hm_graph_laws.specs.States.{State, Where, outside, after_omitted_end, self_closed, after_name, after_unquoted, after_quoted, in_unquoted, in_double, in_single, in_section, same_where}
use Rattle.hm_graph_laws.specs.Units.{Unit, fixed, start_tag, tag_name, bare_attribute, attribute_name, character, attribute_end, tag_close, end_tag, next_of}
use Rattle.hm_graph_laws.specs.Forms.{added, covers, gains, gains_after, is_costly, saved, stands}
use Rattle.hm_optimality_laws.specs.Dominated.{is_form, is_nothing}
use Rattle.hm_refs.proofs.Bools.{eq_of}
use Rattle.hm_refs.specs.Names.{Entry}
use Rattle.hm_spelling_spec.specs.Characters.{is_barred}

-- ---- Tests of the characters of a value

-- a form covers another where no character stands in the other alone
pub covers_by : (form other : Where) (kind : ℕ → Bool) → ((c : ℕ) → stands other c && not (stands form c) ≡ kind c) → (v : List ℕ) → covers form other v ≡ not (list_any kind v)
covers_by form other kind same [] = refl
covers_by form other kind same (c ∷ v) = by (stands form c) (stands other c) (kind c) (list_any kind v) (same c) (covers_by form other kind same v)
  where
    by : (a b k more : Bool) → b && not a ≡ k → list_all (λ d. stands form d || not (stands other d)) v ≡ not more → (a || not b) && list_all (λ d. stands form d || not (stands other d)) v ≡ not (k || more)
    by true true k more is h = rw (sym is, h) refl
    by true false k more is h = rw (sym is, h) refl
    by false true k more is h = rw (sym is) refl
    by false false k more is h = rw (sym is, h) refl

-- what gains is dear among the characters that stand in the form alone
pub gains_by : (t : List Entry) (form other : Where) (kind : ℕ → Bool) → ((c : ℕ) → stands form c && not (stands other c) ≡ kind c) → (previous : Option ℕ) (v : List ℕ)
    → gains_after t form other previous v ≡ some_costly t kind previous v
gains_by t form other kind same previous [] = refl
gains_by t form other kind same previous (c ∷ v) = ap₂ (λ x y. x || y) (by (stands form c) (stands other c) (kind c) (is_costly t previous c (next_of v)) (same c)) (gains_by t form other kind same (Some c) v)
  where
    by : (a b k d : Bool) → a && not b ≡ k → a && (not b && d) ≡ k && d
    by true true k d is = rw (sym is) refl
    by true false k d is = rw (sym is) refl
    by false true k d is = rw (sym is) refl
    by false false k d is = rw (sym is) refl

pub any_either : (one two : ℕ → Bool) (v : List ℕ) → list_any (λ c. one c || two c) v ≡ (list_any one v || list_any two v)
any_either one two [] = refl
any_either one two (c ∷ v) = rw (any_either one two v) (by (one c) (two c) (list_any one v) (list_any two v))
  where
    by : (a b x y : Bool) → (a || b) || (x || y) ≡ (a || x) || (b || y)
    by true b x y = refl
    by false true true y = refl
    by false true false y = refl
    by false false x y = refl

pub costly_either : (t : List Entry) (one two : ℕ → Bool) (previous : Option ℕ) (v : List ℕ) → some_costly t (λ c. one c || two c) previous v ≡ (some_costly t one previous v || some_costly t two previous v)
costly_either t one two previous [] = refl
costly_either t one two previous (c ∷ v) = rw (costly_either t one two (Some c) v) (by (one c) (two c) (is_costly t previous c (next_of v)) (some_costly t one (Some c) v) (some_costly t two (Some c) v))
  where
    by : (a b d x y : Bool) → ((a || b) && d) || (x || y) ≡ ((a && d) || x) || ((b && d) || y)
    by true true true x y = refl
    by true true false x y = refl
    by true false true x y = refl
    by true false false x y = refl
    by false true true true y = refl
    by false true true false y = refl
    by false true false x y = refl
    by false false d x y = refl

-- where one is dear, there is one
costly_there : (t : List Entry) (kind : ℕ → Bool) (previous : Option ℕ) (v : List ℕ) → some_costly t kind previous v ≡ true → list_any kind v ≡ true
costly_there t kind previous [] h = absurd (cc)
costly_there t kind previous (c ∷ v) h = by (kind c) (is_costly t previous c (next_of v)) (some_costly t kind (Some c) v) h (costly_there t kind (Some c) v)
  where
    by : (a d x : Bool) → (a && d) || x ≡ true → (x ≡ true → list_any kind v ≡ true) → a || list_any kind v ≡ true
    by true d x e more = refl
    by false d x e more = more e

-- ---- What a need says

absent_is : (has costly : Bool) → (costly ≡ true → has ≡ true) → is_absent (need_by has costly) ≡ not has
absent_is true true h = refl
absent_is true false h = refl
absent_is false true h = absurd (let k = h refl in cc)
absent_is false false h = refl

pub absent_tells : (t : List Entry) (kind : ℕ → Bool) (v : List ℕ) → is_absent (need_for t kind v) ≡ not (list_any kind v)
absent_tells t kind v = absent_is (list_any kind v) (some_costly t kind None v) (costly_there t kind None v)

costly_is : (has costly : Bool) → is_costly_need (need_by has costly) ≡ costly
costly_is true true = refl
costly_is true false = refl
costly_is false true = refl
costly_is false false = refl

pub costly_tells : (t : List Entry) (kind : ℕ → Bool) (v : List ℕ) → is_costly_need (need_for t kind v) ≡ some_costly t kind None v
costly_tells t kind v = costly_is (list_any kind v) (some_costly t kind None v)

-- ---- Characters that stand in one form alone

abbrev pub is_double : ℕ → Bool
is_double c = c == 34

abbrev pub is_single : ℕ → Bool
is_single c = c == 39

-- a test at c, by whether c is each of the three characters that the forms set apart
by_marks : (P : ℕ → Type 0) → P 13 → P 34 → P 39 → ((c : ℕ) → (c == 13) ≡ false → (c == 34) ≡ false → (c == 39) ≡ false → P c) → (c : ℕ) → P c
by_marks P cr double single others c = by_cr (c == 13) refl
  where
    by_single : (b : Bool) → (c == 13) ≡ false → (c == 34) ≡ false → (c == 39) ≡ b → P c
    by_single true n m e = subst P (sym (eq_of c 39 e)) single
    by_single false n m e = others c n m e

    by_double : (b : Bool) → (c == 13) ≡ false → (c == 34) ≡ b → P c
    by_double true n e = subst P (sym (eq_of c 34 e)) double
    by_double false n e = by_single (c == 39) n e refl

    by_cr : (b : Bool) → (c == 13) ≡ b → P c
    by_cr true e = subst P (sym (eq_of c 13 e)) cr
    by_cr false e = by_double (c == 34) e refl

barred_ones : (is_barred 13 ≡ true) × ((is_barred 34 ≡ true) × (is_barred 39 ≡ true))
unfolding is_barred is_space
barred_ones = (refl, (refl, refl))

not_twice : (b : Bool) → not (not b) ≡ b && true
not_twice true = refl
not_twice false = refl

not_both : (b : Bool) → b && false ≡ false
not_both true = refl
not_both false = refl

pub double_alone : (c : ℕ) → stands in_double c && not (stands in_unquoted c) ≡ is_single c || needs_quotes c
double_alone =
    by_marks (λ c. stands in_double c && not (stands in_unquoted c) ≡ is_single c || needs_quotes c) (sym (not_both (is_barred 13))) (sym (not_both (is_barred 34))) (rw barred_ones.1.1 refl)
    (λ c cr double single. rw (cr, double, single) (not_twice (is_barred c)))

pub single_alone : (c : ℕ) → stands in_single c && not (stands in_unquoted c) ≡ is_double c || needs_quotes c
single_alone =
    by_marks (λ c. stands in_single c && not (stands in_unquoted c) ≡ is_double c || needs_quotes c) (sym (not_both (is_barred 13))) (rw barred_ones.1.0 refl) (sym (not_both (is_barred 39)))
    (λ c cr double single. rw (cr, double, single) (not_twice (is_barred c)))

pub double_not_single : (c : ℕ) → stands in_double c && not (stands in_single c) ≡ is_single c
double_not_single = by_marks (λ c. stands in_double c && not (stands in_single c) ≡ is_single c) refl refl refl (λ c cr double single. rw (cr, double, single) refl)

pub single_not_double : (c : ℕ) → stands in_single c && not (stands in_double c) ≡ is_double c
single_not_double = by_marks (λ c. stands in_single c && not (stands in_double c) ≡ is_double c) refl refl refl (λ c cr double single. rw (cr, double, single) refl)

abbrev pub never : ℕ → Bool
never c = false

pub unquoted_not_double : (c : ℕ) → stands in_unquoted c && not (stands in_double c) ≡ never c
unquoted_not_double =
    by_marks (λ c. stands in_unquoted c && not (stands in_double c) ≡ false) refl (rw barred_ones.1.0 refl) (not_both (not (is_barred 39)))
    (λ c cr double single. rw (cr, double) (not_both (not (is_barred c))))

pub unquoted_not_single : (c : ℕ) → stands in_unquoted c && not (stands in_single c) ≡ never c
unquoted_not_single =
    by_marks (λ c. stands in_unquoted c && not (stands in_single c) ≡ false) refl (not_both (not (is_barred 34))) (rw barred_ones.1.1 refl)
    (λ c cr double single. rw (cr, single) (not_both (not (is_barred c))))

any_never : (v : List ℕ) → list_any never v ≡ false
any_never [] = refl
any_never (c ∷ v) = any_never v

costly_never : (t : List Entry) (previous : Option ℕ) (v : List ℕ) → some_costly t never previous v ≡ false
costly_never t previous [] = refl
costly_never t previous (c ∷ v) = costly_never t (Some c) v

-- ---- The forms

-- what the need for these characters, in one form alone, says of the two forms
pub record Tells (t : List Entry) (v : List ℕ) (form other : Where) (absent costly : Bool) : Type 0 where
  pub covers : covers other form v ≡ absent
  pub gains : gains t form other v ≡ costly

tells_by : (t : List Entry) (v : List ℕ) (form other : Where) (kind : ℕ → Bool) → ((c : ℕ) → stands form c && not (stands other c) ≡ kind c) → Tells t v form other (not (list_any kind v)) (some_costly t kind None v)
tells_by t v form other kind same = record { covers = covers_by other form kind same v; gains = gains_by t form other kind same None v }

-- one kind
tells_one : (t : List Entry) (v : List ℕ) (form other : Where) (kind : ℕ → Bool) → ((c : ℕ) → stands form c && not (stands other c) ≡ kind c)
    → Tells t v form other (is_absent (need_for t kind v)) (is_costly_need (need_for t kind v))
tells_one t v form other kind same =
    let h = tells_by t v form other kind same in
    record { covers = h.covers ∙ sym (absent_tells t kind v); gains = h.gains ∙ sym (costly_tells t kind v) }

-- two kinds
tells_two : (t : List Entry) (v : List ℕ) (form other : Where) (one two : ℕ → Bool) → ((c : ℕ) → stands form c && not (stands other c) ≡ one c || two c)
    → Tells t v form other (is_absent (need_for t one v) && is_absent (need_for t two v)) (is_costly_need (need_for t one v) || is_costly_need (need_for t two v))
tells_two t v form other one two same =
    let h = tells_by t v form other (λ c. one c || two c) same in
    record {
      covers = h.covers ∙ ap not (any_either one two v) ∙ by (list_any one v) (list_any two v) ∙ ap₂ (λ x y. x && y) (sym (absent_tells t one v)) (sym (absent_tells t two v));
      gains = h.gains ∙ costly_either t one two None v ∙ ap₂ (λ x y. x || y) (sym (costly_tells t one v)) (sym (costly_tells t two v));
    }
  where
    by : (a b : Bool) → not (a || b) ≡ not a && not b
    by true b = refl
    by false b = refl

-- no kind
tells_none : (t : List Entry) (v : List ℕ) (form other : Where) → ((c : ℕ) → stands form c && not (stands other c) ≡ never c) → Tells t v form other true false
tells_none t v form other same =
    let h = tells_by t v form other never same in
    record { covers = h.covers ∙ ap not (any_never v); gains = h.gains ∙ costly_never t None v }

pub double_over_unquoted : (t : List Entry) (v : List ℕ) → Tells t v in_double in_unquoted (is_absent (need_for t is_single v) && is_absent (need_for t needs_quotes v)) (is_costly_need (need_for t is_single v) || is_costly_need (need_for t needs_quotes v))
double_over_unquoted t v = tells_two t v in_double in_unquoted is_single needs_quotes double_alone

pub single_over_unquoted : (t : List Entry) (v : List ℕ) → Tells t v in_single in_unquoted (is_absent (need_for t is_double v) && is_absent (need_for t needs_quotes v)) (is_costly_need (need_for t is_double v) || is_costly_need (need_for t needs_quotes v))
single_over_unquoted t v = tells_two t v in_single in_unquoted is_double needs_quotes single_alone

pub double_over_single : (t : List Entry) (v : List ℕ) → Tells t v in_double in_single (is_absent (need_for t is_single v)) (is_costly_need (need_for t is_single v))
double_over_single t v = tells_one t v in_double in_single is_single double_not_single

pub single_over_double : (t : List Entry) (v : List ℕ) → Tells t v in_single in_double (is_absent (need_for t is_double v)) (is_costly_need (need_for t is_double v))
single_over_double t v = tells_one t v in_single in_double is_double single_not_double

pub unquoted_over_double : (t : List Entry) (v : List ℕ) → Tells t v in_unquoted in_double true false
unquoted_over_double t v = tells_none t v in_unquoted in_double unquoted_not_double

pub unquoted_over_single : (t : List Entry) (v : List ℕ) → Tells t v in_unquoted in_single true false
unquoted_over_single t v = tells_none t v in_unquoted in_single unquoted_not_single

-- ---- The changes

-- the form serves, and gains what is spared
serves_by : (t : List Entry) (v : List ℕ) (from to : Where) (a b : ℕ) (costly : Bool) → takes_place v from to ≡ covers to from v → covers to from v ≡ true → gains t to from v ≡ costly → a ≡ added from → b ≡ saved costly
    → IsFormChange t v from to (Some (change a b))
serves_by t v from to a b costly place wide gain is_a is_b = (place ∙ wide, (is_a, is_b ∙ ap saved (sym gain)))

-- where it serves by a test
where_serves : (t : List Entry) (v : List ℕ) (from to : Where) (can_replace costly : Bool) (b : ℕ) → takes_place v from to ≡ covers to from v → covers to from v ≡ can_replace → gains t to from v ≡ costly → 0 ≡ added from → b ≡ saved costly
    → IsFormChange t v from to (change_where can_replace b)
where_serves t v from to true costly b place wide gain is_a is_b = serves_by t v from to 0 b costly place wide gain is_a is_b
where_serves t v from to false costly b place wide gain is_a is_b = place ∙ wide

pub form_changes : (t : List Entry) (v : List ℕ) (from to : Where) → IsFormChange t v from to (form_change (needs_of t v) from to)
form_changes t v outside to = not_both (is_form to)
form_changes t v after_omitted_end to = not_both (is_form to)
form_changes t v self_closed to = not_both (is_form to)
form_changes t v after_name to = not_both (is_form to)
form_changes t v after_unquoted to = not_both (is_form to)
form_changes t v after_quoted to = not_both (is_form to)
form_changes t v in_section to = not_both (is_form to)
form_changes t v in_unquoted in_double = serves_by t v in_unquoted in_double 1 _ _ refl (unquoted_over_double t v).covers (double_over_unquoted t v).gains refl refl
form_changes t v in_unquoted in_single = serves_by t v in_unquoted in_single 1 _ _ refl (unquoted_over_single t v).covers (single_over_unquoted t v).gains refl refl
form_changes t v in_unquoted in_unquoted = refl
form_changes t v in_unquoted outside = refl
form_changes t v in_unquoted after_omitted_end = refl
form_changes t v in_unquoted self_closed = refl
form_changes t v in_unquoted after_name = refl
form_changes t v in_unquoted after_unquoted = refl
form_changes t v in_unquoted after_quoted = refl
form_changes t v in_unquoted in_section = refl
form_changes t v in_double in_unquoted = where_serves t v in_double in_unquoted _ false 0 refl (double_over_unquoted t v).covers (unquoted_over_double t v).gains refl refl
form_changes t v in_double in_single = where_serves t v in_double in_single _ _ _ refl (double_over_single t v).covers (single_over_double t v).gains refl refl
form_changes t v in_double in_double = refl
form_changes t v in_double outside = refl
form_changes t v in_double after_omitted_end = refl
form_changes t v in_double self_closed = refl
form_changes t v in_double after_name = refl
form_changes t v in_double after_unquoted = refl
form_changes t v in_double after_quoted = refl
form_changes t v in_double in_section = refl
form_changes t v in_single in_unquoted = where_serves t v in_single in_unquoted _ false 0 refl (single_over_unquoted t v).covers (unquoted_over_single t v).gains refl refl
form_changes t v in_single in_double = where_serves t v in_single in_double _ _ _ refl (single_over_double t v).covers (double_over_single t v).gains refl refl
form_changes t v in_single in_single = refl
form_changes t v in_single outside = refl
form_changes t v in_single after_omitted_end = refl
form_changes t v in_single self_closed = refl
form_changes t v in_single after_name = refl
form_changes t v in_single after_unquoted = refl
form_changes t v in_single after_quoted = refl
form_changes t v in_single in_section = refl

-- ---- Edges that open a value

shuffle : (a b p q x : Bool) → p ≡ true → q ≡ true → (a && p) && ((b && q) && x) ≡ a && (b && x)
shuffle true true p q x e f = rw (e, f) refl
shuffle true false p q x e f = rw e refl
shuffle false b p q x e f = refl

by_form : (less : ℕ → ℕ → Bool) (t : List Entry) (v : List ℕ) (from to : Where) (m n : ℕ) (x : Option Change) → IsFormChange t v from to x → takes_place v from to && less (m + added from) (n + saved (gains t to from v)) ≡ by_change less x m n
by_form less t v from to m n None h = rw h refl
by_form less t v from to m n (Some x) (place, (a, b)) = rw (place, a, b) refl

-- with nothing pending
pub changes_by : (t : List Entry) (unit : Unit) (needs : Needs) (from to : State) → AreNeeds t unit (Some needs) → is_nothing from.pending ≡ true → is_nothing to.pending ≡ true → IsChange t unit from to (form_change needs from.at to.at)
changes_by t (fixed b) needs from to h p q = absurd h
changes_by t (start_tag n omits required_after_omission closes) needs from to h p q = absurd h
changes_by t (tag_name n) needs from to h p q = absurd h
changes_by t (bare_attribute n) needs from to h p q = absurd h
changes_by t (attribute_name n v) needs from to h p q = λ less e f is_from is_to.
    rw (is_from, is_to, h)
    (ap (λ b. b && less (edge_length f + added from.at) (edge_length e + saved (gains t to.at from.at v))) (shuffle (is_form to.at) (is_form from.at) (is_nothing to.pending) (is_nothing from.pending) (not (same_where to.at from.at) && covers to.at from.at v) q p)
    ∙ by_form less t v from.at to.at (edge_length f) (edge_length e) (form_change (needs_of t v) from.at to.at) (form_changes t v from.at to.at))
changes_by t (character kind c next) needs from to h p q = absurd h
changes_by t attribute_end needs from to h p q = absurd h
changes_by t (tag_close closes) needs from to h p q = absurd h
changes_by t (end_tag n omits notes_omission) needs from to h p q = absurd h

-- something is pending
pub changes_none : (t : List Entry) (unit : Unit) (from to : State) → is_nothing from.pending && is_nothing to.pending ≡ false → IsChange t unit from to None
changes_none t (fixed b) from to h = λ less e f is_from is_to. refl
changes_none t (start_tag n omits required_after_omission closes) from to h = λ less e f is_from is_to. refl
changes_none t (tag_name n) from to h = λ less e f is_from is_to. refl
changes_none t (bare_attribute n) from to h = λ less e f is_from is_to. refl
changes_none t (attribute_name n v) from to h = λ less e f is_from is_to.
    rw (is_from, is_to) (by (is_form to.at) (is_form from.at) (is_nothing to.pending) (is_nothing from.pending) (not (same_where to.at from.at) && covers to.at from.at v) (less (edge_length f + added from.at) (edge_length e + saved (gains t to.at from.at v))) h)
  where
    by : (a b p q x y : Bool) → q && p ≡ false → ((a && p) && ((b && q) && x)) && y ≡ false
    by false b p q x y e = refl
    by true b false q x y e = refl
    by true false true q x y e = refl
    by true true true false x y e = refl
    by true true true true x y e = absurd (cc)
changes_none t (character kind c next) from to h = λ less e f is_from is_to. refl
changes_none t attribute_end from to h = λ less e f is_from is_to. refl
changes_none t (tag_close closes) from to h = λ less e f is_from is_to. refl
changes_none t (end_tag n omits notes_omission) from to h = λ less e f is_from is_to. refl

-- the unit opens no value
pub changes_nothing : (t : List Entry) (unit : Unit) (from to : State) → AreNeeds t unit None → IsChange t unit from to None
changes_nothing t (fixed b) from to h = λ less e f is_from is_to. refl
changes_nothing t (start_tag n omits required_after_omission closes) from to h = λ less e f is_from is_to. refl
changes_nothing t (tag_name n) from to h = λ less e f is_from is_to. refl
changes_nothing t (bare_attribute n) from to h = λ less e f is_from is_to. refl
changes_nothing t (attribute_name n v) from to h = absurd h
changes_nothing t (character kind c next) from to h = λ less e f is_from is_to. refl
changes_nothing t attribute_end from to h = λ less e f is_from is_to. refl
changes_nothing t (tag_close closes) from to h = λ less e f is_from is_to. refl
changes_nothing t (end_tag n omits notes_omission) from to h = λ less e f is_from is_to. refl

few_where : (can_replace : Bool) (costly : Bool) → IfSome (change_where can_replace (saved costly)) IsFew
few_where true true = (omega arith, omega arith)
few_where true false = (omega arith, omega arith)
few_where false costly = tt

few_quoted : (costly : Bool) → IsFew (change 1 (saved costly))
few_quoted true = (omega arith, omega arith)
few_quoted false = (omega arith, omega arith)

pub few_bytes : (n : Needs) (from to : Where) → IfSome (form_change n from to) IsFew
few_bytes n outside to = tt
few_bytes n after_omitted_end to = tt
few_bytes n self_closed to = tt
few_bytes n after_name to = tt
few_bytes n after_unquoted to = tt
few_bytes n after_quoted to = tt
few_bytes n in_section to = tt
few_bytes n in_unquoted in_double = few_quoted (is_costly_need n.single || is_costly_need n.other)
few_bytes n in_unquoted in_single = few_quoted (is_costly_need n.double || is_costly_need n.other)
few_bytes n in_unquoted in_unquoted = tt
few_bytes n in_unquoted outside = tt
few_bytes n in_unquoted after_omitted_end = tt
few_bytes n in_unquoted self_closed = tt
few_bytes n in_unquoted after_name = tt
few_bytes n in_unquoted after_unquoted = tt
few_bytes n in_unquoted after_quoted = tt
few_bytes n in_unquoted in_section = tt
few_bytes n in_double in_unquoted = few_where (is_absent n.single && is_absent n.other) false
few_bytes n in_double in_single = few_where (is_absent n.single) (is_costly_need n.double)
few_bytes n in_double in_double = tt
few_bytes n in_double outside = tt
few_bytes n in_double after_omitted_end = tt
few_bytes n in_double self_closed = tt
few_bytes n in_double after_name = tt
few_bytes n in_double after_unquoted = tt
few_bytes n in_double after_quoted = tt
few_bytes n in_double in_section = tt
few_bytes n in_single in_unquoted = few_where (is_absent n.double && is_absent n.other) false
few_bytes n in_single in_double = few_where (is_absent n.double) (is_costly_need n.single)
few_bytes n in_single in_single = tt
few_bytes n in_single outside = tt
few_bytes n in_single after_omitted_end = tt
few_bytes n in_single self_closed = tt
few_bytes n in_single after_name = tt
few_bytes n in_single after_unquoted = tt
few_bytes n in_single after_quoted = tt
few_bytes n in_single in_section = tt
