-- How building comes on with a text, whatever follows.
use Rattle.std.proofs.Common.{◌≡◌, ℕ, zero, suc, pred, ◌+◌, ◌-◌, ◌<◌, ◌≤◌, true, List, [], ◌∷◌, ◌++◌, length, map, drop, refl, sym, ap, ap₂, subst, ◌∙◌, arith, append_assoc, zero-add}
use Rattle.std.proofs.lemmas.List.{length-drop, drop-append-le, map-append, length-map}
use Rattle.std.specs.List.{drop-map}
use Rattle.hm_base.specs.Source.{PlacedByte, byte_of, place_in}
use Rattle.hm_base.specs.Walks.{Event}
use Rattle.hm_base.specs.declared.rules.Rule.{Rule}
use Rattle.hm_refs.specs.Names.{Entry}
use Rattle.hm_refs.specs.Tables.{IsTable}
use Rattle.hm_tree.specs.Tokens.{Seen, taken, refused}
use Rattle.hm_tree.specs.declared.tokens.ScanFault.{ScanFault}
use Rattle.hm_token_laws.specs.First.{Next, at_end, after_bytes, first, rule_of}
use Rattle.hm_construction_laws.specs.Steps.{Construction, Stepped, went, stops, step, step_over}
use Rattle.hm_construction_laws.specs.Trees.{Outcome, built, refused_by, after_events, mode_of, next_step, stepped, tree_from}
use Rattle.hm_lexer.specs.PartLaws.{GoesOn, StandsOn}
use Rattle.hm_lexer.specs.Ready.{part, ready}
use Rattle.hm_lexer.specs.Standing.{stand_on, stands}
use Rattle.hm_lexer.proofs.Building.{parts_build}
use Rattle.hm_lexer.proofs.Standing.{ready_stands}
use Rattle.hm_insertion.specs.Building.{Building, grown}
use Rattle.hm_base.specs.declared.rules.Refused.{Refused}
use Rattle.hm_base.specs.declared.rules.Refused.TheVariants as answers
use Rattle.hm_build.specs.Feeding.{Comes, IsStopped, StopsAs, rest_tree, whole_tree}
use Rattle.hm_build.proofs.Reading.{after_grown}

-- ---- other places

-- two ways to tell the same places
abbrev SamePlaces : (ℕ → ℕ) → ℕ → (ℕ → ℕ) → ℕ → Type 0
SamePlaces p i q j = (k : ℕ) → p (i + k) ≡ q (j + k)

further : (p q : ℕ → ℕ) (i j n : ℕ) → SamePlaces p i q j → SamePlaces p (i + n) q (j + n)
further p q i j n h k =
    let a : i + n + k ≡ i + (n + k) = omega arith in
    let b : j + (n + k) ≡ j + n + k = omega arith in
    ap p a ∙ h (n + k) ∙ ap q b

step_moved : (p q : ℕ → ℕ) (i j : ℕ) (o : Stepped) (f g : Construction → Outcome) → SamePlaces p i q j → ((st : Construction) → f st ≡ g st) → stepped p i o f ≡ stepped q j o g
step_moved p q i j (went es st) f g h same = ap (after_events es) (same st)
step_moved p q i j (stops rule n) f g h same = ap (refused_by rule) (h n)

next_moved : (p q : ℕ → ℕ) (i j : ℕ) (st : Construction) (s : List ℕ) (x : Next) (f g : ℕ → Construction → Outcome) → SamePlaces p i q j → ((k : ℕ) (next : Construction) → f k next ≡ g k next) → next_step p i st s x f ≡ next_step q j st s x g
next_moved p q i j st s at_end f g h same = step_moved p q (i + length s) (j + length s) (step_over st) (λ next. built []) (λ next. built []) (further p q i j (length s) h) (λ next. refl)
next_moved p q i j st s (after_bytes n (refused fault)) f g h same = ap (refused_by (rule_of fault)) (h n)
next_moved p q i j st s (after_bytes n (taken token rest)) f g h same = step_moved p q (i + n) (j + n) (step st token) (f (pred (length s - length rest))) (g (pred (length s - length rest))) (further p q i j n h) (same (pred (length s - length rest)))

pub tree_moved : (t : List Entry) (p q : ℕ → ℕ) (s : List ℕ) (skip i j : ℕ) (st : Construction) → SamePlaces p i q j → tree_from t p skip i st s ≡ tree_from t q skip j st s
tree_moved t p q [] zero i j st h = step_moved p q i j (step_over st) (λ next. built []) (λ next. built []) h (λ next. refl)
tree_moved t p q [] (suc skip) i j st h = step_moved p q i j (step_over st) (λ next. built []) (λ next. built []) h (λ next. refl)
tree_moved t p q (c ∷ s) (suc skip) i j st h = tree_moved t p q s skip (i + 1) (j + 1) st (further p q i j 1 h)
tree_moved t p q (c ∷ s) zero i j st h =
    next_moved p q i j st (c ∷ s) (first t (mode_of st.path) (c ∷ s)) (λ k next. tree_from t p k (i + 1) next s) (λ k next. tree_from t q k (j + 1) next s) h
    (λ k next. tree_moved t p q s k (i + 1) (j + 1) next (further p q i j 1 h))

-- ---- places of a text that goes on

place_after : (placed : List PlacedByte) (end n k : ℕ) → place_in placed end (n + k) ≡ place_in (drop n placed) end k
place_after placed end zero k = ap (place_in placed end) (zero-add k)
place_after [] end (suc n) k = refl
place_after (a ∷ placed) end (suc n) k =
    let e : suc n + k ≡ suc (n + k) = omega arith in
    ap (place_in (a ∷ placed) end) e ∙ place_after placed end n k

-- a byte that is there keeps its place
pub place_stays : (placed more : List PlacedByte) (end other n : ℕ) → n < length placed → place_in (placed ++ more) end n ≡ place_in placed other n
place_stays [] more end other n h = absurd (omega arith)
place_stays (a ∷ placed) more end other zero h = refl
place_stays (a ∷ placed) more end other (suc n) h = place_stays placed more end other n (omega arith)

-- the tree of what is left after n bytes
pub tree_after : (t : List Entry) (st : Construction) (placed : List PlacedByte) (end n : ℕ) → tree_from t (place_in placed end) 0 n st (map byte_of (drop n placed)) ≡ rest_tree t st (drop n placed) end
tree_after t st placed end n = tree_moved t (place_in placed end) (place_in (drop n placed) end) (map byte_of (drop n placed)) 0 n 0 st (λ k. place_after placed end n k ∙ ap (place_in (drop n placed) end) (sym (zero-add k)))

-- ---- coming on

pub comes_not : (t : List Entry) (b : Building) (text : List PlacedByte) → Comes t b text b text
comes_not t b text = record { tree = λ more end. refl; standing = λ y. refl }

pub comes_on : (t : List Entry) (b c d : Building) (text left rest : List PlacedByte) → Comes t b text c left → Comes t c left d rest → Comes t b text d rest
comes_on t b c d text left rest h k = record { tree = λ more end. h.tree more end ∙ k.tree more end; standing = λ y. h.standing y ∙ k.standing y }

pub stopped_on : (t : List Entry) (b c : Building) (text left : List PlacedByte) (rule : Rule) (place : ℕ) → Comes t b text c left → IsStopped t c left rule place → IsStopped t b text rule place
stopped_on t b c text left rule place h k = record { tree = λ more end. h.tree more end ∙ k.tree more end; standing = λ y. h.standing y ∙ k.standing y }

bytes_more : (text more : List PlacedByte) (y : List ℕ) → map byte_of (text ++ more) ++ y ≡ map byte_of text ++ (map byte_of more ++ y)
bytes_more text more y = ap (λ l. l ++ y) (map-append byte_of text more) ∙ append_assoc (map byte_of text) (map byte_of more) y

-- with more of the text
pub comes_more : (t : List Entry) (b c : Building) (text left new : List PlacedByte) → Comes t b text c left → Comes t b (text ++ new) c (left ++ new)
comes_more t b c text left new h = record {
  tree = λ more end. ap (λ l. whole_tree t b l end) (append_assoc text new more) ∙ h.tree (new ++ more) end ∙ ap (λ l. whole_tree t c l end) (sym (append_assoc left new more));
  standing = λ y. ap (stands t 0 b.state) (bytes_more text new y) ∙ h.standing (map byte_of new ++ y) ∙ ap (stands t 0 c.state) (sym (bytes_more left new y));
}

pub stopped_more : (t : List Entry) (b : Building) (text new : List PlacedByte) (rule : Rule) (place : ℕ) → IsStopped t b text rule place → IsStopped t b (text ++ new) rule place
stopped_more t b text new rule place h = record {
  tree = λ more end. ap (λ l. whole_tree t b l end) (append_assoc text new more) ∙ h.tree (new ++ more) end;
  standing = λ y. ap (stands t 0 b.state) (bytes_more text new y) ∙ h.standing (map byte_of new ++ y);
}

-- ---- one part

abbrev bytes : List PlacedByte → List ℕ
bytes text = map byte_of text

long : (text : List PlacedByte) → length (map byte_of text) ≡ length text
long text = length-map text byte_of

-- the tree, where a part of the text stands next
part_goes : (t : List Entry) (st : Construction) (text more : List PlacedByte) (end n to : ℕ) (token : Seen) → IsTable t → to ≤ length text → ready t (mode_of st.path) (map byte_of text) ≡ true
    → part t (mode_of st.path) (map byte_of text) ≡ after_bytes n (taken token (drop to (map byte_of text)))
    → rest_tree t st (text ++ more) end ≡ stepped (place_in (text ++ more) end) n (step st token) (λ next. rest_tree t next (drop to text ++ more) end)
part_goes t st text more end n to token tab inside r e =
    let law : GoesOn t (place_in (text ++ more) end) 0 st (map byte_of text) (map byte_of more) (part t (mode_of st.path) (map byte_of text)) = parts_build t (place_in (text ++ more) end) 0 st (map byte_of text) (map byte_of more) tab r in
    let here : GoesOn t (place_in (text ++ more) end) 0 st (map byte_of text) (map byte_of more) (after_bytes n (taken token (drop to (map byte_of text)))) = subst (GoesOn t (place_in (text ++ more) end) 0 st (map byte_of text) (map byte_of more)) e law in
    ap (tree_from t (place_in (text ++ more) end) 0 0 st) (map-append byte_of text more) ∙ here ∙ step_moved (place_in (text ++ more) end) (place_in (text ++ more) end) (0 + n) n (step st token) _ _ (λ k. ap (λ i. place_in (text ++ more) end (i + k)) (zero-add n)) after
  where
    count : 0 + (length (map byte_of text) - length (drop to (map byte_of text))) ≡ to
    count = let a = long text in let b = length-drop to (map byte_of text) in omega arith

    cut : drop to (text ++ more) ≡ drop to text ++ more
    cut = drop-append-le to text more inside

    rest : drop to (map byte_of text) ++ map byte_of more ≡ map byte_of (drop to (text ++ more))
    rest = ap (λ l. l ++ map byte_of more) (drop-map byte_of to text) ∙ sym (map-append byte_of (drop to text) more) ∙ ap (map byte_of) (sym cut)

    after : (next : Construction) → tree_from t (place_in (text ++ more) end) 0 (0 + (length (map byte_of text) - length (drop to (map byte_of text)))) next (drop to (map byte_of text) ++ map byte_of more) ≡ rest_tree t next (drop to text ++ more) end
    after next = ap₂ (λ i s. tree_from t (place_in (text ++ more) end) 0 i next s) count rest ∙ tree_after t next (text ++ more) end to ∙ ap (λ l. rest_tree t next l end) cut

part_stands : (t : List Entry) (st : Construction) (text : List PlacedByte) (y : List ℕ) (n to : ℕ) (token : Seen) → IsTable t → ready t (mode_of st.path) (map byte_of text) ≡ true
    → part t (mode_of st.path) (map byte_of text) ≡ after_bytes n (taken token (drop to (map byte_of text)))
    → stands t 0 st (map byte_of text ++ y) ≡ stand_on (step st token) (λ next. stands t 0 next (map byte_of (drop to text) ++ y))
part_stands t st text y n to token tab r e =
    let law = subst (StandsOn t st (map byte_of text) y) e (ready_stands t st (map byte_of text) y tab r) in
    law ∙ ap (λ s. stand_on (step st token) (λ next. stands t 0 next (s ++ y))) (drop-map byte_of to text)

-- a part that is stepped
pub part_comes : (t : List Entry) (b after : Building) (text : List PlacedByte) (n to : ℕ) (token : Seen) (es : List Event) (next : Construction) → IsTable t → to ≤ length text → ready t (mode_of b.state.path) (map byte_of text) ≡ true
    → part t (mode_of b.state.path) (map byte_of text) ≡ after_bytes n (taken token (drop to (map byte_of text))) → step b.state token ≡ went es next → after.state ≡ next → after.walk ≡ grown b.walk es
    → Comes t b text after (drop to text)
part_comes t b after text n to token es next tab inside r e went_so state walk = record {
  tree = λ more end.
      ap (after_events b.walk) (part_goes t b.state text more end n to token tab inside r e ∙ ap (λ x. stepped (place_in (text ++ more) end) n x (λ st. rest_tree t st (drop to text ++ more) end)) went_so)
      ∙ sym (after_grown b.walk es (rest_tree t next (drop to text ++ more) end)) ∙ ap₂ (λ w st. after_events w (rest_tree t st (drop to text ++ more) end)) (sym walk) (sym state);
  standing = λ y.
      part_stands t b.state text y n to token tab r e ∙ ap (λ x. stand_on x (λ st. stands t 0 st (map byte_of (drop to text) ++ y))) went_so ∙ ap (λ st. stands t 0 st (map byte_of (drop to text) ++ y)) (sym state);
}

-- a part that construction refuses, at one of its bytes
pub part_stops : (t : List Entry) (b : Building) (text : List PlacedByte) (n to : ℕ) (token : Seen) (rule : Rule) (k end : ℕ) → IsTable t → to ≤ length text → n + k < length text → ready t (mode_of b.state.path) (map byte_of text) ≡ true
    → part t (mode_of b.state.path) (map byte_of text) ≡ after_bytes n (taken token (drop to (map byte_of text))) → step b.state token ≡ stops rule k
    → IsStopped t b text rule (place_in text end (n + k))
part_stops t b text n to token rule k end tab inside there r e stopped = record {
  tree = λ more last.
      ap (after_events b.walk) (part_goes t b.state text more last n to token tab inside r e ∙ ap (λ x. stepped (place_in (text ++ more) last) n x (λ st. rest_tree t st (drop to text ++ more) last)) stopped)
      ∙ ap (refused_by rule) (place_stays text more last end (n + k) there);
  standing = λ y. part_stands t b.state text y n to token tab r e ∙ ap (λ x. stand_on x (λ st. stands t 0 st (map byte_of (drop to text) ++ y))) stopped;
}

-- a fault of a scan
pub fault_stops : (t : List Entry) (b : Building) (text : List PlacedByte) (n end : ℕ) (fault : ScanFault) → IsTable t → n < length text → ready t (mode_of b.state.path) (map byte_of text) ≡ true
    → part t (mode_of b.state.path) (map byte_of text) ≡ after_bytes n (refused fault) → IsStopped t b text (rule_of fault) (place_in text end n)
fault_stops t b text n end fault tab there r e = record {
  tree = λ more last.
      let law = subst (GoesOn t (place_in (text ++ more) last) 0 b.state (map byte_of text) (map byte_of more)) e (parts_build t (place_in (text ++ more) last) 0 b.state (map byte_of text) (map byte_of more) tab r) in
      ap (after_events b.walk) (ap (tree_from t (place_in (text ++ more) last) 0 0 b.state) (map-append byte_of text more) ∙ law ∙ ap (λ i. refused_by (rule_of fault) (place_in (text ++ more) last i)) (zero-add n))
      ∙ ap (refused_by (rule_of fault)) (place_stays text more last end n there);
  standing = λ y. subst (StandsOn t b.state (map byte_of text) y) e (ready_stands t b.state (map byte_of text) y tab r);
}

pub stops_on : (t : List Entry) (b c : Building) (text left : List PlacedByte) (answer : Refused) → Comes t b text c left → StopsAs t c left answer → StopsAs t b text answer
stops_on t b c text left answers.OutOfMemory h k = tt
stops_on t b c text left (answers.Page rule place) h k = stopped_on t b c text left rule place h k
