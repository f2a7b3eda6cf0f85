-- Lists and steps that are added after others.
use Rattle.std.proofs.Common.{◌≡◌, ◌∙◌, ℕ, zero, suc, ◌<◌, List, Bool, [], ◌∷◌, ◌++◌, Option, None, Some, IfSome, length, get_or, map, refl, sym, ap, subst, arith}
use Rattle.std.proofs.lemmas.List.{get_or-map, get_or_append_left, length-map, length_push}
use Rattle.std.proofs.lemmas.List.Elements.{All-append}
use Rattle.std.specs.List.{All, HoldsAt}
use Rattle.hm_graph.specs.declared.rules.EdgeRules.{EdgeRules}
use Rattle.hm_refs.specs.Tables.{TableView}
use Rattle.hm_edges.specs.declared.states.State.{State}
use Rattle.hm_edges.specs.declared.units.Unit.{Unit}
use Rattle.hm_edges.specs.declared.units.Unit.TheVariants.{Character}
use Rattle.hm_graph.specs.Layers.{HaveNodes, IsLayer}
use Rattle.hm_graph.specs.Steps.{Step}
use Rattle.hm_graph.specs.Interned.{InternedView, none_made, list_at, made_at, BeginsNoPair, IsListOf, IsInterned, IsRow, IsMemo, Grows, IsStepOf, Leads, first_states, unknown}
use Rattle.hm_graph.specs.declared.made.MadeStep.{MadeStep}
use Rattle.hm_graph.specs.declared.made.KnownStep.{KnownStep}
use Rattle.hm_graph.specs.declared.made.Reached.{Reached}
use Rattle.hm_graph.specs.declared.plain.PlainRow.{PlainRow}
use Rattle.hm_edges.specs.declared.units.TextKind.{TextKind}

abbrev pub interned : TableView → EdgeRules → List (List State) → List MadeStep → InternedView
interned v rules lists made = record { table = v; rules = rules; lists = lists; steps = made }

-- ---- Growing

pub grows_self : (m : InternedView) → Grows m m
grows_self m = record { table = refl; rules = refl; lists = λ k within. record { there = within; list = refl }; steps = λ n within. (within, refl) }

pub grows_on : (a b c : InternedView) → Grows a b → Grows b c → Grows a c
grows_on a b c ab bc =
    record {
      table = bc.table ∙ ab.table;
      rules = bc.rules ∙ ab.rules;
      lists = λ k within. let there : IsListOf b (list_at a k) k = ab.lists k within in let then : IsListOf c (list_at b k) k = bc.lists k there.there in record { there = then.there; list = then.list ∙ there.list };
      steps = λ n within. let there : (n < length b.steps) × (made_at b n ≡ made_at a n) = ab.steps n within in let then : (n < length c.steps) × (made_at c n ≡ made_at b n) = bc.steps n there.0 in (then.0, then.1 ∙ there.1);
    }

-- a layer is one of equal lists, and by an equal table and rules
layer_as : (v w : TableView) (q r : EdgeRules) (unit : Unit) (from following other after : List State) (x : MadeStep) → w ≡ v → r ≡ q → other ≡ from → after ≡ following → IsLayer v q unit from following x.step → IsLayer w r unit other after x.step
layer_as v w q r unit from following other after x of_table of_rules of_from of_after is = subst (λ A. A) (λ i. IsLayer (sym of_table i) (sym of_rules i) unit (sym of_from i) (sym of_after i) x.step) is

-- a number that a step has been given is that of the step of a unit from a list
pub made_is : (a b : InternedView) (list : ℕ) (unit : Unit) (n : ℕ) (x : MadeStep) → Grows a b → list < length a.lists → x.after < length a.lists → IsLayer a.table a.rules unit (list_at a list) (list_at a x.after) x.step
    → n < length b.steps → made_at b n ≡ x → IsStepOf b list unit n
made_is a b list unit n x grows within inside is there at =
    let from : IsListOf b (list_at a list) list = grows.lists list within in
    let following : IsListOf b (list_at a x.after) x.after = grows.lists x.after inside in
    record {
      there = there;
      after = subst (λ y. y.after < length b.lists) (sym at) following.there;
      layer = subst (λ y. IsLayer b.table b.rules unit (list_at b list) (list_at b y.after) y.step) (sym at)
          (layer_as a.table b.table a.rules b.rules unit (list_at a list) (list_at a x.after) (list_at b list) (list_at b x.after) x grows.table grows.rules from.list following.list is);
    }

-- a step that is found with a list after it is there
pub some_made : (m : InternedView) (x : MadeStep) (found : Option ℕ) → IfSome found (λ n. n < length m.steps) → IfSome found (HoldsAt (λ y. y.step ≡ x.step) m.steps) → IfSome found (HoldsAt (λ y. y.after ≡ x.after) m.steps)
    → IfSome found (λ n. made_at m n ≡ x)
some_made m x None there step following = tt
some_made m x (Some n) there step following = λ i. record { step = step none_made i; after = following none_made i }

-- a list stays where it is
pub list_kept : (a b : InternedView) (states : List State) (k : ℕ) → Grows a b → IsListOf a states k → IsListOf b states k
list_kept a b states k grows is = let then : IsListOf b (list_at a k) k = grows.lists k is.there in record { there = then.there; list = then.list ∙ is.list }

-- what a unit leads to from a list is its step once it is kept
pub layer_kept : (a b : InternedView) (list : ℕ) (unit : Unit) (n : ℕ) (following : List State) (step : Step) → Grows a b → list < length a.lists → IsLayer a.table a.rules unit (list_at a list) following step
    → n < length b.steps → IsListOf b following (made_at b n).after → (made_at b n).step ≡ step → IsStepOf b list unit n
layer_kept a b list unit n following step grows within is there at made =
    let from : IsListOf b (list_at a list) list = grows.lists list within in
    record { there = there; after = at.there; layer = subst (λ A. A) (λ i. IsLayer (sym grows.table i) (sym grows.rules i) unit (sym from.list i) (sym at.list i) (sym made i)) is }

step_kept : (a b : InternedView) (list : ℕ) (unit : Unit) (n : ℕ) → Grows a b → list < length a.lists → IsStepOf a list unit n → IsStepOf b list unit n
step_kept a b list unit n grows within is =
    let x : MadeStep = made_at a n in
    let made : (n < length b.steps) × (made_at b n ≡ x) = grows.steps n is.there in
    made_is a b list unit n x grows within is.after is.layer made.0 made.1

pub seen_kept : (a b : InternedView) (x : KnownStep) → Grows a b → IsMemo a x → IsMemo b x
seen_kept a b x grows is = record { from = (grows.lists x.list is.from).there; step = step_kept a b x.list x.unit x.number grows is.from is.step }

pub all_kept : (a b : InternedView) (seen : List KnownStep) → Grows a b → All (IsMemo a) seen → All (IsMemo b) seen
all_kept a b seen grows are = λ n d within. seen_kept a b (get_or seen n d) grows (are n d within)

leads_kept : (a b : InternedView) (list : ℕ) (kind : TextKind) (more : Bool) (to : Reached) (c : ℕ) → Grows a b → Leads a list kind more to c → Leads b list kind more to c
leads_kept a b list kind more to c grows is =
    record {
      ascii = is.ascii;
      from = (grows.lists list is.from).there;
      step = step_kept a b list (Character kind c None more) to.number grows is.from is.step;
      after = is.after ∙ ap (λ y. y.after) (sym (grows.steps to.number is.step.there).1);
      lone = λ more_is. subst (λ t. BeginsNoPair t.entries c) (sym grows.table) (is.lone more_is);
    }

pub all_rows_kept : (a b : InternedView) (more : Bool) (rows : List PlainRow) → Grows a b → All (IsRow a more) rows → All (IsRow b more) rows
all_rows_kept a b more rows grows are = λ n d within c known.
    let x : PlainRow = get_or rows n d in
    leads_kept a b x.list x.kind more (get_or x.steps.items c unknown) c grows (are n d within c known)

pub all_noted : (m : InternedView) (seen : List KnownStep) (x : KnownStep) → All (IsMemo m) seen → x.list < length m.lists → IsStepOf m x.list x.unit x.number → All (IsMemo m) (seen ++ x ∷ [])
all_noted m seen x are from step = All-append (IsMemo m) seen (x ∷ []) are (λ n d within. only n d within)
  where
    only : (n : ℕ) (d : KnownStep) → n < 1 → IsMemo m (get_or (x ∷ []) n d)
    only zero d within = record { from = from; step = step }
    only (suc n) d within = absurd (omega arith)

-- ---- The first list

pub first_nodes : (v : TableView) (k : ℕ) → HaveNodes v (get_or (first_states ∷ []) k [])
first_nodes v zero = (tt, tt)
first_nodes v (suc k) = tt

-- ---- One more list

pub list_grows : (v : TableView) (rules : EdgeRules) (lists : List (List State)) (made : List MadeStep) (states : List State) → Grows (interned v rules lists made) (interned v rules (lists ++ states ∷ []) made)
list_grows v rules lists made states =
    record {
      table = refl;
      rules = refl;
      lists = λ k within. record { there = omega (arith, length_push lists states); list = get_or_append_left lists (states ∷ []) [] k within };
      steps = λ n within. (within, refl);
    }

last_at : (lists : List (List State)) (states : List State) → get_or (lists ++ states ∷ []) (length lists) [] ≡ states
last_at [] states = refl
last_at (l ∷ lists) states = last_at lists states

-- the last list has the number of those before it
pub last_there : (v : TableView) (rules : EdgeRules) (lists : List (List State)) (made : List MadeStep) (states : List State) (n : ℕ) → n ≡ length lists → IsListOf (interned v rules (lists ++ states ∷ []) made) states n
last_there v rules lists made states n is = record { there = omega (arith, length_push lists states, is); list = ap (λ k. get_or (lists ++ states ∷ []) k []) is ∙ last_at lists states }

nodes_at : (v : TableView) (lists : List (List State)) (states : List State) → ((k : ℕ) → HaveNodes v (get_or lists k [])) → HaveNodes v states → (k : ℕ) → HaveNodes v (get_or (lists ++ states ∷ []) k [])
nodes_at v [] states nodes own zero = own
nodes_at v [] states nodes own (suc k) = tt
nodes_at v (l ∷ lists) states nodes own zero = nodes 0
nodes_at v (l ∷ lists) states nodes own (suc k) = nodes_at v lists states (λ j. nodes (suc j)) own k

pub interned_list : (v : TableView) (rules : EdgeRules) (lists : List (List State)) (made : List MadeStep) (states : List State) → IsInterned (interned v rules lists made) → HaveNodes v states → IsInterned (interned v rules (lists ++ states ∷ []) made)
interned_list v rules lists made states is own = record { nodes = nodes_at v lists states is.nodes own }

-- ---- One more step

pub made_grows : (v : TableView) (rules : EdgeRules) (lists : List (List State)) (made : List MadeStep) (x : MadeStep) → Grows (interned v rules lists made) (interned v rules lists (made ++ x ∷ []))
made_grows v rules lists made x =
    record { table = refl; rules = refl; lists = λ k within. record { there = within; list = refl }; steps = λ n within. (omega (arith, length_push made x), get_or_append_left made (x ∷ []) none_made n within) }

-- ---- What is read of a list of lists

-- what is read is what is seen
pub memo_at : {A B : Type 0} (f : A → B) (xs : List A) (k : ℕ) (x : A) (e : B) → k < length (map f xs) → x ≡ get_or xs k x → f x ≡ get_or (map f xs) k e
memo_at f xs k x e within is = ap f is ∙ sym (get_or-map f xs k x e (omega (arith, length-map xs f)))

pub seen_there : {A : Type 0} (f : A → List State) (v : TableView) (rules : EdgeRules) (xs ys : List A) (made : List MadeStep) (states other : List State) (k : ℕ) (d : A)
    → ys ≡ xs → other ≡ states → k < length ys → f (get_or ys k d) ≡ other → IsListOf (interned v rules (map f xs) made) states k
seen_there f v rules xs ys made states other k d same like within is =
    let inside : k < length xs = subst (λ zs. k < length zs) same within in
    record { there = omega (arith, length-map xs f); list = get_or-map f xs k d [] inside ∙ ap (λ zs. f (get_or zs k d)) (sym same) ∙ is ∙ like }

pub some_list : {A : Type 0} (f : A → List State) (v : TableView) (rules : EdgeRules) (xs ys : List A) (made : List MadeStep) (states other : List State) (d : A) (found : Option ℕ)
    → ys ≡ xs → other ≡ states → IfSome found (λ k. k < length ys) → IfSome found (HoldsAt (λ l. f l ≡ other) ys) → IfSome found (IsListOf (interned v rules (map f xs) made) states)
some_list f v rules xs ys made states other d None same like there is = tt
some_list f v rules xs ys made states other d (Some k) same like there is = seen_there f v rules xs ys made states other k d same like there (is d)
