-- A visitor while steps are added, step by step.
use Rattle.std.proofs.Common.{◌≡◌, ◌==◌, ◌∙◌, true, false, ℕ, ◌+◌, ◌<◌, ◌≤◌, List, [], ◌∷◌, ◌++◌, length, get_or, take, drop, chars, Option, Some, refl, sym, ap, subst, append_assoc, append-nil, arith}
use Rattle.std.specs.Prelude.{encode_utf8, slice_get}
use Rattle.std.specs.Str.{IsAscii, IsUtf8}
use Rattle.std.proofs.Math.ListN.{replicate}
use Rattle.std.proofs.lemmas.Bool.Decides.{Decides-eqb}
use Rattle.std.proofs.lemmas.List.{drop_all, drop_more, length-take-le}
use Rattle.std.proofs.lemmas.Option.{slice_get_within, get_or_from_slice_get}
use Rattle.std.proofs.lemmas.Str.{chars_past_char}
use Rattle.hm_base.specs.Walks.{Attribute, Event}
use Rattle.hm_event_parts.proofs.AttributeUnits.{first_alone}
use Rattle.hm_event_parts.specs.Events.{units_at, units_left}
use Rattle.hm_event_parts.proofs.UnitsLeft.{units_left-next, units_left-none}
use Rattle.hm_refs.specs.Names.{Entry}
use Rattle.hm_refs.specs.Tables.{TableView}
use Rattle.hm_graph.specs.Steps.{Step}
use Rattle.hm_graph_laws.specs.Units.{TextKind, Unit, attribute_end, attribute_name, attribute_units, bare_attribute, character, character_units, in_value, next_of, units_of}
use Rattle.hm_graph.specs.Going.{Goes, GoesOver}
use Rattle.hm_graph.specs.Building.{AddsFront, AddsSteps, BuildingView, IsMade, numbered_step}
use Rattle.hm_graph.specs.Graphs.{IsLowStep, IsNamedStep}
use Rattle.hm_graph.specs.declared.along.Along.{Along}
use Rattle.hm_base.specs.declared.plain.SpellRules.{SpellRules}
use Rattle.hm_graph.proofs.Built.{adds_none, adds_on}
use Rattle.hm_graph.proofs.Characters.{first_of, text_cut}

-- ---- Steps that were made

pub named_by : (v : TableView) (b : BuildingView) (n : ℕ) (step : Step) → v ≡ b.table → step ≡ numbered_step b n → IsMade b n → IsNamedStep v.entries step
named_by v b n step table is made = subst (λ A. A) (λ i. IsNamedStep (sym table i).entries (sym is i)) made.named

pub low_by : (b : BuildingView) (n : ℕ) (step : Step) → step ≡ numbered_step b n → IsMade b n → IsLowStep step
low_by b n step is made = subst IsLowStep (sym is) made.low

pub adds_by : (a b : BuildingView) (us : List Unit) (n : ℕ) (step : Step) → step ≡ numbered_step b n → AddsSteps a b us (numbered_step b n ∷ []) → AddsSteps a b us (step ∷ [])
adds_by a b us n step is adds = subst (λ s. AddsSteps a b us (s ∷ [])) (sym is) adds

pub front_by : (a b : BuildingView) (kind : TextKind) (cs rest : List ℕ) (count n : ℕ) (step : Step) → step ≡ numbered_step b n → AddsFront a b kind cs rest (replicate count (numbered_step b n)) → AddsFront a b kind cs rest (replicate count step)
front_by a b kind cs rest count n step is adds = subst (λ s. AddsFront a b kind cs rest (replicate count s)) (sym is) adds

-- what is so by one table is so by the same table
pub by_table : {V : Type 0} (C : List Entry → List Unit → List Step → V → Type 0) (v w : TableView) (us vs : List Unit) (xs ys : List Step) (one other : V) → w ≡ v → (C w.entries us xs one → C w.entries vs ys other) → C v.entries us xs one
    → C v.entries vs ys other
by_table C v w us vs xs ys one other same h = subst (λ x. C x.entries us xs one → C x.entries vs ys other) same h

-- ---- From one place to another

pub goes_none : {V : Type 0} (C : V → List Entry → List Unit → List Step → V → Type 0) (us : List Unit) (a : Along V) → Goes C us us a a
goes_none C us a = record { done = []; added = []; adds = adds_none a.graph; whole = refl; on = λ end units steps h. h }

pub goes_on : {V : Type 0} (C : V → List Entry → List Unit → List Step → V → Type 0) (from mid left : List Unit) (a b d : Along V) → Goes C from mid a b → Goes C mid left b d → Goes C from left a d
goes_on C from mid left a b d one more = record {
  done = one.done ++ more.done;
  added = one.added ++ more.added;
  adds = adds_on a.graph b.graph d.graph one.done more.done one.added more.added one.adds more.adds;
  whole = append_assoc one.done more.done left ∙ ap (λ us. one.done ++ us) more.whole ∙ one.whole;
  on = λ end units steps h.
      subst (λ s. C end a.graph.table.entries (from ++ units) s a.by) (sym (append_assoc one.added more.added steps))
      (one.on end units (more.added ++ steps)
      (subst (λ v. C end v.entries (mid ++ units) (more.added ++ steps) b.by) one.adds.table (more.on end units steps (subst (λ v. C end v.entries (left ++ units) steps d.by) (sym one.adds.table) h))));
}

-- with more units after them
pub goes_front : {V : Type 0} (C : V → List Entry → List Unit → List Step → V → Type 0) (us more : List Unit) (a b : Along V) → Goes C us [] a b → Goes C (us ++ more) more a b
goes_front C us more a b one = record {
  done = one.done;
  added = one.added;
  adds = one.adds;
  whole = ap (λ xs. xs ++ more) (sym (append-nil one.done) ∙ one.whole);
  on = λ end units steps h. subst (λ us. C end a.graph.table.entries us (one.added ++ steps) a.by) (sym (append_assoc us more units)) (one.on end (more ++ units) steps h);
}

-- over one step
pub goes_one : {V : Type 0} (C : V → List Entry → List Unit → List Step → V → Type 0) (u : Unit) (step : Step) (a b : Along V) → AddsSteps a.graph b.graph (u ∷ []) (step ∷ [])
    → ((end : V) (more : List Unit) (steps : List Step) → C end a.graph.table.entries more steps b.by → C end a.graph.table.entries (u ∷ more) (step ∷ steps) a.by) → Goes C (u ∷ []) [] a b
goes_one C u step a b adds on = record { done = u ∷ []; added = step ∷ []; adds = adds; whole = refl; on = on }

-- ---- Characters

-- over the first one, by the one after it, where there is one
pub text_first : {V : Type 0} (C : V → List Entry → List Unit → List Step → V → Type 0) (kind : TextKind) (c : ℕ) (text rest : List ℕ) (next : Option ℕ) (step : Step) (a b : Along V) → IsUtf8 text → text ≡ encode_utf8 c ++ rest → next ≡ slice_get (chars rest) 0
    → AddsSteps a.graph b.graph (character kind c next ∷ []) (step ∷ []) → ((end : V) (u : Unit) (more : List Unit) (steps : List Step) → u ≡ character kind c next → C end a.graph.table.entries more steps b.by → C end a.graph.table.entries (u ∷ more) (step ∷ steps) a.by)
    → GoesOver C kind (chars text) (chars rest) a b
text_first C kind c text rest next step a b utf8 cut is adds on =
    let left : List ℕ = chars rest in
    let unit : character kind c next ≡ character kind c (next_of left) = ap (character kind c) (is ∙ first_of left) in
    subst (λ cs. GoesOver C kind cs left a b) (sym (chars_past_char text rest c utf8 cut))
    (goes_front C (character kind c (next_of left) ∷ []) (character_units kind left) a b
    (goes_one C (character kind c (next_of left)) step a b (subst (λ u. AddsSteps a.graph b.graph (u ∷ []) (step ∷ [])) unit adds) (λ end more s. on end (character kind c (next_of left)) more s (sym unit))))

-- over the first n bytes of a text, which have the same step
pub text_alike : {V : Type 0} (C : V → List Entry → List Unit → List Step → V → Type 0) (kind : TextKind) (text : List ℕ) (n : ℕ) (step : Step) (a b : Along V) → n ≤ length text → IsAscii (take n text)
    → AddsFront a.graph b.graph kind (chars text) (chars (drop n text)) (replicate n step)
    → ((end : V) (rest : List ℕ) (more : List Unit) (steps : List Step) → C end a.graph.table.entries (character_units kind rest ++ more) steps b.by → C end a.graph.table.entries (character_units kind (take n text ++ rest) ++ more) (replicate (length (take n text)) step ++ steps) a.by)
    → GoesOver C kind (chars text) (chars (drop n text)) a b
text_alike C kind text n step a b inside ascii front on =
    let left : List ℕ = chars (drop n text) in
    let cut : chars text ≡ take n text ++ left = text_cut text n ascii in
    let count : length (take n text) ≡ n = length-take-le n text inside in
    record {
      done = front.done;
      added = replicate n step;
      adds = front.adds;
      whole = front.whole;
      on = λ end units s h. subst (λ A. A) (λ i. C end a.graph.table.entries (character_units kind (sym cut i) ++ units) (replicate (count i) step ++ s) a.by) (on end left units s h);
    }

-- over all of them
pub text_all : {V : Type 0} (C : V → List Entry → List Unit → List Step → V → Type 0) (kind : TextKind) (cs left : List ℕ) (a b : Along V) → left ≡ [] → GoesOver C kind cs left a b → GoesOver C kind cs [] a b
text_all C kind cs left a b none goes = subst (λ rest. GoesOver C kind cs rest a b) none goes

-- ---- The attributes of a tag

-- over some units and then over others
pub goes_then : {V : Type 0} (C : V → List Entry → List Unit → List Step → V → Type 0) (us vs : List Unit) (a b d : Along V) → Goes C us [] a b → Goes C vs [] b d → Goes C (us ++ vs) [] a d
goes_then C us vs a b d one two = goes_on C (us ++ vs) vs [] a b d (goes_front C us vs a b one) two

pub bare_added : {V : Type 0} (C : V → List Entry → List Unit → List Step → V → Type 0) (n v : List ℕ) (a b : Along V) → (length v == 0) ≡ true → Goes C (bare_attribute n ∷ []) [] a b → Goes C (attribute_units (record { name = n; value = v } ∷ [])) [] a b
bare_added C n [] a b none goes = goes
bare_added C n (c ∷ v) a b none goes = absurd (omega (arith, (Decides-eqb (length (c ∷ v)) 0).0 none))

pub value_added : {V : Type 0} (C : V → List Entry → List Unit → List Step → V → Type 0) (n v : List ℕ) (a b d e : Along V) → (length v == 0) ≡ false → Goes C (attribute_name n (chars v) ∷ []) [] a b → GoesOver C in_value (chars v) [] b d → Goes C (attribute_end ∷ []) [] d e
    → Goes C (attribute_units (record { name = n; value = v } ∷ [])) [] a e
value_added C n [] a b d e some opened over closed = absurd (cc)
value_added C n (c ∷ v) a b d e some opened over closed =
    let text : List Unit = character_units in_value (chars (c ∷ v)) in
    subst (λ us. Goes C us [] a e) (sym (append-nil (attribute_name n (chars (c ∷ v)) ∷ (text ++ attribute_end ∷ []))))
    (goes_then C (attribute_name n (chars (c ∷ v)) ∷ []) (text ++ attribute_end ∷ []) a b e opened (goes_then C text (attribute_end ∷ []) b d e over closed))

-- the first n attributes were added
abbrev pub AttributesAdded : {V : Type 0} → (V → List Entry → List Unit → List Step → V → Type 0) → List Attribute → ℕ → Along V → Along V → Type 0
AttributesAdded C attributes n old new = Goes C (attribute_units attributes) (attribute_units (drop n attributes)) old new

pub attribute_added : {V : Type 0} (C : V → List Entry → List Unit → List Step → V → Type 0) (attributes : List Attribute) (n : ℕ) (x : Attribute) (a b d : Along V) → slice_get attributes n ≡ Some x → AttributesAdded C attributes n a b → Goes C (attribute_units (x ∷ [])) [] b d
    → AttributesAdded C attributes (n + 1) a d
attribute_added C attributes n x a b d at added one =
    let after : List Unit = attribute_units (drop (n + 1) attributes) in
    let rest : drop n attributes ≡ x ∷ drop (n + 1) attributes = rw (drop_more attributes n x (slice_get_within attributes n x at), get_or_from_slice_get attributes n x x at) refl in
    goes_on C (attribute_units attributes) (attribute_units (drop n attributes)) after a b d added
    (subst (λ us. Goes C us after b d) (sym (ap attribute_units rest ∙ first_alone x (drop (n + 1) attributes))) (goes_front C (attribute_units (x ∷ [])) after b d one))

pub attributes_all : {V : Type 0} (C : V → List Entry → List Unit → List Step → V → Type 0) (attributes : List Attribute) (n : ℕ) (a b : Along V) → length attributes ≤ n → AttributesAdded C attributes n a b → Goes C (attribute_units attributes) [] a b
attributes_all C attributes n a b past added = subst (λ xs. Goes C (attribute_units attributes) (attribute_units xs) a b) (drop_all n attributes past) added

-- ---- The events of a tree

-- the steps of the first i events were added
abbrev pub EventsAdded : {V : Type 0} → (V → List Entry → List Unit → List Step → V → Type 0) → SpellRules → List Event → ℕ → Along V → Along V → Type 0
EventsAdded C r w i old new = Goes C (units_of r w) (units_left r w i) old new

pub events_begin : {V : Type 0} (C : V → List Entry → List Unit → List Step → V → Type 0) (r : SpellRules) (w : List Event) (a : Along V) → EventsAdded C r w 0 a a
events_begin C r w a = goes_none C (units_of r w) a

pub events_next : {V : Type 0} (C : V → List Entry → List Unit → List Step → V → Type 0) (r : SpellRules) (w : List Event) (i : ℕ) (us : List Unit) (a b d : Along V) → i < length w → us ≡ units_at r w i → EventsAdded C r w i a b → Goes C us [] b d
    → EventsAdded C r w (i + 1) a d
events_next C r w i us a b d within is some one =
    let rest : List Unit = units_left r w (i + 1) in
    let next : units_left r w i ≡ us ++ rest = units_left-next r w i within ∙ ap (λ xs. xs ++ rest) (sym is) in
    goes_on C (units_of r w) (units_left r w i) rest a b d some (subst (λ us. Goes C us rest b d) (sym next) (goes_front C us rest b d one))

pub events_all : {V : Type 0} (C : V → List Entry → List Unit → List Step → V → Type 0) (r : SpellRules) (w : List Event) (i : ℕ) (a b : Along V) → i ≡ length w → EventsAdded C r w i a b → Goes C (units_of r w) [] a b
events_all C r w i a b past some = subst (λ us. Goes C (units_of r w) us a b) (ap (units_left r w) past ∙ units_left-none r w) some
