-- The steps of a run of characters of which it is known where they lead.
use Rattle.std.proofs.Common.{◌≡◌, ◌∙◌, ℕ, suc, ◌+◌, ◌<◌, ◌≤◌, ◌^◌, true, List, [], ◌∷◌, ◌++◌, length, take, drop, chars, Option, Some, None, refl, sym, ap, subst, arith, append_assoc, length-append}
use Rattle.std.specs.List.{All}
use Rattle.std.specs.Prelude.{encode_utf8_all, slice_get}
use Rattle.std.specs.Str.{IsAscii, IsCharBoundary, IsUtf8}
use Rattle.std.proofs.Math.ListN.{replicate}
use Rattle.std.proofs.lemmas.List.{length-take-le, take-append-drop}
use Rattle.std.proofs.lemmas.Str.Ascii.{IsAscii-from_all}
use Rattle.std.proofs.lemmas.Str.{IsCharBoundary-from_take, IsUtf8-drop, IsUtf8-from_ascii, chars-IsAscii, chars-append, encodes-chars}
use Rattle.hm_edges.specs.Units as edges
use Rattle.hm_edges.specs.Units.{StandsFor, kind_of}
use Rattle.hm_edges.specs.declared.units.TextKind as code
use Rattle.hm_edges.specs.declared.units.Unit.{Unit}
use Rattle.hm_edges.specs.declared.units.Unit.TheVariants.{Character}
use Rattle.hm_graph_laws.specs.Units as units
use Rattle.hm_graph_laws.specs.Units.{TextKind, character_units, next_of}
use Rattle.hm_graph.specs.Building.{BuildingView, AddsSteps, AddsFront, IsBuilding, IsMade, building, more_numbers}
use Rattle.hm_graph.specs.Steps.{Step}
use Rattle.hm_graph.specs.Interned.{InternedView, Grows, Leads, made_at}
use Rattle.hm_graph.specs.declared.made.Reached.{Reached}
use Rattle.hm_graph.proofs.Built.{adds_on, adds_one, building_more}

-- ---- Texts

-- a text that begins with these characters of ASCII
pub text_cut : (text : List ℕ) (n : ℕ) → IsAscii (take n text) → chars text ≡ take n text ++ chars (drop n text)
text_cut text n ascii =
    ap chars (sym (take-append-drop n text)) ∙ chars-append (take n text) (drop n text) (IsUtf8-from_ascii (take n text) ascii) ∙ ap (λ x. x ++ chars (drop n text)) (chars-IsAscii (take n text) ascii)

pub ascii_boundary : (text : List ℕ) (n : ℕ) → IsUtf8 text → n ≤ length text → IsAscii (take n text) → IsCharBoundary text n
ascii_boundary text n utf8 inside ascii = IsCharBoundary-from_take text n utf8 inside (IsUtf8-from_ascii (take n text) ascii)

some_of : (text cs : List ℕ) → chars text ≡ cs → IsUtf8 text → 0 < length text → 0 < length cs
some_of text [] is utf8 some = absurd (omega (arith, some, ap length (sym (encodes-chars text utf8) ∙ ap encode_utf8_all is)))
some_of text (c ∷ cs) is utf8 some = omega arith

-- a text with a byte has a character
pub some_chars : (text : List ℕ) → IsUtf8 text → 0 < length text → 0 < length (chars text)
some_chars text utf8 some = some_of text (chars text) refl utf8 some

-- there is a unit for each character
pub length_characters : (kind : TextKind) (cs : List ℕ) → length (character_units kind cs) ≡ length cs
length_characters kind [] = refl
length_characters kind (c ∷ cs) = omega (arith, length_characters kind cs)

-- ---- Prefixes

pub front_on : (a b d : BuildingView) (kind : TextKind) (cs mid rest : List ℕ) (steps more : List Step) → AddsFront a b kind cs mid steps → AddsFront b d kind mid rest more → AddsFront a d kind cs rest (steps ++ more)
front_on a b d kind cs mid rest steps more one on =
    record {
      done = one.done ++ on.done;
      adds = adds_on a b d one.done on.done steps more one.adds on.adds;
      whole = append_assoc one.done on.done (character_units kind rest) ∙ ap (λ us. one.done ++ us) on.whole ∙ one.whole;
    }

pub front_one : (a b : BuildingView) (kind : TextKind) (c : ℕ) (rest : List ℕ) (step : Step) → AddsSteps a b (units.character kind c (next_of rest) ∷ []) (step ∷ []) → AddsFront a b kind (c ∷ rest) rest (step ∷ [])
front_one a b kind c rest step one = record { done = units.character kind c (next_of rest) ∷ []; adds = one; whole = refl }

pub first_of : (cs : List ℕ) → slice_get cs 0 ≡ next_of cs
first_of [] = refl
first_of (c ∷ cs) = refl

-- ---- Characters of which it is known where they lead

pub grows_self : (m : InternedView) → Grows m m
grows_self m = record { table = refl; rules = refl; lists = λ k within. record { there = within; list = refl }; steps = λ n within. (within, refl) }

-- the step was added `count` times, and leads to the list `after`
pub record RunAdded (m : InternedView) (numbers : Option (List ℕ)) (len last after : ℕ) (kind : TextKind) (n count : ℕ) (cs rest : List ℕ) : Type 0 where
  pub is : IsBuilding m (more_numbers numbers count n) (len + count) after
  pub front : AddsFront (building m numbers len last) (building m (more_numbers numbers count n) (len + count) after) kind cs rest (replicate count (made_at m n).step)

one_added : (m : InternedView) (numbers : Option (List ℕ)) (len last : ℕ) (kind : code.TextKind) (to : Reached) (c next : ℕ) (rest : List ℕ) → next_of rest ≡ Some next → IsBuilding m numbers len last → Leads m last kind true to c → len + 1 < 2 ^ 29
    → RunAdded m numbers len last to.after (kind_of kind) to.number 1 (c ∷ rest) rest
one_added m numbers len last kind to c next rest is_next is own few =
    let unit : Unit = Character kind c None true in
    let n : ℕ = to.number in
    let step : Step = (made_at m n).step in
    let u : units.Unit = units.character (kind_of kind) c (next_of rest) in
    let lone : None ≡ edges.pair_of m.table.entries c (Some next) = rw (own.lone refl next) refl in
    let stands : StandsFor m.table.entries unit u = subst (λ x. StandsFor m.table.entries unit (units.character (kind_of kind) c x)) (sym is_next) (edges.character kind c None (Some next) true lone refl) in
    let adds : AddsSteps (building m numbers len last) (building m (more_numbers numbers 1 n) (len + 1) to.after) (u ∷ []) (step ∷ []) =
    subst (λ b. AddsSteps (building m numbers len last) (building m (more_numbers numbers 1 n) (len + 1) b) (u ∷ []) (step ∷ [])) (sym own.after) (adds_one m m numbers len last unit n is (grows_self m) own.step u stands) in
    record {
      is = building_more m m numbers len 1 last n to.after is (grows_self m) own.step.there (subst (λ b. b < length m.lists) (sym own.after) own.step.after) few;
      front = front_one (building m numbers len last) (building m (more_numbers numbers 1 n) (len + 1) to.after) (kind_of kind) c rest step adds;
    }

numbers_twice : (numbers : Option (List ℕ)) (k n : ℕ) → more_numbers (more_numbers numbers 1 n) (suc k) n ≡ more_numbers numbers (suc (suc k)) n
numbers_twice None k n = refl
numbers_twice (Some numbers) k n = ap Some (append_assoc numbers (n ∷ []) (replicate (suc k) n))

run_added : (m : InternedView) (numbers : Option (List ℕ)) (len last : ℕ) (kind : code.TextKind) (to : Reached) (c : ℕ) (front : List ℕ) (d : ℕ) (ds : List ℕ) → IsBuilding m numbers len last → All (Leads m last kind true to) (c ∷ front)
    → (0 < length front → to.after ≡ last) → len + suc (length front) < 2 ^ 29 → RunAdded m numbers len last to.after (kind_of kind) to.number (suc (length front)) (c ∷ front ++ d ∷ ds) (d ∷ ds)
run_added m numbers len last kind to c [] d ds is leads back few = one_added m numbers len last kind to c d (d ∷ ds) refl is (leads 0 0 (omega arith)) (omega (arith, few))
run_added m numbers len last kind to c (e ∷ front) d ds is leads back few =
    let n : ℕ = to.number in
    let step : Step = (made_at m n).step in
    let k : ℕ = length front in
    let one_more : Option (List ℕ) = more_numbers numbers 1 n in
    let same_list : to.after ≡ last = back (omega arith) in
    let one : RunAdded m numbers len last to.after (kind_of kind) n 1 (c ∷ e ∷ front ++ d ∷ ds) (e ∷ front ++ d ∷ ds) = one_added m numbers len last kind to c e (e ∷ front ++ d ∷ ds) refl is (leads 0 0 (omega arith)) (omega (arith, few)) in
    let own : IsBuilding m one_more (len + 1) last = subst (IsBuilding m one_more (len + 1)) same_list one.is in
    let more : RunAdded m one_more (len + 1) last to.after (kind_of kind) n (suc k) (e ∷ front ++ d ∷ ds) (d ∷ ds) =
    run_added m one_more (len + 1) last kind to e front d ds own (λ j f within. leads (suc j) f (omega (arith, within))) (λ some. same_list) (omega (arith, few)) in
    let first : AddsFront (building m numbers len last) (building m one_more (len + 1) last) (kind_of kind) (c ∷ e ∷ front ++ d ∷ ds) (e ∷ front ++ d ∷ ds) (step ∷ []) =
    subst (λ b. AddsFront (building m numbers len last) (building m one_more (len + 1) b) (kind_of kind) (c ∷ e ∷ front ++ d ∷ ds) (e ∷ front ++ d ∷ ds) (step ∷ [])) same_list one.front in
    let same : more_numbers one_more (suc k) n ≡ more_numbers numbers (suc (suc k)) n = numbers_twice numbers k n in
    let count : (len + 1) + suc k ≡ len + suc (suc k) = omega arith in
    let whole : AddsFront (building m numbers len last) (building m (more_numbers one_more (suc k) n) ((len + 1) + suc k) to.after) (kind_of kind) (c ∷ e ∷ front ++ d ∷ ds) (d ∷ ds) (replicate (suc (suc k)) step) =
    front_on (building m numbers len last) (building m one_more (len + 1) last) (building m (more_numbers one_more (suc k) n) ((len + 1) + suc k) to.after) (kind_of kind) (c ∷ e ∷ front ++ d ∷ ds) (e ∷ front ++ d ∷ ds) (d ∷ ds) (step ∷ []) (replicate (suc k) step) first
    more.front in
    record {
      is = subst (λ A. A) (λ i. IsBuilding m (same i) (count i) to.after) more.is;
      front = subst (λ A. A) (λ i. AddsFront (building m numbers len last) (building m (same i) (count i) to.after) (kind_of kind) (c ∷ e ∷ front ++ d ∷ ds) (d ∷ ds) (replicate (suc (suc k)) step)) whole;
    }

all_ascii : (m : InternedView) (last : ℕ) (kind : code.TextKind) (to : Reached) (front : List ℕ) → All (Leads m last kind true to) front → All (λ c. c < 128) front
all_ascii m last kind to front leads = λ k d within. (leads k d within).ascii

-- characters of which it is known where they lead are of ASCII
pub lead_ascii : (m : InternedView) (last : ℕ) (kind : code.TextKind) (to : Reached) (front : List ℕ) → All (Leads m last kind true to) front → IsAscii front
lead_ascii m last kind to front leads = IsAscii-from_all front (all_ascii m last kind to front leads)

before_more : (m : InternedView) (numbers : Option (List ℕ)) (len last : ℕ) (kind : code.TextKind) (to : Reached) (front rest : List ℕ) → 0 < length front → 0 < length rest → IsBuilding m numbers len last → All (Leads m last kind true to) front
    → (1 < length front → to.after ≡ last) → len + length front < 2 ^ 29 → RunAdded m numbers len last to.after (kind_of kind) to.number (length front) (front ++ rest) rest
before_more m numbers len last kind to [] rest some more is leads back few = absurd (omega (arith, some))
before_more m numbers len last kind to (c ∷ front) [] some more is leads back few = absurd (omega (arith, more))
before_more m numbers len last kind to (c ∷ front) (d ∷ ds) some more is leads back few = run_added m numbers len last kind to c front d ds is leads (λ others. back (omega (arith, others))) few

-- a prefix of a text, with more after it
pub text_added : (m : InternedView) (numbers : Option (List ℕ)) (len last : ℕ) (kind : code.TextKind) (to : Reached) (text : List ℕ) (count : ℕ) → IsUtf8 text → 0 < count → count < length text → (1 < count → to.after ≡ last) → IsBuilding m numbers len last
    → All (Leads m last kind true to) (take count text) → len + count < 2 ^ 29 → RunAdded m numbers len last to.after (kind_of kind) to.number count (chars text) (chars (drop count text))
text_added m numbers len last kind to text count utf8 some short back is leads few =
    let ascii : IsAscii (take count text) = lead_ascii m last kind to (take count text) leads in
    let inside : count ≤ length text = omega (arith, short) in
    let size : length (take count text) ≡ count = length-take-le count text inside in
    let rest : IsUtf8 (drop count text) = IsUtf8-drop text count utf8 (ascii_boundary text count utf8 inside ascii) in
    let more : 0 < length (chars (drop count text)) = some_chars (drop count text) rest (omega (arith, short, ap length (take-append-drop count text), length-append (take count text) (drop count text), size)) in
    subst (λ cs. RunAdded m numbers len last to.after (kind_of kind) to.number count cs (chars (drop count text))) (sym (text_cut text count ascii))
    (subst (λ i. RunAdded m numbers len last to.after (kind_of kind) to.number i (take count text ++ chars (drop count text)) (chars (drop count text))) size
    (before_more m numbers len last kind to (take count text) (chars (drop count text)) (omega (arith, some, size)) more is leads (λ others. back (omega (arith, others, size))) (omega (arith, few, size))))

-- their step was made
pub alike_made : (m : InternedView) (numbers : Option (List ℕ)) (len last after : ℕ) (kind : code.TextKind) (to : Reached) (text : List ℕ) (count : ℕ) → 0 < count → count ≤ length text → All (Leads m last kind true to) (take count text)
    → IsMade (building m numbers len after) to.number
alike_made m numbers len last after kind to text count some inside leads =
    let first : Leads m last kind true to _ = leads 0 0 (omega (arith, some, length-take-le count text inside)) in
    record { there = first.step.there; named = first.step.layer.named; low = first.step.layer.low }
