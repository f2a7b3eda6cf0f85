-- The first way, unit by unit.
use Rattle.std.proofs.Common.{◌≡◌, ◌∙◌, ℕ, ◌+◌, ◌<◌, ◌≤◌, List, [], ◌∷◌, ◌++◌, length, get_or, take, drop, chars, refl, sym, ap, subst, arith, append_assoc, append-nil}
use Rattle.std.specs.Str.{IsAscii}
use Rattle.std.proofs.lemmas.List.{drop_all, drop_more, length-append, length-take-le}
use Rattle.hm_graph.proofs.Characters.{length_characters, text_cut}
use Rattle.hm_graph.specs.Graphs.{GraphView, IsPlace}
use Rattle.hm_event_parts.proofs.UnitsLeft.{units_left-next, units_left-none}
use Rattle.hm_event_parts.specs.Events.{units_at, units_left}
use Rattle.hm_event_parts.specs.Parts.{part_units, parts_units}
use Rattle.hm_event_parts.specs.declared.parts.Part.{Part}
use Rattle.hm_graph_laws.specs.Units.{TextKind, Unit, in_text, character, character_units, next_of}
use Rattle.hm_shortest.specs.CopiedRuns.{AreCopied}
use Rattle.hm_shortest.specs.Paths.{Goes, GoesOver, IsOnWay, whole_text}
use Rattle.hm_shortest.specs.declared.paths.WrittenWay.{WrittenWay}
use Rattle.hm_graph.specs.Ways.{choices_of}
use Rattle.hm_shortest.proofs.CopiedWay.{choices_copied, text_copied}
use Rattle.hm_shortest.proofs.FirstWay.{text_last}

-- ---- From one place to another

pub goes_none : (g : GraphView) (us : List Unit) (way : WrittenWay) → IsOnWay g way → Goes g us us way way
goes_none g us way on = record { count = refl; on = on; text = λ units. refl }

pub goes_on : (g : GraphView) (from mid left : List Unit) (old between new : WrittenWay) → Goes g from mid old between → Goes g mid left between new → Goes g from left old new
goes_on g from mid left old between new one more = record { count = omega (arith, one.count, more.count); on = more.on; text = λ units. one.text units ∙ more.text units }

-- with more units after them
pub goes_front : (g : GraphView) (us more : List Unit) (old new : WrittenWay) → Goes g us [] old new → Goes g (us ++ more) more old new
goes_front g us more old new one =
    record { count = omega (arith, one.count, length-append us more); on = one.on; text = λ units. ap (λ x. whole_text g x old) (append_assoc us more units) ∙ one.text (more ++ units) }

-- ---- Characters

pub text_on : (g : GraphView) (cs mid left : List ℕ) (old between new : WrittenWay) → GoesOver g cs mid old between → GoesOver g mid left between new → GoesOver g cs left old new
text_on g cs mid left old between new one more kind = goes_on g (character_units kind cs) (character_units kind mid) (character_units kind left) old between new (one kind) (more kind)

pub text_inside : (g : GraphView) (cs left : List ℕ) (old new : WrittenWay) → GoesOver g cs left old new → old.at.layer + length cs ≤ length g.steps → new.at.layer + length left ≤ length g.steps
text_inside g cs left old new goes inside = omega (arith, (goes in_text).count, inside, length_characters in_text cs, length_characters in_text left)

-- over the first character
pub text_first : (g : GraphView) (cs left : List ℕ) (c : ℕ) (old new : WrittenWay) → cs ≡ c ∷ left → ((kind : TextKind) → Goes g (character kind c (next_of left) ∷ []) [] old new) → GoesOver g cs left old new
text_first g cs left c old new cut one kind =
    subst (λ x. Goes g (character_units kind x) (character_units kind left) old new) (sym cut) (goes_front g (character kind c (next_of left) ∷ []) (character_units kind left) old new (one kind))

-- over all of them
pub text_all : (g : GraphView) (cs left : List ℕ) (old new : WrittenWay) → left ≡ [] → GoesOver g cs left old new → GoesOver g cs [] old new
text_all g cs left old new none goes kind = subst (λ x. Goes g (character_units kind cs) (character_units kind x) old new) none (goes kind)

-- a text has a character for each byte of ASCII that it begins with
pub front_inside : (text : List ℕ) (n k most : ℕ) → IsAscii (take n text) → k + length (chars text) ≤ most → k + length (take n text) ≤ most
front_inside text n k most ascii inside = omega (arith, inside, ap length (text_cut text n ascii), length-append (take n text) (chars (drop n text)))

-- over the first n bytes of a text, which are copied
pub front_copied : (g : GraphView) (text : List ℕ) (n : ℕ) (old new : WrittenWay) → n ≤ length text → IsAscii (take n text) → old.at.layer + length (chars text) ≤ length g.steps → IsOnWay g old → AreCopied g old.at.layer n old.place
    → IsPlace g new.at → new.at.layer ≡ old.at.layer + n → new.out.items ≡ old.out.items ++ take n text → new.place ≡ old.place → new.choices.now ≡ old.choices.now → GoesOver g (chars text) (chars (drop n text)) old new
front_copied g text n old new few ascii inside on are at layer out place choices kind =
    let left : List ℕ = chars (drop n text) in
    let cut : chars text ≡ take n text ++ left = text_cut text n ascii in
    let count : length (take n text) ≡ n = length-take-le n text few in
    let whole : length (chars text) ≡ n + length left = ap length cut ∙ length-append (take n text) left ∙ ap (λ k. k + length left) count in
    let next : new.at.layer ≡ old.at.layer + length (take n text) = omega (arith, layer, count) in
    let copied : AreCopied g old.at.layer (length (take n text)) old.place = subst (λ k. AreCopied g old.at.layer k old.place) (sym count) are in
    let room : old.at.layer + length (take n text) ≤ length g.steps = front_inside text n old.at.layer (length g.steps) ascii inside in
    record {
      count = omega (arith, layer, whole, length_characters kind (chars text), length_characters kind left);
      on = record {
        place = at;
        choices = choices ∙ on.choices ∙ choices_copied g old.at.layer (length (take n text)) old.place room copied ∙ ap (λ k. choices_of g.last (drop k g.steps)) (sym next);
      };
      text = λ units. ap (λ cs. whole_text g (character_units kind cs ++ units) old) cut ∙ text_copied g kind (take n text) left units old new room next copied ascii out place;
    }

-- ---- The parts of an event

-- the first n parts are written
abbrev pub PartsTaken : GraphView → List Part → ℕ → WrittenWay → WrittenWay → Type 0
PartsTaken g parts n old way = Goes g (parts_units parts) (parts_units (drop n parts)) old way

pub part_inside : (g : GraphView) (parts : List Part) (n : ℕ) (none : Part) (old way : WrittenWay) → n < length parts → old.at.layer + length (parts_units parts) ≤ length g.steps → PartsTaken g parts n old way
    → way.at.layer + length (part_units (get_or parts n none)) ≤ length g.steps
part_inside g parts n none old way more inside taken =
    let part : Part = get_or parts n none in
    omega (arith, inside, taken.count, ap (λ x. length (parts_units x)) (drop_more parts n none more), length-append (part_units part) (parts_units (drop (n + 1) parts)))

pub part_taken : (g : GraphView) (parts : List Part) (n : ℕ) (none : Part) (old between new : WrittenWay) → n < length parts → PartsTaken g parts n old between → Goes g (part_units (get_or parts n none)) [] between new → PartsTaken g parts (n + 1) old new
part_taken g parts n none old between new more taken one =
    let part : Part = get_or parts n none in
    let after : List Unit = parts_units (drop (n + 1) parts) in
    goes_on g (parts_units parts) (parts_units (drop n parts)) after old between new taken
    (subst (λ x. Goes g (parts_units x) after between new) (sym (drop_more parts n none more)) (goes_front g (part_units part) after between new one))

pub parts_all : (g : GraphView) (parts : List Part) (n : ℕ) (old new : WrittenWay) → length parts ≤ n → PartsTaken g parts n old new → Goes g (parts_units parts) [] old new
parts_all g parts n old new past taken = subst (λ x. Goes g (parts_units parts) (parts_units x) old new) (drop_all n parts past) taken

-- ---- The events of a tree

-- the units that are left at an event
abbrev pub left_at : GraphView → ℕ → List Unit
left_at g i = units_left g.source.rules g.source.tree i

-- the events before event i are written
abbrev pub EventsTaken : GraphView → WrittenWay → ℕ → WrittenWay → Type 0
EventsTaken g start i way = Goes g (left_at g 0) (left_at g i) start way

pub event_inside : (g : GraphView) (start : WrittenWay) (i : ℕ) (parts : List Part) (way : WrittenWay) → start.at.layer + length (left_at g 0) ≤ length g.steps → i < length g.source.tree → parts_units parts ≡ units_at g.source.rules g.source.tree i
    → EventsTaken g start i way → way.at.layer + length (parts_units parts) ≤ length g.steps
event_inside g start i parts way whole inside are taken =
    omega (arith, whole, taken.count, ap length (units_left-next g.source.rules g.source.tree i inside), length-append (units_at g.source.rules g.source.tree i) (left_at g (i + 1)), ap length are)

pub event_taken : (g : GraphView) (start : WrittenWay) (i : ℕ) (parts : List Part) (between new : WrittenWay) → i < length g.source.tree → parts_units parts ≡ units_at g.source.rules g.source.tree i → EventsTaken g start i between
    → Goes g (parts_units parts) [] between new → EventsTaken g start (i + 1) new
event_taken g start i parts between new inside are taken one =
    let rest : List Unit = left_at g (i + 1) in
    let next : left_at g i ≡ parts_units parts ++ rest = units_left-next g.source.rules g.source.tree i inside ∙ ap (λ x. x ++ rest) (sym are) in
    goes_on g (left_at g 0) (left_at g i) rest start between new taken (subst (λ x. Goes g x rest between new) (sym next) (goes_front g (parts_units parts) rest between new one))

-- all of them
pub all_events : (g : GraphView) (start : WrittenWay) (i : ℕ) (way : WrittenWay) → i ≡ length g.source.tree → EventsTaken g start i way → whole_text g (left_at g 0) start ≡ way.out.items
all_events g start i way past taken =
    let none : left_at g i ≡ [] = ap (left_at g) past ∙ units_left-none g.source.rules g.source.tree in
    ap (λ x. whole_text g x start) (sym (append-nil (left_at g 0))) ∙ taken.text [] ∙ ap (λ x. whole_text g (x ++ []) way) none ∙ text_last g way
