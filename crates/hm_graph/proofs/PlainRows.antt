-- Rows of plain characters.
use Rattle.std.proofs.Common.{◌≡◌, ℕ, zero, suc, ◌+◌, ◌<◌, Bool, List, [], length, get_or, take, Option, Some, None, sym, subst, refl, arith}
use Rattle.std.proofs.Math.ListN.{replicate}
use Rattle.std.proofs.lemmas.List.{take_more}
use Rattle.std.proofs.lemmas.List.Elements.{All-push}
use Rattle.std.specs.List.{All}
use Rattle.std.specs.Option.{IfSome}
use Rattle.hm_edges.specs.declared.units.Unit.TheVariants.{Character}
use Rattle.hm_graph.specs.Interned.{IsKnown, IsRow, IsStepOf, IsToward, InternedView, Leads, made_at, unknown}
use Rattle.hm_graph.specs.declared.made.Reached.{Reached}
use Rattle.hm_graph.specs.declared.plain.PlainRow.{PlainRow}

pub none_known : (n c : ℕ) → get_or (replicate n unknown) c unknown ≡ unknown
none_known zero c = refl
none_known (suc n) zero = refl
none_known (suc n) (suc c) = none_known n c

-- a row in which nothing is known
pub unknown_row : (m : InternedView) (more : Bool) (x : PlainRow) → ((c : ℕ) → get_or x.steps.items c unknown ≡ unknown) → IsRow m more x
unknown_row m more x none = λ c known. let low : 4294967295 < 4294967295 = subst (λ to. to.number < 4294967295) (none c) known in absurd (omega (arith, low))

all_none : (P : ℕ → Type 0) → All P []
all_none P = λ k d within. absurd (omega (arith, within))

pub all_first : (P : ℕ → Type 0) (text : List ℕ) → 0 < length text → P (get_or text 0 0) → All P (take 1 text)
all_first P text some own = subst (All P) (sym (take_more text 0 0 some)) (All-push P [] (get_or text 0 0) (all_none P) own)

pub some_weaker : {A : Type 0} (o : Option A) (P Q : A → Type 0) → ((a : A) → P a → Q a) → IfSome o P → IfSome o Q
some_weaker None P Q f is = tt
some_weaker (Some a) P Q f is = f a is

-- one more of a text
all_more : (P : ℕ → Type 0) (text : List ℕ) (n m : ℕ) → m ≡ n + 1 → n < length text → P (get_or text n 0) → All P (take n text) → All P (take m text)
all_more P text n m is within own are = subst (λ k. All P (take k text)) (sym is) (subst (All P) (sym (take_more text n 0 within)) (All-push P (take n text) (get_or text n 0) are own))

-- four more
pub all_four : (P : ℕ → Type 0) (text : List ℕ) (n : ℕ) → n + 4 < length text → P (get_or text n 0) → P (get_or text (n + 1) 0) → P (get_or text (n + 2) 0) → P (get_or text (n + 3) 0) → All P (take n text) → All P (take (n + 4) text)
all_four P text n within a b c d are =
    all_more P text (n + 3) (n + 4) (omega arith) (omega arith) d (all_more P text (n + 2) (n + 3) (omega arith) (omega arith) c (all_more P text (n + 1) (n + 2) (omega arith) (omega arith) b (all_more P text n (n + 1) refl (omega arith) a are)))

-- characters whose places have the step of the first one lead where it does
pub toward_leads : (m : InternedView) (more : Bool) (x : PlainRow) (to : Reached) (first : ℕ) (cs : List ℕ) → IsRow m more x → IsKnown to → to ≡ get_or x.steps.items first unknown → All (IsToward x.steps.items to) cs → All (Leads m x.list x.kind more to) cs
toward_leads m more x to first cs row known is toward = λ k d within.
    let c : ℕ = get_or cs k d in
    let same : (get_or x.steps.items c unknown).number ≡ to.number = toward k d within in
    let own : Leads m x.list x.kind more (get_or x.steps.items c unknown) c = row c (subst (λ n. n < 4294967295) (sym same) known) in
    let begin : Leads m x.list x.kind more (get_or x.steps.items first unknown) first = row first (subst IsKnown is known) in
    record { ascii = own.ascii; from = own.from; step = subst (IsStepOf m x.list (Character x.kind c None more)) same own.step; after = subst (λ r. r.after ≡ (made_at m r.number).after) (sym is) begin.after; lone = own.lone }

-- the first one alone
pub first_leads : (m : InternedView) (more : Bool) (x : PlainRow) (to : Reached) (text : List ℕ) → IsRow m more x → IsKnown to → to ≡ get_or x.steps.items (get_or text 0 0) unknown → 0 < length text → All (Leads m x.list x.kind more to) (take 1 text)
first_leads m more x to text row known is some =
    all_first (Leads m x.list x.kind more to) text some (subst (λ r. Leads m x.list x.kind more r (get_or text 0 0)) (sym is) (row (get_or text 0 0) (subst IsKnown is known)))

-- none of them
pub none_leads : (m : InternedView) (more : Bool) (x : PlainRow) (to : Reached) (text : List ℕ) (n : ℕ) → n ≡ 0 → All (Leads m x.list x.kind more to) (take n text)
none_leads m more x to text n none = subst (λ k. All (Leads m x.list x.kind more to) (take k text)) (sym none) (all_none (Leads m x.list x.kind more to))
