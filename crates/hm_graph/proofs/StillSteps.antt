-- Going back over steps over which no state changes its place.
use Rattle.std.proofs.Common.{◌≡◌, ◌∙◌, ℕ, zero, suc, ◌+◌, ◌-◌, ◌*◌, ◌<◌, ◌≤◌, ◌^◌, true, List, [], ◌∷◌, length, get_or, drop, refl, sym, ap, subst, arith, ⊎_elim}
use Rattle.std.proofs.Math.Nat.{mul-le-mul_left}
use Rattle.std.proofs.lemmas.Bool.{cases_lt}
use Rattle.std.proofs.lemmas.List.{drop_more}
use Rattle.hm_base.specs.declared.plain.Format.{Format}
use Rattle.hm_graph.specs.StillRuns.{AreStillOver}
use Rattle.hm_graph_laws.specs.Layers.{is_single}
use Rattle.hm_graph.specs.declared.hops.Hop.{Hop}
use Rattle.hm_graph.specs.Steps.{Step, is_forced, leaves_out}
use Rattle.hm_graph.specs.Still.{AreStill, Stays}

more_bytes : (n own len : ℕ) → len + suc n * own ≡ own + (len + n * own)
more_bytes n own len = grind arith

-- `n` more steps before, which are equal
pub still_more : (format : Format) (steps : List Step) (k n most width own len : ℕ) (step : Step) → k + n ≤ length steps → ((j : ℕ) → k ≤ j → j < k + n → get_or steps j [] ≡ step) → length step ≡ width → leaves_out format step ≡ true → AreStill own step
    → AreStillOver format (drop (k + n) steps) most width len → AreStillOver format (drop k steps) (n + most) width (len + n * own)
still_more format steps k zero most width own len step inside are same out still h =
    let here : k + 0 ≡ k = omega arith in
    let count : most ≡ 0 + most = omega arith in
    let bytes : len ≡ len + 0 * own = omega arith in
    subst (λ A. A) (λ i. AreStillOver format (drop (here i) steps) (count i) width (bytes i)) h
still_more format steps k (suc n) most width own len step inside are same out still h =
    let next : k + suc n ≡ suc k + n = omega arith in
    let more : AreStillOver format (drop (suc k) steps) (n + most) width (len + n * own) =
    still_more format steps (suc k) n most width own len step (omega (arith, inside)) (λ j low high. are j (omega (arith, low)) (omega (arith, high))) same out still (subst (λ j. AreStillOver format (drop j steps) most width len) next h) in
    let first : get_or steps k [] ≡ step = are k (omega arith) (omega arith) in
    let after : suc k ≡ k + 1 = omega arith in
    let cut : drop k steps ≡ step ∷ drop (suc k) steps = drop_more steps k [] (omega (arith, inside)) ∙ (λ i. first i ∷ drop (sym after i) steps) in
    let count : suc (n + most) ≡ suc n + most = omega arith in
    subst (λ A. A) (λ i. AreStillOver format (sym cut i) (count i) width (len + suc n * own)) (own, len + n * own, more_bytes n own len, same, out, still, more)

-- over the step before a layer and the steps before that one which are equal
pub back_over : (format : Format) (steps : List Step) (at front next to width own len : ℕ) (step : Step) → step ≡ get_or steps next [] → next + 1 ≡ front → front ≤ at → at ≤ length steps → to ≤ next → ((j : ℕ) → to ≤ j → j < next → get_or steps j [] ≡ get_or steps next [])
    → length step ≡ width → leaves_out format step ≡ true → AreStill own step → AreStillOver format (drop front steps) (at - front) width len → AreStillOver format (drop to steps) (at - to) width (len + (next - to + 1) * own)
back_over format steps at front next to width own len step is one before inside low are same out still h =
    let n : ℕ = next - to + 1 in
    let end : to + n ≡ front = omega (arith, low, one) in
    let count : n + (at - front) ≡ at - to = omega (arith, low, one, before) in
    let each : (j : ℕ) → to ≤ j → j < to + n → get_or steps j [] ≡ step =
    λ j l high. ⊎_elim (λ earlier. are j l earlier ∙ sym is) (λ last. let here : j ≡ next = omega (arith, last, high, low) in ap (λ i. get_or steps i []) here ∙ sym is) (cases_lt j next) in
    subst (λ m. AreStillOver format (drop to steps) m width (len + n * own)) count
    (still_more format steps to n (at - front) width own len step (omega (arith, end, before, inside)) each same out still (subst (λ j. AreStillOver format (drop j steps) (at - front) width len) (sym end) h))

-- the bytes of `count` layers stay low
low_bytes : (count own : ℕ) → own < 2 ^ 33 → count * own ≤ count * 2 ^ 33
low_bytes count own low = mul-le-mul_left count (omega (arith, low))

pub more_low : (at front next to own len : ℕ) → next + 1 ≡ front → front ≤ at → to ≤ next → own < 2 ^ 33 → len ≤ (at - front) * 2 ^ 33 → len + (next - to + 1) * own ≤ (at - to) * 2 ^ 33
more_low at front next to own len one before low few h = omega (arith, one, before, low, h, low_bytes (next - to + 1) own few)

-- ---- A state that doesn't change its place has one hop

single_of : (len place : ℕ) (hops : List Hop) → Stays len place hops → is_single hops ≡ true
single_of len place [] stays = absurd stays
single_of len place (h ∷ []) stays = refl
single_of len place (h ∷ g ∷ hops) stays = absurd stays

all_single : (step : Step) → ((place : ℕ) → place < length step → is_single (get_or step place []) ≡ true) → is_forced step ≡ true
all_single [] each = refl
all_single (hops ∷ step) each =
    let first : is_single hops ≡ true = each 0 (omega arith) in
    rw first (all_single step (λ place inside. each (suc place) (omega (arith, inside))))

pub still_forced : (step : Step) (len : ℕ) → AreStill len step → is_forced step ≡ true
still_forced step len still = all_single step (λ place inside. single_of len place (get_or step place []) (still place inside))
