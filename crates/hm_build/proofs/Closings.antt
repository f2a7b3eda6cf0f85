-- Where body is closed, token by token.
use Rattle.std.proofs.Common.{◌≡◌, ℕ, zero, suc, pred, ◌+◌, ◌-◌, ◌≤◌, ◌<◌, Bool, true, false, cond, List, [], ◌∷◌, length, drop, Option, Some, None, refl, sym, ap, ◌∙◌, subst, arith}
use Rattle.std.proofs.lemmas.List.{length-drop, drop-drop, length-map}
use Rattle.hm_base.specs.Source.{Source, byte_of}
use Rattle.hm_refs.specs.Names.{Entry}
use Rattle.hm_tree.specs.Lexemes.{token_of}
use Rattle.hm_tree.specs.Tokens.{Seen, seen, taken}
use Rattle.hm_tree.specs.declared.tokens.Lexeme.{Lexeme}
use Rattle.hm_tree.specs.declared.tokens.Lexeme.TheVariants as lexemes
use Rattle.hm_tree.specs.declared.tokens.Tag.{Tag}
use Rattle.hm_tree.specs.declared.tokens.Spanned.{Spanned}
use Rattle.hm_token_laws.specs.First.{Mode, at_end, after_bytes, first}
use Rattle.hm_construction_laws.proofs.Closing as staying
use Rattle.hm_construction_laws.proofs.Closing.{is_end_tag, only_end_tags_close}
use Rattle.hm_construction_laws.specs.Closing.{is_after_body, closed_step, closed_from, closed_of_source}
use Rattle.hm_construction_laws.specs.Steps.{Construction, Stepped, went, stops, step}
use Rattle.hm_construction_laws.specs.Trees.{mode_of}
use Rattle.hm_lexer.specs.Reading.{Reading, text_of, next_of, IsTaken}
use Rattle.hm_insertion.specs.Building.{Building, IsStepped, first_building}
use Rattle.hm_build.specs.Parsing.{ClosesAt, GoesOn, IsParsing, IsTurned, StaysOpen, closed_here, closed_left, first_of, place_of, reads, taken_by}
use Rattle.hm_build.specs.declared.page.Taken.TheVariants as turns

-- the bytes to skip are skipped
pub skipped : (t : List Entry) (place : ℕ → ℕ) (k at : ℕ) (st : Construction) (s : List ℕ) → k ≤ length s → closed_from t place k at st s ≡ closed_from t place 0 (at + k) st (drop k s)
skipped t place zero at st [] h = refl
skipped t place zero at st (c ∷ s) h = ap (λ i. closed_from t place 0 i st (c ∷ s)) (omega arith)
skipped t place (suc k) at st [] h = absurd (none k h)
  where
    none : (k : ℕ) → suc k ≤ length {A = ℕ} [] → ⊥
    none k h = omega arith
skipped t place (suc k) at st (c ∷ s) h =
    let more : closed_from t place k (at + 1) st s ≡ closed_from t place 0 (at + 1 + k) st (drop k s) = skipped t place k (at + 1) st s (omega arith) in
    more ∙ ap (λ i. closed_from t place 0 i st (drop k s)) (omega arith)

-- it is closed by a token, which ends at `to`, or after it
pub goes_on : (t : List Entry) (place : ℕ → ℕ) (at n to : ℕ) (st : Construction) (token : Seen) (s : List ℕ) → at < to → to ≤ at + length s
    → first t (mode_of st.path) s ≡ after_bytes n (taken token (drop (to - at) s))
    → closed_from t place 0 at st s ≡ closed_step place (at + n) (step st token) (λ next. closed_from t place 0 to next (drop (to - at) s))
goes_on t place at n to st token [] h k e = absurd (none at to h k)
  where
    none : (at to : ℕ) → at < to → to ≤ at + length {A = ℕ} [] → ⊥
    none at to h k = omega arith
goes_on t place at n to st token (c ∷ s) h k e =
    let step_is : closed_from t place 0 at st (c ∷ s) ≡ closed_step place (at + n) (step st token) (λ next. closed_from t place (pred (length (c ∷ s) - length (drop (to - at) (c ∷ s)))) (at + 1) next s) = rw e refl in
    step_is ∙ same (step st token)
  where
    count : pred (length (c ∷ s) - length (drop (to - at) (c ∷ s))) ≡ to - at - 1
    count = let l : length (drop (to - at) (c ∷ s)) ≡ length (c ∷ s) - (to - at) = length-drop (to - at) (c ∷ s) in omega arith

    inner : (i : ℕ) → suc i ≡ to - at → (next : Construction) → closed_from t place i (at + 1) next s ≡ closed_from t place 0 to next (drop (to - at) (c ∷ s))
    inner i e next =
        skipped t place i (at + 1) next s (omega arith) ∙ ap (λ j. closed_from t place 0 j next (drop i s)) (omega arith) ∙ ap (λ j. closed_from t place 0 to next (drop j (c ∷ s))) e

    more : (next : Construction) → closed_from t place (pred (length (c ∷ s) - length (drop (to - at) (c ∷ s)))) (at + 1) next s ≡ closed_from t place 0 to next (drop (to - at) (c ∷ s))
    more next = ap (λ i. closed_from t place i (at + 1) next s) count ∙ inner (to - at - 1) (omega arith) next

    same : (x : Stepped) → closed_step place (at + n) x (λ next. closed_from t place (pred (length (c ∷ s) - length (drop (to - at) (c ∷ s)))) (at + 1) next s) ≡ closed_step place (at + n) x (λ next. closed_from t place 0 to next (drop (to - at) (c ∷ s)))
    same (went es next) = ap (λ x. cond (is_after_body next.insertion_mode) (Some (place (at + n))) x) (more next)
    same (stops rule m) = refl

-- nothing is closed where no token is left
ends_here : (t : List Entry) (place : ℕ → ℕ) (at : ℕ) (st : Construction) (s : List ℕ) → first t (mode_of st.path) s ≡ at_end → closed_from t place 0 at st s ≡ None
ends_here t place at st [] e = refl
ends_here t place at st (c ∷ s) e = rw e refl

-- ---- A turn of the reader

pub stays_open : (r : Reading) (b : Building) (m : Mode) → m ≡ mode_of b.state.path → next_of r m ≡ at_end → closed_left r b ≡ None
stays_open r b m e f = ends_here r.names (place_of r.source) r.at b.state (drop r.at (text_of r)) (subst (λ k. first r.names k (drop r.at (text_of r)) ≡ at_end) e f)

further : (i j : ℕ) (s : List ℕ) → i ≤ j → drop j s ≡ drop (j - i) (drop i s)
further i j s h = ap (λ x. drop x s) (omega arith) ∙ sym (drop-drop (j - i) i s)

-- body is closed by the next token, or after it
pub closed_by_next : (r : Reading) (b : Building) (token : Spanned) (passed : ℕ) → r.at ≤ length (text_of r) → token.from ≡ r.at + passed → token.from < token.to → token.to ≤ length (text_of r)
    → first r.names (mode_of b.state.path) (drop r.at (text_of r)) ≡ after_bytes passed (taken (seen (text_of r) token.token) (drop token.to (text_of r)))
    → closed_left r b ≡ closed_step (place_of r.source) token.from (step b.state (seen (text_of r) token.token)) (λ next. closed_from r.names (place_of r.source) 0 token.to next (drop token.to (text_of r)))
closed_by_next r b token passed before from forward inside e =
    let left : length (drop r.at (text_of r)) ≡ length (text_of r) - r.at = length-drop r.at (text_of r) in
    let rest : drop token.to (text_of r) ≡ drop (token.to - r.at) (drop r.at (text_of r)) = further r.at token.to (text_of r) (omega arith) in
    goes_on r.names (place_of r.source) r.at passed token.to b.state (seen (text_of r) token.token) (drop r.at (text_of r)) (omega arith) (omega arith) (e ∙ ap (λ x. after_bytes passed (taken (seen (text_of r) token.token) x)) rest)
    ∙ ap (λ i. closed_step (place_of r.source) i (step b.state (seen (text_of r) token.token)) (λ next. closed_from r.names (place_of r.source) 0 token.to next (drop (token.to - r.at) (drop r.at (text_of r))))) (sym from)
    ∙ ap (λ x. closed_step (place_of r.source) token.from (step b.state (seen (text_of r) token.token)) (λ next. closed_from r.names (place_of r.source) 0 token.to next x)) (sym rest)

-- so it is where the token was stepped
pub closes_with : (r : Reading) (b : Building) (token : Spanned) (new : Reading) (after : Building) → token.from < token.to → token.to ≤ length (text_of r) → new ≡ record r { at = token.to }
    → closed_left r b ≡ closed_step (place_of r.source) token.from (step b.state (seen (text_of r) token.token)) (λ next. closed_from r.names (place_of r.source) 0 token.to next (drop token.to (text_of r)))
    → IsStepped (step b.state (seen (text_of r) token.token)) b after → ClosesAt r b token.from new after
closes_with r b token new after forward inside moved all done = by (step b.state (seen (text_of r) token.token)) refl done
  where
    at_to : Reading
    at_to = record r { at = token.to }

    there : token.from ≤ length r.source.placed
    there = let l : length (text_of r) ≡ length r.source.placed = length-map r.source.placed byte_of in omega (arith, l, inside, forward)

    either : (x : Bool) → cond x (Some (place_of r.source token.from)) (closed_left at_to after) ≡ first_of (cond x (Some (place_of r.source token.from)) None) (closed_left at_to after)
    either true = refl
    either false = refl

    by : (x : Stepped) → step b.state (seen (text_of r) token.token) ≡ x → IsStepped x b after → ClosesAt r b token.from new after
    by (stops rule n) q i = absurd i
    by (went es st) q i =
        let is : closed_left r b ≡ first_of (closed_here after r.source token.from) (closed_left at_to after) =
        all ∙ ap (λ x. closed_step (place_of r.source) token.from x (λ next. closed_from r.names (place_of r.source) 0 token.to next (drop token.to (text_of r)))) q
        ∙ ap (λ z. cond (is_after_body z.insertion_mode) (Some (place_of r.source token.from)) (closed_from r.names (place_of r.source) 0 token.to z (drop token.to (text_of r)))) (sym i.0) ∙ either (is_after_body after.state.insertion_mode)
        in
        subst (λ n. ClosesAt r b token.from n after) (sym moved) (record { inside = there; is = is })

pub token_closes : (r : Reading) (b : Building) (m : Mode) (token : Spanned) (new : Reading) (s : List ℕ) (after : Building) → IsParsing r b → m ≡ mode_of b.state.path → IsTaken r m token new → text_of r ≡ s
    → IsStepped (step b.state (seen s token.token)) b after → ClosesAt r b token.from new after
token_closes r b m token new s after p e k t done =
    closes_with r b token new after k.forward k.inside k.moved
    (closed_by_next r b token k.passed p.inside k.from k.forward k.inside (subst (λ x. first r.names x (drop r.at (text_of r)) ≡ after_bytes k.passed (taken (seen (text_of r) token.token) (drop token.to (text_of r)))) e k.is))
    (subst (λ x. IsStepped (step b.state (seen x token.token)) b after) (sym t) done)

-- only an end tag closes body
pub stays_here : (r : Reading) (b : Building) (token : Spanned) (new : Reading) (s : List ℕ) (after : Building) → is_end_tag (seen s token.token) ≡ false → IsStepped (step b.state (seen s token.token)) b after → ClosesAt r b token.from new after → is_after_body b.state.insertion_mode ≡ false → StaysOpen r b new after
stays_here r b token new s after other done k before = by (step b.state (seen s token.token)) (only_end_tags_close b.state (seen s token.token) before other) done
  where
    by : (x : Stepped) → staying.StaysOpen x → IsStepped x b after → StaysOpen r b new after
    by (stops rule n) h i = absurd i
    by (went es st) h i =
        let still : is_after_body after.state.insertion_mode ≡ false = ap (λ (z : Construction). is_after_body z.insertion_mode) i.0 ∙ h in
        record { open_still = still; is = k.is ∙ ap (λ x. first_of (cond x (Some (place_of r.source token.from)) None) (closed_left new after)) still }

pub token_turned : (r : Reading) (b : Building) (lexeme : Lexeme) (tag : Tag) (token : Spanned) (new : Reading) (s : List ℕ) (after : Building) → token.token ≡ token_of lexeme tag → IsStepped (step b.state (seen s token.token)) b after → GoesOn r b new after → ClosesAt r b token.from new after → IsTurned (taken_by lexeme token.from) r b new after
token_turned r b lexeme tag token new s after is done on k = by lexeme is
  where
    other : is_end_tag (seen s token.token) ≡ false → IsTurned turns.Other r b new after
    other e = (on, stays_here r b token new s after e done k)

    by : (x : Lexeme) → token.token ≡ token_of x tag → IsTurned (taken_by x token.from) r b new after
    by lexemes.EndTag e = (on, k)
    by (lexemes.Doctype legacy) e = other (ap (λ z. is_end_tag (seen s z)) e)
    by (lexemes.StartTag slash) e = other (ap (λ z. is_end_tag (seen s z)) e)
    by (lexemes.Slice from to) e = other (ap (λ z. is_end_tag (seen s z)) e)
    by (lexemes.Points points) e = other (ap (λ z. is_end_tag (seen s z)) e)
    by (lexemes.Comment from to) e = other (ap (λ z. is_end_tag (seen s z)) e)

-- what is left before the first token is the whole text
pub closed_in_whole : (t : List Entry) (page : Source) (b : Building) (closed : Option ℕ) → b ≡ first_building → closed_left (reads t page) b ≡ closed → closed_of_source t page ≡ closed
unfolding closed_of_source
closed_in_whole t page b closed e h = ap (closed_left (reads t page)) (sym e) ∙ h
