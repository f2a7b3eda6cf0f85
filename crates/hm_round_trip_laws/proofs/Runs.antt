-- Bytes of a text step by step, without the places of refusals: how a text is read, cut into tokens in any way.
use Rattle.std.proofs.Common.{◌≡◌, ℕ, ◌+◌, true, List, [], ◌∷◌, ◌++◌, map, refl, sym, ◌∙◌, ap, subst, encode_utf8_all, append_assoc}
use Rattle.std.proofs.lemmas.Bool.{and_parts}
use Rattle.hm_base.specs.Walks.{Event}
use Rattle.hm_base.specs.declared.rules.Rule.{Rule}
use Rattle.hm_refs.specs.Names.{Entry}
use Rattle.hm_tree.specs.Tokens.{Seen, taken}
use Rattle.hm_tree.specs.Tokens as tokens
use Rattle.hm_token_laws.specs.First.{Mode}
use Rattle.hm_token_laws.specs.Laws.{SoundNames, IsMode}
use Rattle.hm_token_laws.specs.Readings.{ReadsAs}
use Rattle.hm_token_laws.specs.Decided.{in_mode, texts_of, are_texts, is_text}
use Rattle.hm_construction_laws.specs.Steps.{Construction, Stepped, went, stops, stepped_after_events, after_bytes, then_step, at_front, step_byte, step_bytes, step}
use Rattle.hm_construction_laws.specs.Trees.{Outcome, refused_by, after_events, mode_of, stepped, tree_from}
use Rattle.hm_round_trip_laws.proofs.Reading.{after_none, after_after, token_steps}

-- events and the state after them, or a refusal
pub data Run : Type 0 where
  ran : List Event → Construction → Run
  halted : Run

abbrev pub after_run : List Event → Run → Run
after_run es (ran fs st) = ran (es ++ fs) st
after_run es halted = halted

abbrev pub then_run : Run → (Construction → Run) → Run
then_run (ran es st) more = after_run es (more st)
then_run halted more = halted

abbrev pub run_of : Stepped → Run
run_of (went es st) = ran es st
run_of (stops rule n) = halted

abbrev pub run_bytes : List ℕ → Construction → Run
run_bytes [] st = ran [] st
run_bytes (c ∷ s) st = then_run (run_of (step_byte c st)) (run_bytes s)

run_later : (es : List Event) (n : ℕ) (o : Stepped) → run_of (stepped_after_events es (after_bytes n o)) ≡ after_run es (run_of o)
run_later es n (went fs st) = refl
run_later es n (stops rule k) = refl

pub bytes_run : (s : List ℕ) (st : Construction) → run_of (step_bytes s st) ≡ run_bytes s st
bytes_run [] st = refl
bytes_run (c ∷ s) st = by (step_byte c st) (bytes_run s)
  where
    by : (o : Stepped) → ((next : Construction) → run_of (step_bytes s next) ≡ run_bytes s next) → run_of (then_step o (λ next. after_bytes 1 (step_bytes s next))) ≡ then_run (run_of o) (run_bytes s)
    by (went es next) more = run_later es 1 (step_bytes s next) ∙ ap (after_run es) (more next)
    by (stops rule n) more = refl

run_none : (r : Run) → after_run [] r ≡ r
run_none (ran es st) = refl
run_none halted = refl

run_twice : (es fs : List Event) (r : Run) → after_run (es ++ fs) r ≡ after_run es (after_run fs r)
run_twice es fs (ran gs st) = ap (λ x. ran x st) (append_assoc es fs gs)
run_twice es fs halted = refl

then_later : (es : List Event) (r : Run) (f : Construction → Run) → then_run (after_run es r) f ≡ after_run es (then_run r f)
then_later es (ran fs st) f = run_twice es fs (f st)
then_later es halted f = refl

pub run_append : (x y : List ℕ) (st : Construction) → run_bytes (x ++ y) st ≡ then_run (run_bytes x st) (run_bytes y)
run_append [] y st = sym (run_none (run_bytes y st))
run_append (c ∷ x) y st = by (run_of (step_byte c st)) (run_append x y)
  where
    by : (r : Run) → ((next : Construction) → run_bytes (x ++ y) next ≡ then_run (run_bytes x next) (run_bytes y)) → then_run r (run_bytes (x ++ y)) ≡ then_run (then_run r (run_bytes x)) (run_bytes y)
    by (ran es next) more = ap (after_run es) (more next) ∙ sym (then_later es (run_bytes x next) (run_bytes y))
    by halted more = refl

-- ---- Trees after a run

-- the tree is what a run makes, with the tree after it; or a refusal
abbrev pub Reached : Outcome → (Construction → Outcome) → Run → Type 0
Reached tree more (ran es st) = tree ≡ after_events es (more st)
Reached tree more halted = (rule : Rule) × (at : ℕ) × (tree ≡ refused_by rule at)

step_reached : (place : ℕ → ℕ) (at : ℕ) (o : Stepped) (more : Construction → Outcome) → Reached (stepped place at o more) more (run_of o)
step_reached place at (went es st) more = refl
step_reached place at (stops rule n) more = (rule, place (at + n), refl)

inner_reached : (es : List Event) (tree inner : Outcome) (more : Construction → Outcome) (r : Run) → tree ≡ after_events es inner → Reached inner more r → Reached tree more (after_run es r)
inner_reached es tree inner more (ran fs st) e h = e ∙ ap (after_events es) h ∙ sym (after_after es fs (more st))
inner_reached es tree inner more halted e (rule, at, h) = (rule, at, e ∙ ap (after_events es) h)

-- a property of states that bytes of a text keep
abbrev pub Holds : (Construction → Type 0) → Run → Type 0
Holds P (ran es st) = P st
Holds P halted = Unit {0}

then_reached : (P : Construction → Type 0) (tree : Outcome) (r : Run) (f : Construction → Run) (first_more more : Construction → Outcome) → Holds P r → ((st : Construction) → P st → Reached (first_more st) more (f st)) → Reached tree first_more r → Reached tree more (then_run r f)
then_reached P tree (ran es st) f first_more more p on h = inner_reached es tree (first_more st) more (f st) h (on st p)
then_reached P tree halted f first_more more p on h = h

abbrev pub Keeps : (Construction → Type 0) → Type 0
Keeps P = (c : ℕ) (st : Construction) → P st → Holds P (run_of (step_byte c st))

then_holds : (P : Construction → Type 0) (r : Run) (f : Construction → Run) → ((st : Construction) → P st → Holds P (f st)) → Holds P r → Holds P (then_run r f)
then_holds P (ran es st) f more p = by (f st) (more st p)
  where
    by : (r : Run) → Holds P r → Holds P (after_run es r)
    by (ran fs next) h = h
    by halted h = tt
then_holds P halted f more p = tt

pub bytes_keep : (P : Construction → Type 0) → Keeps P → (s : List ℕ) (st : Construction) → P st → Holds P (run_bytes s st)
bytes_keep P keeps [] st p = p
bytes_keep P keeps (c ∷ s) st p = then_holds P (run_of (step_byte c st)) (run_bytes s) (bytes_keep P keeps s) (keeps c st p)

-- ---- Tokens of a text

abbrev pub token_bytes : Seen → List ℕ
token_bytes (tokens.slice s) = s
token_bytes (tokens.points ps) = encode_utf8_all ps
token_bytes token = []

front_run : (o : Stepped) → run_of (at_front o) ≡ run_of o
front_run (went es st) = refl
front_run (stops rule n) = refl

pub token_run : (st : Construction) (k : Seen) → is_text k ≡ true → run_of (step st k) ≡ run_bytes (token_bytes k) st
unfolding step
token_run st (tokens.doctype legacy) h = cc
token_run st (tokens.start_tag name attributes slash) h = cc
token_run st (tokens.end_tag name) h = cc
token_run st (tokens.slice s) h = bytes_run s st
token_run st (tokens.points ps) h = front_run (step_bytes (encode_utf8_all ps) st) ∙ bytes_run (encode_utf8_all ps) st
token_run st (tokens.comment s) h = cc

pub texts_split : (k : Seen) (ks : List Seen) → is_text k ≡ true → texts_of (k ∷ ks) ≡ token_bytes k ++ texts_of ks
texts_split (tokens.doctype legacy) ks h = cc
texts_split (tokens.start_tag name attributes slash) ks h = cc
texts_split (tokens.end_tag name) ks h = cc
texts_split (tokens.slice s) ks h = refl
texts_split (tokens.points ps) ks h = refl
texts_split (tokens.comment s) ks h = cc

-- states of this kind read texts in the mode
pub record Reads (P : Construction → Type 0) (mode : Mode) : Type 0 where
  pub mode_is : (st : Construction) → P st → mode_of st.path ≡ mode
  pub keeps : Keeps P

-- A text that is read in pieces, up to rest: its bytes are stepped, and rest is read after them.
abbrev pub ReachesRest : List Entry → (ℕ → ℕ) → ℕ → (Construction → Type 0) → List ℕ → List ℕ → List ℕ → Type 0
ReachesRest t place at P s rest x = (later : ℕ) × ((st : Construction) → P st → Reached (tree_from t place 0 at st s) (λ next. tree_from t place 0 later next rest) (run_bytes x st))

pub texts_reach : (t : List Entry) (place : ℕ → ℕ) (P : Construction → Type 0) (mode : Mode) → SoundNames t → IsMode mode → Reads P mode → (ks : List Seen) (at : ℕ) (s rest : List ℕ) → are_texts ks ≡ true → ReadsAs t (map (in_mode mode) ks) s rest → ReachesRest t place at P s rest (texts_of ks)
texts_reach t place P mode names m reads [] at s rest texts e = (at, λ st p. ap (tree_from t place 0 at st) e ∙ sym (after_none (tree_from t place 0 at st rest)))
texts_reach t place P mode names m reads (k ∷ ks) at s rest texts (n, left, h, more) =
    let two = and_parts (is_text k) (are_texts ks) texts in
    let one = token_steps t place at mode s n k left names m h in
    let on = texts_reach t place P mode names m reads ks one.0 left rest two.1 more in (
      on.0,
      λ st p. rw (texts_split k ks two.0, run_append (token_bytes k) (texts_of ks) st)
          (then_reached P (tree_from t place 0 at st s) (run_bytes (token_bytes k) st) (run_bytes (texts_of ks)) (λ next. tree_from t place 0 one.0 next left) (λ next. tree_from t place 0 on.0 next rest)
          (bytes_keep P reads.keeps (token_bytes k) st p) on.1
          (here st p one two.0)),
    )
  where
    here : (st : Construction) → P st → (one : (later : ℕ) × ((st : Construction) → mode_of st.path ≡ mode → tree_from t place 0 at st s ≡ stepped place (at + n) (step st k) (λ next. tree_from t place 0 later next left))) → is_text k ≡ true
        → Reached (tree_from t place 0 at st s) (λ next. tree_from t place 0 one.0 next left) (run_bytes (token_bytes k) st)
    here st p one is =
        let more : Construction → Outcome = λ next. tree_from t place 0 one.0 next left in
        subst (Reached (tree_from t place 0 at st s) more) (token_run st k is)
        (subst (λ (o : Outcome). Reached o more (run_of (step st k))) (sym (one.1 st (reads.mode_is st p))) (step_reached place (at + n) (step st k) more))
