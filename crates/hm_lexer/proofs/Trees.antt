-- How the tree of what is left of a text goes on, token by token and byte by byte.
use Rattle.std.proofs.Common.{◌≡◌, ℕ, zero, suc, pred, ◌+◌, ◌-◌, ◌≤◌, ◌<◌, Bool, true, false, cond, ◌&&◌, ◌==◌, List, [], ◌∷◌, ◌++◌, length, drop, None, is_some, refl, sym, ap, ap₂, ◌∙◌, arith}
use Rattle.std.proofs.lemmas.List.{length-drop}
use Rattle.std.proofs.lemmas.Bool.{eqb-true}
use Rattle.hm_base.specs.Bytes.{is_letter, is_space}
use Rattle.hm_base.specs.Walks.{Event, start, end}
use Rattle.hm_base.specs.declared.rules.Rule.TheVariants.{TextHere}
use Rattle.hm_elements.specs.Names.{is_among, html, head, body}
use Rattle.hm_elements.specs.Tables.{is_rcdata, is_raw, rcdata_names, raw_names}
use Rattle.hm_elements.specs.Paths.{is_in_text, is_in_blank}
use Rattle.hm_refs.specs.Names.{Entry}
use Rattle.hm_tree.specs.Tokens.{Seen, taken, refused, slice}
use Rattle.hm_tree.specs.declared.tokens.ScanFault.{ScanFault}
use Rattle.hm_scan.specs.Texts.{opens_markup, begins_markup, reference_in, ends_plain, plain_front, read_text}
use Rattle.hm_token_laws.specs.First.{Mode, ordinary, in_svg, rcdata, raw, script, three_more, nothing_skipped, after_empty_tags, next_here, at_end, after_bytes, first, rule_of}
use Rattle.hm_token_laws.specs.Laws.{SoundNames, reads_markup}
use Rattle.hm_token_laws.proofs.Bools.{or_parts, none_there}
use Rattle.hm_construction_laws.specs.Steps.{InsertionMode, initial, before_html, before_head, in_head, after_head, in_body, after_body, after_html, Construction, Stepped, went, stops, stepped_after_events, then_step, moved, under_html, under_head, under_body, make_html, make_head, close_head, make_body, reach_body, is_in_noscript, keep_byte, space_byte, body_byte, other_byte, kept_byte, no_drop, step_byte, step_bytes, step}
use Rattle.hm_construction_laws.specs.Steps as steps
use Rattle.hm_construction_laws.specs.Trees.{Outcome, built, refused_by, after_events, mode_of, stepped, over, next_step, tree_from}
use Rattle.hm_construction_laws.proofs.Modes.{is_mode}
use Rattle.hm_construction_laws.proofs.Rests.{shorter, rest_is}
use Rattle.hm_construction_laws.proofs.Standing.{pushes_append}

-- ---- outcomes

pub after_none : (o : Outcome) → after_events [] o ≡ o
after_none (built w) = refl
after_none (refused_by rule at) = refl

pub after_after : (es fs : List Event) (o : Outcome) → after_events (es ++ fs) o ≡ after_events es (after_events fs o)
after_after es fs (built w) = ap built (pushes_append es fs w)
after_after es fs (refused_by rule at) = refl

same_step : (place : ℕ → ℕ) (at : ℕ) (o : Stepped) (f g : Construction → Outcome) → ((st : Construction) → f st ≡ g st) → stepped place at o f ≡ stepped place at o g
same_step place at (went es st) f g same = ap (after_events es) (same st)
same_step place at (stops rule n) f g same = refl

stepped_later : (place : ℕ → ℕ) (at n : ℕ) (es : List Event) (o : Stepped) (more : Construction → Outcome) → stepped place at (stepped_after_events es (steps.after_bytes n o)) more ≡ after_events es (stepped place (at + n) o more)
stepped_later place at n es (went fs st) more = after_after es fs (more st)
stepped_later place at n es (stops rule m) more = let e : at + (n + m) ≡ at + n + m = omega arith in ap (λ i. refused_by rule (place i)) e

-- ---- one token

skipped : (t : List Entry) (place : ℕ → ℕ) (k at : ℕ) (st : Construction) (s : List ℕ) → k ≤ length s → tree_from t place k at st s ≡ tree_from t place 0 (at + k) st (drop k s)
skipped t place zero at st [] h = ap (λ i. tree_from t place 0 i st []) (omega arith)
skipped t place zero at st (c ∷ s) h = ap (λ i. tree_from t place 0 i st (c ∷ s)) (omega arith)
skipped t place (suc k) at st [] h = absurd (none k h)
  where
    none : (k : ℕ) → suc k ≤ length {A = ℕ} [] → ⊥
    none k h = omega arith
skipped t place (suc k) at st (c ∷ s) h =
    let more : tree_from t place k (at + 1) st s ≡ tree_from t place 0 (at + 1 + k) st (drop k s) = skipped t place k (at + 1) st s (omega arith) in
    more ∙ ap (λ i. tree_from t place 0 i st (drop k s)) (omega arith)

pub token_on : (t : List Entry) (place : ℕ → ℕ) (at : ℕ) (st : Construction) (s : List ℕ) (n : ℕ) (token : Seen) (rest : List ℕ) → SoundNames t → first t (mode_of st.path) s ≡ after_bytes n (taken token rest)
    → tree_from t place 0 at st s ≡ stepped place (at + n) (step st token) (λ next. tree_from t place 0 (at + (length s - length rest)) next rest)
token_on t place at st [] n token rest names h = let less = shorter t (mode_of st.path) [] n token rest names (is_mode st.path) h in absurd (omega arith)
token_on t place at st (c ∷ s) n token rest names h =
    let less = shorter t (mode_of st.path) (c ∷ s) n token rest names (is_mode st.path) h in
    let skip : ℕ = pred (length (c ∷ s) - length rest) in
    let left : drop skip s ≡ rest = rest_is t (mode_of st.path) c s n token rest names (is_mode st.path) h in
    let one : skip + 1 ≡ length (c ∷ s) - length rest = pred_suc (length (c ∷ s) - length rest) (omega arith) in
    let place_is : at + 1 + skip ≡ at + (length (c ∷ s) - length rest) = omega arith in
    let on : (next : Construction) → tree_from t place skip (at + 1) next s ≡ tree_from t place 0 (at + (length (c ∷ s) - length rest)) next rest = λ next.
    skipped t place skip (at + 1) next s (omega arith) ∙ ap (tree_from t place 0 (at + 1 + skip) next) left ∙ ap (λ i. tree_from t place 0 i next rest) place_is in
    ap (λ x. next_step place at st (c ∷ s) x (λ k next. tree_from t place k (at + 1) next s)) h ∙ same_step place (at + n) (step st token) (λ next. tree_from t place skip (at + 1) next s) (λ next. tree_from t place 0 (at + (length (c ∷ s) - length rest)) next rest) on
  where
    pred_suc : (n : ℕ) → 0 < n → pred n + 1 ≡ n
    pred_suc zero h = absurd (omega arith)
    pred_suc (suc n) h = omega arith

-- nothing is faulty where nothing is left
no_fault : (t : List Entry) (mode : Mode) (n : ℕ) (fault : ScanFault) → first t mode [] ≡ after_bytes n (refused fault) → ⊥
unfolding first
no_fault t ordinary n fault e = cc
no_fault t in_svg n fault e = cc
no_fault t (rcdata name) n fault e = cc
no_fault t (raw name) n fault e = cc
no_fault t script n fault e = cc

pub fault_on : (t : List Entry) (place : ℕ → ℕ) (at n : ℕ) (st : Construction) (fault : ScanFault) (s : List ℕ) → first t (mode_of st.path) s ≡ after_bytes n (refused fault) → tree_from t place 0 at st s ≡ refused_by (rule_of fault) (place (at + n))
fault_on t place at n st fault [] e = absurd (no_fault t (mode_of st.path) n fault e)
fault_on t place at n st fault (c ∷ s) e = rw e refl

pub end_on : (t : List Entry) (place : ℕ → ℕ) (at : ℕ) (st : Construction) (s : List ℕ) → first t (mode_of st.path) s ≡ at_end → tree_from t place 0 at st s ≡ over place (at + length s) st
end_on t place at st [] e = ap (λ i. over place i st) (omega arith)
end_on t place at st (c ∷ s) e = rw e refl

-- ---- ordinary text

-- whether CDATA sections are read
abbrev pub is_foreign : Mode → Bool
is_foreign in_svg = true
is_foreign mode = false

pub first_here : (t : List Entry) (mode : Mode) (s : List ℕ) → reads_markup mode ≡ true → first t mode s ≡ next_here t (is_foreign mode) (after_empty_tags s)
unfolding first
first_here t ordinary s h = refl
first_here t in_svg s h = refl
first_here t (rcdata name) s h = cc
first_here t (raw name) s h = cc
first_here t script s h = cc

-- where no markup begins, nothing is passed over
slash_opens : (c : ℕ) (s : List ℕ) → opens_markup (47 ∷ c ∷ s) ≡ true
unfolding is_letter
slash_opens c s = refl

pub no_empty_tag : (s : List ℕ) → begins_markup s ≡ false → after_empty_tags s ≡ nothing_skipped s
unfolding begins_markup
no_empty_tag [] h = refl
no_empty_tag (a ∷ []) h = refl
no_empty_tag (a ∷ b ∷ []) h = refl
no_empty_tag (a ∷ b ∷ c ∷ s) h = by (a == 60) refl (b == 47) refl (c == 62) h
  where
    by : (x : Bool) → (a == 60) ≡ x → (y : Bool) → (b == 47) ≡ y → (z : Bool) → x && opens_markup (b ∷ c ∷ s) ≡ false → cond (x && (y && z)) (three_more (after_empty_tags s)) (nothing_skipped (a ∷ b ∷ c ∷ s)) ≡ nothing_skipped (a ∷ b ∷ c ∷ s)
    by true e true f true h = let same : b ≡ 47 = eqb-true b 47 f in let opens : opens_markup (b ∷ c ∷ s) ≡ true = rw same (slash_opens c s) in absurd (cc)
    by true e true f false h = refl
    by true e false f z h = refl
    by false e y f z h = refl

-- a byte that stands for itself, and the text after it
plain_token : (t : List Entry) (mode : Mode) (c : ℕ) (s : List ℕ) → reads_markup mode ≡ true → ends_plain t false c s ≡ false
    → first t mode (c ∷ s) ≡ after_bytes 0 (taken (slice (c ∷ plain_front t false s)) (drop (length (plain_front t false s)) s))
unfolding read_text
plain_token t mode c s m h =
    let two = or_parts (begins_markup (c ∷ s)) (is_some (reference_in t c s)) h in
    let none : reference_in t c s ≡ None = none_there (reference_in t c s) two.1 in
    let front : plain_front t false (c ∷ s) ≡ c ∷ plain_front t false s = rw h refl in
    let text : read_text t false (c ∷ s) ≡ taken (slice (c ∷ plain_front t false s)) (drop (length (plain_front t false s)) s) = rw none (ap₂ (λ x k. taken (slice x) (drop k (c ∷ s))) front (ap length front)) in
    first_here t mode (c ∷ s) m ∙ ap (next_here t (is_foreign mode)) (no_empty_tag (c ∷ s) two.0) ∙ rw two.0 (ap (after_bytes 0) text)

front_short : (t : List Entry) (s : List ℕ) → length (plain_front t false s) ≤ length s
front_short t [] = omega arith
front_short t (c ∷ s) = by (ends_plain t false c s) (front_short t s)
  where
    by : (b : Bool) → length (plain_front t false s) ≤ length s → length (cond b [] (c ∷ plain_front t false s)) ≤ suc (length s)
    by true h = omega arith
    by false h = omega arith

pub step_text : (st : Construction) (s : List ℕ) → step st (slice s) ≡ step_bytes s st
unfolding step
step_text st s = refl

text_token : (t : List Entry) (place : ℕ → ℕ) (at : ℕ) (st : Construction) (c : ℕ) (s : List ℕ) → reads_markup (mode_of st.path) ≡ true → ends_plain t false c s ≡ false
    → tree_from t place 0 at st (c ∷ s) ≡ stepped place at (step_bytes (c ∷ plain_front t false s) st) (λ next. tree_from t place (length (plain_front t false s)) (at + 1) next s)
text_token t place at st c s m h =
    let f : List ℕ = plain_front t false s in
    let short = front_short t s in
    let skip : pred (suc (length s) - length (drop (length f) s)) ≡ length f = minus (length s) (length f) (length (drop (length f) s)) (length-drop (length f) s) short in
    let here : at + 0 ≡ at = omega arith in
    ap (λ x. next_step place at st (c ∷ s) x (λ k next. tree_from t place k (at + 1) next s)) (plain_token t (mode_of st.path) c s m h)
    ∙ ap₂ (λ i o. stepped place i o (λ next. tree_from t place (pred (suc (length s) - length (drop (length f) s))) (at + 1) next s)) here (step_text st (c ∷ f))
    ∙ ap (λ k. stepped place at (step_bytes (c ∷ f) st) (λ next. tree_from t place k (at + 1) next s)) skip
  where
    minus : (n k r : ℕ) → r ≡ n - k → k ≤ n → pred (suc n - r) ≡ k
    minus n k r e h = let one : suc n - r ≡ suc k = omega arith in ap pred one

-- ---- a byte of ordinary text leaves ordinary text

abbrev pub MarkupOn : Stepped → Type 0
MarkupOn (went es st) = reads_markup (mode_of st.path) ≡ true
MarkupOn (stops rule n) = Unit {0}

after_on : (es : List Event) (o : Stepped) → MarkupOn o → MarkupOn (stepped_after_events es o)
after_on es (went fs st) h = h
after_on es (stops rule n) h = tt

in_body_markup : reads_markup (mode_of under_body) ≡ true
unfolding is_rcdata is_raw rcdata_names raw_names is_among
in_body_markup = refl

body_on : (c : ℕ) (st : Construction) → reads_markup (mode_of st.path) ≡ true → MarkupOn (body_byte c st)
body_on c st h = by (is_in_blank st.path)
  where
    by : (b : Bool) → MarkupOn (cond b (stops TextHere 0) (keep_byte c st))
    by true = tt
    by false = h

body_made : (c : ℕ) (st : Construction) → MarkupOn (make_body (body_byte c) st)
body_made c st = after_on (start body false [] ∷ []) (body_byte c (moved st in_body under_body)) (body_on c (moved st in_body under_body) in_body_markup)

head_closed : (c : ℕ) (st : Construction) → MarkupOn (close_head (make_body (body_byte c)) st)
head_closed c st = after_on (end head false ∷ []) (make_body (body_byte c) (moved st after_head under_html)) (body_made c (moved st after_head under_html))

head_made : (c : ℕ) (st : Construction) → MarkupOn (make_head (close_head (make_body (body_byte c))) st)
head_made c st = after_on (start head false [] ∷ []) (close_head (make_body (body_byte c)) (moved st in_head under_head)) (head_closed c (moved st in_head under_head))

html_made : (c : ℕ) (st : Construction) → MarkupOn (make_html (make_head (close_head (make_body (body_byte c)))) st)
html_made c st = after_on (start html false [] ∷ []) (make_head (close_head (make_body (body_byte c))) (moved st before_head under_html)) (head_made c (moved st before_head under_html))

reach_on : (mode : InsertionMode) (c : ℕ) (st : Construction) → reads_markup (mode_of st.path) ≡ true → MarkupOn (reach_body mode (body_byte c) st)
reach_on initial c st h = tt
reach_on before_html c st h = html_made c st
reach_on before_head c st h = head_made c st
reach_on in_head c st h = head_closed c st
reach_on after_head c st h = body_made c st
reach_on in_body c st h = body_on c st h
reach_on after_body c st h = tt
reach_on after_html c st h = tt

space_on : (mode : InsertionMode) (c : ℕ) (st : Construction) → reads_markup (mode_of st.path) ≡ true → MarkupOn (space_byte mode c st)
space_on initial c st h = h
space_on before_html c st h = h
space_on before_head c st h = h
space_on in_head c st h = h
space_on after_head c st h = h
space_on in_body c st h = h
space_on after_body c st h = h
space_on after_html c st h = h

kept_on : (c : ℕ) (st : Construction) → reads_markup (mode_of st.path) ≡ true → MarkupOn (kept_byte c st)
kept_on c st h = by (is_in_text st.path) (is_space c) (is_in_noscript st.insertion_mode st.path)
  where
    by : (a b n : Bool) → MarkupOn (cond a (keep_byte c st) (cond b (space_byte st.insertion_mode c st) (cond n (stops TextHere 0) (reach_body st.insertion_mode (body_byte c) st))))
    by true b n = h
    by false true n = space_on st.insertion_mode c st h
    by false false true = tt
    by false false false = reach_on st.insertion_mode c st h

pub byte_on : (c : ℕ) (st : Construction) → reads_markup (mode_of st.path) ≡ true → MarkupOn (step_byte c st)
unfolding step_byte
byte_on c st h = by (st.drops_line_feed && c == 10)
  where
    by : (b : Bool) → MarkupOn (cond b (went [] (no_drop st)) (kept_byte c (no_drop st)))
    by true = h
    by false = kept_on c (no_drop st) h

-- ---- ordinary text byte by byte

-- A byte of ordinary text that stands for itself is stepped, and the text goes on after it.
pub byte_builds : (t : List Entry) (place : ℕ → ℕ) (at : ℕ) (st : Construction) (c : ℕ) (s : List ℕ) → reads_markup (mode_of st.path) ≡ true → ends_plain t false c s ≡ false
    → tree_from t place 0 at st (c ∷ s) ≡ stepped place at (step_byte c st) (λ next. tree_from t place 0 (at + 1) next s)
byte_builds t place at st c s m h = text_token t place at st c s m h ∙ by (step_byte c st) (byte_on c st m)
  where
    on : (next : Construction) (s : List ℕ) → reads_markup (mode_of next.path) ≡ true → stepped place (at + 1) (step_bytes (plain_front t false s) next) (λ st2. tree_from t place (length (plain_front t false s)) (at + 1) st2 s) ≡ tree_from t place 0 (at + 1) next s
    on next [] m = after_none (tree_from t place 0 (at + 1) next [])
    on next (d ∷ s) m = choose (ends_plain t false d s) refl
      where
        choose : (b : Bool) → ends_plain t false d s ≡ b → stepped place (at + 1) (step_bytes (cond b [] (d ∷ plain_front t false s)) next) (λ st2. tree_from t place (length (cond b [] (d ∷ plain_front t false s))) (at + 1) st2 (d ∷ s)) ≡ tree_from t place 0 (at + 1) next (d ∷ s)
        choose true e = after_none (tree_from t place 0 (at + 1) next (d ∷ s))
        choose false e = sym (text_token t place (at + 1) next d s m e)

    by : (o : Stepped) → MarkupOn o → stepped place at (then_step o (λ next. steps.after_bytes 1 (step_bytes (plain_front t false s) next))) (λ next. tree_from t place (length (plain_front t false s)) (at + 1) next s)
        ≡ stepped place at o (λ next. tree_from t place 0 (at + 1) next s)
    by (went es next) k = stepped_later place at 1 es (step_bytes (plain_front t false s) next) (λ st2. tree_from t place (length (plain_front t false s)) (at + 1) st2 s) ∙ ap (after_events es) (on next s k)
    by (stops rule n) k = refl

-- the bytes of f stand for themselves before r
abbrev pub ArePlain : List Entry → List ℕ → List ℕ → Type 0
ArePlain t [] r = Unit {0}
ArePlain t (c ∷ f) r = (ends_plain t false c (f ++ r) ≡ false) × ArePlain t f r

-- Ordinary text up to any place where it goes on is stepped, and the text goes on there.
pub text_builds : (t : List Entry) (place : ℕ → ℕ) (at : ℕ) (st : Construction) (c : ℕ) (f r : List ℕ) → reads_markup (mode_of st.path) ≡ true → ArePlain t (c ∷ f) r
    → tree_from t place 0 at st (c ∷ (f ++ r)) ≡ stepped place at (step_bytes (c ∷ f) st) (λ next. tree_from t place 0 (at + suc (length f)) next r)
text_builds t place at st c [] r m h =
    byte_builds t place at st c r m h.0 ∙ by (step_byte c st)
  where
    here : at + 1 ≡ at + suc (length {A = ℕ} [])
    here = omega arith

    by : (o : Stepped) → stepped place at o (λ next. tree_from t place 0 (at + 1) next r) ≡ stepped place at (then_step o (λ next. steps.after_bytes 1 (step_bytes [] next))) (λ next. tree_from t place 0 (at + suc (length {A = ℕ} [])) next r)
    by (went es next) = ap (λ i. after_events es (tree_from t place 0 i next r)) here ∙ ap (λ x. after_events x (tree_from t place 0 (at + suc (length {A = ℕ} [])) next r)) (none es)
      where
        none : (es : List Event) → es ≡ es ++ []
        none [] = refl
        none (e ∷ es) = ap (λ x. e ∷ x) (none es)
    by (stops rule n) = refl
text_builds t place at st c (d ∷ f) r m h =
    byte_builds t place at st c (d ∷ (f ++ r)) m h.0 ∙ by (step_byte c st) (byte_on c st m) (λ next k. text_builds t place (at + 1) next d f r k h.1)
  where
    far : at + 1 + suc (length f) ≡ at + suc (suc (length f))
    far = omega arith

    by : (o : Stepped) → MarkupOn o → ((next : Construction) → reads_markup (mode_of next.path) ≡ true → tree_from t place 0 (at + 1) next (d ∷ (f ++ r)) ≡ stepped place (at + 1) (step_bytes (d ∷ f) next) (λ n. tree_from t place 0 (at + 1 + suc (length f)) n r))
        → stepped place at o (λ next. tree_from t place 0 (at + 1) next (d ∷ (f ++ r))) ≡ stepped place at (then_step o (λ next. steps.after_bytes 1 (step_bytes (d ∷ f) next))) (λ next. tree_from t place 0 (at + suc (suc (length f))) next r)
    by (went es next) k more =
        ap (after_events es) (more next k ∙ ap (λ i. stepped place (at + 1) (step_bytes (d ∷ f) next) (λ n. tree_from t place 0 i n r)) far)
        ∙ sym (stepped_later place at 1 es (step_bytes (d ∷ f) next) (λ n. tree_from t place 0 (at + suc (suc (length f))) n r))
    by (stops rule n) k more = refl
