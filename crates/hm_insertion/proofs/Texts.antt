-- What a step does with the bytes of a text.
use Rattle.std.proofs.Common.{◌≡◌, ℕ, suc, Bool, true, false, not, cond, ◌&&◌, ◌||◌, List, [], ◌∷◌, ◌++◌, length, Option, Some, None, sym, ap, ◌∙◌, refl, arith, append_assoc}
use Rattle.std.proofs.lemmas.Bool.{and_parts}
use Rattle.hm_base.specs.Bytes.{is_space, all_pass}
use Rattle.hm_base.specs.Walks.{Event, text, Element}
use Rattle.hm_base.specs.declared.rules.Rule.{Rule}
use Rattle.hm_base.specs.declared.rules.Rule.TheVariants.{TextHere}
use Rattle.hm_elements.specs.Names.{is_among}
use Rattle.hm_elements.specs.Tables.{is_raw, raw_names, rcdata_names, is_rcdata, holds_text}
use Rattle.hm_elements.specs.Paths.{blank_parents, is_in_raw, is_in_text, is_in_blank}
use Rattle.hm_construction_laws.specs.Steps.{Construction, Stepped, went, stops, stepped_after_events, keep_byte, space_byte, body_byte, other_byte, step_byte, after_bytes, then_step, step_bytes}
use Rattle.hm_insertion.specs.Inside.{insertion_mode_of, open_path, at_state, body_path, each_byte, missing, text_rule, keeps_space, kept_bytes}
use Rattle.hm_insertion.specs.declared.insertion.HeadText.TheVariants.{Title, Style, Script}
use Rattle.hm_insertion.specs.declared.insertion.BuilderMode.{BuilderMode}
use Rattle.hm_insertion.specs.declared.insertion.BuilderMode.TheVariants.{Initial, BeforeHtml, BeforeHead, InHead, AfterHead, InBody, AfterBody as PastBody, AfterHtml}

pub stepped_after_both : (es fs : List Event) (s : Stepped) → stepped_after_events es (stepped_after_events fs s) ≡ stepped_after_events (es ++ fs) s
stepped_after_both es fs (went gs st) = ap (λ x. went x st) (sym (append_assoc es fs gs))
stepped_after_both es fs (stops rule n) = refl

pub after_nothing : (s : Stepped) → stepped_after_events [] s ≡ s
after_nothing (went es st) = refl
after_nothing (stops rule n) = refl

after_pieces : (e : List Event) (es : List Event) (n : ℕ) (s : Stepped) → stepped_after_events e (after_bytes 1 (stepped_after_events es (after_bytes n s))) ≡ stepped_after_events (e ++ es) (after_bytes (suc n) s)
after_pieces e es n (went fs st) = ap (λ x. went x st) (sym (append_assoc e es fs))
after_pieces e es n (stops rule k) = ap (stops rule) (omega arith)

-- the events of a byte that is kept or dropped
abbrev pub one_kept : Bool → ℕ → Bool → List Event
one_kept true c raw = text (c ∷ []) raw ∷ []
one_kept false c raw = []

one_more : (keep : Bool) (c : ℕ) (s : List ℕ) (raw : Bool) → one_kept keep c raw ++ kept_bytes keep s raw ≡ kept_bytes keep (c ∷ s) raw
one_more true c s raw = refl
one_more false c s raw = refl

no_bytes : (keep raw : Bool) (s : Stepped) → s ≡ stepped_after_events (kept_bytes keep [] raw) (after_bytes 0 s)
no_bytes true raw (went es st) = refl
no_bytes true raw (stops rule n) = ap (stops rule) (omega arith)
no_bytes false raw (went es st) = refl
no_bytes false raw (stops rule n) = ap (stops rule) (omega arith)

-- bytes that are all kept, or all dropped, without a change of the state
pub bytes_pass : (p : ℕ → Bool) (keep raw : Bool) (st : Construction) → ((c : ℕ) → p c ≡ true → step_byte c st ≡ went (one_kept keep c raw) st) → (s rest : List ℕ) → all_pass p s ≡ true
    → step_bytes (s ++ rest) st ≡ stepped_after_events (kept_bytes keep s raw) (after_bytes (length s) (step_bytes rest st))
bytes_pass p keep raw st one [] rest all = no_bytes keep raw (step_bytes rest st)
bytes_pass p keep raw st one (c ∷ s) rest all =
    let parts : (p c ≡ true) × (all_pass p s ≡ true) = and_parts (p c) (all_pass p s) all in
    ap (λ x. then_step x (λ next. after_bytes 1 (step_bytes (s ++ rest) next))) (one c parts.0)
    ∙ ap (λ x. stepped_after_events (one_kept keep c raw) (after_bytes 1 x)) (bytes_pass p keep raw st one s rest parts.1)
    ∙ after_pieces (one_kept keep c raw) (kept_bytes keep s raw) (length s) (step_bytes rest st)
    ∙ ap (λ x. stepped_after_events x (after_bytes (suc (length s)) (step_bytes rest st))) (one_more keep c s raw)

everything_passes : (s : List ℕ) → all_pass (λ _. true) s ≡ true
everything_passes [] = refl
everything_passes (c ∷ s) = everything_passes s

no_rest : (s : List ℕ) → s ++ [] ≡ s
no_rest [] = refl
no_rest (c ∷ s) = ap (λ x. c ∷ x) (no_rest s)

all_events : (es : List Event) → es ++ [] ≡ es
all_events [] = refl
all_events (e ∷ es) = ap (λ x. e ∷ x) (all_events es)

-- bytes with nothing after them
all_bytes_pass : (p : ℕ → Bool) (keep raw : Bool) (st : Construction) → ((c : ℕ) → p c ≡ true → step_byte c st ≡ went (one_kept keep c raw) st) → (s : List ℕ) → all_pass p s ≡ true
    → step_bytes s st ≡ went (kept_bytes keep s raw) st
all_bytes_pass p keep raw st one s all =
    ap (λ x. step_bytes x st) (sym (no_rest s)) ∙ bytes_pass p keep raw st one s [] all ∙ ap (λ x. went x st) (all_events (kept_bytes keep s raw))

pub not_raw : (path : List Element) → is_in_text path ≡ false → is_in_raw path ≡ false
unfolding holds_text
not_raw [] h = refl
not_raw (e ∷ path) h = by e.foreign (is_raw e.name) (is_rcdata e.name) h
  where
    by : (b r c : Bool) → not b && (r || c) ≡ false → not b && r ≡ false
    by true r c k = refl
    by false true c k = cc
    by false false c k = refl

-- the state in which no line feed is dropped
module _ (path : List Element) (inner last : List (List ℕ)) where
  in_text_byte : (ph : BuilderMode) (c : ℕ) → is_in_text path ≡ true → step_byte c (at_state ph path inner last) ≡ went (one_kept true c (is_in_raw path)) (at_state ph path inner last)
  unfolding step_byte
  in_text_byte ph c h = rw h refl

  -- in title, textarea, style, iframe and script all bytes stand
  pub text_bytes : (ph : BuilderMode) (s : List ℕ) → is_in_text path ≡ true → step_bytes s (at_state ph path inner last) ≡ went (each_byte s (is_in_raw path)) (at_state ph path inner last)
  text_bytes ph s h = all_bytes_pass (λ _. true) true (is_in_raw path) (at_state ph path inner last) (λ c _. in_text_byte ph c h) s (everything_passes s)

  space_kept : (ph : BuilderMode) (c : ℕ) → space_byte (insertion_mode_of ph) c (at_state ph path inner last) ≡ went (one_kept (keeps_space ph) c (is_in_raw path)) (at_state ph path inner last)
  space_kept Initial c = refl
  space_kept BeforeHtml c = refl
  space_kept BeforeHead c = refl
  space_kept (InHead here inside) c = refl
  space_kept AfterHead c = refl
  space_kept InBody c = refl
  space_kept PastBody c = refl
  space_kept AfterHtml c = refl

  blank_byte : (ph : BuilderMode) (c : ℕ) → is_in_text path ≡ false → is_space c ≡ true → step_byte c (at_state ph path inner last) ≡ went (one_kept (keeps_space ph) c (is_in_raw path)) (at_state ph path inner last)
  unfolding step_byte
  blank_byte ph c h space = rw (h, space) (space_kept ph c)

  -- whitespace is dropped or stands
  pub blank_bytes : (ph : BuilderMode) (s rest : List ℕ) → is_in_text path ≡ false → all_pass is_space s ≡ true
      → step_bytes (s ++ rest) (at_state ph path inner last) ≡ stepped_after_events (kept_bytes (keeps_space ph) s (is_in_raw path)) (after_bytes (length s) (step_bytes rest (at_state ph path inner last)))
  blank_bytes ph s rest h all = bytes_pass is_space (keeps_space ph) (is_in_raw path) (at_state ph path inner last) (λ c space. blank_byte ph c h space) s rest all

  pub only_blank_bytes : (ph : BuilderMode) (s : List ℕ) → is_in_text path ≡ false → all_pass is_space s ≡ true → step_bytes s (at_state ph path inner last) ≡ went (kept_bytes (keeps_space ph) s (is_in_raw path)) (at_state ph path inner last)
  only_blank_bytes ph s h all = all_bytes_pass is_space (keeps_space ph) (is_in_raw path) (at_state ph path inner last) (λ c space. blank_byte ph c h space) s all

  body_keeps : (c : ℕ) → is_in_text path ≡ false → is_in_blank path ≡ false → step_byte c (at_state InBody path inner last) ≡ went (one_kept true c (is_in_raw path)) (at_state InBody path inner last)
  unfolding step_byte
  body_keeps c h plain = rw h (by (is_space c))
    where
      by : (b : Bool) → cond b (keep_byte c (at_state InBody path inner last)) (body_byte c (at_state InBody path inner last)) ≡ went (one_kept true c (is_in_raw path)) (at_state InBody path inner last)
      by true = refl
      by false = rw plain refl

  -- in the body all bytes stand where text may
  pub body_bytes : (s : List ℕ) → is_in_text path ≡ false → is_in_blank path ≡ false → step_bytes s (at_state InBody path inner last) ≡ went (each_byte s (is_in_raw path)) (at_state InBody path inner last)
  body_bytes s h plain = all_bytes_pass (λ _. true) true (is_in_raw path) (at_state InBody path inner last) (λ c _. body_keeps c h plain) s (everything_passes s)

  other : (ph : BuilderMode) (c : ℕ) → is_in_text path ≡ false → is_space c ≡ false → step_byte c (at_state ph path inner last) ≡ other_byte c (at_state ph path inner last)
  unfolding step_byte
  other ph c h space = rw (h, space) refl

-- what isn't whitespace is refused, or all that is missing is made and it stands in the body
abbrev pub other_means : ℕ → List Event → Construction → Option Rule → Stepped
other_means c es st (Some rule) = stops rule 0
other_means c es st None = went (es ++ text (c ∷ []) false ∷ []) st

module _ (path : List Element) (inner last : List (List ℕ)) where
  other_is : (ph : BuilderMode) (c : ℕ) → is_in_text (open_path ph path) ≡ false → other_byte c (at_state ph (open_path ph path) inner last) ≡ other_means c (missing ph) (at_state InBody (body_path ph path) inner last) (text_rule ph path)
  unfolding is_in_blank blank_parents is_among is_raw raw_names
  other_is Initial c h = refl
  other_is BeforeHtml c h = refl
  other_is BeforeHead c h = refl
  other_is (InHead true None) c h = refl
  other_is (InHead false None) c h = refl
  other_is (InHead true (Some Title)) c h = refl
  other_is (InHead false (Some Title)) c h = refl
  other_is (InHead true (Some Style)) c h = refl
  other_is (InHead false (Some Style)) c h = refl
  other_is (InHead true (Some Script)) c h = refl
  other_is (InHead false (Some Script)) c h = refl
  other_is AfterHead c h = refl
  other_is InBody c h = by (is_in_blank path)
    where
      by : (b : Bool) → cond b (stops TextHere 0) (keep_byte c (at_state InBody path inner last)) ≡ other_means c [] (at_state InBody path inner last) (cond b (Some TextHere) None)
      by true = refl
      by false = ap (λ raw. went (text (c ∷ []) raw ∷ []) (at_state InBody path inner last)) (not_raw path h)
  other_is PastBody c h = refl
  other_is AfterHtml c h = refl

-- the open elements of the body hold texts, where a text isn't refused
pub body_is_plain : (ph : BuilderMode) (path : List Element) → is_in_text (open_path ph path) ≡ false → text_rule ph path ≡ None → (is_in_text (body_path ph path) ≡ false) × (is_in_blank (body_path ph path) ≡ false)
unfolding is_in_blank blank_parents is_among is_raw raw_names holds_text rcdata_names is_rcdata
body_is_plain Initial path h none = (refl, refl)
body_is_plain BeforeHtml path h none = (refl, refl)
body_is_plain BeforeHead path h none = (refl, refl)
body_is_plain (InHead here inside) path h none = (refl, refl)
body_is_plain AfterHead path h none = (refl, refl)
body_is_plain InBody path h none = (h, by (is_in_blank path) none)
  where
    by : (b : Bool) → cond b (Some TextHere) None ≡ None → b ≡ false
    by true k = cc
    by false k = refl
body_is_plain PastBody path h none = (refl, refl)
body_is_plain AfterHtml path h none = (refl, refl)

-- whitespace and then other bytes: refused at the first of these, or all is made and they stand in the body
abbrev pub mixed_means : List Event → ℕ → List Event → List ℕ → Construction → Option Rule → Stepped
mixed_means front n made s st (Some rule) = stops rule n
mixed_means front n made s st None = went (front ++ (made ++ each_byte s false)) st

module _ (path : List Element) (inner last : List (List ℕ)) where
  rest_stands : (ph : BuilderMode) (rest : List ℕ) → is_in_text (open_path ph path) ≡ false → text_rule ph path ≡ None
      → step_bytes rest (at_state InBody (body_path ph path) inner last) ≡ went (each_byte rest false) (at_state InBody (body_path ph path) inner last)
  rest_stands ph rest h none =
      let plain = body_is_plain ph path h none in
      body_bytes (body_path ph path) inner last rest plain.0 plain.1 ∙ ap (λ raw. went (each_byte rest raw) (at_state InBody (body_path ph path) inner last)) (not_raw (body_path ph path) plain.0)

  from_other : (ph : BuilderMode) (front : List Event) (n c : ℕ) (rest : List ℕ) (o : Option Rule) → is_in_text (open_path ph path) ≡ false → text_rule ph path ≡ o
      → stepped_after_events front (after_bytes n (then_step (other_means c (missing ph) (at_state InBody (body_path ph path) inner last) o) (λ next. after_bytes 1 (step_bytes rest next))))
      ≡ mixed_means front n (missing ph) (c ∷ rest) (at_state InBody (body_path ph path) inner last) o
  from_other ph front n c rest (Some rule) h e = ap (stops rule) (omega arith)
  from_other ph front n c rest None h e =
      rw (rest_stands ph rest h e) (ap (λ x. went (front ++ x) (at_state InBody (body_path ph path) inner last)) (append_assoc (missing ph) (text (c ∷ []) false ∷ []) (each_byte rest false)))

  pub mixed_bytes : (ph : BuilderMode) (front : List ℕ) (c : ℕ) (rest : List ℕ) → is_in_text (open_path ph path) ≡ false → all_pass is_space front ≡ true → is_space c ≡ false
      → step_bytes (front ++ c ∷ rest) (at_state ph (open_path ph path) inner last)
      ≡ mixed_means (kept_bytes (keeps_space ph) front (is_in_raw (open_path ph path))) (length front) (missing ph) (c ∷ rest) (at_state InBody (body_path ph path) inner last) (text_rule ph path)
  mixed_bytes ph front c rest h all space =
      let st = at_state ph (open_path ph path) inner last in
      let one : step_byte c st ≡ other_means c (missing ph) (at_state InBody (body_path ph path) inner last) (text_rule ph path) = other (open_path ph path) inner last ph c h space ∙ other_is path inner last ph c h in
      blank_bytes (open_path ph path) inner last ph front (c ∷ rest) h all
      ∙ ap (λ x. stepped_after_events (kept_bytes (keeps_space ph) front (is_in_raw (open_path ph path))) (after_bytes (length front) (then_step x (λ next. after_bytes 1 (step_bytes rest next))))) one
      ∙ from_other ph (kept_bytes (keeps_space ph) front (is_in_raw (open_path ph path))) (length front) c rest (text_rule ph path) h refl
