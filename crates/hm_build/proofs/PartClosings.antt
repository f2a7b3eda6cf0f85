-- Where body is closed in a text that is read part by part.
use Rattle.std.proofs.Common.{◌≡◌, ℕ, zero, suc, pred, ◌+◌, ◌-◌, ◌≤◌, ◌<◌, Bool, true, false, cond, List, [], ◌∷◌, ◌++◌, length, drop, Option, Some, None, is_some, refl, sym, ap, ap₂, subst, ◌∙◌, arith, append-nil}
use Rattle.std.proofs.lemmas.List.{length-drop, length-map}
use Rattle.hm_base.specs.Source.{Source, byte_of}
use Rattle.hm_base.specs.Walks.{Event}
use Rattle.hm_refs.specs.Names.{Entry}
use Rattle.hm_refs.specs.Tables.{IsTable}
use Rattle.hm_lexer.specs.Texts.{begins_markup, ends_plain, plain_front, read_text, reference_in}
use Rattle.hm_tree.specs.Tokens.{Seen, seen, slice, taken}
use Rattle.hm_tree.specs.declared.tokens.Spanned.{Spanned}
use Rattle.hm_token_laws.specs.First.{Mode, after_bytes, after_empty_tags, first, next_here, read_here}
use Rattle.hm_token_laws.specs.Laws.{SoundNames, reads_markup}
use Rattle.hm_token_laws.proofs.Bools.{or_parts, none_there}
use Rattle.hm_token_laws.proofs.TextPieces.{names_of_table}
use Rattle.hm_construction_laws.proofs.Closing.{StaysOpen, bytes_open}
use Rattle.hm_construction_laws.proofs.Modes.{is_mode}
use Rattle.hm_construction_laws.proofs.Rests.{shorter, rest_is}
use Rattle.hm_construction_laws.specs.Closing.{is_after_body, closed_from, closed_next, closed_step}
use Rattle.hm_construction_laws.specs.Steps.{Construction, Stepped, went, stops, stepped_after_events, step, step_byte, step_bytes, then_step}
use Rattle.hm_construction_laws.specs.Steps as steps
use Rattle.hm_construction_laws.specs.Trees.{mode_of}
use Rattle.hm_lexer.specs.Parts.{IsPart, left_of}
use Rattle.hm_lexer.specs.Reading.{Reading, text_of}
use Rattle.hm_lexer.specs.Ready.{plain_piece}
use Rattle.hm_lexer.proofs.Building.{piece_front, piece_plain, tags_counted}
use Rattle.hm_lexer.proofs.Trees.{ArePlain, MarkupOn, byte_on, first_here, is_foreign, no_empty_tag, step_text}
use Rattle.hm_insertion.specs.Building.{Building, IsStepped}
use Rattle.hm_build.specs.Feeding.{IsPartway}
use Rattle.hm_build.specs.Parsing.{ClosesAt, ClosesOn, KnowsClosed, closed_here, closed_left, first_of, place_of}
use Rattle.hm_build.proofs.Closings.{closed_by_next, closes_with, skipped}
use Rattle.hm_build.proofs.PartTurns.{PartKind, in_mode, kind, piece, whole}

-- ---- a text doesn't close body

abbrev open_step : Stepped → (Construction → Option ℕ) → Option ℕ
open_step (went es st) more = more st
open_step (stops rule n) more = None

open_closed : (place : ℕ → ℕ) (at : ℕ) (o : Stepped) (more : Construction → Option ℕ) → StaysOpen o → closed_step place at o more ≡ open_step o more
open_closed place at (went es st) more h = ap (λ b. cond b (Some (place at)) (more st)) h
open_closed place at (stops rule n) more h = refl

later : (es : List Event) (n : ℕ) (o : Stepped) (more : Construction → Option ℕ) → open_step (stepped_after_events es (steps.after_bytes n o)) more ≡ open_step o more
later es n (went fs st) more = refl
later es n (stops rule m) more = refl

byte_open : (c : ℕ) (st : Construction) → is_after_body st.insertion_mode ≡ false → StaysOpen (step_byte c st)
byte_open c st h = by (step_byte c st) (bytes_open (c ∷ []) st h)
  where
    by : (o : Stepped) → StaysOpen (then_step o (λ next. steps.after_bytes 1 (step_bytes [] next))) → StaysOpen o
    by (went es next) k = k
    by (stops rule n) k = tt

-- ---- ordinary text byte by byte

-- a byte that stands for itself, and the text after it
plain_here : (t : List Entry) (foreign : Bool) (c : ℕ) (s : List ℕ) → ends_plain t false c s ≡ false → read_here t foreign (c ∷ s) ≡ taken (slice (c ∷ plain_front t false s)) (drop (length (plain_front t false s)) s)
unfolding read_text
plain_here t foreign c s h =
    let two = or_parts (begins_markup (c ∷ s)) (is_some (reference_in t c s)) h in
    let none : reference_in t c s ≡ None = none_there (reference_in t c s) two.1 in
    let front : plain_front t false (c ∷ s) ≡ c ∷ plain_front t false s = rw h refl in
    let text : read_text t false (c ∷ s) ≡ taken (slice (c ∷ plain_front t false s)) (drop (length (plain_front t false s)) s) = rw none (ap₂ (λ x k. taken (slice x) (drop k (c ∷ s))) front (ap length front)) in
    rw two.0 text

plain_token : (t : List Entry) (mode : Mode) (c : ℕ) (s : List ℕ) → reads_markup mode ≡ true → ends_plain t false c s ≡ false
    → first t mode (c ∷ s) ≡ after_bytes 0 (taken (slice (c ∷ plain_front t false s)) (drop (length (plain_front t false s)) s))
plain_token t mode c s m h =
    let two = or_parts (begins_markup (c ∷ s)) (is_some (reference_in t c s)) h in
    first_here t mode (c ∷ s) m ∙ ap (next_here t (is_foreign mode)) (no_empty_tag (c ∷ s) two.0) ∙ ap (after_bytes 0) (plain_here t (is_foreign mode) c s h)

front_short : (t : List Entry) (s : List ℕ) → length (plain_front t false s) ≤ length s
front_short t [] = omega arith
front_short t (c ∷ s) = by (ends_plain t false c s) (front_short t s)
  where
    by : (b : Bool) → length (plain_front t false s) ≤ length s → length (cond b [] (c ∷ plain_front t false s)) ≤ suc (length s)
    by true h = omega arith
    by false h = omega arith

text_token : (t : List Entry) (place : ℕ → ℕ) (at : ℕ) (st : Construction) (c : ℕ) (s : List ℕ) → reads_markup (mode_of st.path) ≡ true → is_after_body st.insertion_mode ≡ false → ends_plain t false c s ≡ false
    → closed_from t place 0 at st (c ∷ s) ≡ open_step (step_bytes (c ∷ plain_front t false s) st) (λ next. closed_from t place (length (plain_front t false s)) (at + 1) next s)
text_token t place at st c s m o h =
    let f : List ℕ = plain_front t false s in
    let short = front_short t s in
    let skip : pred (suc (length s) - length (drop (length f) s)) ≡ length f = minus (length s) (length f) (length (drop (length f) s)) (length-drop (length f) s) short in
    ap (λ x. closed_next place at st (c ∷ s) x (λ k next. closed_from t place k (at + 1) next s)) (plain_token t (mode_of st.path) c s m h)
    ∙ ap (λ x. closed_step place (at + 0) x (λ next. closed_from t place (pred (suc (length s) - length (drop (length f) s))) (at + 1) next s)) (step_text st (c ∷ f))
    ∙ open_closed place (at + 0) (step_bytes (c ∷ f) st) (λ next. closed_from t place (pred (suc (length s) - length (drop (length f) s))) (at + 1) next s) (bytes_open (c ∷ f) st o)
    ∙ ap (λ k. open_step (step_bytes (c ∷ f) st) (λ next. closed_from t place k (at + 1) next s)) skip
  where
    minus : (n k r : ℕ) → r ≡ n - k → k ≤ n → pred (suc n - r) ≡ k
    minus n k r e h = let one : suc n - r ≡ suc k = omega arith in ap pred one

-- a byte of ordinary text that stands for itself is stepped, and the text goes on after it
byte_closes : (t : List Entry) (place : ℕ → ℕ) (at : ℕ) (st : Construction) (c : ℕ) (s : List ℕ) → reads_markup (mode_of st.path) ≡ true → is_after_body st.insertion_mode ≡ false → ends_plain t false c s ≡ false
    → closed_from t place 0 at st (c ∷ s) ≡ open_step (step_byte c st) (λ next. closed_from t place 0 (at + 1) next s)
byte_closes t place at st c s m o h = text_token t place at st c s m o h ∙ by (step_byte c st) (byte_on c st m) (byte_open c st o)
  where
    on : (next : Construction) (s : List ℕ) → reads_markup (mode_of next.path) ≡ true → is_after_body next.insertion_mode ≡ false → open_step (step_bytes (plain_front t false s) next) (λ z. closed_from t place (length (plain_front t false s)) (at + 1) z s) ≡ closed_from t place 0 (at + 1) next s
    on next [] m o = refl
    on next (d ∷ s) m o = choose (ends_plain t false d s) refl
      where
        choose : (b : Bool) → ends_plain t false d s ≡ b → open_step (step_bytes (cond b [] (d ∷ plain_front t false s)) next) (λ z. closed_from t place (length (cond b [] (d ∷ plain_front t false s))) (at + 1) z (d ∷ s)) ≡ closed_from t place 0 (at + 1) next (d ∷ s)
        choose true e = refl
        choose false e = sym (text_token t place (at + 1) next d s m o e)

    by : (x : Stepped) → MarkupOn x → StaysOpen x → open_step (then_step x (λ next. steps.after_bytes 1 (step_bytes (plain_front t false s) next))) (λ next. closed_from t place (length (plain_front t false s)) (at + 1) next s)
        ≡ open_step x (λ next. closed_from t place 0 (at + 1) next s)
    by (went es next) k q = later es 1 (step_bytes (plain_front t false s) next) (λ z. closed_from t place (length (plain_front t false s)) (at + 1) z s) ∙ on next s k q
    by (stops rule n) k q = refl

-- so is ordinary text up to any place where it goes on
text_closes : (t : List Entry) (place : ℕ → ℕ) (at : ℕ) (st : Construction) (c : ℕ) (f r : List ℕ) → reads_markup (mode_of st.path) ≡ true → is_after_body st.insertion_mode ≡ false → ArePlain t (c ∷ f) r
    → closed_from t place 0 at st (c ∷ (f ++ r)) ≡ open_step (step_bytes (c ∷ f) st) (λ next. closed_from t place 0 (at + suc (length f)) next r)
text_closes t place at st c [] r m o h = byte_closes t place at st c r m o h.0 ∙ by (step_byte c st)
  where
    here : at + 1 ≡ at + suc (length {A = ℕ} [])
    here = omega arith

    by : (x : Stepped) → open_step x (λ next. closed_from t place 0 (at + 1) next r) ≡ open_step (then_step x (λ next. steps.after_bytes 1 (step_bytes [] next))) (λ next. closed_from t place 0 (at + suc (length {A = ℕ} [])) next r)
    by (went es next) = ap (λ i. closed_from t place 0 i next r) here
    by (stops rule n) = refl
text_closes t place at st c (d ∷ f) r m o h =
    byte_closes t place at st c (d ∷ (f ++ r)) m o h.0 ∙ by (step_byte c st) (byte_on c st m) (byte_open c st o) (λ next k q. text_closes t place (at + 1) next d f r k q h.1)
  where
    far : at + 1 + suc (length f) ≡ at + suc (suc (length f))
    far = omega arith

    by : (x : Stepped) → MarkupOn x → StaysOpen x
        → ((next : Construction) → reads_markup (mode_of next.path) ≡ true → is_after_body next.insertion_mode ≡ false → closed_from t place 0 (at + 1) next (d ∷ (f ++ r)) ≡ open_step (step_bytes (d ∷ f) next) (λ n. closed_from t place 0 (at + 1 + suc (length f)) n r))
        → open_step x (λ next. closed_from t place 0 (at + 1) next (d ∷ (f ++ r))) ≡ open_step (then_step x (λ next. steps.after_bytes 1 (step_bytes (d ∷ f) next))) (λ next. closed_from t place 0 (at + suc (suc (length f))) next r)
    by (went es next) k q more =
        more next k q ∙ ap (λ i. open_step (step_bytes (d ∷ f) next) (λ n. closed_from t place 0 i n r)) far ∙ sym (later es 1 (step_bytes (d ∷ f) next) (λ n. closed_from t place 0 (at + suc (suc (length f))) n r))
    by (stops rule n) k q more = refl

-- ---- `</>` is passed over

same_closed : (place : ℕ → ℕ) (at : ℕ) (o : Stepped) (f g : Construction → Option ℕ) → ((st : Construction) → f st ≡ g st) → closed_step place at o f ≡ closed_step place at o g
same_closed place at (went es st) f g same = ap (λ x. cond (is_after_body st.insertion_mode) (Some (place at)) x) (same st)
same_closed place at (stops rule n) f g same = refl

token_on : (t : List Entry) (place : ℕ → ℕ) (at : ℕ) (st : Construction) (s : List ℕ) (n : ℕ) (token : Seen) (rest : List ℕ) → SoundNames t → first t (mode_of st.path) s ≡ after_bytes n (taken token rest)
    → closed_from t place 0 at st s ≡ closed_step place (at + n) (step st token) (λ next. closed_from t place 0 (at + (length s - length rest)) next rest)
token_on t place at st [] n token rest names h = let less = shorter t (mode_of st.path) [] n token rest names (is_mode st.path) h in absurd (omega arith)
token_on t place at st (c ∷ s) n token rest names h =
    let less = shorter t (mode_of st.path) (c ∷ s) n token rest names (is_mode st.path) h in
    let skip : ℕ = pred (length (c ∷ s) - length rest) in
    let left : drop skip s ≡ rest = rest_is t (mode_of st.path) c s n token rest names (is_mode st.path) h in
    let one : skip + 1 ≡ length (c ∷ s) - length rest = pred_suc (length (c ∷ s) - length rest) (omega arith) in
    let place_is : at + 1 + skip ≡ at + (length (c ∷ s) - length rest) = omega arith in
    let on : (next : Construction) → closed_from t place skip (at + 1) next s ≡ closed_from t place 0 (at + (length (c ∷ s) - length rest)) next rest = λ next.
    skipped t place skip (at + 1) next s (omega arith) ∙ ap (closed_from t place 0 (at + 1 + skip) next) left ∙ ap (λ i. closed_from t place 0 i next rest) place_is in
    ap (λ x. closed_next place at st (c ∷ s) x (λ k next. closed_from t place k (at + 1) next s)) h
    ∙ same_closed place (at + n) (step st token) (λ next. closed_from t place skip (at + 1) next s) (λ next. closed_from t place 0 (at + (length (c ∷ s) - length rest)) next rest) on
  where
    pred_suc : (n : ℕ) → 0 < n → pred n + 1 ≡ n
    pred_suc zero h = absurd (omega arith)
    pred_suc (suc n) h = omega arith

skips_tags : (t : List Entry) (place : ℕ → ℕ) (at n : ℕ) (st : Construction) (s : List ℕ) (c : ℕ) (r : List ℕ) → SoundNames t → reads_markup (mode_of st.path) ≡ true → (after_empty_tags s).rest ≡ c ∷ r → n ≡ (after_empty_tags s).count → ends_plain t false c r ≡ false
    → closed_from t place 0 at st s ≡ closed_from t place 0 (at + n) st (c ∷ r)
skips_tags t place at n st s c r names m following count h =
    let mode : Mode = mode_of st.path in
    let f : List ℕ = plain_front t false r in
    let rest : List ℕ = drop (length f) r in
    let token : Seen = slice (c ∷ f) in
    let whole_is : first t mode s ≡ after_bytes n (taken token rest) =
    first_here t mode s m ∙ ap (λ l. next_here t (is_foreign mode) (record { count = (after_empty_tags s).count; rest = l })) following ∙ ap₂ after_bytes (sym count) (plain_here t (is_foreign mode) c r h) in
    let size : length s ≡ n + length (c ∷ r) = tags_counted s ∙ ap₂ (λ i (l : List ℕ). i + length l) (sym count) following in
    let short : length rest ≡ length r - length f = length-drop (length f) r in
    let one : at + n ≡ at + n + 0 = omega arith in
    let two : at + (length s - length rest) ≡ at + n + (length (c ∷ r) - length rest) = omega arith in
    token_on t place at st s n token rest names whole_is
    ∙ ap₂ (λ i j. closed_step place i (step st token) (λ next. closed_from t place 0 j next rest)) one two
    ∙ sym (token_on t place (at + n) st (c ∷ r) 0 token rest names (plain_token t mode c r m h))

-- ---- a part

piece_closes : (t : List Entry) (place : ℕ → ℕ) (at n : ℕ) (st : Construction) (s : List ℕ) (c : ℕ) (r : List ℕ) → IsTable t → reads_markup (mode_of st.path) ≡ true → is_after_body st.insertion_mode ≡ false → (after_empty_tags s).rest ≡ c ∷ r → n ≡ (after_empty_tags s).count → ends_plain t false c r ≡ false
    → closed_from t place 0 at st s ≡ open_step (step_bytes (c ∷ plain_piece t r) st) (λ next. closed_from t place 0 (at + n + suc (length (plain_piece t r))) next (drop (length (plain_piece t r)) r))
piece_closes t place at n st s c r tab m o following count h =
    let f : List ℕ = plain_piece t r in
    let left : List ℕ = drop (length f) r in
    let cut : r ≡ f ++ (left ++ []) = piece_front t r ∙ ap (λ l. f ++ l) (sym (append-nil left)) in
    let plain : ends_plain t false c (f ++ (left ++ [])) ≡ false = ap (ends_plain t false c) (sym cut) ∙ h in
    skips_tags t place at n st s c r (names_of_table t tab) m following count h
    ∙ ap (λ l. closed_from t place 0 (at + n) st (c ∷ l)) cut
    ∙ text_closes t place (at + n) st c f (left ++ []) m o (plain, piece_plain t r [] tab)
    ∙ ap (λ l. open_step (step_bytes (c ∷ f) st) (λ next. closed_from t place 0 (at + n + suc (length f)) next l)) (append-nil left)

pub part_closes : (r : Reading) (b : Building) (m : Mode) (token : Spanned) (new : Reading) (s : List ℕ) (after : Building) → IsTable r.names → IsPartway r b → m ≡ mode_of b.state.path → IsPart r m token new → text_of r ≡ s
    → IsStepped (step b.state (seen s token.token)) b after → is_after_body b.state.insertion_mode ≡ false → ClosesAt r b token.from new after
part_closes r b m token new s after tab p e k t done o =
    closes_with r b token new after k.forward k.inside k.moved (by (kind r b token new here)) (subst (λ x. IsStepped (step b.state (seen x token.token)) b after) (sym t) done)
  where
    here : IsPart r (mode_of b.state.path) token new
    here = in_mode r m (mode_of b.state.path) token new e k

    more : Construction → Option ℕ
    more next = closed_from r.names (place_of r.source) 0 token.to next (drop token.to (text_of r))

    by : PartKind r.names (mode_of b.state.path) (left_of r) here.passed (seen (text_of r) token.token) (drop token.to (text_of r)) → closed_left r b ≡ closed_step (place_of r.source) token.from (step b.state (seen (text_of r) token.token)) more
    by (whole f) = closed_by_next r b token here.passed p.inside here.from k.forward k.inside f
    by (piece x f l some is) =
        let left : length (left_of r) ≡ length (text_of r) - r.at = length-drop r.at (text_of r) in
        let rest : length (drop token.to (text_of r)) ≡ length (text_of r) - token.to = length-drop token.to (text_of r) in
        let size : length x ≡ suc (length (plain_piece r.names is.more)) = ap length is.bytes in
        let before : r.at ≤ length (text_of r) = p.inside in
        let inside : token.to ≤ length (text_of r) = k.inside in
        let to : r.at + here.passed + suc (length (plain_piece r.names is.more)) ≡ token.to = omega arith in
        let text : seen (text_of r) token.token ≡ slice (is.head ∷ plain_piece r.names is.more) = f ∙ ap slice is.bytes in
        let bytes : Stepped = step_bytes (is.head ∷ plain_piece r.names is.more) b.state in
        piece_closes r.names (place_of r.source) r.at here.passed b.state (left_of r) is.head is.more tab is.markup o is.after is.count is.plain
        ∙ ap₂ (λ i (l : List ℕ). open_step bytes (λ next. closed_from r.names (place_of r.source) 0 i next l)) to (sym is.left)
        ∙ sym (open_closed (place_of r.source) token.from bytes more (bytes_open (is.head ∷ plain_piece r.names is.more) b.state o))
        ∙ ap (λ z. closed_step (place_of r.source) token.from z more) (sym (ap (step b.state) text ∙ step_text b.state (is.head ∷ plain_piece r.names is.more)))

pub begins_inside : (r : Reading) (m : Mode) (token : Spanned) (new : Reading) (page : Source) → r.source ≡ page → IsPart r m token new → token.from ≤ length page.placed
begins_inside r m token new page e k =
    let text : length (text_of r) ≡ length r.source.placed = length-map r.source.placed byte_of in
    let size : length r.source.placed ≡ length page.placed = ap (λ (v : Source). length v.placed) e in
    omega (arith, k.forward, k.inside)

-- ---- the place that is known by now

open_where : (at : ℕ) (x : Bool) → cond x (Some at) None ≡ None → x ≡ false
open_where at true e = cc
open_where at false e = refl

pub closes_on : (r : Reading) (b : Building) (from : ℕ) (page : Source) (new : Reading) (after : Building) (before by_now : Option ℕ) → r.source ≡ page → by_now ≡ first_of before (closed_here after page from) → (is_after_body b.state.insertion_mode ≡ false → ClosesAt r b from new after)
    → KnowsClosed before b → ClosesOn before r b by_now new after
closes_on r b from page new after (Some at) by_now e is closes knows = record {
  is = ap (λ o. first_of o (closed_left new after)) (sym is);
  open_still = λ none. let some : Some at ≡ None = sym is ∙ none in cc;
}
closes_on r b from page new after None by_now e is closes knows =
    let here : by_now ≡ closed_here after r.source from = is ∙ ap (λ v. closed_here after v from) (sym e) in
    record {
      is = (closes (knows refl)).is ∙ ap (λ o. first_of o (closed_left new after)) (sym here);
      open_still = λ none. open_where (place_of r.source from) (is_after_body after.state.insertion_mode) (sym here ∙ none);
    }

pub closes_further : (before mid by_now : Option ℕ) (r s u : Reading) (b c d : Building) → ClosesOn before r b mid s c → ClosesOn mid s c by_now u d → ClosesOn before r b by_now u d
closes_further before mid by_now r s u b c d h k = record { is = h.is ∙ k.is; open_still = k.open_still }

-- where it is closed in the whole text, by what is found in the rest of it
pub closed_in_rest : (closed later : Option ℕ) (r s : Reading) (b c : Building) → ClosesOn None r b closed s c → (is_after_body c.state.insertion_mode ≡ false → closed_left s c ≡ later) → closed_left r b ≡ first_of closed later
closed_in_rest (Some at) later r s b c h k = h.is
closed_in_rest None later r s b c h k = h.is ∙ k (h.open_still refl)
