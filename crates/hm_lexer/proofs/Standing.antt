-- Where construction stands after what is ready doesn't depend on how the text came.
use Rattle.std.proofs.Common.{◌≡◌, ℕ, zero, suc, pred, ◌+◌, ◌-◌, ◌≤◌, ◌<◌, Bool, true, false, cond, not, ◌&&◌, ◌||◌, ◌==◌, List, [], ◌∷◌, ◌++◌, length, take, drop, Option, Some, None, is_some, refl, sym, ap, ap₂, subst, ◌∙◌, arith, length-append, append_assoc}
use Rattle.std.proofs.lemmas.List.{length-drop, drop-append-le, drop_at, take-append-drop}
use Rattle.std.proofs.lemmas.Bool.{and_parts, and_from}
use Rattle.hm_base.specs.Bytes.{some_passes}
use Rattle.hm_base.specs.Walks.{Event}
use Rattle.hm_refs.specs.Names.{Entry}
use Rattle.hm_refs.specs.References.{Reference}
use Rattle.hm_refs.specs.Tables.{IsTable}
use Rattle.hm_tree.specs.Tokens.{Seen, Scanned, taken, refused, slice, points}
use Rattle.hm_tree.specs.declared.tokens.ScanFault.{ScanFault}
use Rattle.hm_scan.specs.Texts.{begins_markup, reference_in, ends_plain, read_by, read_text}
use Rattle.hm_token_laws.specs.First.{Mode, ordinary, in_svg, rcdata, raw, script, read_markup, read_here, Remainder, three_more, nothing_skipped, after_empty_tags, next_here, Next, at_end, after_bytes, first}
use Rattle.hm_token_laws.specs.Laws.{SoundNames, IsMode, reads_markup}
use Rattle.hm_token_laws.specs.Readings.{ends_itself, NextExtends}
use Rattle.hm_token_laws.proofs.Bools.{or_parts, none_there}
use Rattle.hm_token_laws.proofs.Longer.{next_tokens_extend}
use Rattle.hm_token_laws.proofs.TextPieces.{names_of_table, here_long}
use Rattle.hm_construction_laws.specs.Steps.{Construction, Stepped, went, stops, stepped_after_events, then_step, step_byte, step_bytes, step}
use Rattle.hm_construction_laws.specs.Steps as steps
use Rattle.hm_construction_laws.specs.Trees.{mode_of}
use Rattle.hm_construction_laws.proofs.Modes.{is_mode}
use Rattle.hm_construction_laws.proofs.Rests.{rest_is}
use Rattle.hm_lexer.specs.Ready.{ends_reference, is_cut, tells_markup, is_told, here_ready, next_ready, ready, plain_piece, piece_by, text_part, here_part, part_after, part}
use Rattle.hm_lexer.specs.Standing.{Standing, stand_at, stand_on, stand_next, stands}
use Rattle.hm_lexer.specs.PartLaws.{StandsOn, ReadyStands}
use Rattle.hm_lexer.proofs.Trees.{is_foreign, first_here, no_empty_tag, step_text, MarkupOn, byte_on}
use Rattle.hm_lexer.proofs.Building.{markup_same, reference_same, plain_same, piece_front, reference_short, not_cut, empty_bytes}

-- ---- one token

skipped : (t : List Entry) (k : ℕ) (st : Construction) (s : List ℕ) → stands t k st s ≡ stands t 0 st (drop k s)
skipped t zero st s = refl
skipped t (suc k) st [] = refl
skipped t (suc k) st (c ∷ s) = skipped t k st s

same_stand : (o : Stepped) (f g : Construction → Option Standing) → ((st : Construction) → f st ≡ g st) → stand_on o f ≡ stand_on o g
same_stand (went es st) f g same = same st
same_stand (stops rule n) f g same = refl

-- a token after which the text goes on
token_stands : (t : List Entry) (st : Construction) (c : ℕ) (s : List ℕ) (n : ℕ) (token : Seen) (rest : List ℕ) → ready t (mode_of st.path) (c ∷ s) ≡ true → part t (mode_of st.path) (c ∷ s) ≡ after_bytes n (taken token rest)
    → drop (pred (length (c ∷ s) - length rest)) s ≡ rest → stands t 0 st (c ∷ s) ≡ stand_on (step st token) (λ next. stands t 0 next rest)
token_stands t st c s n token rest h e left =
    ap (λ b. cond b (stand_next st (c ∷ s) (part t (mode_of st.path) (c ∷ s)) (λ skip next. stands t skip next s)) (stand_at st (c ∷ s))) h
    ∙ ap (λ x. stand_next st (c ∷ s) x (λ skip next. stands t skip next s)) e
    ∙ same_stand (step st token) (λ next. stands t (pred (length (c ∷ s) - length rest)) next s) (λ next. stands t 0 next rest)
    (λ next. skipped t (pred (length (c ∷ s) - length rest)) next s ∙ ap (stands t 0 next) left)

fault_stands : (t : List Entry) (st : Construction) (c : ℕ) (s : List ℕ) (n : ℕ) (fault : ScanFault) → ready t (mode_of st.path) (c ∷ s) ≡ true → part t (mode_of st.path) (c ∷ s) ≡ after_bytes n (refused fault) → stands t 0 st (c ∷ s) ≡ None
fault_stands t st c s n fault h e =
    ap (λ b. cond b (stand_next st (c ∷ s) (part t (mode_of st.path) (c ∷ s)) (λ skip next. stands t skip next s)) (stand_at st (c ∷ s))) h
    ∙ ap (λ x. stand_next st (c ∷ s) x (λ skip next. stands t skip next s)) e

no_next : (t : List Entry) (mode : Mode) (n : ℕ) (x : Scanned) → first t mode [] ≡ after_bytes n x → ⊥
unfolding first
no_next t ordinary n x e = cc
no_next t in_svg n x e = cc
no_next t (rcdata name) n x e = cc
no_next t (raw name) n x e = cc
no_next t script n x e = cc

-- what is the next token and ready, of any longer text
extends_stand : (t : List Entry) (st : Construction) (s y : List ℕ) (x : Next) → SoundNames t → next_ready x ≡ true → NextExtends y x (first t (mode_of st.path) (s ++ y)) → ready t (mode_of st.path) (s ++ y) ≡ true
    → part t (mode_of st.path) (s ++ y) ≡ first t (mode_of st.path) (s ++ y) → StandsOn t st s y x
extends_stand t st s y at_end names h e r p = tt
extends_stand t st s y (after_bytes n (refused fault)) names h (longer, is, more) r p = by (s ++ y) refl r (p ∙ is ∙ ap (after_bytes n) (not_cut fault y longer h more)) is
  where
    none : (x : Scanned) → first t (mode_of st.path) [] ≡ after_bytes n x → ⊥
    none x e = no_next t (mode_of st.path) n x e

    by : (whole : List ℕ) → s ++ y ≡ whole → ready t (mode_of st.path) whole ≡ true → part t (mode_of st.path) whole ≡ after_bytes n (refused fault) → first t (mode_of st.path) whole ≡ after_bytes n longer → stands t 0 st whole ≡ None
    by [] e r p i = absurd (none longer i)
    by (c ∷ w) e r p i = fault_stands t st c w n fault r p
extends_stand t st s y (after_bytes n (taken token rest)) names h (longer, is, more) r p = by (s ++ y) r (p ∙ is ∙ ap (after_bytes n) more) (is ∙ ap (after_bytes n) more)
  where
    by : (whole : List ℕ) → ready t (mode_of st.path) whole ≡ true → part t (mode_of st.path) whole ≡ after_bytes n (taken token (rest ++ y)) → first t (mode_of st.path) whole ≡ after_bytes n (taken token (rest ++ y)) → stands t 0 st whole ≡ stand_on (step st token) (λ next. stands t 0 next (rest ++ y))
    by [] r p i = absurd (no_next t (mode_of st.path) n (taken token (rest ++ y)) i)
    by (c ∷ w) r p i = token_stands t st c w n token (rest ++ y) r p (rest_is t (mode_of st.path) c w n token (rest ++ y) names (is_mode st.path) i)

-- ---- what stays ready

told_longer : (c : ℕ) (r y : List ℕ) → is_told c r ≡ true → is_told c (r ++ y) ≡ true
told_longer c r y h = by (c == 60) (c == 38) h
  where
    sign : (r : List ℕ) → tells_markup r ≡ true → tells_markup (r ++ y) ≡ true
    sign [] h = cc
    sign (d ∷ []) h = one y
      where
        one : (y : List ℕ) → tells_markup (d ∷ y) ≡ true
        one [] = h
        one (e ∷ y) = refl
    sign (d ∷ e ∷ r) h = refl

    passes : (r : List ℕ) → some_passes ends_reference r ≡ true → some_passes ends_reference (r ++ y) ≡ true
    passes [] h = cc
    passes (d ∷ r) h = first (ends_reference d) h (passes r)
      where
        first : (b : Bool) → b || some_passes ends_reference r ≡ true → (some_passes ends_reference r ≡ true → some_passes ends_reference (r ++ y) ≡ true) → b || some_passes ends_reference (r ++ y) ≡ true
        first true h more = refl
        first false h more = more h

    by : (a b : Bool) → cond a (tells_markup r) (cond b (some_passes ends_reference r) true) ≡ true → cond a (tells_markup (r ++ y)) (cond b (some_passes ends_reference (r ++ y)) true) ≡ true
    by true b h = sign r h
    by false true h = passes r h
    by false false h = refl

-- a text that is told is no cut token
text_whole : (t : List Entry) (foreign : Bool) (c : ℕ) (s : List ℕ) → begins_markup (c ∷ s) ≡ false → is_cut (read_here t foreign (c ∷ s)) ≡ false
unfolding read_text
text_whole t foreign c s h = rw h (by (reference_in t c s))
  where
    by : (o : Option Reference) → is_cut (read_by o t false (c ∷ s)) ≡ false
    by None = refl
    by (Some r) = refl

pub here_text : (t : List Entry) (foreign : Bool) (c : ℕ) (s : List ℕ) → is_told c s ≡ true → begins_markup (c ∷ s) ≡ false → here_ready t foreign (c ∷ s) ≡ true
here_text t foreign c s told none = and_from (is_told c s) (not (is_cut (read_here t foreign (c ∷ s)))) told (ap not (text_whole t foreign c s none))

ready_here : (t : List Entry) (mode : Mode) (s : List ℕ) → reads_markup mode ≡ true → ready t mode s ≡ here_ready t (is_foreign mode) (after_empty_tags s).rest
unfolding ready
ready_here t ordinary s h = refl
ready_here t in_svg s h = refl
ready_here t (rcdata name) s h = cc
ready_here t (raw name) s h = cc
ready_here t script s h = cc

part_here : (t : List Entry) (mode : Mode) (s : List ℕ) → reads_markup mode ≡ true → part t mode s ≡ part_after t (is_foreign mode) (after_empty_tags s)
unfolding part
part_here t ordinary s h = refl
part_here t in_svg s h = refl
part_here t (rcdata name) s h = cc
part_here t (raw name) s h = cc
part_here t script s h = cc

part_found : (t : List Entry) (foreign : Bool) (b : Remainder) (c : ℕ) (r : List ℕ) → b.rest ≡ c ∷ r → part_after t foreign b ≡ after_bytes b.count (here_part t foreign (c ∷ r))
part_found t foreign b c r e = ap (λ l. part_after t foreign (record { count = b.count; rest = l })) e

-- ---- ordinary text byte by byte

after_length : (n k : ℕ) (r : ℕ) → r ≡ n - k → k ≤ n → pred (suc n - r) ≡ k
after_length n k r e h = let one : suc n - r ≡ suc k = omega arith in ap pred one

piece_short : (t : List Entry) (s : List ℕ) → length (plain_piece t s) ≤ length s
piece_short t s = let n : length s ≡ length (plain_piece t s) + length (drop (length (plain_piece t s)) s) = ap length (piece_front t s) ∙ length-append (plain_piece t s) (drop (length (plain_piece t s)) s) in omega arith

-- where text begins, that is ready
text_stand : (t : List Entry) (st : Construction) (c : ℕ) (s : List ℕ) → reads_markup (mode_of st.path) ≡ true → is_told c s ≡ true → ends_plain t false c s ≡ false
    → stands t 0 st (c ∷ s) ≡ stand_on (step_bytes (c ∷ plain_piece t s) st) (λ next. stands t 0 next (drop (length (plain_piece t s)) s))
text_stand t st c s m told plain =
    let two = or_parts (begins_markup (c ∷ s)) (is_some (reference_in t c s)) plain in
    let f : List ℕ = plain_piece t s in
    let none : reference_in t c s ≡ None = none_there (reference_in t c s) two.1 in
    let is_ready : ready t (mode_of st.path) (c ∷ s) ≡ true = ready_here t (mode_of st.path) (c ∷ s) m ∙ ap (λ (k : Remainder). here_ready t (is_foreign (mode_of st.path)) k.rest) (no_empty_tag (c ∷ s) two.0) ∙ here_text t (is_foreign (mode_of st.path)) c s told two.0 in
    let token : part t (mode_of st.path) (c ∷ s) ≡ after_bytes 0 (taken (slice (c ∷ f)) (drop (length f) s)) =
    part_here t (mode_of st.path) (c ∷ s) m ∙ ap (part_after t (is_foreign (mode_of st.path))) (no_empty_tag (c ∷ s) two.0) ∙ rw (two.0, none) refl in
    let skip : pred (suc (length s) - length (drop (length f) s)) ≡ length f = after_length (length s) (length f) (length (drop (length f) s)) (length-drop (length f) s) (piece_short t s) in
    token_stands t st c s 0 (slice (c ∷ f)) (drop (length f) s) is_ready token (ap (λ k. drop k s) skip)
    ∙ ap (λ o. stand_on o (λ next. stands t 0 next (drop (length f) s))) (step_text st (c ∷ f))

stand_later : (es : List Event) (n : ℕ) (o : Stepped) (more : Construction → Option Standing) → stand_on (stepped_after_events es (steps.after_bytes n o)) more ≡ stand_on o more
stand_later es n (went fs st) more = refl
stand_later es n (stops rule k) more = refl

byte_stands : (t : List Entry) (st : Construction) (c : ℕ) (s : List ℕ) → reads_markup (mode_of st.path) ≡ true → is_told c s ≡ true → ends_plain t false c s ≡ false
    → stands t 0 st (c ∷ s) ≡ stand_on (step_byte c st) (λ next. stands t 0 next s)
byte_stands t st c s m told plain = text_stand t st c s m told plain ∙ by (step_byte c st) (byte_on c st m)
  where
    on : (next : Construction) (s : List ℕ) → reads_markup (mode_of next.path) ≡ true → stand_on (step_bytes (plain_piece t s) next) (λ n. stands t 0 n (drop (length (plain_piece t s)) s)) ≡ stands t 0 next s
    on next [] m = refl
    on next (d ∷ s) m = choose (is_told d s) refl (ends_plain t false d s) refl
      where
        choose : (a : Bool) → is_told d s ≡ a → (b : Bool) → ends_plain t false d s ≡ b → stand_on (step_bytes (cond (a && not b) (d ∷ plain_piece t s) []) next) (λ n. stands t 0 n (drop (length (cond (a && not b) (d ∷ plain_piece t s) [])) (d ∷ s))) ≡ stands t 0 next (d ∷ s)
        choose true e false f = sym (text_stand t next d s m e f)
        choose true e true f = refl
        choose false e b f = refl

    by : (o : Stepped) → MarkupOn o → stand_on (then_step o (λ next. steps.after_bytes 1 (step_bytes (plain_piece t s) next))) (λ next. stands t 0 next (drop (length (plain_piece t s)) s)) ≡ stand_on o (λ next. stands t 0 next s)
    by (went es next) k = stand_later es 1 (step_bytes (plain_piece t s) next) (λ n. stands t 0 n (drop (length (plain_piece t s)) s)) ∙ on next s k
    by (stops rule n) k = refl

-- the bytes of f stand for themselves before r, whatever follows
AreTold : List Entry → List ℕ → List ℕ → Type 0
AreTold t [] r = Unit {0}
AreTold t (c ∷ f) r = (is_told c (f ++ r) ≡ true) × (ends_plain t false c (f ++ r) ≡ false) × AreTold t f r

text_stands : (t : List Entry) (st : Construction) (c : ℕ) (f r : List ℕ) → reads_markup (mode_of st.path) ≡ true → AreTold t (c ∷ f) r → stands t 0 st (c ∷ (f ++ r)) ≡ stand_on (step_bytes (c ∷ f) st) (λ next. stands t 0 next r)
unfolding AreTold
text_stands t st c [] r m h = byte_stands t st c r m h.0 h.1 ∙ by (step_byte c st)
  where
    by : (o : Stepped) → stand_on o (λ next. stands t 0 next r) ≡ stand_on (then_step o (λ next. steps.after_bytes 1 (step_bytes [] next))) (λ next. stands t 0 next r)
    by (went es next) = refl
    by (stops rule n) = refl
text_stands t st c (d ∷ f) r m h = byte_stands t st c (d ∷ (f ++ r)) m h.0 h.1 ∙ by (step_byte c st) (byte_on c st m) (λ next k. text_stands t next d f r k h.2)
  where
    by : (o : Stepped) → MarkupOn o → ((next : Construction) → reads_markup (mode_of next.path) ≡ true → stands t 0 next (d ∷ (f ++ r)) ≡ stand_on (step_bytes (d ∷ f) next) (λ n. stands t 0 n r))
        → stand_on o (λ next. stands t 0 next (d ∷ (f ++ r))) ≡ stand_on (then_step o (λ next. steps.after_bytes 1 (step_bytes (d ∷ f) next))) (λ next. stands t 0 next r)
    by (went es next) k more = more next k ∙ sym (stand_later es 1 (step_bytes (d ∷ f) next) (λ n. stands t 0 n r))
    by (stops rule n) k more = refl

piece_told : (t : List Entry) (r y : List ℕ) → IsTable t → AreTold t (plain_piece t r) (drop (length (plain_piece t r)) r ++ y)
unfolding AreTold
piece_told t [] y k = tt
piece_told t (c ∷ r) y k = by (is_told c r) refl (ends_plain t false c r) refl (piece_told t r y k)
  where
    whole : plain_piece t r ++ (drop (length (plain_piece t r)) r ++ y) ≡ r ++ y
    whole = sym (append_assoc (plain_piece t r) (drop (length (plain_piece t r)) r) y) ∙ ap (λ l. l ++ y) (sym (piece_front t r))

    by : (a : Bool) → is_told c r ≡ a → (b : Bool) → ends_plain t false c r ≡ b → AreTold t (plain_piece t r) (drop (length (plain_piece t r)) r ++ y)
        → AreTold t (cond (a && not b) (c ∷ plain_piece t r) []) (drop (length (cond (a && not b) (c ∷ plain_piece t r) [])) (c ∷ r) ++ y)
    by true e false f more = (ap (is_told c) whole ∙ told_longer c r y e, ap (ends_plain t false c) whole ∙ plain_same t c r y k e ∙ f, more)
    by true e true f more = tt
    by false e b f more = tt

-- ---- where a token ends

pub record Suffix (v rest : List ℕ) : Type 0 where
  pub front : List ℕ
  pub is : v ≡ front ++ rest
  pub some : 0 < length front

suffix_drop : (c : ℕ) (s rest : List ℕ) → Suffix (c ∷ s) rest → drop (pred (length (c ∷ s) - length rest)) s ≡ rest
suffix_drop c s rest k = by k.front k.is k.some
  where
    by : (front : List ℕ) → c ∷ s ≡ front ++ rest → 0 < length front → drop (pred (suc (length s) - length rest)) s ≡ rest
    by [] e h = absurd (omega arith)
    by (d ∷ front) e h =
        let tail : s ≡ front ++ rest = cc in
        let size : length s ≡ length front + length rest = ap length tail ∙ length-append front rest in
        let one : suc (length s) - length rest ≡ suc (length front) = omega arith in
        ap (λ n. drop (pred n) s) one ∙ ap (drop (length front)) tail ∙ drop_at front rest (length front) refl

suffix_after : (e v rest : List ℕ) → Suffix v rest → Suffix (e ++ v) rest
suffix_after e v rest k = record {
  front = e ++ k.front;
  is = ap (λ l. e ++ l) k.is ∙ sym (append_assoc e k.front rest);
  some = let n = length-append e k.front in let h = k.some in omega arith;
}

first_suffix : (t : List Entry) (mode : Mode) (v : List ℕ) (n : ℕ) (token : Seen) (rest : List ℕ) → SoundNames t → IsMode mode → first t mode v ≡ after_bytes n (taken token rest) → Suffix v rest
first_suffix t mode [] n token rest names i h = absurd (no_next t mode n (taken token rest) h)
first_suffix t mode (c ∷ s) n token rest names i h =
    let j : ℕ = pred (length (c ∷ s) - length rest) in
    let left : drop j s ≡ rest = rest_is t mode c s n token rest names i h in
    record { front = c ∷ take j s; is = ap (λ l. c ∷ l) (sym (take-append-drop j s) ∙ ap (λ l. take j s ++ l) left); some = omega arith }

drop_suffix : (j : ℕ) (c : ℕ) (r : List ℕ) → Suffix (c ∷ r) (drop (suc j) (c ∷ r))
drop_suffix j c r = record { front = c ∷ take j r; is = ap (λ l. c ∷ l) (sym (take-append-drop j r)); some = omega arith }

tags_front : (v : List ℕ) → (e : List ℕ) × (v ≡ e ++ (after_empty_tags v).rest)
tags_front [] = ([], refl)
tags_front (a ∷ []) = ([], refl)
tags_front (a ∷ b ∷ []) = ([], refl)
tags_front (a ∷ b ∷ c ∷ s) = by (a == 60 && (b == 47 && c == 62)) (tags_front s)
  where
    by : (x : Bool) → (e : List ℕ) × (s ≡ e ++ (after_empty_tags s).rest) → (e : List ℕ) × (a ∷ b ∷ c ∷ s ≡ e ++ (cond x (three_more (after_empty_tags s)) (nothing_skipped (a ∷ b ∷ c ∷ s))).rest)
    by true (e, h) = (a ∷ b ∷ c ∷ e, ap (λ l. a ∷ b ∷ c ∷ l) h)
    by false k = ([], refl)

-- a reference has some bytes
reference_some : (t : List Entry) (c : ℕ) (r : List ℕ) (ref : Reference) → IsTable t → reference_in t c r ≡ Some ref → 1 ≤ ref.len
reference_some t c r ref k h = let long = here_long t k (c ∷ r) ref h in omega arith

piece_suffix : (t : List Entry) (c : ℕ) (r : List ℕ) (o : Option Reference) (token : Seen) (rest : List ℕ) → IsTable t → reference_in t c r ≡ o → piece_by o t c r ≡ taken token rest → Suffix (c ∷ r) rest
piece_suffix t c r None token rest k h e =
    let same : drop (suc (length (plain_piece t r))) (c ∷ r) ≡ rest = cc in
    subst (Suffix (c ∷ r)) same (drop_suffix (length (plain_piece t r)) c r)
piece_suffix t c r (Some ref) token rest k h e = by ref.len refl (reference_some t c r ref k h)
  where
    by : (n : ℕ) → ref.len ≡ n → 1 ≤ n → Suffix (c ∷ r) rest
    by zero i l = absurd (omega arith)
    by (suc j) i l =
        let same : drop ref.len (c ∷ r) ≡ rest = cc in
        subst (Suffix (c ∷ r)) (ap (λ n. drop n (c ∷ r)) (sym i) ∙ same) (drop_suffix j c r)

-- what is ready of ordinary text, after `</>`
record Here (t : List Entry) (foreign : Bool) (s : List ℕ) : Type 0 where
  head : ℕ
  more : List ℕ
  is : (after_empty_tags s).rest ≡ head ∷ more
  told : is_told head more ≡ true
  whole : not (is_cut (read_here t foreign (head ∷ more))) ≡ true

here : (t : List Entry) (foreign : Bool) (s : List ℕ) → here_ready t foreign (after_empty_tags s).rest ≡ true → Here t foreign s
here t foreign s h = by (after_empty_tags s).rest refl h
  where
    by : (rest : List ℕ) → (after_empty_tags s).rest ≡ rest → here_ready t foreign rest ≡ true → Here t foreign s
    by [] e h = cc
    by (c ∷ r) e h = let two = and_parts (is_told c r) (not (is_cut (read_here t foreign (c ∷ r)))) h in record { head = c; more = r; is = e; told = two.0; whole = two.1 }

part_suffix : (t : List Entry) (mode : Mode) (v : List ℕ) (n : ℕ) (token : Seen) (rest : List ℕ) → IsTable t → IsMode mode → reads_markup mode ≡ true → (k : Here t (is_foreign mode) v) → here_part t (is_foreign mode) (k.head ∷ k.more) ≡ taken token rest → Suffix v rest
part_suffix t mode v n token rest tab i m k e = by (begins_markup (k.head ∷ k.more)) refl e
  where
    foreign : Bool
    foreign = is_foreign mode

    by : (b : Bool) → begins_markup (k.head ∷ k.more) ≡ b → cond b (read_markup t foreign (k.head ∷ k.more)) (piece_by (reference_in t k.head k.more) t k.head k.more) ≡ taken token rest → Suffix v rest
    by true b e =
        let next : first t mode v ≡ after_bytes (after_empty_tags v).count (taken token rest) = first_here t mode v m ∙ rw (k.is, b) (ap (after_bytes (after_empty_tags v).count) e) in
        first_suffix t mode v (after_empty_tags v).count token rest (names_of_table t tab) i next
    by false b e =
        let f = tags_front v in
        let cut : v ≡ f.0 ++ (k.head ∷ k.more) = f.1 ∙ ap (λ l. f.0 ++ l) k.is in
        subst (λ l. Suffix l rest) (sym cut) (suffix_after f.0 (k.head ∷ k.more) rest (piece_suffix t k.head k.more (reference_in t k.head k.more) token rest tab refl e))

-- ---- longer texts

longer_tags : (s y : List ℕ) (c : ℕ) (r : List ℕ) → (after_empty_tags s).rest ≡ c ∷ r → is_told c r ≡ true → after_empty_tags (s ++ y) ≡ record { count = (after_empty_tags s).count; rest = c ∷ (r ++ y) }
longer_tags [] y c r e h = cc
longer_tags (a ∷ []) y c r e h =
    let one : a ≡ c = cc in
    let two : [] ≡ r = cc in
    rw (sym one, sym two) (by y)
  where
    no_sign : (a == 60) ≡ false
    no_sign = let one : c ≡ a = cc in let two : r ≡ [] = cc in test (a == 60) (subst (λ n. is_told n [] ≡ true) one (subst (λ l. is_told c l ≡ true) two h))
      where
        test : (b : Bool) → cond b false (cond (a == 38) false true) ≡ true → b ≡ false
        test true h = cc
        test false h = refl

    by : (y : List ℕ) → after_empty_tags (a ∷ y) ≡ nothing_skipped (a ∷ y)
    by [] = refl
    by (b ∷ []) = refl
    by (b ∷ d ∷ y) = rw no_sign refl
longer_tags (a ∷ b ∷ []) y c r e h =
    let one : a ≡ c = cc in
    let two : b ∷ [] ≡ r = cc in
    rw (sym one, sym two) (by y)
  where
    no_tag : (d : ℕ) → a == 60 && (b == 47 && d == 62) ≡ false
    no_tag d = let one : c ≡ a = cc in let two : r ≡ b ∷ [] = cc in test (a == 60) (b == 47) (subst (λ n. is_told n (b ∷ []) ≡ true) one (subst (λ l. is_told c l ≡ true) two h))
      where
        test : (x z : Bool) → cond x (not z) (cond (a == 38) (some_passes ends_reference (b ∷ [])) true) ≡ true → x && (z && d == 62) ≡ false
        test true true h = cc
        test true false h = refl
        test false z h = refl

    by : (y : List ℕ) → after_empty_tags (a ∷ b ∷ y) ≡ nothing_skipped (a ∷ b ∷ y)
    by [] = refl
    by (d ∷ y) = rw (no_tag d) refl
longer_tags (a ∷ b ∷ d ∷ s) y c r e h = by (a == 60 && (b == 47 && d == 62)) e (λ k. longer_tags s y c r k h)
  where
    by : (x : Bool) → (cond x (three_more (after_empty_tags s)) (nothing_skipped (a ∷ b ∷ d ∷ s))).rest ≡ c ∷ r → ((after_empty_tags s).rest ≡ c ∷ r → after_empty_tags (s ++ y) ≡ record { count = (after_empty_tags s).count; rest = c ∷ (r ++ y) })
        → cond x (three_more (after_empty_tags (s ++ y))) (nothing_skipped (a ∷ b ∷ d ∷ (s ++ y))) ≡ record { count = (cond x (three_more (after_empty_tags s)) (nothing_skipped (a ∷ b ∷ d ∷ s))).count; rest = c ∷ (r ++ y) }
    by true e more = ap three_more (more e)
    by false e more = let same : a ∷ b ∷ d ∷ s ≡ c ∷ r = e in ap (λ l. nothing_skipped (l ++ y)) same

next_longer : (x b : Next) (y : List ℕ) → next_ready x ≡ true → NextExtends y x b → next_ready b ≡ true
next_longer at_end b y h e = cc
next_longer (after_bytes n (taken token rest)) b y h (longer, is, more) = rw (is, more) refl
next_longer (after_bytes n (refused fault)) b y h (longer, is, more) = rw (is, not_cut fault y longer h more) h

ready_element : (t : List Entry) (mode : Mode) (s : List ℕ) → reads_markup mode ≡ false → ready t mode s ≡ next_ready (first t mode s)
unfolding ready
ready_element t ordinary s h = cc
ready_element t in_svg s h = cc
ready_element t (rcdata name) s h = refl
ready_element t (raw name) s h = refl
ready_element t script s h = refl

part_element : (t : List Entry) (mode : Mode) (s : List ℕ) → reads_markup mode ≡ false → part t mode s ≡ first t mode s
unfolding part
part_element t ordinary s h = cc
part_element t in_svg s h = cc
part_element t (rcdata name) s h = refl
part_element t (raw name) s h = refl
part_element t script s h = refl

itself_element : (mode : Mode) (s : List ℕ) → reads_markup mode ≡ false → ends_itself mode s ≡ true
itself_element ordinary s h = cc
itself_element in_svg s h = cc
itself_element (rcdata name) s h = refl
itself_element (raw name) s h = refl
itself_element script s h = refl

itself_here : (mode : Mode) (s : List ℕ) → reads_markup mode ≡ true → ends_itself mode s ≡ begins_markup (after_empty_tags s).rest
itself_here ordinary s h = refl
itself_here in_svg s h = refl
itself_here (rcdata name) s h = cc
itself_here (raw name) s h = cc
itself_here script s h = cc

-- ordinary text that is ready stays so
here_longer : (t : List Entry) (mode : Mode) (s y : List ℕ) → IsTable t → reads_markup mode ≡ true → (k : Here t (is_foreign mode) s) → here_ready t (is_foreign mode) (k.head ∷ (k.more ++ y)) ≡ true
here_longer t mode s y tab m k = by (begins_markup (k.head ∷ k.more)) refl
  where
    foreign : Bool
    foreign = is_foreign mode

    told : is_told k.head (k.more ++ y) ≡ true
    told = told_longer k.head k.more y k.told

    n : ℕ
    n = (after_empty_tags s).count

    tags : after_empty_tags (s ++ y) ≡ record { count = n; rest = k.head ∷ (k.more ++ y) }
    tags = longer_tags s y k.head k.more k.is k.told

    by : (b : Bool) → begins_markup (k.head ∷ k.more) ≡ b → here_ready t foreign (k.head ∷ (k.more ++ y)) ≡ true
    by false b = here_text t foreign k.head (k.more ++ y) told (markup_same k.head k.more y k.told ∙ b)
    by true b =
        let itself : ends_itself mode s ≡ true = itself_here mode s m ∙ ap begins_markup k.is ∙ b in
        let next : first t mode s ≡ after_bytes n (read_here t foreign (k.head ∷ k.more)) = first_here t mode s m ∙ rw k.is refl in
        let later : first t mode (s ++ y) ≡ after_bytes n (read_here t foreign (k.head ∷ (k.more ++ y))) = first_here t mode (s ++ y) m ∙ ap (next_here t foreign) tags in
        let whole : next_ready (after_bytes n (read_here t foreign (k.head ∷ (k.more ++ y)))) ≡ true = subst (λ x. next_ready x ≡ true) later (next_longer (first t mode s) (first t mode (s ++ y)) y (subst (λ x. next_ready x ≡ true) (sym next) k.whole) (next_tokens_extend t mode s y itself)) in
        and_from (is_told k.head (k.more ++ y)) (not (is_cut (read_here t foreign (k.head ∷ (k.more ++ y))))) told whole

pub ready_longer : (t : List Entry) (mode : Mode) (s y : List ℕ) → IsTable t → ready t mode s ≡ true → ready t mode (s ++ y) ≡ true
ready_longer t mode s y tab h = by (reads_markup mode) refl
  where
    by : (b : Bool) → reads_markup mode ≡ b → ready t mode (s ++ y) ≡ true
    by false m = ready_element t mode (s ++ y) m ∙ next_longer (first t mode s) (first t mode (s ++ y)) y (sym (ready_element t mode s m) ∙ h) (next_tokens_extend t mode s y (itself_element mode s m))
    by true m =
        let k = here t (is_foreign mode) s (sym (ready_here t mode s m) ∙ h) in
        ready_here t mode (s ++ y) m ∙ ap (λ (b : Remainder). here_ready t (is_foreign mode) b.rest) (longer_tags s y k.head k.more k.is k.told) ∙ here_longer t mode s y tab m k

-- ---- `</>` is passed over

three : List ℕ → List ℕ
three w = 60 ∷ 47 ∷ 62 ∷ w

empty_stand : (t : List Entry) (st : Construction) (w : List ℕ) → IsTable t → reads_markup (mode_of st.path) ≡ true → ready t (mode_of st.path) w ≡ true → stands t 0 st (60 ∷ 47 ∷ 62 ∷ w) ≡ stands t 0 st w
empty_stand t st [] tab m h = absurd (no_ready (ready_here t (mode_of st.path) [] m) h)
  where
    no_ready : {b : Bool} → b ≡ false → b ≡ true → ⊥
    no_ready e f = cc
empty_stand t st (c ∷ w) tab m h = by (here_part t foreign (k.head ∷ k.more)) refl
  where
    mode : Mode
    mode = mode_of st.path

    foreign : Bool
    foreign = is_foreign mode

    k : Here t foreign (c ∷ w)
    k = here t foreign (c ∷ w) (sym (ready_here t mode (c ∷ w) m) ∙ h)

    n : ℕ
    n = (after_empty_tags (c ∷ w)).count

    less : part t mode (c ∷ w) ≡ after_bytes n (here_part t foreign (k.head ∷ k.more))
    less = part_here t mode (c ∷ w) m ∙ part_found t foreign (after_empty_tags (c ∷ w)) k.head k.more k.is

    more : part t mode (60 ∷ 47 ∷ 62 ∷ c ∷ w) ≡ after_bytes (3 + n) (here_part t foreign (k.head ∷ k.more))
    more = part_here t mode (60 ∷ 47 ∷ 62 ∷ c ∷ w) m ∙ part_found t foreign (three_more (after_empty_tags (c ∷ w))) k.head k.more k.is

    later : ready t mode (60 ∷ 47 ∷ 62 ∷ c ∷ w) ≡ true
    later = ready_here t mode (60 ∷ 47 ∷ 62 ∷ c ∷ w) m ∙ sym (ready_here t mode (c ∷ w) m) ∙ h

    by : (x : Scanned) → here_part t foreign (k.head ∷ k.more) ≡ x → stands t 0 st (60 ∷ 47 ∷ 62 ∷ c ∷ w) ≡ stands t 0 st (c ∷ w)
    by (refused fault) e = fault_stands t st 60 (47 ∷ 62 ∷ c ∷ w) (3 + n) fault later (more ∙ ap (after_bytes (3 + n)) e) ∙ sym (fault_stands t st c w n fault h (less ∙ ap (after_bytes n) e))
    by (taken token rest) e =
        let suffix = part_suffix t mode (c ∷ w) n token rest tab (is_mode st.path) m k e in
        token_stands t st 60 (47 ∷ 62 ∷ c ∷ w) (3 + n) token rest later (more ∙ ap (after_bytes (3 + n)) e) (suffix_drop 60 (47 ∷ 62 ∷ c ∷ w) rest (suffix_after (60 ∷ 47 ∷ 62 ∷ []) (c ∷ w) rest suffix))
        ∙ sym (token_stands t st c w n token rest h (less ∙ ap (after_bytes n) e) (suffix_drop c w rest suffix))

empties_stand : (t : List Entry) (st : Construction) (s y : List ℕ) → IsTable t → reads_markup (mode_of st.path) ≡ true → ready t (mode_of st.path) s ≡ true → stands t 0 st (s ++ y) ≡ stands t 0 st ((after_empty_tags s).rest ++ y)
empties_stand t st [] y tab m h = refl
empties_stand t st (a ∷ []) y tab m h = refl
empties_stand t st (a ∷ b ∷ []) y tab m h = refl
empties_stand t st (a ∷ b ∷ c ∷ s) y tab m h = by (a == 60 && (b == 47 && c == 62)) refl (sym (ready_here t (mode_of st.path) (a ∷ b ∷ c ∷ s) m) ∙ h) (empties_stand t st s y tab m)
  where
    by : (x : Bool) → (a == 60 && (b == 47 && c == 62)) ≡ x → here_ready t (is_foreign (mode_of st.path)) (cond x (three_more (after_empty_tags s)) (nothing_skipped (a ∷ b ∷ c ∷ s))).rest ≡ true
        → (ready t (mode_of st.path) s ≡ true → stands t 0 st (s ++ y) ≡ stands t 0 st ((after_empty_tags s).rest ++ y)) → stands t 0 st (a ∷ b ∷ c ∷ (s ++ y)) ≡ stands t 0 st ((cond x (three_more (after_empty_tags s)) (nothing_skipped (a ∷ b ∷ c ∷ s))).rest ++ y)
    by false e h more = refl
    by true e h more =
        let inner : ready t (mode_of st.path) s ≡ true = ready_here t (mode_of st.path) s m ∙ h in
        ap (stands t 0 st) (empty_bytes a b c e (s ++ y)) ∙ empty_stand t st (s ++ y) tab m (ready_longer t (mode_of st.path) s y tab inner) ∙ more inner

-- ---- the law

pub ready_stands : ReadyStands
unfolding AreTold
ready_stands t st s y tab h = by (reads_markup (mode_of st.path)) refl
  where
    mode : Mode
    mode = mode_of st.path

    foreign : Bool
    foreign = is_foreign mode

    element : reads_markup mode ≡ false → StandsOn t st s y (part t mode s)
    element m = subst (StandsOn t st s y) (sym (part_element t mode s m))
        (extends_stand t st s y (first t mode s) (names_of_table t tab) (sym (ready_element t mode s m) ∙ h) (next_tokens_extend t mode s y (itself_element mode s m)) (ready_longer t mode s y tab h) (part_element t mode (s ++ y) m))

    n : ℕ
    n = (after_empty_tags s).count

    markup : reads_markup mode ≡ true → (k : Here t foreign s) → begins_markup (k.head ∷ k.more) ≡ true → StandsOn t st s y (after_bytes n (read_markup t foreign (k.head ∷ k.more)))
    markup m k b =
        let next : first t mode s ≡ after_bytes n (read_markup t foreign (k.head ∷ k.more)) = first_here t mode s m ∙ rw (k.is, b) refl in
        let whole : not (is_cut (read_markup t foreign (k.head ∷ k.more))) ≡ true = subst (λ x. not (is_cut (cond x (read_markup t foreign (k.head ∷ k.more)) (read_text t false (k.head ∷ k.more)))) ≡ true) b k.whole in
        let itself : ends_itself mode s ≡ true = itself_here mode s m ∙ ap begins_markup k.is ∙ b in
        let tags = longer_tags s y k.head k.more k.is k.told in
        let later : begins_markup (k.head ∷ (k.more ++ y)) ≡ true = markup_same k.head k.more y k.told ∙ b in
        let one : part t mode (s ++ y) ≡ after_bytes n (read_markup t foreign (k.head ∷ (k.more ++ y))) = part_here t mode (s ++ y) m ∙ ap (part_after t foreign) tags ∙ ap (λ x. after_bytes n (cond x (read_markup t foreign (k.head ∷ (k.more ++ y))) (text_part t (k.head ∷ (k.more ++ y))))) later in
        let two : first t mode (s ++ y) ≡ after_bytes n (read_markup t foreign (k.head ∷ (k.more ++ y))) = first_here t mode (s ++ y) m ∙ ap (next_here t foreign) tags ∙ ap (λ x. after_bytes n (cond x (read_markup t foreign (k.head ∷ (k.more ++ y))) (read_text t false (k.head ∷ (k.more ++ y))))) later in
        let same : part t mode (s ++ y) ≡ first t mode (s ++ y) = one ∙ sym two in
        extends_stand t st s y (after_bytes n (read_markup t foreign (k.head ∷ k.more))) (names_of_table t tab) whole (subst (λ x. NextExtends y x (first t mode (s ++ y))) next (next_tokens_extend t mode s y itself)) (ready_longer t mode s y tab h) same

    text : reads_markup mode ≡ true → (k : Here t foreign s) → begins_markup (k.head ∷ k.more) ≡ false → StandsOn t st s y (after_bytes n (piece_by (reference_in t k.head k.more) t k.head k.more))
    text m k b = choose (reference_in t k.head k.more) refl
      where
        c : ℕ
        c = k.head

        r : List ℕ
        r = k.more

        after : stands t 0 st (s ++ y) ≡ stands t 0 st (c ∷ (r ++ y))
        after = empties_stand t st s y tab m h ∙ ap (λ l. stands t 0 st (l ++ y)) k.is

        no_markup : begins_markup (c ∷ (r ++ y)) ≡ false
        no_markup = markup_same c r y k.told ∙ b

        told : is_told c (r ++ y) ≡ true
        told = told_longer c r y k.told

        choose : (o : Option Reference) → reference_in t c r ≡ o → StandsOn t st s y (after_bytes n (piece_by o t c r))
        choose None e =
            let f : List ℕ = plain_piece t r in
            let left : List ℕ = drop (length f) r in
            let whole : r ++ y ≡ f ++ (left ++ y) = ap (λ l. l ++ y) (piece_front t r) ∙ append_assoc f left y in
            let plain : ends_plain t false c (f ++ (left ++ y)) ≡ false = ap (ends_plain t false c) (sym whole) ∙ ap₂ (λ p o. p || is_some o) no_markup (reference_same t c r y tab k.told ∙ e) in
            after ∙ ap (λ l. stands t 0 st (c ∷ l)) whole ∙ text_stands t st c f (left ++ y) m (ap (is_told c) (sym whole) ∙ told, plain, piece_told t r y tab)
            ∙ ap (λ o. stand_on o (λ next. stands t 0 next (left ++ y))) (sym (step_text st (c ∷ f)))
        choose (Some ref) e =
            let short = reference_short t c r ref (names_of_table t tab) e in
            let cut : drop ref.len (c ∷ (r ++ y)) ≡ drop ref.len (c ∷ r) ++ y = drop-append-le ref.len (c ∷ r) y short in
            let is_ready : ready t mode (c ∷ (r ++ y)) ≡ true = ready_here t mode (c ∷ (r ++ y)) m ∙ ap (λ (q : Remainder). here_ready t foreign q.rest) (no_empty_tag (c ∷ (r ++ y)) no_markup) ∙ here_text t foreign c (r ++ y) told no_markup in
            let token : part t mode (c ∷ (r ++ y)) ≡ after_bytes 0 (taken (points ref.points) (drop ref.len (c ∷ (r ++ y)))) =
            part_here t mode (c ∷ (r ++ y)) m ∙ ap (part_after t foreign) (no_empty_tag (c ∷ (r ++ y)) no_markup) ∙ rw no_markup (ap (λ o. after_bytes 0 (piece_by o t c (r ++ y))) (reference_same t c r y tab k.told ∙ e)) in
            let suffix = piece_suffix t c (r ++ y) (Some ref) (points ref.points) (drop ref.len (c ∷ (r ++ y))) tab (reference_same t c r y tab k.told ∙ e) refl in
            after ∙ token_stands t st c (r ++ y) 0 (points ref.points) (drop ref.len (c ∷ (r ++ y))) is_ready token (suffix_drop c (r ++ y) (drop ref.len (c ∷ (r ++ y))) suffix)
            ∙ ap (λ l. stand_on (step st (points ref.points)) (λ next. stands t 0 next l)) cut

    by : (b : Bool) → reads_markup mode ≡ b → StandsOn t st s y (part t mode s)
    by false m = element m
    by true m =
        let k = here t foreign s (sym (ready_here t mode s m) ∙ h) in
        subst (StandsOn t st s y) (sym (part_here t mode s m ∙ part_found t foreign (after_empty_tags s) k.head k.more k.is)) (choose k (begins_markup (k.head ∷ k.more)) refl)
      where
        choose : (k : Here t foreign s) → (b : Bool) → begins_markup (k.head ∷ k.more) ≡ b → StandsOn t st s y (after_bytes n (cond b (read_markup t foreign (k.head ∷ k.more)) (piece_by (reference_in t k.head k.more) t k.head k.more)))
        choose k true b = markup m k b
        choose k false b = text m k b
