-- What is next in a spelling: a hidden tag is one whose element what is next makes anyway, and a text is read with what
-- follows it.
use Rattle.std.proofs.Common.{◌≡◌, ℕ, ◌+◌, true, false, List, [], ◌∷◌, ◌++◌, map, refl, sym, ◌∙◌, ap, subst, encode_utf8_all, append_assoc}
use Rattle.std.proofs.lemmas.Bool.{and_parts}
use Rattle.hm_base.specs.Walks.{Event, pushes}
use Rattle.hm_refs.specs.Names.{Entry}
use Rattle.hm_refs.specs.Tables.{IsTable}
use Rattle.hm_tree.specs.Tokens.{Seen, taken}
use Rattle.hm_tree.specs.Tokens as tokens
use Rattle.hm_token_laws.specs.First.{Mode, ordinary, after_bytes, first}
use Rattle.hm_token_laws.specs.Laws.{SoundNames, IsMode}
use Rattle.hm_token_laws.specs.Readings.{ReadsAs}
use Rattle.hm_token_laws.specs.Decided.{TextPiece, literal, referred, written_so, meant, ArePieces, IsReadAs, ends_text, in_mode, texts_of, are_texts, is_text}
use Rattle.hm_token_laws.specs.Written.{IsNextMarkup}
use Rattle.hm_token_laws.proofs.TextReads.{texts_are_read, markup_ends_texts}
use Rattle.hm_construction_laws.specs.Steps.{Construction, Stepped, went, stops, stepped_after_events, then_step, at_front, step_byte, step_bytes, step}
use Rattle.hm_construction_laws.specs.Steps as steps
use Rattle.hm_construction_laws.specs.Trees.{Outcome, built, refused_by, after_events, mode_of, stepped, over, tree_from}
use Rattle.hm_construction_laws.proofs.Standing.{pushes_append}
use Rattle.hm_round_trip_laws.proofs.Reading.{after_none, after_after, Builds, token_steps, anywhere}
use Rattle.hm_round_trip_laws.proofs.Runs.{Run, ran, halted, after_run, then_run, run_bytes, run_append, Reached, Reads, texts_reach, token_bytes, texts_split}

-- a table of names as its reader gives it
pub record Sound (t : List Entry) : Type 0 where
  pub table : IsTable t
  pub names : SoundNames t

-- what is first in a spelling: a token, the first byte of a text, or nothing
pub data Ahead : Type 0 where
  tag : Seen → Ahead
  point : ℕ → Ahead
  finish : Ahead

-- ordinary text at the start, up to where a text ends
pub record TextFront (t : List Entry) (b text : List ℕ) : Type 0 where
  pub pieces : List TextPiece
  pub rest : List ℕ
  pub whole : b ≡ written_so pieces ++ rest
  pub allowed : ArePieces t false pieces rest
  pub ends : ends_text t rest ≡ true
  pub means : meant pieces ≡ text

-- b, read as ordinary text, begins with this
abbrev pub Begins : List Entry → List ℕ → Ahead → Type 0
Begins t b (tag k) = (rest : List ℕ) × IsNextMarkup t ordinary b k rest
Begins t b (point c) = (text : List ℕ) × TextFront t b (c ∷ text)
Begins t b finish = b ≡ []

no_text : (t : List Entry) (b : List ℕ) → ends_text t b ≡ true → TextFront t b []
no_text t b h = record { pieces = []; rest = b; whole = refl; allowed = tt; ends = h; means = refl }

pub any_front : (t : List Entry) (b : List ℕ) (x : Ahead) → Begins t b x → (text : List ℕ) × TextFront t b text
any_front t b (tag k) h = ([], no_text t b (markup_ends_texts t b h.1.0).0)
any_front t b (point c) h = (c ∷ h.0, h.1)
any_front t b finish h = ([], no_text t b (rw h refl))

-- at x the state st makes es, and then does what next does
abbrev pub Agree : Construction → List Event → Construction → Ahead → Type 0
Agree st es next (tag k) = step st k ≡ stepped_after_events es (step next k)
Agree st es next (point c) = step_byte c st ≡ stepped_after_events es (step_byte c next)
Agree st es next finish = (place : ℕ → ℕ) (at : ℕ) → over place at st ≡ after_events es (over place at next)

-- ---- A hidden tag

pub events_twice : (es fs : List Event) (o : Stepped) → stepped_after_events (es ++ fs) o ≡ stepped_after_events es (stepped_after_events fs o)
events_twice es fs (went gs st) = ap (λ x. went x st) (append_assoc es fs gs)
events_twice es fs (stops rule n) = refl

then_after : (es : List Event) (o : Stepped) (f : Construction → Stepped) → then_step (stepped_after_events es o) f ≡ stepped_after_events es (then_step o f)
then_after es (went fs st) f = events_twice es fs (f st)
then_after es (stops rule n) f = refl

front_after : (es : List Event) (o : Stepped) → at_front (stepped_after_events es o) ≡ stepped_after_events es (at_front o)
front_after es (went fs st) = refl
front_after es (stops rule n) = refl

stepped_after : (place : ℕ → ℕ) (at : ℕ) (es : List Event) (o : Stepped) (more : Construction → Outcome) → stepped place at (stepped_after_events es o) more ≡ after_events es (stepped place at o more)
stepped_after place at es (went fs st) more = after_after es fs (more st)
stepped_after place at es (stops rule n) more = refl

bytes_agree : (st next : Construction) (es : List Event) (c : ℕ) (s : List ℕ) → step_byte c st ≡ stepped_after_events es (step_byte c next) → step_bytes (c ∷ s) st ≡ stepped_after_events es (step_bytes (c ∷ s) next)
bytes_agree st next es c s agree =
    let f : Construction → Stepped = λ here. steps.after_bytes 1 (step_bytes s here) in
    ap (λ o. then_step o f) agree ∙ then_after es (step_byte c next) f

token_agrees : (st next : Construction) (es : List Event) (c : ℕ) (s : List ℕ) (k : Seen) → is_text k ≡ true → token_bytes k ≡ c ∷ s → step_byte c st ≡ stepped_after_events es (step_byte c next) → step st k ≡ stepped_after_events es (step next k)
unfolding step
token_agrees st next es c s (tokens.doctype legacy) is e agree = cc
token_agrees st next es c s (tokens.start_tag name attributes slash) is e agree = cc
token_agrees st next es c s (tokens.end_tag name) is e agree = cc
token_agrees st next es c s (tokens.slice x) is e agree = rw e (bytes_agree st next es c s agree)
token_agrees st next es c s (tokens.points ps) is e agree = rw e (ap at_front (bytes_agree st next es c s agree) ∙ front_after es (step_bytes (c ∷ s) next))
token_agrees st next es c s (tokens.comment x) is e agree = cc

empty_step : (st : Construction) (k : Seen) → is_text k ≡ true → token_bytes k ≡ [] → step st k ≡ went [] st
unfolding step
empty_step st (tokens.doctype legacy) is e = cc
empty_step st (tokens.start_tag name attributes slash) is e = cc
empty_step st (tokens.end_tag name) is e = cc
empty_step st (tokens.slice x) is e = rw e refl
empty_step st (tokens.points ps) is e = rw e refl
empty_step st (tokens.comment x) is e = cc

token_hidden : (t : List Entry) (place : ℕ → ℕ) (at : ℕ) (s : List ℕ) (n : ℕ) (k : Seen) (rest : List ℕ) (st next : Construction) (es : List Event) → SoundNames t → mode_of st.path ≡ ordinary → mode_of next.path ≡ ordinary
    → first t ordinary s ≡ after_bytes n (taken k rest) → step st k ≡ stepped_after_events es (step next k) → tree_from t place 0 at st s ≡ after_events es (tree_from t place 0 at next s)
token_hidden t place at s n k rest st next es names m m' h agree =
    let one = token_steps t place at ordinary s n k rest names tt h in
    let more : Construction → Outcome = λ here. tree_from t place 0 one.0 here rest in
    one.1 st m ∙ ap (λ o. stepped place (at + n) o more) agree ∙ stepped_after place (at + n) es (step next k) more ∙ ap (after_events es) (sym (one.1 next m'))

texts_hidden : (t : List Entry) (place : ℕ → ℕ) (st next : Construction) (es : List Event) (c : ℕ) (x : List ℕ) → SoundNames t → mode_of st.path ≡ ordinary → mode_of next.path ≡ ordinary → step_byte c st ≡ stepped_after_events es (step_byte c next)
    → (ks : List Seen) (at : ℕ) (s rest : List ℕ) → are_texts ks ≡ true → texts_of ks ≡ c ∷ x → ReadsAs t (map (in_mode ordinary) ks) s rest → tree_from t place 0 at st s ≡ after_events es (tree_from t place 0 at next s)
texts_hidden t place st next es c x names m m' agree [] at s rest texts e h = cc
texts_hidden t place st next es c x names m m' agree (k ∷ ks) at s rest texts e (n, left, h, more) =
    let two = and_parts (is_text k) (are_texts ks) texts in
    by (token_bytes k) refl two.0 (sym (texts_split k ks two.0) ∙ e) (λ at' e'. texts_hidden t place st next es c x names m m' agree ks at' left rest two.1 e' more)
  where
    by : (y : List ℕ) → token_bytes k ≡ y → is_text k ≡ true → y ++ texts_of ks ≡ c ∷ x → ((at' : ℕ) → texts_of ks ≡ c ∷ x → tree_from t place 0 at' st left ≡ after_events es (tree_from t place 0 at' next left)) → tree_from t place 0 at st s ≡ after_events es (tree_from t place 0 at next s)
    by [] b is whole on =
        let one = token_steps t place at ordinary s n k left names tt h in
        let here : (st' : Construction) → mode_of st'.path ≡ ordinary → tree_from t place 0 at st' s ≡ tree_from t place 0 one.0 st' left =
        λ st' o. one.1 st' o ∙ ap (λ z. stepped place (at + n) z (λ q. tree_from t place 0 one.0 q left)) (empty_step st' k is b) ∙ after_none (tree_from t place 0 one.0 st' left) in
        here st m ∙ on one.0 whole ∙ ap (after_events es) (sym (here next m'))
    by (d ∷ y) b is whole on =
        let same : d ≡ c = cc in
        token_hidden t place at s n k left st next es names m m' h (token_agrees st next es c y k is (rw same at b) agree)

-- Where two states agree at what is first, the first state makes es, and then what the second one makes.
pub hidden : (t : List Entry) → Sound t → (b : List ℕ) (x : Ahead) (st next : Construction) (es : List Event) → mode_of st.path ≡ ordinary → mode_of next.path ≡ ordinary → Begins t b x → Agree st es next x → (place : ℕ → ℕ) (at : ℕ) → tree_from t place 0 at st b ≡ after_events es (tree_from t place 0 at next b)
hidden t sound b (tag k) st next es m m' h agree place at = token_hidden t place at b 0 k h.0 st next es sound.names m m' h.1.1 agree
hidden t sound b (point c) st next es m m' h agree place at =
    let f = h.1 in
    let r = texts_are_read t ordinary f.pieces f.rest sound.table refl f.allowed f.ends in
    rw f.whole (texts_hidden t place st next es c h.0 sound.names m m' agree r.tokens at (written_so f.pieces ++ f.rest) f.rest r.texts (r.joined ∙ f.means) r.reads)
hidden t sound b finish st next es m m' h agree place at = rw h (agree place at)

-- So what the second one builds stands after es.
pub unseen : (t : List Entry) → Sound t → (b : List ℕ) (x : Ahead) (st next : Construction) (es : List Event) (w : List Event) → mode_of st.path ≡ ordinary → mode_of next.path ≡ ordinary → Begins t b x → Agree st es next x → Builds t next b w → Builds t st b (pushes es w)
unseen t sound b x st next es w m m' h agree more place at = hidden t sound b x st next es m m' h agree place at ∙ ap (after_events es) (more place at)

-- ---- Texts

-- a text that is read by itself, up to rest
pub text_alone : (t : List Entry) → SoundNames t → (P : Construction → Type 0) (mode : Mode) → IsMode mode → Reads P mode → (s : List ℕ) (b rest : List ℕ) (st next : Construction) (es : List Event) (w : List Event) → P st
    → IsReadAs t mode b rest s → run_bytes s st ≡ ran es next → Builds t next rest w → Builds t st b (pushes es w)
text_alone t names P mode m reads s b rest st next es w p r runs more place at =
    let on = texts_reach t place P mode names m reads r.tokens at b rest r.texts r.reads in
    let here : Reached (tree_from t place 0 at st b) (λ q. tree_from t place 0 on.0 q rest) (ran es next) = subst (Reached (tree_from t place 0 at st b) (λ q. tree_from t place 0 on.0 q rest)) (ap (λ x. run_bytes x st) r.joined ∙ runs) (on.1 st p) in
    here ∙ ap (after_events es) (more place on.0)

written_append : (ps qs : List TextPiece) → written_so (ps ++ qs) ≡ written_so ps ++ written_so qs
written_append [] qs = refl
written_append (literal c ∷ ps) qs = ap (λ s. c ∷ s) (written_append ps qs)
written_append (referred b cs ∷ ps) qs = ap (λ s. b ++ s) (written_append ps qs) ∙ sym (append_assoc b (written_so ps) (written_so qs))

meant_append : (ps qs : List TextPiece) → meant (ps ++ qs) ≡ meant ps ++ meant qs
meant_append [] qs = refl
meant_append (literal c ∷ ps) qs = ap (λ s. c ∷ s) (meant_append ps qs)
meant_append (referred b cs ∷ ps) qs = ap (λ s. encode_utf8_all cs ++ s) (meant_append ps qs) ∙ sym (append_assoc (encode_utf8_all cs) (meant ps) (meant qs))

follow_on : (ps qs : List TextPiece) (after : List ℕ) → written_so (ps ++ qs) ++ after ≡ written_so ps ++ (written_so qs ++ after)
follow_on ps qs after = ap (λ s. s ++ after) (written_append ps qs) ∙ append_assoc (written_so ps) (written_so qs) after

pieces_append : (t : List Entry) (ps qs : List TextPiece) (after : List ℕ) → ArePieces t false ps (written_so qs ++ after) → ArePieces t false qs after → ArePieces t false (ps ++ qs) after
pieces_append t [] qs after a b = b
pieces_append t (literal c ∷ ps) qs after a b = (rw (follow_on ps qs after) a.0, pieces_append t ps qs after a.1 b)
pieces_append t (referred s cs ∷ ps) qs after a b = (rw (follow_on ps qs after) a.0, pieces_append t ps qs after a.1 b)

-- what a run after another one makes, where the second alone builds w
joined_build : (t : List Entry) (place : ℕ → ℕ) (later later' : ℕ) (rest : List ℕ) (es : List Event) (whole part : Outcome) (w : List Event) (r : Run) → Reached whole (λ q. tree_from t place 0 later q rest) (after_run es r) → Reached part (λ q. tree_from t place 0 later' q rest) r → part ≡ built w → whole ≡ built (pushes es w)
joined_build t place later later' rest es whole part w (ran fs next) h k e = by (tree_from t place 0 later' next rest) refl (sym k ∙ e)
  where
    by : (o : Outcome) → tree_from t place 0 later' next rest ≡ o → after_events fs o ≡ built w → whole ≡ built (pushes es w)
    by (built v) at is =
        let same : pushes fs v ≡ w = cc in
        h ∙ ap (after_events (es ++ fs)) (anywhere t place place rest 0 later' later next v at) ∙ ap built (pushes_append es fs v) ∙ ap (λ z. built (pushes es z)) same
    by (refused_by rule n) at is = cc
joined_build t place later later' rest es whole part w halted h k e = let no : refused_by k.0 k.1 ≡ built w = sym k.2 ∙ e in cc

-- A text before what may begin with a text too: tokens may take something of both.
pub text_before_front : (t : List Entry) → Sound t → (P : Construction → Type 0) → Reads P ordinary → (ps : List TextPiece) (b rest text : List ℕ) (st next : Construction) (es : List Event) (w : List Event) → P st → P next
    → b ≡ written_so ps ++ rest → ArePieces t false ps rest → TextFront t rest text → run_bytes (meant ps) st ≡ ran es next → Builds t next rest w → Builds t st b (pushes es w)
text_before_front t sound P reads ps b rest text st next es w p p' whole allowed f runs more place at =
    let all : List TextPiece = ps ++ f.pieces in
    let r = texts_are_read t ordinary all f.rest sound.table refl (pieces_append t ps f.pieces f.rest (rw f.whole at allowed) f.allowed) f.ends in
    let q = texts_are_read t ordinary f.pieces f.rest sound.table refl f.allowed f.ends in
    let on = texts_reach t place P ordinary sound.names tt reads r.tokens at (written_so all ++ f.rest) f.rest r.texts r.reads in
    let off = texts_reach t place P ordinary sound.names tt reads q.tokens at (written_so f.pieces ++ f.rest) f.rest q.texts q.reads in
    let cut : b ≡ written_so all ++ f.rest = whole ∙ ap (λ s. written_so ps ++ s) f.whole ∙ sym (follow_on ps f.pieces f.rest) in
    let run : run_bytes (texts_of r.tokens) st ≡ after_run es (run_bytes (meant f.pieces) next) =
    ap (λ s. run_bytes s st) (r.joined ∙ meant_append ps f.pieces) ∙ run_append (meant ps) (meant f.pieces) st ∙ ap (λ z. then_run z (run_bytes (meant f.pieces))) runs in
    let here = subst (Reached (tree_from t place 0 at st (written_so all ++ f.rest)) (λ z. tree_from t place 0 on.0 z f.rest)) run (on.1 st p) in
    let there = subst (Reached (tree_from t place 0 at next (written_so f.pieces ++ f.rest)) (λ z. tree_from t place 0 off.0 z f.rest)) (ap (λ s. run_bytes s next) q.joined) (off.1 next p') in
    ap (tree_from t place 0 at st) cut
    ∙ joined_build t place on.0 off.0 f.rest es (tree_from t place 0 at st (written_so all ++ f.rest)) (tree_from t place 0 at next (written_so f.pieces ++ f.rest)) w (run_bytes (meant f.pieces) next) here there
    (ap (tree_from t place 0 at next) (sym f.whole) ∙ more place at)

-- A text before what may begin with a text is one text, up to where that ends.
pub text_first : (t : List Entry) (ps : List TextPiece) (b rest text : List ℕ) → b ≡ written_so ps ++ rest → ArePieces t false ps rest → TextFront t rest text → TextFront t b (meant ps ++ text)
text_first t ps b rest text whole allowed f = record {
  pieces = ps ++ f.pieces;
  rest = f.rest;
  whole = whole ∙ ap (λ s. written_so ps ++ s) f.whole ∙ sym (follow_on ps f.pieces f.rest);
  allowed = pieces_append t ps f.pieces f.rest (rw f.whole at allowed) f.allowed;
  ends = f.ends;
  means = meant_append ps f.pieces ∙ ap (λ s. meant ps ++ s) f.means;
}
