-- A turn of the reader of a page that comes in pieces: the next token, or the piece of text that is ready, is taken into the tree.
use Rattle.std.proofs.Common.{◌≡◌, ℕ, zero, suc, ◌+◌, ◌-◌, ◌*◌, ◌≤◌, ◌<◌, Bool, true, false, cond, not, ◌&&◌, ◌||◌, List, [], ◌∷◌, length, drop, map, Option, Some, None, is_some, refl, sym, ap, ap₂, ◌∙◌, subst, arith, zero-add}
use Rattle.std.specs.Str.{IsCharBoundary, IsUtf8}
use Rattle.std.proofs.lemmas.List.{length-drop, drop-drop}
use Rattle.std.proofs.lemmas.Str.{IsUtf8-drop, is_utf8-from_IsUtf8}
use Rattle.std.specs.List.{drop-map}
use Rattle.hm_base.specs.Bytes.{all_pass}
use Rattle.hm_base.specs.Source.{PlacedByte, byte_of, is_text_byte, place_in}
use Rattle.hm_base.specs.declared.rules.Rule.{Rule}
use Rattle.hm_base.specs.declared.rules.Refused.{Refused}
use Rattle.hm_base.specs.declared.rules.Refused.TheVariants as answers
use Rattle.hm_base.proofs.Bytes.{second_true}
use Rattle.hm_refs.specs.Names.{Entry}
use Rattle.hm_refs.specs.References.{Reference}
use Rattle.hm_refs.specs.Tables.{IsTable}
use Rattle.hm_lexer.specs.Texts.{begins_markup, ends_plain, read_by, read_text, reference_in}
use Rattle.hm_tree.specs.Lexemes as lexemes
use Rattle.hm_tree.specs.Lexemes.{spanned_of}
use Rattle.hm_tree.specs.Tokens.{Seen, seen, taken, refused, doctype, start_tag, end_tag, slice, points, comment}
use Rattle.hm_tree.specs.declared.tokens.Placed.{Placed}
use Rattle.hm_tree.specs.declared.tokens.Spanned.{Spanned}
use Rattle.hm_tree.specs.declared.tokens.Tag.{Tag}
use Rattle.hm_token_laws.specs.First.{Mode, ordinary, in_svg, rcdata, raw, script, Next, at_end, after_bytes, after_empty_tags, first, next_here, read_markup, rule_of}
use Rattle.hm_token_laws.specs.Laws.{IsPlain, SoundNames, TakesBytes, token_size, least_size, growth, reads_markup}
use Rattle.hm_token_laws.proofs.Firsts.{tokens_are_small, tokens_are_sound}
use Rattle.hm_construction_laws.specs.Steps.{Construction, Stepped, went, stops, step, step_bytes}
use Rattle.hm_construction_laws.specs.Trees.{mode_of}
use Rattle.hm_construction_laws.specs.Weights.{Within, cost, load, load_size, size_cost}
use Rattle.hm_construction_laws.proofs.Modes.{is_mode}
use Rattle.hm_construction_laws.proofs.Weights.{WithinText, bytes_within, step_within}
use Rattle.hm_lexer.specs.Ready.{is_told, part, part_after, piece_by, plain_piece, ready, text_part}
use Rattle.hm_lexer.proofs.Building.{tags_counted}
use Rattle.hm_lexer.specs.Parts.{GivesPart, IsPart, IsPartFaulty, RefusesPart, left_of}
use Rattle.hm_lexer.specs.Reading.{Reading, text_of}
use Rattle.hm_insertion.specs.Building.{Building, Fits, IsStepped, IsRefused, grown}
use Rattle.hm_insertion.specs.declared.fault.BuildFault.{BuildFault}
use Rattle.hm_insertion.specs.declared.fault.BuildFault.TheVariants as faults
use Rattle.hm_build.specs.Feeding.{Comes, IsPartway, IsStopped, StopsAs, left}
use Rattle.hm_build.specs.Parsing.{IsFurther, IsReadUnder, IsWithin, read_of, answer_of, place_of, span_of}
use Rattle.hm_build.proofs.Coming.{fault_stops, part_comes, part_stops}
use Rattle.hm_build.proofs.PageEnds.{sound_names}
use Rattle.hm_build.proofs.Room.{step_fits, step_stays, within_further}
use Rattle.hm_build.proofs.Turns.{IsCounted, IsText, read_under, text_long}

-- ---- what a part is

-- these bytes are as much of ordinary text as is decided, after n bytes of `</>`
pub record IsPieceOf (t : List Entry) (mode : Mode) (s : List ℕ) (n : ℕ) (x rest : List ℕ) : Type 0 where
  pub head : ℕ
  pub more : List ℕ
  pub markup : reads_markup mode ≡ true
  pub after : (after_empty_tags s).rest ≡ head ∷ more
  pub count : n ≡ (after_empty_tags s).count
  pub plain : ends_plain t false head more ≡ false
  pub bytes : x ≡ head ∷ plain_piece t more
  pub left : rest ≡ drop (length (plain_piece t more)) more

pub data PartKind (t : List Entry) (mode : Mode) (s : List ℕ) (n : ℕ) (token : Seen) (rest : List ℕ) : Type 0 where
  whole : first t mode s ≡ after_bytes n (taken token rest) → PartKind t mode s n token rest
  piece : (x : List ℕ) → token ≡ slice x → length s ≡ n + length x + length rest → 0 < length x → IsPieceOf t mode s n x rest → PartKind t mode s n token rest

abbrev is_end : Next → Bool
is_end at_end = true
is_end (after_bytes n read) = false

no : {b : Bool} → b ≡ true → b ≡ false → ⊥
no e f = cc

piece_short : (t : List Entry) (s : List ℕ) → length (plain_piece t s) ≤ length s
piece_short t [] = omega arith
piece_short t (c ∷ s) = by (is_told c s && not (ends_plain t false c s)) (piece_short t s)
  where
    by : (b : Bool) → length (plain_piece t s) ≤ length s → length (cond b (c ∷ plain_piece t s) []) ≤ suc (length s)
    by true h = omega arith
    by false h = omega arith

abbrev count_of : Next → ℕ
count_of at_end = 0
count_of (after_bytes n read) = n

abbrev token_in : Next → Seen
token_in at_end = slice []
token_in (after_bytes n (refused fault)) = slice []
token_in (after_bytes n (taken token rest)) = token

abbrev rest_in : Next → List ℕ
rest_in at_end = []
rest_in (after_bytes n (refused fault)) = []
rest_in (after_bytes n (taken token rest)) = rest

kind_after : (t : List Entry) (foreign : Bool) (mode : Mode) (s : List ℕ) (count : ℕ) (after : List ℕ) (n : ℕ) (token : Seen) (rest : List ℕ) → length s ≡ count + length after → reads_markup mode ≡ true → (after_empty_tags s).rest ≡ after → count ≡ (after_empty_tags s).count
    → first t mode s ≡ next_here t foreign (record { count = count; rest = after }) → part_after t foreign (record { count = count; rest = after }) ≡ after_bytes n (taken token rest) → PartKind t mode s n token rest
unfolding read_text
kind_after t foreign mode s count [] n token rest l m is here f e = absurd (no refl (ap is_end e))
kind_after t foreign mode s count (c ∷ r) n token rest l m is here f e = by (begins_markup (c ∷ r)) refl f e
  where
    text : begins_markup (c ∷ r) ≡ false → (o : Option Reference) → reference_in t c r ≡ o → first t mode s ≡ after_bytes count (read_by o t false (c ∷ r)) → after_bytes count (piece_by o t c r) ≡ after_bytes n (taken token rest) → PartKind t mode s n token rest
    text b (Some found) k g h = whole (g ∙ h)
    text b None k g h =
        let short = piece_short t r in
        let left = length-drop (length (plain_piece t r)) r in
        let rest_is : drop (length (plain_piece t r)) r ≡ rest = ap rest_in h in
        let counted_is : count ≡ n = ap count_of h in
        let plain : ends_plain t false c r ≡ false = ap₂ (λ p o. p || is_some o) b k in
        piece (c ∷ plain_piece t r) (sym (ap token_in h)) (omega (arith, ap length rest_is, counted_is)) (omega arith)
        (record { head = c; more = r; markup = m; after = is; count = sym counted_is ∙ here; plain = plain; bytes = refl; left = sym rest_is })

    by : (b : Bool) → begins_markup (c ∷ r) ≡ b → first t mode s ≡ after_bytes count (cond b (read_markup t foreign (c ∷ r)) (read_text t false (c ∷ r))) → after_bytes count (cond b (read_markup t foreign (c ∷ r)) (text_part t (c ∷ r))) ≡ after_bytes n (taken token rest) → PartKind t mode s n token rest
    by true b g h = whole (g ∙ h)
    by false b g h = text b (reference_in t c r) refl g h

pub part_kind : (t : List Entry) (mode : Mode) (s : List ℕ) (n : ℕ) (token : Seen) (rest : List ℕ) → part t mode s ≡ after_bytes n (taken token rest) → PartKind t mode s n token rest
unfolding part first
part_kind t ordinary s n token rest e = kind_after t false ordinary s (after_empty_tags s).count (after_empty_tags s).rest n token rest (tags_counted s) refl refl refl refl e
part_kind t in_svg s n token rest e = kind_after t true in_svg s (after_empty_tags s).count (after_empty_tags s).rest n token rest (tags_counted s) refl refl refl refl e
part_kind t (rcdata name) s n token rest e = whole e
part_kind t (raw name) s n token rest e = whole e
part_kind t script s n token rest e = whole e

-- ---- a text that is there

plain_after : (at : ℕ) (s : List ℕ) → all_pass is_text_byte s ≡ true → all_pass is_text_byte (drop at s) ≡ true
plain_after zero s h = h
plain_after (suc at) [] h = refl
plain_after (suc at) (c ∷ s) h = plain_after at s (second_true (is_text_byte c) (all_pass is_text_byte s) h)

pub plain_left : (s : List ℕ) (at : ℕ) → all_pass is_text_byte s ≡ true → IsUtf8 s → IsCharBoundary s at → IsPlain (drop at s)
plain_left s at plain utf8 starts = record { bytes = plain_after at s plain; utf8 = is_utf8-from_IsUtf8 (drop at s) (IsUtf8-drop s at utf8 starts) }

-- ---- a part

pub in_mode : (r : Reading) (m n : Mode) (token : Spanned) (new : Reading) → m ≡ n → IsPart r m token new → IsPart r n token new
in_mode r m n token new e k = subst (λ x. IsPart r x token new) e k

pub kind : (r : Reading) (b : Building) (token : Spanned) (new : Reading) → (k : IsPart r (mode_of b.state.path) token new) → PartKind r.names (mode_of b.state.path) (left_of r) k.passed (seen (text_of r) token.token) (drop token.to (text_of r))
kind r b token new k = part_kind r.names (mode_of b.state.path) (left_of r) k.passed (seen (text_of r) token.token) (drop token.to (text_of r)) k.is

under : (t : List Entry) (b : Building) (s : List ℕ) (n : ℕ) (token : Seen) (rest : List ℕ) → SoundNames t → IsPlain s → PartKind t (mode_of b.state.path) s n token rest → IsReadUnder b.state.path token
under t b s n token rest names plain (whole e) = read_under b.state.path token (tokens_are_sound t (mode_of b.state.path) s n token rest names (is_mode b.state.path) plain e).0
under t b s n token rest names plain (piece x e l some is) = subst (IsReadUnder b.state.path) (sym e) tt

takes : (t : List Entry) (b : Building) (s : List ℕ) (n : ℕ) (token : Seen) (rest : List ℕ) → SoundNames t → PartKind t (mode_of b.state.path) s n token rest → TakesBytes s n token rest
takes t b s n token rest names (whole e) = tokens_are_small t (mode_of b.state.path) s n token rest names (is_mode b.state.path) e
takes t b s n token rest names (piece x e l some is) = subst (λ k. TakesBytes s n k rest) (sym e) (record { count = length x; whole = l; size = omega arith; least = omega arith })

counted : (r : Reading) (b : Building) (token : Spanned) (new : Reading) → SoundNames r.names → IsPartway r b → IsPart r (mode_of b.state.path) token new → IsCounted r token
counted r b token new names p k =
    let takes_so : TakesBytes (left_of r) k.passed (seen (text_of r) token.token) (drop token.to (text_of r)) = takes r.names b (left_of r) k.passed (seen (text_of r) token.token) (drop token.to (text_of r)) names (kind r b token new k) in
    let a : length (drop r.at (text_of r)) ≡ length (text_of r) - r.at = length-drop r.at (text_of r) in
    let c : length (drop token.to (text_of r)) ≡ length (text_of r) - token.to = length-drop token.to (text_of r) in
    let whole_is : length (drop r.at (text_of r)) ≡ k.passed + takes_so.count + length (drop token.to (text_of r)) = takes_so.whole in
    let inside : token.to ≤ length (text_of r) = k.inside in
    let before : r.at ≤ length (text_of r) = p.inside in
    let from : token.from ≡ r.at + k.passed = k.from in
    record { count = takes_so.count; size = takes_so.size; least = takes_so.least; whole = omega arith; before = omega arith }

-- ---- what a token is taken for

pub token_under : (r : Reading) (b : Building) (m : Mode) (token : Spanned) (new : Reading) (s : List ℕ) → IsTable r.names → IsText r → IsPartway r b → m ≡ mode_of b.state.path → IsPart r m token new → text_of r ≡ s → IsReadUnder b.state.path (seen s token.token)
token_under r b m token new s names text p e k t =
    let here = in_mode r m (mode_of b.state.path) token new e k in
    subst (λ x. IsReadUnder b.state.path (seen x token.token)) t
    (under r.names b (left_of r) here.passed (seen (text_of r) token.token) (drop token.to (text_of r)) (sound_names r.names names) (plain_left (text_of r) r.at text.plain text.utf8 p.boundary) (kind r b token new here))

pub token_fits : (r : Reading) (b : Building) (m : Mode) (token : Spanned) (new : Reading) (s : List ℕ) → IsTable r.names → IsText r → IsPartway r b → m ≡ mode_of b.state.path → IsPart r m token new → text_of r ≡ s → Fits (step b.state (seen s token.token)) b.walk
token_fits r b m token new s names text p e k t =
    let here = in_mode r m (mode_of b.state.path) token new e k in
    let c = counted r b token new (sound_names r.names names) p here in
    let whole_is : token.from + c.count ≡ token.to = c.whole in
    let before : r.at ≤ token.from = c.before in
    let inside : token.to ≤ length (text_of r) = here.inside in
    let long = text_long r in
    let room : read_of r + c.count ≤ r.source.end = omega (arith, text.within) in
    subst (λ x. Fits (step b.state (seen x token.token)) b.walk) t
    (step_fits (read_of r) c.count r.source.end b.walk b.state (seen (text_of r) token.token) p.within c.size c.least room text.short)

-- the text, cut at a place
cut_left : (r : Reading) (to : ℕ) → r.at ≤ to → drop (to - r.at) (left r) ≡ drop to r.source.placed
cut_left r to h = drop-drop (to - r.at) r.at r.source.placed ∙ ap (λ n. drop n r.source.placed) (omega arith)

cut_bytes : (r : Reading) (to : ℕ) → r.at ≤ to → drop (to - r.at) (map byte_of (left r)) ≡ drop to (text_of r)
cut_bytes r to h = drop-map byte_of (to - r.at) (left r) ∙ ap (map byte_of) (cut_left r to h) ∙ sym (drop-map byte_of to r.source.placed)

pub left_bytes : (r : Reading) → left_of r ≡ map byte_of (left r)
left_bytes r = drop-map byte_of r.at r.source.placed

part_here : (r : Reading) (b : Building) (token : Spanned) (new : Reading) → (k : IsPart r (mode_of b.state.path) token new) → r.at ≤ token.to
    → part r.names (mode_of b.state.path) (map byte_of (left r)) ≡ after_bytes k.passed (taken (seen (text_of r) token.token) (drop (token.to - r.at) (map byte_of (left r))))
part_here r b token new k h = ap (part r.names (mode_of b.state.path)) (sym (left_bytes r)) ∙ k.is ∙ ap (λ x. after_bytes k.passed (taken (seen (text_of r) token.token) x)) (sym (cut_bytes r token.to h))

ready_here : (r : Reading) (b : Building) → ready r.names (mode_of b.state.path) (left_of r) ≡ true → ready r.names (mode_of b.state.path) (map byte_of (left r)) ≡ true
ready_here r b h = ap (ready r.names (mode_of b.state.path)) (sym (left_bytes r)) ∙ h

pub record IsTakenOn (r : Reading) (b : Building) (new : Reading) (after : Building) : Type 0 where
  pub partway : IsPartway new after
  pub ahead : IsFurther r new
  pub comes : Comes r.names b (left r) after (left new)

pub token_taken : (r : Reading) (b : Building) (m : Mode) (token : Spanned) (new : Reading) (s : List ℕ) (after : Building) → IsTable r.names → IsPartway r b → m ≡ mode_of b.state.path → IsPart r m token new → text_of r ≡ s
    → IsStepped (step b.state (seen s token.token)) b after → IsTakenOn r b new after
token_taken r b m token new s after names p e k t done = by (step b.state (seen (text_of r) token.token)) refl (subst (λ x. IsStepped (step b.state (seen x token.token)) b after) (sym t) done)
  where
    here : IsPart r (mode_of b.state.path) token new
    here = in_mode r m (mode_of b.state.path) token new e k

    at_to : Reading
    at_to = record r { at = token.to }

    by : (x : Stepped) → step b.state (seen (text_of r) token.token) ≡ x → IsStepped x b after → IsTakenOn r b new after
    by (stops rule n) q i = absurd i
    by (went es st) q i =
        let c = counted r b token new (sound_names r.names names) p here in
        let whole_is : token.from + c.count ≡ token.to = c.whole in
        let before : r.at ≤ token.from = c.before in
        let forward : token.from < token.to = k.forward in
        let inside : token.to ≤ length (text_of r) = k.inside in
        let stays : IsWithin (read_of r + c.count) (grown b.walk es) st = step_stays (read_of r) c.count b.walk es b.state st (seen (text_of r) token.token) p.within c.size c.least q in
        let within : IsWithin (read_of at_to) after.walk after.state = subst (λ w. IsWithin (read_of at_to) w after.state) (sym i.1) (subst (λ z. IsWithin (read_of at_to) (grown b.walk es) z) (sym i.0) (within_further (read_of r + c.count) (read_of at_to) (grown b.walk es) st (omega arith) stays)) in
        let length_left : length (left r) ≡ length r.source.placed - r.at = length-drop r.at r.source.placed in
        let comes : Comes r.names b (left r) after (drop (token.to - r.at) (left r)) =
        part_comes r.names b after (left r) here.passed (token.to - r.at) (seen (text_of r) token.token) es st names (omega (arith, text_long r)) (ready_here r b here.is_ready) (part_here r b token new here (omega arith)) q i.0 i.1 in
        let on : IsTakenOn r b at_to after = record {
          partway = record { inside = k.inside; boundary = k.boundary; within = within };
          ahead = record { names = refl; source = refl; forward = omega arith; inside = k.inside };
          comes = subst (Comes r.names b (left r) after) (cut_left r token.to (omega arith)) comes;
        } in
        subst (λ n. IsTakenOn r b n after) (sym k.moved) on

-- ---- refusals

-- a text is refused at one of its bytes
bytes_stop : (s : List ℕ) (st : Construction) (rule : Rule) (n : ℕ) → step_bytes s st ≡ stops rule n → n < length s
bytes_stop s st rule n e = subst (WithinText (load st + length s) (load_size st + length s) (length s)) e (bytes_within s st)

-- so is each token
pub stop_inside : (st : Construction) (token : Seen) (rule : Rule) (n count : ℕ) → token_size token ≤ growth token * count → least_size token ≤ count → step st token ≡ stops rule n → n < count
unfolding step
stop_inside st (slice s) rule n count small least e = let h = bytes_stop s st rule n e in omega arith
stop_inside st (doctype legacy) rule n count small least e = let h = subst (Within (load st + cost (doctype legacy)) (load_size st + size_cost (doctype legacy)) 0) e (step_within st (doctype legacy)) in omega arith
stop_inside st (start_tag name attributes slash) rule n count small least e = let h = subst (Within (load st + cost (start_tag name attributes slash)) (load_size st + size_cost (start_tag name attributes slash)) 0) e (step_within st (start_tag name attributes slash)) in omega arith
stop_inside st (end_tag name) rule n count small least e = let h = subst (Within (load st + cost (end_tag name)) (load_size st + size_cost (end_tag name)) 0) e (step_within st (end_tag name)) in omega arith
stop_inside st (points ps) rule n count small least e = let h = subst (Within (load st + cost (points ps)) (load_size st + size_cost (points ps)) 0) e (step_within st (points ps)) in omega arith
stop_inside st (comment s) rule n count small least e = let h = subst (Within (load st + cost (comment s)) (load_size st + size_cost (comment s)) 0) e (step_within st (comment s)) in omega arith

-- the place of a byte of what is left
place_left : (placed : List PlacedByte) (end at n : ℕ) → place_in placed end (at + n) ≡ place_in (drop at placed) end n
place_left placed end zero n = ap (place_in placed end) (zero-add n)
place_left [] end (suc at) n = refl
place_left (a ∷ placed) end (suc at) n =
    let e : suc at + n ≡ suc (at + n) = omega arith in
    ap (place_in (a ∷ placed) end) e ∙ place_left placed end at n

pub fault_inside : (r : Reading) (b : Building) (m : Mode) (token : Spanned) (new : Reading) (s : List ℕ) (fault : BuildFault) → IsTable r.names → IsPartway r b → m ≡ mode_of b.state.path → IsPart r m token new → text_of r ≡ s
    → IsRefused (step b.state (seen s token.token)) fault → token.from + span_of fault ≤ length s
fault_inside r b m token new s faults.OutOfMemory names p e k t f =
    let a : length (text_of r) ≡ length s = ap length t in
    let forward : token.from < token.to = k.forward in
    let inside : token.to ≤ length (text_of r) = k.inside in
    omega arith
fault_inside r b m token new s (faults.Rule rule n) names p e k t f =
    let here = in_mode r m (mode_of b.state.path) token new e k in
    let c = counted r b token new (sound_names r.names names) p here in
    let stops_here : step b.state (seen (text_of r) token.token) ≡ stops rule n = subst (λ x. step b.state (seen x token.token) ≡ stops rule n) (sym t) f in
    let few : n < c.count = stop_inside b.state (seen (text_of r) token.token) rule n c.count c.size c.least stops_here in
    let a : length (text_of r) ≡ length s = ap length t in
    let whole_is : token.from + c.count ≡ token.to = c.whole in
    let inside : token.to ≤ length (text_of r) = k.inside in
    omega arith

pub token_refused : (r : Reading) (b : Building) (m : Mode) (token : Spanned) (new : Reading) (s : List ℕ) (fault : BuildFault) → IsTable r.names → IsPartway r b → m ≡ mode_of b.state.path → IsPart r m token new → text_of r ≡ s
    → IsRefused (step b.state (seen s token.token)) fault → StopsAs r.names b (left r) (answer_of fault (place_of r.source (token.from + span_of fault)))
token_refused r b m token new s faults.OutOfMemory names p e k t f = tt
token_refused r b m token new s (faults.Rule rule n) names p e k t f =
    let here = in_mode r m (mode_of b.state.path) token new e k in
    let c = counted r b token new (sound_names r.names names) p here in
    let stops_here : step b.state (seen (text_of r) token.token) ≡ stops rule n = subst (λ x. step b.state (seen x token.token) ≡ stops rule n) (sym t) f in
    let few : n < c.count = stop_inside b.state (seen (text_of r) token.token) rule n c.count c.size c.least stops_here in
    let whole_is : token.from + c.count ≡ token.to = c.whole in
    let inside : token.to ≤ length (text_of r) = k.inside in
    let before : r.at ≤ token.from = c.before in
    let long : length (left r) ≡ length r.source.placed - r.at = length-drop r.at r.source.placed in
    let from : token.from ≡ r.at + here.passed = here.from in
    let there : token.from + n ≡ r.at + (here.passed + n) = omega arith in
    subst (IsStopped r.names b (left r) rule) (sym (ap (place_in r.source.placed r.source.end) there ∙ place_left r.source.placed r.source.end r.at (here.passed + n)))
    (part_stops r.names b (left r) here.passed (token.to - r.at) (seen (text_of r) token.token) rule n r.source.end names (omega (arith, text_long r)) (omega (arith, text_long r)) (ready_here r b here.is_ready) (part_here r b token new here (omega arith)) stops_here)

pub lexer_stops : (r : Reading) (b : Building) (m : Mode) (answer : Refused) → IsTable r.names → IsPartway r b → m ≡ mode_of b.state.path → RefusesPart r m answer → StopsAs r.names b (left r) answer
lexer_stops r b m answers.OutOfMemory names p e f = tt
lexer_stops r b m (answers.Page rule at) names p e f =
    let here : IsPartFaulty r (mode_of b.state.path) rule at = subst (λ x. IsPartFaulty r x rule at) e f in
    let long : length (left r) ≡ length r.source.placed - r.at = length-drop r.at r.source.placed in
    let inside : r.at + here.passed < length (text_of r) = here.inside in
    let is : part r.names (mode_of b.state.path) (map byte_of (left r)) ≡ after_bytes here.passed (refused here.fault) = ap (part r.names (mode_of b.state.path)) (sym (left_bytes r)) ∙ here.is in
    let place : at ≡ place_in (left r) r.source.end here.passed = here.place_is ∙ place_left r.source.placed r.source.end r.at here.passed in
    subst (λ x. IsStopped r.names b (left r) x at) (sym here.rule_is) (subst (IsStopped r.names b (left r) (rule_of here.fault)) (sym place)
    (fault_stops r.names b (left r) here.passed r.source.end here.fault names (omega (arith, text_long r)) (ready_here r b here.is_ready) is))

-- ---- what the lexer gives

pub taken_here : (r : Reading) (m : Mode) (o : Option Placed) (placed : Placed) (tag : Tag) (new : Reading) → GivesPart r m (lexemes.next_of o tag) new → o ≡ Some placed → IsPart r m (spanned_of placed tag) new
taken_here r m o placed tag new g e = subst (λ x. GivesPart r m (lexemes.next_of x tag) new) e g

pub waits_here : (r : Reading) (m n : Mode) (o : Option Placed) (tag : Tag) (new : Reading) → m ≡ n → GivesPart r m (lexemes.next_of o tag) new → o ≡ None → (ready r.names n (left_of r) ≡ false) × (new ≡ r)
waits_here r m n o tag new e g f = subst (λ x. (ready r.names x (left_of r) ≡ false) × (new ≡ r)) e (subst (λ x. GivesPart r m (lexemes.next_of x tag) new) f g)
