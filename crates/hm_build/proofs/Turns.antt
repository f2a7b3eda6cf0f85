-- A turn of the reader: the next token is taken into the tree.
use Rattle.std.proofs.Common.{◌≡◌, ℕ, ◌+◌, ◌-◌, ◌*◌, ◌^◌, ◌≤◌, ◌<◌, true, List, length, drop, map, refl, sym, ap, ◌∙◌, subst, Some, None, arith}
use Rattle.std.specs.Str.{IsUtf8}
use Rattle.std.proofs.lemmas.List.{length-drop, drop-drop, length-map}
use Rattle.hm_base.specs.Bytes.{all_pass}
use Rattle.std.specs.declared.option.Option.{Option}
use Rattle.hm_base.specs.Source.{Source, byte_of, is_text_byte}
use Rattle.hm_base.specs.declared.limits.TheConstants.{OUTPUT_LIMIT}
use Rattle.hm_base.specs.Walks.{Element}
use Rattle.hm_base.specs.declared.rules.Refused.{Refused}
use Rattle.hm_base.specs.declared.rules.Refused.TheVariants as answers
use Rattle.hm_tree.specs.Lexemes as lexemes
use Rattle.hm_tree.specs.Lexemes.{spanned_of}
use Rattle.hm_tree.specs.Tokens.{Seen, seen, taken, refused, doctype, start_tag, end_tag, slice, points, comment}
use Rattle.hm_tree.specs.declared.tokens.Placed.{Placed}
use Rattle.hm_tree.specs.declared.tokens.Spanned.{Spanned}
use Rattle.hm_tree.specs.declared.tokens.Tag.{Tag}
use Rattle.hm_token_laws.specs.First.{Mode, at_end, after_bytes, first}
use Rattle.hm_token_laws.specs.Laws.{IsPlain, SoundNames, SoundToken, TakesBytes, token_size, least_size, growth}
use Rattle.hm_token_laws.proofs.Firsts.{tokens_are_small, tokens_are_sound}
use Rattle.hm_construction_laws.specs.Steps.{Construction, Stepped, went, stops, step}
use Rattle.hm_construction_laws.specs.Trees.{Outcome, refused_by, after_events, mode_of, stepped, over, tree_from}
use Rattle.hm_construction_laws.proofs.Modes.{is_mode, markup_no_text}
use Rattle.hm_lexer.specs.Reading.{Reading, text_of, next_of, Gives, IsTaken, Refuses}
use Rattle.hm_insertion.specs.Building.{Building, Fits, IsStepped, IsRefused, grown}
use Rattle.hm_insertion.specs.declared.fault.BuildFault.{BuildFault}
use Rattle.hm_insertion.specs.declared.fault.BuildFault.TheVariants as faults
use Rattle.hm_build.specs.Parsing.{GoesOn, IsParsing, IsReadUnder, IsRead, IsFurther, IsRefusedAs, IsWithin, left_tree, read_of, place_of, answer_of, span_of}
use Rattle.hm_build.proofs.Reading.{goes_on, ends_here, is_faulty, after_grown}
use Rattle.hm_build.proofs.Room.{step_fits, step_stays, stops_inside, within_further}

-- ---- a text that is there

-- what is known of the text while it is read
pub record IsText (r : Reading) : Type 0 where
  pub plain : all_pass is_text_byte (text_of r) ≡ true
  pub utf8 : IsUtf8 (text_of r)
  pub within : length r.source.placed ≤ r.source.end
  pub short : 6 * r.source.end + 13 < 2 ^ 29

pub text_long : (r : Reading) → length (text_of r) ≡ length r.source.placed
text_long r = length-map r.source.placed byte_of

pub text_here : (r : Reading) (page : Source) (s : List ℕ) → r.source ≡ page → s ≡ map byte_of page.placed → length s ≡ length page.placed → all_pass is_text_byte s ≡ true → IsUtf8 s → length s ≤ page.end → page.end ≤ OUTPUT_LIMIT → IsText r
text_here r page s e is len plain utf8 within short =
    let text : s ≡ text_of r = is ∙ sym (ap (λ (v : Source). map byte_of v.placed) e) in
    let end : r.source.end ≡ page.end = ap (λ (v : Source). v.end) e in
    let size : length r.source.placed ≡ length page.placed = ap (λ (v : Source). length v.placed) e in
    record {
      plain = subst (λ x. all_pass is_text_byte x ≡ true) text plain;
      utf8 = subst IsUtf8 text utf8;
      within = omega arith;
      short = omega arith;
    }

-- ---- no token

pub lexer_refuses : (r : Reading) (b : Building) (m : Mode) (answer : Refused) → IsParsing r b → m ≡ mode_of b.state.path → Refuses r m answer → IsRefusedAs (left_tree r b) answer
lexer_refuses r b m answers.OutOfMemory p e f = tt
lexer_refuses r b m (answers.Page rule at) p e f =
    let here : first r.names (mode_of b.state.path) (drop r.at (text_of r)) ≡ after_bytes f.passed (refused f.fault) = subst (λ k. first r.names k (drop r.at (text_of r)) ≡ after_bytes f.passed (refused f.fault)) e f.is in
    ap (after_events b.walk) (is_faulty r.names (place_of r.source) r.at f.passed b.state f.fault (drop r.at (text_of r)) here)
    ∙ ap (λ x. refused_by x (place_of r.source (r.at + f.passed))) (sym f.rule_is) ∙ ap (refused_by rule) (sym f.place_is)

pub text_ends : (r : Reading) (b : Building) (m : Mode) → IsParsing r b → m ≡ mode_of b.state.path → next_of r m ≡ at_end → IsRead r b
text_ends r b m p e f =
    let here : first r.names (mode_of b.state.path) (drop r.at (text_of r)) ≡ at_end = subst (λ k. first r.names k (drop r.at (text_of r)) ≡ at_end) e f in
    let left : length (drop r.at (text_of r)) ≡ length (text_of r) - r.at = length-drop r.at (text_of r) in
    let inside : r.at ≤ length (text_of r) = p.inside in
    let all : r.at + length (drop r.at (text_of r)) ≡ length (text_of r) = omega arith in
    record {
      ends = ap (after_events b.walk) (ends_here r.names (place_of r.source) r.at b.state (drop r.at (text_of r)) here ∙ ap (λ i. over (place_of r.source) i b.state) all);
      within = within_further (read_of r) (read_of (record r { at = length (text_of r) })) b.walk b.state (omega arith) p.within;
    }

-- ---- a token

sound : (r : Reading) (b : Building) (token : Spanned) (new : Reading) → SoundNames r.names → IsParsing r b → IsTaken r (mode_of b.state.path) token new → SoundToken (mode_of b.state.path) (seen (text_of r) token.token) × IsPlain (drop token.to (text_of r))
sound r b token new names p k = tokens_are_sound r.names (mode_of b.state.path) (drop r.at (text_of r)) k.passed (seen (text_of r) token.token) (drop token.to (text_of r)) names (is_mode b.state.path) p.plain k.is

pub read_under : (path : List Element) (token : Seen) → SoundToken (mode_of path) token → IsReadUnder path token
read_under path (start_tag n attributes slash) s = markup_no_text path s.mode_reads
read_under path (doctype legacy) s = tt
read_under path (end_tag n) s = tt
read_under path (slice x) s = tt
read_under path (points ps) s = tt
read_under path (comment x) s = tt

pub token_under : (r : Reading) (b : Building) (m : Mode) (token : Spanned) (new : Reading) (s : List ℕ) → SoundNames r.names → IsParsing r b → m ≡ mode_of b.state.path → IsTaken r m token new → text_of r ≡ s → IsReadUnder b.state.path (seen s token.token)
token_under r b m token new s names p e k t =
    subst (λ x. IsReadUnder b.state.path (seen x token.token)) t (read_under b.state.path (seen (text_of r) token.token) (sound r b token new names p (subst (λ x. IsTaken r x token new) e k)).0)

-- how much of the text the token is
pub record IsCounted (r : Reading) (token : Spanned) : Type 0 where
  pub count : ℕ
  pub size : token_size (seen (text_of r) token.token) ≤ growth (seen (text_of r) token.token) * count
  pub least : least_size (seen (text_of r) token.token) ≤ count
  pub whole : token.from + count ≡ token.to
  pub before : r.at ≤ token.from

counted : (r : Reading) (b : Building) (token : Spanned) (new : Reading) → SoundNames r.names → IsParsing r b → IsTaken r (mode_of b.state.path) token new → IsCounted r token
counted r b token new names p k =
    let rest : List ℕ = drop token.to (text_of r) in
    let takes : TakesBytes (drop r.at (text_of r)) k.passed (seen (text_of r) token.token) rest = tokens_are_small r.names (mode_of b.state.path) (drop r.at (text_of r)) k.passed (seen (text_of r) token.token) rest names (is_mode b.state.path) k.is in
    let a : length (drop r.at (text_of r)) ≡ length (text_of r) - r.at = length-drop r.at (text_of r) in
    let c : length rest ≡ length (text_of r) - token.to = length-drop token.to (text_of r) in
    let whole : length (drop r.at (text_of r)) ≡ k.passed + takes.count + length rest = takes.whole in
    let inside : token.to ≤ length (text_of r) = k.inside in
    let before : r.at ≤ length (text_of r) = p.inside in
    let from : token.from ≡ r.at + k.passed = k.from in
    record { count = takes.count; size = takes.size; least = takes.least; whole = omega arith; before = omega arith }

in_mode : (r : Reading) (m n : Mode) (token : Spanned) (new : Reading) → m ≡ n → IsTaken r m token new → IsTaken r n token new
in_mode r m n token new e k = subst (λ x. IsTaken r x token new) e k

pub token_fits : (r : Reading) (b : Building) (m : Mode) (token : Spanned) (new : Reading) (s : List ℕ) → SoundNames r.names → IsText r → IsParsing r b → m ≡ mode_of b.state.path → IsTaken r m token new → text_of r ≡ s → Fits (step b.state (seen s token.token)) b.walk
token_fits r b m token new s names text p e k t =
    let taken_here : IsTaken r (mode_of b.state.path) token new = in_mode r m (mode_of b.state.path) token new e k in
    let c : IsCounted r token = counted r b token new names p taken_here in
    let whole : token.from + c.count ≡ token.to = c.whole in
    let before : r.at ≤ token.from = c.before in
    let inside : token.to ≤ length (text_of r) = k.inside in
    subst (λ x. Fits (step b.state (seen x token.token)) b.walk) t
    (step_fits (read_of r) c.count r.source.end b.walk b.state (seen (text_of r) token.token) p.within c.size c.least (omega (arith, text.within, text_long r)) text.short)

-- the tree goes on after the token
steps_on : (r : Reading) (b : Building) (token : Spanned) (new : Reading) → IsParsing r b → (k : IsTaken r (mode_of b.state.path) token new)
    → left_tree r b ≡ after_events b.walk (stepped (place_of r.source) token.from (step b.state (seen (text_of r) token.token)) (λ next. tree_from r.names (place_of r.source) 0 token.to next (drop token.to (text_of r))))
steps_on r b token new p k =
    let left : length (drop r.at (text_of r)) ≡ length (text_of r) - r.at = length-drop r.at (text_of r) in
    let inside : token.to ≤ length (text_of r) = k.inside in
    let before : r.at ≤ length (text_of r) = p.inside in
    let from : token.from ≡ r.at + k.passed = k.from in
    let forward : token.from < token.to = k.forward in
    let rest : drop token.to (text_of r) ≡ drop (token.to - r.at) (drop r.at (text_of r)) = further r.at token.to (text_of r) (omega arith) in
    let here : first r.names (mode_of b.state.path) (drop r.at (text_of r)) ≡ after_bytes k.passed (taken (seen (text_of r) token.token) (drop (token.to - r.at) (drop r.at (text_of r)))) = k.is ∙ ap (λ x. after_bytes k.passed (taken (seen (text_of r) token.token) x)) rest in
    ap (after_events b.walk) (goes_on r.names (place_of r.source) r.at k.passed token.to b.state (seen (text_of r) token.token) (drop r.at (text_of r)) (omega arith) (omega arith) here
    ∙ ap (λ i. stepped (place_of r.source) i (step b.state (seen (text_of r) token.token)) (λ next. tree_from r.names (place_of r.source) 0 token.to next (drop (token.to - r.at) (drop r.at (text_of r))))) (sym k.from)
    ∙ ap (λ x. stepped (place_of r.source) token.from (step b.state (seen (text_of r) token.token)) (λ next. tree_from r.names (place_of r.source) 0 token.to next x)) (sym rest))
  where
    further : (i j : ℕ) (s : List ℕ) → i ≤ j → drop j s ≡ drop (j - i) (drop i s)
    further i j s h = ap (λ x. drop x s) (omega arith) ∙ sym (drop-drop (j - i) i s)

pub token_taken : (r : Reading) (b : Building) (m : Mode) (token : Spanned) (new : Reading) (s : List ℕ) (after : Building) → SoundNames r.names → IsParsing r b → m ≡ mode_of b.state.path → IsTaken r m token new → text_of r ≡ s
    → IsStepped (step b.state (seen s token.token)) b after → GoesOn r b new after
token_taken r b m token new s after names p e k t done = by (step b.state (seen (text_of r) token.token)) refl (subst (λ x. IsStepped (step b.state (seen x token.token)) b after) (sym t) done)
  where
    here : IsTaken r (mode_of b.state.path) token new
    here = in_mode r m (mode_of b.state.path) token new e k

    at_to : Reading
    at_to = record r { at = token.to }

    by : (x : Stepped) → step b.state (seen (text_of r) token.token) ≡ x → IsStepped x b after → GoesOn r b new after
    by (stops rule n) q i = absurd i
    by (went es st) q i =
        let c : IsCounted r token = counted r b token new names p here in
        let whole : token.from + c.count ≡ token.to = c.whole in
        let before : r.at ≤ token.from = c.before in
        let forward : token.from < token.to = k.forward in
        let more : Construction → Outcome = λ next. tree_from r.names (place_of r.source) 0 token.to next (drop token.to (text_of r)) in
        let all : left_tree r b ≡ after_events after.walk (more after.state) =
        steps_on r b token new p here ∙ ap (λ x. after_events b.walk (stepped (place_of r.source) token.from x more)) q ∙ sym (after_grown b.walk es (more st)) ∙ ap (λ w. after_events w (more st)) (sym i.1) ∙ ap (λ z. after_events after.walk (more z)) (sym i.0)
        in
        let stays : IsWithin (read_of r + c.count) (grown b.walk es) st = step_stays (read_of r) c.count b.walk es b.state st (seen (text_of r) token.token) p.within c.size c.least q in
        let within : IsWithin (read_of at_to) after.walk after.state = subst (λ w. IsWithin (read_of at_to) w after.state) (sym i.1) (subst (λ z. IsWithin (read_of at_to) (grown b.walk es) z) (sym i.0) (within_further (read_of r + c.count) (read_of at_to) (grown b.walk es) st (omega arith) stays)) in
        let parsing : IsParsing at_to after = record { inside = k.inside; within = within; plain = (sound r b token new names p here).1 } in
        let ahead : IsFurther r at_to = record { names = refl; source = refl; forward = omega arith; inside = k.inside } in
        let on : GoesOn r b at_to after = record { parsing = parsing; ahead = ahead; tree = all } in
        subst (λ n. GoesOn r b n after) (sym k.moved) on

pub token_refused : (r : Reading) (b : Building) (m : Mode) (token : Spanned) (new : Reading) (s : List ℕ) (fault : BuildFault) → IsParsing r b → m ≡ mode_of b.state.path → IsTaken r m token new → text_of r ≡ s
    → IsRefused (step b.state (seen s token.token)) fault → IsRefusedAs (left_tree r b) (answer_of fault (place_of r.source (token.from + span_of fault)))
token_refused r b m token new s faults.OutOfMemory p e k t f = tt
token_refused r b m token new s (faults.Rule rule n) p e k t f =
    let here : IsTaken r (mode_of b.state.path) token new = in_mode r m (mode_of b.state.path) token new e k in
    let stops_here : step b.state (seen (text_of r) token.token) ≡ stops rule n = subst (λ x. step b.state (seen x token.token) ≡ stops rule n) (sym t) f in
    steps_on r b token new p here ∙ ap (λ x. after_events b.walk (stepped (place_of r.source) token.from x (λ next. tree_from r.names (place_of r.source) 0 token.to next (drop token.to (text_of r))))) stops_here

pub fault_inside : (r : Reading) (b : Building) (m : Mode) (token : Spanned) (new : Reading) (s : List ℕ) (fault : BuildFault) → SoundNames r.names → IsParsing r b → m ≡ mode_of b.state.path → IsTaken r m token new → text_of r ≡ s
    → IsRefused (step b.state (seen s token.token)) fault → token.from + span_of fault ≤ length s
fault_inside r b m token new s faults.OutOfMemory names p e k t f =
    let a : length (text_of r) ≡ length s = ap length t in
    let forward : token.from < token.to = k.forward in
    let inside : token.to ≤ length (text_of r) = k.inside in
    omega arith
fault_inside r b m token new s (faults.Rule rule n) names p e k t f =
    let here : IsTaken r (mode_of b.state.path) token new = in_mode r m (mode_of b.state.path) token new e k in
    let c : IsCounted r token = counted r b token new names p here in
    let stops_here : step b.state (seen (text_of r) token.token) ≡ stops rule n = subst (λ x. step b.state (seen x token.token) ≡ stops rule n) (sym t) f in
    let few : n ≤ c.count = stops_inside b.state (seen (text_of r) token.token) rule n c.count c.size stops_here in
    let a : length (text_of r) ≡ length s = ap length t in
    let whole : token.from + c.count ≡ token.to = c.whole in
    let inside : token.to ≤ length (text_of r) = k.inside in
    omega arith

-- ---- the text of a page

pub same_text : (r : Reading) (page : Source) (s : List ℕ) → r.source ≡ page → s ≡ map byte_of page.placed → text_of r ≡ s
same_text r page s e f = ap (λ (p : Source). map byte_of p.placed) e ∙ sym f

pub answer_here : (r : Reading) (o : Outcome) (page : Source) (fault : BuildFault) (at : ℕ) → r.source ≡ page → IsRefusedAs o (answer_of fault (place_of r.source at)) → IsRefusedAs o (answer_of fault (place_of page at))
answer_here r o page fault at e h = subst (λ p. IsRefusedAs o (answer_of fault (place_of p at))) e h

pub taken_here : (r : Reading) (m : Mode) (o : Option Placed) (placed : Placed) (tag : Tag) (new : Reading) → Gives r m (lexemes.next_of o tag) new → o ≡ Some placed → IsTaken r m (spanned_of placed tag) new
taken_here r m o placed tag new g e = subst (λ x. Gives r m (lexemes.next_of x tag) new) e g

pub ended_here : (r : Reading) (m : Mode) (o : Option Placed) (tag : Tag) (new : Reading) → Gives r m (lexemes.next_of o tag) new → o ≡ None → next_of r m ≡ at_end
ended_here r m o tag new g e = (subst (λ x. Gives r m (lexemes.next_of x tag) new) e g).0

pub unchanged_here : (r : Reading) (m : Mode) (o : Option Placed) (tag : Tag) (new : Reading) → Gives r m (lexemes.next_of o tag) new → o ≡ None → new ≡ r
unchanged_here r m o tag new g e = (subst (λ x. Gives r m (lexemes.next_of x tag) new) e g).1
