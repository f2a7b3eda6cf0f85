-- The next piece of a text that may go on, by its steps.
use Rattle.std.proofs.Common.{◌≡◌, ℕ, ◌+◌, ◌-◌, ◌<◌, Bool, true, false, cond, not, ◌&&◌, ◌||◌, ◌==◌, List, [], ◌∷◌, Option, Some, None, length, drop, refl, sym, ap, subst, ◌∙◌, arith, length-drop}
use Rattle.std.specs.Str.{IsCharBoundary}
use Rattle.std.proofs.lemmas.Bool.{and_parts}
use Rattle.std.proofs.lemmas.Bool.Decides.{nat_tests}
use Rattle.hm_base.specs.Bytes.{is_letter}
use Rattle.hm_base.specs.declared.rules.Rule.{Rule}
use Rattle.hm_base.specs.declared.rules.Rule.TheVariants.{Cut}
use Rattle.hm_refs.specs.Names.{Entry}
use Rattle.hm_scan.specs.Texts.{begins_markup, opens_markup, read_text}
use Rattle.hm_tree.specs.Tokens.{Reads, Scanned, refused}
use Rattle.hm_tree.specs.declared.tokens.ScanFault.{ScanFault}
use Rattle.hm_tree.specs.declared.tokens.ScanFault.TheVariants as faults
use Rattle.hm_tree.specs.declared.tokens.Spanned.{Spanned}
use Rattle.hm_tree.specs.declared.tokens.Token.{Token}
use Rattle.hm_token_laws.specs.First.{Mode, ordinary, in_svg, rcdata, raw, script, Remainder, Next, at_end, after_bytes, after_empty_tags, first, next_here, read_here, read_markup, rule_of, unless_end}
use Rattle.hm_lexer.specs.Ready.{here_ready, is_cut, is_told, next_ready, part, part_after, ready, tells_markup, text_part}
use Rattle.hm_lexer.proofs.Building.{tags_counted}
use Rattle.hm_lexer.proofs.Standing.{here_text}
use Rattle.hm_lexer.specs.Parts.{GivesPart, IsPart, IsPartFaulty, IsWhole, is_told_here, left_of}
use Rattle.hm_lexer.specs.Reading.{Gives, IsFaulty, Reading, text_of}
use Rattle.hm_lexer.specs.Steps.{IsAfterNothing, after_nothing, has_markup}

-- an element's text is read whole
pub whole_text : (t : List Entry) (mode : Mode) (s : List ℕ) → has_markup mode ≡ false → IsWhole t mode s
unfolding part ready
whole_text t ordinary s h = absurd (cc)
whole_text t in_svg s h = absurd (cc)
whole_text t (rcdata name) s h = (refl, refl)
whole_text t (raw name) s h = (refl, refl)
whole_text t script s h = (refl, refl)

-- ---- markup

letter_slash : (c : ℕ) → is_letter c ≡ true → (c == 47) ≡ false
unfolding is_letter
letter_slash c h = grind (arith, nat_tests)

is_so : (c n : ℕ) → (c == n) ≡ true → (n == 47) ≡ false → (c == 47) ≡ false
is_so c n e f = grind (arith, nat_tests)

-- one byte after '<' that opens markup is no '/'
one_opens : (c : ℕ) → opens_markup (c ∷ []) ≡ true → (c == 47) ≡ false
one_opens c h = by (is_letter c) refl (c == 33) refl (c == 63) refl (c == 47) refl h
  where
    by : (w : Bool) → is_letter c ≡ w → (x : Bool) → (c == 33) ≡ x → (y : Bool) → (c == 63) ≡ y → (z : Bool) → (c == 47) ≡ z → w || (x || (y || (z && false))) ≡ true → z ≡ false
    by w e x f y g false i h = refl
    by true e x f y g true i h = absurd (let k = letter_slash c e in cc)
    by false e true f y g true i h = absurd (let k = is_so c 33 f refl in cc)
    by false e false f true g true i h = absurd (let k = is_so c 63 g refl in cc)
    by false e false f false g true i h = absurd (cc)

opens_told : (r : List ℕ) → opens_markup r ≡ true → tells_markup r ≡ true
opens_told [] h = absurd (cc)
opens_told (c ∷ []) h = ap not (one_opens c h)
opens_told (c ∷ d ∷ r) h = refl

markup_told : (c : ℕ) (r : List ℕ) → begins_markup (c ∷ r) ≡ true → is_told c r ≡ true
unfolding begins_markup
markup_told c r h =
    let both = and_parts (c == 60) (opens_markup r) h in
    rw both.0 (opens_told r both.1)

-- where markup begins after `</>`
markup_ready : (t : List Entry) (foreign : Bool) (n : ℕ) (c : ℕ) (r : List ℕ) → begins_markup (c ∷ r) ≡ true
    → (part_after t foreign (record { count = n; rest = c ∷ r }) ≡ next_here t foreign (record { count = n; rest = c ∷ r })) × (here_ready t foreign (c ∷ r) ≡ next_ready (next_here t foreign (record { count = n; rest = c ∷ r })))
markup_ready t foreign n c r h = (
  ap (λ b. after_bytes n (cond b (read_markup t foreign (c ∷ r)) (text_part t (c ∷ r)))) h ∙ sym (ap (λ b. after_bytes n (cond b (read_markup t foreign (c ∷ r)) (read_text t false (c ∷ r)))) h),
  ap (λ b. b && not (is_cut (read_here t foreign (c ∷ r)))) (markup_told c r h),
)

whole_after : (t : List Entry) (foreign : Bool) (b : Remainder) (c : ℕ) (r : List ℕ) → b.rest ≡ c ∷ r → begins_markup (c ∷ r) ≡ true → (part_after t foreign b ≡ next_here t foreign b) × (here_ready t foreign b.rest ≡ next_ready (next_here t foreign b))
whole_after t foreign b c r e h = subst (λ l. (part_after t foreign (record { count = b.count; rest = l }) ≡ next_here t foreign (record { count = b.count; rest = l })) × (here_ready t foreign l ≡ next_ready (next_here t foreign (record { count = b.count; rest = l })))) (sym e) (markup_ready t foreign b.count c r h)

-- what is left after `</>`
some_left : (s : List ℕ) → 0 < length s → (c : ℕ) × (r : List ℕ) × (s ≡ c ∷ r)
some_left [] h = absurd (omega arith)
some_left (c ∷ r) h = (c, r, refl)

pub whole_markup : (t : List Entry) (mode : Mode) (s rest : List ℕ) (n : ℕ) → has_markup mode ≡ true → after_nothing mode s ≡ record { count = n; rest = rest } → 0 < length rest → begins_markup rest ≡ true → IsWhole t mode s
unfolding part ready first
whole_markup t ordinary s rest n h e some m = let k = some_left rest some in whole_after t false (after_nothing ordinary s) k.0 k.1 (ap (λ (b : Remainder). b.rest) e ∙ k.2) (subst (λ l. begins_markup l ≡ true) k.2 m)
whole_markup t in_svg s rest n h e some m = let k = some_left rest some in whole_after t true (after_nothing in_svg s) k.0 k.1 (ap (λ (b : Remainder). b.rest) e ∙ k.2) (subst (λ l. begins_markup l ≡ true) k.2 m)
whole_markup t (rcdata name) s rest n h e some m = absurd (cc)
whole_markup t (raw name) s rest n h e some m = absurd (cc)
whole_markup t script s rest n h e some m = absurd (cc)

-- ---- text

-- nothing is there
pub none_ready : (t : List Entry) (mode : Mode) (s rest : List ℕ) (n : ℕ) → has_markup mode ≡ true → after_nothing mode s ≡ record { count = n; rest = rest } → rest ≡ [] → ready t mode s ≡ false
unfolding ready
none_ready t ordinary s rest n h e none = ap (λ (b : Remainder). here_ready t false b.rest) e ∙ ap (here_ready t false) none
none_ready t in_svg s rest n h e none = ap (λ (b : Remainder). here_ready t true b.rest) e ∙ ap (here_ready t true) none
none_ready t (rcdata name) s rest n h e none = absurd (cc)
none_ready t (raw name) s rest n h e none = absurd (cc)
none_ready t script s rest n h e none = absurd (cc)

here_untold : (t : List Entry) (foreign : Bool) (s : List ℕ) → is_told_here s ≡ false → here_ready t foreign s ≡ false
here_untold t foreign [] h = refl
here_untold t foreign (c ∷ s) h = ap (λ b. b && not (is_cut (read_here t foreign (c ∷ s)))) h

-- what is there doesn't tell it
pub untold : (t : List Entry) (mode : Mode) (s rest : List ℕ) (n : ℕ) → has_markup mode ≡ true → after_nothing mode s ≡ record { count = n; rest = rest } → is_told_here rest ≡ false → ready t mode s ≡ false
unfolding ready
untold t ordinary s rest n h e none = ap (λ (b : Remainder). here_ready t false b.rest) e ∙ here_untold t false rest none
untold t in_svg s rest n h e none = ap (λ (b : Remainder). here_ready t true b.rest) e ∙ here_untold t true rest none
untold t (rcdata name) s rest n h e none = absurd (cc)
untold t (raw name) s rest n h e none = absurd (cc)
untold t script s rest n h e none = absurd (cc)

text_ready : (t : List Entry) (foreign : Bool) (n : ℕ) (rest : List ℕ) → is_told_here rest ≡ true → begins_markup rest ≡ false
    → (here_ready t foreign rest ≡ true) × (part_after t foreign (record { count = n; rest = rest }) ≡ after_bytes n (text_part t rest))
text_ready t foreign n [] told none = absurd (cc)
text_ready t foreign n (c ∷ r) told none = (here_text t foreign c r told none, ap (λ b. after_bytes n (cond b (read_markup t foreign (c ∷ r)) (text_part t (c ∷ r)))) none)

-- a piece is there
pub text_is_part : (t : List Entry) (mode : Mode) (s rest : List ℕ) (n : ℕ) → has_markup mode ≡ true → after_nothing mode s ≡ record { count = n; rest = rest } → is_told_here rest ≡ true → begins_markup rest ≡ false
    → (ready t mode s ≡ true) × (part t mode s ≡ after_bytes n (text_part t rest))
unfolding ready part
text_is_part t ordinary s rest n h e told none = let k = text_ready t false n rest told none in (ap (λ (b : Remainder). here_ready t false b.rest) e ∙ k.0, ap (part_after t false) e ∙ k.1)
text_is_part t in_svg s rest n h e told none = let k = text_ready t true n rest told none in (ap (λ (b : Remainder). here_ready t true b.rest) e ∙ k.0, ap (part_after t true) e ∙ k.1)
text_is_part t (rcdata name) s rest n h e told none = absurd (cc)
text_is_part t (raw name) s rest n h e told none = absurd (cc)
text_is_part t script s rest n h e told none = absurd (cc)

pub part_taken : (old : Reading) (mode : Mode) (token : Token) (from to : ℕ) → has_markup mode ≡ true → IsAfterNothing mode (text_of old) old.at from → is_told_here (drop from (text_of old)) ≡ true → begins_markup (drop from (text_of old)) ≡ false
    → from < to → Reads (text_part old.names (drop from (text_of old))) (text_of old) token to → IsPart old mode (record { token = token; from = from; to = to }) (record old { at = to })
part_taken old mode token from to m b told none forward r =
    let k = text_is_part old.names mode (left_of old) (drop from (text_of old)) (from - old.at) m b.is told none in
    record {
      passed = from - old.at;
      is_ready = k.0;
      is = k.1 ∙ ap (after_bytes (from - old.at)) r.is;
      from = omega (arith, b.forward);
      moved = refl;
      forward = forward;
      inside = r.boundary.0;
      boundary = r.boundary;
      pieces = r.inside;
    }

-- ---- a fault is inside the text

abbrev count_of : Next → ℕ
count_of at_end = 0
count_of (after_bytes n read) = n

abbrev is_end : Next → Bool
is_end at_end = true
is_end (after_bytes n read) = false

no : {b : Bool} → b ≡ true → b ≡ false → ⊥
no e f = cc

next_inside : (t : List Entry) (foreign : Bool) (count : ℕ) (rest : List ℕ) (n len : ℕ) (fault : ScanFault) → len ≡ count + length rest → next_here t foreign (record { count = count; rest = rest }) ≡ after_bytes n (refused fault) → n < len
next_inside t foreign count [] n len fault l e = absurd (no refl (ap is_end e))
next_inside t foreign count (c ∷ rest) n len fault l e = let k : count ≡ n = ap count_of e in omega arith

whole_inside : (s : List ℕ) (read : Scanned) (n : ℕ) (fault : ScanFault) → unless_end s read ≡ after_bytes n (refused fault) → n < length s
whole_inside [] read n fault e = absurd (no refl (ap is_end e))
whole_inside (c ∷ s) read n fault e = let k : 0 ≡ n = ap count_of e in omega arith

pub inside_text : (t : List Entry) (mode : Mode) (s : List ℕ) (n : ℕ) (fault : ScanFault) → first t mode s ≡ after_bytes n (refused fault) → n < length s
unfolding first
inside_text t ordinary s n fault e = next_inside t false (after_empty_tags s).count (after_empty_tags s).rest n (length s) fault (tags_counted s) e
inside_text t in_svg s n fault e = next_inside t true (after_empty_tags s).count (after_empty_tags s).rest n (length s) fault (tags_counted s) e
inside_text t (rcdata name) s n fault e = whole_inside s _ n fault e
inside_text t (raw name) s n fault e = whole_inside s _ n fault e
inside_text t script s n fault e = whole_inside s _ n fault e

-- a fault that isn't a missing end
cut_or : (fault : ScanFault) → (rule_of fault ≡ Cut → ⊥) → is_cut (refused fault) ≡ false
cut_or faults.Cut h = absurd (h refl)
cut_or faults.BadName h = refl
cut_or faults.TooManyAttributes h = refl
cut_or faults.BadDoctype h = refl
cut_or faults.OutOfMemory h = refl

pub part_refused : (old : Reading) (mode : Mode) (rule : Rule) (place : ℕ) → IsWhole old.names mode (left_of old) → IsFaulty old mode rule place → (rule ≡ Cut → ⊥) → IsPartFaulty old mode rule place
part_refused old mode rule place whole f other = record {
  passed = f.passed;
  fault = f.fault;
  is_ready = whole.1 ∙ ap next_ready f.is ∙ ap not (cut_or f.fault (λ e. other (f.rule_is ∙ e)));
  is = whole.0 ∙ f.is;
  rule_is = f.rule_is;
  inside = (let n = inside_text old.names mode (left_of old) f.passed f.fault f.is in omega (arith, length-drop old.at (text_of old)));
  place_is = f.place_is;
}

-- a token that is read whole
pub part_whole : (old : Reading) (mode : Mode) (token : Option Spanned) (new : Reading) → IsWhole old.names mode (left_of old) → Gives old mode token new → IsCharBoundary (text_of new) new.at → GivesPart old mode token new
part_whole old mode None new whole g starts = (whole.1 ∙ ap next_ready g.0, g.1)
part_whole old mode (Some token) new whole g starts = record {
  passed = g.passed;
  is_ready = whole.1 ∙ ap next_ready g.is;
  is = whole.0 ∙ g.is;
  from = g.from;
  moved = g.moved;
  forward = g.forward;
  inside = g.inside;
  boundary = subst (λ (r : Reading). IsCharBoundary (text_of r) r.at) g.moved starts;
  pieces = g.pieces;
}
