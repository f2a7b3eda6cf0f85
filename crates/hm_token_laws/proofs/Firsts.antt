-- Each token that is read is sound and small, by the mode.
use Rattle.std.proofs.Common.{◌≡◌, ℕ, suc, ◌+◌, Bool, true, false, cond, ◌&&◌, ◌==◌, List, [], ◌∷◌, ◌++◌, length, refl, ap, sym, subst, ◌∙◌, arith, length-append, codes}
use Rattle.std.proofs.lemmas.Bool.{and_parts, eqb-true}
use Rattle.hm_base.specs.Bytes.{all_pass, is_null}
use Rattle.hm_base.specs.RawText.{raw_end, script_end}
use Rattle.hm_refs.specs.Names.{Entry}
use Rattle.hm_scan.specs.Reading.{read_tag, begins_tag}
use Rattle.hm_scan.specs.Texts.{begins_markup, read_text}
use Rattle.hm_scan.specs.Comments.{read_comment, begins_cdata, read_cdata}
use Rattle.hm_scan.specs.Doctypes.{begins_doctype, read_doctype}
use Rattle.hm_tree.specs.Tokens.{Seen, Scanned, taken}
use Rattle.hm_token_laws.specs.First.{Mode, ordinary, in_svg, rcdata, raw, script, after_bytes, read_markup, read_here, Remainder, three_more, nothing_skipped, after_empty_tags, next_here, read_inside, read_references, read_nothing, unless_end, first}
use Rattle.hm_token_laws.specs.First as next
use Rattle.hm_token_laws.specs.Laws.{IsPlain, SoundNames, reads_markup, reads_references, EndsElement, IsWhole, SoundToken, TokensAreSound, TakesBytes, TokensAreSmall}
use Rattle.hm_token_laws.proofs.Plain.{plain_after_all}
use Rattle.hm_token_laws.proofs.References.{is_ascii, ascii_low}
use Rattle.hm_token_laws.proofs.Tags.{tag_sound, tag_takes}
use Rattle.hm_token_laws.proofs.Comments.{comment_sound, comment_takes}
use Rattle.hm_token_laws.proofs.Sections.{cdata_sound, cdata_takes}
use Rattle.hm_token_laws.proofs.Doctypes.{doctype_sound, doctype_takes}
use Rattle.hm_token_laws.proofs.Texts.{piece, piece_sound, piece_takes}
use Rattle.hm_token_laws.proofs.Elements.{raw_ends_at, script_ends_at, script_is_name, raw_whole, script_whole, inside, whole_sound, whole_takes, references_sound, references_take}

-- ---- `</>` at the start

pub record EmptyTags (s : List ℕ) (k : Remainder) : Type 0 where
  pub written : List ℕ
  pub is : s ≡ written ++ k.rest
  pub count : k.count ≡ length written
  pub low : all_pass is_ascii written ≡ true

pub empty_tags : (s : List ℕ) → EmptyTags s (after_empty_tags s)
unfolding is_ascii
empty_tags [] = record { written = []; is = refl; count = refl; low = refl }
empty_tags (a ∷ []) = record { written = []; is = refl; count = refl; low = refl }
empty_tags (a ∷ b ∷ []) = record { written = []; is = refl; count = refl; low = refl }
empty_tags (a ∷ b ∷ c ∷ s) = by_test (a == 60 && (b == 47 && c == 62)) refl (empty_tags s)
  where
    by_test : (x : Bool) → (a == 60 && (b == 47 && c == 62)) ≡ x → EmptyTags s (after_empty_tags s) → EmptyTags (a ∷ b ∷ c ∷ s) (cond x (three_more (after_empty_tags s)) (nothing_skipped (a ∷ b ∷ c ∷ s)))
    by_test false e k = record { written = []; is = refl; count = refl; low = refl }
    by_test true e k =
        let one = and_parts (a == 60) (b == 47 && c == 62) e in
        let two = and_parts (b == 47) (c == 62) one.1 in
        let first : a ≡ 60 = eqb-true a 60 one.0 in
        let second : b ≡ 47 = eqb-true b 47 two.0 in
        let third : c ≡ 62 = eqb-true c 62 two.1 in
        let count = k.count in
        record {
          written = a ∷ b ∷ c ∷ k.written;
          is = ap (λ x. a ∷ b ∷ c ∷ x) k.is;
          count = omega arith;
          low = rw (first, second, third) k.low;
        }

-- ---- ordinary text and text in SVG

markup_sound : (t : List Entry) (mode : Mode) (foreign : Bool) (s : List ℕ) (token : Seen) (rest : List ℕ) → SoundNames t → reads_markup mode ≡ true → ((n : List ℕ) → EndsElement mode n)
    → (foreign ≡ true → mode ≡ in_svg) → begins_markup s ≡ true → IsPlain s → read_markup t foreign s ≡ taken token rest → SoundToken mode token × IsPlain rest
markup_sound t mode foreign s token rest names reads free svg begins plain h = by_tests (begins_tag s) refl (begins_doctype s) refl foreign refl (begins_cdata s) refl h
  where
    by_tests : (a : Bool) → begins_tag s ≡ a → (b : Bool) → begins_doctype s ≡ b → (f : Bool) → foreign ≡ f → (c : Bool) → begins_cdata s ≡ c
        → cond a (read_tag t s) (cond b (read_doctype s) (cond (f && c) (read_cdata s) (read_comment s))) ≡ taken token rest → SoundToken mode token × IsPlain rest
    by_tests true e b f x g c i h = tag_sound t mode s token rest names reads free e plain h
    by_tests false e true f x g c i h = doctype_sound mode s token rest reads f plain h
    by_tests false e false f true g true i h = subst (λ m. SoundToken m token × IsPlain rest) (sym (svg g)) (cdata_sound s token rest i plain h)
    by_tests false e false f true g false i h = comment_sound mode s token rest reads begins plain h
    by_tests false e false f false g c i h = comment_sound mode s token rest reads begins plain h

here_sound : (t : List Entry) (mode : Mode) (foreign : Bool) (s : List ℕ) (token : Seen) (rest : List ℕ) → SoundNames t → reads_markup mode ≡ true → reads_references mode ≡ true → ((n : List ℕ) → EndsElement mode n)
    → ((x : List ℕ) → is_null x ≡ false → IsWhole mode x) → (foreign ≡ true → mode ≡ in_svg) → is_null s ≡ false → IsPlain s → read_here t foreign s ≡ taken token rest → SoundToken mode token × IsPlain rest
here_sound t mode foreign s token rest names reads refers free whole svg some plain h = by_test (begins_markup s) refl h
  where
    by_test : (b : Bool) → begins_markup s ≡ b → cond b (read_markup t foreign s) (read_text t false s) ≡ taken token rest → SoundToken mode token × IsPlain rest
    by_test true e h = markup_sound t mode foreign s token rest names reads free svg e plain h
    by_test false e h = piece_sound t mode false s token rest refers whole plain (piece t false s token rest names some (rw e refl) h)

markup_takes : (t : List Entry) (foreign : Bool) (s : List ℕ) (token : Seen) (rest : List ℕ) → SoundNames t → begins_markup s ≡ true → read_markup t foreign s ≡ taken token rest → TakesBytes s 0 token rest
markup_takes t foreign s token rest names begins h = by_tests (begins_tag s) refl (begins_doctype s) refl foreign (begins_cdata s) refl h
  where
    by_tests : (a : Bool) → begins_tag s ≡ a → (b : Bool) → begins_doctype s ≡ b → (f c : Bool) → begins_cdata s ≡ c
        → cond a (read_tag t s) (cond b (read_doctype s) (cond (f && c) (read_cdata s) (read_comment s))) ≡ taken token rest → TakesBytes s 0 token rest
    by_tests true e b f x c i h = tag_takes t s token rest names e h
    by_tests false e true f x c i h = doctype_takes s token rest f h
    by_tests false e false f true true i h = cdata_takes s token rest i h
    by_tests false e false f true false i h = comment_takes s token rest begins h
    by_tests false e false f false c i h = comment_takes s token rest begins h

here_takes : (t : List Entry) (foreign : Bool) (s : List ℕ) (token : Seen) (rest : List ℕ) → SoundNames t → is_null s ≡ false → read_here t foreign s ≡ taken token rest → TakesBytes s 0 token rest
here_takes t foreign s token rest names some h = by_test (begins_markup s) refl h
  where
    by_test : (b : Bool) → begins_markup s ≡ b → cond b (read_markup t foreign s) (read_text t false s) ≡ taken token rest → TakesBytes s 0 token rest
    by_test true e h = markup_takes t foreign s token rest names e h
    by_test false e h = piece_takes t false s token rest (piece t false s token rest names some (rw e refl) h)

-- what is read after empty tags
record HereRead (t : List Entry) (foreign : Bool) (k : Remainder) (n : ℕ) (token : Seen) (rest : List ℕ) : Type 0 where
  some : is_null k.rest ≡ false
  count : k.count ≡ n
  read : read_here t foreign k.rest ≡ taken token rest

here_read : (t : List Entry) (foreign : Bool) (k : Remainder) (n : ℕ) (token : Seen) (rest : List ℕ) → next_here t foreign k ≡ after_bytes n (taken token rest) → HereRead t foreign k n token rest
here_read t foreign k n token rest h = by_test (is_null k.rest) refl h
  where
    by_test : (b : Bool) → is_null k.rest ≡ b → cond b next.at_end (after_bytes k.count (read_here t foreign k.rest)) ≡ after_bytes n (taken token rest) → HereRead t foreign k n token rest
    by_test true e h = absurd (cc)
    by_test false e h = record { some = e; count = cc; read = cc }

next_sound : (t : List Entry) (mode : Mode) (foreign : Bool) (s : List ℕ) (n : ℕ) (token : Seen) (rest : List ℕ) → SoundNames t → reads_markup mode ≡ true → reads_references mode ≡ true → ((n : List ℕ) → EndsElement mode n)
    → ((x : List ℕ) → is_null x ≡ false → IsWhole mode x) → (foreign ≡ true → mode ≡ in_svg) → IsPlain s → next_here t foreign (after_empty_tags s) ≡ after_bytes n (taken token rest) → SoundToken mode token × IsPlain rest
next_sound t mode foreign s n token rest names reads refers free whole svg plain h =
    let k = empty_tags s in
    let r = here_read t foreign (after_empty_tags s) n token rest h in
    let after = plain_after_all is_ascii k.written (after_empty_tags s).rest ascii_low k.low (subst IsPlain k.is plain) in
    here_sound t mode foreign (after_empty_tags s).rest token rest names reads refers free whole svg r.some after r.read

next_takes : (t : List Entry) (foreign : Bool) (s : List ℕ) (n : ℕ) (token : Seen) (rest : List ℕ) → SoundNames t → next_here t foreign (after_empty_tags s) ≡ after_bytes n (taken token rest) → TakesBytes s n token rest
next_takes t foreign s n token rest names h =
    let k = empty_tags s in
    let b = after_empty_tags s in
    let r = here_read t foreign b n token rest h in
    let all : length s ≡ length k.written + length b.rest = ap length k.is ∙ length-append k.written b.rest in
    let takes = here_takes t foreign b.rest token rest names r.some r.read in
    let whole = takes.whole in
    let least = takes.least in
    let count = k.count in
    let same = r.count in
    record { count = takes.count; whole = omega arith; size = takes.size; least = omega arith }

-- ---- texts of elements

record InsideRead (s : List ℕ) (read : Scanned) (n : ℕ) (token : Seen) (rest : List ℕ) : Type 0 where
  count : 0 ≡ n
  is : read ≡ taken token rest

inside_read : (s : List ℕ) (read : Scanned) (n : ℕ) (token : Seen) (rest : List ℕ) → unless_end s read ≡ after_bytes n (taken token rest) → InsideRead s read n token rest
inside_read [] read n token rest h = absurd (cc)
inside_read (c ∷ s) read n token rest h = record { count = cc; is = cc }

takes_at : (s : List ℕ) (n : ℕ) (token : Seen) (rest : List ℕ) → 0 ≡ n → TakesBytes s 0 token rest → TakesBytes s n token rest
takes_at s n token rest e k = subst (λ m. TakesBytes s m token rest) e k

-- ---- the laws

pub tokens_are_sound : TokensAreSound
unfolding first
tokens_are_sound t ordinary s n token rest names m plain h = next_sound t ordinary false s n token rest names refl refl (λ x. tt) (λ x some. some) (λ e. cc) plain h
tokens_are_sound t in_svg s n token rest names m plain h = next_sound t in_svg true s n token rest names refl refl (λ x. tt) (λ x some. tt) (λ e. refl) plain h
tokens_are_sound t (rcdata name) s n token rest names m plain h =
    let r = inside_read s (read_inside t s (raw_end name s) (read_references t)) n token rest h in
    references_sound t name s (raw_end name s) token rest names plain (inside t name s (raw_end name s) (read_references t) token rest m (λ k e. raw_ends_at name s k e) r.is)
tokens_are_sound t (raw name) s n token rest names m plain h =
    let r = inside_read s (read_inside t s (raw_end name s) read_nothing) n token rest h in
    whole_sound t (raw name) name s (raw_end name s) token rest refl (λ k e some. (some, raw_whole name s (suc k) m e)) plain
    (inside t name s (raw_end name s) read_nothing token rest m (λ k e. raw_ends_at name s k e) r.is)
tokens_are_sound t script s n token rest names m plain h =
    let r = inside_read s (read_inside t s (script_end s) read_nothing) n token rest h in
    whole_sound t script (codes "script") s (script_end s) token rest refl (λ k e some. (some, script_whole s (suc k) e)) plain
    (inside t (codes "script") s (script_end s) read_nothing token rest script_is_name (λ k e. script_ends_at s k e) r.is)

pub tokens_are_small : TokensAreSmall
unfolding first
tokens_are_small t ordinary s n token rest names m h = next_takes t false s n token rest names h
tokens_are_small t in_svg s n token rest names m h = next_takes t true s n token rest names h
tokens_are_small t (rcdata name) s n token rest names m h =
    let r = inside_read s (read_inside t s (raw_end name s) (read_references t)) n token rest h in
    takes_at s n token rest r.count (references_take t name s (raw_end name s) token rest names (inside t name s (raw_end name s) (read_references t) token rest m (λ k e. raw_ends_at name s k e) r.is))
tokens_are_small t (raw name) s n token rest names m h =
    let r = inside_read s (read_inside t s (raw_end name s) read_nothing) n token rest h in
    takes_at s n token rest r.count (whole_takes t name s (raw_end name s) token rest (inside t name s (raw_end name s) read_nothing token rest m (λ k e. raw_ends_at name s k e) r.is))
tokens_are_small t script s n token rest names m h =
    let r = inside_read s (read_inside t s (script_end s) read_nothing) n token rest h in
    takes_at s n token rest r.count (whole_takes t (codes "script") s (script_end s) token rest (inside t (codes "script") s (script_end s) read_nothing token rest script_is_name (λ k e. script_ends_at s k e) r.is))
