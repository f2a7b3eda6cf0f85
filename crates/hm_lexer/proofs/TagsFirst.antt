-- Where a tag begins, it is what is read.
use Rattle.std.proofs.Common.{◌≡◌, ◌≢◌, ℕ, ◌-◌, ◌<◌, Bool, true, false, cond, not, ◌&&◌, ◌||◌, ◌==◌, List, [], ◌∷◌, drop, length, Some, None, refl, ap, sym, subst, ◌∙◌, arith}
use Rattle.std.specs.Str.{IsCharBoundary}
use Rattle.std.proofs.lemmas.Bool.Decides.{Decides-eqb}
use Rattle.hm_base.specs.Bytes.{head_is, is_letter, is_null}
use Rattle.hm_base.specs.Source.{place_in}
use Rattle.hm_refs.specs.Names.{Entry}
use Rattle.hm_tree.specs.Tokens.{BeginsAt, Reads, refused}
use Rattle.hm_tree.specs.declared.tokens.Token.{Token}
use Rattle.hm_tree.specs.declared.tokens.ScanFault.{ScanFault}
use Rattle.hm_tree.specs.declared.tokens.ScanFault.TheVariants as faults
use Rattle.hm_scan.specs.Texts.{begins_markup}
use Rattle.hm_scan.specs.Reading.{begins_tag, followed_by_letter, read_tag}
use Rattle.hm_scan.proofs.TagStarts.{Begins, short_begins, tag_begins}
use Rattle.hm_token_laws.specs.First.{Mode, ordinary, in_svg, rcdata, raw, script, after_empty_tags, nothing_skipped}
use Rattle.hm_lexer.specs.Reading.{Reading, IsTaken, Refuses, text_of}
use Rattle.hm_lexer.specs.Steps.{IsAfterNothing, begins_empty_tag, has_markup, read_in, refusal_of}
use Rattle.hm_lexer.specs.Parts.{IsWhole}
use Rattle.hm_lexer.proofs.Nexts.{next_refused, next_taken}
use Rattle.hm_lexer.proofs.PartSteps.{whole_markup}

starts : (c d : ℕ) (s : List ℕ) → begins_tag (c ∷ d ∷ s) ≡ true → c ≡ 60
starts c d s h = let b : Begins (c ∷ d ∷ s) 0 = tag_begins (c ∷ d ∷ s) 0 h in b.first

-- ---- it is markup

some_left : (s : List ℕ) → head_is is_letter s ≡ true → not (is_null s) ≡ true
some_left [] h = absurd (cc)
some_left (c ∷ s) h = refl

opened : (d : ℕ) (s : List ℕ) → begins_tag (60 ∷ d ∷ s) ≡ true → begins_markup (60 ∷ d ∷ s) ≡ true
unfolding begins_tag begins_markup
opened d s h = by_tests (is_letter d) refl (47 == d) refl h
  where
    slash : is_letter 47 ≡ false
    slash = unfold is_letter in refl

    by_tests : (x : Bool) → is_letter d ≡ x → (y : Bool) → (47 == d) ≡ y → x || followed_by_letter (cond y (Some s) None) ≡ true → begins_markup (60 ∷ d ∷ s) ≡ true
    by_tests true e y f h = rw e refl
    by_tests false e true f h = let same : d ≡ 47 = sym ((Decides-eqb 47 d).0 f) in rw same (rw slash (some_left s h))
    by_tests false e false f h = absurd (cc)

tag_is_markup : (s : List ℕ) → begins_tag s ≡ true → begins_markup s ≡ true
tag_is_markup [] h = absurd (let none : begins_tag [] ≡ false = short_begins [] (omega arith) in cc)
tag_is_markup (c ∷ []) h = absurd (let none : begins_tag (c ∷ []) ≡ false = short_begins (c ∷ []) (omega arith) in cc)
tag_is_markup (c ∷ d ∷ s) h =
    let first : c ≡ 60 = starts c d s h in
    subst (λ x. begins_markup (x ∷ d ∷ s) ≡ true) (sym first) (opened d s (subst (λ x. begins_tag (x ∷ d ∷ s) ≡ true) first h))

-- ---- it isn't `</>`

tag_has_name : (d e : ℕ) (s : List ℕ) → begins_tag (60 ∷ d ∷ e ∷ s) ≡ true → d == 47 && e == 62 ≡ false
unfolding begins_tag is_letter
tag_has_name d e s h = by_tests (d == 47) refl (e == 62) refl
  where
    by_tests : (x : Bool) → (d == 47) ≡ x → (y : Bool) → (e == 62) ≡ y → x && y ≡ false
    by_tests true f true g =
        let slash : d ≡ 47 = (Decides-eqb d 47).0 f in
        let end : e ≡ 62 = (Decides-eqb e 62).0 g in
        absurd (let never : false ≡ true = subst (λ x. begins_tag (60 ∷ 47 ∷ x ∷ s) ≡ true) end (subst (λ x. begins_tag (60 ∷ x ∷ e ∷ s) ≡ true) slash h) in cc)
    by_tests true f false g = refl
    by_tests false f y g = refl

tag_not_empty : (s : List ℕ) → begins_tag s ≡ true → begins_empty_tag s ≡ false
tag_not_empty [] h = refl
tag_not_empty (c ∷ []) h = refl
tag_not_empty (c ∷ d ∷ []) h = refl
tag_not_empty (c ∷ d ∷ e ∷ s) h =
    let first : c ≡ 60 = starts c d (e ∷ s) h in
    subst (λ x. begins_empty_tag (x ∷ d ∷ e ∷ s) ≡ false) (sym first) (tag_has_name d e s (subst (λ x. begins_tag (x ∷ d ∷ e ∷ s) ≡ true) first h))

none_follows : (s : List ℕ) → begins_empty_tag s ≡ false → after_empty_tags s ≡ nothing_skipped s
none_follows [] h = refl
none_follows (a ∷ []) h = refl
none_follows (a ∷ b ∷ []) h = refl
none_follows (a ∷ b ∷ c ∷ s) h = rw h refl

-- ---- where start tags are read, nothing stands before a tag, and it is read as one

nothing_passed : (s : List ℕ) (at : ℕ) → begins_tag (drop at s) ≡ true → after_empty_tags (drop at s) ≡ record { count = at - at; rest = drop at s }
nothing_passed s at h =
    let none : 0 ≡ at - at = omega arith in
    none_follows (drop at s) (tag_not_empty (drop at s) h) ∙ ap (λ n. record { count = n; rest = drop at s }) none

tag_after : (mode : Mode) (s : List ℕ) (at : ℕ) → has_markup mode ≡ true → IsCharBoundary s at → begins_tag (drop at s) ≡ true → IsAfterNothing mode s at at
tag_after ordinary s at m b h = record { is = nothing_passed s at h; forward = omega arith; boundary = b; real = tag_not_empty (drop at s) h }
tag_after in_svg s at m b h = record { is = nothing_passed s at h; forward = omega arith; boundary = b; real = tag_not_empty (drop at s) h }
tag_after (rcdata name) s at m b h = absurd (cc)
tag_after (raw name) s at m b h = absurd (cc)
tag_after script s at m b h = absurd (cc)

some_bytes : (s : List ℕ) → begins_tag s ≡ true → 0 < length s
some_bytes [] h = absurd (let none : begins_tag [] ≡ false = short_begins [] (omega arith) in cc)
some_bytes (c ∷ s) h = omega arith

-- and it is read whole
pub whole_tag : (t : List Entry) (mode : Mode) (s : List ℕ) (at : ℕ) → has_markup mode ≡ true → IsCharBoundary s at → begins_tag (drop at s) ≡ true → IsWhole t mode (drop at s)
whole_tag t mode s at m b h = whole_markup t mode (drop at s) (drop at s) (at - at) m (tag_after mode s at m b h).is (some_bytes (drop at s) h) (tag_is_markup (drop at s) h)

tag_is_read : (t : List Entry) (mode : Mode) (s : List ℕ) → has_markup mode ≡ true → begins_tag s ≡ true → read_in t mode s ≡ read_tag t s
tag_is_read t ordinary s m h = rw (tag_is_markup s h, h) refl
tag_is_read t in_svg s m h = rw (tag_is_markup s h, h) refl
tag_is_read t (rcdata name) s m h = absurd (cc)
tag_is_read t (raw name) s m h = absurd (cc)
tag_is_read t script s m h = absurd (cc)

-- ---- the tag that begins where a lexer stands

-- it is the next token
pub tag_taken : (old : Reading) (mode : Mode) (token : Token) (to : ℕ) → has_markup mode ≡ true → IsCharBoundary (text_of old) old.at → begins_tag (drop old.at (text_of old)) ≡ true → old.at < to
    → Reads (read_tag old.names (drop old.at (text_of old))) (text_of old) token to → ((place : ℕ) → BeginsAt place token) → IsTaken old mode (record { token = token; from = old.at; to = to }) (record old { at = to })
tag_taken old mode token to markup boundary begins forward reads placed =
    let b : Begins (text_of old) old.at = tag_begins (text_of old) old.at begins in
    next_taken old mode token old.at to (tag_after mode (text_of old) old.at markup boundary begins) (omega (arith, b.inside)) forward
    (subst (λ x. Reads x (text_of old) token to) (sym (tag_is_read old.names mode (drop old.at (text_of old)) markup begins)) reads) (placed _)

-- its fault is that of the next token
pub tag_refused : (old : Reading) (mode : Mode) (fault : ScanFault) → has_markup mode ≡ true → IsCharBoundary (text_of old) old.at → begins_tag (drop old.at (text_of old)) ≡ true
    → (fault ≢ faults.OutOfMemory → read_tag old.names (drop old.at (text_of old)) ≡ refused fault) → Refuses old mode (refusal_of fault (place_in old.source.placed old.source.end old.at))
tag_refused old mode fault markup boundary begins refuses =
    let b : Begins (text_of old) old.at = tag_begins (text_of old) old.at begins in
    next_refused old mode fault old.at (tag_after mode (text_of old) old.at markup boundary begins) (omega (arith, b.inside))
    (λ never. tag_is_read old.names mode (drop old.at (text_of old)) markup begins ∙ refuses never)
