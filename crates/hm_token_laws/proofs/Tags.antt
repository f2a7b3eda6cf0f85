-- Tags that are read.
use Rattle.std.proofs.Common.{◌≡◌, ℕ, ◌+◌, ◌≤◌, Bool, true, false, cond, not, ◌||◌, ◌==◌, nat_lt, List, [], ◌∷◌, ◌++◌, map, length, Option, Some, None, refl, ap, sym, subst, ◌∙◌, arith, length-append}
use Rattle.std.proofs.lemmas.Bool.{eqb-true}
use Rattle.std.proofs.lemmas.List.{length-map}
use Rattle.hm_base.specs.Bytes.{front, rest_after, strip_word, head_is, lower}
use Rattle.hm_base.specs.Forms.{is_tag_name}
use Rattle.hm_base.specs.RawText.{is_name_end, is_found_whole, begins_end_tag}
use Rattle.hm_base.specs.Walks.{attributes_size}
use Rattle.hm_scan.proofs.Lowered.{eqb_lower}
use Rattle.hm_refs.specs.Names.{Entry}
use Rattle.hm_tree.specs.Tokens.{Seen, start_tag, end_tag, Scanned, taken}
use Rattle.hm_tree.specs.declared.tokens.ScanFault.{ScanFault}
use Rattle.hm_tree.specs.declared.tokens.ScanFault.TheVariants as faults
use Rattle.hm_scan.specs.Tags.{is_name_byte, CutTag, cut_tag}
use Rattle.hm_scan.specs.Reading.{attribute_limit, has_bad_name, tag_fault, read_attributes, unless_fault, start_of, end_of, tag_name, read_start, read_end, read_by, read_tag, followed_by_letter, begins_tag}
use Rattle.hm_scan.proofs.Cases.{tag_name_written}
use Rattle.hm_scan.proofs.Fronts.{front_all}
use Rattle.hm_token_laws.specs.First.{Mode}
use Rattle.hm_token_laws.specs.Laws.{IsPlain, SoundNames, reads_markup, EndsElement, IsStart, IsEndTagOf, SoundToken, TakesBytes}
use Rattle.hm_token_laws.proofs.Plain.{plain_after, plain_parts}
use Rattle.hm_token_laws.proofs.TagParts.{name_end_low, fits_front, cut_tag_fits, cut_tag_plain}
use Rattle.hm_token_laws.proofs.Attributes.{attributes_allowed, attributes_small}

-- ---- why a tag isn't refused

-- the tag whose name stands at the start of r
pub record Accepted (r : List ℕ) (g : CutTag) : Type 0 where
  pub cut : cut_tag (rest_after is_name_byte r) ≡ Some g
  pub named : is_tag_name (tag_name r) ≡ true
  pub good : has_bad_name g.attributes ≡ false
  pub few : length g.attributes ≤ attribute_limit

accepted : (r : List ℕ) (g : CutTag) → cut_tag (rest_after is_name_byte r) ≡ Some g → tag_fault (tag_name r) g.attributes ≡ None → Accepted r g
unfolding tag_fault
accepted r g cut h = by_tests (is_tag_name (tag_name r)) refl (has_bad_name g.attributes) refl (nat_lt attribute_limit (length g.attributes)) refl h
  where
    by_tests : (a : Bool) → is_tag_name (tag_name r) ≡ a → (b : Bool) → has_bad_name g.attributes ≡ b → (c : Bool) → nat_lt attribute_limit (length g.attributes) ≡ c
        → cond (not a || b) (Some faults.BadName) (cond c (Some faults.TooManyAttributes) None) ≡ None → Accepted r g
    by_tests false e b f c i h = absurd (cc)
    by_tests true e true f c i h = absurd (cc)
    by_tests true e false f true i h = absurd (cc)
    by_tests true e false f false i h = record { cut = cut; named = e; good = f; few = few i }
      where
        few : nat_lt 256 (length g.attributes) ≡ false → length g.attributes ≤ 256
        few i = grind arith

pub record StartRead (t : List Entry) (r : List ℕ) (token : Seen) (rest : List ℕ) : Type 0 where
  pub tag : CutTag
  pub accepts : Accepted r tag
  pub token_is : start_tag (tag_name r) (read_attributes t tag.attributes) tag.slash ≡ token
  pub rest_is : tag.rest ≡ rest

pub record EndRead (r : List ℕ) (token : Seen) (rest : List ℕ) : Type 0 where
  pub tag : CutTag
  pub accepts : Accepted r tag
  pub token_is : end_tag (tag_name r) ≡ token
  pub rest_is : tag.rest ≡ rest

-- what is taken is what was there, and there is no fault
record NoFault (f : Option ScanFault) (there token : Seen) (left rest : List ℕ) : Type 0 where
  none : f ≡ None
  token_is : there ≡ token
  rest_is : left ≡ rest

no_fault : (f : Option ScanFault) (there token : Seen) (left rest : List ℕ) → unless_fault f there left ≡ taken token rest → NoFault f there token left rest
no_fault None there token left rest h = record { none = refl; token_is = cc; rest_is = cc }
no_fault (Some fault) there token left rest h = absurd (cc)

start_read : (t : List Entry) (r : List ℕ) (token : Seen) (rest : List ℕ) → read_start t r ≡ taken token rest → StartRead t r token rest
unfolding read_start
start_read t r token rest h = by_cut (cut_tag (rest_after is_name_byte r)) refl h
  where
    by_cut : (o : Option CutTag) → cut_tag (rest_after is_name_byte r) ≡ o → start_of t (tag_name r) o ≡ taken token rest → StartRead t r token rest
    by_cut None e h = absurd (cc)
    by_cut (Some g) e h =
        let n = no_fault (tag_fault (tag_name r) g.attributes) (start_tag (tag_name r) (read_attributes t g.attributes) g.slash) token g.rest rest h in
        record { tag = g; accepts = accepted r g e n.none; token_is = n.token_is; rest_is = n.rest_is }

end_read : (r : List ℕ) (token : Seen) (rest : List ℕ) → read_end r ≡ taken token rest → EndRead r token rest
unfolding read_end
end_read r token rest h = by_cut (cut_tag (rest_after is_name_byte r)) refl h
  where
    by_cut : (o : Option CutTag) → cut_tag (rest_after is_name_byte r) ≡ o → end_of (tag_name r) o ≡ taken token rest → EndRead r token rest
    by_cut None e h = absurd (cc)
    by_cut (Some g) e h =
        let n = no_fault (tag_fault (tag_name r) g.attributes) (end_tag (tag_name r)) token g.rest rest h in
        record { tag = g; accepts = accepted r g e n.none; token_is = n.token_is; rest_is = n.rest_is }

-- ---- what they are

pub start_sound : (t : List Entry) (mode : Mode) (r : List ℕ) (token : Seen) (rest : List ℕ) → SoundNames t → reads_markup mode ≡ true → IsPlain r → StartRead t r token rest → SoundToken mode token × IsPlain rest
start_sound t mode r token rest names reads plain k =
    let parts = plain_parts is_name_byte r name_end_low plain in
    let cut = cut_tag_plain (rest_after is_name_byte r) k.tag parts.after_plain k.accepts.cut in
    let start : IsStart mode (tag_name r) (read_attributes t k.tag.attributes) = record {
      mode_reads = reads;
      name_allowed = k.accepts.named;
      attributes_allowed = attributes_allowed t k.tag.attributes names cut.0 k.accepts.good k.accepts.few;
    } in
    (subst (SoundToken mode) k.token_is start, subst IsPlain k.rest_is cut.1)

pub end_sound : (mode : Mode) (r : List ℕ) (token : Seen) (rest : List ℕ) → EndsElement mode (tag_name r) → IsPlain r → EndRead r token rest → SoundToken mode token × IsPlain rest
end_sound mode r token rest own plain k =
    let parts = plain_parts is_name_byte r name_end_low plain in
    let cut = cut_tag_plain (rest_after is_name_byte r) k.tag parts.after_plain k.accepts.cut in
    let end : IsEndTagOf mode (tag_name r) = record { name_allowed = k.accepts.named; ends = own } in
    (subst (SoundToken mode) k.token_is end, subst IsPlain k.rest_is cut.1)

-- ---- their sizes

name_not_empty : (n : List ℕ) → is_tag_name n ≡ true → 1 ≤ length n
unfolding is_tag_name
name_not_empty [] h = absurd (cc)
name_not_empty (c ∷ n) h = omega arith

-- the bytes of a tag after its '<' or `</`
record TagBytes (r : List ℕ) (g : CutTag) : Type 0 where
  count : ℕ
  whole : length r ≡ count + length g.rest
  room : length (tag_name r) + attributes_size g.attributes + 1 ≤ count
  name_long : 1 ≤ length (tag_name r)

tag_bytes : (r : List ℕ) (g : CutTag) → Accepted r g → TagBytes r g
tag_bytes r g a =
    let f = cut_tag_fits (rest_after is_name_byte r) g a.cut in
    let front_long : length (tag_name r) ≡ length (front is_name_byte r) = length-map (front is_name_byte r) lower in
    let k = fits_front is_name_byte r in
    let one : length r ≡ length k.before + length (rest_after is_name_byte r) = ap length k.is ∙ length-append k.before (rest_after is_name_byte r) in
    let two : length (rest_after is_name_byte r) ≡ length f.before + length g.rest = ap length f.is ∙ length-append f.before g.rest in
    let room = f.room in
    let room_front = k.room in
    record { count = length k.before + length f.before; whole = omega arith; room = omega arith; name_long = name_not_empty (tag_name r) a.named }

pub start_takes : (t : List Entry) (r : List ℕ) (token : Seen) (rest : List ℕ) → SoundNames t → StartRead t r token rest → TakesBytes (60 ∷ r) 0 token rest
start_takes t r token rest names k =
    let b = tag_bytes r k.tag k.accepts in
    let whole = b.whole in
    let room = b.room in
    let long = b.name_long in
    let small = attributes_small t k.tag.attributes names in
    subst (λ x. TakesBytes (60 ∷ r) 0 x rest) k.token_is (subst (λ x. TakesBytes (60 ∷ r) 0 (start_tag (tag_name r) (read_attributes t k.tag.attributes) k.tag.slash) x) k.rest_is
    (record { count = 1 + b.count; whole = omega arith; size = omega arith; least = omega arith }))

pub end_takes : (r : List ℕ) (token : Seen) (rest : List ℕ) → EndRead r token rest → TakesBytes (60 ∷ 47 ∷ r) 0 token rest
end_takes r token rest k =
    let b = tag_bytes r k.tag k.accepts in
    let whole = b.whole in
    let room = b.room in
    let long = b.name_long in
    subst (λ x. TakesBytes (60 ∷ 47 ∷ r) 0 x rest) k.token_is (subst (λ x. TakesBytes (60 ∷ 47 ∷ r) 0 (end_tag (tag_name r)) x) k.rest_is
    (record { count = 2 + b.count; whole = omega arith; size = omega arith; least = omega arith }))

-- ---- where a tag begins

pub data Beginning (t : List Entry) (s : List ℕ) (read : Scanned) : Type 0 where
  starts : (r : List ℕ) → s ≡ 60 ∷ r → read ≡ read_start t r → Beginning t s read
  ends : (r : List ℕ) → s ≡ 60 ∷ 47 ∷ r → read ≡ read_end r → Beginning t s read

pub beginning : (t : List Entry) (s : List ℕ) → begins_tag s ≡ true → Beginning t s (read_tag t s)
unfolding begins_tag read_tag
beginning t [] h = absurd (cc)
beginning t (c ∷ []) h = by_test (60 == c) h
  where
    by_test : (b : Bool) → followed_by_letter (cond b (Some []) None) || followed_by_letter (cond b None None) ≡ true → Beginning t (c ∷ []) (read_tag t (c ∷ []))
    by_test true h = absurd (cc)
    by_test false h = absurd (cc)
beginning t (c ∷ d ∷ r) h = by_tests (60 == c) refl (47 == d) refl h
  where
    by_tests : (a : Bool) → (60 == c) ≡ a → (b : Bool) → (47 == d) ≡ b → followed_by_letter (cond a (Some (d ∷ r)) None) || followed_by_letter (cond a (cond b (Some r) None) None) ≡ true
        → Beginning t (c ∷ d ∷ r) (read_by t (cond a (cond b (Some r) None) None) (d ∷ r))
    by_tests false e b f h = absurd (cc)
    by_tests true e true f h =
        let one : 60 ≡ c = eqb-true 60 c e in
        let two : 47 ≡ d = eqb-true 47 d f in
        ends r (rw (one, two) refl) refl
    by_tests true e false f h = let one : 60 ≡ c = eqb-true 60 c e in starts (d ∷ r) (rw one refl) refl

pub tag_sound : (t : List Entry) (mode : Mode) (s : List ℕ) (token : Seen) (rest : List ℕ) → SoundNames t → reads_markup mode ≡ true → ((n : List ℕ) → EndsElement mode n) → begins_tag s ≡ true → IsPlain s
    → read_tag t s ≡ taken token rest → SoundToken mode token × IsPlain rest
tag_sound t mode s token rest names reads free begins plain h = by_beginning (read_tag t s) (beginning t s begins) h
  where
    by_beginning : (x : Scanned) → Beginning t s x → x ≡ taken token rest → SoundToken mode token × IsPlain rest
    by_beginning x (starts r e is) h = start_sound t mode r token rest names reads (plain_after r 60 (omega arith) (subst IsPlain e plain)) (start_read t r token rest (sym is ∙ h))
    by_beginning x (ends r e is) h =
        end_sound mode r token rest (free (tag_name r)) (plain_after r 47 (omega arith) (plain_after (47 ∷ r) 60 (omega arith) (subst IsPlain e plain))) (end_read r token rest (sym is ∙ h))

pub tag_takes : (t : List Entry) (s : List ℕ) (token : Seen) (rest : List ℕ) → SoundNames t → begins_tag s ≡ true → read_tag t s ≡ taken token rest → TakesBytes s 0 token rest
tag_takes t s token rest names begins h = by_beginning (read_tag t s) (beginning t s begins) h
  where
    by_beginning : (x : Scanned) → Beginning t s x → x ≡ taken token rest → TakesBytes s 0 token rest
    by_beginning x (starts r e is) h = subst (λ y. TakesBytes y 0 token rest) (sym e) (start_takes t r token rest names (start_read t r token rest (sym is ∙ h)))
    by_beginning x (ends r e is) h = subst (λ y. TakesBytes y 0 token rest) (sym e) (end_takes r token rest (end_read r token rest (sym is ∙ h)))

-- ---- the end tag of an element with text

pub record WordCut (w s rest : List ℕ) : Type 0 where
  pub written : List ℕ
  pub is : s ≡ written ++ rest
  pub lowered : map lower written ≡ w

pub word_cut : (w s rest : List ℕ) → strip_word w s ≡ Some rest → WordCut w s rest
word_cut [] s rest h = let same : s ≡ rest = cc in record { written = []; is = same; lowered = refl }
word_cut (c ∷ w) [] rest h = absurd (cc)
word_cut (c ∷ w) (d ∷ s) rest h = by_test (c == lower d) refl h (word_cut w s rest)
  where
    by_test : (b : Bool) → (c == lower d) ≡ b → cond b (strip_word w s) None ≡ Some rest → (strip_word w s ≡ Some rest → WordCut w s rest) → WordCut (c ∷ w) (d ∷ s) rest
    by_test false e h more = absurd (cc)
    by_test true e h more =
        let k = more h in
        let same : c ≡ lower d = eqb-true c (lower d) e in
        record { written = d ∷ k.written; is = ap (λ x. d ∷ x) k.is; lowered = rw same (ap (λ x. lower d ∷ x) k.lowered) }

-- an end tag with this name begins here
pub record EndTagHere (name s : List ℕ) : Type 0 where
  pub after_slash : List ℕ
  pub is : s ≡ 60 ∷ 47 ∷ after_slash
  pub name_is : tag_name after_slash ≡ name

name_ends : (rest : List ℕ) → head_is is_name_end rest ≡ true → head_is is_name_byte rest ≡ false
unfolding is_name_byte
name_ends [] h = absurd (cc)
name_ends (c ∷ rest) h = rw h refl

named_end : (name r : List ℕ) → is_tag_name name ≡ true → is_found_whole (strip_word name r) ≡ true → tag_name r ≡ name
named_end name r good h = by_strip (strip_word name r) refl h
  where
    by_strip : (o : Option (List ℕ)) → strip_word name r ≡ o → is_found_whole o ≡ true → tag_name r ≡ name
    by_strip None e h = absurd (cc)
    by_strip (Some rest) e h =
        let k = word_cut name r rest e in
        let w = tag_name_written k.written (rw k.lowered good) in
        rw (k.is, front_all is_name_byte k.written rest w.all (name_ends rest h)) k.lowered

pub end_tag_here : (name s : List ℕ) → is_tag_name name ≡ true → begins_end_tag name s ≡ true → EndTagHere name s
unfolding begins_end_tag
end_tag_here name [] good h = absurd (cc)
end_tag_here name (c ∷ []) good h = by_test (60 == lower c) h
  where
    by_test : (b : Bool) → is_found_whole (cond b None None) ≡ true → EndTagHere name (c ∷ [])
    by_test true h = absurd (cc)
    by_test false h = absurd (cc)
end_tag_here name (c ∷ d ∷ r) good h = by_tests (60 == lower c) (sym (eqb_lower 60 c (omega arith))) (47 == lower d) (sym (eqb_lower 47 d (omega arith))) h
  where
    by_tests : (a : Bool) → (60 == c) ≡ a → (b : Bool) → (47 == d) ≡ b → is_found_whole (cond a (cond b (strip_word name r) None) None) ≡ true → EndTagHere name (c ∷ d ∷ r)
    by_tests false e b f h = absurd (cc)
    by_tests true e false f h = absurd (cc)
    by_tests true e true f h =
        let one : 60 ≡ c = eqb-true 60 c e in
        let two : 47 ≡ d = eqb-true 47 d f in
        record { after_slash = r; is = rw (one, two) refl; name_is = named_end name r good h }

reads_end : (t : List Entry) (r : List ℕ) → read_tag t (60 ∷ 47 ∷ r) ≡ read_end r
unfolding read_tag
reads_end t r = refl

pub end_tag_sound : (t : List Entry) (mode : Mode) (name s : List ℕ) (token : Seen) (rest : List ℕ) → EndsElement mode name → EndTagHere name s → IsPlain s → read_tag t s ≡ taken token rest → SoundToken mode token × IsPlain rest
end_tag_sound t mode name s token rest own here plain h =
    let r = here.after_slash in
    let read : read_end r ≡ taken token rest = sym (reads_end t r) ∙ (rw here.is at h) in
    end_sound mode r token rest (subst (EndsElement mode) (sym here.name_is) own) (plain_after r 47 (omega arith) (plain_after (47 ∷ r) 60 (omega arith) (subst IsPlain here.is plain))) (end_read r token rest read)

pub end_tag_takes : (t : List Entry) (name s : List ℕ) (token : Seen) (rest : List ℕ) → EndTagHere name s → read_tag t s ≡ taken token rest → TakesBytes s 0 token rest
end_tag_takes t name s token rest here h =
    let r = here.after_slash in
    let read : read_end r ≡ taken token rest = sym (reads_end t r) ∙ (rw here.is at h) in
    subst (λ y. TakesBytes y 0 token rest) (sym here.is) (end_takes r token rest (end_read r token rest read))
