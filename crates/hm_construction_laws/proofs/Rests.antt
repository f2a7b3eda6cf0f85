-- What follows a token is the end of the text.
use Rattle.std.proofs.Common.{◌≡◌, ℕ, zero, suc, pred, ◌-◌, ◌+◌, ◌<◌, ◌≤◌, Bool, true, false, cond, ◌&&◌, ◌==◌, List, [], ◌∷◌, ◌++◌, length, take, drop, Option, Some, None, refl, sym, ◌∙◌, ap, subst, codes, append_assoc, arith, length-append}
use Rattle.std.specs.Option.{option_or}
use Rattle.std.proofs.lemmas.List.{take-append-drop}
use Rattle.hm_base.specs.Bytes.{Cut, rest_after, strip, head_is, is_space, is_null, cut_at, or_go_on}
use Rattle.hm_base.specs.RawText.{raw_end, script_end}
use Rattle.hm_base.specs.Walks.{Attribute}
use Rattle.hm_refs.specs.Names.{Entry}
use Rattle.hm_refs.specs.References.{Reference}
use Rattle.hm_tree.specs.Tokens.{Seen, start_tag, end_tag, Scanned, taken, refused}
use Rattle.hm_tree.specs.Tokens as tokens
use Rattle.hm_tree.specs.declared.tokens.ScanFault.{ScanFault}
use Rattle.hm_scan.specs.Tags.{CutTag, tag_from, cut_tag, is_name_byte, is_tag_end, attribute_at, with_attribute, with_slash, attribute_then, Written}
use Rattle.hm_scan.specs.Reading.{read_tag, read_by, read_start, read_end, start_of, end_of, tag_name, tag_fault, unless_fault, begins_tag, read_attributes}
use Rattle.hm_scan.specs.Texts.{read_text, plain_front, reference_in, begins_markup}
use Rattle.hm_scan.specs.Texts as texts
use Rattle.hm_scan.specs.Comments.{read_comment, comment_at, cut_comment, cut_where, after_end, at_once, begins, read_cdata, begins_cdata}
use Rattle.hm_scan.specs.Doctypes.{read_doctype, begins_doctype, as_doctype, by_form, doctype_form}
use Rattle.hm_scan.specs.Pieces.{as_comment, as_slice}
use Rattle.hm_token_laws.specs.First.{Mode, ordinary, in_svg, rcdata, raw, script, Next, at_end, after_bytes, read_markup, read_here, three_more, nothing_skipped, after_empty_tags, next_here, before_rest, read_inside, read_references, read_nothing, unless_end, first}
use Rattle.hm_token_laws.specs.Laws.{SoundNames, IsMode, least_size}
use Rattle.hm_token_laws.proofs.Firsts.{tokens_are_small}

-- rest is the end of s
abbrev pub Ends : List ℕ → List ℕ → Type 0
Ends s rest = (before : List ℕ) × (s ≡ before ++ rest)

ends_here : (s : List ℕ) → Ends s s
ends_here s = ([], refl)

ends_more : (c : ℕ) (s rest : List ℕ) → Ends s rest → Ends (c ∷ s) rest
ends_more c s rest e = (c ∷ e.0, ap (λ x. c ∷ x) e.1)

ends_on : (s r rest : List ℕ) → Ends s r → Ends r rest → Ends s rest
ends_on s r rest e f = (e.0 ++ f.0, e.1 ∙ ap (λ x. e.0 ++ x) f.1 ∙ sym (append_assoc e.0 f.0 rest))

ends_drop : (n : ℕ) (s : List ℕ) → Ends s (drop n s)
ends_drop n s = (take n s, sym (take-append-drop n s))

ends_after : (p : ℕ → Bool) (s : List ℕ) → Ends s (rest_after p s)
ends_after p [] = ends_here []
ends_after p (c ∷ s) = by (p c) (ends_after p s)
  where
    by : (b : Bool) → Ends s (rest_after p s) → Ends (c ∷ s) (cond b (rest_after p s) (c ∷ s))
    by true e = ends_more c s (rest_after p s) e
    by false e = ends_here (c ∷ s)

-- a rest that was found is the end of s
abbrev EndsFound : List ℕ → Option (List ℕ) → Type 0
EndsFound s None = Unit {0}
EndsFound s (Some rest) = Ends s rest

ends_strip : (p s : List ℕ) → EndsFound s (strip p s)
ends_strip [] s = ends_here s
ends_strip (c ∷ p) [] = tt
ends_strip (c ∷ p) (d ∷ s) = by (c == d) (strip p s) (ends_strip p s)
  where
    by : (b : Bool) (o : Option (List ℕ)) → EndsFound s o → EndsFound (d ∷ s) (cond b o None)
    by true None e = tt
    by true (Some rest) e = ends_more d s rest e
    by false o e = tt

ends_either : (s : List ℕ) (a b : Option (List ℕ)) → EndsFound s a → EndsFound s b → EndsFound s (option_or a b)
ends_either s None b e f = f
ends_either s (Some x) b e f = e

abbrev EndsCut : List ℕ → Option Cut → Type 0
EndsCut s None = Unit {0}
EndsCut s (Some k) = Ends s k.after

cut_goes_on : (c : ℕ) (s : List ℕ) (o : Option (List ℕ)) (k : Option Cut) → EndsFound (c ∷ s) o → EndsCut s k → EndsCut (c ∷ s) (or_go_on o c k)
cut_goes_on c s (Some rest) k e f = e
cut_goes_on c s None None e f = tt
cut_goes_on c s None (Some k) e f = ends_more c s k.after f

ends_cut : (mark s : List ℕ) → EndsCut s (cut_at mark s)
ends_cut mark [] = tt
ends_cut mark (c ∷ s) = cut_goes_on c s (strip mark (c ∷ s)) (cut_at mark s) (ends_strip mark (c ∷ s)) (ends_cut mark s)

ends_cut_where : (find : List ℕ → Option (List ℕ)) → ((s : List ℕ) → EndsFound s (find s)) → (s : List ℕ) → EndsCut s (cut_where find s)
ends_cut_where find all [] = tt
ends_cut_where find all (c ∷ s) = cut_goes_on c s (find (c ∷ s)) (cut_where find s) (all (c ∷ s)) (ends_cut_where find all s)

cut_on : (s r : List ℕ) (o : Option Cut) → Ends s r → EndsCut r o → EndsCut s o
cut_on s r None e f = tt
cut_on s r (Some k) e f = ends_on s r k.after e f

abbrev EndsTag : List ℕ → Option CutTag → Type 0
EndsTag s None = Unit {0}
EndsTag s (Some g) = Ends s g.rest

tag_more : (c : ℕ) (s : List ℕ) (o : Option CutTag) → EndsTag s o → EndsTag (c ∷ s) o
tag_more c s None e = tt
tag_more c s (Some g) e = ends_more c s g.rest e

slash_more : (b : Bool) (s : List ℕ) (o : Option CutTag) → EndsTag s o → EndsTag s (with_slash b o)
slash_more b s None e = tt
slash_more b s (Some g) e = e

attribute_more : (a : Attribute) (s : List ℕ) (o : Option CutTag) → EndsTag s o → EndsTag s (with_attribute a o)
attribute_more a s None e = tt
attribute_more a s (Some g) e = e

ends_tag : (skip : ℕ) (s : List ℕ) → EndsTag s (tag_from skip s)
ends_tag skip [] = tt
ends_tag (suc skip) (c ∷ s) = tag_more c s (tag_from skip s) (ends_tag skip s)
ends_tag zero (c ∷ s) = by (is_tag_end c) (c == 47) (is_space c) (tag_more c s (tag_from 0 s) (ends_tag 0 s)) (attribute_more w.attribute (c ∷ s) (tag_from k s) (tag_more c s (tag_from k s) (ends_tag k s)))
  where
    w : Written
    w = attribute_at c s

    k : ℕ
    k = length s - length (attribute_at c s).rest

    by : (a b d : Bool) → EndsTag (c ∷ s) (tag_from 0 s) → EndsTag (c ∷ s) (with_attribute (attribute_at c s).attribute (tag_from (length s - length (attribute_at c s).rest) s))
        → EndsTag (c ∷ s) (cond a (Some (record { attributes = []; slash = false; rest = s })) (cond b (with_slash (head_is is_tag_end s) (tag_from 0 s)) (cond d (tag_from 0 s) (attribute_then s (attribute_at c s) (λ j. tag_from j s)))))
    by true b d e f = ends_more c s s (ends_here s)
    by false true d e f = slash_more (head_is is_tag_end s) (c ∷ s) (tag_from 0 s) e
    by false false true e f = e
    by false false false e f = f

-- ---- What is read

abbrev pub EndsRead : List ℕ → Scanned → Type 0
EndsRead s (taken token rest) = Ends s rest
EndsRead s (refused fault) = Unit {0}

read_on : (s r : List ℕ) (x : Scanned) → Ends s r → EndsRead r x → EndsRead s x
read_on s r (taken token rest) e f = ends_on s r rest e f
read_on s r (refused fault) e f = tt

unless_ends : (s : List ℕ) (f : Option ScanFault) (token : Seen) (rest : List ℕ) → Ends s rest → EndsRead s (unless_fault f token rest)
unless_ends s None token rest e = e
unless_ends s (Some f) token rest e = tt

start_ends : (t : List Entry) (name s : List ℕ) (o : Option CutTag) → EndsTag s o → EndsRead s (start_of t name o)
start_ends t name s None e = tt
start_ends t name s (Some g) e = unless_ends s (tag_fault name g.attributes) (start_tag name (read_attributes t g.attributes) g.slash) g.rest e

end_ends : (name s : List ℕ) (o : Option CutTag) → EndsTag s o → EndsRead s (end_of name o)
end_ends name s None e = tt
end_ends name s (Some g) e = unless_ends s (tag_fault name g.attributes) (end_tag name) g.rest e

start_read_ends : (t : List Entry) (s : List ℕ) → EndsRead s (read_start t s)
unfolding read_start
start_read_ends t s = read_on s (rest_after is_name_byte s) (start_of t (tag_name s) (cut_tag (rest_after is_name_byte s))) (ends_after is_name_byte s) (start_ends t (tag_name s) (rest_after is_name_byte s) (cut_tag (rest_after is_name_byte s)) (ends_tag 0 (rest_after is_name_byte s)))

end_read_ends : (s : List ℕ) → EndsRead s (read_end s)
unfolding read_end
end_read_ends s = read_on s (rest_after is_name_byte s) (end_of (tag_name s) (cut_tag (rest_after is_name_byte s))) (ends_after is_name_byte s) (end_ends (tag_name s) (rest_after is_name_byte s) (cut_tag (rest_after is_name_byte s)) (ends_tag 0 (rest_after is_name_byte s)))

tag_ends : (t : List Entry) (s : List ℕ) → EndsRead s (read_tag t s)
unfolding read_tag
tag_ends t s = by (strip (codes "</") s) (ends_strip (codes "</") s)
  where
    by : (o : Option (List ℕ)) → EndsFound s o → EndsRead s (read_by t o (drop 1 s))
    by None e = read_on s (drop 1 s) (read_start t (drop 1 s)) (ends_drop 1 s) (start_read_ends t (drop 1 s))
    by (Some r) e = read_on s r (read_end r) e (end_read_ends r)

comment_cut_ends : (s : List ℕ) → EndsCut s (cut_comment s)
comment_cut_ends s = by (option_or (strip (codes ">") s) (strip (codes "->") s)) (ends_either s (strip (codes ">") s) (strip (codes "->") s) (ends_strip (codes ">") s) (ends_strip (codes "->") s))
  where
    by : (o : Option (List ℕ)) → EndsFound s o → EndsCut s (at_once o (cut_where after_end s))
    by None e = ends_cut_where after_end (λ r. ends_either r (strip (codes "-->") r) (strip (codes "--!>") r) (ends_strip (codes "-->") r) (ends_strip (codes "--!>") r)) s
    by (Some rest) e = e

comment_place_ends : (s : List ℕ) → EndsCut s (comment_at s)
comment_place_ends s = by (begins (codes "<?") s) (begins (codes "<!--") s)
  where
    by : (a b : Bool) → EndsCut s (cond a (cut_at (codes ">") (drop 1 s)) (cond b (cut_comment (drop 4 s)) (cut_at (codes ">") (drop 2 s))))
    by true b = cut_on s (drop 1 s) (cut_at (codes ">") (drop 1 s)) (ends_drop 1 s) (ends_cut (codes ">") (drop 1 s))
    by false true = cut_on s (drop 4 s) (cut_comment (drop 4 s)) (ends_drop 4 s) (comment_cut_ends (drop 4 s))
    by false false = cut_on s (drop 2 s) (cut_at (codes ">") (drop 2 s)) (ends_drop 2 s) (ends_cut (codes ">") (drop 2 s))

comment_ends : (s : List ℕ) → EndsRead s (read_comment s)
unfolding read_comment
comment_ends s = by (comment_at s) (comment_place_ends s)
  where
    by : (o : Option Cut) → EndsCut s o → EndsRead s (as_comment o)
    by None e = tt
    by (Some k) e = e

cdata_ends : (s : List ℕ) → EndsRead s (read_cdata s)
unfolding read_cdata
cdata_ends s = by (cut_at (codes "]]>") (drop 9 s)) (cut_on s (drop 9 s) (cut_at (codes "]]>") (drop 9 s)) (ends_drop 9 s) (ends_cut (codes "]]>") (drop 9 s)))
  where
    by : (o : Option Cut) → EndsCut s o → EndsRead s (as_slice o)
    by None e = tt
    by (Some k) e = e

form_ends : (s : List ℕ) (f : Option Bool) (rest : List ℕ) → Ends s rest → EndsRead s (by_form f rest)
form_ends s None rest e = tt
form_ends s (Some legacy) rest e = e

doctype_ends : (s : List ℕ) → EndsRead s (read_doctype s)
unfolding read_doctype
doctype_ends s = by (cut_at (codes ">") (drop 9 s)) (cut_on s (drop 9 s) (cut_at (codes ">") (drop 9 s)) (ends_drop 9 s) (ends_cut (codes ">") (drop 9 s)))
  where
    by : (o : Option Cut) → EndsCut s o → EndsRead s (as_doctype o)
    by None e = tt
    by (Some k) e = form_ends s (doctype_form k.before) k.after e

text_ends : (t : List Entry) (r : Bool) (s : List ℕ) → EndsRead s (read_text t r s)
unfolding read_text
text_ends t r [] = ends_drop (length (plain_front t r [])) []
text_ends t r (c ∷ s) = by (reference_in t c s)
  where
    by : (o : Option Reference) → EndsRead (c ∷ s) (texts.read_by o t r (c ∷ s))
    by None = ends_drop (length (plain_front t r (c ∷ s))) (c ∷ s)
    by (Some x) = ends_drop x.len (c ∷ s)

markup_ends : (t : List Entry) (foreign : Bool) (s : List ℕ) → EndsRead s (read_markup t foreign s)
markup_ends t foreign s = by (begins_tag s) (begins_doctype s) (foreign && begins_cdata s)
  where
    by : (a b d : Bool) → EndsRead s (cond a (read_tag t s) (cond b (read_doctype s) (cond d (read_cdata s) (read_comment s))))
    by true b d = tag_ends t s
    by false true d = doctype_ends s
    by false false true = cdata_ends s
    by false false false = comment_ends s

here_ends : (t : List Entry) (foreign : Bool) (s : List ℕ) → EndsRead s (read_here t foreign s)
here_ends t foreign s = by (begins_markup s)
  where
    by : (a : Bool) → EndsRead s (cond a (read_markup t foreign s) (read_text t false s))
    by true = markup_ends t foreign s
    by false = text_ends t false s

empty_tags_end : (s : List ℕ) → Ends s (after_empty_tags s).rest
empty_tags_end [] = ends_here []
empty_tags_end (a ∷ []) = ends_here (a ∷ [])
empty_tags_end (a ∷ b ∷ []) = ends_here (a ∷ b ∷ [])
empty_tags_end (a ∷ b ∷ c ∷ s) = by (a == 60 && (b == 47 && c == 62)) (empty_tags_end s)
  where
    by : (k : Bool) → Ends s (after_empty_tags s).rest → Ends (a ∷ b ∷ c ∷ s) (cond k (three_more (after_empty_tags s)) (nothing_skipped (a ∷ b ∷ c ∷ s))).rest
    by true e = ends_more a (b ∷ c ∷ s) _ (ends_more b (c ∷ s) _ (ends_more c s (after_empty_tags s).rest e))
    by false e = ends_here (a ∷ b ∷ c ∷ s)

abbrev pub EndsNext : List ℕ → Next → Type 0
EndsNext s at_end = Unit {0}
EndsNext s (after_bytes n x) = EndsRead s x

next_ends : (t : List Entry) (foreign : Bool) (s : List ℕ) → EndsNext s (next_here t foreign (after_empty_tags s))
next_ends t foreign s = by (is_null (after_empty_tags s).rest)
  where
    by : (k : Bool) → EndsNext s (cond k at_end (after_bytes (after_empty_tags s).count (read_here t foreign (after_empty_tags s).rest)))
    by true = tt
    by false = read_on s (after_empty_tags s).rest (read_here t foreign (after_empty_tags s).rest) (empty_tags_end s) (here_ends t foreign (after_empty_tags s).rest)

before_ends : (s rest : List ℕ) (x : Scanned) → EndsRead s x → EndsRead (s ++ rest) (before_rest x rest)
before_ends s rest (taken token r) e = (e.0, ap (λ y. y ++ rest) e.1 ∙ append_assoc e.0 r rest)
before_ends s rest (refused fault) e = tt

inside_ends : (t : List Entry) (s : List ℕ) (o : Option ℕ) (more : List ℕ → List ℕ → Scanned) → ((n : ℕ) → EndsRead s (more (take (suc n) s) (drop (suc n) s))) → EndsRead s (read_inside t s o more)
inside_ends t s None more all = tt
inside_ends t s (Some zero) more all = tag_ends t s
inside_ends t s (Some (suc n)) more all = all n

unless_end_ends : (s : List ℕ) (x : Scanned) → EndsRead s x → EndsNext s (unless_end s x)
unless_end_ends [] x e = tt
unless_end_ends (c ∷ s) x e = e

references_end : (t : List Entry) (s : List ℕ) (n : ℕ) → EndsRead s (read_references t (take (suc n) s) (drop (suc n) s))
references_end t s n =
    subst (λ z. EndsRead z (read_references t (take (suc n) s) (drop (suc n) s))) (take-append-drop (suc n) s)
    (before_ends (take (suc n) s) (drop (suc n) s) (read_text t true (take (suc n) s)) (text_ends t true (take (suc n) s)))

nothing_ends : (s : List ℕ) (n : ℕ) → EndsRead s (read_nothing (take (suc n) s) (drop (suc n) s))
nothing_ends s n = ends_drop (suc n) s

pub first_ends : (t : List Entry) (mode : Mode) (s : List ℕ) → EndsNext s (first t mode s)
unfolding first
first_ends t ordinary s = next_ends t false s
first_ends t in_svg s = next_ends t true s
first_ends t (rcdata name) s = unless_end_ends s (read_inside t s (raw_end name s) (read_references t)) (inside_ends t s (raw_end name s) (read_references t) (references_end t s))
first_ends t (raw name) s = unless_end_ends s (read_inside t s (raw_end name s) read_nothing) (inside_ends t s (raw_end name s) read_nothing (nothing_ends s))
first_ends t script s = unless_end_ends s (read_inside t s (script_end s) read_nothing) (inside_ends t s (script_end s) read_nothing (nothing_ends s))

-- a rest is reached by the bytes that are skipped
pub rest_reached : (s rest : List ℕ) → Ends s rest → drop (length s - length rest) s ≡ rest
rest_reached s rest e =
    let long : length s ≡ length e.0 + length rest = ap length e.1 ∙ length-append e.0 rest in
    let at : length s - length rest ≡ length e.0 = omega arith in
    rw at (ap (drop (length e.0)) e.1 ∙ dropped e.0 rest)
  where
    dropped : (xs ys : List ℕ) → drop (length xs) (xs ++ ys) ≡ ys
    dropped [] ys = refl
    dropped (x ∷ xs) ys = dropped xs ys

-- ---- Where a text is read on

-- a token takes some bytes
pub shorter : (t : List Entry) (mode : Mode) (s : List ℕ) (n : ℕ) (token : Seen) (rest : List ℕ) → SoundNames t → IsMode mode → first t mode s ≡ after_bytes n (taken token rest) → length rest < length s
shorter t mode s n token rest names m h =
    let k = tokens_are_small t mode s n token rest names m h in
    let some : 1 ≤ least_size token = least token in
    omega (arith, k.whole, k.least)
  where
    least : (x : Seen) → 1 ≤ least_size x
    least (tokens.doctype legacy) = omega arith
    least (tokens.start_tag name attributes slash) = omega arith
    least (tokens.end_tag name) = omega arith
    least (tokens.slice x) = omega arith
    least (tokens.points ps) = omega arith
    least (tokens.comment x) = omega arith

one_skipped : (c : ℕ) (s rest : List ℕ) (m : ℕ) → 1 ≤ m → drop m (c ∷ s) ≡ rest → drop (pred m) s ≡ rest
one_skipped c s rest zero some h = absurd (omega arith)
one_skipped c s rest (suc m) some h = h

-- the rest after a token is where the text is read on
pub rest_is : (t : List Entry) (mode : Mode) (c : ℕ) (s : List ℕ) (n : ℕ) (token : Seen) (rest : List ℕ) → SoundNames t → IsMode mode → first t mode (c ∷ s) ≡ after_bytes n (taken token rest) → drop (pred (length (c ∷ s) - length rest)) s ≡ rest
rest_is t mode c s n token rest names m h =
    let less = shorter t mode (c ∷ s) n token rest names m h in
    let e : EndsNext (c ∷ s) (after_bytes n (taken token rest)) = subst (EndsNext (c ∷ s)) h (first_ends t mode (c ∷ s)) in
    one_skipped c s rest (length (c ∷ s) - length rest) (omega arith) (rest_reached (c ∷ s) rest e)
