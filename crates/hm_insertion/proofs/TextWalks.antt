-- The walk after a text.
use Rattle.std.proofs.Common.{◌≡◌, ℕ, ◌+◌, ◌≤◌, Bool, true, false, cond, List, [], ◌∷◌, ◌++◌, length, Some, None, sym, ap, subst, ◌∙◌, refl, arith, length-append, append_assoc, append-nil}
use Rattle.std.proofs.lemmas.Bool.{and_parts, and_from}
use Rattle.hm_base.specs.Bytes.{all_pass}
use Rattle.hm_base.specs.Walks.{Event, start, end, Element, path_after, walk_size, with_text}
use Rattle.hm_elements.specs.Names.{is_among, html, head, body}
use Rattle.hm_elements.specs.Tables.{is_raw, raw_names, is_rcdata, rcdata_names, holds_text}
use Rattle.hm_elements.specs.Paths.{is_in_raw, is_in_text}
use Rattle.hm_construction_laws.specs.Steps.{under_html, under_head, under_body}
use Rattle.hm_tree.specs.Trees.{HasRoom, last_agrees}
use Rattle.hm_tree.proofs.RoomLemmas.{path_after-with_text, walk_size-with_text, length-with_text}
use Rattle.hm_insertion.specs.Building.{grown}
use Rattle.hm_insertion.specs.Inside.{open_path, is_apart, each_byte, kept_bytes, missing, CanMake, IsWalkTo, IsFresh, text_rule, keeps_space, body_path, with_blank, mixed_events, has_no_text, body_made, head_closed, head_made, has_no_svg_root}
use Rattle.hm_base.specs.declared.rules.Rule.TheVariants.{AfterBody, NoDoctype, TextHere}
use Rattle.hm_insertion.proofs.Open.{no_text_in_head, some_none}
use Rattle.hm_insertion.specs.declared.insertion.BuilderMode.{BuilderMode}
use Rattle.hm_insertion.specs.declared.insertion.BuilderMode.TheVariants.{Initial, BeforeHtml, BeforeHead, InHead, AfterHead, InBody, AfterBody as PastBody, AfterHtml}
use Rattle.hm_insertion.proofs.Events.{path_after-append, walk_size-append, grown_grown, grown_tags, grown_text, grown_nothing, walk_tags, walk_text, HasRoom-front}
use Rattle.hm_insertion.proofs.Texts.{not_raw, body_is_plain}

length-bytes : (s : List ℕ) (raw : Bool) → length (each_byte s raw) ≡ length s
length-bytes [] raw = refl
length-bytes (c ∷ s) raw = omega (arith, length-bytes s raw)

path_after-bytes : (path : List Element) (s : List ℕ) (raw : Bool) → path_after path (each_byte s raw) ≡ path
path_after-bytes path [] raw = refl
path_after-bytes path (c ∷ s) raw = path_after-bytes path s raw

walk_size-bytes : (s : List ℕ) (raw : Bool) → walk_size (each_byte s raw) ≡ length s
walk_size-bytes [] raw = refl
walk_size-bytes (c ∷ s) raw = omega (arith, walk_size-bytes s raw)

length-joined : (w : List Event) (s : List ℕ) (raw : Bool) → length (with_text w s raw) ≤ length w + length s
length-joined w [] raw = omega arith
length-joined w (c ∷ s) raw = omega (arith, length-with_text w (c ∷ s) raw)

-- where there is room for the bytes of a text one by one, there is room for it as a whole
pub HasRoom-joined : (w : List Event) (s : List ℕ) (raw : Bool) (v : List Event) → HasRoom (w ++ (each_byte s raw ++ v)) → HasRoom (with_text w s raw ++ v)
HasRoom-joined w s raw v room =
    let path : path_after [] (with_text w s raw ++ v) ≡ path_after [] (w ++ (each_byte s raw ++ v)) =
    path_after-append [] (with_text w s raw) v ∙ ap (λ p. path_after p v) (path_after-with_text [] w s raw ∙ sym (path_after-bytes (path_after [] w) s raw))
    ∙ sym (path_after-append (path_after [] w) (each_byte s raw) v) ∙ sym (path_after-append [] w (each_byte s raw ++ v)) in
    record {
      events = omega (arith, room.events, ap length path, length-append (with_text w s raw) v, length-joined w s raw, length-append w (each_byte s raw ++ v), length-append (each_byte s raw) v, length-bytes s raw);
      bytes = omega (arith, room.bytes, walk_size-append (with_text w s raw) v, walk_size-with_text w s raw, walk_size-append w (each_byte s raw ++ v), walk_size-append (each_byte s raw) v, walk_size-bytes s raw);
    }

pub HasRoom-text : (w : List Event) (s : List ℕ) (raw : Bool) → HasRoom (w ++ each_byte s raw) → HasRoom (with_text w s raw)
HasRoom-text w s raw room =
    subst HasRoom (append-nil (with_text w s raw)) (HasRoom-joined w s raw [] (subst (λ x. HasRoom (w ++ x)) (sym (append-nil (each_byte s raw))) room))

-- whitespace
pub HasRoom-blank : (ph : BuilderMode) (w : List Event) (s : List ℕ) (v : List Event) → HasRoom (w ++ (kept_bytes (keeps_space ph) s false ++ v)) → HasRoom (with_blank ph w s ++ v)
HasRoom-blank ph w s v room = by (keeps_space ph) room
  where
    by : (b : Bool) → HasRoom (w ++ (kept_bytes b s false ++ v)) → HasRoom (cond b (with_text w s false) w ++ v)
    by true r = HasRoom-joined w s false v r
    by false r = r

pub grown_blank : (ph : BuilderMode) (w : List Event) (s : List ℕ) → is_apart w ≡ true → grown w (kept_bytes (keeps_space ph) s false) ≡ with_blank ph w s
grown_blank ph w s apart = by (keeps_space ph)
  where
    by : (b : Bool) → grown w (kept_bytes b s false) ≡ cond b (with_text w s false) w
    by true = grown_text w s false apart
    by false = grown_nothing w apart

pub walk_plain : (w : List Event) (path : List Element) (s : List ℕ) → is_in_raw path ≡ false → IsWalkTo w path → IsWalkTo (with_text w s false) path
walk_plain w path s plain walk = subst (λ raw. IsWalkTo (with_text w s raw) path) plain (walk_text w path s walk)

pub walk_blank : (ph : BuilderMode) (w : List Event) (path : List Element) (s : List ℕ) → is_in_raw path ≡ false → IsWalkTo w path → IsWalkTo (with_blank ph w s) path
walk_blank ph w path s plain walk = by (keeps_space ph)
  where
    by : (b : Bool) → IsWalkTo (cond b (with_text w s false) w) path
    by true = walk_plain w path s plain walk
    by false = walk

-- where a text may stand, all that is missing up to body can be made
pub can_make : (ph : BuilderMode) (path : List Element) (w : List Event) → is_in_text (open_path ph path) ≡ false → text_rule ph path ≡ None → IsWalkTo w (open_path ph path) → CanMake ph (path_after [] w)
can_make Initial path w plain none walk = tt
can_make BeforeHtml path w plain none walk = walk.leads
can_make BeforeHead path w plain none walk = walk.leads
can_make (InHead true None) path w plain none walk = absurd (some_none TextHere none)
can_make (InHead false None) path w plain none walk = walk.leads
can_make (InHead true (Some text)) path w plain none walk = absurd (no_text_in_head true text plain)
can_make (InHead false (Some text)) path w plain none walk = absurd (no_text_in_head false text plain)
can_make AfterHead path w plain none walk = walk.leads
can_make InBody path w plain none walk = tt
can_make PastBody path w plain none walk = tt
can_make AfterHtml path w plain none walk = tt

raw_body : (ph : BuilderMode) (path : List Element) → is_in_text (open_path ph path) ≡ false → text_rule ph path ≡ None → is_in_raw (body_path ph path) ≡ false
raw_body ph path plain none = not_raw (body_path ph path) (body_is_plain ph path plain none).0

-- the walk where all that is missing up to body is made
pub walk_made : (ph : BuilderMode) (path : List Element) (w : List Event) → is_in_text (open_path ph path) ≡ false → text_rule ph path ≡ None → IsWalkTo w (open_path ph path) → IsWalkTo (w ++ missing ph) (body_path ph path)
unfolding holds_text is_raw is_rcdata raw_names rcdata_names is_among
walk_made Initial path w plain none walk = absurd (some_none NoDoctype none)
walk_made BeforeHtml path w plain none walk = walk_tags w [] (start html false []) head_made under_body walk refl refl
walk_made BeforeHead path w plain none walk = walk_tags w under_html (start head false []) head_closed under_body walk refl refl
walk_made (InHead true None) path w plain none walk = absurd (some_none TextHere none)
walk_made (InHead false None) path w plain none walk = walk_tags w under_head (end head false) body_made under_body walk refl refl
walk_made (InHead true (Some text)) path w plain none walk = absurd (no_text_in_head true text plain)
walk_made (InHead false (Some text)) path w plain none walk = absurd (no_text_in_head false text plain)
walk_made AfterHead path w plain none walk = walk_tags w under_html (start body false []) [] under_body walk refl refl
walk_made InBody path w plain none walk = subst (λ v. IsWalkTo v path) (sym (append-nil w)) walk
walk_made PastBody path w plain none walk = absurd (some_none AfterBody none)
walk_made AfterHtml path w plain none walk = absurd (some_none AfterBody none)

pub missing_has_no_text : (ph : BuilderMode) → has_no_text (missing ph) ≡ true
missing_has_no_text Initial = refl
missing_has_no_text BeforeHtml = refl
missing_has_no_text BeforeHead = refl
missing_has_no_text (InHead here inside) = refl
missing_has_no_text AfterHead = refl
missing_has_no_text InBody = refl
missing_has_no_text PastBody = refl
missing_has_no_text AfterHtml = refl

pub fresh_path : (ph : BuilderMode) (path : List Element) → text_rule ph path ≡ None → IsFresh ph path → path ≡ body_path ph path
fresh_path Initial path none fresh = fresh
fresh_path BeforeHtml path none fresh = fresh
fresh_path BeforeHead path none fresh = fresh
fresh_path (InHead here inside) path none fresh = fresh
fresh_path AfterHead path none fresh = fresh
fresh_path InBody path none fresh = refl
fresh_path PastBody path none fresh = absurd (some_none AfterBody none)
fresh_path AfterHtml path none fresh = absurd (some_none AfterBody none)

pub fresh_body : (ph : BuilderMode) (path : List Element) → text_rule ph path ≡ None → IsFresh ph path → has_no_svg_root (body_path ph path) ≡ true
fresh_body Initial path none fresh = refl
fresh_body BeforeHtml path none fresh = refl
fresh_body BeforeHead path none fresh = refl
fresh_body (InHead here inside) path none fresh = refl
fresh_body AfterHead path none fresh = refl
fresh_body InBody path none fresh = fresh
fresh_body PastBody path none fresh = refl
fresh_body AfterHtml path none fresh = refl

-- whitespace, what is missing, and a text of the body, appended to a walk
pub record MixedWalk (ph : BuilderMode) (open_elements : List Element) (w : List Event) (before rest : List ℕ) : Type 0 where
  pub blank_room : HasRoom (with_blank ph w before)
  pub same_raw : last_agrees w false ≡ true
  pub made_room : HasRoom (with_blank ph w before ++ missing ph)
  pub open_there : CanMake ph (path_after [] (with_blank ph w before))
  pub text_room : HasRoom (with_text (with_blank ph w before ++ missing ph) rest false)
  pub text_same_raw : last_agrees (with_blank ph w before ++ missing ph) false ≡ true
  pub walk : IsWalkTo (with_text (with_blank ph w before ++ missing ph) rest false) (body_path ph open_elements)
  pub grows : with_text (with_blank ph w before ++ missing ph) rest false ≡ grown w (mixed_events ph before rest)

pub mixed_walk : (ph : BuilderMode) (path : List Element) (w : List Event) (before rest : List ℕ) → is_in_text (open_path ph path) ≡ false → text_rule ph path ≡ None → IsWalkTo w (open_path ph path) → HasRoom (w ++ mixed_events ph before rest)
    → MixedWalk ph path w before rest
mixed_walk ph path w before rest plain none walk room =
    let not_raw_here = not_raw (open_path ph path) plain in
    let blank : IsWalkTo (with_blank ph w before) (open_path ph path) = walk_blank ph w (open_path ph path) before not_raw_here walk in
    let made : IsWalkTo (with_blank ph w before ++ missing ph) (body_path ph path) = walk_made ph path (with_blank ph w before) plain none blank in
    let all : HasRoom (with_blank ph w before ++ (missing ph ++ each_byte rest false)) = HasRoom-blank ph w before (missing ph ++ each_byte rest false) room in
    let two : HasRoom ((with_blank ph w before ++ missing ph) ++ each_byte rest false) = subst HasRoom (sym (append_assoc (with_blank ph w before) (missing ph) (each_byte rest false))) all in
    record {
      blank_room = HasRoom-front (with_blank ph w before) (missing ph ++ each_byte rest false) all;
      same_raw = subst (λ raw. last_agrees w raw ≡ true) not_raw_here walk.same_raw;
      made_room = HasRoom-front (with_blank ph w before ++ missing ph) (each_byte rest false) two;
      open_there = can_make ph path (with_blank ph w before) plain none blank;
      text_room = HasRoom-text (with_blank ph w before ++ missing ph) rest false two;
      text_same_raw = subst (λ raw. last_agrees (with_blank ph w before ++ missing ph) raw ≡ true) (raw_body ph path plain none) made.same_raw;
      walk = walk_plain (with_blank ph w before ++ missing ph) (body_path ph path) rest (raw_body ph path plain none) made;
      grows =
          sym (grown_text (with_blank ph w before ++ missing ph) rest false made.apart)
          ∙ ap (λ v. grown v (each_byte rest false)) (sym (grown_tags (with_blank ph w before) (missing ph) blank.apart (missing_has_no_text ph)))
          ∙ grown_grown (with_blank ph w before) (missing ph) (each_byte rest false)
          ∙ ap (λ v. grown v (missing ph ++ each_byte rest false)) (sym (grown_blank ph w before walk.apart))
          ∙ grown_grown w (kept_bytes (keeps_space ph) before false) (missing ph ++ each_byte rest false);
    }

-- one more byte of whitespace
pub all_pass-push : (p : ℕ → Bool) (s : List ℕ) (c : ℕ) → all_pass p s ≡ true → p c ≡ true → all_pass p (s ++ c ∷ []) ≡ true
all_pass-push p [] c all one = rw one refl
all_pass-push p (d ∷ s) c all one =
    let parts : (p d ≡ true) × (all_pass p s ≡ true) = and_parts (p d) (all_pass p s) all in
    and_from (p d) (all_pass p (s ++ c ∷ [])) parts.0 (all_pass-push p s c parts.1 one)

pub HasRoom-only_blank : (ph : BuilderMode) (w : List Event) (s : List ℕ) → HasRoom (w ++ kept_bytes (keeps_space ph) s false) → HasRoom (with_blank ph w s)
HasRoom-only_blank ph w s room = by (keeps_space ph) room
  where
    by : (b : Bool) → HasRoom (w ++ kept_bytes b s false) → HasRoom (cond b (with_text w s false) w)
    by true r = HasRoom-text w s false r
    by false r = subst HasRoom (append-nil w) r
