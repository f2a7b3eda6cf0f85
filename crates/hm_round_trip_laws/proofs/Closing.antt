-- What is first after a tag that was left out in body, and after a text.
use Rattle.std.proofs.Common.{◌≡◌, ℕ, Bool, true, false, not, ◌&&◌, List, [], ◌∷◌, ◌++◌, bytes_eq, refl, sym, ap, subst, inl, inr, Some}
use Rattle.std.proofs.lemmas.Bool.{and_parts, both_ways, false_from_ne_true}
use Rattle.hm_base.specs.Forms.{is_tag_name}
use Rattle.hm_base.specs.Walks.{Attribute, Event, doctype, start, text, comment, end, Element, begins_end}
use Rattle.hm_elements.specs.Names.{html, body, p, table}
use Rattle.hm_elements.specs.Tables.{is_root}
use Rattle.hm_elements.specs.Nesting.{may_stand, is_closed_by_start, made_under}
use Rattle.hm_elements.specs.Omission.{end_tag_optional_before, end_tag_optional_in, start_tag_optional_before}
use Rattle.hm_elements.specs.Paths.{html_element, current, current_name, is_in_svg, stands_on}
use Rattle.hm_elements.specs.Settled.{is_html}
use Rattle.hm_elements.specs.Places.{StartAllowed, HtmlAllowed, ElementAllowed, html_path, SettledAfterBody, SettledBody}
use Rattle.hm_elements.specs.Laws.{HoldsMore, Follows, StartIsMade}
use Rattle.hm_elements.proofs.TableTools.{same_bytes}
use Rattle.hm_elements.proofs.TableFacts.{start_is_made}
use Rattle.hm_elements.proofs.UpFacts.{goes_yields, goes_yields_inside, up_means, up_in_body, left_open_holds}
use Rattle.hm_elements.proofs.NameFacts.{svg_name_is_tag_name}
use Rattle.hm_tree.specs.Tokens as tokens
use Rattle.hm_token_laws.specs.First.{ordinary}
use Rattle.hm_spelling_spec.specs.Tags.{Spelling, SpellsStart}
use Rattle.hm_spelling_spec.specs.Omission.{start_falls, end_goes, end_falls, begins_child_of}
use Rattle.hm_spelling_spec.specs.Spellings.{Before, end_omitted, StartForm, EndForm, StartSp, EndSp, is_self_closing, after_start, after_end, left_out_before, SpellsFrom}
use Rattle.hm_open_elements.specs.Moves.{element}
use Rattle.hm_construction_laws.specs.Steps.{under_body}
use Rattle.hm_round_trip_laws.proofs.Pieces.{PiecesAreNext}
use Rattle.hm_round_trip_laws.proofs.Ahead.{Ahead, tag, point, finish, Begins}
use Rattle.hm_round_trip_laws.proofs.Frame.{First, start_omitted, end_omitted_is, root_end_falls, frame_not_void, frame_names}
use Rattle.hm_round_trip_laws.proofs.LastEvents.{not_absent, EndFirst, end_first}
use Rattle.hm_round_trip_laws.proofs.BodySteps.{Inside, at_body, inner, Stands, stands_in, NoRoot, no_root, element_no_root, Closes}

-- ---- Starts

pub html_part : (n : List ℕ) (foreign : Bool) (path : List Element) (w : List Event) → is_in_svg path ≡ false → ElementAllowed n foreign path w → HtmlAllowed n foreign path w
html_part n foreign path w out (inl (inside, s)) = absurd (both_ways (is_in_svg path) out inside)
html_part n foreign path w out (inr (out', h)) = h

pub start_name : (n : List ℕ) (foreign : Bool) (path : List Element) (w : List Event) → ElementAllowed n foreign path w → is_tag_name n ≡ true
start_name n foreign path w (inl (inside, s)) = svg_name_is_tag_name n s.name
start_name n foreign path w (inr (out, h)) = h.name

pub falls_child : (frame : Bool) (n : List ℕ) (w : List Event) → is_root n ≡ false → start_falls frame n w ≡ true → begins_child_of n w ≡ true
unfolding start_falls
falls_child frame n w h falls = let r = no_root n h in rw (r.no_html, r.no_head, r.no_body) at falls

no_child : (k : List ℕ) (w : List Event) → ((l : List ℕ) → start_tag_optional_before k l ≡ false) → begins_child_of k w ≡ true → ⊥
no_child k [] last h = cc
no_child k (doctype legacy ∷ w) last h = cc
no_child k (text s raw ∷ w) last h = cc
no_child k (comment s ∷ w) last h = cc
no_child k (end l foreign ∷ w) last h = cc
no_child k (start l foreign attributes ∷ w) last h = both_ways (start_tag_optional_before k l) (last l) (and_parts (not foreign) (start_tag_optional_before k l) h).1

made_by : (n k : List ℕ) (path : List Element) → stands_on n path ≡ true → start_tag_optional_before n k ≡ true → StartIsMade n k (current path)
made_by n k [] h before = cc
made_by n k (e ∷ path) h before = start_is_made n k e.name (current_name path) h before

-- it stands in a table
pub child_in_table : (n : List ℕ) (path : List Element) (w : List Event) → stands_on n path ≡ true → begins_child_of n w ≡ true → current path ≡ table
child_in_table n path [] stands h = cc
child_in_table n path (doctype legacy ∷ w) stands h = cc
child_in_table n path (text s raw ∷ w) stands h = cc
child_in_table n path (comment s ∷ w) stands h = cc
child_in_table n path (end k foreign ∷ w) stands h = cc
child_in_table n path (start k foreign attributes ∷ w) stands h = (made_by n k path stands (and_parts (not foreign) (start_tag_optional_before n k) h).1).in_table

-- b begins with the start tag of a child before which the start tag of n is left out
pub record ChildFirst (g : Spelling) (n : List ℕ) (path : List Element) (b : List ℕ) : Type 0 where
  pub child : List ℕ
  pub attributes : List Attribute
  pub slash : Bool
  pub before : start_tag_optional_before n child ≡ true
  pub made : StartIsMade n child (current path)
  pub nothing : made_under n child ≡ []
  pub holds : HoldsMore n
  pub begins : Begins g.table b (tag (tokens.start_tag child attributes slash))

pub child_first : (g : Spelling) → PiecesAreNext g → (w : List Event) (n : List ℕ) (path : List Element) (before : Before) (b : List ℕ) → stands_on n path ≡ true → SettledBody (html_element n ∷ path) w → begins_child_of n w ≡ true → SpellsFrom g before (html_element n ∷ path) w b → ChildFirst g n path b
child_first g next [] n path before b stands settled h sp = cc
child_first g next (doctype legacy ∷ w) n path before b stands settled h sp = cc
child_first g next (text s raw ∷ w) n path before b stands settled h sp = cc
child_first g next (comment s ∷ w) n path before b stands settled h sp = cc
child_first g next (end k foreign ∷ w) n path before b stands settled h sp = cc
child_first g next (start k foreign attributes ∷ w) n path before b stands settled h (form, piece, rest, e, sp, more) = by form sp
  where
    two : (not foreign ≡ true) × (start_tag_optional_before n k ≡ true)
    two = and_parts (not foreign) (start_tag_optional_before n k) h

    made : StartIsMade n k (current path)
    made = made_by n k path stands two.1

    allowed : HtmlAllowed k foreign (html_element n ∷ path) w
    allowed = html_part k foreign (html_element n ∷ path) w refl settled.0.element

    written : (slash : Bool) → SpellsStart g k attributes slash piece rest → ChildFirst g n path b
    written slash s = record {
      child = k;
      attributes = attributes;
      slash = slash;
      before = two.1;
      made = made;
      nothing = (stands_in k (html_element n ∷ path) allowed.stands).1.1;
      holds = (stands_in k (html_element n ∷ path) allowed.stands).1.0;
      begins = (rest, rw e (next.starts ordinary k attributes slash piece rest refl allowed.name settled.0.attributes_allowed s));
    }

    by : (f : StartForm) → StartSp g before k foreign attributes w f piece rest → ChildFirst g n path b
    by StartForm.omitted s =
        let o = start_omitted g.rules (left_out_before before) k foreign attributes w s.1 in
        absurd (no_child k w made.last (falls_child g.rules.frame k w (stands_in k (html_element n ∷ path) allowed.stands).0.is_no_root o.falls))
    by StartForm.written s = written false s
    by StartForm.slashed s = written true s.1

-- ---- Ends

pub falls_goes : (n parent : List ℕ) (w : List Event) → NoRoot n → end_falls n parent w ≡ true → end_goes n parent w ≡ true
unfolding end_falls
falls_goes n parent w r falls = rw (r.no_html, r.no_head, r.no_body) at falls

pub goes_holds : (n parent : List ℕ) (w : List Event) → end_goes n parent w ≡ true → HoldsMore n
goes_holds n parent [] h = cc
goes_holds n parent (doctype legacy ∷ w) h = cc
goes_holds n parent (text s raw ∷ w) h = cc
goes_holds n parent (comment s ∷ w) h = cc
goes_holds n parent (start m foreign attributes ∷ w) h = left_open_holds n m (inl (and_parts (not foreign) (end_tag_optional_before n m) h).1)
goes_holds n parent (end m foreign ∷ w) h = left_open_holds n parent (inr h)

yields_on : (n m : List ℕ) (path : List Element) → stands_on n path ≡ true → stands_on m path ≡ true → end_tag_optional_before n m ≡ true → is_closed_by_start n m ≡ true
yields_on n m [] a b h = cc
yields_on n m (e ∷ path) a b h = goes_yields n m e.name (current_name path) a b h

follows_on : (n : List ℕ) (path : List Element) → stands_on n path ≡ true → end_tag_optional_in n (current path) ≡ true → bytes_eq (current path) body ≡ false → Follows n (current path)
follows_on n [] a up within = cc
follows_on n (e ∷ path) a up within = up_means n e.name (current_name path) a up within

pub p_in_body : (n : List ℕ) (path : List Element) → stands_on n path ≡ true → end_tag_optional_in n (current path) ≡ true → bytes_eq (current path) body ≡ true → n ≡ p
p_in_body n [] a up is = cc
p_in_body n (e ∷ path) a up is =
    let same : e.name ≡ body = same_bytes e.name body is in
    let a' : may_stand n body (current_name path) ≡ true = rw same at a in
    let up' : end_tag_optional_in n body ≡ true = rw same at up in
    up_in_body n (current_name path) a' up'

closes_up : (n m : List ℕ) (x : Ahead) → Follows n m → Closes m x → Closes n x
closes_up n m (tag (tokens.start_tag k attributes slash)) f c = f.yields_on k c
closes_up n m (tag (tokens.end_tag k)) f c = f.ends_on k c
closes_up n m (tag (tokens.doctype legacy)) f c = absurd c
closes_up n m (tag (tokens.slice s)) f c = absurd c
closes_up n m (tag (tokens.points ps)) f c = absurd c
closes_up n m (tag (tokens.comment s)) f c = absurd c
closes_up n m (point d) f c = absurd c
closes_up n m finish f c = absurd c

first_up : (g : Spelling) (n m : List ℕ) (b : List ℕ) → Follows n m → First g.table (Closes m) b → First g.table (Closes n) b
first_up g n m b f (x, c, begins) = (x, closes_up n m x f c, begins)

start_closes_first : (g : Spelling) → PiecesAreNext g → (w : List Event) (n m : List ℕ) (foreign : Bool) (attributes : List Attribute) (path : List Element) (b piece rest : List ℕ) (form : StartForm)
    → is_in_svg path ≡ false → stands_on n path ≡ true → StartAllowed m foreign attributes path w → SettledBody (element m foreign ∷ path) w → not foreign && end_tag_optional_before n m ≡ true
    → b ≡ piece ++ rest → StartSp g (end_omitted n) m foreign attributes w form piece rest → SpellsFrom g (after_start foreign form) (element m foreign ∷ path) w rest → First g.table (Closes n) b
start_closes_first g next w n m foreign attributes path b piece rest StartForm.written out stands allowed settled goes e sp more =
    let h = html_part m foreign path w out allowed.element in
    (tag (tokens.start_tag m attributes false), yields_on n m path stands h.stands (and_parts (not foreign) (end_tag_optional_before n m) goes).1, (rest, rw e (next.starts ordinary m attributes false piece rest refl h.name allowed.attributes_allowed sp)))
start_closes_first g next w n m foreign attributes path b piece rest StartForm.slashed out stands allowed settled goes e sp more =
    let h = html_part m foreign path w out allowed.element in
    (tag (tokens.start_tag m attributes true), yields_on n m path stands h.stands (and_parts (not foreign) (end_tag_optional_before n m) goes).1, (rest, rw e (next.starts ordinary m attributes true piece rest refl h.name allowed.attributes_allowed sp.1)))
start_closes_first g next w n m foreign attributes path b piece rest StartForm.omitted out stands allowed settled goes e sp more =
    let h = html_part m foreign path w out allowed.element in
    let o = start_omitted g.rules (Some n) m foreign attributes w sp.1 in
    let child = falls_child g.rules.frame m w (stands_in m path h.stands).0.is_no_root o.falls in
    let settled' : SettledBody (html_element m ∷ path) w = subst (λ (f : Bool). SettledBody (element m f ∷ path) w) o.is_html settled in
    let more' : SpellsFrom g (after_start false StartForm.omitted) (html_element m ∷ path) w rest = subst (λ (f : Bool). SpellsFrom g (after_start f StartForm.omitted) (element m f ∷ path) w rest) o.is_html more in
    let c = child_first g next w m path (after_start false StartForm.omitted) rest h.stands settled' child more' in
    (tag (tokens.start_tag c.child c.attributes c.slash), goes_yields_inside n m c.child (and_parts (not foreign) (end_tag_optional_before n m) goes).1 o.free c.before, rw (e, sp.0) c.begins)

-- ---- The end of an element in body

pub record EndsInner (d : Element) (path : List Element) (m : List ℕ) (foreign : Bool) (w : List Event) : Type 0 where
  pub named : m ≡ d.name
  pub kind : foreign ≡ d.foreign
  pub settled : SettledBody path w

not_the_body : (d : Element) (path : List Element) → Stands d path → is_html body d.name d.foreign ≡ false
not_the_body d path s = by d.foreign refl
  where
    by : (f : Bool) → d.foreign ≡ f → is_html body d.name f ≡ false
    by true h = refl
    by false h = (element_no_root d path s h).no_body

pub ends_inner : (d : Element) (path : List Element) (m : List ℕ) (foreign : Bool) (w : List Event) → Stands d path → SettledBody (d ∷ path) (end m foreign ∷ w) → EndsInner d path m foreign w
ends_inner d path m foreign w s settled =
    let named : m ≡ d.name = ap (λ (x : Element). x.name) (sym settled.0) in
    let kind : foreign ≡ d.foreign = ap (λ (x : Element). x.foreign) (sym settled.0) in
    let other : is_html body m foreign ≡ false = rw (named, kind) (not_the_body d path s) in
    record { named = named; kind = kind; settled = rw other at settled.1 }

up_case : (g : Spelling) → PiecesAreNext g → (w : List Event) (n : List ℕ) (d : Element) (path : List Element) (b piece rest : List ℕ) (form : EndForm) → Stands d path → d.foreign ≡ false → stands_on n (d ∷ path) ≡ true → end_tag_optional_in n d.name ≡ true → bytes_eq d.name body ≡ false
    → b ≡ piece ++ rest → EndSp g (end_omitted n) d.name d.foreign path w form piece → SpellsFrom g (after_end d.name form) path w rest
    → (end_goes d.name (current path) w ≡ true → (begins_end w ≡ true → bytes_eq (current path) body ≡ false) → SpellsFrom g (end_omitted d.name) path w rest → First g.table (Closes d.name) rest) → First g.table (Closes n) b
up_case g next w n d path b piece rest EndForm.absent s out stands up within e sp more first = absurd (not_absent (end_omitted n) d.name d.foreign refl (s.solid out) sp.1)
up_case g next w n d path b piece rest EndForm.written s out stands up within e sp more first =
    (tag (tokens.end_tag d.name), (follows_on n (d ∷ path) stands up within).ends_there, (rest, rw e (next.ends ordinary d.name piece rest refl s.name sp.1)))
up_case g next w n d path b piece rest EndForm.omitted s out stands up within e sp more first =
    let f = follows_on n (d ∷ path) stands up within in
    let falls = (end_omitted_is g.rules d.name d.foreign path w sp.2).1 in
    let goes = falls_goes d.name (current path) w (element_no_root d path s out) falls in
    let inside : begins_end w ≡ true → bytes_eq (current path) body ≡ false = λ h. false_from_ne_true (bytes_eq (current path) body) (λ is. no_p (p_in_body d.name path (s.stands out) (up_of w goes h) is) f.not_in_p) in
    rw (e, sp.0) (first_up g n d.name rest f (first goes inside more))
  where
    no_p : d.name ≡ p → bytes_eq d.name p ≡ false → ⊥
    no_p is not_p = let never : bytes_eq p p ≡ false = rw is at not_p in cc

    up_of : (w : List Event) → end_goes d.name (current path) w ≡ true → begins_end w ≡ true → end_tag_optional_in d.name (current path) ≡ true
    up_of [] goes h = cc
    up_of (doctype legacy ∷ w) goes h = cc
    up_of (start m foreign attributes ∷ w) goes h = cc
    up_of (text t raw ∷ w) goes h = cc
    up_of (comment t ∷ w) goes h = cc
    up_of (end m foreign ∷ w) goes h = goes

-- What is first after the end tag of n that was left out closes n, except at the end of body.
pub closes_first : (g : Spelling) → PiecesAreNext g → (w : List Event) (n : List ℕ) (path : List Element) (b : List ℕ) → Inside path → is_in_svg path ≡ false → stands_on n path ≡ true → SettledBody path w
    → end_goes n (current path) w ≡ true → (begins_end w ≡ true → bytes_eq (current path) body ≡ false) → SpellsFrom g (end_omitted n) path w b → First g.table (Closes n) b
closes_first g next [] n path b ins out stands settled goes inside sp = cc
closes_first g next (doctype legacy ∷ w) n path b ins out stands settled goes inside sp = cc
closes_first g next (text s raw ∷ w) n path b ins out stands settled goes inside sp = cc
closes_first g next (comment s ∷ w) n path b ins out stands settled goes inside sp = cc
closes_first g next (start m foreign attributes ∷ w) n path b ins out stands settled goes inside (form, piece, rest, e, sp, more) =
    start_closes_first g next w n m foreign attributes path b piece rest form out stands settled.0 settled.1 goes e sp more
closes_first g next (end m foreign ∷ w) n path b at_body out stands settled goes inside sp = let no : bytes_eq body body ≡ false = inside refl in cc
closes_first g next (end m foreign ∷ w) n path b (inner d outer s ins) out stands settled goes inside (form, piece, rest, e, sp, more) =
    let i = ends_inner d outer m foreign w s settled in
    let sp' : EndSp g (end_omitted n) d.name d.foreign outer w form piece = rw (i.named, i.kind) at sp in
    let more' : SpellsFrom g (after_end d.name form) outer w rest = rw i.named at more in
    up_case g next w n d outer b piece rest form s out stands goes (inside refl) e sp' more' (λ goes' inside' spells. closes_first g next w d.name outer rest ins (s.outside out) (s.stands out) i.settled goes' inside' spells)

-- ---- The end of body

pub data BodyEndFirst : Ahead → Type 0 where
  end_body : BodyEndFirst (tag (tokens.end_tag body))
  after : {x : Ahead} → EndFirst x → BodyEndFirst x

pub body_end_first : (g : Spelling) → PiecesAreNext g → (form : EndForm) (w : List Event) (piece rest b : List ℕ) (before : Before) → SettledAfterBody w → is_self_closing before ≡ false
    → b ≡ piece ++ rest → EndSp g before body false html_path w form piece → SpellsFrom g (after_end body form) html_path w rest → First g.table BodyEndFirst b
body_end_first g next EndForm.absent w piece rest b before settled fresh e sp more = absurd (not_absent before body false fresh frame_not_void.1.1 sp.1)
body_end_first g next EndForm.omitted w piece rest b before settled fresh e sp more =
    let falls = (end_omitted_is g.rules body false html_path w sp.2).1 in
    let (x, is, begins) = end_first g next w rest (after_end body EndForm.omitted) settled (root_end_falls body html w refl falls) refl more in
    (x, after is, rw (e, sp.0) begins)
body_end_first g next EndForm.written w piece rest b before settled fresh e sp more = (tag (tokens.end_tag body), end_body, (rest, rw e (next.ends ordinary body piece rest refl frame_names.1.1 sp.1)))

-- the end of body, with what its parts are
pub record EndsBody (g : Spelling) (before : Before) (w : List Event) (b : List ℕ) : Type 0 where
  pub form : EndForm
  pub piece : List ℕ
  pub rest : List ℕ
  pub whole : b ≡ piece ++ rest
  pub spells : EndSp g before body false html_path w form piece
  pub more : SpellsFrom g (after_end body form) html_path w rest
  pub settled : SettledAfterBody w

pub ends_body : (g : Spelling) (before : Before) (m : List ℕ) (foreign : Bool) (w : List Event) (b : List ℕ) → SettledBody under_body (end m foreign ∷ w) → SpellsFrom g before under_body (end m foreign ∷ w) b → (m ≡ body) × (foreign ≡ false) × EndsBody g before w b
ends_body g before m foreign w b settled (form, piece, rest, e, sp, more) =
    let named : m ≡ body = ap (λ (x : Element). x.name) (sym settled.0) in
    let kind : foreign ≡ false = ap (λ (x : Element). x.foreign) (sym settled.0) in
    let is : is_html body m foreign ≡ true = rw (named, kind) refl in
    (named, kind, record { form = form; piece = piece; rest = rest; whole = e; spells = rw (named, kind) at sp; more = rw named at more; settled = rw is at settled.1 })
