-- Events that are read token by token are those of the whole array.
use Rattle.std.proofs.Common.{◌≡◌, ℕ, ◌+◌, ◌-◌, ◌<◌, ◌≤◌, List, [], ◌∷◌, ◌++◌, length, map, Bor, true, false, Some, None, IsUtf8, option_map, refl, sym, ap, subst, ◌∙◌, arith}
use Rattle.std.proofs.lemmas.List.{length_push}
use Rattle.json.specs.Token.{Token}
use Rattle.json.specs.Lex.{tokens}
use Rattle.json.specs.Json as json
use Rattle.json.specs.Json.{after_end_array, items, parse_map, value}
use Rattle.json.proofs.Grammar.{value_is, value-begin_array, items_end, items_more}
use Rattle.serde_json.specs.Data.{Data, string, array, Items, no_items, item}
use Rattle.serde_json.specs.Read.{read}
use Rattle.hm_base.specs.Walks.{Attribute, Event, Element, path_after_event}
use Rattle.hm_refs.specs.Ordered.{Begins}
use Rattle.hm_refs.proofs.ByTokens.{begins_shorter}
use Rattle.hm_refs.proofs.ReadingLaws.{json_read}
use Rattle.hm_json_tree.specs.declared.limits.TheConstants.{JSON_LIMIT}
use Rattle.hm_json_tree.specs.declared.form.JsonEvent.{JsonEvent}
use Rattle.hm_json_tree.specs.declared.form.JsonEvent.TheVariants.{Doctype, Start, Text, Comment, End}
use Rattle.hm_json_tree.specs.Breaks.{first_break}
use Rattle.hm_json_tree.specs.Forms.{event_told, told}
use Rattle.hm_json_tree.specs.Pairs.{text_attribute}
use Rattle.hm_json_tree.specs.Progress.{put_events}
use Rattle.hm_json_tree.specs.Reading.{attributes_data, attributes_in, at_end, event_in, events_in, JsonWalk, json_walk, not_settled, of_listed, put_event, some_open, unless_broken, with_event}
use Rattle.hm_json_tree.specs.Tokens.{ArePairs, form_data, IsItem, IsPair, IsRead, IsText, Lists, Passed, Passes, PassesAs, PassesOne, said, Says, Whole}
use Rattle.hm_json_tree.proofs.Taken.{put_events-listed, put_events-push}
use Rattle.hm_json_tree.proofs.Whole.{ends_closed, open_left, walk_by_array}

-- ---- Texts and arrays

-- no value begins with the bracket that closes an array
begins_first : (depth : ℕ) (old new : List Token) (d : Data) → Begins depth old d new → after_end_array old ≡ None
begins_first depth [] new d b = refl
begins_first depth (Token.begin_object ∷ ts) new d b = refl
begins_first depth (Token.end_object ∷ ts) new d b = refl
begins_first depth (Token.begin_array ∷ ts) new d b = refl
begins_first depth (Token.end_array ∷ ts) new d b = let never = rw (value_is depth (Token.end_array ∷ ts)) at b.1 in cc
begins_first depth (Token.key s ∷ ts) new d b = refl
begins_first depth (Token.string s ∷ ts) new d b = refl
begins_first depth (Token.number s ∷ ts) new d b = refl
begins_first depth (Token.boolean x ∷ ts) new d b = refl
begins_first depth (Token.null ∷ ts) new d b = refl
begins_first depth (Token.bad ∷ ts) new d b = refl

text_begins : (depth : ℕ) (old new : List Token) (s : List ℕ) → IsText old s new → Begins depth old (string s) new
text_begins depth old new s e = (json.string s, ap (value depth) e ∙ value_is depth _, refl)

-- the bracket at the end
pub list_ends : (depth : ℕ) (old new : List Token) → after_end_array old ≡ Some new → Lists depth old no_items new
list_ends depth old new e = λ n l. (json.no_items, items_end (value depth) n old new l e, refl)

-- one item more before those
pub list_more : (depth : ℕ) (old mid new : List Token) (d : Data) (ds : Items) → Begins depth old d mid → Lists depth mid ds new → Lists depth old (item d ds) new
list_more depth old mid new d ds b more = λ n l.
    let less = begins_shorter depth old mid d b in
    let rest = more (n - 1) (omega (arith, less, l)) in
    (json.item b.0 rest.0, items_more (value depth) n old mid b.0 (omega (arith, less, l)) (begins_first depth old mid d b) b.1 ∙ ap (parse_map (json.item b.0)) rest.1, rw (b.2, rest.2) refl)

text_more : (depth : ℕ) (old mid new : List Token) (s : List ℕ) (ds : Items) → IsText old s mid → Lists depth mid ds new → Lists depth old (item (string s) ds) new
text_more depth old mid new s ds e more = list_more depth old mid new (string s) ds (text_begins depth old mid s e) more

pub array_begins : (depth : ℕ) (old ts new : List Token) (ds : Items) → old ≡ Token.begin_array ∷ ts → 0 < depth → Lists (depth - 1) ts ds new → Begins depth old (array ds) new
array_begins depth old ts new ds b h more =
    let l = more (length ts) (omega arith) in
    (json.array l.0, ap (value depth) b ∙ value-begin_array depth ts h ∙ ap (parse_map json.array) l.1, rw l.2 refl)

-- ---- Names and values

pub pair_read : (old ts r s new : List Token) (n v : List ℕ) → old ≡ Token.begin_array ∷ ts → IsText ts n r → IsText r v s → after_end_array s ≡ Some new → IsPair old (record { name = n; value = v }) new
pair_read old ts r s new n v b e f close = array_begins 124 old ts new _ b (omega arith) (text_more 123 ts r new n _ e (text_more 123 r s new v no_items f (list_ends 123 s new close)))

-- one pair more
pub pushed : (ps : List (Bor (List ℕ) × Bor (List ℕ))) (p : Bor (List ℕ) × Bor (List ℕ)) (rest : List Attribute) → map text_attribute (ps ++ p ∷ []) ++ rest ≡ map text_attribute ps ++ (text_attribute p ∷ rest)
pushed [] p rest = refl
pushed (q ∷ ps) p rest = ap (λ l. text_attribute q ∷ l) (pushed ps p rest)

-- ---- Items that say an event

attributes_back : (attributes : List Attribute) → attributes_in (attributes_data attributes) ≡ Some attributes
attributes_back [] = refl
attributes_back (a ∷ attributes) = ap (option_map (λ rest. a ∷ rest)) (attributes_back attributes)

-- the data of a form is read as its event
pub form_read : (path : List Element) (f : JsonEvent) → event_in path (form_data f) ≡ event_told path f
form_read path (Doctype true) = refl
form_read path (Doctype false) = refl
form_read path (Start n attributes) = rw (attributes_back attributes) refl
form_read path (Text s) = refl
form_read path (Comment s) = refl
form_read path End = refl

pub one_said : (old new : List Token) (s : List ℕ) → IsText old s new → (last : List Token) → after_end_array new ≡ Some last → Lists 125 old (item (string s) no_items) last
one_said old new s e last close = text_more 125 old new last s no_items e (list_ends 125 new last close)

pub start_said : (old mid new : List Token) (n : List ℕ) (attributes : List Attribute) → IsText old n mid → ArePairs mid attributes new → (last : List Token) → after_end_array new ≡ Some last
    → Lists 125 old (item (string n) (item (array (attributes_data attributes)) no_items)) last
start_said old mid new n attributes e p last close = text_more 125 old mid last n _ e (list_more 125 mid new last _ no_items p (list_ends 125 new last close))

pub item_read : (old ts r s new : List Token) (kind : List ℕ) (f : JsonEvent) → old ≡ Token.begin_array ∷ ts → IsText ts kind r → Says kind r f s → after_end_array s ≡ Some new → IsItem old f new
item_read old ts r s new kind f b e says close = array_begins 126 old ts new _ b (omega arith) (rw (← says.0) (text_more 125 ts r new kind (said f) e (says.1 new close)))

pub told_is : (path : List Element) (f : JsonEvent) (e : Event) → event_told path f ≡ Some e → event_told path f ≡ Some (told path f)
told_is path (Doctype legacy) e h = refl
told_is path (Start n attributes) e h = refl
told_is path (Text s) e h = refl
told_is path (Comment s) e h = refl
told_is [] End e h = cc
told_is (m ∷ path) End e h = refl

-- ---- Arrays of events

pub told_depth : (path : List Element) (f : JsonEvent) (e : Event) (n : ℕ) → event_told path f ≡ Some e → length (path_after_event path e) ≡ n → length (path_after_event path (told path f)) ≡ n
told_depth path f e n h l =
    let both = told_is path f e h in
    let same : e ≡ told path f = cc in
    subst (λ x. length (path_after_event path x) ≡ n) same l

item_in : (i : ℕ) (path : List Element) (f : JsonEvent) (e : Event) (ds : Items) → event_told path f ≡ Some e → events_in i path (item (form_data f) ds) ≡ put_event e (events_in (i + 1) (path_after_event path e) ds)
item_in i path f e ds h = ap (λ o. with_event i o (λ e. events_in (i + 1) (path_after_event path e) ds)) (form_read path f ∙ h)

pub none_read : (old : List Token) → IsRead old [] [] old
none_read old = λ ds last l. (ds, l, refl)

module _ (old mid new : List Token) (w : List Event) (path : List Element) (r : IsRead old w path mid) (f : JsonEvent) (e : Event) (b : IsItem mid f new) (h : event_told path f ≡ Some e) where
  -- one event more
  pub one_read : IsRead old (w ++ e ∷ []) (path_after_event path e) new
  one_read = λ ds last l.
      let all = r (item (form_data f) ds) last (list_more 126 mid new last (form_data f) ds b l) in
      let count : length w + 1 ≡ length (w ++ e ∷ []) = omega (arith, length_push w e) in
      (all.0, all.1, all.2 ∙ ap (put_events w) (item_in (length w) path f e ds h ∙ ap (λ n. put_event e (events_in n (path_after_event path e) ds)) count) ∙ sym (put_events-push w e _))

  -- the first break, where events follow up to the end
  pub read_breaks : (k opened : ℕ) → ((x : List Event) → first_break (w ++ e ∷ x) ≡ Some (record { event = length w; point = k })) → length (path_after_event path e) ≡ opened → Passes new opened → Whole old (not_settled (record { event = length w; point = k }))
  read_breaks k opened breaks count p =
      let all = r (item (form_data f) p.0) [] (list_more 126 mid new [] (form_data f) p.0 b p.1) in
      let more = p.2 (length w + 1) (path_after_event path e) count in (
        all.0,
        all.1,
        ap of_listed (all.2 ∙ ap (put_events w) (item_in (length w) path f e p.0 h ∙ ap (put_event e) more.1) ∙ put_events-listed w (e ∷ more.0)) ∙ ap (λ x. unless_broken x (w ++ e ∷ more.0)) (breaks more.0),
      )

  -- what follows is no walk
  pub read_fails : (opened : ℕ) (fault : JsonWalk) → length (path_after_event path e) ≡ opened → PassesAs new opened fault → Whole old fault
  read_fails opened fault count p =
      let all = r (item (form_data f) p.0) [] (list_more 126 mid new [] (form_data f) p.0 b p.1) in (
        all.0,
        all.1,
        ap of_listed (all.2 ∙ ap (put_events w) (item_in (length w) path f e p.0 h) ∙ sym (put_events-push w e _)) ∙ p.2 (length w + 1) (path_after_event path e) (w ++ e ∷ []) count,
      )

-- after the last event
pub read_ends : (old mid : List Token) (w : List Event) (path : List Element) (x : JsonWalk) → IsRead old w path mid → after_end_array mid ≡ Some [] → of_listed (put_events w (at_end path)) ≡ x → Whole old x
read_ends old mid w path x r close h = let all = r no_items [] (list_ends 126 mid [] close) in (all.0, all.1, ap of_listed all.2 ∙ h)

-- ---- Events that are passed

pub none_passed : (old : List Token) (opened : ℕ) → Passed old opened opened old
none_passed old opened = λ ds last l. (ds, l, λ i path count. record { events = []; now_open = path; next = i; depth_is = count; listed_is = refl })

pub one_passed : (old mid new : List Token) (opened depth next : ℕ) → Passed old opened depth mid → PassesOne mid depth next new → Passed old opened next new
one_passed old mid new opened depth next p one = λ ds last l.
    let f = one.0 in
    let b = one.1 in
    let more = one.2 in
    let all = p (item (form_data f) ds) last (list_more 126 mid new last (form_data f) ds b l) in (
      all.0,
      all.1,
      λ i path count.
          let g = all.2 i path count in
          let m = more g.now_open g.depth_is in
          record {
            events = g.events ++ m.0 ∷ [];
            now_open = path_after_event g.now_open m.0;
            next = g.next + 1;
            depth_is = m.2;
            listed_is = g.listed_is ∙ ap (put_events g.events) (item_in g.next g.now_open f m.0 ds m.1) ∙ sym (put_events-push g.events m.0 _);
          },
    )

module _ (old mid : List Token) (opened depth : ℕ) (p : Passed old opened depth mid) (close : after_end_array mid ≡ Some []) where
  pub all_passed : depth ≡ 0 → Passes old opened
  all_passed none =
      let all = p no_items [] (list_ends 126 mid [] close) in
      (all.0, all.1, λ i path count. let g = all.2 i path count in (g.events ++ [], g.listed_is ∙ ends_closed g.now_open g.events (omega (arith, g.depth_is, none))))

  pub open_passed : 0 < depth → PassesAs old opened (some_open depth)
  open_passed some =
      let all = p no_items [] (list_ends 126 mid [] close) in
      (all.0, all.1, λ i path w count. let g = all.2 i path count in ap (λ x. of_listed (put_events w x)) g.listed_is ∙ open_left g.now_open w g.events (omega (arith, g.depth_is, some)) ∙ ap some_open g.depth_is)

-- ---- The bytes

pub whole_read : (bytes : List ℕ) (ts : List Token) (w : JsonWalk) → length bytes ≤ JSON_LIMIT → IsUtf8 bytes → tokens bytes ≡ Token.begin_array ∷ ts → Whole ts w → json_walk bytes ≡ w
whole_read bytes ts w short utf8 b h =
    let all = array_begins 127 (tokens bytes) ts [] h.0 b (omega arith) h.1 in
    let whole : read bytes ≡ Some (array h.0) = rw all.1 all.2 in
    walk_by_array bytes short (array h.0) (Some h.0) (json_read bytes (array h.0) utf8 whole) refl ∙ h.2
