-- One more event that breaks no rule, and where events end.
use Rattle.std.proofs.Common.{◌≡◌, ℕ, suc, ◌+◌, ◌^◌, ◌<◌, ◌≤◌, Bool, true, false, cond, not, ◌&&◌, List, [], ◌∷◌, ◌++◌, length, Option, Some, None, is_some, MatchOption, refl, sym, ap, ◌∙◌, subst, arith, append_assoc}
use Rattle.std.proofs.lemmas.Bool.{and_parts}
use Rattle.std.proofs.lemmas.Bool.Decides.{nat_tests}
use Rattle.std.proofs.lemmas.List.{append-nil, length_push}
use Rattle.hm_base.specs.Bytes.{is_null}
use Rattle.hm_base.specs.Walks.{Attribute, Event, doctype, start, text, comment, end, Element, path_after_event, path_after, event_size, walk_size, attributes_size, with_text}
use Rattle.hm_elements.specs.Paths.{is_deep}
use Rattle.hm_elements.specs.Settled.{is_all_there, is_not_deep, is_text_in_place, is_raw_text, has_attributes_in_form}
use Rattle.hm_tree.specs.Rows as rows
use Rattle.hm_tree.specs.Rows.{ends_in_text}
use Rattle.hm_tree.specs.Trees.{HasRoom, last_agrees}
use Rattle.hm_tree.proofs.WalkLemmas.{path_after-push, walk_size-push}
use Rattle.hm_tree.proofs.LastLemmas.{ends_in_text-push}
use Rattle.hm_tree.proofs.TextLemmas.{with_text-push}
use denote.Ref.{Bor}
use Rattle.hm_json_tree.specs.Breaks.{Break, Past, past_after, is_after_text, point_at, at_event, first_break_from, first_break}
use Rattle.hm_json_tree.specs.Reading.{Listed, listed, bad_event, left_open, put_event, at_end, of_listed, unless_broken, walk, some_open, not_settled}
use Rattle.hm_json_tree.specs.Forms.{told, HasAttributes, may_join, are_in_form}
use Rattle.hm_json_tree.specs.Progress.{IsAt, put_events}
use Rattle.hm_json_tree.specs.Seen.{IsSeen}
use Rattle.hm_json_tree.specs.declared.reader.Reader.{Reader}
use Rattle.hm_json_tree.specs.declared.form.JsonEvent.{JsonEvent}
use Rattle.hm_json_tree.specs.declared.form.JsonEvent.TheVariants.{Doctype, Start, Text, Comment, End}
use Rattle.hm_json_tree.proofs.NoBreak.{passes}

-- ---- Events before others

pub put_events-push : (w : List Event) (e : Event) (more : Listed) → put_events (w ++ e ∷ []) more ≡ put_events w (put_event e more)
put_events-push [] e more = refl
put_events-push (d ∷ w) e more = ap (put_event d) (put_events-push w e more)

pub put_events-listed : (w v : List Event) → put_events w (listed v) ≡ listed (w ++ v)
put_events-listed [] v = refl
put_events-listed (e ∷ w) v = ap (put_event e) (put_events-listed w v)

pub put_events-bad : (w : List Event) (i : ℕ) → put_events w (bad_event i) ≡ bad_event i
put_events-bad [] i = refl
put_events-bad (e ∷ w) i = ap (put_event e) (put_events-bad w i)

pub put_events-open : (w : List Event) (n : ℕ) → put_events w (left_open n) ≡ left_open n
put_events-open [] n = refl
put_events-open (e ∷ w) n = ap (put_event e) (put_events-open w n)

-- ---- The end of the events

pub ends_open : (w : List Event) (path : List Element) → 0 < length path → of_listed (put_events w (at_end path)) ≡ some_open (length path)
ends_open w [] l = absurd (omega (arith, l))
ends_open w (m ∷ path) l = ap of_listed (put_events-open w (suc (length path)))

closes : (path : List Element) → length path ≡ 0 → at_end path ≡ listed []
closes [] e = refl
closes (m ∷ path) e = absurd (omega (arith, e))

module _ (r : Reader) (at : IsAt r) (closed : length r.path ≡ 0) where
  ends : of_listed (put_events r.maker (at_end r.path)) ≡ unless_broken (first_break r.maker) r.maker
  ends = ap (λ l. of_listed (put_events r.maker l)) (closes r.path closed) ∙ ap of_listed (put_events-listed r.maker []) ∙ ap (λ w. unless_broken (first_break w) w) (append-nil r.maker)

  broken : first_break r.maker ≡ first_break_from (length r.maker) at.past []
  broken = ap first_break (sym (append-nil r.maker)) ∙ at.breaks []

  pub ends_whole : is_all_there at.past.top ≡ true → of_listed (put_events r.maker (at_end r.path)) ≡ walk r.maker
  ends_whole all = ends ∙ ap (λ b. unless_broken b r.maker) (broken ∙ ap (λ b. cond b None (Some (record { event = length r.maker; point = 1 }))) all)

  pub ends_early : is_all_there at.past.top ≡ false → of_listed (put_events r.maker (at_end r.path)) ≡ not_settled (record { event = r.events; point = 1 })
  ends_early all = ends ∙ ap (λ b. unless_broken b r.maker) (broken ∙ ap (λ b. cond b None (Some (record { event = length r.maker; point = 1 }))) all) ∙ ap (λ n. not_settled (record { event = n; point = 1 })) (sym at.count)

-- ---- One more event

text_before : (e : Event) → is_after_text (Some e) ≡ rows.is_text e
text_before (doctype legacy) = refl
text_before (start n f attributes) = refl
text_before (text s raw) = refl
text_before (comment s) = refl
text_before (end n f) = refl

pub attributes_size-push : (attributes : List Attribute) (a : Attribute) → attributes_size (attributes ++ a ∷ []) ≡ attributes_size attributes + (length a.name + length a.value)
attributes_size-push [] a = omega arith
attributes_size-push (b ∷ attributes) a = omega (arith, attributes_size-push attributes a)

deeper : (path : List Element) (e : Event) → length path ≤ 512 → is_not_deep path e [] ≡ true → length (path_after_event path e) ≤ 512
unfolding is_not_deep is_deep
deeper path (doctype legacy) l h = l
deeper path (start n f attributes) l h = grind (arith, nat_tests)
deeper path (text s raw) l h = l
deeper path (comment s) l h = l
deeper [] (end n f) l h = omega arith
deeper (m ∷ path) (end n f) l h = omega (arith, l)

at_none : (i : ℕ) (o : Option ℕ) (more : Option Break) → o ≡ None → at_event i o more ≡ more
at_none i None more h = refl
at_none i (Some n) more h = cc

module _ (old : Reader) (e : Event) (at : IsAt old) where
  -- where the event breaks a rule, that is the first break
  pub stops : (k : ℕ) → point_at at.past e ≡ Some k → (w : List Event) → first_break (old.maker ++ e ∷ w) ≡ Some (record { event = length old.maker; point = k })
  stops k h w = at.breaks (e ∷ w) ∙ ap (λ o. at_event (length old.maker) o (first_break_from (length old.maker + 1) (past_after at.past e) w)) h

  module _ (sound : point_at at.past e ≡ None) where
    shallow : length (path_after_event old.path e) ≤ 512
    shallow =
        let s = passes at.past e sound in
        deeper old.path e at.shallow (subst (λ path. is_not_deep path e [] ≡ true) at.path_is s.depth)

    -- there is room for it
    pub has_room : old.events < 2 ^ 28 → walk_size old.maker + event_size e < 2 ^ 29 → HasRoom (old.maker ++ e ∷ [])
    has_room few bytes = record {
      events =
          let p : path_after [] (old.maker ++ e ∷ []) ≡ path_after_event old.path e = path_after-push [] old.maker e ∙ ap (λ path. path_after_event path e) (sym at.opened) in
          omega (arith, few, at.count, length_push old.maker e, ap length p, shallow);
      bytes = omega (arith, bytes, walk_size-push old.maker e);
    }

    pub goes_on : (new : Reader) → IsSeen new.seen (past_after at.past e) → new.maker ≡ old.maker ++ e ∷ [] → new.path ≡ path_after_event old.path e → new.bytes ≡ old.bytes + event_size e → new.bytes < 2 ^ 29 → new.events ≡ old.events + 1 → old.events < 2 ^ 28 → IsAt new
    goes_on new seen maker path bytes room count few =
        let longer : length new.maker ≡ length old.maker + 1 = omega (arith, ap length maker, length_push old.maker e) in
        record {
          past = past_after at.past e;
          seen = seen;
          path_is = ap (λ p. path_after_event p e) at.path_is ∙ sym path;
          opened = path ∙ ap (λ p. path_after_event p e) at.opened ∙ sym (ap (path_after []) maker ∙ path_after-push [] old.maker e);
          breaks = λ w.
              ap (λ m. first_break (m ++ w)) maker ∙ ap first_break (append_assoc old.maker (e ∷ []) w) ∙ at.breaks (e ∷ w)
              ∙ at_none (length old.maker) (point_at at.past e) _ sound ∙ ap (λ n. first_break_from n (past_after at.past e) w) (sym longer);
          last = seen.text ∙ text_before e ∙ sym (ap ends_in_text maker ∙ ends_in_text-push old.maker e);
          shallow = rw path shallow;
          bytes = bytes ∙ ap (λ n. n + event_size e) at.bytes ∙ sym (ap walk_size maker ∙ walk_size-push old.maker e);
          room = room;
          count = count ∙ ap (λ n. n + 1) at.count ∙ sym longer;
          few = omega (arith, few, count);
        }

-- a text that breaks no rule may be put to the others
pub joins : (path : List Element) (f : JsonEvent) (p : Past) (w : List Event) → point_at p (told path f) ≡ None → p.path ≡ path → is_after_text p.before ≡ ends_in_text w → may_join f w ≡ true
unfolding is_text_in_place
joins path (Doctype legacy) p w h q l = refl
joins path (Start n attributes) p w h q l = refl
joins path (Text s) p w h q l =
    let s' = passes p (told path (Text s)) h in
    let two = and_parts _ _ s'.texts in
    let some = (and_parts _ _ (and_parts _ _ (and_parts _ _ (and_parts _ _ two.0).0).0).0).0 in
    by (is_after_text p.before) (ends_in_text w) some two.1 l
  where
    by : (a b : Bool) → not (is_null s.now) ≡ true → not (a && true) ≡ true → a ≡ b → not (is_null s.now) && not b ≡ true
    by true b k h e = cc
    by false true k h e = cc
    by false false k h e = rw k refl
joins path (Comment s) p w h q l = refl
joins path End p w h q l = refl

-- ---- Texts put to others

pub text_joins : (s : Bor (List ℕ)) (w : List Event) → may_join (Text s) w ≡ true → (0 < length s.now) × (ends_in_text w ≡ false)
text_joins s w h = let two = and_parts (not (is_null s.now)) (not (ends_in_text w)) h in (some s.now two.0, denied (ends_in_text w) two.1)
  where
    some : (t : List ℕ) → not (is_null t) ≡ true → 0 < length t
    some [] k = cc
    some (c ∷ t) k = omega arith

    denied : (b : Bool) → not b ≡ true → b ≡ false
    denied true k = cc
    denied false k = refl

pub text_pushed : (s : Bor (List ℕ)) (raw : Bool) (w : List Event) → may_join (Text s) w ≡ true → with_text w s.now raw ≡ w ++ text s.now raw ∷ []
text_pushed s raw w h = let two = text_joins s w h in with_text-push w s.now raw two.0 two.1

pub raw_agrees : (w : List Event) (raw : Bool) → ends_in_text w ≡ false → last_agrees w raw ≡ true
raw_agrees [] raw h = refl
raw_agrees (doctype legacy ∷ []) raw h = refl
raw_agrees (start n foreign attributes ∷ []) raw h = refl
raw_agrees (text s is_raw ∷ []) raw h = absurd (cc)
raw_agrees (comment s ∷ []) raw h = refl
raw_agrees (end n foreign ∷ []) raw h = refl
raw_agrees (x ∷ y ∷ w) raw h = raw_agrees (y ∷ w) raw h

-- ---- Events that aren't asked for

module _ (path : List Element) where
  pub raw_other : (f : JsonEvent) → ((s : Bor (List ℕ)) → f ≡ Text s → ⊥) → true ≡ is_raw_text path (told path f) []
  unfolding is_raw_text
  raw_other (Doctype legacy) other = refl
  raw_other (Start n attributes) other = refl
  raw_other (Text s) other = absurd (other s refl)
  raw_other (Comment s) other = refl
  raw_other End other = refl

  pub not_raw : (s : List ℕ) (raw : Bool) → raw ≡ false → true ≡ is_raw_text path (text s raw) []
  unfolding is_raw_text
  not_raw s raw h = rw h refl

  pub attributes_other : (f : JsonEvent) → ((n : Bor (List ℕ)) (attributes : List Attribute) → f ≡ Start n attributes → ⊥) → true ≡ has_attributes_in_form path (told path f) []
  unfolding has_attributes_in_form
  attributes_other (Doctype legacy) other = refl
  attributes_other (Start n attributes) other = absurd (other n attributes refl)
  attributes_other (Text s) other = refl
  attributes_other (Comment s) other = refl
  attributes_other End other = refl

  pub start_in_form : (n : Bor (List ℕ)) (attributes : List Attribute) → has_attributes_in_form path (told path (Start n attributes)) [] ≡ are_in_form attributes
  unfolding has_attributes_in_form
  start_in_form n attributes = refl

pub none_asked : (f : JsonEvent) (attributes : List Attribute) → ((n : Bor (List ℕ)) (own : List Attribute) → f ≡ Start n own → ⊥) → HasAttributes f attributes
none_asked (Doctype legacy) attributes other = tt
none_asked (Start n own) attributes other = absurd (other n own refl)
none_asked (Text s) attributes other = tt
none_asked (Comment s) attributes other = tt
none_asked End attributes other = tt

-- an event without a break has its attributes in form
pub in_form : (p : Past) (path : List Element) (e : Event) → p.path ≡ path → point_at p e ≡ None → has_attributes_in_form path e [] ≡ true
in_form p path e same h = subst (λ q. has_attributes_in_form q e [] ≡ true) same (passes p e h).attributes

-- ---- Options

pub is_none : {A : Type 0} (o : Option A) → is_some o ≡ false → o ≡ None
is_none None h = refl
is_none (Some a) h = cc

pub found_form : (attributes : List Attribute) (made : Option (List Attribute)) → MatchOption made (are_in_form attributes ≡ false) (λ a. (a ≡ attributes) × (are_in_form attributes ≡ true)) → is_some made ≡ are_in_form attributes
found_form attributes None h = sym h
found_form attributes (Some a) h = sym h.1
