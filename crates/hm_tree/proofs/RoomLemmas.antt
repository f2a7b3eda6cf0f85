-- How a caller shows that there is room in a walk, and that a text may follow.
use Rattle.std.proofs.Common.{◌≡◌, ℕ, zero, suc, ◌+◌, ◌^◌, ◌<◌, ◌≤◌, Bool, true, false, List, [], ◌∷◌, ◌++◌, length, take, drop, sym, ap, subst, ◌∙◌, refl, arith, length-append}
use Rattle.hm_base.specs.Walks.{Event, doctype, start, text, comment, end, Element, event_size, same_flag, path_after_event, path_after, walk_size, with_text}
use Rattle.hm_tree.specs.Rows.{ends_in_text, extended, with_more}
use Rattle.hm_tree.specs.Trees.{HasRoom, IsWalk, agrees, last_agrees}
use Rattle.hm_tree.proofs.TextLemmas.{length-extended, path_after-extended, walk_size-extended, with_text-extended, with_text-push}
use Rattle.hm_tree.proofs.WalkLemmas.{path_after-push, walk_size-push}

-- an event opens at most one element, and closes at most one
pub length-path_after_event : (path : List Element) (e : Event) → (length (path_after_event path e) ≤ length path + 1) × (length path ≤ length (path_after_event path e) + 1)
length-path_after_event path (doctype legacy) = (omega arith, omega arith)
length-path_after_event path (start n foreign attributes) = (omega arith, omega arith)
length-path_after_event path (text s raw) = (omega arith, omega arith)
length-path_after_event path (comment s) = (omega arith, omega arith)
length-path_after_event [] (end n foreign) = (omega arith, omega arith)
length-path_after_event (p ∷ path) (end n foreign) = (omega arith, omega arith)

-- one more event, with room for it and for one end
pub HasRoom-push : (w : List Event) (e : Event) → length w + length (path_after [] w) + 2 < 2 ^ 29 → walk_size w + event_size e < 2 ^ 29 → HasRoom (w ++ e ∷ [])
HasRoom-push w e events bytes = record {
  events = omega (arith, ap length (path_after-push [] w e), (length-path_after_event (path_after [] w) e).0, length-append w (e ∷ []));
  bytes = omega (arith, walk_size-push w e);
}

module _ (P : List Event → Type 0) (w : List Event) (s : List ℕ) (raw : Bool) where
  by_end : (b : Bool) → ends_in_text w ≡ b → 0 < length s → (ends_in_text w ≡ true → P (extended w s)) → (ends_in_text w ≡ false → P (w ++ text s raw ∷ [])) → P (with_text w s raw)
  by_end true ends some joined last = subst P (sym (with_text-extended w s raw some ends)) (joined ends)
  by_end false ends some joined last = subst P (sym (with_text-push w s raw some ends)) (last ends)

-- a text that isn't empty is joined to the text that stands last, or stands last itself
pub with_text_cases : (P : List Event → Type 0) (w : List Event) (s : List ℕ) (raw : Bool) → (length s ≡ 0 → P w) → (ends_in_text w ≡ true → P (extended w s)) → (ends_in_text w ≡ false → P (w ++ text s raw ∷ [])) → P (with_text w s raw)
with_text_cases P w [] raw none joined last = none refl
with_text_cases P w (c ∷ s) raw none joined last = by_end P w (c ∷ s) raw (ends_in_text w) refl (omega arith) joined last

-- a text opens and closes nothing
pub path_after-with_text : (path : List Element) (w : List Event) (s : List ℕ) (raw : Bool) → path_after path (with_text w s raw) ≡ path_after path w
path_after-with_text path w s raw =
    with_text_cases (λ v. path_after path v ≡ path_after path w) w s raw (λ _. refl) (λ _. path_after-extended path w s) (λ _. path_after-push path w (text s raw))

-- it adds its bytes
pub walk_size-with_text : (w : List Event) (s : List ℕ) (raw : Bool) → walk_size (with_text w s raw) ≡ walk_size w + length s
walk_size-with_text w s raw =
    with_text_cases (λ v. walk_size v ≡ walk_size w + length s) w s raw (λ e. omega arith) (λ ends. walk_size-extended w s ends) (λ _. walk_size-push w (text s raw))

-- and at most one event
pub length-with_text : (w : List Event) (s : List ℕ) (raw : Bool) → length (with_text w s raw) ≤ length w + 1
length-with_text w s raw =
    with_text_cases (λ v. length v ≤ length w + 1) w s raw (λ e. omega arith) (λ ends. omega (arith, length-extended w s)) (λ _. omega (arith, length-append w (text s raw ∷ [])))

agrees-more : (e : Event) (more : List ℕ) (raw : Bool) → agrees (with_more e more) raw ≡ agrees e raw
agrees-more (doctype legacy) more raw = refl
agrees-more (start n foreign attributes) more raw = refl
agrees-more (text s is_raw) more raw = refl
agrees-more (comment s) more raw = refl
agrees-more (end n foreign) more raw = refl

last_agrees-extended : (w : List Event) (more : List ℕ) (raw : Bool) → last_agrees (extended w more) raw ≡ last_agrees w raw
last_agrees-extended [] more raw = refl
last_agrees-extended (x ∷ []) more raw = agrees-more x more raw
last_agrees-extended (x ∷ y ∷ []) more raw = last_agrees-extended (y ∷ []) more raw
last_agrees-extended (x ∷ y ∷ z ∷ w) more raw = last_agrees-extended (y ∷ z ∷ w) more raw

-- whether a text may follow depends only on the last event
pub last_agrees-push : (w : List Event) (e : Event) (raw : Bool) → last_agrees (w ++ e ∷ []) raw ≡ agrees e raw
last_agrees-push [] e raw = refl
last_agrees-push (x ∷ []) e raw = refl
last_agrees-push (x ∷ y ∷ w) e raw = last_agrees-push (y ∷ w) e raw

same_flag-self : (b : Bool) → same_flag b b ≡ true
same_flag-self true = refl
same_flag-self false = refl

-- a text may follow a text of its kind
pub last_agrees-with_text : (w : List Event) (s : List ℕ) (raw : Bool) → last_agrees w raw ≡ true → last_agrees (with_text w s raw) raw ≡ true
last_agrees-with_text w s raw h =
    with_text_cases (λ v. last_agrees v raw ≡ true) w s raw (λ _. h) (λ _. last_agrees-extended w s raw ∙ h) (λ _. last_agrees-push w (text s raw) raw ∙ same_flag-self raw)

-- room for a text, joined or not
pub HasRoom-text : (w : List Event) (s : List ℕ) (raw : Bool) → length w + length (path_after [] w) + 1 < 2 ^ 29 → walk_size w + length s < 2 ^ 29 → HasRoom (with_text w s raw)
HasRoom-text w s raw events bytes = record {
  events = omega (arith, length-with_text w s raw, ap length (path_after-with_text [] w s raw));
  bytes = omega (arith, walk_size-with_text w s raw);
}

closes : (path : List Element) (w : List Event) → length path ≤ length (path_after path w) + length w
closes path [] = omega arith
closes path (e ∷ w) = omega (arith, closes (path_after_event path e) w, (length-path_after_event path e).1)

path_cut : (path : List Element) (w : List Event) (i : ℕ) → path_after (path_after path (take i w)) (drop i w) ≡ path_after path w
path_cut path w zero = refl
path_cut path [] (suc i) = refl
path_cut path (e ∷ w) (suc i) = path_cut (path_after_event path e) w i

size_cut : (w : List Event) (i : ℕ) → walk_size (take i w) ≤ walk_size w
size_cut w zero = omega arith
size_cut [] (suc i) = omega arith
size_cut (e ∷ w) (suc i) = omega (arith, size_cut w i)

length_cut : (w : List Event) (i : ℕ) → length (take i w) + length (drop i w) ≡ length w
length_cut w zero = omega arith
length_cut [] (suc i) = refl
length_cut (e ∷ w) (suc i) = omega (arith, length_cut w i)

-- each prefix of a tree's walk has room
pub HasRoom-take : (w : List Event) (i : ℕ) → IsWalk w → HasRoom (take i w)
HasRoom-take w i walk =
    let closed : path_after (path_after [] (take i w)) (drop i w) ≡ [] = path_cut [] w i ∙ walk.closed in
    record {
      events = omega (arith, walk.events, length_cut w i, closes (path_after [] (take i w)) (drop i w), ap length closed);
      bytes = omega (arith, walk.bytes, size_cut w i);
    }

-- one more event takes at most two places, its own and that of its end
pub length-push : (w : List Event) (e : Event) → length (w ++ e ∷ []) + length (path_after [] (w ++ e ∷ [])) ≤ length w + length (path_after [] w) + 2
length-push w e = omega (arith, ap length (path_after-push [] w e), (length-path_after_event (path_after [] w) e).0, length-append w (e ∷ []))

pub length-text : (w : List Event) (s : List ℕ) (raw : Bool) → length (with_text w s raw) + length (path_after [] (with_text w s raw)) ≤ length w + length (path_after [] w) + 1
length-text w s raw = omega (arith, length-with_text w s raw, ap length (path_after-with_text [] w s raw))

-- for `grind`: room, sizes and the last event after one more event or text
pub ruleset room = (HasRoom-push, HasRoom-text, length-push, length-text, walk_size-push, walk_size-with_text, last_agrees-push, last_agrees-with_text)
