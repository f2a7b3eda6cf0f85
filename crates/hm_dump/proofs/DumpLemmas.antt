-- Lines event by event, attributes one by one, and quoting a text byte by byte.
use Rattle.std.proofs.Common.{◌≡◌, ℕ, zero, suc, Bool, false, Bor, ◌+◌, ◌-◌, ◌<◌, ◌≤◌, List, [], ◌∷◌, ◌++◌, length, take, drop, get_or, slice_get, flat_map, Some, refl, sym, ap, ◌∙◌, subst, arith, append_assoc, length-drop}
use Rattle.std.proofs.lemmas.Grind.{flat_map-append}
use Rattle.std.proofs.lemmas.List.{append-nil, take_more, take-append-drop, get_or-drop}
use Rattle.std.proofs.Math.Seq.{take-suc}
use Rattle.std.proofs.lemmas.Option.{slice_get_within, get_or_from_slice_get}
use Rattle.hm_base.specs.Walks.{Event, Element, path_after_event, path_after}
use Rattle.hm_tree.specs.declared.events.EventView.{EventView}
use Rattle.hm_tree.specs.declared.events.EventView.TheVariants.{Doctype, Start, Text, Comment, End}
use Rattle.hm_tree.specs.Views.{event_of}
use Rattle.hm_dump.specs.Runs.{is_escaped, IsPlainRun}
use Rattle.hm_dump.specs.Dump.{quoted_byte, event_text, whole_line, line_of, lines_from, dump_of}

-- one more element of a list that is written out element by element
pub flat_map_step : {X : Type 0} (f : X → List ℕ) (xs : List X) (i : ℕ) (x : X) → slice_get xs i ≡ Some x
    → flat_map f (take i xs) ++ f x ≡ flat_map f (take (i + 1) xs)
flat_map_step f xs i x at =
    rw (take_more xs i x (slice_get_within xs i x at), get_or_from_slice_get xs i x x at, flat_map-append f (take i xs) (x ∷ []), append-nil) refl

-- lines of events, and of others after them
pub lines_from-append : (path : List Element) (w v : List Event) → lines_from path (w ++ v) ≡ lines_from path w ++ lines_from (path_after path w) v
lines_from-append path [] v = refl
lines_from-append path (e ∷ w) v = ap (λ l. line_of (length path) e ++ l) (lines_from-append (path_after_event path e) w v) ∙ sym (append_assoc (line_of (length path) e) (lines_from (path_after_event path e) w) (lines_from (path_after (path_after_event path e) w) v))

module _ (w : List Event) (i : ℕ) (e : Event) (at : slice_get w i ≡ Some e) where
  taken : take (i + 1) w ≡ take i w ++ e ∷ []
  taken = rw (take_more w i e (slice_get_within w i e at), get_or_from_slice_get w i e e at) refl

  -- the lines up to event i, with its own
  pub lines_from-take : lines_from [] (take i w) ++ line_of (length (path_after [] (take i w))) e ≡ lines_from [] (take (i + 1) w)
  lines_from-take = sym (ap (lines_from []) taken ∙ lines_from-append [] (take i w) (e ∷ []) ∙ ap (λ l. lines_from [] (take i w) ++ l) (append-nil (line_of (length (path_after [] (take i w))) e)))

-- the lines up to event i, with those that are left
pub lines_from-rest : (w : List Event) (i : ℕ) → lines_from [] (take i w) ++ lines_from (path_after [] (take i w)) (drop i w) ≡ dump_of w
lines_from-rest w i = sym (lines_from-append [] (take i w) (drop i w)) ∙ ap (lines_from []) (take-append-drop i w)

plain_byte : (c : ℕ) → is_escaped c ≡ false → quoted_byte c ≡ c ∷ []
unfolding is_escaped
plain_byte c h = grind arith

one_more : (s : List ℕ) (at : ℕ) → at < length s → flat_map quoted_byte (take (at + 1) s) ≡ flat_map quoted_byte (take at s) ++ quoted_byte (get_or s at 0)
one_more s at within = rw (take_more s at 0 within, flat_map-append quoted_byte (take at s) (get_or s at 0 ∷ []), append-nil) refl

-- a byte more of a text in quotes
pub quoted_one : (s : List ℕ) (at : ℕ) → at < length s → flat_map quoted_byte (take at s) ++ quoted_byte (get_or s at 0) ≡ flat_map quoted_byte (take (at + 1) s)
quoted_one s at within = sym (one_more s at within)

-- a run more of bytes that stand for themselves
pub quoted_run : (s : List ℕ) (from to : ℕ) → from ≤ to → to ≤ length s → IsPlainRun s from to → flat_map quoted_byte (take from s) ++ take (to - from) (drop from s) ≡ flat_map quoted_byte (take to s)
quoted_run s from to ordered inside plain = subst (λ n. flat_map quoted_byte (take from s) ++ take (to - from) (drop from s) ≡ flat_map quoted_byte (take n s)) (let e : from + (to - from) ≡ to = omega arith in e) (go (to - from) (omega arith))
  where
    go : (n : ℕ) → from + n ≤ to → flat_map quoted_byte (take from s) ++ take n (drop from s) ≡ flat_map quoted_byte (take (from + n) s)
    go zero low = let none : from + 0 ≡ from = omega arith in rw none (append-nil (flat_map quoted_byte (take from s)))
    go (suc n) low =
        let b = get_or s (from + n) 0 in
        let within : from + n < length s = omega (arith, low, inside) in
        let left : n < length (drop from s) = omega (arith, length-drop from s, within) in
        let longer : take (suc n) (drop from s) ≡ take n (drop from s) ++ b ∷ [] = take-suc (drop from s) n 0 left ∙ ap (λ x. take n (drop from s) ++ x ∷ []) (get_or-drop from s n 0) in
        let stands : quoted_byte b ≡ b ∷ [] = plain_byte b (plain (from + n) (omega arith) (omega (arith, low))) in
        let next : from + n + 1 ≡ from + suc n = omega arith in
        ap (λ l. flat_map quoted_byte (take from s) ++ l) longer ∙ sym (append_assoc (flat_map quoted_byte (take from s)) (take n (drop from s)) (b ∷ [])) ∙ ap (λ l. l ++ b ∷ []) (go n (omega (arith, low)))
        ∙ ap (λ l. flat_map quoted_byte (take (from + n) s) ++ l) (sym stands) ∙ quoted_one s (from + n) within ∙ ap (λ k. flat_map quoted_byte (take k s)) next

-- the line of an event that is no end
pub line_shown : (depth : ℕ) (e : EventView) → ((name : Bor (List ℕ)) (foreign : Bool) → e ≡ End name foreign → ⊥) → line_of depth (event_of e) ≡ whole_line depth (event_text (event_of e))
line_shown depth (Doctype legacy) other = refl
line_shown depth (Start name foreign attrs) other = refl
line_shown depth (Text s raw) other = refl
line_shown depth (Comment s) other = refl
line_shown depth (End name foreign) other = absurd (other name foreign refl)
