-- There is room for what is built of a page.
use Rattle.std.proofs.Common.{◌≡◌, ℕ, suc, ◌+◌, ◌*◌, ◌^◌, ◌≤◌, ◌<◌, Bool, List, [], ◌∷◌, ◌++◌, length, refl, subst, arith}
use Rattle.std.proofs.lemmas.List.{length-append}
use Rattle.hm_base.specs.Walks.{Event, doctype, start, text, comment, end, Element, path_after, text_before, pushes, walk_size}
use Rattle.hm_base.specs.declared.rules.Rule.{Rule}
use Rattle.hm_tree.specs.Tokens.{Seen, doctype as doctype_token, start_tag, end_tag, slice, points, comment as comment_token}
use Rattle.hm_tree.specs.Trees.{HasRoom}
use Rattle.hm_token_laws.specs.Laws.{token_size, least_size, growth}
use Rattle.hm_construction_laws.specs.Steps.{Construction, Stepped, went, stops, step, step_over, first_state}
use Rattle.hm_insertion.specs.Building.{Fits, grown}
use Rattle.hm_construction_laws.specs.Weights.{weight, load, load_size, cost, size_cost, span, Within, WithinAll}
use Rattle.hm_build.specs.Parsing.{IsWithin}
use Rattle.hm_construction_laws.proofs.Weights.{weight-append, walk_size-append, step_within, over_within}

pub first_within : IsWithin 0 [] first_state
first_within = record { events = omega arith; bytes = omega arith }

-- an element that is open was opened by an event
open_few : (path : List Element) (w : List Event) → length w + length (path_after path w) ≤ weight w + length path
open_few path [] = omega arith
open_few path (doctype legacy ∷ w) = let h : length w + length (path_after path w) ≤ weight w + length path = open_few path w in omega arith
open_few path (start n foreign attributes ∷ w) =
    let h : length w + length (path_after (record { name = n; foreign = foreign } ∷ path) w) ≤ weight w + suc (length path) = open_few (record { name = n; foreign = foreign } ∷ path) w in omega arith
open_few path (text s raw ∷ w) = let h : length w + length (path_after path w) ≤ weight w + length path = open_few path w in omega arith
open_few path (comment s ∷ w) = let h : length w + length (path_after path w) ≤ weight w + length path = open_few path w in omega arith
open_few [] (end n foreign ∷ w) = let h : length w + length (path_after [] w) ≤ weight w + length {A = Element} [] = open_few [] w in omega arith
open_few (e ∷ path) (end n foreign ∷ w) = let h : length w + length (path_after path w) ≤ weight w + length path = open_few path w in omega arith

has_room : (w : List Event) → weight w < 2 ^ 29 → walk_size w < 2 ^ 29 → HasRoom w
has_room w h k =
    let o : length w + length (path_after [] w) ≤ weight w + length {A = Element} [] = open_few [] w in
    record { events = below (length w + length (path_after [] w)) (weight w) (2 ^ 29) (omega arith) h; bytes = k }
  where
    below : (a b c : ℕ) → a ≤ b → b < c → a < c
    below a b c x y = omega arith

-- joined texts are no more
text_before_few : (s : List ℕ) (raw : Bool) (w : List Event) → (weight (text_before s raw w) ≤ suc (weight w)) × (walk_size (text_before s raw w) ≡ length s + walk_size w)
text_before_few s raw [] = (omega arith, refl)
text_before_few s raw (text t next_raw ∷ w) = let h : length (s ++ t) ≡ length s + length t = length-append s t in (omega arith, omega arith)
text_before_few s raw (doctype legacy ∷ w) = (omega arith, refl)
text_before_few s raw (start n foreign attributes ∷ w) = (omega arith, refl)
text_before_few s raw (comment t ∷ w) = (omega arith, refl)
text_before_few s raw (end n foreign ∷ w) = (omega arith, refl)

pushes_few : (es w : List Event) → (weight (pushes es w) ≤ weight es + weight w) × (walk_size (pushes es w) ≡ walk_size es + walk_size w)
pushes_few [] w = (omega arith, omega arith)
pushes_few (text s raw ∷ es) w =
    let h : (weight (pushes es w) ≤ weight es + weight w) × (walk_size (pushes es w) ≡ walk_size es + walk_size w) = pushes_few es w in
    let a : weight (pushes es w) ≤ weight es + weight w = h.0 in
    let b : walk_size (pushes es w) ≡ walk_size es + walk_size w = h.1 in
    let c : weight (text_before s raw (pushes es w)) ≤ suc (weight (pushes es w)) = (text_before_few s raw (pushes es w)).0 in
    let d : walk_size (text_before s raw (pushes es w)) ≡ length s + walk_size (pushes es w) = (text_before_few s raw (pushes es w)).1 in
    (omega arith, omega arith)
pushes_few (doctype legacy ∷ es) w = let a : weight (pushes es w) ≤ weight es + weight w = (pushes_few es w).0 in let b : walk_size (pushes es w) ≡ walk_size es + walk_size w = (pushes_few es w).1 in (omega arith, omega arith)
pushes_few (start n foreign attributes ∷ es) w = let a : weight (pushes es w) ≤ weight es + weight w = (pushes_few es w).0 in let b : walk_size (pushes es w) ≡ walk_size es + walk_size w = (pushes_few es w).1 in (omega arith, omega arith)
pushes_few (comment s ∷ es) w = let a : weight (pushes es w) ≤ weight es + weight w = (pushes_few es w).0 in let b : walk_size (pushes es w) ≡ walk_size es + walk_size w = (pushes_few es w).1 in (omega arith, omega arith)
pushes_few (end n foreign ∷ es) w = let a : weight (pushes es w) ≤ weight es + weight w = (pushes_few es w).0 in let b : walk_size (pushes es w) ≡ walk_size es + walk_size w = (pushes_few es w).1 in (omega arith, omega arith)

grown_few : (w es : List Event) → (weight (grown w es) ≤ weight w + weight es) × (walk_size (grown w es) ≡ walk_size w + walk_size es)
unfolding grown
grown_few w es =
    let a : weight (pushes (w ++ es) []) ≤ weight (w ++ es) + 0 = (pushes_few (w ++ es) []).0 in
    let b : walk_size (pushes (w ++ es) []) ≡ walk_size (w ++ es) + 0 = (pushes_few (w ++ es) []).1 in
    let c : weight (w ++ es) ≡ weight w + weight es = weight-append w es in
    let d : walk_size (w ++ es) ≡ walk_size w + walk_size es = walk_size-append w es in
    (omega arith, omega arith)

-- what a token may add, against the bytes that it was read from
few_events : (token : Seen) (count : ℕ) → token_size token ≤ growth token * count → least_size token ≤ count → cost token ≤ 3 * count
few_events (doctype_token legacy) count a b = omega arith
few_events (start_tag n attributes slash) count a b = omega arith
few_events (end_tag n) count a b = omega arith
few_events (slice s) count a b = omega arith
few_events (points ps) count a b = omega arith
few_events (comment_token s) count a b = omega arith

few_bytes : (token : Seen) (count : ℕ) → token_size token ≤ growth token * count → least_size token ≤ count → size_cost token ≤ 6 * count
few_bytes (doctype_token legacy) count a b = omega arith
few_bytes (start_tag n attributes slash) count a b = omega arith
few_bytes (end_tag n) count a b = omega arith
few_bytes (slice s) count a b = omega arith
few_bytes (points ps) count a b = omega arith
few_bytes (comment_token s) count a b = omega arith

-- the events of a step after the walk, none joined
went_within : (read count a b m : ℕ) (w es : List Event) (st next : Construction) → IsWithin read w st → a ≤ 3 * count → b ≤ 6 * count → Within (load st + a) (load_size st + b) m (went es next)
    → (weight (w ++ es) + load next ≤ 3 * (read + count) + 13) × (walk_size (w ++ es) + load_size next ≤ 6 * (read + count) + 12)
went_within read count a b m w es st next in_it h k x =
    let c : weight (w ++ es) ≡ weight w + weight es = weight-append w es in
    let d : walk_size (w ++ es) ≡ walk_size w + walk_size es = walk_size-append w es in
    let e : weight w + load st ≤ 3 * read + 13 = in_it.events in
    let f : walk_size w + load_size st ≤ 6 * read + 12 = in_it.bytes in
    let p : weight es + load next ≤ load st + a = x.0 in
    let q : walk_size es + load_size next ≤ load_size st + b = x.1 in
    (omega arith, omega arith)

-- there is room for a step
pub step_fits : (read count total : ℕ) (w : List Event) (st : Construction) (token : Seen) → IsWithin read w st → token_size token ≤ growth token * count → least_size token ≤ count → read + count ≤ total → 6 * total + 13 < 2 ^ 29 → Fits (step st token) w
step_fits read count total w st token in_it small least inside fits = by (step st token) (step_within st token)
  where
    by : (x : Stepped) → Within (load st + cost token) (load_size st + size_cost token) (span token) x → Fits x w
    by (stops rule n) v = tt
    by (went es next) v =
        let k : (weight (w ++ es) + load next ≤ 3 * (read + count) + 13) × (walk_size (w ++ es) + load_size next ≤ 6 * (read + count) + 12) = went_within read count (cost token) (size_cost token) (span token) w es st next in_it (few_events token count small least) (few_bytes token count small least) v in
        let a : weight (w ++ es) + load next ≤ 3 * (read + count) + 13 = k.0 in
        let b : walk_size (w ++ es) + load_size next ≤ 6 * (read + count) + 12 = k.1 in
        has_room (w ++ es) (below (weight (w ++ es)) (6 * total + 13) (2 ^ 29) (omega arith) fits) (below (walk_size (w ++ es)) (6 * total + 13) (2 ^ 29) (omega arith) fits)
      where
        below : (a b c : ℕ) → a ≤ b → b < c → a < c
        below a b c x y = omega arith

-- and what is built stays within it
pub step_stays : (read count : ℕ) (w es : List Event) (st next : Construction) (token : Seen) → IsWithin read w st → token_size token ≤ growth token * count → least_size token ≤ count → step st token ≡ went es next → IsWithin (read + count) (grown w es) next
step_stays read count w es st next token in_it small least e =
    let v : Within (load st + cost token) (load_size st + size_cost token) (span token) (went es next) = subst (Within (load st + cost token) (load_size st + size_cost token) (span token)) e (step_within st token) in
    let k : (weight (w ++ es) + load next ≤ 3 * (read + count) + 13) × (walk_size (w ++ es) + load_size next ≤ 6 * (read + count) + 12) = went_within read count (cost token) (size_cost token) (span token) w es st next in_it (few_events token count small least) (few_bytes token count small least) v in
    let a : weight (w ++ es) + load next ≤ 3 * (read + count) + 13 = k.0 in
    let b : walk_size (w ++ es) + load_size next ≤ 6 * (read + count) + 12 = k.1 in
    let c : weight (w ++ es) ≡ weight w + weight es = weight-append w es in
    let d : walk_size (w ++ es) ≡ walk_size w + walk_size es = walk_size-append w es in
    let p : weight (grown w es) ≤ weight w + weight es = (grown_few w es).0 in
    let q : walk_size (grown w es) ≡ walk_size w + walk_size es = (grown_few w es).1 in
    record { events = omega arith; bytes = omega arith }

-- there is room for what is left at the end
pub over_fits : (read total : ℕ) (w : List Event) (st : Construction) → IsWithin read w st → read ≤ total → 6 * total + 13 < 2 ^ 29 → Fits (step_over st) w
over_fits read total w st in_it inside fits = by (step_over st) (over_within st)
  where
    by : (x : Stepped) → WithinAll (load st) (load_size st) x → Fits x w
    by (stops rule n) v = tt
    by (went es next) v =
        let c : weight (w ++ es) ≡ weight w + weight es = weight-append w es in
        let d : walk_size (w ++ es) ≡ walk_size w + walk_size es = walk_size-append w es in
        let e : weight w + load st ≤ 3 * read + 13 = in_it.events in
        let f : walk_size w + load_size st ≤ 6 * read + 12 = in_it.bytes in
        let p : weight es ≤ load st = v.0 in
        let q : walk_size es ≤ load_size st = v.1 in
        has_room (w ++ es) (below (weight (w ++ es)) (6 * total + 13) (2 ^ 29) (omega arith) fits) (below (walk_size (w ++ es)) (6 * total + 13) (2 ^ 29) (omega arith) fits)
      where
        below : (a b c : ℕ) → a ≤ b → b < c → a < c
        below a b c x y = omega arith

-- a step is refused inside its token
span_within : (token : Seen) (count : ℕ) → token_size token ≤ growth token * count → span token ≤ count
span_within (doctype_token legacy) count a = omega arith
span_within (start_tag n attributes slash) count a = omega arith
span_within (end_tag n) count a = omega arith
span_within (slice s) count a = omega arith
span_within (points ps) count a = omega arith
span_within (comment_token s) count a = omega arith

pub stops_inside : (st : Construction) (token : Seen) (rule : Rule) (n count : ℕ) → token_size token ≤ growth token * count → step st token ≡ stops rule n → n ≤ count
stops_inside st token rule n count small e =
    let a : n ≤ span token = subst (Within (load st + cost token) (load_size st + size_cost token) (span token)) e (step_within st token) in
    let b : span token ≤ count = span_within token count small in
    omega arith

pub over_stops_there : (st : Construction) (rule : Rule) (n : ℕ) → step_over st ≡ stops rule n → n ≡ 0
over_stops_there st rule n e = subst (WithinAll (load st) (load_size st)) e (over_within st)

pub within_further : (read further : ℕ) (w : List Event) (st : Construction) → read ≤ further → IsWithin read w st → IsWithin further w st
within_further read further w st h in_it =
    let a : weight w + load st ≤ 3 * read + 13 = in_it.events in
    let b : walk_size w + load_size st ≤ 6 * read + 12 = in_it.bytes in
    record { events = omega arith; bytes = omega arith }
