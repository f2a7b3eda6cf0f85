-- After a value without quotes a gap may take a byte more than after one in quotes, and nothing else differs.
use Rattle.std.proofs.Common.{◌≡◌, ◌≤◌, ℕ, ◌+◌, Bool, true, false, cond, not, ◌&&◌, List, [], ◌∷◌, ◌++◌, map, length, codes, refl, sym, ap, subst, arith, length-append}
use Rattle.hm_graph_laws.proofs.CharacterWays.{in_map, mapped}
use Rattle.hm_graph_laws.specs.AttributeEdges.{gap_at}
use Rattle.hm_graph_laws.specs.CharacterEdges.{Choice, choices, kept_at}
use Rattle.hm_graph_laws.specs.Edges.{Edge, edge, edge_length, edge_to}
use Rattle.hm_graph_laws.specs.States.{Where, State, Pending, after_quoted, after_unquoted, first_state, in_double, in_single, in_unquoted, after_omitted_end, nothing, self_closed, state}
use Rattle.hm_graph_laws.specs.Steps.{may_end}
use Rattle.hm_graph_laws.specs.TagEdges.{after_left_out, end_bytes}
use Rattle.hm_graph_laws.specs.UnitEdges.{edges_of}
use Rattle.hm_graph_laws.specs.Units.{Unit, in_foreign, in_rcdata, in_text, in_value, fixed, start_tag, tag_name, bare_attribute, attribute_name, character, attribute_end, tag_close, end_tag}
use Rattle.hm_graph_laws.specs.Ways.{Way}
use Rattle.hm_optimality_laws.proofs.Forgetting.{AreBettered, HasBetter, join_bettered, none_bettered, one_bettered, test_bettered}
use Rattle.hm_refs.specs.Tables.{IsIn}
use Rattle.hm_spelling_spec.specs.Characters.{double, foreign, rcdata, text}
use Rattle.hm_spelling_spec.specs.Tags.{Spelling, character_rules}

-- a way from a state with at most n bytes
pub record HasWayWithin (g : Spelling) (units : List Unit) (s : State) (n : ℕ) : Type 0 where
  pub bytes : List ℕ
  pub way : Way (edges_of g) units s bytes
  pub short : length bytes ≤ n

-- f has at most so many bytes more than e and leads to the same state; or it has none more, and each edge keeps its place
pub data IsNear (at near : Where) (more : ℕ) (f e : Edge) : Type 0 where
  meets : edge_length f ≤ edge_length e + more → f.to ≡ e.to → IsNear at near more f e
  keeps : (p : Pending) → edge_length f ≤ edge_length e → e.to ≡ state at p → f.to ≡ state near p → IsNear at near more f e

-- ---- Edges

same_near : (at near : Where) (more : ℕ) (es : List Edge) → AreBettered (IsNear at near more) es es
same_near at near more es e i = (e, i, meets (omega arith) refl)

to_same : (at near : Where) (more : ℕ) (b c : List ℕ) (s : State) → length c ≤ length b + more → AreBettered (IsNear at near more) (edge_to b s ∷ []) (edge_to c s ∷ [])
to_same at near more b c s h = one_bettered (IsNear at near more) (edge_to b s) (edge_to c s) (meets h refl)

in_place : (at near : Where) (more : ℕ) (p : Pending) → AreBettered (IsNear at near more) (edge_to [] (state at p) ∷ []) (edge_to [] (state near p) ∷ [])
in_place at near more p = one_bettered (IsNear at near more) (edge_to [] (state at p)) (edge_to [] (state near p)) (keeps p (omega arith) refl refl)

kept_near : (at near : Where) (more : ℕ) (ks : List Choice) → AreBettered (IsNear at near more) (map (kept_at at) ks) (map (kept_at near) ks)
kept_near at near more ks e i =
    let m = mapped (kept_at at) e ks i in
    (kept_at near m.from, in_map (kept_at near) m.from ks m.among, keeps m.from.to (omega (arith, ap edge_length m.is)) (ap (λ (x : Edge). x.to) m.is) refl)

choices_near : (at near : Where) (more : ℕ) (ks : List Choice) → AreBettered (IsNear at near more) (map (kept_at at) ks ++ []) (map (kept_at near) ks ++ [])
choices_near at near more ks = join_bettered (IsNear at near more) (map (kept_at at) ks) (map (kept_at near) ks) [] [] (kept_near at near more ks) (none_bettered (IsNear at near more) [])

left_out_near : (at near : Where) (more : ℕ) (notes_omission : Bool) (p : Pending) → AreBettered (IsNear at near more) (edge_to [] (after_left_out notes_omission (state at p)) ∷ []) (edge_to [] (after_left_out notes_omission (state near p)) ∷ [])
left_out_near at near more true p = same_near at near more (edge_to [] (state after_omitted_end nothing) ∷ [])
left_out_near at near more false p = in_place at near more p

start_near : (at near : Where) (more : ℕ) (omits : Bool) (es : List Edge) (p : Pending) → AreBettered (IsNear at near more) (cond omits (edge_to [] (state at p) ∷ []) [] ++ es) (cond omits (edge_to [] (state near p) ∷ []) [] ++ es)
start_near at near more omits es p =
    join_bettered (IsNear at near more) (cond omits (edge_to [] (state at p) ∷ []) []) (cond omits (edge_to [] (state near p) ∷ []) []) es es
    (test_bettered (IsNear at near more) omits (edge_to [] (state at p) ∷ []) (edge_to [] (state near p) ∷ []) [] [] (in_place at near more p) (none_bettered (IsNear at near more) []))
    (same_near at near more es)

end_near : (at near : Where) (more : ℕ) (omits notes_omission : Bool) (es : List Edge) (p : Pending)
    → AreBettered (IsNear at near more) (cond omits (edge_to [] (after_left_out notes_omission (state at p)) ∷ []) [] ++ es) (cond omits (edge_to [] (after_left_out notes_omission (state near p)) ∷ []) [] ++ es)
end_near at near more omits notes_omission es p =
    join_bettered (IsNear at near more) (cond omits (edge_to [] (after_left_out notes_omission (state at p)) ∷ []) []) (cond omits (edge_to [] (after_left_out notes_omission (state near p)) ∷ []) []) es es
    (test_bettered (IsNear at near more) omits (edge_to [] (after_left_out notes_omission (state at p)) ∷ []) (edge_to [] (after_left_out notes_omission (state near p)) ∷ []) [] [] (left_out_near at near more notes_omission p) (none_bettered (IsNear at near more) []))
    (same_near at near more es)

-- the gaps before an attribute
abbrev pub GapsNear : Where → Where → ℕ → Bool → Type 0
GapsNear at near more tight = (n : List ℕ) → length (gap_at tight near ++ n) ≤ length (gap_at tight at ++ n) + more

opening_near : (at near : Where) (more : ℕ) (tight unquote : Bool) (n : List ℕ) → GapsNear at near more tight
    → AreBettered (IsNear at near more)
    (cond unquote (edge (gap_at tight at ++ (n ++ codes "=")) in_unquoted nothing ∷ []) [] ++ edge (gap_at tight at ++ (n ++ codes "=\"")) in_double nothing ∷ edge (gap_at tight at ++ (n ++ codes "='")) in_single nothing ∷ [])
    (cond unquote (edge (gap_at tight near ++ (n ++ codes "=")) in_unquoted nothing ∷ []) [] ++ edge (gap_at tight near ++ (n ++ codes "=\"")) in_double nothing ∷ edge (gap_at tight near ++ (n ++ codes "='")) in_single nothing ∷ [])
opening_near at near more tight unquote n h =
    join_bettered (IsNear at near more) (cond unquote (edge (gap_at tight at ++ (n ++ codes "=")) in_unquoted nothing ∷ []) []) (cond unquote (edge (gap_at tight near ++ (n ++ codes "=")) in_unquoted nothing ∷ []) []) _ _
    (test_bettered (IsNear at near more) unquote (edge (gap_at tight at ++ (n ++ codes "=")) in_unquoted nothing ∷ []) (edge (gap_at tight near ++ (n ++ codes "=")) in_unquoted nothing ∷ []) [] []
    (to_same at near more (gap_at tight at ++ (n ++ codes "=")) (gap_at tight near ++ (n ++ codes "=")) (state in_unquoted nothing) (h (n ++ codes "=")))
    (none_bettered (IsNear at near more) []))
    (join_bettered (IsNear at near more) (edge (gap_at tight at ++ (n ++ codes "=\"")) in_double nothing ∷ []) (edge (gap_at tight near ++ (n ++ codes "=\"")) in_double nothing ∷ []) (edge (gap_at tight at ++ (n ++ codes "='")) in_single nothing ∷ []) (edge (gap_at tight near ++ (n ++ codes "='")) in_single nothing ∷ [])
    (to_same at near more (gap_at tight at ++ (n ++ codes "=\"")) (gap_at tight near ++ (n ++ codes "=\"")) (state in_double nothing) (h (n ++ codes "=\"")))
    (to_same at near more (gap_at tight at ++ (n ++ codes "='")) (gap_at tight near ++ (n ++ codes "='")) (state in_single nothing) (h (n ++ codes "='"))))

close_near : (at near : Where) (more : ℕ) (closes : Bool) (slash other : List ℕ) → length other ≤ length slash + more
    → AreBettered (IsNear at near more) (edge_to (62 ∷ []) first_state ∷ cond closes (edge slash self_closed nothing ∷ []) []) (edge_to (62 ∷ []) first_state ∷ cond closes (edge other self_closed nothing ∷ []) [])
close_near at near more closes slash other h =
    join_bettered (IsNear at near more) (edge_to (62 ∷ []) first_state ∷ []) (edge_to (62 ∷ []) first_state ∷ []) (cond closes (edge slash self_closed nothing ∷ []) []) (cond closes (edge other self_closed nothing ∷ []) [])
    (same_near at near more (edge_to (62 ∷ []) first_state ∷ []))
    (test_bettered (IsNear at near more) closes (edge slash self_closed nothing ∷ []) (edge other self_closed nothing ∷ []) [] [] (to_same at near more slash other (state self_closed nothing) h) (none_bettered (IsNear at near more) []))

closing_near : (at near : Where) (more : ℕ) (a b : Bool) → AreBettered (IsNear at near more) (cond a [] []) (cond b [] [])
closing_near at near more true b = none_bettered (IsNear at near more) _
closing_near at near more false b = none_bettered (IsNear at near more) _

-- ---- The edges of each unit

abbrev pub AreNear : Spelling → Where → Where → ℕ → Type 0
AreNear g at near more = (unit : Unit) (p : Pending) → AreBettered (IsNear at near more) (edges_of g unit (state at p)) (edges_of g unit (state near p))

gaps_quoted : (tight : Bool) → GapsNear after_unquoted after_quoted 0 tight
gaps_quoted true n = omega arith
gaps_quoted false n = omega arith

gaps_unquoted : (tight : Bool) → GapsNear after_quoted after_unquoted 1 tight
gaps_unquoted true n = omega arith
gaps_unquoted false n = omega arith

pub quoted_near : (g : Spelling) → AreNear g after_unquoted after_quoted 0
quoted_near g (fixed b) p = same_near after_unquoted after_quoted 0 (edges_of g (fixed b) (state after_quoted p))
quoted_near g (start_tag n omits required_after_omission closes) p = start_near after_unquoted after_quoted 0 (omits && not (required_after_omission && false)) _ p
quoted_near g (tag_name n) p = same_near after_unquoted after_quoted 0 (edges_of g (tag_name n) (state after_quoted p))
quoted_near g (bare_attribute n) p = to_same after_unquoted after_quoted 0 _ _ _ (gaps_quoted g.rules.tight n)
quoted_near g (attribute_name n v) p = opening_near after_unquoted after_quoted 0 g.rules.tight g.rules.unquote n (gaps_quoted g.rules.tight)
quoted_near g (character in_text c next) p = choices_near after_unquoted after_quoted 0 (choices g.table (character_rules g) text c next p)
quoted_near g (character in_rcdata c next) p = choices_near after_unquoted after_quoted 0 (choices g.table (character_rules g) rcdata c next p)
quoted_near g (character in_foreign c next) p = choices_near after_unquoted after_quoted 0 (choices g.table (character_rules g) foreign c next p)
quoted_near g (character in_value c next) p = choices_near after_unquoted after_quoted 0 (choices g.table (character_rules g) double c next p)
quoted_near g attribute_end p = closing_near after_unquoted after_quoted 0 (may_end g.table double p) (may_end g.table double p)
quoted_near g (tag_close closes) p = close_near after_unquoted after_quoted 0 closes (codes " />") (codes "/>") (omega arith)
quoted_near g (end_tag n omits notes_omission) p = end_near after_unquoted after_quoted 0 omits notes_omission (edge_to (end_bytes n) first_state ∷ []) p

pub unquoted_near : (g : Spelling) → AreNear g after_quoted after_unquoted 1
unquoted_near g (fixed b) p = same_near after_quoted after_unquoted 1 (edges_of g (fixed b) (state after_quoted p))
unquoted_near g (start_tag n omits required_after_omission closes) p = start_near after_quoted after_unquoted 1 (omits && not (required_after_omission && false)) _ p
unquoted_near g (tag_name n) p = same_near after_quoted after_unquoted 1 (edges_of g (tag_name n) (state after_quoted p))
unquoted_near g (bare_attribute n) p = to_same after_quoted after_unquoted 1 _ _ _ (gaps_unquoted g.rules.tight n)
unquoted_near g (attribute_name n v) p = opening_near after_quoted after_unquoted 1 g.rules.tight g.rules.unquote n (gaps_unquoted g.rules.tight)
unquoted_near g (character in_text c next) p = choices_near after_quoted after_unquoted 1 (choices g.table (character_rules g) text c next p)
unquoted_near g (character in_rcdata c next) p = choices_near after_quoted after_unquoted 1 (choices g.table (character_rules g) rcdata c next p)
unquoted_near g (character in_foreign c next) p = choices_near after_quoted after_unquoted 1 (choices g.table (character_rules g) foreign c next p)
unquoted_near g (character in_value c next) p = choices_near after_quoted after_unquoted 1 (choices g.table (character_rules g) double c next p)
unquoted_near g attribute_end p = closing_near after_quoted after_unquoted 1 (may_end g.table double p) (may_end g.table double p)
unquoted_near g (tag_close closes) p = close_near after_quoted after_unquoted 1 closes (codes "/>") (codes " />") (omega arith)
unquoted_near g (end_tag n omits notes_omission) p = end_near after_quoted after_unquoted 1 omits notes_omission (edge_to (end_bytes n) first_state ∷ []) p

-- ---- Ways

pub way_near : (g : Spelling) (at near : Where) (more : ℕ) → AreNear g at near more → (units : List Unit) (p : Pending) (b : List ℕ) → Way (edges_of g) units (state at p) b → HasWayWithin g units (state near p) (length b + more)
way_near g at near more h [] p b w = record { bytes = []; way = refl; short = omega arith }
way_near g at near more h (unit ∷ units) p b (e, i, (rest, is, w)) = with_edge (h unit p e i) (λ q v. way_near g at near more h units q rest v)
  where
    cut : length b ≡ length e.bytes + length rest
    cut = rw is (length-append e.bytes rest)

    through : (f : Edge) (n : ℕ) → IsIn f (edges_of g unit (state near p)) → HasWayWithin g units f.to n → length f.bytes + n ≤ length b + more → HasWayWithin g (unit ∷ units) (state near p) (length b + more)
    through f n j v s = record { bytes = f.bytes ++ v.bytes; way = (f, j, (v.bytes, refl, v.way)); short = let k = v.short in omega (arith, length-append f.bytes v.bytes, k, s) }

    by_case : (f : Edge) → IsIn f (edges_of g unit (state near p)) → IsNear at near more f e → ((q : Pending) → Way (edges_of g) units (state at q) rest → HasWayWithin g units (state near q) (length rest + more))
        → HasWayWithin g (unit ∷ units) (state near p) (length b + more)
    by_case f j (meets short same) go_on = through f (length rest) j (record { bytes = rest; way = subst (λ s. Way (edges_of g) units s rest) (sym same) w; short = omega arith }) (omega (arith, cut, short))
    by_case f j (keeps q short here there) go_on =
        through f (length rest + more) j (subst (λ s. HasWayWithin g units s (length rest + more)) (sym there) (go_on q (subst (λ s. Way (edges_of g) units s rest) here w))) (omega (arith, cut, short))

    with_edge : HasBetter (IsNear at near more) (edges_of g unit (state near p)) e → ((q : Pending) → Way (edges_of g) units (state at q) rest → HasWayWithin g units (state near q) (length rest + more)) → HasWayWithin g (unit ∷ units) (state near p) (length b + more)
    with_edge (f, j, near_so) go_on = by_case f j near_so go_on
