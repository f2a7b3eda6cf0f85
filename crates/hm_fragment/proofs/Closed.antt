-- A text that closes its body takes no further end tag of body.
use Rattle.std.proofs.Common.{◌≡◌, ℕ, zero, suc, pred, ◌+◌, ◌-◌, ◌≤◌, inl, inr, Bool, true, false, cond, List, [], ◌∷◌, ◌++◌, length, drop, Some, None, refl, sym, ap, ◌∙◌, subst, arith, length-append}
use Rattle.std.proofs.lemmas.Bool.{both_ways}
use Rattle.hm_base.specs.Bytes.{is_null, is_letter, lower}
use Rattle.hm_base.specs.Forms as forms
use Rattle.hm_base.specs.Forms.{is_blank, is_tag_name}
use Rattle.hm_base.specs.Walks.{Event}
use Rattle.hm_base.specs.Walks.{Element}
use Rattle.hm_elements.specs.Names.{body}
use Rattle.hm_elements.specs.Paths.{is_in_raw}
use Rattle.hm_refs.specs.Names.{Entry}
use Rattle.hm_refs.specs.Tables.{IsTable}
use Rattle.hm_tree.specs.Tokens.{Seen, Scanned, taken, refused}
use Rattle.hm_tree.specs.Tokens as tokens
use Rattle.hm_token_laws.specs.First.{ordinary, after_empty_tags, read_here, Next, at_end, after_bytes, first}
use Rattle.hm_token_laws.specs.Laws.{IsPlain, SoundNames, SoundToken}
use Rattle.hm_token_laws.specs.Written.{IsNextMarkup}
use Rattle.hm_token_laws.proofs.Firsts.{tokens_are_sound}
use Rattle.hm_token_laws.proofs.TextPieces.{names_of_table}
use Rattle.hm_token_laws.proofs.Written.{ends_are_next}
use Rattle.hm_construction_laws.specs.Steps.{InsertionMode, initial, before_html, before_head, in_head, after_head, in_body, after_body, after_html, Construction, Stepped, went, stops, no_drop, step_bytes, step, first_state}
use Rattle.hm_construction_laws.specs.Trees.{Outcome, built, refused_by, after_events, mode_of, stepped, next_step, tree_from}
use Rattle.hm_construction_laws.proofs.Standing.{Good, Shape, Leads, AtEnd}
use Rattle.hm_construction_laws.proofs.Bytes.{Ran, ran, halted, all_ran, keeps_in_text, good_still}
use Rattle.hm_construction_laws.proofs.Modes.{is_mode, in_text}
use Rattle.hm_construction_laws.proofs.Built.{token_leads}
use Rattle.hm_construction_laws.proofs.Closing.{StaysOpen, bytes_open}
use Rattle.hm_construction_laws.proofs.Rests.{rest_is}
use Rattle.hm_construction_laws.specs.Closing.{is_after_body, closed_step, closed_next, closed_from}
use Rattle.hm_fragment.specs.Laws.{body_end, ClosedPagesTakeNoEndTag}
use Rattle.hm_fragment.proofs.PastBodyText.{IsPastBody, at_end_is_after, GoesBy, token_goes, body_end_stops}
use Rattle.hm_fragment.proofs.Longer.{GoesOn, tags_longer, first_longer}

-- ---- The end tag after a text

end_is_next : (t : List Entry) → IsNextMarkup t ordinary body_end (tokens.end_tag body) []
unfolding lower is_tag_name is_letter forms.is_small forms.is_tag_byte
end_is_next t = ends_are_next t ordinary body body_end [] refl refl (record { written = body; gap = []; is = refl; lowered = refl; blank = refl })

end_here : (t : List Entry) → read_here t false body_end ≡ taken (tokens.end_tag body) []
unfolding first
end_here t = let h : after_bytes 0 (read_here t false body_end) ≡ after_bytes 0 (taken (tokens.end_tag body) []) = (end_is_next t).1 in cc

-- where a text has no token more, the end tag is next
over_longer : (t : List Entry) (s : List ℕ) → first t ordinary s ≡ at_end → first t ordinary (s ++ body_end) ≡ after_bytes (after_empty_tags s).count (taken (tokens.end_tag body) [])
unfolding first
over_longer t s h = rw (tags_longer s) (by (after_empty_tags s).rest refl h)
  where
    by : (r : List ℕ) → (after_empty_tags s).rest ≡ r → cond (is_null (after_empty_tags s).rest) at_end (after_bytes (after_empty_tags s).count (read_here t false (after_empty_tags s).rest)) ≡ at_end
        → cond (is_null ((after_empty_tags s).rest ++ body_end)) at_end (after_bytes (after_empty_tags s).count (read_here t false ((after_empty_tags s).rest ++ body_end))) ≡ after_bytes (after_empty_tags s).count (taken (tokens.end_tag body) [])
    by [] e k = rw e (ap (after_bytes (after_empty_tags s).count) (end_here t))
    by (c ∷ r) e k = let no : after_bytes (after_empty_tags s).count (read_here t false (c ∷ r)) ≡ at_end = rw e at k in cc

-- ---- Outcomes

record BuiltAfter (o : Outcome) : Type 0 where
  rest : List Event
  is : o ≡ built rest

after_built : (es : List Event) (o : Outcome) (w : List Event) → after_events es o ≡ built w → BuiltAfter o
after_built es (built v) w h = record { rest = v; is = refl }
after_built es (refused_by rule at) w h = cc

same_skip : (c : ℕ) (s rest : List ℕ) → pred (length (c ∷ (s ++ body_end)) - length (rest ++ body_end)) ≡ pred (length (c ∷ s) - length rest)
same_skip c s rest = let a = length-append s body_end in let b = length-append rest body_end in omega (arith, a, b)

-- ---- After body

-- what is read of a text after body isn't read with one more end tag of body
abbrev StillAfter : List Entry → (ℕ → ℕ) → List ℕ → Type 0
StillAfter t place s = (skip at : ℕ) (st : Construction) (v w : List Event) → skip ≤ length s → IsPastBody st → tree_from t place skip at st s ≡ built v → tree_from t place skip at st (s ++ body_end) ≡ built w → ⊥

tag_stops : (place : ℕ → ℕ) (at n : ℕ) (st : Construction) (s : List ℕ) (w : List Event) (x : Next) (more : ℕ → Construction → Outcome) → IsPastBody st → x ≡ after_bytes n (taken (tokens.end_tag body) []) → next_step place at st s x more ≡ built w → ⊥
tag_stops place at n st s w x more b e h =
    let k : stepped place (at + n) (step st (tokens.end_tag body)) (more (pred (length s - 0))) ≡ built w = rw e at h in
    let m : refused_by _ _ ≡ built w = rw (body_end_stops st b) at k in
    cc

module _ (t : List Entry) (table : IsTable t) (place : ℕ → ℕ) where
  text_after_token : (at : ℕ) (st : Construction) (c : ℕ) (s : List ℕ) (v w : List Event) → StillAfter t place s → IsPastBody st → (x : Next) → first t ordinary (c ∷ s) ≡ x
      → next_step place at st (c ∷ s) x (λ skip next. tree_from t place skip (at + 1) next s) ≡ built v
      → next_step place at st (c ∷ (s ++ body_end)) (first t ordinary (c ∷ (s ++ body_end))) (λ skip next. tree_from t place skip (at + 1) next (s ++ body_end)) ≡ built w → ⊥
  text_after_token at st c s v w more b at_end e h k = tag_stops place at (after_empty_tags (c ∷ s)).count st (c ∷ (s ++ body_end)) w _ _ b (over_longer t (c ∷ s) e) k
  text_after_token at st c s v w more b (after_bytes n (refused fault)) e h k = cc
  text_after_token at st c s v w more b (after_bytes n (taken token rest)) e h k = by (step st token) refl (token_goes token st b) h
    where
      skip : ℕ
      skip = pred (length (c ∷ s) - length rest)

      few : pred (length (c ∷ s) - length rest) ≤ length s
      few = omega arith

      by : (o : Stepped) → step st token ≡ o → GoesBy token o → stepped place (at + n) o (λ next. tree_from t place skip (at + 1) next s) ≡ built v → ⊥
      by (stops rule m) f g h = cc
      by (went es next) f g h =
          let longer = first_longer t table ordinary (c ∷ s) n token rest (λ x i. inr (g.blank x i)) e in
          let a = after_built es (tree_from t place skip (at + 1) next s) v h in
          let k' : stepped place (at + n) (step st token) (λ next'. tree_from t place (pred (length (c ∷ (s ++ body_end)) - length (rest ++ body_end))) (at + 1) next' (s ++ body_end)) ≡ built w = rw longer at k in
          let k'' : after_events es (tree_from t place skip (at + 1) next (s ++ body_end)) ≡ built w = rw (f, same_skip c s rest) at k' in
          let d = after_built es (tree_from t place skip (at + 1) next (s ++ body_end)) w k'' in
          more skip (at + 1) next a.rest d.rest few g.after a.is d.is

  still_after : (s : List ℕ) → StillAfter t place s
  still_after [] zero at st v w few b h k = tag_stops place at 0 st body_end w _ _ b (ap (λ m. first t m body_end) b.reads ∙ (end_is_next t).1) k
  still_after [] (suc skip) at st v w few b h k = omega (arith, few)
  still_after (c ∷ s) (suc skip) at st v w few b h k = still_after s skip (at + 1) st v w (omega (arith, few)) b h k
  still_after (c ∷ s) zero at st v w few b h k = text_after_token at st c s v w (still_after s) b (first t ordinary (c ∷ s)) refl (rw (b.reads) at h) (rw (b.reads) at k)

-- so a token after which body is closed is no text
closes_no_text : (st next : Construction) (es : List Event) (k : Seen) → is_after_body st.insertion_mode ≡ false → step st k ≡ went es next → is_after_body next.insertion_mode ≡ true → (x : List ℕ) → k ≡ tokens.slice x → ⊥
unfolding step
closes_no_text st next es k h e b x is =
    let stepped_is : step_bytes x st ≡ went es next = (λ i. step st (sym is i)) ∙ e in
    both_ways (is_after_body next.insertion_mode) (subst StaysOpen stepped_is (bytes_open x st h)) b

-- ---- What is known of the next state

shape_at_end : (mode : InsertionMode) (st : Construction) → Shape mode st.path → is_after_body mode ≡ true → AtEnd st.path
shape_at_end initial st s h = cc
shape_at_end before_html st s h = cc
shape_at_end before_head st s h = cc
shape_at_end in_head st s h = cc
shape_at_end after_head st s h = cc
shape_at_end in_body st s h = cc
shape_at_end after_body st s h = s
shape_at_end after_html st s h = s

still_is : (st : Construction) → st.drops_line_feed ≡ false → st ≡ no_drop st
still_is st h = let f : Bool → Construction = λ b. record st { drops_line_feed = b } in ap f h

good_by : (o : Stepped) (es : List Event) (next : Construction) (mode : InsertionMode) (path : List Element) → Leads mode path o → o ≡ went es next → Good next
good_by (went fs st) es next mode path l e = let same : st ≡ next = cc in subst Good same l.0
good_by (stops rule n) es next mode path l e = cc

ran_good : (st next : Construction) (s : List ℕ) (es : List Event) (o : Stepped) → Good (no_drop st) → Ran (no_drop st) s o → o ≡ went es next → Good next
ran_good st next s es o g (ran b) e = let same : no_drop st ≡ next = cc in subst Good same g
ran_good st next s es o g (halted rule n) e = cc

slice_good : (st next : Construction) (s : List ℕ) (es : List Event) → Good st → is_in_raw st.path ≡ true → step st (tokens.slice s) ≡ went es next → Good next
unfolding step
slice_good st next s es g r e =
    let q : step_bytes s (no_drop st) ≡ went es next = (λ i. step_bytes s (sym (still_is st (g.keeps r)) i)) ∙ e in
    ran_good st next s es (step_bytes s (no_drop st)) (good_still st g) (all_ran s st (keeps_in_text (no_drop st) (in_text st.path r))) q

next_good : (st next : Construction) (es : List Event) (k : Seen) → Good st → SoundToken (mode_of st.path) k → step st k ≡ went es next → Good next
next_good st next es k g a e = by (is_in_raw st.path) refl
  where
    by : (b : Bool) → is_in_raw st.path ≡ b → Good next
    by false r = good_by (step st k) es next st.insertion_mode st.path (token_leads st k g a (λ s i. r)) e
    by true r = raw k refl
      where
        unraw : ((s : List ℕ) → k ≡ tokens.slice s → ⊥) → Good next
        unraw none = good_by (step st k) es next st.insertion_mode st.path (token_leads st k g a (λ s i. absurd (none s i))) e

        raw : (x : Seen) → k ≡ x → Good next
        raw (tokens.slice s) i = slice_good st next s es g r ((λ j. step st (sym i j)) ∙ e)
        raw (tokens.doctype legacy) i = unraw (λ s j. let no : tokens.doctype legacy ≡ tokens.slice s = sym i ∙ j in cc)
        raw (tokens.start_tag n attributes slash) i = unraw (λ s j. let no : tokens.start_tag n attributes slash ≡ tokens.slice s = sym i ∙ j in cc)
        raw (tokens.end_tag n) i = unraw (λ s j. let no : tokens.end_tag n ≡ tokens.slice s = sym i ∙ j in cc)
        raw (tokens.points ps) i = unraw (λ s j. let no : tokens.points ps ≡ tokens.slice s = sym i ∙ j in cc)
        raw (tokens.comment c) i = unraw (λ s j. let no : tokens.comment c ≡ tokens.slice s = sym i ∙ j in cc)

-- ---- The law

none_left : (t : List Entry) (place : ℕ → ℕ) (s : List ℕ) (skip at : ℕ) (st : Construction) → drop skip s ≡ [] → closed_from t place skip at st s ≡ None
none_left t place [] zero at st h = refl
none_left t place [] (suc skip) at st h = refl
none_left t place (c ∷ s) zero at st h = cc
none_left t place (c ∷ s) (suc skip) at st h = none_left t place s skip (at + 1) st h

module _ (t : List Entry) (table : IsTable t) (place : ℕ → ℕ) where
  abbrev Closes : List ℕ → Type 0
  Closes s = (skip at : ℕ) (st : Construction) (p : ℕ) (v w : List Event) → skip ≤ length s → Good st → IsPlain (drop skip s) → is_after_body st.insertion_mode ≡ false
      → closed_from t place skip at st s ≡ Some p → tree_from t place skip at st s ≡ built v → tree_from t place skip at st (s ++ body_end) ≡ built w → ⊥

  closing_token : (at : ℕ) (st : Construction) (c : ℕ) (s : List ℕ) (p : ℕ) (v w : List Event) → Closes s → Good st → IsPlain (c ∷ s) → is_after_body st.insertion_mode ≡ false → (x : Next) → first t (mode_of st.path) (c ∷ s) ≡ x
      → closed_next place at st (c ∷ s) x (λ skip next. closed_from t place skip (at + 1) next s) ≡ Some p
      → next_step place at st (c ∷ s) x (λ skip next. tree_from t place skip (at + 1) next s) ≡ built v
      → next_step place at st (c ∷ (s ++ body_end)) (first t (mode_of st.path) (c ∷ (s ++ body_end))) (λ skip next. tree_from t place skip (at + 1) next (s ++ body_end)) ≡ built w → ⊥
  closing_token at st c s p v w more g plain before at_end e d h k = cc
  closing_token at st c s p v w more g plain before (after_bytes n (refused fault)) e d h k = cc
  closing_token at st c s p v w more g plain before (after_bytes n (taken token rest)) e d h k = by (step st token) refl d h
    where
      names : SoundNames t
      names = names_of_table t table

      skip : ℕ
      skip = pred (length (c ∷ s) - length rest)

      few : pred (length (c ∷ s) - length rest) ≤ length s
      few = omega arith

      reached : drop (pred (length (c ∷ s) - length rest)) s ≡ rest
      reached = rest_is t (mode_of st.path) c s n token rest names (is_mode st.path) e

      sound : SoundToken (mode_of st.path) token × IsPlain rest
      sound = tokens_are_sound t (mode_of st.path) (c ∷ s) n token rest names (is_mode st.path) plain e

      -- the same token is read in the longer text
      on : (es : List Event) (next : Construction) → step st token ≡ went es next → GoesOn token rest → after_events es (tree_from t place (pred (length (c ∷ s) - length rest)) (at + 1) next (s ++ body_end)) ≡ built w
      on es next f goes =
          let longer = first_longer t table (mode_of st.path) (c ∷ s) n token rest goes e in
          let k' : stepped place (at + n) (step st token) (λ next'. tree_from t place (pred (length (c ∷ (s ++ body_end)) - length (rest ++ body_end))) (at + 1) next' (s ++ body_end)) ≡ built w = rw longer at k in
          rw (f, same_skip c s rest) at k'

      by : (o : Stepped) → step st token ≡ o → closed_step place (at + n) o (λ next. closed_from t place skip (at + 1) next s) ≡ Some p → stepped place (at + n) o (λ next. tree_from t place skip (at + 1) next s) ≡ built v → ⊥
      by (stops rule m) f d h = cc
      by (went es next) f d h =
          let a = after_built es (tree_from t place skip (at + 1) next s) v h in
          let good : Good next = next_good st next es token g sound.0 f in
          by_place (is_after_body next.insertion_mode) refl d a good
        where
          by_place : (b : Bool) → is_after_body next.insertion_mode ≡ b → cond b (Some (place (at + n))) (closed_from t place skip (at + 1) next s) ≡ Some p → BuiltAfter (tree_from t place skip (at + 1) next s) → Good next → ⊥
          by_place true b d a good =
              let m = after_built es (tree_from t place skip (at + 1) next (s ++ body_end)) w (on es next f (λ x i. absurd (closes_no_text st next es token before f b x i))) in
              still_after t table place s skip (at + 1) next a.rest m.rest few (at_end_is_after next b (shape_at_end next.insertion_mode next good.shape b)) a.is m.is
          by_place false b d a good =
              let m = after_built es (tree_from t place skip (at + 1) next (s ++ body_end)) w (on es next f (λ x i. inl (some rest refl))) in
              more skip (at + 1) next p a.rest m.rest few good (subst IsPlain (sym reached) sound.1) b d a.is m.is
            where
              some : (r : List ℕ) → rest ≡ r → is_null rest ≡ false
              some [] i = let no : None ≡ Some p = sym (none_left t place s skip (at + 1) next (reached ∙ i)) ∙ d in cc
              some (y ∷ r) i = ap is_null i

  closing : (s : List ℕ) → Closes s
  closing [] zero at st p v w few g plain before d h k = cc
  closing [] (suc skip) at st p v w few g plain before d h k = cc
  closing (c ∷ s) (suc skip) at st p v w few g plain before d h k = closing s skip (at + 1) st p v w (omega (arith, few)) g plain before d h k
  closing (c ∷ s) zero at st p v w few g plain before d h k = closing_token at st c s p v w (closing s) g plain before (first t (mode_of st.path) (c ∷ s)) refl d h k

pub closed_pages_take_no_end_tag : ClosedPagesTakeNoEndTag
closed_pages_take_no_end_tag t table place s at p v w plain d h k =
    closing t table place s 0 at first_state p v w (omega arith) (record { shape = refl; inner_comments = tt; last_comments = tt; keeps = λ i. refl }) plain refl d h k
