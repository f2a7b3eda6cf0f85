-- A written comment is read back.
use Rattle.std.proofs.Common.{◌≡◌, ℕ, ◌≤◌, ◌<◌, Bool, true, false, cond, not, ◌&&◌, ◌||◌, ◌==◌, List, [], ◌∷◌, ◌++◌, length, Some, None, option_map, refl, ap, ◌∙◌, arith, codes}
use Rattle.std.proofs.lemmas.Bool.{or_parts}
use Rattle.std.specs.Option.{option_or}
use Rattle.hm_base.specs.Bytes.{strip}
use Rattle.hm_base.specs.Forms.{is_comment_text, has_byte, has_mark}
use Rattle.hm_base.specs.RawText.{is_found}
use Rattle.hm_tree.specs.Tokens.{taken, comment}
use Rattle.hm_scan.specs.Comments.{begins, cut_where, after_end, read_comment}
use Rattle.hm_scan.proofs.Cuts.{strip_whole}
use Rattle.hm_scan.proofs.Searches.{begins_not}

-- a text that is at least as long as a mark and doesn't begin with it doesn't begin with it with more after it either
still_missing : (mark t y : List ℕ) → length mark ≤ length t → begins mark t ≡ false → strip mark (t ++ y) ≡ None
still_missing mark t y long e = strip_whole mark t y long ∙ ap (option_map (λ r. r ++ y)) (begins_not mark t e)

-- a text that isn't empty and begins with no end of a comment doesn't begin with one either where `-->` follows it
no_end_before : (t rest : List ℕ) → 0 < length t → begins (codes "-->") t ≡ false → begins (codes "--!>") t ≡ false → after_end (t ++ (codes "-->" ++ rest)) ≡ None
no_end_before [] rest some e f = absurd (omega arith)
no_end_before (c ∷ []) rest some e f = elim (45 == c) as (λ b. option_or {T = List ℕ} (cond b None None) (cond b None None) ≡ None) [ true ↦ refl | false ↦ refl ]
no_end_before (c ∷ d ∷ []) rest some e f = either (45 == c) (45 == d)
  where
    either : (a b : Bool) → option_or {T = List ℕ} (cond a (cond b None None) None) (cond a (cond b None None) None) ≡ None
    either true true = refl
    either true false = refl
    either false b = refl
no_end_before (c ∷ d ∷ g ∷ []) rest some e f = either (45 == c) (45 == d) (62 == g) (33 == g) e
  where
    either : (a b x y : Bool) → is_found (cond a (cond b (cond x (Some []) None) None) None) ≡ false
        → option_or {T = List ℕ} (cond a (cond b (cond x (Some (codes "-->" ++ rest)) None) None) None) (cond a (cond b (cond y None None) None) None) ≡ None
    either true true true y h = cc
    either true true false true h = refl
    either true true false false h = refl
    either true false x y h = refl
    either false b x y h = refl
no_end_before (c ∷ d ∷ g ∷ h ∷ t) rest some e f =
    rw (still_missing (codes "-->") (c ∷ d ∷ g ∷ h ∷ t) (codes "-->" ++ rest) (omega arith) e, still_missing (codes "--!>") (c ∷ d ∷ g ∷ h ∷ t) (codes "-->" ++ rest) (omega arith) f) refl

cut_written : (t rest : List ℕ) → has_mark (codes "-->") t ≡ false → has_mark (codes "--!>") t ≡ false → cut_where after_end (t ++ (codes "-->" ++ rest)) ≡ Some (record { before = t; after = rest })
cut_written [] rest e f = refl
cut_written (c ∷ t) rest e f =
    let p = or_parts (begins (codes "-->") (c ∷ t)) (has_mark (codes "-->") t) e in
    let q = or_parts (begins (codes "--!>") (c ∷ t)) (has_mark (codes "--!>") t) f in
    rw (no_end_before (c ∷ t) rest (omega arith) p.0 q.0, cut_written t rest p.1 q.1) refl

-- nothing ends it at once
not_at_once : (t rest : List ℕ) → begins (codes ">") t ≡ false → begins (codes "->") t ≡ false → option_or (strip (codes ">") (t ++ (codes "-->" ++ rest))) (strip (codes "->") (t ++ (codes "-->" ++ rest))) ≡ None
not_at_once [] rest e f = refl
not_at_once (c ∷ []) rest e f = either (62 == c) (45 == c) e
  where
    either : (a b : Bool) → is_found (cond a (Some []) None) ≡ false → option_or {T = List ℕ} (cond a (Some (codes "-->" ++ rest)) None) (cond b None None) ≡ None
    either true b h = cc
    either false true h = refl
    either false false h = refl
not_at_once (c ∷ d ∷ t) rest e f =
    rw (still_missing (codes ">") (c ∷ d ∷ t) (codes "-->" ++ rest) (omega arith) e, still_missing (codes "->") (c ∷ d ∷ t) (codes "-->" ++ rest) (omega arith) f) refl

-- each of them fails
all_fail : (a b c d e : Bool) → not a && not b && not c && not d && not e ≡ true → (b ≡ false) × (c ≡ false) × (d ≡ false) × (e ≡ false)
all_fail false false false false false h = (refl, refl, refl, refl)
all_fail true b c d e h = cc
all_fail false true c d e h = cc
all_fail false false true d e h = cc
all_fail false false false true e h = cc
all_fail false false false false true h = cc

pub comment_is_read : (t rest : List ℕ) → is_comment_text t ≡ true → read_comment (codes "<!--" ++ (t ++ (codes "-->" ++ rest))) ≡ taken (comment t) rest
unfolding is_comment_text read_comment
comment_is_read t rest h =
    let p = all_fail (has_byte 13 t) (begins (codes ">") t) (begins (codes "->") t) (has_mark (codes "-->") t) (has_mark (codes "--!>") t) h in
    rw (not_at_once t rest p.0 p.1, cut_written t rest p.2 p.3) refl
