-- Comments that are read.
use Rattle.std.proofs.Common.{◌≡◌, ℕ, ◌+◌, ◌≤◌, ◌⊎◌, Bool, true, false, cond, ◌||◌, ◌==◌, List, [], ◌∷◌, ◌++◌, length, drop, Option, Some, None, refl, inl, inr, ap, sym, subst, ◌∙◌, arith, codes}
use Rattle.std.specs.Option.{option_or}
use Rattle.std.proofs.lemmas.Bool.{eqb-true, or_from}
use Rattle.hm_base.specs.Bytes.{Cut, cut_at, strip, all_pass}
use Rattle.hm_base.specs.Forms.{has_byte, has_mark, is_comment_text}
use Rattle.hm_base.specs.RawText.{is_found}
use Rattle.hm_scan.specs.Comments.{begins, cut_where, after_end, at_once, cut_comment, comment_at, read_comment}
use Rattle.hm_scan.specs.Pieces.{as_comment}
use Rattle.hm_scan.proofs.Cuts.{RestExtends, strip_extends}
use Rattle.hm_scan.proofs.Searches.{front_stripped, begins_front}
use Rattle.hm_scan.specs.Texts.{begins_markup}
use Rattle.hm_tree.specs.Tokens.{Seen, comment, taken}
use Rattle.hm_token_laws.specs.First.{Mode}
use Rattle.hm_token_laws.specs.Laws.{IsPlain, reads_markup, IsComment, SoundToken, TakesBytes}
use Rattle.hm_token_laws.proofs.Plain.{no_zero_byte, no_return_byte}
use Rattle.hm_token_laws.proofs.References.{is_ascii, low_ascii}
use Rattle.hm_token_laws.proofs.Marks.{found_at, no_mark_before, byte_cut, IsCut, cut_plain, cut_size, MarkupShape, markup_shape, IsTaken}
use Rattle.hm_token_laws.proofs.Bools.{or_parts, same_parts}

-- ---- the form of a comment's text

-- a mark with a byte that the text doesn't hold isn't in the text
mark_missing : (d : ℕ) (mark x : List ℕ) → has_byte d mark ≡ true → has_byte d x ≡ false → begins mark x ≡ false
mark_missing d [] x h none = absurd (cc)
mark_missing d (c ∷ p) [] h none = refl
mark_missing d (c ∷ p) (e ∷ x) h none = by_test (c == e) refl (λ i. mark_missing d p x i (or_parts (e == d) (has_byte d x) none).1)
  where
    later : c ≡ e → has_byte d p ≡ true
    later same = by_first (c == d) (rw same (or_parts (e == d) (has_byte d x) none).0) h
      where
        by_first : (b : Bool) → b ≡ false → b || has_byte d p ≡ true → has_byte d p ≡ true
        by_first b e h = rw e at h

    by_test : (b : Bool) → (c == e) ≡ b → (has_byte d p ≡ true → begins p x ≡ false) → is_found (cond b (strip p x) None) ≡ false
    by_test true i more = more (later (eqb-true c e i))
    by_test false i more = refl

marks_missing : (d : ℕ) (mark x : List ℕ) → has_byte d mark ≡ true → has_byte d x ≡ false → has_mark mark x ≡ false
marks_missing d mark [] h none = refl
marks_missing d mark (c ∷ x) h none = or_from (begins mark (c ∷ x)) (has_mark mark x) (mark_missing d mark (c ∷ x) h none) (marks_missing d mark x h (or_parts (c == d) (has_byte d x) none).1)

in_form : (x : List ℕ) → has_byte 13 x ≡ false → begins (codes ">") x ≡ false → begins (codes "->") x ≡ false → has_mark (codes "-->") x ≡ false → has_mark (codes "--!>") x ≡ false → is_comment_text x ≡ true
unfolding is_comment_text
in_form x a b c d e = rw (a, b, c, d, e) refl

no_greater_in_form : (x : List ℕ) → has_byte 13 x ≡ false → has_byte 62 x ≡ false → is_comment_text x ≡ true
no_greater_in_form x a none =
    in_form x a (mark_missing 62 (codes ">") x refl none) (mark_missing 62 (codes "->") x refl none) (marks_missing 62 (codes "-->") x refl none) (marks_missing 62 (codes "--!>") x refl none)

-- ---- the end of a comment

or_none : (a b : Option (List ℕ)) → option_or a b ≡ None → (a ≡ None) × (b ≡ None)
or_none None b h = (refl, h)
or_none (Some x) b h = absurd (cc)

or_some : (a b : Option (List ℕ)) (r : List ℕ) → option_or a b ≡ Some r → (a ≡ Some r) ⊎ (b ≡ Some r)
or_some None b r h = inr h
or_some (Some x) b r h = inl h

not_begun : (mark x y : List ℕ) → strip mark (x ++ y) ≡ None → begins mark x ≡ false
not_begun mark x y h = by_strip (strip mark x) (strip_extends mark x y)
  where
    by_strip : (o : Option (List ℕ)) → RestExtends y o (strip mark (x ++ y)) → is_found o ≡ false
    by_strip None e = refl
    by_strip (Some r) e = absurd (cc)

arrow_ends : (x y : List ℕ) → after_end (x ++ y) ≡ None → begins (codes "-->") x ≡ false
arrow_ends x y h = not_begun (codes "-->") x y (or_none (strip (codes "-->") (x ++ y)) (strip (codes "--!>") (x ++ y)) h).0

bang_ends : (x y : List ℕ) → after_end (x ++ y) ≡ None → begins (codes "--!>") x ≡ false
bang_ends x y h = not_begun (codes "--!>") x y (or_none (strip (codes "-->") (x ++ y)) (strip (codes "--!>") (x ++ y)) h).1

-- ---- comments

-- the text of a comment and its end
record CommentCut (s : List ℕ) (k : Cut) : Type 0 where
  cut : IsCut s k
  form : has_byte 13 k.before ≡ false → is_comment_text k.before ≡ true
  long : 3 ≤ length cut.before + length k.before + length cut.mark

after_greater : (s before x : List ℕ) (k : Cut) → s ≡ before ++ x → all_pass is_ascii before ≡ true → cut_at (codes ">") x ≡ Some k → 2 ≤ length before + length k.before → CommentCut s k
unfolding is_ascii
after_greater s before x k e low h long =
    let b = byte_cut 62 x k h in
    record {
      cut = record { mark = codes ">"; before = before; is = e ∙ ap (λ y. before ++ y) b.is; some = omega arith; mark_low = refl; before_low = low };
      form = λ a. no_greater_in_form k.before a b.none;
      long = omega arith;
    }

not_at_once : (s : List ℕ) (k : Cut) → option_or (strip (codes ">") s) (strip (codes "->") s) ≡ None → cut_where after_end s ≡ Some k → CommentCut (codes "<!--" ++ s) k
unfolding is_ascii
not_at_once s k none h =
    let none_both = or_none (strip (codes ">") s) (strip (codes "->") s) none in
    let f = found_at after_end s k h in
    let arrow = no_mark_before after_end (codes "-->") arrow_ends s k h in
    let bang = no_mark_before after_end (codes "--!>") bang_ends s k h in
    let greater = not_begun (codes ">") k.before f.tail (subst (λ x. strip (codes ">") x ≡ None) f.is none_both.0) in
    let dash = not_begun (codes "->") k.before f.tail (subst (λ x. strip (codes "->") x ≡ None) f.is none_both.1) in
    let form : has_byte 13 k.before ≡ false → is_comment_text k.before ≡ true = λ a. in_form k.before a greater dash arrow bang in
    by_end f.tail form (or_some (strip (codes "-->") f.tail) (strip (codes "--!>") f.tail) k.after f.found) f.is
  where
    by_end : (tail : List ℕ) → (has_byte 13 k.before ≡ false → is_comment_text k.before ≡ true) → (strip (codes "-->") tail ≡ Some k.after) ⊎ (strip (codes "--!>") tail ≡ Some k.after) → s ≡ k.before ++ tail → CommentCut (codes "<!--" ++ s) k
    by_end tail form (inl e) is = record {
      cut = record { mark = codes "-->"; before = codes "<!--"; is = ap (λ y. codes "<!--" ++ y) (is ∙ ap (λ y. k.before ++ y) (front_stripped (codes "-->") tail k.after e)); some = omega arith; mark_low = refl; before_low = refl };
      form = form;
      long = omega arith;
    }
    by_end tail form (inr e) is = record {
      cut = record { mark = codes "--!>"; before = codes "<!--"; is = ap (λ y. codes "<!--" ++ y) (is ∙ ap (λ y. k.before ++ y) (front_stripped (codes "--!>") tail k.after e)); some = omega arith; mark_low = refl; before_low = refl };
      form = form;
      long = omega arith;
    }

ended_at_once : (s : List ℕ) (mark rest : List ℕ) → 1 ≤ length mark → all_pass is_ascii mark ≡ true → s ≡ mark ++ rest → CommentCut (codes "<!--" ++ s) (record { before = []; after = rest })
unfolding is_comment_text is_ascii
ended_at_once s mark rest some low e = record {
  cut = record { mark = mark; before = codes "<!--"; is = ap (λ y. codes "<!--" ++ y) e; some = some; mark_low = low; before_low = refl };
  form = λ a. refl;
  long = omega arith;
}

dashed : (s : List ℕ) (k : Cut) → cut_comment s ≡ Some k → CommentCut (codes "<!--" ++ s) k
unfolding is_ascii
dashed s k h = by_start (option_or (strip (codes ">") s) (strip (codes "->") s)) refl h
  where
    by_start : (o : Option (List ℕ)) → option_or (strip (codes ">") s) (strip (codes "->") s) ≡ o → at_once o (cut_where after_end s) ≡ Some k → CommentCut (codes "<!--" ++ s) k
    by_start None e h = not_at_once s k e h
    by_start (Some rest) e h =
        let is : record { before = []; after = rest } ≡ k = cc in
        subst (CommentCut (codes "<!--" ++ s)) is (by_mark (or_some (strip (codes ">") s) (strip (codes "->") s) rest e))
      where
        by_mark : (strip (codes ">") s ≡ Some rest) ⊎ (strip (codes "->") s ≡ Some rest) → CommentCut (codes "<!--" ++ s) (record { before = []; after = rest })
        by_mark (inl e) = ended_at_once s (codes ">") rest (omega arith) refl (front_stripped (codes ">") s rest e)
        by_mark (inr e) = ended_at_once s (codes "->") rest (omega arith) refl (front_stripped (codes "->") s rest e)

heads : (x y : List ℕ) (c d : ℕ) → c ≡ 63 → d ≡ 62 → c ∷ x ≡ d ∷ y → ⊥
heads x y c d one two e = let same : c ≡ d = (same_parts c d x y e).0 in omega arith

question_first : (r after : List ℕ) (k : Cut) → 63 ∷ r ≡ k.before ++ 62 ∷ k.after → 1 ≤ length k.before
question_first r after k e = by_before k.before e
  where
    by_before : (x : List ℕ) → 63 ∷ r ≡ x ++ 62 ∷ k.after → 1 ≤ length x
    by_before [] e = absurd (heads r k.after 63 62 refl refl e)
    by_before (c ∷ x) e = omega arith

comment_cut : (s : List ℕ) (k : Cut) → MarkupShape s → comment_at s ≡ Some k → CommentCut s k
unfolding is_ascii
comment_cut s k m h = by_tests (begins (codes "<?") s) refl (begins (codes "<!--") s) refl h
  where
    questioned : (r : List ℕ) → s ≡ codes "<?" ++ r → cut_at (codes ">") (drop 1 s) ≡ Some k → CommentCut s k
    questioned r e h =
        let rest : drop 1 s ≡ 63 ∷ r = ap (drop 1) e in
        let h' : cut_at (codes ">") (63 ∷ r) ≡ Some k = rw rest at h in
        let b = byte_cut 62 (63 ∷ r) k h' in
        let one = question_first r k.after k b.is in
        after_greater s (codes "<") (63 ∷ r) k e refl h' (omega arith)

    by_tests : (a : Bool) → begins (codes "<?") s ≡ a → (b : Bool) → begins (codes "<!--") s ≡ b → cond a (cut_at (codes ">") (drop 1 s)) (cond b (cut_comment (drop 4 s)) (cut_at (codes ">") (drop 2 s))) ≡ Some k → CommentCut s k
    by_tests true e b f h = questioned (drop 2 s) (front_stripped (codes "<?") s (drop 2 s) (begins_front (codes "<?") s e)) h
    by_tests false e true f h = subst (λ x. CommentCut x k) (sym (front_stripped (codes "<!--") s (drop 4 s) (begins_front (codes "<!--") s f))) (dashed (drop 4 s) k h)
    by_tests false e false f h =
        let more : drop 2 s ≡ m.more = ap (drop 2) m.is in
        let low : is_ascii m.second ≡ true = low_ascii m.second m.low in
        after_greater s (60 ∷ m.second ∷ []) m.more k m.is (rw low refl) (rw more at h) (omega arith)

comment_taken : (o : Option Cut) (token : Seen) (rest : List ℕ) → as_comment o ≡ taken token rest → IsTaken o comment token rest
comment_taken None token rest h = absurd (cc)
comment_taken (Some k) token rest h = record { cut = k; is = refl; token_is = cc; rest_is = cc }

pub comment_sound : (mode : Mode) (s : List ℕ) (token : Seen) (rest : List ℕ) → reads_markup mode ≡ true → begins_markup s ≡ true → IsPlain s → read_comment s ≡ taken token rest → SoundToken mode token × IsPlain rest
unfolding read_comment
comment_sound mode s token rest reads begins plain h =
    let k = comment_taken (comment_at s) token rest h in
    let c = comment_cut s k.cut (markup_shape s begins) k.is in
    let parts = cut_plain s k.cut c.cut plain in
    let is : IsComment mode k.cut.before = record { mode_reads = reads; form = c.form (no_return_byte k.cut.before parts.before_plain); no_zero = no_zero_byte k.cut.before parts.before_plain; utf8 = parts.before_plain.utf8 } in
    (subst (SoundToken mode) k.token_is is, subst IsPlain k.rest_is parts.after_plain)

pub comment_takes : (s : List ℕ) (token : Seen) (rest : List ℕ) → begins_markup s ≡ true → read_comment s ≡ taken token rest → TakesBytes s 0 token rest
unfolding read_comment
comment_takes s token rest begins h =
    let k = comment_taken (comment_at s) token rest h in
    let c = comment_cut s k.cut (markup_shape s begins) k.is in
    let size = (cut_size s k.cut c.cut).whole in
    let long = c.long in
    let there : TakesBytes s 0 (comment k.cut.before) k.cut.after = record { count = length c.cut.before + length k.cut.before + length c.cut.mark; whole = omega arith; size = omega arith; least = omega arith } in
    subst (λ x. TakesBytes s 0 x rest) k.token_is (subst (λ x. TakesBytes s 0 (comment k.cut.before) x) k.rest_is there)
