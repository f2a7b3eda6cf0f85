-- What ends by itself is read the same, whatever follows it.
use Rattle.std.proofs.Common.{◌≡◌, ℕ, suc, ◌≤◌, Bool, true, false, cond, ◌==◌, inl, inr, List, [], ◌∷◌, ◌++◌, length, drop, Option, Some, None, option_map, refl, ap, subst, ◌∙◌, arith, codes, drop_of_length-le}
use Rattle.std.specs.Option.{option_or}
use Rattle.std.proofs.lemmas.List.{drop-append-le}
use Rattle.std.proofs.lemmas.Bool.{cases_lt}
use Rattle.std.proofs.lemmas.Bool.Decides.{Decides-eqb}
use Rattle.hm_base.specs.Bytes.{Cut, cut_at, strip}
use Rattle.hm_base.specs.RawText.{is_found}
use Rattle.hm_tree.specs.Tokens.{Extends}
use Rattle.hm_scan.specs.Pieces.{as_comment, as_slice}
use Rattle.hm_scan.specs.Comments.{begins, cut_where, after_end, at_once, cut_comment, comment_at, read_comment, read_cdata}
use Rattle.hm_scan.specs.Doctypes.{doctype_form, by_form, as_doctype, read_doctype}
use Rattle.hm_scan.proofs.Cuts.{RestExtends, CutExtends, Takes, CutTakes, Looks, strip_takes, strip_extends, strip_whole, cut_takes, cut_extends, cut_at_extends}

as_comment_extends : (y : List ℕ) (a b : Option Cut) → CutExtends y a b → Extends y (as_comment a) (as_comment b)
as_comment_extends y None b h = tt
as_comment_extends y (Some k) b h = rw h refl

as_slice_extends : (y : List ℕ) (a b : Option Cut) → CutExtends y a b → Extends y (as_slice a) (as_slice b)
as_slice_extends y None b h = tt
as_slice_extends y (Some k) b h = rw h refl

by_form_extends : (f : Option Bool) (r y : List ℕ) → Extends y (by_form f r) (by_form f (r ++ y))
by_form_extends None r y = refl
by_form_extends (Some legacy) r y = refl

as_doctype_extends : (y : List ℕ) (a b : Option Cut) → CutExtends y a b → Extends y (as_doctype a) (as_doctype b)
as_doctype_extends y None b h = tt
as_doctype_extends y (Some k) b h = rw h (by_form_extends (doctype_form k.before) k.after y)

-- Two marks that are looked for at once, the second as long as the first or longer by one byte.
marks_look : (a b : List ℕ) → length a ≤ length b → length b ≤ suc (length a) → Looks (λ s. option_or (strip a s) (strip b s)) (length b)
marks_look a b low high = record {
  extends = λ s y. extended s y (strip a s) (strip b s) refl (strip_extends a s y) (strip_extends b s y) (strip_takes b s);
  whole = λ s y h e. none s y h (strip a s) (strip b s) refl refl e;
  long = λ s. longer s (strip a s) (strip b s) (strip_takes a s) (strip_takes b s);
}
  where
    missed : (m s y : List ℕ) → length m ≤ length s → strip m s ≡ None → strip m (s ++ y) ≡ None
    missed m s y h e = strip_whole m s y h ∙ ap (option_map (λ r. r ++ y)) e

    extended : (s y : List ℕ) (o p : Option (List ℕ)) → strip a s ≡ o → RestExtends y o (strip a (s ++ y)) → RestExtends y p (strip b (s ++ y)) → Takes (length b) s p
        → RestExtends y (option_or o p) (option_or (strip a (s ++ y)) (strip b (s ++ y)))
    extended s y (Some r) p e x h t = rw x refl
    extended s y None None e x h t = tt
    extended s y None (Some r) e x h t = rw (missed a s y (omega arith) e) h

    none : (s y : List ℕ) → length b ≤ length s → (o p : Option (List ℕ)) → strip a s ≡ o → strip b s ≡ p → option_or o p ≡ None → option_or (strip a (s ++ y)) (strip b (s ++ y)) ≡ None
    none s y h (Some r) p e f g = cc
    none s y h None (Some r) e f g = cc
    none s y h None None e f g = rw (missed a s y (omega arith) e, missed b s y h f) refl

    longer : (s : List ℕ) (o p : Option (List ℕ)) → Takes (length a) s o → Takes (length b) s p → Takes (length b) (0 ∷ s) (option_or o p)
    longer s (Some r) p h i = omega arith
    longer s None None h i = tt
    longer s None (Some r) h i = omega arith

end_looks : Looks after_end 4
end_looks = marks_look (codes "-->") (codes "--!>") (omega arith) (omega arith)

start_looks : Looks (λ s. option_or (strip (codes ">") s) (strip (codes "->") s)) 2
start_looks = marks_look (codes ">") (codes "->") (omega arith) (omega arith)

-- after `<!--`
cut_comment_extends : (s y : List ℕ) → CutExtends y (cut_comment s) (cut_comment (s ++ y))
cut_comment_extends s y = extended (option_or (strip (codes ">") s) (strip (codes "->") s)) (cut_where after_end s) refl (start_looks.extends s y) (cut_takes after_end 4 end_looks s) (cut_extends after_end 4 end_looks s y)
  where
    extended : (o : Option (List ℕ)) (k : Option Cut) → option_or (strip (codes ">") s) (strip (codes "->") s) ≡ o
        → RestExtends y o (option_or (strip (codes ">") (s ++ y)) (strip (codes "->") (s ++ y))) → CutTakes 4 (0 ∷ s) k → CutExtends y k (cut_where after_end (s ++ y))
        → CutExtends y (at_once o k) (cut_comment (s ++ y))
    extended (Some r) k e x h i = rw x refl
    extended None None e x h i = tt
    extended None (Some k) e x h i = rw (start_looks.whole s y (omega arith) e) i

-- after `<!`
declared : List ℕ → Option Cut
declared s = cond (begins (codes "--") s) (cut_comment (drop 2 s)) (cut_at (codes ">") s)

declared_extends : (s y : List ℕ) → CutExtends y (declared s) (declared (s ++ y))
unfolding declared
declared_extends [] y = tt
declared_extends (c ∷ []) y = short (45 == c) refl
  where
    short : (b : Bool) → (45 == c) ≡ b → CutExtends y (declared (c ∷ [])) (declared (c ∷ y))
    short true e = let is : 45 ≡ c = (Decides-eqb 45 c).0 e in subst (λ d. CutExtends y (declared (d ∷ [])) (declared (d ∷ y))) is tt
    short false e = rw e (cut_at_extends (codes ">") (c ∷ []) y)
declared_extends (c ∷ d ∷ s) y = either (45 == c) (45 == d)
  where
    either : (a b : Bool) → CutExtends y
        (cond (is_found (cond a (cond b (Some s) None) None)) (cut_comment s) (cut_at (codes ">") (c ∷ d ∷ s)))
        (cond (is_found (cond a (cond b (Some (s ++ y)) None) None)) (cut_comment (s ++ y)) (cut_at (codes ">") (c ∷ d ∷ (s ++ y))))
    either true true = cut_comment_extends s y
    either true false = cut_at_extends (codes ">") (c ∷ d ∷ s) y
    either false b = cut_at_extends (codes ">") (c ∷ d ∷ s) y

comment_at_extends : (s y : List ℕ) → CutExtends y (comment_at s) (comment_at (s ++ y))
comment_at_extends [] y = tt
comment_at_extends (c ∷ []) y = elim (60 == c) as (λ b. CutExtends y
    (cond (is_found (cond b None None)) (cut_at (codes ">") []) (cond (is_found (cond b None None)) (cut_comment []) (cut_at (codes ">") [])))
    (comment_at (c ∷ y)))
    [ true ↦ tt | false ↦ tt ]
comment_at_extends (c ∷ d ∷ s) y = either (60 == c) (63 == d) (33 == d)
  where
    either : (a b e : Bool) → CutExtends y
        (cond (is_found (cond a (cond b (Some s) None) None)) (cut_at (codes ">") (d ∷ s))
        (cond (is_found (cond a (cond e (strip (codes "--") s) None) None)) (cut_comment (drop 2 s)) (cut_at (codes ">") s)))
        (cond (is_found (cond a (cond b (Some (s ++ y)) None) None)) (cut_at (codes ">") (d ∷ (s ++ y)))
        (cond (is_found (cond a (cond e (strip (codes "--") (s ++ y)) None) None)) (cut_comment (drop 2 (s ++ y))) (cut_at (codes ">") (s ++ y))))
    either true true e = cut_at_extends (codes ">") (d ∷ s) y
    either true false true = unfold declared in declared_extends s y
    either true false false = cut_at_extends (codes ">") s y
    either false b e = cut_at_extends (codes ">") s y

pub comment_extends : (s y : List ℕ) → Extends y (read_comment s) (read_comment (s ++ y))
unfolding read_comment
comment_extends s y = as_comment_extends y (comment_at s) (comment_at (s ++ y)) (comment_at_extends s y)

-- after n bytes
after_extends : (mark : List ℕ) (n : ℕ) (s y : List ℕ) → CutExtends y (cut_at mark (drop n s)) (cut_at mark (drop n (s ++ y)))
after_extends mark n s y = elim (cases_lt n (length s)) [
  | inl h ↦ rw (drop-append-le n s y (omega arith)) (cut_at_extends mark (drop n s) y)
  | inr h ↦ rw (drop_of_length-le s h) tt
]

pub cdata_extends : (s y : List ℕ) → Extends y (read_cdata s) (read_cdata (s ++ y))
unfolding read_cdata
cdata_extends s y = as_slice_extends y _ _ (after_extends (codes "]]>") 9 s y)

pub doctype_extends : (s y : List ℕ) → Extends y (read_doctype s) (read_doctype (s ++ y))
unfolding read_doctype
doctype_extends s y = as_doctype_extends y _ _ (after_extends (codes ">") 9 s y)
