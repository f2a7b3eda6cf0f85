-- What follows a value without quotes closes it.
use Rattle.std.proofs.Common.{◌≡◌, ℕ, Bool, true, false, ◌&&◌, ◌||◌, ◌==◌, List, [], ◌∷◌, ◌++◌, refl, sym, ap, ◌∙◌, subst, append_assoc}
use Rattle.hm_base.specs.Bytes.{is_space}
use Rattle.hm_base.specs.Forms.{is_blank}
use Rattle.hm_base.specs.Walks.{Attribute}
use Rattle.hm_markup_spec.specs.Gaps.{is_gap}
use Rattle.hm_markup_spec.specs.Tags.{Quoting, tag_end, unquoted, WritesAttributes}
use Rattle.hm_markup_spec.proofs.Gaps.{gap_blank}
use Rattle.hm_refs.specs.Tables.{first, IsIn, later}
use Rattle.hm_refs.proofs.Bools.{and_left, eq_of}
use Rattle.hm_spelling_spec.specs.Tags.{Spelling, SpellsValue}
use Rattle.hm_graph_laws.specs.PendingLaws.{closing_bytes}

-- a byte that closes a value comes first
pub record Closes (s : List ℕ) : Type 0 where
  pub byte : ℕ
  pub rest : List ℕ
  pub is : s ≡ byte ∷ rest
  pub among : IsIn byte closing_bytes

space_is : (c : ℕ) → is_space c ≡ true → IsIn c closing_bytes
unfolding is_space
space_is c h = by_tests (c == 9) (c == 10) (c == 12) (c == 13) (c == 32) refl refl refl refl refl h
  where
    tab : IsIn 9 closing_bytes
    tab = later 34 _ (later 39 _ (later 62 _ (first _)))

    feed : IsIn 10 closing_bytes
    feed = later 34 _ (later 39 _ (later 62 _ (later 9 _ (first _))))

    form : IsIn 12 closing_bytes
    form = later 34 _ (later 39 _ (later 62 _ (later 9 _ (later 10 _ (first _)))))

    return : IsIn 13 closing_bytes
    return = later 34 _ (later 39 _ (later 62 _ (later 9 _ (later 10 _ (later 12 _ (first _))))))

    space : IsIn 32 closing_bytes
    space = later 34 _ (later 39 _ (later 62 _ (later 9 _ (later 10 _ (later 12 _ (later 13 _ (first _)))))))

    by_tests : (a b d e f : Bool) → (c == 9) ≡ a → (c == 10) ≡ b → (c == 12) ≡ d → (c == 13) ≡ e → (c == 32) ≡ f → (a || b || d || e || f) ≡ true → IsIn c closing_bytes
    by_tests true b d e f ha hb hd he hf h = subst (λ x. IsIn x closing_bytes) (sym (eq_of c 9 ha)) tab
    by_tests false true d e f ha hb hd he hf h = subst (λ x. IsIn x closing_bytes) (sym (eq_of c 10 hb)) feed
    by_tests false false true e f ha hb hd he hf h = subst (λ x. IsIn x closing_bytes) (sym (eq_of c 12 hd)) form
    by_tests false false false true f ha hb hd he hf h = subst (λ x. IsIn x closing_bytes) (sym (eq_of c 13 he)) return
    by_tests false false false false true ha hb hd he hf h = subst (λ x. IsIn x closing_bytes) (sym (eq_of c 32 hf)) space
    by_tests false false false false false ha hb hd he hf h = absurd (cc)

pub gap_closes : (gap s : List ℕ) → is_gap true gap ≡ true → Closes (gap ++ s)
unfolding is_gap
gap_closes [] s h = absurd (cc)
gap_closes (c ∷ gap) s h = record { byte = c; rest = gap ++ s; is = refl; among = space_is c (and_left (is_space c) (is_blank gap) (and_left (is_blank (c ∷ gap)) true h)) }

pub blank_closes : (gap s : List ℕ) → is_blank gap ≡ true → Closes s → Closes (gap ++ s)
blank_closes [] s h c = c
blank_closes (d ∷ gap) s h c = record { byte = d; rest = gap ++ s; is = refl; among = space_is d (and_left (is_space d) (is_blank gap) h) }

-- after a value without quotes the tag's end closes it
pub end_closes : (slash : Bool) (gap x : List ℕ) → is_gap (slash && true) gap ≡ true → Closes (gap ++ (tag_end slash ++ x))
end_closes true gap x h = gap_closes gap (tag_end true ++ x) h
end_closes false gap x h = blank_closes gap (62 ∷ x) (gap_blank false gap h) (record { byte = 62; rest = x; is = refl; among = later 34 _ (later 39 _ (first _)) })

-- and so does the next attribute
pub attributes_close : (g : Spelling) (touching : Bool) (last : Quoting) (attributes : List Attribute) (b after : List ℕ) → WritesAttributes (SpellsValue g) touching unquoted last attributes b after → (last ≡ unquoted → Closes after) → Closes (b ++ after)
attributes_close g touching last [] b after (e, is) c = subst (λ w. Closes (w ++ after)) (sym is) (c e)
attributes_close g touching last (a ∷ attributes) b after (form, piece, rest, is, one, more) c =
    let cut : b ++ after ≡ one.gap ++ ((one.name ++ one.value) ++ (rest ++ after)) =
    ap (λ w. w ++ after) is ∙ append_assoc piece rest after ∙ ap (λ w. w ++ (rest ++ after)) one.is ∙ append_assoc one.gap (one.name ++ one.value) (rest ++ after) in
    subst (λ w. Closes w) (sym cut) (gap_closes one.gap ((one.name ++ one.value) ++ (rest ++ after)) one.apart)
