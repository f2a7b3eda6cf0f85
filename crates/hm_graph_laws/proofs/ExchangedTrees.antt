-- Each spelling of a tree has one in which no reference begins at a plain character.
use Rattle.std.proofs.Common.{◌≡◌, ℕ, ◌+◌, ◌≤◌, Bool, true, false, cond, List, [], ◌∷◌, ◌++◌, length, refl, sym, subst, inl, arith, codes, chars, length-append}
use Rattle.hm_base.specs.Walks.{Attribute, comment, doctype, Element, end, Event, start, text}
use Rattle.hm_refs.specs.Tables.{IsTable}
use Rattle.hm_spelling_spec.specs.Characters.{is_value, Spot}
use Rattle.hm_spelling_spec.specs.Characters as spots
use Rattle.hm_spelling_spec.specs.Spellings.{Before, after_end, after_start, EndForm, EndSp, everywhere, other, SpellsFrom, spot_of, StartForm, StartSp, TextSp, with_line_feed}
use Rattle.hm_spelling_spec.specs.Spellings as forms
use Rattle.hm_spelling_spec.specs.Tags.{character_rules, Spelling}
use Rattle.hm_elements.specs.Paths.{current, is_in_svg, outer}
use Rattle.hm_elements.specs.Tables.{is_rcdata}
use Rattle.hm_graph_laws.proofs.Closing.{markup_law}
use Rattle.hm_graph_laws.specs.ExchangeLaws.{SpellingsSparePlain}
use Rattle.hm_graph_laws.proofs.Gives.{Gives, gives_itself, same_front}
use Rattle.hm_graph_laws.proofs.ExchangedTags.{saved, start_new}
use Rattle.hm_graph_laws.proofs.ExchangedTexts.{text_new}

text_spot : (path : List Element) → is_value (spot_of path) ≡ false
text_spot path = by_tests (is_in_svg path) (is_rcdata (current path))
  where
    by_tests : (a b : Bool) → is_value (cond a spots.foreign (cond b spots.rcdata spots.text)) ≡ false
    by_tests true b = refl
    by_tests false true = refl
    by_tests false false = refl

-- the events, respelled
record Anew (g : Spelling) (before : Before) (path : List Element) (w : List Event) (b : List ℕ) : Type 0 where
  bytes : List ℕ
  spells : SpellsFrom (saved g) before path w bytes
  gives : Gives g.table false b bytes

-- a piece that is respelled before y
record PieceNew (g : Spelling) (spells : List ℕ → List ℕ → Type 0) (b x y : List ℕ) : Type 0 where
  bytes : List ℕ
  is : spells bytes y
  gives : Gives g.table false (b ++ x) (bytes ++ y)

module _ (g : Spelling) (table : IsTable g.table) where
  -- in text '<' keeps whatever is pending
  tags_give : (b inner x y : List ℕ) → length (60 ∷ inner) + length y ≤ length b + length x → Gives g.table false (b ++ x) ((60 ∷ inner) ++ y)
  tags_give b inner x y le = record { le = omega (arith, le, length-append b x, length-append inner y); good = inl (λ spot p v f h. markup_law g.table table spot p (inner ++ y) v f) }

  same_piece : (spells : List ℕ → List ℕ → Type 0) (b x y : List ℕ) → spells b y → Gives g.table false x y → PieceNew g spells b x y
  same_piece spells b x y s e = record { bytes = b; is = s; gives = same_front g.table table false b x y e }

  text_anew : (before : Before) (path : List Element) (s : List ℕ) (raw : Bool) (b x y : List ℕ) → TextSp g before path s raw b x → Gives g.table false x y → PieceNew g (TextSp (saved g) before path s raw) b x y
  text_anew before path s true b x y t e = same_piece (TextSp (saved g) before path s true) b x y t e
  text_anew before path s false b x y t e =
      let n = text_new g.table table (character_rules g) (spot_of path) (with_line_feed before path (chars s)) b x y t (subst (λ v. Gives g.table v x y) (sym (text_spot path)) e) in
      record { bytes = n.bytes; is = n.spells; gives = subst (λ v. Gives g.table v (b ++ x) (n.bytes ++ y)) (text_spot path) n.gives }

  start_anew : (before : Before) (n : List ℕ) (foreign : Bool) (attributes : List Attribute) (w : List Event) (form : StartForm) (b x y : List ℕ) → StartSp g before n foreign attributes w form b x → Gives g.table false x y
      → PieceNew g (StartSp (saved g) before n foreign attributes w form) b x y
  start_anew before n foreign attributes w forms.omitted b x y s e = same_piece (StartSp (saved g) before n foreign attributes w forms.omitted) b x y s e
  start_anew before n foreign attributes w forms.written b x y s e = let t = start_new g table n attributes false b x y s e.le in record { bytes = 60 ∷ t.inner; is = t.spells; gives = tags_give b t.inner x y t.le }
  start_anew before n foreign attributes w forms.slashed b x y (may, s) e = let t = start_new g table n attributes true b x y s e.le in record { bytes = 60 ∷ t.inner; is = (may, t.spells); gives = tags_give b t.inner x y t.le }

  end_same : (before : Before) (n : List ℕ) (foreign : Bool) (path : List Element) (w : List Event) (form : EndForm) (b : List ℕ) → EndSp g before n foreign path w form b → EndSp (saved g) before n foreign path w form b
  end_same before n foreign path w forms.absent b e = e
  end_same before n foreign path w forms.omitted b e = e
  end_same before n foreign path w forms.written b e = e

  in_front : (b piece rest new more : List ℕ) → b ≡ piece ++ rest → Gives g.table false (piece ++ rest) (new ++ more) → Gives g.table false b (new ++ more)
  in_front b piece rest new more is e = subst (λ w. Gives g.table false w (new ++ more)) (sym is) e

  anew : (w : List Event) (before : Before) (path : List Element) (b : List ℕ) → SpellsFrom g before path w b → Anew g before path w b
  anew [] before path b is = record { bytes = b; spells = is; gives = gives_itself g.table false b }
  anew (doctype legacy ∷ w) before path b (piece, rest, is, d, more) =
      let m = anew w other path rest more in
      record { bytes = piece ++ m.bytes; spells = (piece, m.bytes, refl, d, m.spells); gives = in_front b piece rest piece m.bytes is (same_front g.table table false piece rest m.bytes m.gives) }
  anew (comment s ∷ w) before path b (rest, is, more) =
      let m = anew w other path rest more in
      let front = same_front g.table table false (codes "<!--") (s ++ (codes "-->" ++ rest)) (s ++ (codes "-->" ++ m.bytes))
      (same_front g.table table false s (codes "-->" ++ rest) (codes "-->" ++ m.bytes) (same_front g.table table false (codes "-->") rest m.bytes m.gives)) in
      record { bytes = codes "<!--" ++ (s ++ (codes "-->" ++ m.bytes)); spells = (m.bytes, refl, m.spells); gives = subst (λ x. Gives g.table false x (codes "<!--" ++ (s ++ (codes "-->" ++ m.bytes)))) (sym is) front }
  anew (text s raw ∷ w) before path b (piece, rest, is, t, more) =
      let m = anew w other path rest more in
      let n = text_anew before path s raw piece rest m.bytes t m.gives in
      record { bytes = n.bytes ++ m.bytes; spells = (n.bytes, m.bytes, refl, n.is, m.spells); gives = in_front b piece rest n.bytes m.bytes is n.gives }
  anew (start name foreign attributes ∷ w) before path b (form, piece, rest, is, s, more) =
      let m = anew w (after_start foreign form) (record { name = name; foreign = foreign } ∷ path) rest more in
      let n = start_anew before name foreign attributes w form piece rest m.bytes s m.gives in
      record { bytes = n.bytes ++ m.bytes; spells = (form, n.bytes, m.bytes, refl, n.is, m.spells); gives = in_front b piece rest n.bytes m.bytes is n.gives }
  anew (end name foreign ∷ w) before path b (form, piece, rest, is, e, more) =
      let m = anew w (after_end name form) (outer path) rest more in
      record { bytes = piece ++ m.bytes; spells = (form, piece, m.bytes, refl, end_same before name foreign (outer path) w form piece e, m.spells); gives = in_front b piece rest piece m.bytes is (same_front g.table table false piece rest m.bytes m.gives) }

pub spellings_spare_plain : SpellingsSparePlain
spellings_spare_plain t table r w b s =
    let n = anew (record { table = t; rules = r; refers = everywhere }) table w other [] b s in
    record { bytes = n.bytes; spells = n.spells; short = n.gives.le }
