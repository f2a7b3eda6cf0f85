-- Each spelling of a text or a value has one in which no reference begins at a plain character.
use Rattle.std.proofs.Common.{◌≡◌, ℕ, ◌+◌, ◌≤◌, Bool, true, false, ◌==◌, not, List, [], ◌∷◌, ◌++◌, length, refl, sym, ap, ◌∙◌, subst, append_assoc, inl, inr, ◌⊎◌, arith, length-append, encode_utf8}
use Rattle.std.specs.Fmt as digits
use Rattle.std.proofs.lemmas.Fmt.{length-decimal-le}
use Rattle.std.proofs.lemmas.Str.{encode_ascii}
use Rattle.hm_base.specs.Bytes.{head_is}
use Rattle.hm_refs.specs.Names.{Entry}
use Rattle.hm_refs.specs.Numbers.{point_of}
use Rattle.hm_refs.specs.Tables.{IsTable}
use Rattle.hm_spelling_spec.specs.Characters.{AreAllowed, CharacterRules, IsAllowed, itself, may_stand, meant, Piece, piece_bytes, piece_points, reference_to, section, spelled, Spot, is_value, stays}
use Rattle.hm_graph_laws.specs.CharacterEdges.{itself_to}
use Rattle.hm_graph_laws.proofs.ChoiceLaws.{itself_fits, takes}
use Rattle.hm_graph_laws.proofs.Numbers.{decimal_refers, hash_one}
use Rattle.hm_graph_laws.proofs.Pieces.{Refers}
use Rattle.hm_graph_laws.proofs.CharacterReading.{IsName, IsNumber, reference_is}
use Rattle.hm_graph_laws.proofs.ReferenceStarts.{OneOrTwo, one_point, points_few, refers_of, two_points}
use Rattle.hm_graph_laws.specs.States.{decimal, nothing}
use Rattle.hm_graph_laws.specs.Steps.{keeps}
use Rattle.hm_graph_laws.specs.ExchangeLaws.{sparing}
use Rattle.hm_graph_laws.proofs.Again.{Again, again_one, close_name, close_one, name_again}
use Rattle.hm_graph_laws.proofs.Gives.{amp_keeps, first_step, Gives, Keeps, same_front}
use Rattle.hm_graph_laws.proofs.Judged.{amp_takes, is_amp, is_lt, IsJudged, judged, no_stay, stays_is}
use Rattle.hm_graph_laws.proofs.PlainTests.{IsPlainTest}

-- what begins with '&' keeps what a '&' or a '<' keeps in its place
judged_keeps : (t : List Entry) → IsTable t → (value : Bool) (c : ℕ) (x y : List ℕ) → IsJudged c → Keeps t value (encode_utf8 c ++ x) (38 ∷ y)
judged_keeps t k value c x y (is_amp e) =
    subst (λ w. Keeps t value (w ++ x) (38 ∷ y)) (sym (ap encode_utf8 e ∙ encode_ascii 38 (omega arith))) (amp_keeps t k value x y)
judged_keeps t k value c x y (is_lt e) =
    subst (λ w. Keeps t value (w ++ x) (38 ∷ y)) (sym (ap encode_utf8 e ∙ encode_ascii 60 (omega arith)))
    (λ spot p v f h. takes t k spot p f (amp_takes t k spot p f (first_step t k spot p 60 x f h)) y)

reference_keeps : (t : List Entry) → IsTable t → (spot : Spot) (points qs piece new x y : List ℕ) → Refers t spot points piece x → Refers t spot qs new y → Keeps t (is_value spot) (piece ++ x) (new ++ y)
reference_keeps t k spot points qs piece new x y r n =
    subst (λ w. Keeps t (is_value spot) (w ++ x) (new ++ y)) (sym r.bytes)
    (subst (λ w. Keeps t (is_value spot) ((38 ∷ r.inner) ++ x) (w ++ y)) (sym n.bytes) (amp_keeps t k (is_value spot) (r.inner ++ x) (n.inner ++ y)))

amp_point : point_of 38 ≡ 38
unfolding point_of
amp_point = refl

lt_point : point_of 60 ≡ 60
unfolding point_of
lt_point = refl

-- '&' and '<' by their numbers
judged_number : (t : List Entry) (spot : Spot) (c : ℕ) (y : List ℕ) → IsJudged c → keeps t spot decimal y ≡ true → Again t spot (c ∷ []) 4 y
judged_number t spot c y (is_amp e) kept = record {
  piece = 38 ∷ 35 ∷ digits.decimal 38;
  refers = decimal_refers t spot c 38 y (omega arith) (amp_point ∙ sym e) kept;
  short = let l = length-decimal-le 2 38 (omega arith) (omega arith) (omega arith) in omega arith;
}
judged_number t spot c y (is_lt e) kept = record {
  piece = 38 ∷ 35 ∷ digits.decimal 60;
  refers = decimal_refers t spot c 60 y (omega arith) (lt_point ∙ sym e) kept;
  short = let l = length-decimal-le 2 60 (omega arith) (omega arith) (omega arith) in omega arith;
}

judged_short : (c : ℕ) → IsJudged c → length (encode_utf8 c) ≡ 1
judged_short c (is_amp e) = ap length (ap encode_utf8 e ∙ encode_ascii 38 (omega arith))
judged_short c (is_lt e) = ap length (ap encode_utf8 e ∙ encode_ascii 60 (omega arith))

not_plain : (t : List Entry) (plain : ℕ → Bool) → IsPlainTest t plain → (c : ℕ) → IsJudged c → not (plain c) ≡ true
not_plain t plain i c j = by_plain (plain c) refl j
  where
    by_plain : (b : Bool) → plain c ≡ b → IsJudged c → not b ≡ true
    by_plain false e j' = refl
    by_plain true e (is_amp a) = absurd (let n = i.no_amp c e in let m : (c == 38) ≡ true = rw a refl in cc)
    by_plain true e (is_lt a) = absurd (let n = i.no_lt c e in let m : (c == 60) ≡ true = rw a refl in cc)

plain_stays : (t : List Entry) (spot : Spot) (c : ℕ) (y : List ℕ) → (c == 38) ≡ false → (c == 60) ≡ false → stays t spot c y ≡ true
unfolding stays
plain_stays t spot c y a l = rw (a, l) refl

-- a piece that is respelled before y
pub record NewPiece (t : List Entry) (rules : CharacterRules) (plain : ℕ → Bool) (spot : Spot) (q : Piece) (x y : List ℕ) : Type 0 where
  pub new : Piece
  pub points : piece_points new ≡ piece_points q
  pub is_allowed : IsAllowed t (sparing rules plain) spot new y
  pub gives : Gives t (is_value spot) (piece_bytes q ++ x) (piece_bytes new ++ y)

-- the pieces, respelled
pub record Exchanged (t : List Entry) (rules : CharacterRules) (plain : ℕ → Bool) (spot : Spot) (ps : List Piece) (x y : List ℕ) : Type 0 where
  pub pieces : List Piece
  pub means : meant pieces ≡ meant ps
  pub allowed : AreAllowed t (sparing rules plain) spot pieces y
  pub gives : Gives t (is_value spot) (spelled ps ++ x) (spelled pieces ++ y)

module _ (t : List Entry) (table : IsTable t) (rules : CharacterRules) (plain : ℕ → Bool) (i : IsPlainTest t plain) (spot : Spot) where
  itself_new : (c : ℕ) (x y : List ℕ) → may_stand rules.ascii spot c ≡ true → stays t spot c x ≡ true → Gives t (is_value spot) x y → NewPiece t rules plain spot (itself c) x y
  itself_new c x y can kept e = by_stay (stays t spot c y) refl e.good
    where
      by_stay : (s : Bool) → stays t spot c y ≡ s → Keeps t (is_value spot) x y ⊎ (length y + 3 ≤ length x) → NewPiece t rules plain spot (itself c) x y
      by_stay true h g = record { new = itself c; points = refl; is_allowed = (can, h); gives = same_front t table (is_value spot) (encode_utf8 c) x y e }
      by_stay false h (inl g) =
          let s = sym (stays_is t table spot c y) ∙ h in
          absurd (let n = g spot (itself_to spot c nothing) refl (itself_fits t table spot c nothing tt) (sym (stays_is t table spot c x) ∙ kept) in cc)
      by_stay false h (inr m) =
          let j = judged t spot c y h in
          let a = judged_number t spot c y j (no_stay t table spot c y h) in
          record {
            new = reference_to a.piece (c ∷ []);
            points = refl;
            is_allowed = (not_plain t plain i c j, a.refers.found);
            gives = record {
              le = omega (arith, length-append (encode_utf8 c) x, length-append a.piece y, judged_short c j, a.short);
              good = inl (subst (λ w. Keeps t (is_value spot) (encode_utf8 c ++ x) (w ++ y)) (sym a.refers.bytes) (judged_keeps t table (is_value spot) c x (a.refers.inner ++ y) j));
            };
          }

  -- the reference is written again with at most n bytes
  again_new : (qs b : List ℕ) (n : ℕ) (x y : List ℕ) → head_is (λ c. not (plain c)) qs ≡ true → Refers t spot qs b x → Again t spot qs n y → n + length y ≤ length b + length x → NewPiece t rules plain spot (reference_to b qs) x y
  again_new qs b n x y free r a le = record {
    new = reference_to a.piece qs;
    points = refl;
    is_allowed = (free, a.refers.found);
    gives = record { le = omega (arith, length-append b x, length-append a.piece y, a.short, le); good = inl (reference_keeps t table spot qs qs b a.piece x y r a.refers) };
  }

  one_new : (c : ℕ) (b x y : List ℕ) → Refers t spot (c ∷ []) b x → Gives t (is_value spot) x y → NewPiece t rules plain spot (reference_to b (c ∷ [])) x y
  one_new c b x y r e = by_plain (plain c) refl e.good
    where
      by_plain : (p : Bool) → plain c ≡ p → Keeps t (is_value spot) x y ⊎ (length y + 3 ≤ length x) → NewPiece t rules plain spot (reference_to b (c ∷ [])) x y
      by_plain true h g =
          let one = ap length (encode_ascii c (i.low c h)) in
          let long = i.long spot c b x h r in
          record {
            new = itself c;
            points = refl;
            is_allowed = (i.stands rules.ascii spot c h, plain_stays t spot c y (i.no_amp c h) (i.no_lt c h));
            gives = record { le = omega (arith, length-append b x, length-append (encode_utf8 c) y, one, long, e.le); good = inr (omega (arith, length-append b x, length-append (encode_utf8 c) y, one, long, e.le)) };
          }
      by_plain false h (inl g) = again_new (c ∷ []) b (length b) x y (rw h refl) r (again_one t table spot c b x y g r) (omega (arith, e.le))
      by_plain false h (inr m) = again_new (c ∷ []) b (length b + 1) x y (rw h refl) r (close_one t table spot c b x y r) (omega (arith, m))

  pair_new : (c d : ℕ) (b x y : List ℕ) → Refers t spot (c ∷ d ∷ []) b x → Gives t (is_value spot) x y → NewPiece t rules plain spot (reference_to b (c ∷ d ∷ [])) x y
  pair_new c d b x y r e = by_kind (reference_is t table spot (c ∷ d ∷ []) b x r)
    where
      free : IsName t spot (c ∷ d ∷ []) b x → (p : Bool) → plain c ≡ p → not p ≡ true
      free n false h = refl
      free n true h = absurd (i.single_name c d b h n.own)

      by_good : IsName t spot (c ∷ d ∷ []) b x → Keeps t (is_value spot) x y ⊎ (length y + 3 ≤ length x) → NewPiece t rules plain spot (reference_to b (c ∷ d ∷ [])) x y
      by_good n (inl g) = again_new (c ∷ d ∷ []) b (length b) x y (free n (plain c) refl) r (name_again t table spot (c ∷ d ∷ []) b x y g n) (omega (arith, e.le))
      by_good n (inr m) = again_new (c ∷ d ∷ []) b (length b + 1) x y (free n (plain c) refl) r (close_name t table spot (c ∷ d ∷ []) b x y n) (omega (arith, m))

      by_kind : IsName t spot (c ∷ d ∷ []) b x ⊎ IsNumber (c ∷ d ∷ []) b x → NewPiece t rules plain spot (reference_to b (c ∷ d ∷ [])) x y
      by_kind (inl n) = by_good n e.good
      by_kind (inr n) = absurd (let (m, is) = hash_one n.inner (record { points = c ∷ d ∷ []; len = length b }) n.read in cc)

  reference_new : (qs b x y : List ℕ) → OneOrTwo qs → Refers t spot qs b x → Gives t (is_value spot) x y → NewPiece t rules plain spot (reference_to b qs) x y
  reference_new qs b x y (one_point c) r e = one_new c b x y r e
  reference_new qs b x y (two_points c d) r e = pair_new c d b x y r e

  new_piece : (q : Piece) (x y : List ℕ) → IsAllowed t rules spot q x → Gives t (is_value spot) x y → NewPiece t rules plain spot q x y
  new_piece (itself c) x y (can, kept) e = itself_new c x y can kept e
  new_piece (reference_to b qs) x y (begins, read) e = let r = refers_of t table spot qs b x read in reference_new qs b x y (points_few t table spot qs b x r) r e
  new_piece (section cs) x y a e = record { new = section cs; points = refl; is_allowed = a; gives = same_front t table (is_value spot) (piece_bytes (section cs)) x y e }

  pub exchange : (ps : List Piece) (x y : List ℕ) → AreAllowed t rules spot ps x → Gives t (is_value spot) x y → Exchanged t rules plain spot ps x y
  exchange [] x y g e = record { pieces = []; means = refl; allowed = tt; gives = e }
  exchange (q ∷ ps) x y (a, g) e =
      let r = exchange ps x y g e in
      let n = new_piece q (spelled ps ++ x) (spelled r.pieces ++ y) a r.gives in
      record {
        pieces = n.new ∷ r.pieces;
        means = ap (λ w. w ++ meant r.pieces) n.points ∙ ap (λ w. piece_points q ++ w) r.means;
        allowed = (n.is_allowed, r.allowed);
        gives = subst (λ w. Gives t (is_value spot) w ((piece_bytes n.new ++ spelled r.pieces) ++ y)) (sym (append_assoc (piece_bytes q) (spelled ps) x))
            (subst (λ w. Gives t (is_value spot) (piece_bytes q ++ (spelled ps ++ x)) w) (sym (append_assoc (piece_bytes n.new) (spelled r.pieces) y)) n.gives);
      }
