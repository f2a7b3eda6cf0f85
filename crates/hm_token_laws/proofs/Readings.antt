-- Tokens that are read one after another, and what follows them.
use Rattle.std.proofs.Common.{◌≡◌, ℕ, true, List, [], ◌∷◌, ◌++◌, refl, ap, subst, ◌∙◌, append_assoc}
use Rattle.hm_refs.specs.Names.{Entry}
use Rattle.hm_tree.specs.Tokens.{Seen, taken}
use Rattle.hm_token_laws.specs.First.{Mode, ordinary, in_svg, rcdata, raw, script, after_empty_tags, after_bytes, first}
use Rattle.hm_token_laws.specs.Readings.{ends_itself, NextExtends, ReadStep, ReadsAs, ReadsWhole, WholeReadingsExtend, ReadingsFollow, ReadPiece, all_bytes, all_steps, EachIsRead, PiecesAreRead, EachIsWhole, WholePiecesAreRead}
use Rattle.hm_token_laws.proofs.Longer.{next_tokens_extend, markup_longer, empty_tags_longer}

ends_longer : (mode : Mode) (s y : List ℕ) → ends_itself mode s ≡ true → ends_itself mode (s ++ y) ≡ true
ends_longer ordinary s y h = rw (empty_tags_longer s y h) (markup_longer (after_empty_tags s).rest y h)
ends_longer in_svg s y h = rw (empty_tags_longer s y h) (markup_longer (after_empty_tags s).rest y h)
ends_longer (rcdata name) s y h = refl
ends_longer (raw name) s y h = refl
ends_longer script s y h = refl

-- the same token, with more after it
token_longer : (t : List Entry) (mode : Mode) (s y : List ℕ) (n : ℕ) (token : Seen) (left : List ℕ) → ends_itself mode s ≡ true → first t mode s ≡ after_bytes n (taken token left)
    → first t mode (s ++ y) ≡ after_bytes n (taken token (left ++ y))
token_longer t mode s y n token left ends h =
    let k = subst (λ a. NextExtends y a (first t mode (s ++ y))) h (next_tokens_extend t mode s y ends) in
    k.1 ∙ ap (after_bytes n) k.2

whole_longer : (t : List Entry) (ks : List ReadStep) (s y rest : List ℕ) → ReadsWhole t ks s rest → ReadsWhole t ks (s ++ y) (rest ++ y)
whole_longer t [] s y rest h = ap (λ x. x ++ y) h
whole_longer t (k ∷ ks) s y rest (n, left, h, ends, more) = (n, left ++ y, token_longer t k.mode s y n k.token left ends h, ends_longer k.mode s y ends, whole_longer t ks left y rest more)

whole_as : (t : List Entry) (ks : List ReadStep) (s rest : List ℕ) → ReadsWhole t ks s rest → ReadsAs t ks s rest
whole_as t [] s rest h = h
whole_as t (k ∷ ks) s rest (n, left, h, ends, more) = (n, left, h, whole_as t ks left rest more)

pub whole_readings_extend : WholeReadingsExtend
whole_readings_extend t ks s y rest h = let w = whole_longer t ks s y rest h in (w, whole_as t ks (s ++ y) (rest ++ y) w)

pub readings_follow : ReadingsFollow
readings_follow t [] js s left rest h i = rw h i
readings_follow t (k ∷ ks) js s left rest (n, next, h, more) i = (n, next, h, readings_follow t ks js next left rest more i)

pub pieces_are_read : PiecesAreRead
pieces_are_read t [] after h = refl
pieces_are_read t (p ∷ ps) after h =
    rw (append_assoc p.bytes (all_bytes ps) after) (readings_follow t p.steps (all_steps ps) (p.bytes ++ (all_bytes ps ++ after)) (all_bytes ps ++ after) after h.0 (pieces_are_read t ps after h.1))

each_is_read : (t : List Entry) (ps : List ReadPiece) (after : List ℕ) → EachIsWhole t ps → EachIsRead t ps after
each_is_read t [] after h = tt
each_is_read t (p ∷ ps) after h = ((whole_readings_extend t p.steps p.bytes (all_bytes ps ++ after) [] h.0).1, each_is_read t ps after h.1)

pub whole_pieces_are_read : WholePiecesAreRead
whole_pieces_are_read t ps after h = pieces_are_read t ps after (each_is_read t ps after h)
