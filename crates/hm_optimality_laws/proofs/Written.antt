-- Doctypes and tags without attributes, as the edges write them and as they may be spelled.
use Rattle.std.proofs.Common.{◌≡◌, ℕ, ◌≤◌, Bool, true, false, List, [], ◌∷◌, ◌++◌, length, map, codes, refl, sym, ap, ◌∙◌, inl, inr, ◌⊎◌, arith, length-append}
use Rattle.std.proofs.lemmas.List.{length-map}
use Rattle.hm_base.specs.Bytes.{is_space, lower}
use Rattle.hm_base.specs.Walks.{Attribute}
use Rattle.hm_markup_spec.specs.Gaps.{is_gap}
use Rattle.hm_markup_spec.specs.Tags.{bare, tag_end, WritesEnd}
use Rattle.hm_spelling_spec.specs.Tags.{Spelling, SpellsDoctype, SpellsStart}
use Rattle.hm_graph_laws.specs.TagEdges.{end_bytes, start_bytes}
use Rattle.hm_graph_laws.specs.Units.{doctype_bytes}

same_length : (word written : List ℕ) → map lower written ≡ word → length written ≡ length word
same_length word written h = sym (length-map written lower) ∙ ap length h

-- ---- doctypes

pub doctype_spelled : (legacy : Bool) → SpellsDoctype legacy (doctype_bytes legacy)
unfolding is_gap is_space lower
doctype_spelled false = record { word = codes "<!doctype"; gap = codes " "; name = codes "html"; tail = []; whole = refl; word_is = refl; gap_is = refl; name_is = refl; tail_is = refl }
doctype_spelled true = record {
  word = codes "<!doctype";
  gap = codes " ";
  name = codes "html";
  space = codes " ";
  keyword = codes "SYSTEM";
  between = codes " ";
  identifier = codes "\"about:legacy-compat\"";
  tail = [];
  whole = refl;
  word_is = refl;
  gap_is = refl;
  name_is = refl;
  space_is = refl;
  keyword_is = refl;
  between_is = refl;
  identifier_is = inl refl;
  tail_is = refl;
}

some_gap : (s : List ℕ) → is_gap true s ≡ true → 1 ≤ length s
unfolding is_gap
some_gap [] h = absurd (cc)
some_gap (c ∷ s) h = omega arith

identifier_length : (s : List ℕ) → (s ≡ codes "\"about:legacy-compat\"") ⊎ (s ≡ codes "'about:legacy-compat'") → length s ≡ 21
identifier_length s (inl e) = ap length e
identifier_length s (inr e) = ap length e

pub doctype_short : (legacy : Bool) (b : List ℕ) → SpellsDoctype legacy b → length (doctype_bytes legacy) ≤ length b
doctype_short false b d = omega (
  arith,
  ap length d.whole,
  same_length (codes "<!doctype") d.word d.word_is,
  some_gap d.gap d.gap_is,
  same_length (codes "html") d.name d.name_is,
  length-append d.word (d.gap ++ (d.name ++ (d.tail ++ codes ">"))),
  length-append d.gap (d.name ++ (d.tail ++ codes ">")),
  length-append d.name (d.tail ++ codes ">"),
  length-append d.tail (codes ">"),
)
doctype_short true b d = omega (
  arith,
  ap length d.whole,
  same_length (codes "<!doctype") d.word d.word_is,
  some_gap d.gap d.gap_is,
  same_length (codes "html") d.name d.name_is,
  some_gap d.space d.space_is,
  same_length (codes "system") d.keyword d.keyword_is,
  some_gap d.between d.between_is,
  identifier_length d.identifier d.identifier_is,
  length-append d.word (d.gap ++ (d.name ++ (d.space ++ (d.keyword ++ (d.between ++ (d.identifier ++ (d.tail ++ codes ">"))))))),
  length-append d.gap (d.name ++ (d.space ++ (d.keyword ++ (d.between ++ (d.identifier ++ (d.tail ++ codes ">")))))),
  length-append d.name (d.space ++ (d.keyword ++ (d.between ++ (d.identifier ++ (d.tail ++ codes ">"))))),
  length-append d.space (d.keyword ++ (d.between ++ (d.identifier ++ (d.tail ++ codes ">")))),
  length-append d.keyword (d.between ++ (d.identifier ++ (d.tail ++ codes ">"))),
  length-append d.between (d.identifier ++ (d.tail ++ codes ">")),
  length-append d.identifier (d.tail ++ codes ">"),
  length-append d.tail (codes ">"),
)

-- ---- end tags

pub end_spelled : (n : List ℕ) → map lower n ≡ n → WritesEnd n (end_bytes n)
end_spelled n low = record { written = n; gap = []; is = refl; lowered = low; blank = refl }

pub end_short : (n b : List ℕ) → WritesEnd n b → length (end_bytes n) ≤ length b
end_short n b e = omega (
  arith,
  ap length e.is,
  same_length n e.written e.lowered,
  length-append e.written (e.gap ++ 62 ∷ []),
  length-append e.gap (62 ∷ []),
  length-append n (codes ">"),
)

-- ---- start tags without attributes

pub start_spelled : (g : Spelling) (n after : List ℕ) → map lower n ≡ n → SpellsStart g n [] false (start_bytes n) after
unfolding is_gap
start_spelled g n after low = record { written = n; last = bare; middle = []; gap = []; is = refl; lowered = low; attributed = (refl, refl); apart = refl }

pub slashed_spelled : (g : Spelling) (n after : List ℕ) → map lower n ≡ n → SpellsStart g n [] true (codes "<" ++ (n ++ codes "/>")) after
unfolding is_gap
slashed_spelled g n after low = record { written = n; last = bare; middle = []; gap = []; is = refl; lowered = low; attributed = (refl, refl); apart = refl }

tag_end_some : (slash : Bool) → 1 ≤ length (tag_end slash)
tag_end_some true = omega arith
tag_end_some false = omega arith

pub start_short : (g : Spelling) (n : List ℕ) (attributes : List Attribute) (slash : Bool) (b after : List ℕ) → SpellsStart g n attributes slash b after → length (start_bytes n) ≤ length b
start_short g n attributes slash b after s = omega (
  arith,
  ap length s.is,
  same_length n s.written s.lowered,
  tag_end_some slash,
  length-append s.written (s.middle ++ (s.gap ++ tag_end slash)),
  length-append s.middle (s.gap ++ tag_end slash),
  length-append s.gap (tag_end slash),
  length-append n (codes ">"),
)

pub slashed_short : (g : Spelling) (n : List ℕ) (attributes : List Attribute) (b after : List ℕ) → SpellsStart g n attributes true b after → length (codes "<" ++ (n ++ codes "/>")) ≤ length b
slashed_short g n attributes b after s = omega (
  arith,
  ap length s.is,
  same_length n s.written s.lowered,
  length-append s.written (s.middle ++ (s.gap ++ tag_end true)),
  length-append s.middle (s.gap ++ tag_end true),
  length-append s.gap (tag_end true),
  length-append n (codes "/>"),
)
