-- The flags of a number say in which lists its name is.
use Rattle.std.proofs.Common.{◌≡◌, ℕ, zero, suc, ◌<◌, length, get_or, Bool, true, false, not, ◌&&◌, List, [], ◌∷◌, map, refl, sym, ap, ◌∙◌, arith}
use Rattle.std.specs.List.{list_all, range_with_len}
use Rattle.std.proofs.lemmas.Bool.{and_parts, not-true}
use Rattle.std.proofs.lemmas.List.{get_or-map}
use Rattle.std.proofs.lemmas.List.FromFn.{get_or-map-range_with_len}
use Rattle.hm_elements.specs.declared.names.TheConstants.{NAME_COUNT}
use Rattle.hm_elements.specs.declared.rows.TheConstants.{FLAGS, FLAG_COUNT}
use Rattle.hm_elements.specs.Names.{is_among}
use Rattle.hm_elements.specs.Nesting.{noscript_children}
use Rattle.hm_elements.specs.Numbers.{names, number_of, text_of}
use Rattle.hm_elements.specs.Omission.{up_of_p}
use Rattle.hm_elements.specs.Paths.{blank_parents}
use Rattle.hm_elements.specs.Rows.{flags, listed_at, bit_at, flags_at}
use Rattle.hm_elements.specs.Tables.{roots, voids, rcdata_names, raw_names, refused_names, headings, sections, unnested_names, blocks, paragraph_ends, boundaries, svg_boundaries, block_names, svg_names, space_parents, boolean_attributes}
use Rattle.hm_elements.proofs.Finding.{many, same_asked}
use Rattle.hm_elements.proofs.PairFacts.{same_at}
use Rattle.hm_elements.proofs.TableTools.{none_among}

-- each list, name by name
all_flags : map (λ ms. map (λ n. is_among n ms) names) flags ≡ map (λ b. map (λ f. bit_at f b) FLAGS) (range_with_len 0 FLAG_COUNT)
unfolding names flags bit_at is_among roots voids rcdata_names raw_names refused_names headings sections unnested_names blocks paragraph_ends boundaries svg_boundaries block_names svg_names up_of_p blank_parents space_parents boolean_attributes noscript_children
all_flags = refl

flags_many : length FLAGS ≡ NAME_COUNT
flags_many = refl

lists_many : length flags ≡ FLAG_COUNT
unfolding flags
lists_many = refl

pub flag_bit : (b k : ℕ) → b < FLAG_COUNT → k < NAME_COUNT → bit_at (flags_at k) b ≡ is_among (text_of k) (listed_at b)
unfolding flags_at listed_at text_of
flag_bit b k h l =
    let column : map (λ n. is_among n (get_or flags b [])) names ≡ map (λ f. bit_at f b) FLAGS =
    sym (get_or-map (λ ms. map (λ n. is_among n ms) names) flags b [] [] (rw lists_many h)) ∙ ap (λ l'. get_or l' b []) all_flags ∙ get_or-map-range_with_len (λ b'. map (λ f. bit_at f b') FLAGS) 0 FLAG_COUNT b b [] h (omega arith) in
    sym (same_at (λ n. is_among n (get_or flags b [])) (λ f. bit_at f b) names FLAGS k [] 0 false (rw many l) (rw flags_many l) column)

abbrev is_of_names : List (List ℕ) → Bool
is_of_names ms = list_all (λ m. is_among m names) ms && not (is_among [] ms)

flags_named : list_all is_of_names flags ≡ true
unfolding names flags is_among roots voids rcdata_names raw_names refused_names headings sections unnested_names blocks paragraph_ends boundaries svg_boundaries block_names svg_names up_of_p blank_parents space_parents boolean_attributes noscript_children
flags_named = refl

none_named : is_of_names [] ≡ true
unfolding is_among
none_named = refl

at_entry : (ls : List (List (List ℕ))) (b : ℕ) → list_all is_of_names ls ≡ true → is_of_names (get_or ls b []) ≡ true
at_entry [] b all = none_named
at_entry (l ∷ ls) zero all = (and_parts (is_of_names l) (list_all is_of_names ls) all).0
at_entry (l ∷ ls) (suc b) all = at_entry ls b (and_parts (is_of_names l) (list_all is_of_names ls) all).1

pub flag_named : (b : ℕ) (n : List ℕ) → is_among (text_of (number_of n)) (listed_at b) ≡ is_among n (listed_at b)
unfolding listed_at
flag_named b n =
    let ms : List (List ℕ) = get_or flags b [] in
    let both = and_parts (list_all (λ m. is_among m names) ms) (not (is_among [] ms)) (at_entry flags b flags_named) in
    same_asked (λ m. is_among m ms) n (λ e. not-true (is_among [] ms) both.1 ∙ sym (none_among n ms names e both.0))

pub flags_are : (xs : List ℕ) (k : ℕ) → xs ≡ FLAGS → get_or xs k 0 ≡ flags_at k
unfolding flags_at
flags_are xs k e = rw e refl
