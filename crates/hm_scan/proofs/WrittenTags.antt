-- Written tags are read back.
use Rattle.std.proofs.Common.{◌≡◌, ℕ, ◌≤◌, Bool, true, false, cond, not, ◌&&◌, ◌==◌, nat_lt, List, [], ◌∷◌, ◌++◌, map, length, Some, None, bytes_eq, refl, sym, ap, ap₂, ◌∙◌, append_assoc, append-nil, arith}
use Rattle.std.proofs.lemmas.List.{length-map}
use Rattle.std.proofs.lemmas.Bool.{and_parts}
use Rattle.hm_base.specs.Bytes.{rest_after, head_is, is_space, is_letter, lower, all_pass}
use Rattle.hm_base.specs.RawText.{is_name_end}
use Rattle.hm_base.specs.Forms.{is_blank, is_tag_name}
use Rattle.hm_base.specs.Walks.{Attribute, has_name, has_distinct_names}
use Rattle.hm_refs.specs.Names.{Entry}
use Rattle.hm_markup_spec.specs.Gaps.{is_gap}
use Rattle.hm_markup_spec.specs.Tags.{Quoting, bare, unquoted, double, single, parts_slash, tag_end}
use Rattle.hm_tree.specs.Tokens.{taken, start_tag}
use Rattle.hm_scan.specs.Tags.{is_name_byte, is_unquoted_byte, is_tag_end, CutTag, cut_tag}
use Rattle.hm_scan.specs.Reading.{attribute_limit, has_bad_name, read_attribute, without_name, without_repeats, tag_fault, start_of, end_of, read_start, read_end, read_tag, begins_tag}
use Rattle.hm_scan.specs.ReadBack.{IsAttributes}
use Rattle.hm_scan.specs.TagLaws.{WrittenStartsAreRead, WrittenEndsAreRead}
use Rattle.hm_markup_spec.proofs.Gaps.{gap_blank}
use Rattle.hm_scan.proofs.Fronts.{front_all, after_all}
use Rattle.hm_scan.proofs.Cases.{IsWrittenName, tag_name_written}
use Rattle.hm_scan.proofs.Written.{space_no_name, space_no_unquoted, tag_gap, Stops, attributes_stop, with_attributes, AreRead, attributes_read}

-- the end of a tag
end_read : (slash : Bool) (gap after : List ℕ) → is_blank gap ≡ true → cut_tag (gap ++ (tag_end slash ++ after)) ≡ Some (record { attributes = []; slash = slash; rest = after })
unfolding is_tag_end
end_read true gap after blank = tag_gap gap (47 ∷ 62 ∷ after) blank
end_read false gap after blank = tag_gap gap (62 ∷ after) blank

end_after : (slash : Bool) (gap after : List ℕ) → is_blank gap ≡ true → (c : ℕ) × (r : List ℕ) × (rest_after is_space (gap ++ (tag_end slash ++ after)) ≡ c ∷ r) × ((c == 61) ≡ false)
unfolding is_space
end_after true gap after blank = (47, 62 ∷ after, after_all is_space gap (47 ∷ 62 ∷ after) blank refl, refl)
end_after false gap after blank = (62, after, after_all is_space gap (62 ∷ after) blank refl, refl)

end_ends_name : (slash : Bool) (gap after : List ℕ) → is_blank gap ≡ true → head_is is_name_byte (gap ++ (tag_end slash ++ after)) ≡ false
unfolding is_name_byte is_name_end is_space
end_ends_name true [] after blank = refl
end_ends_name false [] after blank = refl
end_ends_name slash (g ∷ gap) after blank = space_no_name g (and_parts (is_space g) (is_blank gap) blank).0

end_ends_value : (slash : Bool) (gap after : List ℕ) → is_gap (slash && true) gap ≡ true → head_is is_unquoted_byte (gap ++ (tag_end slash ++ after)) ≡ false
unfolding is_gap is_unquoted_byte is_space
end_ends_value true [] after h = absurd (cc)
end_ends_value false [] after h = refl
end_ends_value slash (g ∷ gap) after h = space_no_unquoted g (and_parts (is_space g) (is_blank gap) (and_parts (is_blank (g ∷ gap)) (not ((slash && true) && false)) h).0).0

-- what follows the last attribute
end_stops : (last : Quoting) (slash : Bool) (gap after : List ℕ) → is_gap (slash && parts_slash last) gap ≡ true → Stops last (gap ++ (tag_end slash ++ after))
end_stops bare slash gap after h =
    let blank = gap_blank (slash && false) gap h in
    (end_ends_name slash gap after blank, end_after slash gap after blank)
end_stops unquoted slash gap after h = end_ends_value slash gap after h
end_stops double slash gap after h = tt
end_stops single slash gap after h = tt

pub with_all : (raws : List Attribute) (g : CutTag) → with_attributes raws (Some g) ≡ Some (record g { attributes = raws ++ g.attributes })
with_all [] g = refl
with_all (a ∷ raws) g = rw (with_all raws g) refl

-- attributes with distinct names have no repeats

without_other : (n : List ℕ) (attributes : List Attribute) → has_name n attributes ≡ false → without_name n attributes ≡ attributes
without_other n [] h = refl
without_other n (a ∷ attributes) h = by_test (bytes_eq a.name n) h (without_other n attributes)
  where
    by_test : (b : Bool) → cond b true (has_name n attributes) ≡ false → (has_name n attributes ≡ false → without_name n attributes ≡ attributes)
        → cond b (without_name n attributes) (a ∷ without_name n attributes) ≡ a ∷ attributes
    by_test true h same = absurd (cc)
    by_test false h same = ap (λ r. a ∷ r) (same h)

no_repeats : (attributes : List Attribute) → has_distinct_names attributes ≡ true → without_repeats attributes ≡ attributes
no_repeats [] h = refl
no_repeats (a ∷ attributes) h =
    let both = and_parts (not (has_name a.name attributes)) (has_distinct_names attributes) h in
    rw (no_repeats attributes both.1) (ap (λ r. a ∷ r) (without_other a.name attributes (not_true (has_name a.name attributes) both.0)))
  where
    not_true : (b : Bool) → not b ≡ true → b ≡ false
    not_true false h = refl
    not_true true h = absurd (cc)

-- no fault
accepted : (name : List ℕ) (raws : List Attribute) → is_tag_name name ≡ true → has_bad_name raws ≡ false → length raws ≤ attribute_limit → tag_fault name raws ≡ None
unfolding tag_fault
accepted name raws good none few = let within : nat_lt 256 (length raws) ≡ false = grind arith in rw (good, none, within) refl

start_written : (t : List Entry) (name : List ℕ) (attributes : List Attribute) (g : CutTag) → is_tag_name name ≡ true → IsAttributes attributes
    → map (read_attribute t) g.attributes ≡ attributes → has_bad_name g.attributes ≡ false
    → start_of t name (Some g) ≡ taken (start_tag name attributes g.slash) g.rest
start_written t name attributes g good all read none =
    let count : length g.attributes ≡ length attributes = sym (length-map g.attributes (read_attribute t)) ∙ ap length read in
    let few : length g.attributes ≤ attribute_limit = omega (arith, all.few) in
    rw (accepted name g.attributes good none few, read, no_repeats attributes all.distinct) refl

-- a letter is no '/'
letter_no_slash : (c : ℕ) → is_letter c ≡ true → (47 == c) ≡ false
unfolding is_letter
letter_no_slash c h = grind arith

start_begins : (t : List Entry) (s r : List ℕ) → head_is is_letter s ≡ true → (begins_tag (60 ∷ (s ++ r)) ≡ true) × (read_tag t (60 ∷ (s ++ r)) ≡ read_start t (s ++ r))
unfolding begins_tag read_tag
start_begins t [] r h = absurd (cc)
start_begins t (c ∷ s) r h = rw (letter_no_slash c h, h) (refl, refl)

end_begins : (t : List Entry) (s r : List ℕ) → head_is is_letter s ≡ true → (begins_tag (60 ∷ 47 ∷ (s ++ r)) ≡ true) × (read_tag t (60 ∷ 47 ∷ (s ++ r)) ≡ read_end (s ++ r))
unfolding begins_tag read_tag is_letter
end_begins t [] r h = absurd (cc)
end_begins t (c ∷ s) r h = (unfold is_letter in h, refl)

start_cut : (t : List Entry) (s r : List ℕ) → all_pass is_name_byte s ≡ true → head_is is_name_byte r ≡ false → read_start t (s ++ r) ≡ start_of t (map lower s) (cut_tag r)
unfolding read_start
start_cut t s r all stop = rw (front_all is_name_byte s r all stop, after_all is_name_byte s r all stop) refl

end_cut : (s r : List ℕ) → all_pass is_name_byte s ≡ true → head_is is_name_byte r ≡ false → read_end (s ++ r) ≡ end_of (map lower s) (cut_tag r)
unfolding read_end
end_cut s r all stop = rw (front_all is_name_byte s r all stop, after_all is_name_byte s r all stop) refl

pub starts_read : WrittenStartsAreRead
starts_read t name attributes slash b after good all w =
    let tail : List ℕ = w.gap ++ (tag_end slash ++ after) in
    let rest : List ℕ = w.middle ++ tail in
    let cut : b ++ after ≡ 60 ∷ (w.written ++ rest) = rw w.is (simp append_assoc) in
    let named : IsWrittenName w.written = tag_name_written w.written (rw w.lowered good) in
    let stops : Stops w.last tail = end_stops w.last slash w.gap after w.apart in
    let name_stops : Stops bare rest = attributes_stop t bare w.last attributes w.middle tail w.attributed all.names stops in
    let read : AreRead t attributes w.middle tail = attributes_read t bare w.last attributes w.middle tail w.attributed all.names stops in
    let ended : cut_tag tail ≡ Some (record { attributes = []; slash = slash; rest = after }) = end_read slash w.gap after (gap_blank (slash && parts_slash w.last) w.gap w.apart) in
    let whole : cut_tag rest ≡ Some (record { attributes = read.raws ++ []; slash = slash; rest = after }) = read.cut ∙ ap (with_attributes read.raws) ended ∙ with_all read.raws (record { attributes = []; slash = slash; rest = after }) in
    let begun = start_begins t w.written rest named.letter in
    rw cut (
      begun.0,
      begun.1 ∙ start_cut t w.written rest named.all name_stops.0
          ∙ ap₂ (λ n o. start_of t n o) w.lowered whole
          ∙ start_written t name attributes (record { attributes = read.raws ++ []; slash = slash; rest = after }) good all (rw append-nil read.read) (rw append-nil read.good),
    )

pub ends_read : WrittenEndsAreRead
ends_read t name b after good w =
    let rest : List ℕ = w.gap ++ 62 ∷ after in
    let cut : b ++ after ≡ 60 ∷ 47 ∷ (w.written ++ rest) = rw w.is (simp append_assoc) in
    let named : IsWrittenName w.written = tag_name_written w.written (rw w.lowered good) in
    let begun = end_begins t w.written rest named.letter in
    rw cut (
      begun.0,
      begun.1 ∙ end_cut w.written rest named.all (end_ends_name false w.gap after w.blank)
          ∙ ap₂ end_of w.lowered (end_read false w.gap after w.blank)
          ∙ rw (accepted name [] good refl (omega arith)) refl,
    )
