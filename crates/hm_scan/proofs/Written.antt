-- A written tag is read as its name and its attributes.
use Rattle.std.proofs.Common.{◌≡◌, ℕ, ◌-◌, Bool, true, false, not, ◌&&◌, ◌||◌, ◌==◌, List, [], ◌∷◌, ◌++◌, map, length, Option, refl, sym, ap, ap₂, subst, ◌∙◌, append_assoc, arith, length-append}
use Rattle.std.proofs.lemmas.Bool.{and_parts}
use Rattle.hm_base.specs.Bytes.{rest_after, head_is, is_space, lower, all_pass, is_null}
use Rattle.hm_base.specs.RawText.{is_name_end}
use Rattle.hm_base.specs.Forms.{is_blank, is_attribute_name}
use Rattle.hm_base.specs.Walks.{Attribute}
use Rattle.hm_refs.specs.Names.{Entry}
use Rattle.hm_markup_spec.specs.Gaps.{is_gap}
use Rattle.hm_markup_spec.specs.Tags.{Quoting, bare, unquoted, double, single, parts_attributes, IsAssigned, WritesAttribute, WritesAttributes}
use Rattle.hm_scan.specs.Values.{read_value}
use Rattle.hm_scan.specs.Tags.{is_name_byte, is_later_byte, is_unquoted_byte, is_inside, is_quote, is_tag_end, cut_quoted, cut_value, cut_assigned, with_name, named, attribute_at, CutTag, with_attribute, tag_from, cut_tag}
use Rattle.hm_scan.specs.Reading.{is_bad_name, has_bad_name, read_attribute}
use Rattle.hm_scan.specs.ReadBack.{is_unquoted, IsQuoted, IsUnquoted, WritesValue, are_attribute_names}
use Rattle.hm_scan.proofs.Fronts.{front_all, after_all}
use Rattle.hm_scan.proofs.Cases.{differs, IsPlain, IsWrittenAttribute, attribute_name_written}

no_space_in : (c : ℕ) → is_later_byte c ≡ true → is_space c ≡ false
unfolding is_later_byte is_name_end
no_space_in c h = parts (is_space c) (c == 47) (c == 62) (c == 61) h
  where
    parts : (a b d e : Bool) → not ((a || b || d) || e) ≡ true → a ≡ false
    parts false b d e h = refl
    parts true b d e h = absurd (cc)

pub space_no_name : (c : ℕ) → is_space c ≡ true → is_name_byte c ≡ false
unfolding is_name_byte is_name_end
space_no_name c h = rw h refl

pub space_no_unquoted : (c : ℕ) → is_space c ≡ true → is_unquoted_byte c ≡ false
unfolding is_unquoted_byte
space_no_unquoted c h = rw h refl

no_name_no_later : (c : ℕ) → is_name_byte c ≡ false → is_later_byte c ≡ false
unfolding is_name_byte is_later_byte
no_name_no_later c h = parts (is_name_end c) (c == 61) h
  where
    parts : (a b : Bool) → not a ≡ false → not (a || b) ≡ false
    parts true b h = refl
    parts false b h = absurd (cc)

-- whitespace in a tag is skipped
pub tag_gap : (g s : List ℕ) → is_blank g ≡ true → cut_tag (g ++ s) ≡ cut_tag s
unfolding is_tag_end
tag_gap [] s all = refl
tag_gap (c ∷ g) s all =
    let both = and_parts (is_space c) (is_blank g) all in
    rw (differs is_space c 62 both.0 (unfold is_space in refl), differs is_space c 47 both.0 (unfold is_space in refl), both.0) (tag_gap g s both.1)

passed : (xs s : List ℕ) → tag_from (length xs) (xs ++ s) ≡ cut_tag s
passed [] [] = refl
passed [] (c ∷ s) = refl
passed (x ∷ xs) s = passed xs s

-- an attribute, and what follows it
tag_attribute : (c : ℕ) (xs s : List ℕ) (a : Attribute) → IsPlain c → attribute_at c (xs ++ s) ≡ record { attribute = a; rest = s }
    → cut_tag (c ∷ (xs ++ s)) ≡ with_attribute a (cut_tag s)
unfolding is_tag_end
tag_attribute c xs s a plain e =
    let no_space : is_space c ≡ false = no_space_in c plain.later in
    let taken : length (xs ++ s) - length s ≡ length xs = simp length-append (omega arith) in
    rw (differs is_later_byte c 62 plain.later (unfold is_later_byte is_name_end is_space in refl), differs is_later_byte c 47 plain.later (unfold is_later_byte is_name_end is_space in refl), no_space, e, taken, passed xs s) refl

name_cut : (c : ℕ) (ws r : List ℕ) → all_pass is_later_byte ws ≡ true → head_is is_later_byte r ≡ false → attribute_at c (ws ++ r) ≡ named (c ∷ ws) r
unfolding attribute_at
name_cut c ws r all stop = rw (front_all is_later_byte ws r all stop, after_all is_later_byte ws r all stop) refl

quoted_cut : (q : ℕ) (v s : List ℕ) → is_inside q q ≡ false → all_pass (is_inside q) v ≡ true → cut_quoted q (v ++ q ∷ s) ≡ record { before = v; after = s }
quoted_cut q v s ends all = rw (front_all (is_inside q) v (q ∷ s) all ends, after_all (is_inside q) v (q ∷ s) all ends) refl

-- `=` ends an attribute's name, and so does whitespace before it
assigned_stops : (left r : List ℕ) → is_blank left ≡ true → head_is is_later_byte (left ++ 61 ∷ r) ≡ false
assigned_stops [] r blank = unfold is_later_byte is_name_end is_space in refl
assigned_stops (g ∷ left) r blank = no_name_no_later g (space_no_name g (and_parts (is_space g) (is_blank left) blank).0)

assigned_cut : (name left right v : List ℕ) → is_blank left ≡ true → is_blank right ≡ true → head_is is_space v ≡ false
    → named name (left ++ 61 ∷ (right ++ v)) ≡ with_name name (cut_value v)
assigned_cut name left right v left_blank right_blank stop =
    let equals : rest_after is_space (left ++ 61 ∷ (right ++ v)) ≡ 61 ∷ (right ++ v) = after_all is_space left (61 ∷ (right ++ v)) left_blank (unfold is_space in refl) in
    ap (λ r. with_name name (cut_assigned (left ++ 61 ∷ (right ++ v)) r)) equals
    ∙ ap (λ r. with_name name (cut_value r)) (after_all is_space right v right_blank stop)

-- what is written after an attribute's name, before s
value_cut : (name v b s : List ℕ) (w : IsAssigned v b) → head_is is_space (v ++ s) ≡ false → named name (b ++ s) ≡ with_name name (cut_value (v ++ s))
value_cut name v b s w stop =
    let cut : b ++ s ≡ w.left ++ 61 ∷ (w.right ++ (v ++ s)) = rw w.is (simp append_assoc) in
    rw cut (assigned_cut name w.left w.right (v ++ s) w.left_blank w.right_blank stop)

value_stops : (v b s : List ℕ) (w : IsAssigned v b) → head_is is_later_byte (b ++ s) ≡ false
value_stops v b s w =
    let cut : b ++ s ≡ w.left ++ 61 ∷ ((w.right ++ v) ++ s) = rw w.is (simp append_assoc) in
    rw cut (assigned_stops w.left ((w.right ++ v) ++ s) w.left_blank)

-- what may follow an attribute of this form, or the tag's name, which counts as bare
abbrev pub Stops : Quoting → List ℕ → Type 0
Stops bare s = (head_is is_name_byte s ≡ false) × ((c : ℕ) × (r : List ℕ) × (rest_after is_space s ≡ c ∷ r) × ((c == 61) ≡ false))
Stops unquoted s = head_is is_unquoted_byte s ≡ false
Stops double s = Unit {0}
Stops single s = Unit {0}

no_later : (s : List ℕ) → head_is is_name_byte s ≡ false → head_is is_later_byte s ≡ false
no_later [] h = refl
no_later (c ∷ s) h = no_name_no_later c h

quoted_read : (t : List Entry) (q : ℕ) (name value b s : List ℕ) → is_quote q ≡ true → is_space q ≡ false → is_inside q q ≡ false → (w : IsQuoted t q value b)
    → named name (b ++ s) ≡ record { attribute = record { name = name; value = w.written }; rest = s }
quoted_read t q name value b s is_q no_space ends w =
    let cut : (q ∷ (w.written ++ q ∷ [])) ++ s ≡ q ∷ (w.written ++ q ∷ s) = simp append_assoc in
    value_cut name (q ∷ (w.written ++ q ∷ [])) b s w.is no_space
    ∙ ap (λ r. with_name name (cut_value r)) cut
    ∙ rw is_q (ap (with_name name) (quoted_cut q w.written s ends w.inside))

unquoted_head : (v s : List ℕ) → is_unquoted v ≡ true → head_is is_space (v ++ s) ≡ false
unfolding is_unquoted is_unquoted_byte
unquoted_head [] s h = absurd (cc)
unquoted_head (c ∷ v) s h = parts (is_quote c) (is_space c) (c == 62) (all_pass is_unquoted_byte v) h
  where
    parts : (q a b r : Bool) → not q && (not (a || b) && r) ≡ true → a ≡ false
    parts true a b r h = absurd (cc)
    parts false false b r h = refl
    parts false true b r h = absurd (cc)

unquoted_cut : (v s : List ℕ) → is_unquoted v ≡ true → head_is is_unquoted_byte s ≡ false → cut_value (v ++ s) ≡ record { before = v; after = s }
unfolding is_unquoted
unquoted_cut [] s h stop = absurd (cc)
unquoted_cut (c ∷ v) s h stop =
    let both = and_parts (not (is_quote c)) (all_pass is_unquoted_byte (c ∷ v)) h in
    let no_quote : is_quote c ≡ false = not_true (is_quote c) both.0 in
    rw (no_quote, front_all is_unquoted_byte (c ∷ v) s both.1 stop, after_all is_unquoted_byte (c ∷ v) s both.1 stop) refl
  where
    not_true : (b : Bool) → not b ≡ true → b ≡ false
    not_true false h = refl
    not_true true h = absurd (cc)

unquoted_read : (t : List Entry) (name value b s : List ℕ) (w : IsUnquoted t value b) → head_is is_unquoted_byte s ≡ false
    → named name (b ++ s) ≡ record { attribute = record { name = name; value = w.written }; rest = s }
unquoted_read t name value b s w stop =
    value_cut name w.written b s w.is (unquoted_head w.written s w.good) ∙ ap (with_name name) (unquoted_cut w.written s w.good stop)

-- what is written of a value, after any name and before s
record IsValue (t : List Entry) (value b s : List ℕ) : Type 0 where
  written : List ℕ
  cut : (name : List ℕ) → named name (b ++ s) ≡ record { attribute = record { name = name; value = written }; rest = s }
  read : read_value t written ≡ value
  stops : head_is is_later_byte (b ++ s) ≡ false

value_read : (t : List Entry) (form : Quoting) (value b s : List ℕ) → WritesValue t form value b s → Stops form s → IsValue t value b s
value_read t bare value b s w stops = rw (w.0, w.1) (record {
  written = [];
  cut = λ name. rw stops.1.2 (rw stops.1.3 refl);
  read = refl;
  stops = no_later s stops.0;
})
value_read t unquoted value b s w stops = record {
  written = w.written;
  cut = λ name. unquoted_read t name value b s w stops;
  read = w.read;
  stops = value_stops w.written b s w.is;
}
value_read t double value b s w stops = record {
  written = w.written;
  cut = λ name. quoted_read t 34 name value b s (unfold is_quote in refl) (unfold is_space in refl) (unfold is_inside in refl) w;
  read = w.read;
  stops = value_stops (34 ∷ (w.written ++ 34 ∷ [])) b s w.is;
}
value_read t single value b s w stops = record {
  written = w.written;
  cut = λ name. quoted_read t 39 name value b s (unfold is_quote in refl) (unfold is_space in refl) (unfold is_inside in refl) w;
  read = w.read;
  stops = value_stops (39 ∷ (w.written ++ 39 ∷ [])) b s w.is;
}

-- whitespace where it is needed, and a byte that begins an attribute
gap_stops : (before : Quoting) (gap : List ℕ) (c : ℕ) (r : List ℕ) → is_gap (parts_attributes true before) gap ≡ true → IsPlain c → Stops before (gap ++ c ∷ r)
unfolding is_gap
gap_stops bare [] c r h plain = absurd (cc)
gap_stops bare (g ∷ gap) c r h plain =
    let blank = (and_parts (is_blank (g ∷ gap)) true h).0 in (
      space_no_name g (and_parts (is_space g) (is_blank gap) blank).0,
      (c, r, after_all is_space (g ∷ gap) (c ∷ r) blank (no_space_in c plain.later), plain.no_equals),
    )
gap_stops unquoted [] c r h plain = absurd (cc)
gap_stops unquoted (g ∷ gap) c r h plain = space_no_unquoted g (and_parts (is_space g) (is_blank gap) (and_parts (is_blank (g ∷ gap)) true h).0).0
gap_stops double gap c r h plain = tt
gap_stops single gap c r h plain = tt

regrouped : (b gap name value s : List ℕ) (c : ℕ) (ws : List ℕ) → b ≡ gap ++ (name ++ value) → name ≡ c ∷ ws → b ++ s ≡ gap ++ c ∷ (ws ++ (value ++ s))
regrouped b gap name value s c ws e f = rw (e, f) (simp append_assoc)

attribute_stops : (t : List Entry) (before form : Quoting) (a : Attribute) (b s : List ℕ) (w : WritesAttribute (WritesValue t) true before form a b s) → is_attribute_name a.name ≡ true → Stops before (b ++ s)
attribute_stops t before form a b s w good =
    let name : IsWrittenAttribute w.name = attribute_name_written w.name (rw w.lowered good) in
    rw (regrouped b w.gap w.name w.value s name.first name.more w.is name.is) (gap_stops before w.gap name.first (name.more ++ (w.value ++ s)) w.apart name.plain)

pub attributes_stop : (t : List Entry) (before last : Quoting) (attributes : List Attribute) (b s : List ℕ) → WritesAttributes (WritesValue t) true before last attributes b s → are_attribute_names attributes ≡ true → Stops last s → Stops before (b ++ s)
attributes_stop t before last [] b s w names stops = rw (w.1, ← w.0) stops
attributes_stop t before last (a ∷ attributes) b s (form, piece, rest, is, w, ws) names stops =
    let cut : b ++ s ≡ piece ++ (rest ++ s) = rw is (simp append_assoc) in
    rw cut (attribute_stops t before form a piece (rest ++ s) w (and_parts (is_attribute_name a.name) (are_attribute_names attributes) names).0)

-- an attribute as it is written, before s
record IsOne (t : List Entry) (a : Attribute) (b s : List ℕ) : Type 0 where
  raw : Attribute
  cut : cut_tag (b ++ s) ≡ with_attribute raw (cut_tag s)
  read : read_attribute t raw ≡ a
  good : is_bad_name raw.name ≡ false

one_read : (t : List Entry) (before form : Quoting) (a : Attribute) (b s : List ℕ) → WritesAttribute (WritesValue t) true before form a b s → is_attribute_name a.name ≡ true → Stops form s → IsOne t a b s
unfolding is_gap
one_read t before form a b s w good stops =
    let name : IsWrittenAttribute w.name = attribute_name_written w.name (rw w.lowered good) in
    let value : IsValue t a.value w.value s = value_read t form a.value w.value s w.assigned stops in
    let raw : Attribute = record { name = name.first ∷ name.more; value = value.written } in
    let cut : b ++ s ≡ w.gap ++ (name.first ∷ ((name.more ++ w.value) ++ s)) =
    regrouped b w.gap w.name w.value s name.first name.more w.is name.is ∙ ap (λ r. w.gap ++ name.first ∷ r) (sym (append_assoc name.more w.value s)) in
    let found : attribute_at name.first ((name.more ++ w.value) ++ s) ≡ record { attribute = raw; rest = s } =
    rw append_assoc (name_cut name.first name.more (w.value ++ s) name.later value.stops ∙ value.cut (name.first ∷ name.more)) in
    record {
      raw = raw;
      cut = ap cut_tag cut
          ∙ tag_gap w.gap (name.first ∷ ((name.more ++ w.value) ++ s)) (and_parts (is_blank w.gap) (not (parts_attributes true before && is_null w.gap)) w.apart).0
          ∙ tag_attribute name.first (name.more ++ w.value) s raw name.plain found;
      read = ap₂ (λ n v. record { name = n; value = v }) (ap (map lower) (sym name.is) ∙ w.lowered) value.read;
      good = subst (λ n. is_bad_name n ≡ false) name.is name.good;
    }

abbrev pub with_attributes : List Attribute → Option CutTag → Option CutTag
with_attributes [] o = o
with_attributes (a ∷ attributes) o = with_attribute a (with_attributes attributes o)

-- attributes as they are written, before s
pub record AreRead (t : List Entry) (attributes : List Attribute) (b s : List ℕ) : Type 0 where
  pub raws : List Attribute
  pub cut : cut_tag (b ++ s) ≡ with_attributes raws (cut_tag s)
  pub read : map (read_attribute t) raws ≡ attributes
  pub good : has_bad_name raws ≡ false

pub attributes_read : (t : List Entry) (before last : Quoting) (attributes : List Attribute) (b s : List ℕ) → WritesAttributes (WritesValue t) true before last attributes b s → are_attribute_names attributes ≡ true → Stops last s → AreRead t attributes b s
attributes_read t before last [] b s w names stops = record { raws = []; cut = rw w.1 refl; read = refl; good = refl }
attributes_read t before last (a ∷ attributes) b s (form, piece, rest, is, w, ws) names stops =
    let both = and_parts (is_attribute_name a.name) (are_attribute_names attributes) names in
    let one : IsOne t a piece (rest ++ s) = one_read t before form a piece (rest ++ s) w both.0 (attributes_stop t form last attributes rest s ws both.1 stops) in
    let more : AreRead t attributes rest s = attributes_read t form last attributes rest s ws both.1 stops in
    let cut : b ++ s ≡ piece ++ (rest ++ s) = rw is (simp append_assoc) in
    record {
      raws = one.raw ∷ more.raws;
      cut = ap cut_tag cut ∙ one.cut ∙ ap (with_attribute one.raw) more.cut;
      read = ap₂ (λ x xs. x ∷ xs) one.read more.read;
      good = rw (one.good, more.good) refl;
    }
