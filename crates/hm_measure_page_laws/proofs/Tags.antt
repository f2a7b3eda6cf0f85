-- The tags of generated pages: each is the next token, whatever follows it.
use Rattle.std.proofs.Common.{◌≡◌, ℕ, true, false, List, [], ◌∷◌, ◌++◌, map, codes, refl, arith}
use Rattle.hm_base.specs.Bytes.{is_letter, is_space, is_alnum, is_digit_of, lower}
use Rattle.hm_base.specs.Forms.{is_tag_name, is_small, is_tag_byte, is_attribute_name, is_attribute_byte}
use Rattle.hm_base.specs.RawText.{begins_end_tag, is_name_end}
use Rattle.hm_base.specs.Walks.{Attribute, Element}
use Rattle.hm_elements.specs.Names.{p}
use Rattle.hm_elements.specs.Paths.{html_element}
use Rattle.hm_markup_spec.specs.Tags.{bare, double, WritesAttribute}
use Rattle.hm_markup_spec.specs.Gaps.{is_gap}
use Rattle.hm_scan.specs.Doctypes.{read_doctype, doctype_form, begins_doctype}
use Rattle.hm_refs.specs.Names.{Entry}
use Rattle.hm_scan.specs.ReadBack.{WritesValue, IsAttributes}
use Rattle.hm_scan.specs.Reading.{read_tag, read_start, read_end, begins_tag, tag_fault, is_bad_byte}
use Rattle.hm_scan.specs.Tags.{is_name_byte, is_later_byte, is_inside, is_tag_end, attribute_at}
use Rattle.hm_scan.specs.Values.{reference_at}
use Rattle.hm_scan.specs.Texts.{begins_markup}
use Rattle.hm_tree.specs.Tokens.{taken}
use Rattle.hm_tree.specs.Tokens as tokens
use Rattle.hm_token_laws.specs.First.{ordinary, rcdata, after_bytes, first}
use Rattle.hm_token_laws.proofs.Written.{starts_are_next, ends_are_next}
use Rattle.hm_construction_laws.specs.Steps.{in_head, in_body, Construction, under_head, under_body}
use Rattle.hm_round_trip_laws.proofs.Frame.{here}

-- ---- Names and paths

abbrev pub title : List ℕ
title = codes "title"

abbrev pub ul : List ℕ
ul = codes "ul"

abbrev pub li : List ℕ
li = codes "li"

abbrev pub table : List ℕ
table = codes "table"

abbrev pub tbody : List ℕ
tbody = codes "tbody"

abbrev pub tr : List ℕ
tr = codes "tr"

abbrev pub td : List ℕ
td = codes "td"

abbrev pub titled : List Attribute
titled = record { name = title; value = codes "a b" } ∷ []

abbrev pub inside : List ℕ → List Element → List Element
inside n path = html_element n ∷ path

abbrev pub in_table : List Element
in_table = inside tbody (inside table under_body)

abbrev pub at : List Element → Construction
at path = here in_body path false

abbrev pub at_head : Construction
at_head = here in_head under_head false

-- ---- The next token

-- a name that is written as it is
pub record Named (n : List ℕ) : Type 0 where
  pub is_name : is_tag_name n ≡ true
  pub small : map lower n ≡ n

pub record TagNames : Type 0 where
  pub paragraph : Named p
  pub list : Named ul
  pub item : Named li
  pub whole_table : Named table
  pub row : Named tr
  pub cell : Named td
  pub heading : Named title

pub names : TagNames
unfolding is_tag_name is_small is_tag_byte is_digit_of lower
names = record {
  paragraph = record { is_name = refl; small = refl };
  list = record { is_name = refl; small = refl };
  item = record { is_name = refl; small = refl };
  whole_table = record { is_name = refl; small = refl };
  row = record { is_name = refl; small = refl };
  cell = record { is_name = refl; small = refl };
  heading = record { is_name = refl; small = refl };
}

no_gap : is_gap false [] ≡ true
unfolding is_gap
no_gap = refl

pub start_next : (t : List Entry) (n rest : List ℕ) → Named n → first t ordinary ((60 ∷ (n ++ 62 ∷ [])) ++ rest) ≡ after_bytes 0 (taken (tokens.start_tag n [] false) rest)
start_next t n rest named =
    (starts_are_next t ordinary n [] false (60 ∷ (n ++ 62 ∷ [])) rest refl named.is_name
    (record { names = refl; distinct = refl; few = omega arith })
    (record { written = n; last = bare; middle = []; gap = []; is = refl; lowered = named.small; attributed = (refl, refl); apart = no_gap })).1

pub end_next : (t : List Entry) (n rest : List ℕ) → Named n → first t ordinary ((60 ∷ 47 ∷ (n ++ 62 ∷ [])) ++ rest) ≡ after_bytes 0 (taken (tokens.end_tag n) rest)
end_next t n rest named = (ends_are_next t ordinary n (60 ∷ 47 ∷ (n ++ 62 ∷ [])) rest refl named.is_name (record { written = n; gap = []; is = refl; lowered = named.small; blank = refl })).1

title_written : (t : List Entry) (after : List ℕ) → WritesAttribute (WritesValue t) true bare double (record { name = title; value = codes "a b" }) (codes " title=\"a b\"") after
unfolding is_gap is_space lower is_inside reference_at
title_written t after = record {
  gap = codes " ";
  name = title;
  value = codes "=\"a b\"";
  is = refl;
  apart = refl;
  lowered = refl;
  assigned = record { written = codes "a b"; is = record { left = []; right = []; is = refl; left_blank = refl; right_blank = refl }; inside = refl; read = refl };
}

title_allowed : IsAttributes titled
unfolding is_attribute_name is_attribute_byte is_space lower
title_allowed = record { names = refl; distinct = refl; few = omega arith }

pub titled_next : (t : List Entry) (rest : List ℕ) → first t ordinary (codes "<p title=\"a b\">" ++ rest) ≡ after_bytes 0 (taken (tokens.start_tag p titled false) rest)
titled_next t rest =
    (starts_are_next t ordinary p titled false (codes "<p title=\"a b\">") rest refl names.paragraph.is_name title_allowed
    (record { written = p; last = double; middle = codes " title=\"a b\""; gap = []; is = refl; lowered = names.paragraph.small; attributed = (double, codes " title=\"a b\"", [], refl, title_written t _, (refl, refl)); apart = no_gap })).1

pub doctype_next : (t : List Entry) (rest : List ℕ) → first t ordinary (codes "<!doctype html>" ++ rest) ≡ after_bytes 0 (taken (tokens.doctype false) rest)
unfolding first read_tag begins_tag begins_markup begins_doctype read_doctype doctype_form is_letter is_space lower
doctype_next t rest = refl

pub title_ends : (rest : List ℕ) → begins_end_tag title (codes "</title>" ++ rest) ≡ true
unfolding begins_end_tag is_name_end is_space lower
title_ends rest = refl

pub title_end_next : (t : List Entry) (rest : List ℕ) → first t (rcdata title) (codes "</title>" ++ rest) ≡ after_bytes 0 (taken (tokens.end_tag title) rest)
unfolding first begins_end_tag is_name_end read_tag read_start read_end begins_tag tag_fault is_bad_byte is_name_byte is_later_byte is_tag_end attribute_at is_letter is_space is_alnum is_digit_of lower is_tag_name is_small is_tag_byte
title_end_next t rest = refl

-- a tag follows
pub tag_begins : (d : ℕ) (rest : List ℕ) → is_letter d ≡ true → begins_markup (60 ∷ d ∷ rest) ≡ true
unfolding begins_markup
tag_begins d rest h = rw h refl

pub end_tag_begins : (d : ℕ) (rest : List ℕ) → begins_markup (60 ∷ 47 ∷ d ∷ rest) ≡ true
unfolding begins_markup is_letter
end_tag_begins d rest = refl
