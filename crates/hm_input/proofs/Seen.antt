-- Contents that can be those of a store's files, of which two statements hold.
use Rattle.std.proofs.Common.{◌≡◌, ℕ, Bool, true, false, cond, ◌||◌, not, List, Some, None, IsSome, refl, ap, ◌∙◌}
use Rattle.std.specs.declared.option.Option.{Option}
use Rattle.std.specs.Str.{bytes_eq}
use Rattle.hm_base.specs.declared.plain.TreeOptions.{TreeOptions}
use Rattle.hm_input.specs.Inputs.{Input, file_with_table, fragment_input, input_from, is_html, is_none, json_input, names_of_table, origin_input, page_input, table_names}
use Rattle.hm_measure_page.specs.Pages.{page as made_page}
use Rattle.hm_words.specs.Words.{Origin, page_at, fragment_at, json_at, made, is_table_word}
use Rattle.hm_refs.proofs.Places.{same_bytes}
use Rattle.hm_refs.specs.Names.{Entry}
use Rattle.hm_store.specs.Contents.{Contents, Sees}
use Rattle.hm_store.specs.Files.{FileMap, file_of}

-- contents, of which those of some names are taken from others
abbrev pub mixed : (List ℕ → Bool) → Contents → Contents → Contents
mixed theirs seen more name = cond (theirs name) (more name) (seen name)

either_told : (b : Bool) (x y z : Option (List ℕ)) → x ≡ z → y ≡ z → cond b x y ≡ z
either_told true x y z p q = p
either_told false x y z p q = q

-- two statements hold at once where one doesn't depend on the names on which the other depends alone
pub sees_both : (told : Option FileMap) (theirs : List ℕ → Bool) (P Q : Contents → Type 0) → ((seen more : Contents) → P seen → P (mixed theirs seen more)) → ((seen more : Contents) → Q more → Q (mixed theirs seen more))
    → Sees told P → Sees told Q → Sees told (λ seen. P seen × Q seen)
sees_both told theirs P Q stays comes p q = record {
  seen = mixed theirs p.seen q.seen;
  are_told = λ i name. either_told (theirs name) (q.seen name) (p.seen name) (file_of told name) (q.are_told i name) (p.are_told i name);
  holds = (stays p.seen q.seen p.holds, comes p.seen q.seen q.holds);
}

-- ---- files

file_seen : (told : Option FileMap) (name content : List ℕ) → (IsSome told → file_of told name ≡ Some content) → Sees told (λ seen. seen name ≡ Some content)
file_seen (Some files) name content there = record { seen = file_of (Some files); are_told = λ _ _. refl; holds = there refl }
file_seen None name content there = record { seen = λ _. Some content; are_told = λ h. cc; holds = refl }

pub files_seen : (told : Option FileMap) (out cert text lines : List ℕ) → bytes_eq out cert ≡ false → (IsSome told → file_of told out ≡ Some text) → (IsSome told → file_of told cert ≡ Some lines)
    → Sees told (λ seen. (seen out ≡ Some text) × (seen cert ≡ Some lines))
files_seen told out cert text lines apart is_out is_cert = sees_both told (λ name. bytes_eq name cert) (λ seen. seen out ≡ Some text) (λ seen. seen cert ≡ Some lines)
    (λ seen more h. ap (λ b. cond b (more out) (seen out)) apart ∙ h)
    (λ seen more h. ap (λ b. cond b (more cert) (seen cert)) (same_bytes cert) ∙ h)
    (file_seen told out text is_out) (file_seen told cert lines is_cert)

-- ---- a file with its table

names_stay : (none html theirs : Bool) (content more : Option (List ℕ)) → ((none || html) || not theirs) ≡ true → table_names none html (cond theirs more content) ≡ table_names none html content
names_stay true html theirs content more apart = refl
names_stay false true theirs content more apart = refl
names_stay false false true content more apart = cc
names_stay false false false content more apart = refl

-- none of these names is one of the origin's files
abbrev pub IsApartFrom : (List ℕ → Bool) → Origin → Type 0
IsApartFrom theirs (page_at table page) = ((is_table_word table || not (theirs table)) ≡ true) × (theirs page ≡ false)
IsApartFrom theirs (fragment_at table page) = ((is_table_word table || not (theirs table)) ≡ true) × (theirs page ≡ false)
IsApartFrom theirs (json_at table page) = ((is_table_word table || not (theirs table)) ≡ true) × (theirs page ≡ false)
IsApartFrom theirs (made table number size) = (is_table_word table || not (theirs table)) ≡ true

file_stays : (theirs : List ℕ → Bool) (reads : List Entry → List ℕ → Input) (table name : List ℕ) (seen more : Contents) → (is_table_word table || not (theirs table)) ≡ true → theirs name ≡ false → file_with_table reads table name (mixed theirs seen more) ≡ file_with_table reads table name seen
file_stays theirs reads table name seen more apart other =
    ap (λ t. input_from reads t (mixed theirs seen more name)) (names_stay (is_none table) (is_html table) (theirs table) (seen table) (more table) apart)
    ∙ ap (λ b. input_from reads (names_of_table table (seen table)) (cond b (more name) (seen name))) other

-- what an origin gives doesn't depend on files with other names
pub origin_stays : (theirs : List ℕ → Bool) (origin : Origin) (o : TreeOptions) (seen more : Contents) → IsApartFrom theirs origin → origin_input origin o (mixed theirs seen more) ≡ origin_input origin o seen
origin_stays theirs (page_at table page) o seen more apart = file_stays theirs (page_input o) table page seen more apart.0 apart.1
origin_stays theirs (fragment_at table page) o seen more apart = file_stays theirs (fragment_input o) table page seen more apart.0 apart.1
origin_stays theirs (json_at table page) o seen more apart = file_stays theirs (json_input o) table page seen more apart.0 apart.1
origin_stays theirs (made table number size) o seen more apart = ap (λ t. input_from (page_input o) t (Some (made_page number size))) (names_stay (is_none table) (is_html table) (theirs table) (seen table) (more table) apart)
