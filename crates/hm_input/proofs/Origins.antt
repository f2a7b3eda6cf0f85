-- What an origin gives, by what its table gives and its page.
use Rattle.std.proofs.Common.{◌≡◌, ◌∙◌, ℕ, ◌≤◌, ◌⊎◌, inl, inr, Bool, true, false, ◌||◌, List, Some, None, Ok, ap, refl, subst, arith}
use Rattle.std.specs.declared.option.Option.{Option}
use Rattle.hm_base.specs.Walks.{Event}
use Rattle.hm_base.specs.declared.plain.TreeOptions.{TreeOptions}
use Rattle.hm_measure_page.specs.Pages.{page as made_page}
use Rattle.hm_refs.specs.Names.{Entry}
use Rattle.hm_store.specs.Causes.{Rose}
use Rattle.hm_store.specs.Contents.{Tells}
use Rattle.hm_store.specs.Files.{FileMap, IsMissing, file_of}
use Rattle.hm_words.specs.Words.{Origin, page_at, fragment_at, json_at, made, is_origin_apart, is_table_word}
use Rattle.hm_input.specs.Inputs.{Input, IsInput, file_with_table, fragment_input, input_from, is_html, is_none, json_input, missing, names_of_table, origin_input, page_input, table_names, tree}
use Rattle.hm_input.specs.Loads.{IsOriginMissing, IsOriginTree, IsTableOf, NoInput, NoOriginRead, NoTable, table_of}
use Rattle.hm_input.specs.declared.unread.InputFault.{InputFault}
use Rattle.hm_input.specs.declared.unread.InputFault.TheVariants as reasons
use Rattle.hm_input.proofs.Generated as generated
use Rattle.hm_input.proofs.Loaded.{input_of_fragment, input_of_page, input_of_walk, no_fragment, no_fragment_table, no_json_table, no_page, no_table, no_walk}

-- want of memory has no cause in an origin
pub no_memory : (told : Option FileMap) (origin : Origin) (t : List Entry) → NoOriginRead told origin t reasons.OutOfMemory
no_memory told (page_at table page) t = tt
no_memory told (fragment_at table page) t = tt
no_memory told (json_at table page) t = tt
no_memory told (made table number size) t = tt

read_rewritten : (told : Option FileMap) (origin : Origin) (o : TreeOptions) (t : List Entry) (v : List Event) (n : ℕ) → is_origin_apart origin ≡ true → IsTableOf told (table_of origin) (Ok t) → IsOriginTree told origin t o v n → IsInput told origin o (tree n t v)
read_rewritten told (page_at table page) o t v n apart a r = input_of_page told table page o t r.walk n v apart a r.read r.is
read_rewritten told (fragment_at table page) o t v n apart a r = input_of_fragment told table page o t r.walk n v apart a r.read r.is
read_rewritten told (json_at table page) o t v n apart a r = input_of_walk told table page o t r.walk n v apart a r.read r.is
read_rewritten told (made table number size) o t v n apart a r = generated.made_tree told table number size o t r.walk n v a r.read r.is

pub no_origin_table : (told : Option FileMap) (origin : Origin) (o : TreeOptions) (unread : InputFault) → is_origin_apart origin ≡ true → NoTable told (table_of origin) unread → NoInput told origin o unread
no_origin_table told (page_at table page) o unread apart n = no_table told table page o unread apart n
no_origin_table told (fragment_at table page) o unread apart n = no_fragment_table told table page o unread apart n
no_origin_table told (json_at table page) o unread apart n = no_json_table told table page o unread apart n
no_origin_table told (made table number size) o unread apart n = generated.no_table told table number size o unread n

none_read : (told : Option FileMap) (origin : Origin) (o : TreeOptions) (t : List Entry) (unread : InputFault) → is_origin_apart origin ≡ true → IsTableOf told (table_of origin) (Ok t) → NoOriginRead told origin t unread → NoInput told origin o unread
none_read told (page_at table page) o t unread apart a n = no_page told table page o t unread apart a n
none_read told (fragment_at table page) o t unread apart a n = no_fragment told table page o t unread apart a n
none_read told (json_at table page) o t unread apart a n = no_walk told table page o t unread apart a n
none_read told (made table number size) o t unread apart a n = generated.no_tree told table number size o t unread a n

-- ---- what isn't there

no_names : (none html : Bool) → (none || html) ≡ false → table_names none html None ≡ None
no_names true html e = cc
no_names false true e = cc
no_names false false e = refl

table_gone : (told : Option FileMap) (reads : List Entry → List ℕ → Input) (table : List ℕ) (content : Option (List ℕ)) → is_table_word table ≡ false → IsMissing told table → input_from reads (names_of_table table (file_of told table)) content ≡ missing
table_gone told reads table content word gone = ap (λ c. input_from reads (names_of_table table c) content) gone.1 ∙ ap (λ x. input_from reads x content) (no_names (is_none table) (is_html table) word)

pub missing_table : (told : Option FileMap) (origin : Origin) (o : TreeOptions) → is_table_word (table_of origin) ≡ false → IsMissing told (table_of origin) → Tells told (λ seen. origin_input origin o seen ≡ missing)
missing_table told (page_at table page) o word gone = record { some = gone.0; holds = table_gone told (page_input o) table (file_of told page) word gone }
missing_table told (fragment_at table page) o word gone = record { some = gone.0; holds = table_gone told (fragment_input o) table (file_of told page) word gone }
missing_table told (json_at table page) o word gone = record { some = gone.0; holds = table_gone told (json_input o) table (file_of told page) word gone }
missing_table told (made table number size) o word gone = record { some = gone.0; holds = table_gone told (page_input o) table (Some (made_page number size)) word gone }

page_gone : (told : Option FileMap) (reads : List Entry → List ℕ → Input) (table page : List ℕ) (t : List Entry) → IsTableOf told table (Ok t) → IsMissing told page → file_with_table reads table page (file_of told) ≡ missing
page_gone told reads table page t a gone =
    ap (λ c. input_from reads (names_of_table table c) (file_of told page)) (a.there gone.0) ∙ ap (λ x. input_from reads x (file_of told page)) a.is ∙ ap (input_from reads (Some (Ok t))) gone.1

missing_page : (told : Option FileMap) (origin : Origin) (o : TreeOptions) (t : List Entry) → IsTableOf told (table_of origin) (Ok t) → IsOriginMissing told origin → Tells told (λ seen. origin_input origin o seen ≡ missing)
missing_page told (page_at table page) o t a gone = record { some = gone.0; holds = page_gone told (page_input o) table page t a gone }
missing_page told (fragment_at table page) o t a gone = record { some = gone.0; holds = page_gone told (fragment_input o) table page t a gone }
missing_page told (json_at table page) o t a gone = record { some = gone.0; holds = page_gone told (json_input o) table page t a gone }
missing_page told (made table number size) o t a gone = absurd gone

-- ---- the table was loaded first, and the files are as they were

abbrev NoFile : Option FileMap → Origin → TreeOptions → ℕ → ℕ → Type 0
NoFile told origin o before now = Rose before now ⊎ Tells told (λ seen. origin_input origin o seen ≡ missing)

pub table_cause : (told : Option FileMap) (origin : Origin) (o : TreeOptions) (before now : ℕ) → Rose before now ⊎ ((is_table_word (table_of origin) ≡ false) × IsMissing told (table_of origin)) → NoFile told origin o before now
table_cause told origin o before now (inl rose) = inl rose
table_cause told origin o before now (inr gone) = inr (missing_table told origin o gone.0 gone.1)

rose_on : (a b c : ℕ) → a ≤ b → Rose b c → Rose a c
rose_on a b c h (inl less) = inl (omega arith)
rose_on a b c h (inr most) = inr most

pub page_cause : (old new : Option FileMap) (origin : Origin) (o : TreeOptions) (t : List Entry) (before mid now : ℕ) → new ≡ old → before ≤ mid → IsTableOf old (table_of origin) (Ok t) → Rose mid now ⊎ IsOriginMissing new origin → NoFile old origin o before now
page_cause old new origin o t before mid now same later a (inl rose) = inl (rose_on before mid now later rose)
page_cause old new origin o t before mid now same later a (inr gone) = inr (missing_page old origin o t a (subst (λ told. IsOriginMissing told origin) same gone))

pub input_after_reading : (old new : Option FileMap) (origin : Origin) (o : TreeOptions) (t : List Entry) (v : List Event) (n : ℕ) → new ≡ old → is_origin_apart origin ≡ true → IsTableOf old (table_of origin) (Ok t) → IsOriginTree new origin t o v n → IsInput old origin o (tree n t v)
input_after_reading old new origin o t v n same apart a r = read_rewritten old origin o t v n apart a (subst (λ told. IsOriginTree told origin t o v n) same r)

pub none_follows : (old new : Option FileMap) (origin : Origin) (o : TreeOptions) (t : List Entry) (unread : InputFault) → new ≡ old → is_origin_apart origin ≡ true → IsTableOf old (table_of origin) (Ok t) → NoOriginRead new origin t unread → NoInput old origin o unread
none_follows old new origin o t unread same apart a n = none_read old origin o t unread apart a (subst (λ told. NoOriginRead told origin t unread) same n)
