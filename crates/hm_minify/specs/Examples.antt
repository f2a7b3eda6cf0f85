-- Endings of runs, on examples.
use Rattle.std.specs.Prelude.{ℕ, ◌≡◌, List, ◌∷◌, ◌++◌, Some, None, codes, bytes_eq, if◌then◌else◌, refl}
use Rattle.hm_elements.specs.Names.{words}
use Rattle.hm_store.specs.Contents.{Contents}
use Rattle.hm_words.specs.Words.{asked, flags, choices_of}
use Rattle.hm_words.specs.declared.notices.Notice.TheVariants.{Help, Version}
use Rattle.hm_minify.specs.Endings.{ending, says, store_fault}
use Rattle.hm_minify.specs.Lines.{notice_text, usage_line}
use Rattle.hm_minify.specs.declared.status.Status.TheVariants as status

-- the one file `page`
abbrev page_alone : List ℕ → Contents
page_alone content name = if bytes_eq name (codes "page") then Some content else None

abbrev d : List ℕ
d = codes "<!doctype html>"

abbrev line : List ℕ → List ℕ → List ℕ
line text more = text ++ 10 ∷ more

endings : (ending (words "minify none absent out cert --omit --unquote") (page_alone d) ≡ store_fault)
    × (ending (words "check absent page out cert") (page_alone d) ≡ store_fault)
    × (ending (words "check none page out page") (page_alone d) ≡ says status.Usage usage_line)
    × (ending (words "tree none absent") (page_alone d) ≡ store_fault)
    × (ending (words "tree absent page") (page_alone d) ≡ store_fault)
    × (ending (words "measure absent 0 1") (page_alone d) ≡ store_fault)
    × (ending (words "measure none 0 20001") (page_alone d) ≡ says status.Usage usage_line)
    × (ending (words "tree page") (page_alone d) ≡ says status.Usage usage_line)
    × (ending (words "minify none page out page") (page_alone d) ≡ says status.Usage usage_line)
    × (ending (words "help") (page_alone d) ≡ says status.Done (notice_text Help))
    × (ending (words "-V") (page_alone d) ≡ says status.Done (notice_text Version))
    × (ending (words "help help") (page_alone d) ≡ says status.Usage usage_line)
unfolding asked flags choices_of
endings = (refl, refl, refl, refl, refl, refl, refl, refl, refl, refl, refl, refl)
