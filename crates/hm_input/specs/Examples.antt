-- What files give, on examples.
use Rattle.std.specs.Prelude.{◌≡◌, Some, None, codes, refl, Err}
use Rattle.hm_refs.specs.declared.fault.TableFault.TheVariants.{NotJson}
use Rattle.hm_words.specs.Words.{page_at, made}
use Rattle.hm_words.specs.Examples.{no_rewrites}
use Rattle.hm_input.specs.Inputs.{origin_input, input_from, page_input, missing, bad_table}

-- a file that isn't there; a page that isn't there says nothing where the table is refused
missing_files : (origin_input (page_at (codes "none") (codes "page")) no_rewrites (λ _. None) ≡ missing)
    × (origin_input (page_at (codes "table") (codes "page")) no_rewrites (λ _. None) ≡ missing)
    × (origin_input (made (codes "table") 0 1) no_rewrites (λ _. None) ≡ missing)
    × (input_from (page_input no_rewrites) (Some (Err NotJson)) None ≡ bad_table NotJson)
missing_files = (refl, refl, refl, refl)
