-- What words ask for, on examples.
use Rattle.std.specs.Prelude.{◌≡◌, true, false, [], ◌∷◌, Some, None, codes, refl}
use Rattle.hm_base.specs.declared.plain.SpellRules.{SpellRules}
use Rattle.hm_base.specs.declared.plain.TreeOptions.{TreeOptions}
use Rattle.hm_elements.specs.Names.{words}
use Rattle.hm_words.specs.declared.notices.Notice.TheVariants.{Help, Version}
use Rattle.hm_words.specs.Words.{asked, asks, notice_in, page_at, fragment_at, json_at, made, minifies, checks, shows, tells_json, explains, measures, flags, choices_of}

abbrev pub no_rewrites : TreeOptions
no_rewrites = record { doctype = false; comments = false; booleans = false; empty = false; redundant = false; space = false; conservative = false }

abbrev no_rules : SpellRules
no_rules = record { omit = false; unquote = false; tight = false; ascii = false; frame = false }

abbrev all_rules : SpellRules
all_rules = record { omit = true; unquote = true; tight = true; ascii = true; frame = false }

requests : (asked (words "minify none page out cert --omit --unquote") ≡ Some (asks (page_at (codes "none") (codes "page")) (minifies (codes "out") (codes "cert")) no_rewrites (record { rules = record no_rules { omit = true; unquote = true }; sparse = false; order = false })))
    × (asked (words "--ascii minify --unquote table page --tight out cert --omit --comments") ≡ Some (asks (page_at (codes "table") (codes "page")) (minifies (codes "out") (codes "cert")) (record no_rewrites { comments = true }) (record { rules = all_rules; sparse = false; order = false })))
    × (asked (words "check none page out cert --tight") ≡ Some (asks (page_at (codes "none") (codes "page")) (checks (codes "out") (codes "cert")) no_rewrites (record { rules = record no_rules { tight = true }; sparse = false; order = false })))
    × (asked (words "tree none none") ≡ Some (asks (page_at (codes "none") (codes "none")) shows no_rewrites (record { rules = no_rules; sparse = false; order = false })))
    × (asked (words "tree html html") ≡ Some (asks (page_at (codes "html") (codes "html")) shows no_rewrites (record { rules = no_rules; sparse = false; order = false })))
    × (asked (words "--space tree none --conservative page") ≡ Some (asks (page_at (codes "none") (codes "page")) shows (record no_rewrites { space = true; conservative = true }) (record { rules = no_rules; sparse = false; order = false })))
    × (asked (words "--omit tree none page") ≡ Some (asks (page_at (codes "none") (codes "page")) shows no_rewrites (record { rules = record no_rules { omit = true }; sparse = false; order = false })))
    × (asked (words "measure none 0 1") ≡ Some (asks (made (codes "none") 0 1) measures no_rewrites (record { rules = no_rules; sparse = false; order = false })))
    × (asked (words "measure 4294967295 --omit 4294967295 20000") ≡ Some (asks (made (codes "4294967295") 4294967295 20000) measures no_rewrites (record { rules = record no_rules { omit = true }; sparse = false; order = false })))
    × (asked (words "minify none page --sparse out cert") ≡ Some (asks (page_at (codes "none") (codes "page")) (minifies (codes "out") (codes "cert")) no_rewrites (record { rules = no_rules; sparse = true; order = false })))
    × (asked (words "json none page --space") ≡ Some (asks (page_at (codes "none") (codes "page")) tells_json (record no_rewrites { space = true }) (record { rules = no_rules; sparse = false; order = false })))
    × (asked (words "explain html page --omit") ≡ Some (asks (page_at (codes "html") (codes "page")) explains no_rewrites (record { rules = record no_rules { omit = true }; sparse = false; order = false })))
    × (asked (words "explain html page out") ≡ None)
    × (asked (words "minifyjson none page out cert --omit") ≡ Some (asks (json_at (codes "none") (codes "page")) (minifies (codes "out") (codes "cert")) no_rewrites (record { rules = record no_rules { omit = true }; sparse = false; order = false })))
    × (asked (words "fragment none page out cert --omit") ≡ Some (asks (fragment_at (codes "none") (codes "page")) (minifies (codes "out") (codes "cert")) no_rewrites (record { rules = record no_rules { omit = true; frame = true }; sparse = false; order = false })))
    × (asked (words "checkfragment none page out cert --omit --sparse") ≡ Some (asks (fragment_at (codes "none") (codes "page")) (checks (codes "out") (codes "cert")) no_rewrites (record { rules = record no_rules { omit = true; frame = true }; sparse = true; order = false })))
    × (asked (words "check none page out cert --order --tight") ≡ Some (asks (page_at (codes "none") (codes "page")) (checks (codes "out") (codes "cert")) no_rewrites (record { rules = record no_rules { tight = true }; sparse = false; order = true })))
    × (asked (words "measure none 0 1 --order") ≡ None)
    × (asked (words "fragment none page out cert --unquote") ≡ None)
    × (asked (words "checkfragment none page out page --omit") ≡ None)
    × (asked (words "tree none page --sparse --sparse") ≡ None)
    × (asked (words "json page page") ≡ None)
    × (asked (words "json none page out cert") ≡ None)
    × (asked (words "minifyjson none page out page") ≡ None)
    × (asked (words "minifyjson none page") ≡ None)
    × (asked (words "minifyjson page page out cert") ≡ None)
    × (asked (words "tree none page --conservative") ≡ None)
    × (asked (words "minify none page out cert --conservative") ≡ None)
    × (asked (words "tree none page --space --space") ≡ None)
    × (asked (words "minify none page out cert --omit --omit") ≡ None)
    × (asked (words "minify none page out cert --omit=1") ≡ None)
    × (asked (words "minify none -- page out cert") ≡ None)
    × (asked (words "check none page out") ≡ None)
    × (asked (words "tree none -h") ≡ None)
    × (asked (words "tree none page -") ≡ None)
    × (asked (words "tree none") ≡ None)
    × (asked (words "tree page page") ≡ None)
    × (asked (words "tree none page more") ≡ None)
    × (asked (words "minify none page out") ≡ None)
    × (asked (codes "tree" ∷ [] ∷ codes "page" ∷ []) ≡ None)
    × (asked (codes "minify" ∷ codes "none" ∷ codes "page" ∷ [] ∷ codes "cert" ∷ []) ≡ None)
    × (asked (words "minify none page out out") ≡ None)
    × (asked (words "minify out page out cert") ≡ None)
    × (asked (words "measure none 01 1") ≡ None)
    × (asked (words "measure none 0 0") ≡ None)
    × (asked (words "measure none 0 20001") ≡ None)
    × (asked (words "measure none 4294967296 1") ≡ None)
    × (asked (words "measure none +1 1") ≡ None)
    × (asked (codes "measure" ∷ codes "none" ∷ codes "0" ∷ [] ∷ []) ≡ None)
    × (asked (codes "measure" ∷ [] ∷ codes "0" ∷ codes "1" ∷ []) ≡ None)
    × (asked [] ≡ None)
unfolding asked flags choices_of
requests = (refl, refl, refl, refl, refl, refl, refl, refl, refl, refl, refl, refl, refl, refl, refl, refl, refl, refl, refl, refl, refl, refl, refl, refl, refl, refl, refl, refl, refl, refl, refl, refl, refl, refl, refl, refl, refl, refl, refl, refl, refl, refl, refl, refl, refl, refl, refl, refl, refl, refl, refl)

notices : (notice_in (words "help") ≡ Some Help)
    × (notice_in (words "--help") ≡ Some Help)
    × (notice_in (words "-h") ≡ Some Help)
    × (notice_in (words "version") ≡ Some Version)
    × (notice_in (words "--version") ≡ Some Version)
    × (notice_in (words "-V") ≡ Some Version)
    × (notice_in (words "help tree") ≡ None)
    × (notice_in (words "tree none -h") ≡ None)
    × (notice_in (words "Help") ≡ None)
    × (notice_in ([] ∷ []) ≡ None)
    × (notice_in [] ≡ None)
notices = (refl, refl, refl, refl, refl, refl, refl, refl, refl, refl, refl)
