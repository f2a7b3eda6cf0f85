-- Small pages, by computing.
use Rattle.std.specs.Prelude.{◌≡◌, ◌++◌, length, codes, refl}
use Rattle.std.specs.Fmt.{digits}
use Rattle.hm_measure_page.specs.Pages.{page}

pages : (page 0 1 ≡ codes "<!doctype html><title>0</title>\n<p>Item 1 &amp; more</p>\n")
    × (length (page 0 1) ≡ 57)
    × (length (page 0 2) ≡ 82)
    × (page 2 4 ≡ codes "<!doctype html><title>2</title>\n" ++ (codes "<p>Item 1 &amp; more</p>\n" ++ (codes "<ul><li>2</li><li>two</li></ul>\n" ++ (codes "<p title=\"a b\">3</p>\n" ++ codes "<table><tr><td>4</td></tr></table>\n"))))
unfolding page digits
pages = (refl, refl, refl, refl)
