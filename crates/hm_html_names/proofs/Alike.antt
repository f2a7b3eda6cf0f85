-- What holds of constants holds of what is equal to them. It is said of variables, so that nothing is computed.
use Rattle.std.proofs.Common.{◌≡◌, ℕ, List, true, refl}
use Rattle.hm_refs.specs.Names.{Entry}
use Rattle.hm_refs.specs.Firsts.{IsInOrder}
use Rattle.hm_refs.specs.Ready.{IsReady, are_cut, entries_from, nodes_from}
use Rattle.hm_html_names.specs.HtmlNames.{html_entries}
use Rattle.hm_html_names.specs.declared.names.TheConstants.{LENGTHS, TEXT}
use Rattle.hm_html_names.specs.declared.points.TheConstants.{FIRSTS, SECONDS}

pub cut_alike : (s ls t ms : List ℕ) → s ≡ t → ls ≡ ms → are_cut t ms ≡ true → are_cut s ls ≡ true
cut_alike s ls t ms e f h = rw (e, f) h

pub entries_alike : (s ls ps qs t ms us vs : List ℕ) → s ≡ t → ls ≡ ms → ps ≡ us → qs ≡ vs → entries_from s ls ps qs ≡ entries_from t ms us vs
entries_alike s ls ps qs t ms us vs e f g h = rw (e, f, g, h) refl

pub ready_alike : (es fs : List Entry) (ns ds bs ks hs os cs ys js is : List ℕ) → es ≡ fs → ns ≡ os → ds ≡ cs → bs ≡ ys → ks ≡ js → hs ≡ is → IsReady fs (nodes_from 1 os cs ys js) is → IsReady es (nodes_from 1 ns ds bs ks) hs
ready_alike es fs ns ds bs ks hs os cs ys js is d e f g h i r = rw (d, e, f, g, h, i) r

pub order_alike : (es fs : List Entry) (ps is qs js : List ℕ) → es ≡ fs → ps ≡ qs → is ≡ js → IsInOrder fs qs js → IsInOrder es ps is
order_alike es fs ps is qs js d e f r = rw (d, e, f) r

pub html_is : entries_from TEXT.now LENGTHS FIRSTS SECONDS ≡ html_entries
unfolding html_entries
html_is = refl
