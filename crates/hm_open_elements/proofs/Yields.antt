-- Which parts of a table close before a start tag, told without the rows of the tables.
use Rattle.std.proofs.Common.{◌≡◌, ℕ, Bool, true, false, cond, not, ◌||◌, List, bytes_eq, refl}
use Rattle.std.specs.List.{list_all}
use Rattle.hm_elements.specs.Kinds.{kind}
use Rattle.hm_elements.specs.Names.{is_among, is_pair, col, colgroup, tr}
use Rattle.hm_elements.specs.Nesting.{bound_names, closed_by_start_rows, is_closed_by_start}
use Rattle.hm_elements.specs.Tables.{blocks, cells, headings, paragraph_ends, parts, sections}
use Rattle.hm_elements.proofs.TableTools.{each_pair, entry_passes, pair_passes, same_bytes}

-- a name that stands only in certain elements closes only before one that does
abbrev only_bound : List ℕ → List ℕ → Bool
only_bound h n = not (is_among h bound_names) || is_among n bound_names

all_bound : each_pair only_bound closed_by_start_rows ≡ true
unfolding closed_by_start_rows bound_names blocks headings paragraph_ends parts sections is_among
all_bound = refl

col_bound : is_among col bound_names ≡ true
unfolding bound_names parts sections is_among
col_bound = refl

no_col : (n : List ℕ) → is_among n bound_names ≡ false → not (bytes_eq n col) ≡ true
no_col n h = by (bytes_eq n col) refl
  where
    by : (b : Bool) → bytes_eq n col ≡ b → not b ≡ true
    by true e = absurd (let here : is_among n bound_names ≡ true = rw (same_bytes n col e) col_bound in cc)
    by false e = refl

no_pair : (h n : List ℕ) → is_among h bound_names ≡ true → is_among n bound_names ≡ false → is_pair closed_by_start_rows h n ≡ false
no_pair h n b m = by (is_pair closed_by_start_rows h n) refl
  where
    by : (x : Bool) → is_pair closed_by_start_rows h n ≡ x → x ≡ false
    by true e = absurd (let pass : not (is_among h bound_names) || is_among n bound_names ≡ true = pair_passes only_bound h n closed_by_start_rows all_bound e in let no : false ≡ true = rw (b, m) at pass in cc)
    by false e = refl

pub bound_yields : (h n : List ℕ) → (kind h).bound ≡ true → (kind n).bound ≡ false → is_closed_by_start h n ≡ bytes_eq h colgroup
unfolding is_closed_by_start
bound_yields h n b m = by (bytes_eq h colgroup)
  where
    by : (x : Bool) → cond x (not (bytes_eq n col)) (is_pair closed_by_start_rows h n) ≡ x
    by true = no_col n m
    by false = no_pair h n b m

cells_stay : list_all (λ n. not (is_closed_by_start tr n)) cells ≡ true
unfolding is_closed_by_start closed_by_start_rows blocks headings paragraph_ends parts sections is_among
cells_stay = refl

-- a row stays before its cells
pub row_stays : (h n : List ℕ) → bytes_eq h tr ≡ true → is_among n cells ≡ true → is_closed_by_start h n ≡ false
row_stays h n e among = by (is_closed_by_start h n) (rw (same_bytes h tr e) (entry_passes (λ m. not (is_closed_by_start tr m)) n cells cells_stay among))
  where
    by : (b : Bool) → not b ≡ true → b ≡ false
    by true k = cc
    by false k = refl
