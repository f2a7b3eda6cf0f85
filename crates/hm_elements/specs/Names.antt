-- Names of elements and attributes, lists of them, and tables of rows of them.
use Prim.Native.String.{String}
use Rattle.std.specs.Prelude.{ℕ, Bool, false, ◌||◌, ◌==◌, List, [], ◌∷◌, Option, Some, None, if◌then◌else◌, codes, bytes_eq}

abbrev pub with_byte : ℕ → List (List ℕ) → List (List ℕ)
with_byte c [] = (c ∷ []) ∷ []
with_byte c (w ∷ ws) = (c ∷ w) ∷ ws

-- a byte before words: a space begins a new one
abbrev pub before_words : ℕ → List (List ℕ) → List (List ℕ)
before_words c ws = if c == 32 then [] ∷ ws else with_byte c ws

abbrev pub split_words : List ℕ → List (List ℕ)
split_words [] = [] ∷ []
split_words (c ∷ s) = before_words c (split_words s)

-- the words of a text, with one space between each two
abbrev pub words : String → List (List ℕ)
words s = split_words (codes s)

-- whether the name is one of these
unfoldable pub is_among : List ℕ → List (List ℕ) → Bool
is_among n [] = false
is_among n (m ∷ ms) = bytes_eq m n || is_among n ms

-- a row of a table of pairs: each of the first names with each of the second
pub record PairRow : Type 0 where
  pub heads : List (List ℕ)
  pub names : List (List ℕ)

abbrev pub row : String → List (List ℕ) → PairRow
row heads names = record { heads = words heads; names = names }

-- the second names of the first row with this name among its first ones
abbrev pub find : List ℕ → List PairRow → Option (List (List ℕ))
find n [] = None
find n (r ∷ rs) = if is_among n r.heads then Some r.names else find n rs

abbrev pub is_among_found : List ℕ → Option (List (List ℕ)) → Bool
is_among_found m None = false
is_among_found m (Some ms) = is_among m ms

-- whether the pair stands in the table
abbrev pub is_pair : List PairRow → List ℕ → List ℕ → Bool
is_pair rows n m = is_among_found m (find n rows)

abbrev pub html : List ℕ
html = codes "html"

abbrev pub head : List ℕ
head = codes "head"

abbrev pub body : List ℕ
body = codes "body"

abbrev pub noscript : List ℕ
noscript = codes "noscript"

abbrev pub p : List ℕ
p = codes "p"

abbrev pub div : List ℕ
div = codes "div"

abbrev pub dl : List ℕ
dl = codes "dl"

abbrev pub table : List ℕ
table = codes "table"

abbrev pub colgroup : List ℕ
colgroup = codes "colgroup"

abbrev pub col : List ℕ
col = codes "col"

abbrev pub tbody : List ℕ
tbody = codes "tbody"

abbrev pub tr : List ℕ
tr = codes "tr"

abbrev pub td : List ℕ
td = codes "td"

abbrev pub th : List ℕ
th = codes "th"

abbrev pub option : List ℕ
option = codes "option"

abbrev pub script : List ℕ
script = codes "script"

abbrev pub svg : List ℕ
svg = codes "svg"
