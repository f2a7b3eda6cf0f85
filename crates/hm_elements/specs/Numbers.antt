-- The numbers of names.
use Rattle.std.specs.Prelude.{ℕ, ◌+◌, ◌*◌, ◌-◌, ◌/◌, ◌%◌, List, [], ◌∷◌, ◌++◌, if◌then◌else◌, bytes_eq, length, get_or}
use Rattle.hm_elements.specs.declared.slots.TheConstants.{SLOTS, BY_LENGTH, BY_FIRST, BY_THIRD, BY_HALF, BY_LAST}
use Rattle.hm_elements.specs.Names.{words, is_among}

-- the names that have a number: those of the tables, and other common ones
unfoldable pub names : List (List ℕ)
names =
    [] ∷ words "a abbr address allowfullscreen animate animatemotion animatetransform applet area article aside async"
    ++ words "audio autofocus autoplay b base basefont bdi bdo bgsound big blockquote body br button canvas caption"
    ++ words "center checked circle cite class clippath code col colgroup command controls data datalist dd default"
    ++ words "defer defs del desc details dfn dialog dir disabled div dl dt ellipse em embed feblend fecolormatrix"
    ++ words "fecomponenttransfer fecomposite feconvolvematrix fediffuselighting fedisplacementmap fedistantlight"
    ++ words "fedropshadow feflood fefunca fefuncb fefuncg fefuncr fegaussianblur feimage femerge femergenode"
    ++ words "femorphology feoffset fepointlight fespecularlighting fespotlight fetile feturbulence fieldset"
    ++ words "figcaption figure filter font footer form formnovalidate frame frameset g h1 h2 h3 h4 h5 h6 head header"
    ++ words "hgroup hr html i id iframe image img inert input ins isindex ismap itemscope kbd keygen label legend li"
    ++ words "line lineargradient link listing loop main map mark marker marquee mask math menu menuitem meta metadata"
    ++ words "meter mpath multiple muted nav nobr noembed noframes nomodule noscript novalidate object ol open"
    ++ words "optgroup option output p param path pattern picture plaintext playsinline polygon polyline pre progress"
    ++ words "q radialgradient rb readonly rect required reversed rp rt rtc ruby s samp script search section select"
    ++ words "selected set slot small source span stop strike strong style sub summary sup svg switch symbol table"
    ++ words "tbody td template text textarea textpath tfoot th thead time title tr track tspan tt u ul use var video"
    ++ words "view wbr xmp"

-- how many names there are before this one
abbrev pub place : List ℕ → List (List ℕ) → ℕ
place n [] = 0
place n (m ∷ ms) = if bytes_eq m n then 0 else place n ms + 1

-- the number of a name; any other name has 0
unfoldable pub number_of : List ℕ → ℕ
number_of n = if is_among n names then place n names else 0

-- the name with a number
unfoldable pub text_of : ℕ → List ℕ
text_of k = get_or names k []

-- the hash of a name
unfoldable pub slot : List ℕ → ℕ
slot n = (length n % 32 * BY_LENGTH + get_or n 0 0 * BY_FIRST + get_or n (length n / 3) 0 * BY_THIRD + get_or n (length n / 2) 0 * BY_HALF + get_or n (length n - 1) 0 * BY_LAST) % 2048

-- the number that a name with this hash may have
unfoldable pub number_at : ℕ → ℕ
number_at k = get_or SLOTS k 0
