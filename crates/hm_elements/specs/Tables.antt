-- Kinds of elements and attributes, by name.
use Rattle.std.specs.Prelude.{ℕ, Bool, ◌||◌, List, [], ◌∷◌, ◌++◌, if◌then◌else◌, bytes_eq}
use Rattle.hm_elements.specs.declared.class.Class.{Class}
use Rattle.hm_elements.specs.declared.class.Class.TheVariants.{Root, Void, Rcdata, Raw, Script, TablePart, Ordinary, Refused}
use Rattle.hm_elements.specs.Names.{words, is_among, table, script}

unfoldable pub roots : List (List ℕ)
roots = words "html head body"

-- elements that hold nothing
unfoldable pub voids : List (List ℕ)
voids = words "area base br col embed hr img input link meta param source track wbr"

-- elements that hold one text, in which references are read
unfoldable pub rcdata_names : List (List ℕ)
rcdata_names = words "title textarea"

-- elements that hold one text, in which nothing is read
unfoldable pub raw_names : List (List ℕ)
raw_names = words "style iframe"

-- elements that aren't read
unfoldable pub refused_names : List (List ℕ)
refused_names = words "applet basefont bgsound command frame frameset image isindex keygen listing marquee math menuitem noembed noframes plaintext rb rtc template xmp"

unfoldable pub headings : List (List ℕ)
headings = words "h1 h2 h3 h4 h5 h6"

unfoldable pub sections : List (List ℕ)
sections = words "thead tbody tfoot"

-- the cells of a table
abbrev pub cells : List (List ℕ)
cells = words "td th"

-- the parts of a table
unfoldable pub parts : List (List ℕ)
parts = words "caption col colgroup thead tbody tfoot tr td th"

-- blocks, before whose start tags the end tag of a paragraph may be left out
unfoldable pub blocks : List (List ℕ)
blocks =
    words "address article aside blockquote center details dialog dir div dl fieldset figcaption figure footer form header hgroup main menu nav ol pre search section summary ul"
    ++ headings ++ words "table hr p"

-- a start tag of these closes a paragraph
unfoldable pub paragraph_ends : List (List ℕ)
paragraph_ends = blocks ++ words "li dd dt"

-- a paragraph isn't closed through an open element of these, of HTML and of SVG
unfoldable pub boundaries : List (List ℕ)
boundaries = words "html table td th caption object button"

unfoldable pub svg_boundaries : List (List ℕ)
svg_boundaries = words "title desc"

-- elements at whose edges whitespace isn't seen
unfoldable pub block_names : List (List ℕ)
block_names = blocks ++ words "body caption col colgroup dd dt head html legend li optgroup option tbody td tfoot th thead title tr"

-- elements directly in which a text of only whitespace isn't seen
unfoldable pub space_parents : List (List ℕ)
space_parents = words "html head table colgroup thead tbody tfoot tr select optgroup datalist ul ol menu dir dl"

-- elements in which whitespace is seen as it is, and after whose start tags a line feed is dropped
abbrev pub preformatted : List (List ℕ)
preformatted = words "pre textarea"

-- metadata, which doesn't stand between head and body
abbrev pub metadata_names : List (List ℕ)
metadata_names = words "base link meta script style title"

-- attributes whose value says nothing
unfoldable pub boolean_attributes : List (List ℕ)
boolean_attributes =
    words "allowfullscreen async autofocus autoplay checked controls default defer disabled formnovalidate inert ismap itemscope loop multiple muted nomodule novalidate open playsinline readonly required reversed selected"

-- the elements of SVG that are read
unfoldable pub svg_names : List (List ℕ)
svg_names =
    words "a animate animatemotion animatetransform circle clippath defs desc ellipse"
    ++ words "feblend fecolormatrix fecomponenttransfer fecomposite feconvolvematrix fediffuselighting fedisplacementmap fedistantlight fedropshadow feflood fefunca fefuncb fefuncg fefuncr fegaussianblur feimage femerge femergenode femorphology feoffset fepointlight fespecularlighting fespotlight fetile feturbulence filter"
    ++ words "g image line lineargradient marker mask metadata mpath path pattern polygon polyline radialgradient rect set stop style svg switch symbol text textpath title tspan use view"

-- elements that don't stand in one of their own name
unfoldable pub unnested_names : List (List ℕ)
unnested_names = words "a button form nobr"

unfoldable pub is_root : List ℕ → Bool
is_root n = is_among n roots

unfoldable pub is_void : List ℕ → Bool
is_void n = is_among n voids

unfoldable pub is_rcdata : List ℕ → Bool
is_rcdata n = is_among n rcdata_names

-- style, iframe and script, whose text is raw
unfoldable pub is_raw : List ℕ → Bool
is_raw n = is_among n (raw_names ++ script ∷ [])

-- elements that hold one text and nothing else
unfoldable pub holds_text : List ℕ → Bool
holds_text n = is_raw n || is_rcdata n

unfoldable pub is_refused : List ℕ → Bool
is_refused n = is_among n refused_names

unfoldable pub is_heading : List ℕ → Bool
is_heading n = is_among n headings

unfoldable pub is_section : List ℕ → Bool
is_section n = is_among n sections

unfoldable pub is_metadata : List ℕ → Bool
is_metadata n = is_among n metadata_names

unfoldable pub is_unnested : List ℕ → Bool
is_unnested n = is_among n unnested_names

unfoldable pub closes_p : List ℕ → Bool
closes_p n = is_among n paragraph_ends

unfoldable pub is_boundary : List ℕ → Bool → Bool
is_boundary n foreign = is_among n (if foreign then svg_boundaries else boundaries)

unfoldable pub is_block : List ℕ → Bool
is_block n = is_among n block_names

unfoldable pub is_boolean : List ℕ → Bool
is_boolean n = is_among n boolean_attributes

unfoldable pub is_svg_name : List ℕ → Bool
is_svg_name n = is_among n svg_names

-- elements of SVG that hold only texts and comments
unfoldable pub holds_svg_text : List ℕ → Bool
holds_svg_text n = is_among n svg_boundaries

unfoldable pub is_table_part : List ℕ → Bool
is_table_part n = is_among n (parts ++ table ∷ [])

unfoldable pub class_of : List ℕ → Class
class_of n =
    if is_root n then Root
    else if is_void n then Void
    else if is_rcdata n then Rcdata
    else if is_raw n then (if bytes_eq n script then Script else Raw)
    else if is_table_part n then TablePart
    else if is_refused n then Refused
    else Ordinary
