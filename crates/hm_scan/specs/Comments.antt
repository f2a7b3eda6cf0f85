-- Comments (HTML Standard, #tag-open-state, #end-tag-open-state, #bogus-comment-state to #comment-end-bang-state) and
-- CDATA sections (#cdata-section-state to #cdata-section-end-state).
use Rattle.std.specs.Prelude.{ℕ, Bool, false, not, ◌&&◌, ◌||◌, ◌==◌, List, [], ◌∷◌, Option, Some, None, if◌then◌else◌, codes, drop}
use Rattle.std.specs.Option.{option_or}
use Rattle.hm_base.specs.Bytes.{Cut, cut_at, or_go_on, strip, head_is, is_letter}
use Rattle.hm_base.specs.RawText.{is_found}
use Rattle.hm_tree.specs.Tokens.{Scanned}
use Rattle.hm_scan.specs.Pieces.{as_comment, as_slice}
use Rattle.hm_scan.specs.Doctypes.{begins_doctype}

-- the text begins with these bytes
abbrev pub begins : List ℕ → List ℕ → Bool
begins mark s = is_found (strip mark s)

-- the text cut at the first place where `ends` finds what it looks for; `ends` returns what follows that
abbrev pub cut_where : (List ℕ → Option (List ℕ)) → List ℕ → Option Cut
cut_where ends [] = None
cut_where ends (c ∷ s) = or_go_on (ends (c ∷ s)) c (cut_where ends s)

-- what follows `-->` or `--!>`
abbrev pub after_end : List ℕ → Option (List ℕ)
after_end s = option_or (strip (codes "-->") s) (strip (codes "--!>") s)

abbrev pub at_once : Option (List ℕ) → Option Cut → Option Cut
at_once None k = k
at_once (Some rest) k = Some (record { before = []; after = rest })

-- after `<!--`: a `>` or `->` ends the comment at once, else its text runs to the first `-->` or `--!>`
abbrev pub cut_comment : List ℕ → Option Cut
cut_comment s = at_once (option_or (strip (codes ">") s) (strip (codes "->") s)) (cut_where after_end s)

-- The text of the comment that begins here, and what follows its end. After `<!` and `</` the text runs to the first
-- `>`; a `?` belongs to it.
abbrev pub comment_at : List ℕ → Option Cut
comment_at s =
    if begins (codes "<?") s then cut_at (codes ">") (drop 1 s)
    else if begins (codes "<!--") s then cut_comment (drop 4 s)
    else cut_at (codes ">") (drop 2 s)

-- how many bytes of the comment that begins here stand before its text
abbrev pub comment_front : List ℕ → ℕ
comment_front s =
    if begins (codes "<?") s then 1
    else if begins (codes "<!--") s then 4
    else 2

-- the comment that begins here
unfoldable pub read_comment : List ℕ → Scanned
read_comment s = as_comment (comment_at s)

-- after `</`: neither a tag's name nor `>`
abbrev pub is_no_tag : ℕ → Bool
is_no_tag c = not (is_letter c || c == 62)

abbrev pub found_and : (ℕ → Bool) → Option (List ℕ) → Bool
found_and p None = false
found_and p (Some rest) = head_is p rest

-- A comment begins here, where no CDATA section may stand: `<?`, `<!` of no doctype, or `</` before a byte that is
-- neither a letter nor `>`.
unfoldable pub begins_comment : List ℕ → Bool
begins_comment s = begins (codes "<?") s || (begins (codes "<!") s && not (begins_doctype s)) || found_and is_no_tag (strip (codes "</") s)

-- a CDATA section begins here, where one may stand
unfoldable pub begins_cdata : List ℕ → Bool
begins_cdata s = begins (codes "<![CDATA[") s

-- the text of the CDATA section that begins here: it runs to the first `]]>`
unfoldable pub read_cdata : List ℕ → Scanned
read_cdata s = as_slice (cut_at (codes "]]>") (drop 9 s))
