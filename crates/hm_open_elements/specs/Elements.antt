-- How the open elements are kept: outermost first, each with what is open at it.
use Rattle.std.specs.Prelude.{◌≡◌, ℕ, ◌≤◌, Bool, List, [], ◌∷◌, length, take, codes, string_bytes}
use Rattle.std.specs.List.{list_all}
use Rattle.std.specs.Str.{is_utf8}
use Rattle.std.specs.Vec.{vec_capacity}
use Rattle.std.specs.declared.vec.Vec.{Vec}
use Rattle.std.specs.declared.alloc.Global.{Global}
use Rattle.hm_base.specs.Walks.{Element}
use Rattle.hm_base.specs.declared.limits.TheConstants.{DEPTH_LIMIT}
use Rattle.hm_elements.specs.Names.{html, body, tbody, tr, colgroup}
use Rattle.hm_elements.specs.Kinds.{kind}
use Rattle.hm_elements.specs.Paths.{html_element, current, is_in_text, is_open, is_heading_open, is_p_open}
use Rattle.hm_open_elements.specs.declared.element.ElementName.{ElementName}
use Rattle.hm_open_elements.specs.declared.element.ElementName.TheVariants.{Html, Body, Tbody, Tr, Colgroup, Known, Given}
use Rattle.hm_open_elements.specs.declared.element.ScopeFlags.{ScopeFlags}
use Rattle.hm_open_elements.specs.declared.element.OpenElement.{OpenElement}

abbrev pub name_of : ElementName → List ℕ
name_of Html = html
name_of Body = body
name_of Tbody = tbody
name_of Tr = tr
name_of Colgroup = colgroup
name_of (Known k) = k.text.now
name_of (Given s) = string_bytes s

abbrev pub element_of : OpenElement → Element
element_of o = record { name = name_of o.name; foreign = o.foreign }

-- elements that open one after another on a path
abbrev pub onto : List Element → List OpenElement → List Element
onto path [] = path
onto path (o ∷ os) = onto (element_of o ∷ path) os

abbrev pub path_of : List OpenElement → List Element
path_of os = onto [] os

-- what is open on a path, and of what kind its innermost element is
abbrev pub marks_of : List Element → ScopeFlags
marks_of path = record {
  paragraph = is_p_open path;
  heading = is_heading_open path;
  a = is_open (codes "a") path;
  button = is_open (codes "button") path;
  form = is_open (codes "form") path;
  nobr = is_open (codes "nobr") path;
  kind = kind (current path);
  text = is_in_text path;
}

-- the element's marks keep the kind of its name
abbrev pub KeepsKind : OpenElement → Type 0
KeepsKind o = o.marks.kind ≡ kind (name_of o.name)

-- each element knows what is open at it
abbrev pub AreMarked : List Element → List OpenElement → Type 0
AreMarked path [] = Unit {0}
AreMarked path (o ∷ os) = (o.marks ≡ marks_of (element_of o ∷ path)) × AreMarked (element_of o ∷ path) os

-- html and body, the elements that every path begins with
abbrev pub in_body : List Element
in_body = html_element body ∷ html_element html ∷ []

-- the open elements of a page in its body
pub record IsPath (os : List OpenElement) : Type 0 where
  pub marked : AreMarked [] os
  pub begins : path_of (take 2 os) ≡ in_body
  pub least : 2 ≤ length os
  pub most : length os ≤ DEPTH_LIMIT

-- the names are UTF-8
abbrev pub are_names_utf8 : List Element → Bool
are_names_utf8 path = list_all (λ e. is_utf8 e.name) path

-- the open elements of a page in its body, with room for as many as may be open
pub record IsRoomy (elements : Vec OpenElement Global) : Type 0 where
  pub path : IsPath elements.items
  pub room : DEPTH_LIMIT ≤ vec_capacity elements
