-- The open elements as they are kept, and the path that contracts see.
use Rattle.std.proofs.Common.{◌≡◌, ℕ, ◌+◌, ◌<◌, ◌≤◌, true, List, [], ◌∷◌, ◌++◌, length, take, get_or, map, reverse, slice_get, Some, string_bytes, refl, sym, ap, ◌∙◌, append_assoc, arith, length-append}
use lib.Utf8.{encode}
use Rattle.std.specs.Vec.{vec_capacity}
use Rattle.std.specs.declared.vec.Vec.{Vec}
use Rattle.std.specs.declared.alloc.Global.{Global}
use Rattle.std.specs.Option.{option_map}
use Rattle.std.specs.Str.{is_utf8, chars}
use Rattle.std.proofs.lemmas.Bool.{and_from}
use Rattle.std.proofs.lemmas.List.{append-nil, reverse-append, take-map}
use Rattle.std.proofs.lemmas.Option.{slice_get-map, slice_get_read}
use Rattle.std.proofs.lemmas.Str.{is_utf8-from_IsUtf8, IsUtf8-string_bytes}
use Rattle.hm_base.specs.Walks.{Element}
use Rattle.hm_base.specs.declared.limits.TheConstants.{DEPTH_LIMIT}
use Rattle.hm_elements.specs.Names.{html, body}
use Rattle.hm_elements.specs.Paths.{html_element}
use Rattle.hm_open_elements.specs.Elements.{name_of, element_of, onto, path_of, AreMarked, IsPath, IsRoomy, are_names_utf8}
use Rattle.hm_open_elements.specs.Plans.{IsPushed}
use Rattle.hm_open_elements.specs.declared.element.ElementName.{ElementName}
use Rattle.hm_open_elements.specs.declared.element.ElementName.TheVariants.{Html, Body, Tbody, Tr, Colgroup, Known, Given}
use Rattle.hm_open_elements.specs.declared.element.OpenElement.{OpenElement}
use Rattle.hm_open_elements.proofs.Elements.{path_of-push, length-path_of, IsPath-push, IsPath-take}

pub path_of-pushed : (old new : List OpenElement) (e : Element) → IsPushed old e new → path_of new ≡ e ∷ path_of old
path_of-pushed old new e p = ap path_of p.items ∙ path_of-push old p.last ∙ ap (λ x. x ∷ path_of old) p.element_is

pub IsPath-pushed : (old new : List OpenElement) (e : Element) → IsPath old → length old < DEPTH_LIMIT → IsPushed old e new → IsPath new
IsPath-pushed old new e path room p =
    let marked : AreMarked [] (old ++ p.last ∷ []) = rw p.items at p.marked in rw p.items (IsPath-push old p.last path room marked)

pub IsRoomy-pushed : (old new : Vec OpenElement Global) (e : Element) → IsRoomy old → length old.items < DEPTH_LIMIT → IsPushed old.items e new.items → vec_capacity old ≤ vec_capacity new → IsRoomy new
IsRoomy-pushed old new e kept room p grown =
    record { path = IsPath-pushed old.items new.items e kept.path room p; room = omega (arith, kept.room) }

pub IsRoomy-truncated : (old new : Vec OpenElement Global) (n : ℕ) → IsRoomy old → 2 ≤ n → n ≤ length old.items → new.items ≡ take n old.items → vec_capacity new ≡ vec_capacity old → IsRoomy new
IsRoomy-truncated old new n kept least most e same =
    record { path = rw e (IsPath-take old.items n kept.path least most); room = omega (arith, kept.room) }

reversed : (path : List Element) (os : List OpenElement) → reverse (onto path os) ≡ reverse path ++ map element_of os
reversed path [] = sym (append-nil (reverse path))
reversed path (o ∷ os) =
    reversed (element_of o ∷ path) os
    ∙ ap (λ x. x ++ map element_of os) (reverse-append (element_of o ∷ []) path)
    ∙ append_assoc (reverse path) (element_of o ∷ []) (map element_of os)

mapped : {A : Type 0} (f : Element → A) (path : List Element) (os : List OpenElement) → reverse (map f (onto path os)) ≡ reverse (map f path) ++ map (λ o. f (element_of o)) os
mapped f path [] = sym (append-nil (reverse (map f path)))
mapped f path (o ∷ os) =
    mapped f (element_of o ∷ path) os
    ∙ ap (λ x. x ++ map (λ o'. f (element_of o')) os) (reverse-append (f (element_of o) ∷ []) (map f path))
    ∙ append_assoc (reverse (map f path)) (f (element_of o) ∷ []) (map (λ o'. f (element_of o')) os)

-- what is shown of element i, counted from html
pub shown_at : {A : Type 0} (f : Element → A) (os : List OpenElement) (i : ℕ) (o : OpenElement) → i < length os → o ≡ get_or os i o → slice_get (reverse (map f (path_of os))) i ≡ Some (f (element_of o))
shown_at f os i o h at =
    ap (λ x. slice_get x i) (mapped f [] os) ∙ slice_get-map (λ o'. f (element_of o')) os i ∙ ap (option_map (λ o'. f (element_of o'))) (slice_get_read os (length os) i o refl h at)

pub begins : (os : List OpenElement) → IsPath os → take 2 (reverse (path_of os)) ≡ html_element html ∷ html_element body ∷ []
begins os path =
    ap (take 2) (reversed [] os) ∙ take-map element_of 2 os ∙ sym (reversed [] (take 2 os)) ∙ ap reverse path.begins

name_is_utf8 : (n : ElementName) → is_utf8 (name_of n) ≡ true
unfolding is_utf8 chars encode
name_is_utf8 Html = refl
name_is_utf8 Body = refl
name_is_utf8 Tbody = refl
name_is_utf8 Tr = refl
name_is_utf8 Colgroup = refl
name_is_utf8 (Known k) = k.utf8
name_is_utf8 (Given s) = is_utf8-from_IsUtf8 (string_bytes s) (IsUtf8-string_bytes s)

names_utf8 : (path : List Element) (os : List OpenElement) → are_names_utf8 path ≡ true → are_names_utf8 (onto path os) ≡ true
names_utf8 path [] h = h
names_utf8 path (o ∷ os) h = names_utf8 (element_of o ∷ path) os (and_from (is_utf8 (name_of o.name)) (are_names_utf8 path) (name_is_utf8 o.name) h)

pub all_names_utf8 : (os : List OpenElement) → are_names_utf8 (path_of os) ≡ true
all_names_utf8 os = names_utf8 [] os refl

pub length-made : (old new : List OpenElement) (made : List Element) → path_of new ≡ made ++ path_of old → length new ≡ length made + length old
length-made old new made e = omega (arith, length-path_of old, length-path_of new, length-append made (path_of old), ap length e)
