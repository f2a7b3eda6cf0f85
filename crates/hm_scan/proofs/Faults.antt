-- Why a tag is refused.
use Rattle.std.proofs.Common.{◌≡◌, ℕ, ◌<◌, ◌≤◌, Bool, true, false, cond, not, ◌||◌, nat_lt, List, length, map, drop, slice_range, Option, Some, None, string_bytes, refl, ap, ap₂, sym, ◌∙◌, arith}
use Rattle.std.proofs.Math.Bool.{or-true}
use Rattle.hm_base.specs.Bytes.{rest_after, lower}
use Rattle.hm_base.specs.Forms.{is_tag_name}
use Rattle.hm_base.specs.Walks.{Attribute}
use Rattle.hm_refs.specs.Names.{Entry}
use Rattle.hm_tree.specs.Tokens.{taken, refused, start_tag, end_tag, Reads}
use Rattle.hm_tree.specs.declared.tokens.Tag as places
use Rattle.hm_tree.specs.declared.tokens.Token.TheVariants as tokens
use Rattle.hm_tree.specs.declared.tokens.ScanFault.{ScanFault}
use Rattle.hm_tree.specs.declared.tokens.ScanFault.TheVariants as faults
use Rattle.hm_scan.specs.Tags.{is_name_byte, CutTag, cut_tag}
use Rattle.hm_scan.specs.Reading.{attribute_limit, has_bad_name, tag_fault, read_attributes, start_of, end_of, tag_name, read_start, read_end}
use Rattle.hm_scan.specs.Collected.{IsCollected, IsTagBody, HasNoBody}
use Rattle.hm_scan.specs.Wholes.{fault_by, fault_at, IsWhole}
use Rattle.hm_refs.specs.Reads.{IsEndOf}
use Rattle.hm_scan.specs.declared.tag.Whole.{Whole}
use Rattle.hm_scan.specs.declared.tag_body.TagBody.{TagBody}

pub bad_tag_name : (name : List ℕ) (written : List Attribute) → is_tag_name name ≡ false → tag_fault name written ≡ Some faults.BadName
unfolding tag_fault
bad_tag_name name written h = rw h refl

pub bad_attribute : (name : List ℕ) (written : List Attribute) → has_bad_name written ≡ true → tag_fault name written ≡ Some faults.BadName
unfolding tag_fault
bad_attribute name written h = rw (h, or-true (not (is_tag_name name))) refl

pub too_many : (name : List ℕ) (written : List Attribute) → is_tag_name name ≡ true → has_bad_name written ≡ false → attribute_limit < length written → tag_fault name written ≡ Some faults.TooManyAttributes
unfolding tag_fault
too_many name written n b h = let more : nat_lt 256 (length written) ≡ true = grind arith in rw (n, b, more) refl

pub no_fault : (name : List ℕ) (written : List Attribute) → is_tag_name name ≡ true → has_bad_name written ≡ false → length written ≤ attribute_limit → tag_fault name written ≡ None
unfolding tag_fault
no_fault name written n b h = let few : nat_lt 256 (length written) ≡ false = grind arith in rw (n, b, few) refl

-- a refused start tag, and a refused end tag
start_by : (t : List Entry) (name : List ℕ) (o : Option CutTag) (f : ScanFault) → fault_by name o ≡ Some f → start_of t name o ≡ refused f
start_by t name None f e = let same : faults.Cut ≡ f = cc in ap refused same
start_by t name (Some g) f e = rw e refl

end_by : (name : List ℕ) (o : Option CutTag) (f : ScanFault) → fault_by name o ≡ Some f → end_of name o ≡ refused f
end_by name None f e = let same : faults.Cut ≡ f = cc in ap refused same
end_by name (Some g) f e = rw e refl

pub start_refused : (t : List Entry) (s : List ℕ) (f : ScanFault) → fault_at s ≡ Some f → read_start t s ≡ refused f
unfolding read_start
start_refused t s f e = start_by t (tag_name s) (cut_tag (rest_after is_name_byte s)) f e

pub end_refused : (s : List ℕ) (f : ScanFault) → fault_at s ≡ Some f → read_end s ≡ refused f
unfolding read_end
end_refused s f e = end_by (tag_name s) (cut_tag (rest_after is_name_byte s)) f e

-- a tag that is read
start_taken : (t : List Entry) (name : List ℕ) (o : Option CutTag) (g : CutTag) → o ≡ Some g → fault_by name o ≡ None → start_of t name o ≡ taken (start_tag name (read_attributes t g.attributes) g.slash) g.rest
start_taken t name o g e f = let free : tag_fault name g.attributes ≡ None = ap (fault_by name) (sym e) ∙ f in ap (start_of t name) e ∙ rw free refl

end_taken : (name : List ℕ) (o : Option CutTag) (g : CutTag) → o ≡ Some g → fault_by name o ≡ None → end_of name o ≡ taken (end_tag name) g.rest
end_taken name o g e f = let free : tag_fault name g.attributes ≡ None = ap (fault_by name) (sym e) ∙ f in ap (end_of name) e ∙ rw free refl

-- where there is no fault, no name is bad and the attributes are few
free_parts : (name : List ℕ) (written : List Attribute) → tag_fault name written ≡ None → (has_bad_name written ≡ false) × (length written ≤ attribute_limit)
unfolding tag_fault
free_parts name written h = parts (not (is_tag_name name)) (has_bad_name written) (nat_lt 256 (length written)) refl h
  where
    parts : (a b m : Bool) → nat_lt 256 (length written) ≡ m → cond (a || b) (Some faults.BadName) (cond m (Some faults.TooManyAttributes) None) ≡ None → (b ≡ false) × (length written ≤ attribute_limit)
    parts true b m e h = absurd (cc)
    parts false true m e h = absurd (cc)
    parts false false true e h = absurd (cc)
    parts false false false e h = (refl, grind arith)

-- a tag whose part after its name was read, with its name
pub whole_is : (t : List Entry) (keeps : Bool) (s : List ℕ) (from name_to : ℕ) (read : places.Tag) (b : TagBody) → IsEndOf is_name_byte s from name_to → IsTagBody t keeps s name_to read.attrs b
    → string_bytes read.name ≡ map lower (slice_range s from name_to) → ((written kept : List Attribute) → IsCollected t written b.collected kept → tag_fault (string_bytes read.name) written ≡ None)
    → IsWhole t keeps s from read (record { slash = b.slash; after = b.after })
whole_is t keeps s from name_to read b e k is free =
    let same : string_bytes read.name ≡ tag_name (drop from s) = is ∙ ap (map lower) (sym e.front) in
    let cut : cut_tag (rest_after is_name_byte (drop from s)) ≡ Some k.tag = ap cut_tag e.after ∙ k.is in
    let accepted : tag_fault (string_bytes read.name) k.tag.attributes ≡ None = free k.tag.attributes read.attrs k.collected in
    let parts = free_parts (string_bytes read.name) k.tag.attributes accepted in
    record {
      accepted = ap (fault_by (tag_name (drop from s))) cut ∙ ap (λ n. tag_fault n k.tag.attributes) (sym same) ∙ accepted;
      name = same;
      tag = k.tag;
      cut = cut;
      attrs = λ wanted. k.collected.read (k.kept ∙ wanted) parts.0 parts.1;
      slash = k.slash;
      rest = k.rest;
      forward = let low : from ≤ name_to = e.forward in let next : name_to < b.after = k.forward in omega arith;
      boundary = k.boundary;
    }

-- a fault of a tag whose name was found
pub whole_refused : (t : List Entry) (keeps : Bool) (s : List ℕ) (from name_to : ℕ) (name : List ℕ) (attrs : List Attribute) (b : TagBody) (f : ScanFault) → IsEndOf is_name_byte s from name_to → IsTagBody t keeps s name_to attrs b
    → name ≡ map lower (slice_range s from name_to) → ((written kept : List Attribute) → IsCollected t written b.collected kept → tag_fault name written ≡ Some f) → fault_at (drop from s) ≡ Some f
whole_refused t keeps s from name_to name attrs b f e k is found =
    let same : name ≡ tag_name (drop from s) = is ∙ ap (map lower) (sym e.front) in
    ap (fault_by (tag_name (drop from s))) (ap cut_tag e.after ∙ k.is) ∙ ap (λ n. tag_fault n k.tag.attributes) (sym same) ∙ found k.tag.attributes attrs k.collected

-- no end of the tag
pub body_refused : (s : List ℕ) (from name_to : ℕ) (f : ScanFault) → IsEndOf is_name_byte s from name_to → HasNoBody s name_to f → (f ≡ faults.OutOfMemory → ⊥) → fault_at (drop from s) ≡ Some f
body_refused s from name_to faults.Cut e none never = ap (fault_by (tag_name (drop from s))) (ap cut_tag e.after ∙ none)
body_refused s from name_to faults.OutOfMemory e none never = absurd (never refl)
body_refused s from name_to faults.BadName e none never = absurd none
body_refused s from name_to faults.TooManyAttributes e none never = absurd none
body_refused s from name_to faults.BadDoctype e none never = absurd none

pub start_is : (t : List Entry) (s : List ℕ) (from : ℕ) (read : places.Tag) (w : Whole) → IsWhole t true s from read w → Reads (read_start t (drop from s)) s (tokens.StartTag (string_bytes read.name) read.attrs w.slash) w.after
unfolding read_start
start_is t s from read w k = record {
  is = start_taken t (tag_name (drop from s)) (cut_tag (rest_after is_name_byte (drop from s))) k.tag k.cut k.accepted
      ∙ ap₂ taken (ap₂ (λ n a. start_tag n a k.tag.slash) (sym k.name) (sym (k.attrs refl)) ∙ ap (start_tag (string_bytes read.name) read.attrs) (sym k.slash)) (sym k.rest);
  inside = tt;
  boundary = k.boundary;
}

pub end_is : (t : List Entry) (s : List ℕ) (from : ℕ) (read : places.Tag) (w : Whole) → IsWhole t false s from read w → Reads (read_end (drop from s)) s (tokens.EndTag (string_bytes read.name)) w.after
unfolding read_end
end_is t s from read w k = record {
  is = end_taken (tag_name (drop from s)) (cut_tag (rest_after is_name_byte (drop from s))) k.tag k.cut k.accepted
      ∙ ap₂ (λ n r. taken (end_tag n) r) (sym k.name) (sym k.rest);
  inside = tt;
  boundary = k.boundary;
}
