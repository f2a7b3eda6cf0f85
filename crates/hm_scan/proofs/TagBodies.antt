-- A tag that is read part by part.
use Rattle.std.proofs.Common.{◌≡◌, ℕ, ◌<◌, ◌≤◌, Bool, List, [], ◌∷◌, ◌++◌, length, drop, Option, None, refl, ap, sym, ◌∙◌, arith, length-append, append-nil}
use Rattle.std.specs.Str.{IsCharBoundary}
use Rattle.hm_base.specs.Walks.{Attribute}
use Rattle.hm_refs.specs.Names.{Entry}
use Rattle.hm_scan.specs.Tags.{CutTag, with_attribute, cut_tag}
use Rattle.hm_scan.specs.Parts.{written_in, IsTagEnd, IsPair}
use Rattle.hm_scan.specs.Collected.{IsCollected, IsTagBody}
use Rattle.hm_scan.specs.declared.attribute.WrittenAttribute as places
use Rattle.hm_scan.specs.declared.collected.Collected.{Collected}
use Rattle.hm_scan.proofs.Written.{with_attributes}
use Rattle.hm_scan.proofs.WrittenTags.{with_all}

-- up to a place the tag whose name ends at from was read
pub record IsReadTo (t : List Entry) (keeps : Bool) (s : List ℕ) (from at : ℕ) (attrs : List Attribute) (c : Collected) : Type 0 where
  pub written : List Attribute
  pub cut : cut_tag (drop from s) ≡ with_attributes written (cut_tag (drop at s))
  pub kept : c.keeps ≡ keeps
  pub collected : IsCollected t written c attrs
  pub few : length written ≤ at
  pub forward : from ≤ at
  pub boundary : IsCharBoundary s at

with_push : (written : List Attribute) (a : Attribute) (o : Option CutTag) → with_attributes (written ++ a ∷ []) o ≡ with_attributes written (with_attribute a o)
with_push [] a o = refl
with_push (b ∷ written) a o = ap (with_attribute b) (with_push written a o)

pub read_cut : (t : List Entry) (keeps : Bool) (s : List ℕ) (from at : ℕ) (attrs : List Attribute) (c : Collected) → IsReadTo t keeps s from at attrs c → cut_tag (drop at s) ≡ None → cut_tag (drop from s) ≡ None
read_cut t keeps s from at attrs c r none = r.cut ∙ ap (with_attributes r.written) none ∙ all_none r.written
  where
    all_none : (written : List Attribute) → with_attributes written None ≡ None
    all_none [] = refl
    all_none (a ∷ written) = ap (with_attribute a) (all_none written)

pub read_end : (t : List Entry) (keeps : Bool) (s : List ℕ) (from at following : ℕ) (slash : Bool) (attrs : List Attribute) (c : Collected) → IsReadTo t keeps s from at attrs c → IsTagEnd s at slash following
    → IsTagBody t keeps s from attrs (record { collected = c; slash = slash; after = following })
read_end t keeps s from at following slash attrs c r e =
    let low : from ≤ at = r.forward in
    let next : at < following = e.forward in
    record {
      tag = record { attributes = r.written ++ []; slash = slash; rest = drop following s };
      is = r.cut ∙ ap (with_attributes r.written) e.cut ∙ with_all r.written (record { attributes = []; slash = slash; rest = drop following s });
      slash = refl;
      rest = refl;
      kept = r.kept;
      collected = rw (append-nil r.written) r.collected;
      forward = omega arith;
      boundary = e.rest;
    }

pub read_more : (t : List Entry) (keeps : Bool) (s : List ℕ) (from at start : ℕ) (a : places.WrittenAttribute) (before after : List Attribute) (old new : Collected) → IsReadTo t keeps s from at before old → IsPair s at start a → new.keeps ≡ old.keeps
    → ((written : List Attribute) → IsCollected t written old before → IsCollected t (written ++ written_in s start a ∷ []) new after) → IsReadTo t keeps s from a.value.after after new
read_more t keeps s from at start a before after old new r p same takes =
    let low : from ≤ at = r.forward in
    let next : at ≤ start = p.forward in
    let name : start < a.name_to = p.is.forward in
    let following : a.name_to ≤ a.value.after = p.is.after in
    let count : length r.written ≤ at = r.few in
    record {
      written = r.written ++ written_in s start a ∷ [];
      cut = r.cut ∙ ap (with_attributes r.written) p.cut ∙ sym (with_push r.written (written_in s start a) (cut_tag (drop a.value.after s)));
      kept = same ∙ r.kept;
      collected = takes r.written r.collected;
      few = simp length-append (omega arith);
      forward = omega arith;
      boundary = p.is.rest;
    }
