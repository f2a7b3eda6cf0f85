-- A tag that ends directly after its name.
use Rattle.std.proofs.Common.{◌≡◌, ℕ, ◌+◌, ◌<◌, ◌≤◌, Bool, true, false, List, [], ◌∷◌, length, map, drop, get_or, slice_range, Some, string_bytes, refl, ap, sym, ◌∙◌, arith}
use Rattle.std.specs.Str.{IsUtf8}
use Rattle.std.proofs.lemmas.Str.{IsCharBoundary-after_ascii}
use Rattle.hm_base.specs.Bytes.{rest_after, lower}
use Rattle.hm_base.specs.Forms.{is_tag_name}
use Rattle.hm_refs.specs.Names.{Entry}
use Rattle.hm_refs.specs.Reads.{IsEndOf}
use Rattle.hm_refs.proofs.RunEnds.{rest_cons}
use Rattle.hm_tree.specs.declared.tokens.Tag as places
use Rattle.hm_scan.specs.Tags.{cut_tag, is_name_byte, is_tag_end}
use Rattle.hm_scan.specs.TagPlaces.{IsPlainName}
use Rattle.hm_scan.specs.Reading.{tag_name}
use Rattle.hm_scan.specs.Wholes.{IsWhole, fault_by}
use Rattle.hm_scan.proofs.Faults.{no_fault}

-- nothing stands between the name and the end
ends_here : (rest : List ℕ) → cut_tag (62 ∷ rest) ≡ Some (record { attributes = []; slash = false; rest = rest })
unfolding is_tag_end
ends_here rest = refl

pub bare_is : (t : List Entry) (keeps : Bool) (s : List ℕ) (from to : ℕ) (read : places.Tag) → IsUtf8 s → IsEndOf is_name_byte s from to → IsPlainName (slice_range s from to) → to < length s → get_or s to 0 ≡ 62
    → string_bytes read.name ≡ map lower (slice_range s from to) → read.attrs ≡ [] → IsWhole t keeps s from read (record { slash = false; after = to + 1 })
bare_is t keeps s from to read utf8 e plain inside greater is none =
    let name : tag_name (drop from s) ≡ slice_range s from to = ap (map lower) e.front ∙ plain.lowered in
    let accepted : is_tag_name (tag_name (drop from s)) ≡ true = ap is_tag_name name ∙ plain.is in
    let rest : drop to s ≡ 62 ∷ drop (to + 1) s = rest_cons s to inside ∙ ap (λ c. c ∷ drop (to + 1) s) greater in
    let cut : cut_tag (rest_after is_name_byte (drop from s)) ≡ Some (record { attributes = []; slash = false; rest = drop (to + 1) s }) = ap cut_tag (e.after ∙ rest) ∙ ends_here (drop (to + 1) s) in
    let low : from ≤ to = e.forward in
    record {
      accepted = ap (fault_by (tag_name (drop from s))) cut ∙ no_fault (tag_name (drop from s)) [] accepted refl (omega arith);
      name = is ∙ ap (map lower) (sym e.front);
      tag = record { attributes = []; slash = false; rest = drop (to + 1) s };
      cut = cut;
      attrs = λ _. none;
      slash = refl;
      rest = refl;
      forward = omega arith;
      boundary = IsCharBoundary-after_ascii s to utf8 inside (rw greater (omega arith));
    }
