-- CDATA sections that are read.
use Rattle.std.proofs.Common.{◌≡◌, ℕ, ◌+◌, true, List, ◌++◌, length, drop, Option, Some, None, refl, ap, subst, ◌∙◌, arith, codes}
use Rattle.hm_base.specs.Bytes.{Cut, cut_at, strip}
use Rattle.hm_scan.specs.Comments.{begins_cdata, read_cdata}
use Rattle.hm_scan.specs.Pieces.{as_slice}
use Rattle.hm_scan.proofs.Cuts.{cut_at_where}
use Rattle.hm_scan.proofs.Searches.{front_stripped, begins_front}
use Rattle.hm_tree.specs.Tokens.{Seen, slice, taken}
use Rattle.hm_token_laws.specs.First.{in_svg}
use Rattle.hm_token_laws.specs.Laws.{IsPlain, IsText, SoundToken, TakesBytes}
use Rattle.hm_token_laws.proofs.Plain.{no_zero_byte, no_return_byte}
use Rattle.hm_token_laws.proofs.References.{is_ascii}
use Rattle.hm_token_laws.proofs.Marks.{found_at, IsCut, cut_plain, cut_size, IsTaken}

slice_taken : (o : Option Cut) (token : Seen) (rest : List ℕ) → as_slice o ≡ taken token rest → IsTaken o slice token rest
slice_taken None token rest h = absurd (cc)
slice_taken (Some k) token rest h = record { cut = k; is = refl; token_is = cc; rest_is = cc }

cdata_cut : (s : List ℕ) (k : Cut) → begins_cdata s ≡ true → cut_at (codes "]]>") (drop 9 s) ≡ Some k → IsCut s k
unfolding begins_cdata is_ascii
cdata_cut s k begun h =
    let f = found_at (strip (codes "]]>")) (drop 9 s) k (rw (cut_at_where (codes "]]>") (drop 9 s)) at h) in
    let start = front_stripped (codes "<![CDATA[") s (drop 9 s) (begins_front (codes "<![CDATA[") s begun) in
    record {
      mark = codes "]]>";
      before = codes "<![CDATA[";
      is = start ∙ ap (λ y. codes "<![CDATA[" ++ y) (f.is ∙ ap (λ y. k.before ++ y) (front_stripped (codes "]]>") f.tail k.after f.found));
      some = omega arith;
      mark_low = refl;
      before_low = refl;
    }

pub cdata_sound : (s : List ℕ) (token : Seen) (rest : List ℕ) → begins_cdata s ≡ true → IsPlain s → read_cdata s ≡ taken token rest → SoundToken in_svg token × IsPlain rest
unfolding read_cdata
cdata_sound s token rest begun plain h =
    let k = slice_taken (cut_at (codes "]]>") (drop 9 s)) token rest h in
    let parts = cut_plain s k.cut (cdata_cut s k.cut begun k.is) plain in
    let is : IsText in_svg k.cut.before = record { whole = tt; no_zero = no_zero_byte k.cut.before parts.before_plain; no_return = no_return_byte k.cut.before parts.before_plain; utf8 = parts.before_plain.utf8 } in
    (subst (SoundToken in_svg) k.token_is is, subst IsPlain k.rest_is parts.after_plain)

pub cdata_takes : (s : List ℕ) (token : Seen) (rest : List ℕ) → begins_cdata s ≡ true → read_cdata s ≡ taken token rest → TakesBytes s 0 token rest
unfolding read_cdata
cdata_takes s token rest begun h =
    let k = slice_taken (cut_at (codes "]]>") (drop 9 s)) token rest h in
    let c = cdata_cut s k.cut begun k.is in
    let size = (cut_size s k.cut c).whole in
    let some = c.some in
    let there : TakesBytes s 0 (slice k.cut.before) k.cut.after = record { count = length c.before + length k.cut.before + length c.mark; whole = omega arith; size = omega arith; least = omega arith } in
    subst (λ x. TakesBytes s 0 x rest) k.token_is (subst (λ x. TakesBytes s 0 (slice k.cut.before) x) k.rest_is there)
