-- What is left of a text after all that is ready of it.
use Rattle.std.proofs.Common.{◌≡◌, ℕ, true, List, [], map, sym, ap, subst, ◌∙◌, append-nil}
use Rattle.std.specs.Str.{IsUtf8}
use Rattle.hm_base.specs.Bytes.{all_pass}
use Rattle.hm_base.specs.Source.{Source, byte_of, is_text_byte}
use Rattle.hm_base.specs.declared.rules.Refused.{Refused}
use Rattle.hm_base.specs.declared.rules.Refused.TheVariants as answers
use Rattle.hm_construction_laws.specs.Trees.{after_events, tree_from}
use Rattle.hm_lexer.specs.Reading.{Reading, text_of}
use Rattle.hm_insertion.specs.Building.{Building}
use Rattle.hm_build.specs.Feeding.{Comes, IsPartway, StopsAs, left, whole_tree}
use Rattle.hm_build.specs.Parsing.{IsParsing, IsRefusedAs, left_tree, place_of}
use Rattle.hm_build.proofs.Coming.{tree_after}
use Rattle.hm_build.proofs.PartTurns.{left_bytes, plain_left}

left_is : (r : Reading) (b : Building) → left_tree r b ≡ whole_tree r.names b (left r) r.source.end
left_is r b =
    ap (λ s. after_events b.walk (tree_from r.names (place_of r.source) 0 r.at b.state s)) (left_bytes r)
    ∙ ap (after_events b.walk) (tree_after r.names b.state r.source.placed r.source.end r.at)

pub comes_to : (r s : Reading) (b c : Building) → s.source ≡ r.source → s.names ≡ r.names → Comes r.names b (left r) c (left s) → left_tree r b ≡ left_tree s c
comes_to r s b c source names h =
    left_is r b ∙ ap (λ l. whole_tree r.names b l r.source.end) (sym (append-nil (left r))) ∙ h.tree [] r.source.end
    ∙ ap (λ l. whole_tree r.names c l r.source.end) (append-nil (left s)) ∙ ap (λ t. whole_tree t c (left s) r.source.end) (sym names) ∙ ap (λ (v : Source). whole_tree s.names c (left s) v.end) (sym source) ∙ sym (left_is s c)

pub stops_at : (r : Reading) (b : Building) (answer : Refused) → StopsAs r.names b (left r) answer → IsRefusedAs (left_tree r b) answer
stops_at r b answers.OutOfMemory h = tt
stops_at r b (answers.Page rule at) h = left_is r b ∙ ap (λ l. whole_tree r.names b l r.source.end) (sym (append-nil (left r))) ∙ h.tree [] r.source.end

pub parses_on : (r : Reading) (b : Building) (page : Source) (s : List ℕ) → r.source ≡ page → s ≡ map byte_of page.placed → all_pass is_text_byte s ≡ true → IsUtf8 s → IsPartway r b → IsParsing r b
parses_on r b page s e is plain utf8 p =
    let text : s ≡ text_of r = is ∙ sym (ap (λ (v : Source). map byte_of v.placed) e) in
    record {
      inside = p.inside;
      within = p.within;
      plain = plain_left (text_of r) r.at (subst (λ x. all_pass is_text_byte x ≡ true) text plain) (subst IsUtf8 text utf8) p.boundary;
    }
