-- The end of the text of a page.
use Rattle.std.proofs.Common.{◌≡◌, ℕ, ◌+◌, ◌≤◌, true, List, [], length, map, refl, sym, ap, ◌∙◌, subst, arith}
use Rattle.std.specs.Str.{IsUtf8}
use Rattle.std.proofs.lemmas.Str.{is_utf8-from_IsUtf8}
use Rattle.hm_base.specs.Bytes.{all_pass}
use Rattle.hm_base.specs.Source.{Source, byte_of, is_text_byte}
use Rattle.hm_base.specs.Walks.{Event}
use Rattle.hm_elements.specs.Settled.{Settled}
use Rattle.hm_refs.specs.Names.{Entry}
use Rattle.hm_refs.specs.Tables.{IsTable}
use Rattle.hm_token_laws.specs.Laws.{IsPlain, SoundNames}
use Rattle.hm_construction_laws.proofs.Built.{what_is_built_is_settled}
use Rattle.hm_construction_laws.specs.Steps.{Stepped, went, stops, step_over, first_state}
use Rattle.hm_construction_laws.specs.Trees.{Outcome, built, refused_by, after_events, stepped, tree_from, tree_of_source}
use Rattle.hm_lexer.specs.Reading.{Reading, text_of}
use Rattle.hm_insertion.specs.Building.{Building, first_building, Fits, IsBuilt, IsRefused}
use Rattle.hm_insertion.specs.declared.fault.BuildFault.{BuildFault}
use Rattle.hm_insertion.specs.declared.fault.BuildFault.TheVariants as faults
use Rattle.hm_insertion.proofs.Events.{grown_is}
use Rattle.hm_build.specs.Parsing.{IsParsing, IsRead, IsWithin, left_tree, place_of, read_of, reads, span_of}
use Rattle.hm_decoder.specs.Pieces.{before_text}
use Rattle.hm_build.proofs.Turns.{IsText, text_long}
use Rattle.hm_build.proofs.Room.{first_within, over_fits, over_stops_there, within_further}

pub end_fits : (r : Reading) (b : Building) → IsText r → IsRead r b → Fits (step_over b.state) b.walk
end_fits r b text k = over_fits (read_of (record r { at = length (text_of r) })) r.source.end b.walk b.state k.within (omega (arith, text.within, text_long r)) text.short

pub end_built : (r : Reading) (b : Building) (tree : List Event) → IsRead r b → IsBuilt (step_over b.state) b.walk tree → left_tree r b ≡ built tree
end_built r b tree k done = by (step_over b.state) refl done
  where
    by : (x : Stepped) → step_over b.state ≡ x → IsBuilt x b.walk tree → left_tree r b ≡ built tree
    by (stops rule n) e i = absurd i
    by (went es st) e i = k.ends ∙ ap (λ x. after_events b.walk (stepped (place_of r.source) (length (text_of r)) x (λ next. built []))) e ∙ ap built (sym (grown_is b.walk es) ∙ sym i)

pub end_inside : (b : Building) (fault : BuildFault) (n : ℕ) → IsRefused (step_over b.state) fault → n + span_of fault ≤ n
end_inside b faults.OutOfMemory n f = omega arith
end_inside b (faults.Rule rule k) n f = let z : k ≡ 0 = over_stops_there b.state rule k f in omega arith

-- what is left of a text is read from its first byte on
pub begins_rest : (t : List Entry) (text : Source) (b : Building) → IsWithin (before_text text) b.walk b.state → IsPlain (map byte_of text.placed) → IsParsing (reads t text) b
begins_rest t text b within plain = record { inside = omega arith; within = within_further (before_text text) (before_text text + 0) b.walk b.state (omega arith) within; plain = plain }

pub begins_within : (text : Source) (b : Building) → b ≡ first_building → IsWithin (before_text text) b.walk b.state
begins_within text b e = subst (λ (x : Building). IsWithin (before_text text) x.walk x.state) (sym e) (within_further 0 (before_text text) [] first_state (omega arith) first_within)

-- before the first token nothing is built
pub first_tree : (t : List Entry) (page : Source) → left_tree (reads t page) first_building ≡ tree_of_source t page
unfolding tree_of_source
first_tree t page = nothing (tree_from t (place_of page) 0 0 first_state (map byte_of page.placed))
  where
    nothing : (o : Outcome) → after_events [] o ≡ o
    nothing (built w) = refl
    nothing (refused_by rule at) = refl

pub from_first : (t : List Entry) (page : Source) (b : Building) → b ≡ first_building → tree_of_source t page ≡ left_tree (reads t page) b
from_first t page b e = sym (ap (left_tree (reads t page)) e ∙ first_tree t page)

pub plain_text : (page : Source) (s : List ℕ) → s ≡ map byte_of page.placed → all_pass is_text_byte s ≡ true → IsUtf8 s → IsPlain (map byte_of page.placed)
plain_text page s is plain utf8 = subst IsPlain is (record { bytes = plain; utf8 = is_utf8-from_IsUtf8 s utf8 })

-- what holds of the names of a table
pub sound_names : (t : List Entry) → IsTable t → SoundNames t
sound_names t h = record { good = h.good; pointed = h.pointed }

pub settled_here : (t : List Entry) (page : Source) (s : List ℕ) (tree : List Event) → IsTable t → s ≡ map byte_of page.placed → all_pass is_text_byte s ≡ true → IsUtf8 s → tree_of_source t page ≡ built tree → Settled tree
settled_here t page s tree h is plain utf8 k = what_is_built_is_settled t page tree (sound_names t h) (plain_text page s is plain utf8) k
