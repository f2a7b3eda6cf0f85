-- How a run ends whose page is loaded to be explained.
use Rattle.std.proofs.Common.{◌≡◌, ◌∙◌, ℕ, List, false, true, refl, sym, ap, ap₂, subst}
use Rattle.std.specs.declared.option.Option.{Option}
use Rattle.hm_base.specs.declared.rules.Rule.{Rule}
use Rattle.hm_store.specs.Contents.{Contents, Sees, Tells}
use Rattle.hm_store.specs.Files.{FileMap, file_of}
use Rattle.hm_words.specs.Words.{Asked, Origin, Work, are_apart, explains, page_at}
use Rattle.hm_minify.specs.Endings.{Ending, IsReadable, asked_ending, is_explained, page_name, refusal, says, store_fault, tree_ending, with_tree}
use Rattle.hm_input.proofs.Loaded.{no_table}
use Rattle.hm_input.specs.Explaining.{IsRefusedWith}
use Rattle.hm_input.specs.Loads.{NoInput, NoTable}
use Rattle.hm_input.specs.declared.unread.InputFault.{InputFault}
use Rattle.hm_input.specs.declared.unread.InputFault.TheVariants as reasons
use Rattle.hm_location.specs.Explanations.{explained, explained_page}
use Rattle.hm_input.specs.Inputs.{Input, IsInput, bad_json, bad_page, bad_table, missing, origin_input}
use Rattle.hm_minify.specs.Wanted.{input_of, wanted}
use Rattle.hm_minify.specs.Lines.{refused_line}
use Rattle.hm_minify.specs.Stops.{IsSaidWithout}
use Rattle.hm_minify.specs.declared.status.Status.TheVariants as status

page_reads : (q : Asked) (table page : List ℕ) (seen : Contents) → q.origin ≡ page_at table page → input_of q seen ≡ wanted q (origin_input (page_at table page) q.options seen)
page_reads q table page seen origin = ap (λ x. wanted q (origin_input x q.options seen)) origin

pub explained_seen : (told : Option FileMap) (q : Asked) (table page bytes : List ℕ) (rule : Rule) (at : ℕ) (ended : Ending) → q.origin ≡ page_at table page → q.work ≡ explains → IsRefusedWith told table page q.options bytes rule at
    → ended ≡ says status.PageRefused (explained_page page bytes rule at) → Sees told (λ seen. (ended ≡ asked_ending q seen) × IsReadable q (input_of q seen))
explained_seen told q table page bytes rule at ended origin work s e =
    let reads : input_of q s.seen ≡ bad_page rule at = page_reads q table page s.seen origin ∙ ap (wanted q) s.holds.0 in
    let said : refusal q.origin q.work s.seen rule at ≡ explained_page page bytes rule at = ap₂ (λ x y. refusal x y s.seen rule at) origin work ∙ ap (λ p. explained page p rule at) s.holds.1 in
    record {
      seen = s.seen;
      are_told = s.are_told;
      holds = (
        e ∙ ap (says status.PageRefused) (sym said) ∙ ap (λ x. with_tree x (refusal q.origin q.work s.seen) (tree_ending (page_name q.origin) q.work q.writing s.seen)) (sym reads),
        subst (IsReadable q) (sym reads) tt,
      );
    }

-- an input without a tree
no_tree_seen : (told : Option FileMap) (q : Asked) (x : Input) (ended : Ending) → IsInput told q.origin q.options x → wanted q x ≡ x → IsReadable q x
    → ((seen : Contents) → ended ≡ with_tree x (refusal q.origin q.work seen) (tree_ending (page_name q.origin) q.work q.writing seen)) → Sees told (λ seen. (ended ≡ asked_ending q seen) × IsReadable q (input_of q seen))
no_tree_seen told q x ended s same readable said =
    let reads : input_of q s.seen ≡ x = ap (wanted q) s.holds ∙ same in
    record {
      seen = s.seen;
      are_told = s.are_told;
      holds = (
        said s.seen ∙ ap (λ y. with_tree y (refusal q.origin q.work s.seen) (tree_ending (page_name q.origin) q.work q.writing s.seen)) (sym reads),
        subst (IsReadable q) (sym reads) readable,
      );
    }

plain_refusal : (origin : Origin) (work : Work) (seen : Contents) (rule : Rule) (at : ℕ) → is_explained origin work ≡ false → refused_line rule at ≡ refusal origin work seen rule at
plain_refusal origin work seen rule at plain = rw plain refl

-- why there is no tree is said, where no page is explained
pub without_tree_seen : (told : Option FileMap) (q : Asked) (unread : InputFault) (ended : Ending) → is_explained q.origin q.work ≡ false → NoInput told q.origin q.options unread → IsSaidWithout unread ended
    → Sees told (λ seen. (ended ≡ asked_ending q seen) × IsReadable q (input_of q seen))
without_tree_seen told q (reasons.Table fault) ended plain why said = no_tree_seen told q (bad_table fault) ended why refl tt (λ seen. said)
without_tree_seen told q (reasons.Page rule at) ended plain why said =
    no_tree_seen told q (bad_page rule at) ended why refl tt (λ seen. said ∙ ap (says status.PageRefused) (plain_refusal q.origin q.work seen rule at plain))
without_tree_seen told q (reasons.Json fault) ended plain why said = no_tree_seen told q (bad_json fault) ended why refl tt (λ seen. said)
without_tree_seen told q reasons.Store ended plain why said = absurd said
without_tree_seen told q reasons.OutOfMemory ended plain why said = absurd said

-- so it is where a page is explained, which then has no table
pub without_table_seen : (told : Option FileMap) (q : Asked) (table page : List ℕ) (unread : InputFault) (ended : Ending) → q.origin ≡ page_at table page → are_apart table page ≡ true → NoTable told table unread → IsSaidWithout unread ended
    → Sees told (λ seen. (ended ≡ asked_ending q seen) × IsReadable q (input_of q seen))
without_table_seen told q table page (reasons.Table fault) ended origin apart why said =
    no_tree_seen told q (bad_table fault) ended (subst (λ o. IsInput told o q.options (bad_table fault)) (sym origin) (no_table told table page q.options (reasons.Table fault) apart why)) refl tt (λ seen. said)
without_table_seen told q table page (reasons.Page rule at) ended origin apart why said = absurd why
without_table_seen told q table page (reasons.Json fault) ended origin apart why said = absurd why
without_table_seen told q table page reasons.Store ended origin apart why said = absurd said
without_table_seen told q table page reasons.OutOfMemory ended origin apart why said = absurd said

pub missing_told : (told : Option FileMap) (q : Asked) (table page : List ℕ) → q.origin ≡ page_at table page → Tells told (λ seen. origin_input (page_at table page) q.options seen ≡ missing) → Tells told (λ seen. asked_ending q seen ≡ store_fault)
missing_told told q table page origin t = record {
  some = t.some;
  holds = ap (λ x. with_tree x (refusal q.origin q.work (file_of told)) (tree_ending (page_name q.origin) q.work q.writing (file_of told))) (page_reads q table page (file_of told) origin ∙ ap (wanted q) t.holds);
}
