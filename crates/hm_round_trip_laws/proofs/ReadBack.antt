-- Spellings of settled trees are pages whose trees they are.
use Rattle.std.proofs.Common.{◌≡◌, ℕ, List, [], map, ◌∙◌, ap}
use Rattle.hm_base.specs.Source.{source_of, byte_of, place_in}
use Rattle.hm_base.specs.Walks.{Event}
use Rattle.hm_elements.specs.Settled.{Settled}
use Rattle.hm_elements.proofs.Chain.{settled_page}
use Rattle.hm_refs.specs.Tables.{IsTable}
use Rattle.hm_token_laws.proofs.TextPieces.{names_of_table}
use Rattle.hm_options.specs.Rewrites.{rewrite}
use Rattle.hm_options.proofs.InOrder.{rewrite_settled}
use Rattle.hm_spelling_spec.specs.Spellings.{other, everywhere, SpellsFrom}
use Rattle.hm_spelling_spec.specs.Tags.{Spelling}
use Rattle.hm_round_trip_laws.proofs.Pages.{settled_spellings_have_text}
use Rattle.hm_construction_laws.specs.Trees.{built, tree_of_source, tree_of_text, page_tree, unless_faulty}
use Rattle.hm_construction_laws.proofs.Pages.{pages_are_settled}
use Rattle.hm_round_trip_laws.specs.ReadBack.{SpellingsAreReadBack, TextsAreReadBack, RewrittenIsReadBack}
use Rattle.hm_round_trip_laws.proofs.Ahead.{Sound}
use Rattle.hm_round_trip_laws.proofs.Pieces.{pieces_are_next}
use Rattle.hm_round_trip_laws.proofs.Page.{page_law}

sound : (g : Spelling) → IsTable g.table → Sound g.table
sound g table = record { table = table; names = names_of_table g.table table }

-- the text of a page that is spelled
text_is_read : (g : Spelling) (w : List Event) (b : List ℕ) → IsTable g.table → Settled w → SpellsFrom g other [] w b → tree_of_text g.table b ≡ built w
unfolding tree_of_source
text_is_read g w b table settled sp =
    let page = source_of b in
    page_law g (sound g table) (pieces_are_next g table) w (map byte_of page.placed) other (settled_page w settled) (settled_spellings_have_text g w b table settled sp).1 (place_in page.placed page.end) 0

pub texts_are_read_back : TextsAreReadBack
texts_are_read_back refers t r w b table settled sp = text_is_read (record { table = t; rules = r; refers = refers }) w b table settled sp

pub spellings_are_read_back : SpellingsAreReadBack
unfolding page_tree
spellings_are_read_back refers t r w b table settled sp =
    ap (λ fault. unless_faulty fault (tree_of_text t b)) (settled_spellings_have_text (record { table = t; rules = r; refers = refers }) w b table settled sp).0
    ∙ texts_are_read_back refers t r w b table settled sp

pub rewritten_is_read_back : RewrittenIsReadBack
rewritten_is_read_back t r o page w b table read sp =
    spellings_are_read_back everywhere t r (rewrite o w) b table (rewrite_settled o w (pages_are_settled t page w (names_of_table t table) read)) sp
