-- The shortest text of a tree and its certificate are what the headline asks for.
use Rattle.std.proofs.Common.{◌≡◌, ◌∙◌, ℕ, List, refl, subst, sym}
use Rattle.std.specs.declared.result.Result.{Result}
use Rattle.std.specs.declared.result.Result.TheVariants.{Ok, Err}
use Rattle.std.specs.Result.{IfOk}
use Rattle.hm_shortest.specs.Minified.{IsMinifiedBy}
use Rattle.hm_shortest.specs.declared.minify.Minified.{Minified}
use Rattle.hm_base.specs.Walks.{Event}
use Rattle.hm_base.specs.declared.plain.Format.{Format}
use Rattle.hm_base.specs.declared.plain.SpellRules.{SpellRules}
use Rattle.hm_cert.specs.Certificate.{AreRows}
use Rattle.hm_graph_laws.specs.ExchangeLaws.{sparing_plain}
use Rattle.hm_graph_laws.specs.Layers.{first_layer}
use Rattle.hm_graph_laws.specs.Prices.{least_prices}
use Rattle.hm_graph.specs.Graphs.{tree_edges}
use Rattle.hm_spelling_spec.specs.Spellings.{everywhere}
use Rattle.hm_optimality_laws.specs.Formats.{follows_by}
use Rattle.hm_graph_laws.specs.Units.{units_of}
use Rattle.hm_graph_laws.proofs.LeastPrices.{least_feasible}
use Rattle.hm_graph_laws.proofs.WrittenRows.{full_is_least}
use Rattle.hm_round_trip_laws.proofs.ReadBack.{spellings_are_read_back}
use Rattle.hm_optimality_laws.proofs.Best.{first_ways_are_best}
use Rattle.hm_optimality_laws.specs.SpellingLaws.{IsBest}
use Rattle.hm_shortest.specs.Laws.{CertificatesShow, ShortestIsCertified}
use Rattle.hm_shortest.specs.Shortest.{IsShortest, shortest_text, certificate_of, certified_rows}
use Rattle.hm_elements.specs.Settled.{Settled}
use Rattle.hm_refs.specs.Names.{Entry}
use Rattle.hm_refs.specs.Tables.{IsTable}
use Rattle.hm_optimality_laws.proofs.Formats.{prices_show, same_first}

pub shortest_is_certified : ShortestIsCertified
unfolding shortest_text certificate_of
shortest_is_certified t k r format w s readable =
    let best : IsBest t r w (shortest_text t r w) = first_ways_are_best t k r w s in
    record {
      parses = spellings_are_read_back everywhere t r w (shortest_text t r w) k s best.spells;
      spells = best.spells;
      shortest = best.shortest;
      certified = record {
        rows = certified_rows t r format w;
        writable = readable;
        text = refl;
        prices = least_prices (tree_edges t r format) (units_of r w) first_layer;
        full = full_is_least (tree_edges t r format) (follows_by format (tree_edges t r format)) 0 (units_of r w) first_layer;
        feasible = least_feasible (tree_edges t r format) (units_of r w) first_layer;
        first = same_first t k r format w ∙ best.price;
      };
    }

-- so is what is made of a settled tree
pub made_is_shortest : (t : List Entry) → IsTable t → (r : SpellRules) (format : Format) (w : List Event) → Settled w → AreRows (certified_rows t r format w) → (out cert : List ℕ)
    → out ≡ shortest_text t r w → cert ≡ certificate_of t r format w → IsShortest t r format w out cert
made_is_shortest t k r format w s readable out cert is_out is_cert =
    subst (λ o. IsShortest t r format w o cert) (sym is_out) (subst (IsShortest t r format w (shortest_text t r w)) (sym is_cert) (shortest_is_certified t k r format w s readable))

-- where there is an answer, whatever gave it
pub shown : {E : Type 0} (t : List Entry) → IsTable t → (r : SpellRules) (format : Format) (w : List Event) (result : Result Minified E) → IfOk result (IsMinifiedBy t r format w) → IfOk result (λ made. Settled w → AreRows (certified_rows t r format w))
    → IfOk result (λ made. Settled w → IsShortest t r format w made.out.items made.certificate.items)
shown t k r format w (Ok made) is readable = λ s. made_is_shortest t k r format w s (readable s) made.out.items made.certificate.items is.out is.certificate
shown t k r format w (Err e) is readable = tt

-- whatever made a certificate, its prices show a bound
pub certificates_show : CertificatesShow
certificates_show t k r format w s cert n c = prices_show t k r format w s c.prices n c.feasible c.first
