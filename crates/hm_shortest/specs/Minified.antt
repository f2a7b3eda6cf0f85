-- What the code makes of a tree.
use Rattle.std.specs.Prelude.{◌≡◌, List}
use Rattle.hm_base.specs.Walks.{Event}
use Rattle.hm_base.specs.declared.plain.SpellRules.{SpellRules}
use Rattle.hm_base.specs.declared.plain.Format.{Format}
use Rattle.hm_refs.specs.Names.{Entry}
use Rattle.hm_shortest.specs.Shortest.{certificate_of, layer_count, shortest_text}
use Rattle.hm_shortest.specs.declared.minify.Minified.{Minified}

pub record IsMinifiedBy (t : List Entry) (r : SpellRules) (format : Format) (w : List Event) (made : Minified) : Type 0 where
  pub out : made.out.items ≡ shortest_text t r w
  pub certificate : made.certificate.items ≡ certificate_of t r format w
  pub layers : made.layers ≡ layer_count r w
