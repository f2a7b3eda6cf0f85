use Rattle.std.proofs.Common.{Some, ap, sym, ◌∙◌, arith, length}
use Rattle.hm_open_elements.proofs.Elements.{length-path_of}
use Rattle.hm_open_elements.proofs.Kept.{shown_at}
use Rattle.hm_open_elements.proofs.path.Path.name.Goals as goal

pub index-requires : goal.index-requires
index-requires c = omega (arith, c.requires, length-path_of c.self.inside.elements.items, ap length c.self.view_is)

pub returns : goal.returns
returns c =
    rw (← c.self.view_is) (shown_at (λ e. e.name) c.self.inside.elements.items c.args.i c.index.result.now (omega (arith, c.requires, length-path_of c.self.inside.elements.items, ap length c.self.view_is)) c.index.ensures ∙ ap Some (sym c.as_str.ensures))
