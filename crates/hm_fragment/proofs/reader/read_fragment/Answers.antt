use Rattle.std.proofs.Common.{◌∙◌, sym, subst}
use Rattle.hm_build.specs.Parsing.{IsRefusedAs}
use Rattle.hm_fragment.specs.Fragments.{fragment_tree}
use Rattle.hm_fragment.specs.Frames.{unframed}
use Rattle.hm_fragment.proofs.Fragments.{fragments_are_in_body}
use Rattle.hm_fragment.proofs.Reading.{fragment_built, fragment_closed, fragment_refused, text_refused}
use Rattle.hm_fragment.proofs.reader.read_fragment.Goals as goal

pub returns-in-Err-clause-refused : goal.returns-in-Err-clause-refused
returns-in-Err-clause-refused c =
    subst (IsRefusedAs (fragment_tree c.args.table.now.entries (unframed c.args.page.items))) (sym c.refusal-in-Err.ensures)
    (text_refused c.args.table.now.entries c.args.page.items c.refusal.result c.requires.front c.requires.short (c.refusal.ensures c.args.page.items c.in-Err.ensures.refused))

pub returns-in-None-clause-built : goal.returns-in-None-clause-built
returns-in-None-clause-built c =
    fragment_built c.args.table.now.entries c.args.page.items c.in-Ok.text c.in-Ok-parsed.tree c.requires.front c.in-Ok.ensures.sound.sound c.in-Ok.ensures.read (c.in-Ok-parsed.ensures.closed ∙ c.in-None.is) c.in-Ok-parsed.ensures.built

pub returns-in-None-clause-framed : goal.returns-in-None-clause-framed
returns-in-None-clause-framed c =
    (fragments_are_in_body c.args.table.now.entries c.every_table.ensures.names (unframed c.args.page.items) c.in-Ok-parsed.tree
    (fragment_built c.args.table.now.entries c.args.page.items c.in-Ok.text c.in-Ok-parsed.tree c.requires.front c.in-Ok.ensures.sound.sound c.in-Ok.ensures.read (c.in-Ok-parsed.ensures.closed ∙ c.in-None.is) c.in-Ok-parsed.ensures.built)).framed

pub returns-in-Some-clause-refused : goal.returns-in-Some-clause-refused
returns-in-Some-clause-refused c =
    subst (IsRefusedAs (fragment_tree c.args.table.now.entries (unframed c.args.page.items))) (sym c.refusal-in-Some.ensures)
    (fragment_closed c.args.table.now.entries c.args.page.items c.in-Ok.text c.in-Ok-parsed.tree c.in-Some.at c.requires.front c.in-Ok.ensures.sound.sound c.in-Ok.ensures.read (c.in-Ok-parsed.ensures.closed ∙ c.in-Some.is) c.in-Ok-parsed.ensures.built)

pub returns-in-Err-parsed-clause-refused : goal.returns-in-Err-parsed-clause-refused
returns-in-Err-parsed-clause-refused c =
    subst (IsRefusedAs (fragment_tree c.args.table.now.entries (unframed c.args.page.items))) (sym c.refusal-in-Err-parsed.ensures)
    (fragment_refused c.args.table.now.entries c.args.page.items c.in-Ok.text c.in-Err-parsed.refused c.requires.front c.in-Ok.ensures.sound.sound c.in-Ok.ensures.read c.in-Err-parsed.ensures.refused)
