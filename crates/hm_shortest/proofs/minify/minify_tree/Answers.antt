use Rattle.hm_shortest.proofs.Headline.{shown}
use Rattle.hm_shortest.proofs.minify.minify_tree.Goals as goal

pub returns-clause-shortest : goal.returns-clause-shortest
returns-clause-shortest c = shown c.args.table.now.entries c.every_table.ensures.names c.args.rules c.args.format c.args.tree.now c.write_shortest.result c.write_shortest.ensures.made c.write_shortest.ensures.readable
