-- What the files of a request give it to work on: the tree that is wanted.
use Rattle.std.specs.Prelude.{List, if◌then◌else◌}
use Rattle.hm_base.specs.Walks.{Event}
use Rattle.hm_store.specs.Contents.{Contents}
use Rattle.hm_refs.specs.Names.{Entry}
use Rattle.hm_order.specs.ExchangeLaws.{sparing_plain}
use Rattle.hm_input.specs.Inputs.{Input, missing, bad_table, bad_page, bad_json, tree, origin_input}
use Rattle.hm_order.specs.Orders.{reordered}
use Rattle.hm_words.specs.Words.{Asked}

-- the tree that a request wants, of the rewritten tree: with the flag for it, the attributes of each tag are in the order in which
-- its text is shortest
abbrev pub wanted_tree : Asked → List Entry → List Event → List Event
wanted_tree request t w = if request.writing.order then reordered (sparing_plain t request.writing.rules) w else w

abbrev pub wanted : Asked → Input → Input
wanted request missing = missing
wanted request (bad_table fault) = bad_table fault
wanted request (bad_page rule at) = bad_page rule at
wanted request (bad_json fault) = bad_json fault
wanted request (tree bytes t w) = tree bytes t (wanted_tree request t w)

-- what the files give a request, with the tree as the rewrites leave it
abbrev pub rewritten_of : Asked → Contents → Input
rewritten_of request seen = origin_input request.origin request.options seen

-- what they give it to work on
abbrev pub input_of : Asked → Contents → Input
input_of request seen = wanted request (rewritten_of request seen)
