use Rattle.std.proofs.Common.{refl, rules}
use Rattle.hm_input.proofs.Loaded.{is_loaded, json_of_bytes, of_slice, walk_of_bytes}
use Rattle.hm_input.proofs.loads.load_json.Goals as goal

pub returns-in-Ok-clause-ok : goal.returns-in-Ok-clause-ok
returns-in-Ok-clause-ok g c = walk_of_bytes _ c.args.name.now c.as_slice.result.now _ _ (of_slice _ c.args.name.now _ c.in_ok-json.json.items c.as_slice.result.now c.as_slice.ensures.value
    (is_loaded _ c.args.name.now _ c.in_ok-json.json.items c.in_ok-json.ensures.loaded c.in_ok-json.ensures.within (c.in_ok-json.ensures.there refl))) (search rules) c.in-Ok.ensures.tree

pub returns-clause-err : goal.returns-clause-err
returns-clause-err g c = c.unread_json.ensures.reason _ c.args.name.now (λ n. json_of_bytes _ c.args.name.now c.as_slice.result.now _ (of_slice _ c.args.name.now _ c.in_ok-json.json.items c.as_slice.result.now c.as_slice.ensures.value
    (is_loaded _ c.args.name.now _ c.in_ok-json.json.items c.in_ok-json.ensures.loaded c.in_ok-json.ensures.within (c.in_ok-json.ensures.there refl))) n c.in-Err.ensures.fault)
