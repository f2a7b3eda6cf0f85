use Rattle.std.proofs.Common.{◌≡◌, sym, ap, ◌∙◌, arith, true, false, inl, inr}
use Rattle.hm_elements.specs.Settled.{is_all_there}
use Rattle.hm_json_tree.specs.Reading.{walk, some_open}
use Rattle.hm_json_tree.specs.Seen.{top_of}
use Rattle.hm_json_tree.proofs.Taken.{ends_open, ends_whole, ends_early}
use Rattle.hm_json_tree.proofs.reader.Reader.finish.Goals as goal

pub returns-then-open-gt0-clause-fault : goal.returns-then-open-gt0-clause-fault
returns-then-open-gt0-clause-fault c = λ _. ends_open c.args.self.maker c.args.self.path (omega (arith, c.len-open.ensures, c.if-open-gt0.true)) ∙ ap some_open (sym c.len-open.ensures)

pub returns-in-AllThere-clause-ok : goal.returns-in-AllThere-clause-ok
returns-in-AllThere-clause-ok c =
    let at = c.requires in
    let all : is_all_there at.past.top ≡ true = ap is_all_there (sym at.seen.top) ∙ ap (λ t. is_all_there (top_of t)) c.in-AllThere.is in
    ends_whole c.args.self at (omega (arith, c.len-open.ensures, c.if-open-gt0.false)) all ∙ ap walk (sym c.finish.ensures)

pub returns-in-NoDoctype : goal.returns-in-NoDoctype
returns-in-NoDoctype c =
    let at = c.requires in
    let all : is_all_there at.past.top ≡ false = ap is_all_there (sym at.seen.top) ∙ elim c.in-NoDoctype.is [ inl e ↦ ap (λ t. is_all_there (top_of t)) e | inr e ↦ ap (λ t. is_all_there (top_of t)) e ] in
    record { ok = tt; fault = λ _. ends_early c.args.self at (omega (arith, c.len-open.ensures, c.if-open-gt0.false)) all }
