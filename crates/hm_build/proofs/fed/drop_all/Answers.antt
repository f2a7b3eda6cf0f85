use Rattle.std.proofs.Common.{◌≡◌, ◌++◌, length, take, ap, subst, arith}
use Rattle.std.proofs.lemmas.List.{take_all}
use Rattle.hm_base.specs.Source.{Source}
use Rattle.hm_decoder.specs.Pieces.{HasFed}
use Rattle.hm_build.proofs.fed.drop_all.Goals as goal

pub returns-clause-fed : goal.returns-clause-fed
returns-clause-fed c = λ gone fed h.
    let all : take (length c.text.result.now) c.args.text.now.source.placed ≡ c.args.text.now.source.placed = take_all (length c.text.result.now) c.args.text.now.source.placed (omega (arith, c.text.ensures.len, ap (λ (v : Source). length v.placed) c.source.ensures)) in
    subst (λ l. HasFed c.drop_front.new.self (gone ++ l) fed) all (c.drop_front.ensures.fed gone fed h)
