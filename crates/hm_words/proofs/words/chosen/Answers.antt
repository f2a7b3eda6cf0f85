use Rattle.hm_words.proofs.Chosen.{first_known, rest_known, rest_chosen}
use Rattle.hm_words.proofs.words.chosen.Goals as goal

pub loop-row-preserved : goal.loop-row-preserved
loop-row-preserved c =
    let rows = c.args.rows.now in
    let i = c.loop-row.row-index in
    record {
      known = rest_known rows i c.loop-row-test.true c.loop-row.invariant.known;
      chosen = λ ws m. rest_chosen ws rows i _ c.is_given.result c.loop-row.choices c.set-choices.result _ c.loop-row-test.true c.set-choices.ensures
          (c.is_given.ensures ws m (first_known rows i _ c.loop-row-test.true c.loop-row.invariant.known)) (c.loop-row.invariant.chosen ws m);
    }
