use Rattle.std.proofs.Common.{sym, subst}
use Rattle.hm_construction_laws.specs.Steps.{Stepped}
use Rattle.hm_insertion.specs.Building.{Fits}
use Rattle.hm_insertion.specs.Inside.{Takes}
use Rattle.hm_insertion.proofs.BeforeBody.{noscript_alone, head_alone, noscript_step}
use Rattle.hm_insertion.proofs.parts.Parts.start_before_body.Goals as goal

pub start_in_noscript-requires-clause-insertion_mode : goal.start_in_noscript-requires-clause-insertion_mode
start_in_noscript-requires-clause-insertion_mode c =
    noscript_alone c.args.self.now.insertion_mode c.args.self.now.path c.in-InHead.noscript c.in-InHead.text c.in-InHead.is c.if-noscript.true c.requires.not_text

pub start_in_noscript-requires-clause-room : goal.start_in_noscript-requires-clause-room
start_in_noscript-requires-clause-room c =
    let p = c.args.self.now in
    let alone = noscript_alone p.insertion_mode p.path c.in-InHead.noscript c.in-InHead.text c.in-InHead.is c.if-noscript.true c.requires.not_text in
    subst (λ s. Fits s p.maker) (noscript_step p c.args.name.now c.args.attrs.now c.args.slash alone) c.requires.room

pub start_in_head-requires-clause-takes : goal.start_in_head-requires-clause-takes
start_in_head-requires-clause-takes c =
    head_alone c.args.self.now.insertion_mode c.args.self.now.path c.in-InHead.noscript c.in-InHead.text c.in-InHead.is c.if-noscript.false c.requires.not_text

pub returns-then-noscript : goal.returns-then-noscript
returns-then-noscript c =
    let p = c.args.self.now in
    let alone = noscript_alone p.insertion_mode p.path c.in-InHead.noscript c.in-InHead.text c.in-InHead.is c.if-noscript.true c.requires.not_text in
    subst (λ (s : Stepped). Takes s c.start_in_noscript.result p c.start_in_noscript.new.self)
    (sym (noscript_step p c.args.name.now c.args.attrs.now c.args.slash alone)) c.start_in_noscript.ensures
