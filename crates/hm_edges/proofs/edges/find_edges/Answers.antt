use Rattle.std.proofs.Common.{[], refl}
use Rattle.hm_edges.specs.declared.units.Unit.TheVariants as code
use Rattle.hm_edges.specs.States.{state_of}
use Rattle.hm_edges.specs.Units.{kind_of}
use Rattle.hm_graph_laws.specs.Units as units
use Rattle.hm_edges.proofs.Adding.{adds_one, adds_as}
use Rattle.hm_edges.proofs.Pairs.{by_pair_is}
use Rattle.hm_edges.proofs.Standing.{AddsFor, found, of_fixed, of_start_tag, of_tag_name, of_bare_attribute, of_attribute_name, of_character, of_attribute_end, of_tag_close, of_end_tag}
use Rattle.hm_edges.proofs.edges.find_edges.Goals as goal

pub returns-in-Fixed : goal.returns-in-Fixed
returns-in-Fixed c =
    let f = found c.add.result c.args.table.now c.args.rules c.args.unit (code.Fixed c.in-Fixed.len) c.args.from c.clear.new.self.items c.add.new.into.items c.in-Fixed.is c.clear.ensures.items
    (of_fixed c.args.table.now.entries c.in-Fixed.len (AddsFor c.add.result c.args.table.now c.args.rules (code.Fixed c.in-Fixed.len) c.args.from c.clear.new.self.items c.add.new.into.items) (λ b. adds_one _ _ _ _ _ _ c.add.ensures (record { name = tt; nodes = tt })))
    ((adds_one _ _ (units.fixed []) _ _ _ c.add.ensures (record { name = tt; nodes = tt })).known)
    in record { edges = f.edges; front = f.front; known = f.known }

pub returns-in-StartTag : goal.returns-in-StartTag
returns-in-StartTag c =
    let f = found c.add_start_edges.result c.args.table.now c.args.rules c.args.unit (code.StartTag c.in-StartTag.len c.in-StartTag.omits c.in-StartTag.required_after_omission c.in-StartTag.closes) c.args.from c.clear.new.self.items c.add_start_edges.new.into.items c.in-StartTag.is c.clear.ensures.items
    (of_start_tag c.args.table.now.entries c.in-StartTag.len c.in-StartTag.omits c.in-StartTag.required_after_omission c.in-StartTag.closes (AddsFor c.add_start_edges.result c.args.table.now c.args.rules (code.StartTag c.in-StartTag.len c.in-StartTag.omits c.in-StartTag.required_after_omission c.in-StartTag.closes) c.args.from c.clear.new.self.items c.add_start_edges.new.into.items) (λ n. c.add_start_edges.ensures c.args.table.now n c.requires))
    ((c.add_start_edges.ensures c.args.table.now [] c.requires).known)
    in record { edges = f.edges; front = f.front; known = f.known }

pub returns-in-TagName : goal.returns-in-TagName
returns-in-TagName c =
    let f = found c.add-in-TagName.result c.args.table.now c.args.rules c.args.unit (code.TagName c.in-TagName.len) c.args.from c.clear.new.self.items c.add-in-TagName.new.into.items c.in-TagName.is c.clear.ensures.items
    (of_tag_name c.args.table.now.entries c.in-TagName.len (AddsFor c.add-in-TagName.result c.args.table.now c.args.rules (code.TagName c.in-TagName.len) c.args.from c.clear.new.self.items c.add-in-TagName.new.into.items) (λ n. adds_one _ _ _ _ _ _ c.add-in-TagName.ensures (record { name = tt; nodes = tt })))
    ((adds_one _ _ (units.tag_name []) _ _ _ c.add-in-TagName.ensures (record { name = tt; nodes = tt })).known)
    in record { edges = f.edges; front = f.front; known = f.known }

pub returns-in-BareAttribute : goal.returns-in-BareAttribute
returns-in-BareAttribute c =
    let f = found c.add_bare_edges.result c.args.table.now c.args.rules c.args.unit (code.BareAttribute c.in-BareAttribute.len) c.args.from c.clear.new.self.items c.add_bare_edges.new.into.items c.in-BareAttribute.is c.clear.ensures.items
    (of_bare_attribute c.args.table.now.entries c.in-BareAttribute.len (AddsFor c.add_bare_edges.result c.args.table.now c.args.rules (code.BareAttribute c.in-BareAttribute.len) c.args.from c.clear.new.self.items c.add_bare_edges.new.into.items) (λ n. c.add_bare_edges.ensures c.args.table.now n))
    ((c.add_bare_edges.ensures c.args.table.now []).known)
    in record { edges = f.edges; front = f.front; known = f.known }

pub returns-in-AttributeName : goal.returns-in-AttributeName
returns-in-AttributeName c =
    let f = found c.add_opening_edges.result c.args.table.now c.args.rules c.args.unit (code.AttributeName c.in-AttributeName.len c.in-AttributeName.needs) c.args.from c.clear.new.self.items c.add_opening_edges.new.into.items c.in-AttributeName.is c.clear.ensures.items
    (of_attribute_name c.args.table.now.entries c.in-AttributeName.len c.in-AttributeName.needs (AddsFor c.add_opening_edges.result c.args.table.now c.args.rules (code.AttributeName c.in-AttributeName.len c.in-AttributeName.needs) c.args.from c.clear.new.self.items c.add_opening_edges.new.into.items) (λ n v needs. c.add_opening_edges.ensures c.args.table.now n v))
    ((c.add_opening_edges.ensures c.args.table.now [] []).known)
    in record { edges = f.edges; front = f.front; known = f.known }

pub returns-in-Character : goal.returns-in-Character
returns-in-Character c =
    let f = found c.add_character_edges.result c.args.table.now c.args.rules c.args.unit (code.Character c.in-Character.kind c.in-Character.c c.in-Character.pair c.in-Character.more) c.args.from c.clear.new.self.items c.add_character_edges.new.into.items c.in-Character.is c.clear.ensures.items
    (of_character c.args.table.now.entries c.in-Character.kind c.in-Character.c c.in-Character.pair c.in-Character.more (AddsFor c.add_character_edges.result c.args.table.now c.args.rules (code.Character c.in-Character.kind c.in-Character.c c.in-Character.pair c.in-Character.more) c.args.from c.clear.new.self.items c.add_character_edges.new.into.items) (λ next pair more. adds_as _ _ _ _ _ _ _ (by_pair_is c.args.table.now.entries c.args.rules.ascii (kind_of c.in-Character.kind) c.in-Character.c c.in-Character.pair next (state_of c.args.table.now c.args.from) pair) (c.add_character_edges.ensures.edges (units.character (kind_of c.in-Character.kind) c.in-Character.c next) next refl more)))
    (c.add_character_edges.ensures.known)
    in record { edges = f.edges; front = f.front; known = f.known }

pub returns-in-AttributeEnd : goal.returns-in-AttributeEnd
returns-in-AttributeEnd c =
    let f = found c.add_closing_edges.result c.args.table.now c.args.rules c.args.unit (code.AttributeEnd) c.args.from c.clear.new.self.items c.add_closing_edges.new.into.items c.in-AttributeEnd.is c.clear.ensures.items
    (of_attribute_end c.args.table.now.entries (AddsFor c.add_closing_edges.result c.args.table.now c.args.rules (code.AttributeEnd) c.args.from c.clear.new.self.items c.add_closing_edges.new.into.items) (c.add_closing_edges.ensures))
    (c.add_closing_edges.ensures.known)
    in record { edges = f.edges; front = f.front; known = f.known }

pub returns-in-TagClose : goal.returns-in-TagClose
returns-in-TagClose c =
    let f = found c.add_close_edges.result c.args.table.now c.args.rules c.args.unit (code.TagClose c.in-TagClose.closes) c.args.from c.clear.new.self.items c.add_close_edges.new.into.items c.in-TagClose.is c.clear.ensures.items
    (of_tag_close c.args.table.now.entries c.in-TagClose.closes (AddsFor c.add_close_edges.result c.args.table.now c.args.rules (code.TagClose c.in-TagClose.closes) c.args.from c.clear.new.self.items c.add_close_edges.new.into.items) (c.add_close_edges.ensures c.args.table.now))
    ((c.add_close_edges.ensures c.args.table.now).known)
    in record { edges = f.edges; front = f.front; known = f.known }

pub returns-in-EndTag : goal.returns-in-EndTag
returns-in-EndTag c =
    let f = found c.add_end_edges.result c.args.table.now c.args.rules c.args.unit (code.EndTag c.in-EndTag.len c.in-EndTag.omits c.in-EndTag.notes_omission) c.args.from c.clear.new.self.items c.add_end_edges.new.into.items c.in-EndTag.is c.clear.ensures.items
    (of_end_tag c.args.table.now.entries c.in-EndTag.len c.in-EndTag.omits c.in-EndTag.notes_omission (AddsFor c.add_end_edges.result c.args.table.now c.args.rules (code.EndTag c.in-EndTag.len c.in-EndTag.omits c.in-EndTag.notes_omission) c.args.from c.clear.new.self.items c.add_end_edges.new.into.items) (λ n. c.add_end_edges.ensures c.args.table.now n c.requires))
    ((c.add_end_edges.ensures c.args.table.now [] c.requires).known)
    in record { edges = f.edges; front = f.front; known = f.known }
