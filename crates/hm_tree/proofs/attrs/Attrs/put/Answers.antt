use Rattle.std.proofs.Common.{◌≡◌, ◌+◌, ◌^◌, ◌<◌, false, ◌++◌, ◌∷◌, [], length, string_bytes, sym, ap, ◌∙◌, refl, arith, length-append}
use Rattle.hm_base.specs.Walks.{Attribute, has_name}
use Rattle.hm_tree.specs.Pairs.{attributes_of}
use Rattle.hm_tree.specs.declared.pieces.Pair.{Pair}
use Rattle.hm_tree.proofs.AttributeLemmas.{has_distinct_names-push}
use Rattle.hm_tree.proofs.PairLemmas.{attributes_of-more, length-pairs, pairs_inside, text_is-more}
use Rattle.hm_tree.proofs.attrs.Attrs.put.Goals as goal

module _ (c : goal.After-append_pair) where
  abbrev a : Attribute
  a = record { name = c.args.name.now; value = c.args.value.now }

  abbrev p : Pair
  p = record {
    from = length (string_bytes c.self.inside.text);
    middle = length (string_bytes c.self.inside.text ++ c.args.name.now);
    to = length ((string_bytes c.self.inside.text ++ c.args.name.now) ++ c.args.value.now);
  }

  whole : string_bytes c.append_pair.new.text ≡ (string_bytes c.self.inside.text ++ c.args.name.now) ++ c.args.value.now
  whole = rw c.make_room.ensures.kept.0 at c.append_pair.ensures.text

  items : c.append_pair.new.pairs.items ≡ c.self.inside.pairs.items ++ p ∷ []
  items = rw (c.make_room.ensures.kept.0, c.make_room.ensures.kept.1) at c.append_pair.ensures.pairs

  more : attributes_of ((string_bytes c.self.inside.text ++ c.args.name.now) ++ c.args.value.now) (c.self.inside.pairs.items ++ p ∷ []) ≡ attributes_of (string_bytes c.self.inside.text) c.self.inside.pairs.items ++ a ∷ []
  more = attributes_of-more (string_bytes c.self.inside.text) c.self.inside.pairs.items c.self.invariant.0.inside a c.utf8.name c.utf8.value p refl refl refl

  fresh : has_name c.args.name.now c.args.self.now ≡ false
  fresh = sym c.has.ensures ∙ c.if-has.false

  few : length c.args.self.now + 1 < 2 ^ 32
  few = c.requires.room fresh

pub invariant_of-self-2 : goal.invariant_of-self-2
invariant_of-self-2 c =
    let s = string_bytes c.self.inside.text in
    let pairs = c.self.inside.pairs.items in
    let inside = c.self.invariant.0.inside in
    rw (whole c, items c) (
      record {
        inside = pairs_inside s pairs inside (a c) c.utf8.name c.utf8.value (p c) refl refl refl;
        text = text_is-more s pairs inside (a c) c.utf8.name c.utf8.value (p c) refl refl refl c.self.invariant.0.text;
        distinct = rw (more c) (has_distinct_names-push (attributes_of s pairs) (a c) c.self.invariant.0.distinct (rw (c.self.view_is) (fresh c)));
        count = omega (arith, few c, ap length c.self.view_is, length-pairs s pairs, length-append pairs (p c ∷ []));
      },
      rw (more c) (c.in_ok-make_room.ensures.ok (a c) refl),
    )

pub returns-clause-after : goal.returns-clause-after
returns-clause-after c = rw (← c.self.view_is, whole c, items c) (more c)
