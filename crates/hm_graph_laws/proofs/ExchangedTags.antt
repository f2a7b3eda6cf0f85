-- Start tags whose values are respelled.
use Rattle.std.proofs.Common.{◌≡◌, ℕ, ◌+◌, ◌≤◌, Bool, true, ◌&&◌, List, [], ◌∷◌, ◌++◌, length, refl, ap, sym, subst, ◌∙◌, inl, arith, length-append, chars}
use Rattle.hm_base.specs.Walks.{Attribute}
use Rattle.hm_markup_spec.specs.Gaps.{is_gap}
use Rattle.hm_markup_spec.specs.Tags.{bare, double, Quoting, IsAssigned, parts_slash, single, tag_end, unquoted, WritesAttributes}
use Rattle.hm_refs.specs.Names.{Entry}
use Rattle.hm_refs.specs.Tables.{first, IsIn, IsTable, later}
use Rattle.hm_spelling_spec.specs.Characters as spots
use Rattle.hm_spelling_spec.specs.Characters.{is_value, Spot}
use Rattle.hm_spelling_spec.specs.Tags.{character_rules, IsBareValue, IsQuotedValue, Spelling, SpellsStart, SpellsValue}
use Rattle.hm_graph_laws.specs.PendingLaws.{closing_bytes}
use Rattle.hm_graph_laws.specs.ExchangeLaws.{needs_reference}
use Rattle.hm_graph_laws.specs.Steps.{keeps}
use Rattle.hm_graph_laws.proofs.Closing.{closing_law}
use Rattle.hm_graph_laws.proofs.ValueEnds.{attributes_close, Closes, end_closes}
use Rattle.hm_graph_laws.proofs.Gives.{Gives, Keeps}
use Rattle.hm_graph_laws.proofs.ExchangedTexts.{text_new}

-- the same spelling without references at plain characters
abbrev pub saved : Spelling → Spelling
saved g = record { table = g.table; rules = g.rules; refers = needs_reference g.table }

-- ---- values

-- what closes a value gives all that another one gives
closings_give : (t : List Entry) → IsTable t → (x y : List ℕ) → Closes x → Closes y → length y ≤ length x → Gives t true x y
closings_give t k x y c d le = record { le = le; good = inl all }
  where
    all : Keeps t true x y
    all spot p v f h = subst (λ w. keeps t spot p w ≡ true) (sym d.is) (closing_law t k spot p d.byte d.rest v d.among f ∙ sym (closing_law t k spot p c.byte c.rest v c.among f) ∙ subst (λ w. keeps t spot p w ≡ true) c.is h)

record Reassigned (w b : List ℕ) (n : ℕ) : Type 0 where
  bytes : List ℕ
  is : IsAssigned w bytes
  len : length bytes + n ≡ length b + length w

reassigned : (v w b : List ℕ) → IsAssigned v b → Reassigned w b (length v)
reassigned v w b a = record {
  bytes = a.left ++ 61 ∷ (a.right ++ w);
  is = record { left = a.left; right = a.right; is = refl; left_blank = a.left_blank; right_blank = a.right_blank };
  len = omega (arith, ap length a.is, length-append a.left (61 ∷ (a.right ++ w)), length-append a.left (61 ∷ (a.right ++ v)), length-append a.right w, length-append a.right v);
}

-- a value that is respelled before other bytes
record ValueNew (g : Spelling) (form : Quoting) (value b x y : List ℕ) : Type 0 where
  bytes : List ℕ
  spells : SpellsValue (saved g) form value bytes y
  le : length bytes + length y ≤ length b + length x

-- both close a value
abbrev BothClose : List ℕ → List ℕ → Type 0
BothClose x y = Closes x × Closes y

module _ (g : Spelling) (table : IsTable g.table) where
  bare_new : (value b x y : List ℕ) → IsBareValue g value b x → BothClose x y → length y ≤ length x → ValueNew g unquoted value b x y
  bare_new value b x y v ends le =
      let n = text_new g.table table (character_rules g) spots.unquoted (chars value) v.written x y v.spells (closings_give g.table table x y ends.0 ends.1 le) in
      let a = reassigned v.written n.bytes b v.is in
      record {
        bytes = a.bytes;
        spells = record { written = n.bytes; is = a.is; allowed = v.allowed; some = v.some; spells = n.spells };
        le = omega (arith, a.len, n.gives.le, length-append n.bytes y, length-append v.written x);
      }

  quoted_new : (spot : Spot) (quote : ℕ) (value b x y : List ℕ) → is_value spot ≡ true → IsIn quote closing_bytes → IsQuotedValue g spot quote value b x → length y ≤ length x
      → (bytes : List ℕ) × IsQuotedValue (saved g) spot quote value bytes y × (length bytes + length y ≤ length b + length x)
  quoted_new spot quote value b x y v q w le =
      let closed : (s : List ℕ) → Closes (quote ∷ s) = λ s. record { byte = quote; rest = s; is = refl; among = q } in
      let gives = subst (λ c. Gives g.table c (quote ∷ x) (quote ∷ y)) (sym v) (closings_give g.table table (quote ∷ x) (quote ∷ y) (closed x) (closed y) (omega (arith, le))) in
      let n = text_new g.table table (character_rules g) spot (chars value) w.written (quote ∷ x) (quote ∷ y) w.spells gives in
      let a = reassigned (quote ∷ (w.written ++ quote ∷ [])) (quote ∷ (n.bytes ++ quote ∷ [])) b w.is in (
        a.bytes,
        record { written = n.bytes; is = a.is; spells = n.spells },
        omega (arith, a.len, n.gives.le, length-append n.bytes (quote ∷ y), length-append w.written (quote ∷ x), length-append n.bytes (quote ∷ []), length-append w.written (quote ∷ [])),
      )

  value_new : (form : Quoting) (value b x y : List ℕ) → SpellsValue g form value b x → (form ≡ unquoted → BothClose x y) → length y ≤ length x → ValueNew g form value b x y
  value_new bare value b x y (none, is) ends le = record { bytes = []; spells = (none, refl); le = omega (arith, le) }
  value_new unquoted value b x y v ends le = bare_new value b x y v (ends refl) le
  value_new double value b x y v ends le = let (bytes, s, short) = quoted_new spots.double 34 value b x y refl (first _) v le in record { bytes = bytes; spells = s; le = short }
  value_new single value b x y v ends le = let (bytes, s, short) = quoted_new spots.single 39 value b x y refl (later 34 _ (first _)) v le in record { bytes = bytes; spells = s; le = short }

  -- ---- attributes

  record AttributesNew (touching : Bool) (before last : Quoting) (attributes : List Attribute) (b x y : List ℕ) : Type 0 where
    bytes : List ℕ
    writes : WritesAttributes (SpellsValue (saved g)) touching before last attributes bytes y
    le : length bytes + length y ≤ length b + length x

  attributes_new : (touching : Bool) (before last : Quoting) (attributes : List Attribute) (b x y : List ℕ) → WritesAttributes (SpellsValue g) touching before last attributes b x → (last ≡ unquoted → BothClose x y) → length y ≤ length x
      → AttributesNew touching before last attributes b x y
  attributes_new touching before last [] b x y (e, is) ends le = record { bytes = []; writes = (e, refl); le = omega (arith, le) }
  attributes_new touching before last (a ∷ attributes) b x y (form, piece, rest, is, one, more) ends le =
      let m = attributes_new touching form last attributes rest x y more ends le in
      let v = value_new form a.value one.value (rest ++ x) (m.bytes ++ y) one.assigned
      (λ u. (
        attributes_close g touching last attributes rest x (subst (λ f. WritesAttributes (SpellsValue g) touching f last attributes rest x) u more) (λ l. (ends l).0),
        attributes_close (saved g) touching last attributes m.bytes y (subst (λ f. WritesAttributes (SpellsValue (saved g)) touching f last attributes m.bytes y) u m.writes) (λ l. (ends l).1),
      ))
      (omega (arith, m.le, length-append rest x, length-append m.bytes y)) in
      let p = one.gap ++ (one.name ++ v.bytes) in
      record {
        bytes = p ++ m.bytes;
        writes = (form, p, m.bytes, refl, record { gap = one.gap; name = one.name; value = v.bytes; is = refl; apart = one.apart; lowered = one.lowered; assigned = v.spells }, m.writes);
        le = omega (
          arith,
          v.le,
          m.le,
          ap length is,
          ap length one.is,
          length-append piece rest,
          length-append one.gap (one.name ++ one.value),
          length-append one.name one.value,
          length-append p m.bytes,
          length-append one.gap (one.name ++ v.bytes),
          length-append one.name v.bytes,
          length-append rest x,
          length-append m.bytes y,
        );
      }

-- ---- tags

-- a start tag that is respelled before other bytes
pub record StartNew (g : Spelling) (name : List ℕ) (attributes : List Attribute) (slash : Bool) (b x y : List ℕ) : Type 0 where
  pub inner : List ℕ
  pub spells : SpellsStart (saved g) name attributes slash (60 ∷ inner) y
  pub le : length (60 ∷ inner) + length y ≤ length b + length x

pub start_new : (g : Spelling) → IsTable g.table → (name : List ℕ) (attributes : List Attribute) (slash : Bool) (b x y : List ℕ) → SpellsStart g name attributes slash b x → length y ≤ length x → StartNew g name attributes slash b x y
start_new g table name attributes slash b x y s le =
    let apart : s.last ≡ unquoted → is_gap (slash && true) s.gap ≡ true = λ u. subst (λ f. is_gap (slash && parts_slash f) s.gap ≡ true) u s.apart in
    let m = attributes_new g table g.rules.tight bare s.last attributes s.middle (s.gap ++ (tag_end slash ++ x)) (s.gap ++ (tag_end slash ++ y)) s.attributed
    (λ u. (end_closes slash s.gap x (apart u), end_closes slash s.gap y (apart u)))
    (omega (arith, le, length-append s.gap (tag_end slash ++ x), length-append s.gap (tag_end slash ++ y), length-append (tag_end slash) x, length-append (tag_end slash) y)) in
    record {
      inner = s.written ++ (m.bytes ++ (s.gap ++ tag_end slash));
      spells = record { written = s.written; last = s.last; middle = m.bytes; gap = s.gap; is = refl; lowered = s.lowered; attributed = m.writes; apart = s.apart };
      le = omega (
        arith,
        m.le,
        ap length s.is,
        length-append s.gap (tag_end slash ++ x),
        length-append s.gap (tag_end slash ++ y),
        length-append (tag_end slash) x,
        length-append (tag_end slash) y,
        length-append s.written (s.middle ++ (s.gap ++ tag_end slash)),
        length-append s.middle (s.gap ++ tag_end slash),
        length-append s.gap (tag_end slash),
        length-append s.written (m.bytes ++ (s.gap ++ tag_end slash)),
        length-append m.bytes (s.gap ++ tag_end slash),
      );
    }
