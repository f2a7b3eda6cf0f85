-- Rows with the defaults of the arguments that weren't used.
use Rattle.std.proofs.Common.{◌≡◌, ◌∙◌, ◌||◌, not, Bool, true, false, refl, ap, List, [], ◌∷◌, Option, Some, None, length, eqb-true, arith}
use Rattle.std.specs.List.{find, fold, list_all}
use Rattle.std.specs.Option.{option_map, unwrap_or, is_some}
use Rattle.std.specs.Str.{bytes_eq}
use Rattle.clap.specs.Walk.{Row, Rule, Text, has_row, with_default, default_rows, reading_by, is_empty}
use Rattle.clap.specs.declared.builder.value_parser.Reading.{Reading}
use Rattle.clap.specs.declared.parser.matches.ValueSource.TheVariants.{DefaultValue}
use Rattle.hm_base.proofs.Bytes.{first_true, second_true}
use Rattle.hm_elements.proofs.TableTools.{same_bytes}
use Rattle.hm_words.proofs.Rows.{row_at, new_row, has_row_is, row_is_new, other_row}

-- the default values leave the rows of other ids
others_stay : (id other : Text) (how : Reading) (values : List Text) (rows : List Row) → bytes_eq other id ≡ false → row_at id (default_rows other how values rows) ≡ row_at id rows
others_stay id other how [] rows e = refl
others_stay id other how (v ∷ vs) rows e = other_row id other how DefaultValue (v ∷ vs) rows e

other_default : (id : Text) (a : Rule) (rows : List Row) → bytes_eq a.id id ≡ false → row_at id (with_default rows a) ≡ row_at id rows
other_default id a rows e = by_test (has_row a.id rows) refl
  where
    by_test : (b : Bool) → has_row a.id rows ≡ b → row_at id (with_default rows a) ≡ row_at id rows
    by_test true t = rw t refl
    by_test false t = rw t (others_stay id a.id (reading_by a) a.defaults rows e)

-- an id that has a row keeps it
default_kept : (id : Text) (a : Rule) (r : Row) (rows : List Row) → row_at id rows ≡ Some r → row_at id (with_default rows a) ≡ row_at id rows
default_kept id a r rows e = by_test (bytes_eq a.id id) refl
  where
    by_test : (b : Bool) → bytes_eq a.id id ≡ b → row_at id (with_default rows a) ≡ row_at id rows
    by_test true t =
        let there : has_row a.id rows ≡ true = ap (λ x. has_row x rows) (same_bytes a.id id t) ∙ has_row_is id rows ∙ ap is_some e in
        rw there refl
    by_test false t = other_default id a rows t

pub row_kept : (id : Text) (rules : List Rule) (r : Row) (rows : List Row) → row_at id rows ≡ Some r → row_at id (fold with_default rows rules) ≡ Some r
row_kept id [] r rows e = e
row_kept id (a ∷ rules) r rows e = row_kept id rules r (with_default rows a) (default_kept id a r rows e ∙ e)

-- an id whose arguments have no default stays as it is
pub no_default : (id : Text) (rules : List Rule) (rows : List Row) → list_all (λ a. not (bytes_eq a.id id) || is_empty a.defaults) rules ≡ true
    → row_at id (fold with_default rows rules) ≡ row_at id rows
no_default id [] rows e = refl
no_default id (a ∷ rules) rows e = no_default id rules (with_default rows a) (second_true _ _ e) ∙ by_test (bytes_eq a.id id) refl (first_true _ _ e)
  where
    nothing : (values : List Text) (how : Reading) → is_empty values ≡ true → default_rows a.id how values rows ≡ rows
    nothing [] how h = refl
    nothing (v ∷ vs) how h = let none = eqb-true (length (v ∷ vs)) 0 h in absurd (omega arith)

    unchanged : (b : Bool) → has_row a.id rows ≡ b → is_empty a.defaults ≡ true → with_default rows a ≡ rows
    unchanged true t h = rw t refl
    unchanged false t h = rw t (nothing a.defaults (reading_by a) h)

    by_test : (b : Bool) → bytes_eq a.id id ≡ b → (not (bytes_eq a.id id) || is_empty a.defaults) ≡ true → row_at id (with_default rows a) ≡ row_at id rows
    by_test true t h = let empty : is_empty a.defaults ≡ true = rw t at h in ap (row_at id) (unchanged (has_row a.id rows) refl empty)
    by_test false t h = other_default id a rows t

-- the default values of the first argument with this id, and how they are read
abbrev pub default_of : Text → List Rule → Option (List Text × Reading)
default_of id rules = option_map (λ a. (a.defaults, reading_by a)) (find (λ a. bytes_eq a.id id) rules)

-- an id without a row gets one of the default values
pub row_by_default : (id : Text) (rules : List Rule) (v : Text) (vs : List Text) (how : Reading) (rows : List Row) → default_of id rules ≡ Some (v ∷ vs, how) → row_at id rows ≡ None
    → row_at id (fold with_default rows rules) ≡ Some (new_row id how DefaultValue (v ∷ vs))
row_by_default id [] v vs how rows e none = absurd (cc)
row_by_default id (a ∷ rules) v vs how rows e none = by_test (bytes_eq a.id id) refl (row_by_default id rules v vs how (with_default rows a))
  where
    added : bytes_eq a.id id ≡ true → row_at id (with_default rows a) ≡ Some (new_row id how DefaultValue (v ∷ vs))
    added t =
        let gives : Some (a.defaults, reading_by a) ≡ Some (v ∷ vs, how) = rw t at e in
        let is : (a.defaults, reading_by a) ≡ (v ∷ vs, how) = ap (λ o. unwrap_or o (v ∷ vs, how)) gives in
        let missing : has_row a.id rows ≡ false = ap (λ x. has_row x rows) (same_bytes a.id id t) ∙ has_row_is id rows ∙ ap is_some none in
        rw missing (ap (λ (x : List Text × Reading). row_at id (default_rows a.id x.1 x.0 rows)) is ∙ ap (λ x. row_at id (default_rows x how (v ∷ vs) rows)) (same_bytes a.id id t)
        ∙ row_is_new id how DefaultValue (v ∷ vs) rows none)

    by_test : (b : Bool) → bytes_eq a.id id ≡ b
        → (default_of id rules ≡ Some (v ∷ vs, how) → row_at id (with_default rows a) ≡ None → row_at id (fold with_default (with_default rows a) rules) ≡ Some (new_row id how DefaultValue (v ∷ vs)))
        → row_at id (fold with_default (with_default rows a) rules) ≡ Some (new_row id how DefaultValue (v ∷ vs))
    by_test true t more = row_kept id rules (new_row id how DefaultValue (v ∷ vs)) (with_default rows a) (added t)
    by_test false t more = more (rw t at e) (other_default id a rows t ∙ none)
