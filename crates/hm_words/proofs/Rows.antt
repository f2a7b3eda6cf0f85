-- Rows of matches, by the id of their argument.
use Rattle.std.proofs.Common.{◌≡◌, ◌∙◌, ◌++◌, ◌||◌, Bool, cond, true, false, refl, ap, List, [], ◌∷◌, Option, Some, None}
use Rattle.std.specs.List.{find}
use Rattle.std.specs.Option.{option_map, unwrap_or, is_some}
use Rattle.std.specs.Str.{bytes_eq}
use Rattle.clap.specs.Walk.{Row, Text, has_row, with_values, without}
use Rattle.clap.specs.declared.builder.value_parser.Reading.{Reading}
use Rattle.clap.specs.declared.parser.matches.ValueSource.{ValueSource}
use Rattle.hm_elements.proofs.TableTools.{eq_self, same_bytes}

-- the first row of this id
abbrev pub row_at : Text → List Row → Option Row
row_at id rows = find (λ r. bytes_eq r.id id) rows

-- the values of this id
abbrev pub values_in : Option Row → List Text
values_in r = unwrap_or (option_map (λ r. r.values) r) []

abbrev pub values_at : Text → List Row → List Text
values_at id rows = values_in (row_at id rows)

abbrev pub new_row : Text → Reading → ValueSource → List Text → Row
new_row id how s values = record { id = id; values = values; count = None; source = Some s; reading = how }

pub has_row_is : (id : Text) (rows : List Row) → has_row id rows ≡ is_some (row_at id rows)
has_row_is id [] = refl
has_row_is id (r ∷ rows) = by_test (bytes_eq r.id id) (has_row_is id rows)
  where
    by_test : (b : Bool) → has_row id rows ≡ is_some (row_at id rows) → (b || has_row id rows) ≡ is_some (cond b (Some r) (row_at id rows))
    by_test true e = refl
    by_test false e = e

-- an id that has no row gets one
pub row_is_new : (id : Text) (how : Reading) (s : ValueSource) (values : List Text) (rows : List Row) → row_at id rows ≡ None
    → row_at id (with_values id how s values rows) ≡ Some (new_row id how s values)
row_is_new id how s values [] e = rw (eq_self id) refl
row_is_new id how s values (r ∷ rows) e = by_test (bytes_eq r.id id) refl (row_is_new id how s values rows)
  where
    by_test : (b : Bool) → bytes_eq r.id id ≡ b → (row_at id rows ≡ None → row_at id (with_values id how s values rows) ≡ Some (new_row id how s values))
        → row_at id (with_values id how s values (r ∷ rows)) ≡ Some (new_row id how s values)
    by_test true t more = let h : Some r ≡ None = rw t at e in absurd (cc)
    by_test false t more = let h : row_at id rows ≡ None = rw t at e in rw (t, t) (more h)

-- another id keeps its row
pub other_row : (id other : Text) (how : Reading) (s : ValueSource) (values : List Text) (rows : List Row) → bytes_eq other id ≡ false
    → row_at id (with_values other how s values rows) ≡ row_at id rows
other_row id other how s values [] e = rw e refl
other_row id other how s values (r ∷ rows) e = by_test (bytes_eq r.id other) refl (other_row id other how s values rows e)
  where
    by_test : (b : Bool) → bytes_eq r.id other ≡ b → row_at id (with_values other how s values rows) ≡ row_at id rows
        → row_at id (with_values other how s values (r ∷ rows)) ≡ row_at id (r ∷ rows)
    by_test true t more = let miss : bytes_eq r.id id ≡ false = ap (λ x. bytes_eq x id) (same_bytes r.id other t) ∙ e in rw (t, miss) refl
    by_test false t more = rw t (ap (cond (bytes_eq r.id id) (Some r)) more)

pub other_left : (id other : Text) (rows : List Row) → bytes_eq other id ≡ false → row_at id (without other rows) ≡ row_at id rows
other_left id other [] e = refl
other_left id other (r ∷ rows) e = by_test (bytes_eq r.id other) refl (other_left id other rows e)
  where
    by_test : (b : Bool) → bytes_eq r.id other ≡ b → row_at id (without other rows) ≡ row_at id rows → row_at id (without other (r ∷ rows)) ≡ row_at id (r ∷ rows)
    by_test true t more = let miss : bytes_eq r.id id ≡ false = ap (λ x. bytes_eq x id) (same_bytes r.id other t) ∙ e in rw (t, miss) refl
    by_test false t more = rw t (ap (cond (bytes_eq r.id id) (Some r)) more)

-- nothing goes where the id has no row
pub none_left : (id : Text) (rows : List Row) → row_at id rows ≡ None → without id rows ≡ rows
none_left id [] e = refl
none_left id (r ∷ rows) e = by_test (bytes_eq r.id id) refl (none_left id rows)
  where
    by_test : (b : Bool) → bytes_eq r.id id ≡ b → (row_at id rows ≡ None → without id rows ≡ rows) → without id (r ∷ rows) ≡ r ∷ rows
    by_test true t more = let h : Some r ≡ None = rw t at e in absurd (cc)
    by_test false t more = let h : row_at id rows ≡ None = rw t at e in rw t (ap (λ x. r ∷ x) (more h))

-- the values of an id join those that it has
pub values_join : (id : Text) (how : Reading) (s : ValueSource) (values : List Text) (rows : List Row) → values_at id (with_values id how s values rows) ≡ values_at id rows ++ values
values_join id how s values [] = rw (eq_self id) refl
values_join id how s values (r ∷ rows) = by_test (bytes_eq r.id id) refl (values_join id how s values rows)
  where
    by_test : (b : Bool) → bytes_eq r.id id ≡ b → values_at id (with_values id how s values rows) ≡ values_at id rows ++ values
        → values_at id (with_values id how s values (r ∷ rows)) ≡ values_at id (r ∷ rows) ++ values
    by_test true t more = rw (t, t) refl
    by_test false t more = rw (t, t) more
