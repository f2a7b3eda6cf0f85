-- The walk over words that may be read.
use Rattle.std.proofs.Common.{◌≡◌, ◌||◌, ◌==◌, ℕ, Bool, true, false, true≢false, refl, sym, ap, ◌∙◌, subst, List, [], ◌∷◌, Option, Some, None, codes, drop}
use Rattle.std.specs.Str.{bytes_eq}
use Rattle.clap.specs.Walk.{Row, Rule, Text, Walk, Waiting, idle, positional, with_values, without, walked}
use Rattle.clap.specs.Simple.{built}
use Rattle.clap.specs.Lexer.{long_of, short_of}
use Rattle.clap.specs.declared.builder.value_parser.Reading.TheVariants.{AsWritten}
use Rattle.clap.specs.declared.parser.matches.ValueSource.TheVariants.{CommandLine}
use Rattle.hm_elements.proofs.TableTools.{eq_self, same_bytes}
use Rattle.hm_words.specs.Words.{dashed, flags, has, is_flag}
use Rattle.hm_words.specs.Matches.{line}

-- the arguments of the command line as it is built
abbrev pub rules : List Rule
rules = (built line).top.rules

-- a name that is still to be added to the rows
abbrev pub pending_of : Option Text → Option (Text × List Text)
pending_of None = None
pending_of (Some v) = Some (codes "names", v ∷ [])

abbrev pub waiting_of : Option Text → Waiting
waiting_of None = idle
waiting_of (Some v) = positional

-- where the walk stands between two words
abbrev pub stands : List Row → Option Text → Walk
stands rows name = record {
  held = record { rows = rows; pending = pending_of name; skip = 0 };
  waiting = waiting_of name;
  position = 1;
  is_trailing = false;
  stopped = None;
}

-- the rows with that name
abbrev pub with_name : Option Text → List Row → List Row
with_name None rows = rows
with_name (Some v) rows = with_values (codes "names") AsWritten CommandLine (v ∷ []) rows

-- the rows with a flag
abbrev pub with_flag : Text → List Row → List Row
with_flag name rows = with_values name AsWritten CommandLine (codes "true" ∷ []) (without name rows)

-- what holds of each flag holds of a word that is one of them
pub each_flag : (P : Text → Type 0) → P (codes "--comments") → P (codes "--booleans") → P (codes "--empty") → P (codes "--redundant") → P (codes "--doctype") → P (codes "--space")
    → P (codes "--conservative") → P (codes "--omit") → P (codes "--unquote") → P (codes "--tight") → P (codes "--ascii") → P (codes "--sparse") → P (codes "--order") → (w : Text) → has flags w ≡ true → P w
unfolding flags
each_flag P comments booleans empty redundant doctype space conservative omit unquote tight ascii sparse order w =
    here (codes "--comments") _ comments (here (codes "--booleans") _ booleans (here (codes "--empty") _ empty (here (codes "--redundant") _ redundant (here (codes "--doctype") _ doctype
    (here (codes "--space") _ space (here (codes "--conservative") _ conservative (here (codes "--omit") _ omit (here (codes "--unquote") _ unquote (here (codes "--tight") _ tight
    (here (codes "--ascii") _ ascii (here (codes "--sparse") _ sparse (here (codes "--order") _ order (λ e. absurd (true≢false (sym e)))))))))))))))
  where
    here : (known : Text) (more : Bool) → P known → (more ≡ true → P w) → bytes_eq known w || more ≡ true → P w
    here known more this next e = by_test (bytes_eq known w) refl
      where
        by_test : (b : Bool) → bytes_eq known w ≡ b → P w
        by_test true t = subst P (same_bytes known w t) this
        by_test false t = next (rw t at e)

pub bytes_flip : (a b : Text) → bytes_eq a b ≡ bytes_eq b a
bytes_flip a b = by_test (bytes_eq a b) (bytes_eq b a) refl refl
  where
    by_test : (x y : Bool) → bytes_eq a b ≡ x → bytes_eq b a ≡ y → x ≡ y
    by_test true true p q = refl
    by_test false false p q = refl
    by_test true false p q = sym (ap (λ z. bytes_eq z a) (sym (same_bytes a b p)) ∙ eq_self a) ∙ q
    by_test false true p q = sym p ∙ (ap (λ z. bytes_eq z b) (sym (same_bytes b a q)) ∙ eq_self b)

abbrev pub name_of : Text → Text
name_of w = drop 2 w

pub is_dashed : (w : Text) → has flags w ≡ true → w ≡ dashed (name_of w)
is_dashed = each_flag (λ w. w ≡ dashed (name_of w)) refl refl refl refl refl refl refl refl refl refl refl refl refl

pub flag_step : (rows : List Row) (p : Option Text) (w : Text) → has flags w ≡ true → walked rules [] (stands rows p) w ≡ stands (with_flag (name_of w) (with_name p rows)) None
unfolding walked
flag_step rows None = each_flag (λ w. walked rules [] (stands rows None) w ≡ stands (with_flag (name_of w) rows) None) refl refl refl refl refl refl refl refl refl refl refl refl refl
flag_step rows (Some v) = each_flag (λ w. walked rules [] (stands rows (Some v)) w ≡ stands (with_flag (name_of w) (with_name (Some v) rows)) None) refl refl refl refl refl refl refl refl refl refl refl refl refl

pub no_flag : (x : ℕ) (xs : Text) → (x == 45) ≡ false → (bytes_eq (x ∷ xs) (45 ∷ 45 ∷ []) ≡ false) × (long_of (x ∷ xs) ≡ None) × (short_of (x ∷ xs) ≡ None)
no_flag x xs e = (rw e refl, rw e refl, rw e refl)

pub name_step : (rows : List Row) (p : Option Text) (v : Text) → is_flag v ≡ false → walked rules [] (stands rows p) v ≡ stands (with_name p rows) (Some v)
unfolding walked
name_step rows None [] e = refl
name_step rows (Some q) [] e = refl
name_step rows None (x ∷ xs) e = let h = no_flag x xs e in rw (h.0, h.1, h.2) refl
name_step rows (Some q) (x ∷ xs) e = let h = no_flag x xs e in rw (h.0, h.1, h.2) refl
