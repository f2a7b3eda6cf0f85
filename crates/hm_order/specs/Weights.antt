-- Values whose fewest bytes a scan of their characters tells.
use Rattle.std.specs.Prelude.{◌≡◌, ℕ, ◌+◌, ◌≤◌, ◌<◌, nat_le, Bool, true, false, ◌&&◌, ◌||◌, ◌==◌, List, [], ◌∷◌, length, if◌then◌else◌, Option, Some, None, encode_utf8}
use Rattle.std.specs.Option.{option_map}
use Rattle.hm_graph_laws.specs.CharacterEdges.{itself_to}
use Rattle.hm_graph_laws.specs.States.{nothing, Pending}
use Rattle.hm_graph_laws.specs.Steps.{may_end, run}
use Rattle.hm_refs.specs.Names.{Entry}
use Rattle.hm_refs.specs.Plain.{is_plain}
use Rattle.hm_refs.specs.Tables.{entry_at, places_for}
use Rattle.hm_spelling_spec.specs.Characters.{double, is_barred, is_writable, Spot}

-- the bytes of a character as itself
abbrev pub size : ℕ → ℕ
size c = length (encode_utf8 c)

-- Where all characters of a value are of ASCII, as `low` says, no other one counts. So a name for two characters counts only by those
-- that can be in the value.
abbrev pub counted : Bool → ℕ → ℕ → ℕ
counted low c n = if low && nat_le 128 c then 0 else n

-- A character that a value without quotes can't hold is a reference there, of at least three bytes.
abbrev pub weight : Bool → ℕ → ℕ
weight low c = counted low c (if is_barred c then 3 else size c)

abbrev pub total : (ℕ → ℕ) → List ℕ → ℕ
total f [] = 0
total f (c ∷ cs) = f c + total f cs

-- no reference by these names is shorter than what it stands for weighs
abbrev pub AreHeavy : (ℕ → ℕ) → List Entry → List ℕ → Type 0
AreHeavy f t [] = Prim.Unit {0}
AreHeavy f t (i ∷ places) = (total f (entry_at t i).points ≤ length (entry_at t i).name) × AreHeavy f t places

-- no reference to c is shorter than c weighs
pub record IsHeavy (t : List Entry) (low : Bool) (c : ℕ) : Type 0 where
  pub few : size c ≤ 3
  pub names : AreHeavy (weight low) t (places_for c t)

-- A reference to c is never shorter than c, and c may stand as itself in double quotes.
pub record IsEasy (t : List Entry) (ascii low : Bool) (c : ℕ) : Type 0 where
  pub within : low ≡ true → c < 128
  pub writable : is_writable ascii c ≡ true
  pub no_quote : (c == 34) ≡ false
  pub heavy : is_plain t c ≡ false → IsHeavy t low c

abbrev pub AreEasy : List Entry → Bool → Bool → List ℕ → Type 0
AreEasy t ascii low [] = Prim.Unit {0}
AreEasy t ascii low (c ∷ cs) = IsEasy t ascii low c × AreEasy t ascii low cs

-- one of them can't stand in a value without quotes
abbrev pub some_barred : List ℕ → Bool
some_barred [] = false
some_barred (c ∷ cs) = is_barred c || some_barred cs

-- The fewest bytes of an attribute with easy characters alone, by the bytes of its name and of its value: u bytes are counted
-- after a value without quotes, and q after one in quotes. `bare` says whether the value has no quotes.
abbrev pub easy_cost : Bool → ℕ → ℕ → ℕ → ℕ → ℕ
easy_cost bare name value u q = if bare then name + 1 + (value + u) else name + 2 + (value + 1 + q)

-- what is pending after a character as itself; None where its bytes make something else of what was written
abbrev pub literal : List Entry → Spot → Option Pending → ℕ → Option Pending
literal t spot None c = None
literal t spot (Some p) c = option_map (itself_to spot c) (run t spot (Some p) (encode_utf8 c))

-- what is pending after characters as themselves
abbrev pub literals : List Entry → Spot → Option Pending → List ℕ → Option Pending
literals t spot p [] = p
literals t spot p (c ∷ cs) = literals t spot (literal t spot p c) cs

abbrev pub ends : List Entry → Spot → Option Pending → Bool
ends t spot None = false
ends t spot (Some p) = may_end t spot p

-- a value is read as these characters, where each stands as itself in double quotes
abbrev pub are_literal : List Entry → List ℕ → Bool
are_literal t cs = ends t double (literals t double (Some nothing) cs)
