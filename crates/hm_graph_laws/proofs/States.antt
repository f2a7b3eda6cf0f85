-- Equality of states is equality.
use Rattle.std.proofs.Common.{◌≡◌, ℕ, List, Option, Some, None, true, refl, ap, ap₂, bytes_eq}
use Rattle.std.proofs.lemmas.Bool.{and_parts}
use Rattle.std.proofs.lemmas.Slice.Eq.{bytes_eq-Decides}
use Rattle.hm_graph_laws.specs.States.{Where, outside, after_omitted_end, self_closed, after_name, after_unquoted, after_quoted, in_unquoted, in_double, in_single, in_section, Pending, nothing, less_than, hash, hash_x, decimal, hexadecimal, ampersand, named, half, one_bracket, two_brackets, State, state, same_where, same_left, same_pending, same_state}

bytes_is : (a b : List ℕ) → bytes_eq a b ≡ true → a ≡ b
bytes_is a b e = (bytes_eq-Decides a b).0 e

bytes_self : (a : List ℕ) → bytes_eq a a ≡ true
bytes_self a = (bytes_eq-Decides a a).1 refl

left_is : (a b : Option (List ℕ)) → same_left a b ≡ true → a ≡ b
left_is None None e = refl
left_is None (Some b) e = absurd (cc)
left_is (Some a) None e = absurd (cc)
left_is (Some a) (Some b) e = ap Some (bytes_is a b e)

left_self : (a : Option (List ℕ)) → same_left a a ≡ true
left_self None = refl
left_self (Some a) = bytes_self a

where_self : (a : Where) → same_where a a ≡ true
where_self outside = refl
where_self after_omitted_end = refl
where_self self_closed = refl
where_self after_name = refl
where_self after_unquoted = refl
where_self after_quoted = refl
where_self in_unquoted = refl
where_self in_double = refl
where_self in_single = refl
where_self in_section = refl

where_is : (a b : Where) → same_where a b ≡ true → a ≡ b
where_is outside outside e = refl
where_is outside after_omitted_end e = absurd (cc)
where_is outside self_closed e = absurd (cc)
where_is outside after_name e = absurd (cc)
where_is outside after_unquoted e = absurd (cc)
where_is outside after_quoted e = absurd (cc)
where_is outside in_unquoted e = absurd (cc)
where_is outside in_double e = absurd (cc)
where_is outside in_single e = absurd (cc)
where_is outside in_section e = absurd (cc)
where_is after_omitted_end outside e = absurd (cc)
where_is after_omitted_end after_omitted_end e = refl
where_is after_omitted_end self_closed e = absurd (cc)
where_is after_omitted_end after_name e = absurd (cc)
where_is after_omitted_end after_unquoted e = absurd (cc)
where_is after_omitted_end after_quoted e = absurd (cc)
where_is after_omitted_end in_unquoted e = absurd (cc)
where_is after_omitted_end in_double e = absurd (cc)
where_is after_omitted_end in_single e = absurd (cc)
where_is after_omitted_end in_section e = absurd (cc)
where_is self_closed outside e = absurd (cc)
where_is self_closed after_omitted_end e = absurd (cc)
where_is self_closed self_closed e = refl
where_is self_closed after_name e = absurd (cc)
where_is self_closed after_unquoted e = absurd (cc)
where_is self_closed after_quoted e = absurd (cc)
where_is self_closed in_unquoted e = absurd (cc)
where_is self_closed in_double e = absurd (cc)
where_is self_closed in_single e = absurd (cc)
where_is self_closed in_section e = absurd (cc)
where_is after_name outside e = absurd (cc)
where_is after_name after_omitted_end e = absurd (cc)
where_is after_name self_closed e = absurd (cc)
where_is after_name after_name e = refl
where_is after_name after_unquoted e = absurd (cc)
where_is after_name after_quoted e = absurd (cc)
where_is after_name in_unquoted e = absurd (cc)
where_is after_name in_double e = absurd (cc)
where_is after_name in_single e = absurd (cc)
where_is after_name in_section e = absurd (cc)
where_is after_unquoted outside e = absurd (cc)
where_is after_unquoted after_omitted_end e = absurd (cc)
where_is after_unquoted self_closed e = absurd (cc)
where_is after_unquoted after_name e = absurd (cc)
where_is after_unquoted after_unquoted e = refl
where_is after_unquoted after_quoted e = absurd (cc)
where_is after_unquoted in_unquoted e = absurd (cc)
where_is after_unquoted in_double e = absurd (cc)
where_is after_unquoted in_single e = absurd (cc)
where_is after_unquoted in_section e = absurd (cc)
where_is after_quoted outside e = absurd (cc)
where_is after_quoted after_omitted_end e = absurd (cc)
where_is after_quoted self_closed e = absurd (cc)
where_is after_quoted after_name e = absurd (cc)
where_is after_quoted after_unquoted e = absurd (cc)
where_is after_quoted after_quoted e = refl
where_is after_quoted in_unquoted e = absurd (cc)
where_is after_quoted in_double e = absurd (cc)
where_is after_quoted in_single e = absurd (cc)
where_is after_quoted in_section e = absurd (cc)
where_is in_unquoted outside e = absurd (cc)
where_is in_unquoted after_omitted_end e = absurd (cc)
where_is in_unquoted self_closed e = absurd (cc)
where_is in_unquoted after_name e = absurd (cc)
where_is in_unquoted after_unquoted e = absurd (cc)
where_is in_unquoted after_quoted e = absurd (cc)
where_is in_unquoted in_unquoted e = refl
where_is in_unquoted in_double e = absurd (cc)
where_is in_unquoted in_single e = absurd (cc)
where_is in_unquoted in_section e = absurd (cc)
where_is in_double outside e = absurd (cc)
where_is in_double after_omitted_end e = absurd (cc)
where_is in_double self_closed e = absurd (cc)
where_is in_double after_name e = absurd (cc)
where_is in_double after_unquoted e = absurd (cc)
where_is in_double after_quoted e = absurd (cc)
where_is in_double in_unquoted e = absurd (cc)
where_is in_double in_double e = refl
where_is in_double in_single e = absurd (cc)
where_is in_double in_section e = absurd (cc)
where_is in_single outside e = absurd (cc)
where_is in_single after_omitted_end e = absurd (cc)
where_is in_single self_closed e = absurd (cc)
where_is in_single after_name e = absurd (cc)
where_is in_single after_unquoted e = absurd (cc)
where_is in_single after_quoted e = absurd (cc)
where_is in_single in_unquoted e = absurd (cc)
where_is in_single in_double e = absurd (cc)
where_is in_single in_single e = refl
where_is in_single in_section e = absurd (cc)
where_is in_section outside e = absurd (cc)
where_is in_section after_omitted_end e = absurd (cc)
where_is in_section self_closed e = absurd (cc)
where_is in_section after_name e = absurd (cc)
where_is in_section after_unquoted e = absurd (cc)
where_is in_section after_quoted e = absurd (cc)
where_is in_section in_unquoted e = absurd (cc)
where_is in_section in_double e = absurd (cc)
where_is in_section in_single e = absurd (cc)
where_is in_section in_section e = refl

pending_self : (p : Pending) → same_pending p p ≡ true
pending_self nothing = refl
pending_self less_than = refl
pending_self hash = refl
pending_self hash_x = refl
pending_self decimal = refl
pending_self hexadecimal = refl
pending_self (ampersand a) = bytes_self a
pending_self (named a) = bytes_self a
pending_self (half a) = left_self a
pending_self one_bracket = refl
pending_self two_brackets = refl

pending_is : (p q : Pending) → same_pending p q ≡ true → p ≡ q
pending_is nothing nothing e = refl
pending_is nothing less_than e = absurd (cc)
pending_is nothing hash e = absurd (cc)
pending_is nothing hash_x e = absurd (cc)
pending_is nothing decimal e = absurd (cc)
pending_is nothing hexadecimal e = absurd (cc)
pending_is nothing (ampersand b) e = absurd (cc)
pending_is nothing (named b) e = absurd (cc)
pending_is nothing (half b) e = absurd (cc)
pending_is nothing one_bracket e = absurd (cc)
pending_is nothing two_brackets e = absurd (cc)
pending_is less_than nothing e = absurd (cc)
pending_is less_than less_than e = refl
pending_is less_than hash e = absurd (cc)
pending_is less_than hash_x e = absurd (cc)
pending_is less_than decimal e = absurd (cc)
pending_is less_than hexadecimal e = absurd (cc)
pending_is less_than (ampersand b) e = absurd (cc)
pending_is less_than (named b) e = absurd (cc)
pending_is less_than (half b) e = absurd (cc)
pending_is less_than one_bracket e = absurd (cc)
pending_is less_than two_brackets e = absurd (cc)
pending_is hash nothing e = absurd (cc)
pending_is hash less_than e = absurd (cc)
pending_is hash hash e = refl
pending_is hash hash_x e = absurd (cc)
pending_is hash decimal e = absurd (cc)
pending_is hash hexadecimal e = absurd (cc)
pending_is hash (ampersand b) e = absurd (cc)
pending_is hash (named b) e = absurd (cc)
pending_is hash (half b) e = absurd (cc)
pending_is hash one_bracket e = absurd (cc)
pending_is hash two_brackets e = absurd (cc)
pending_is hash_x nothing e = absurd (cc)
pending_is hash_x less_than e = absurd (cc)
pending_is hash_x hash e = absurd (cc)
pending_is hash_x hash_x e = refl
pending_is hash_x decimal e = absurd (cc)
pending_is hash_x hexadecimal e = absurd (cc)
pending_is hash_x (ampersand b) e = absurd (cc)
pending_is hash_x (named b) e = absurd (cc)
pending_is hash_x (half b) e = absurd (cc)
pending_is hash_x one_bracket e = absurd (cc)
pending_is hash_x two_brackets e = absurd (cc)
pending_is decimal nothing e = absurd (cc)
pending_is decimal less_than e = absurd (cc)
pending_is decimal hash e = absurd (cc)
pending_is decimal hash_x e = absurd (cc)
pending_is decimal decimal e = refl
pending_is decimal hexadecimal e = absurd (cc)
pending_is decimal (ampersand b) e = absurd (cc)
pending_is decimal (named b) e = absurd (cc)
pending_is decimal (half b) e = absurd (cc)
pending_is decimal one_bracket e = absurd (cc)
pending_is decimal two_brackets e = absurd (cc)
pending_is hexadecimal nothing e = absurd (cc)
pending_is hexadecimal less_than e = absurd (cc)
pending_is hexadecimal hash e = absurd (cc)
pending_is hexadecimal hash_x e = absurd (cc)
pending_is hexadecimal decimal e = absurd (cc)
pending_is hexadecimal hexadecimal e = refl
pending_is hexadecimal (ampersand b) e = absurd (cc)
pending_is hexadecimal (named b) e = absurd (cc)
pending_is hexadecimal (half b) e = absurd (cc)
pending_is hexadecimal one_bracket e = absurd (cc)
pending_is hexadecimal two_brackets e = absurd (cc)
pending_is (ampersand a) nothing e = absurd (cc)
pending_is (ampersand a) less_than e = absurd (cc)
pending_is (ampersand a) hash e = absurd (cc)
pending_is (ampersand a) hash_x e = absurd (cc)
pending_is (ampersand a) decimal e = absurd (cc)
pending_is (ampersand a) hexadecimal e = absurd (cc)
pending_is (ampersand a) (ampersand b) e = ap ampersand (bytes_is a b e)
pending_is (ampersand a) (named b) e = absurd (cc)
pending_is (ampersand a) (half b) e = absurd (cc)
pending_is (ampersand a) one_bracket e = absurd (cc)
pending_is (ampersand a) two_brackets e = absurd (cc)
pending_is (named a) nothing e = absurd (cc)
pending_is (named a) less_than e = absurd (cc)
pending_is (named a) hash e = absurd (cc)
pending_is (named a) hash_x e = absurd (cc)
pending_is (named a) decimal e = absurd (cc)
pending_is (named a) hexadecimal e = absurd (cc)
pending_is (named a) (ampersand b) e = absurd (cc)
pending_is (named a) (named b) e = ap named (bytes_is a b e)
pending_is (named a) (half b) e = absurd (cc)
pending_is (named a) one_bracket e = absurd (cc)
pending_is (named a) two_brackets e = absurd (cc)
pending_is (half a) nothing e = absurd (cc)
pending_is (half a) less_than e = absurd (cc)
pending_is (half a) hash e = absurd (cc)
pending_is (half a) hash_x e = absurd (cc)
pending_is (half a) decimal e = absurd (cc)
pending_is (half a) hexadecimal e = absurd (cc)
pending_is (half a) (ampersand b) e = absurd (cc)
pending_is (half a) (named b) e = absurd (cc)
pending_is (half a) (half b) e = ap half (left_is a b e)
pending_is (half a) one_bracket e = absurd (cc)
pending_is (half a) two_brackets e = absurd (cc)
pending_is one_bracket nothing e = absurd (cc)
pending_is one_bracket less_than e = absurd (cc)
pending_is one_bracket hash e = absurd (cc)
pending_is one_bracket hash_x e = absurd (cc)
pending_is one_bracket decimal e = absurd (cc)
pending_is one_bracket hexadecimal e = absurd (cc)
pending_is one_bracket (ampersand b) e = absurd (cc)
pending_is one_bracket (named b) e = absurd (cc)
pending_is one_bracket (half b) e = absurd (cc)
pending_is one_bracket one_bracket e = refl
pending_is one_bracket two_brackets e = absurd (cc)
pending_is two_brackets nothing e = absurd (cc)
pending_is two_brackets less_than e = absurd (cc)
pending_is two_brackets hash e = absurd (cc)
pending_is two_brackets hash_x e = absurd (cc)
pending_is two_brackets decimal e = absurd (cc)
pending_is two_brackets hexadecimal e = absurd (cc)
pending_is two_brackets (ampersand b) e = absurd (cc)
pending_is two_brackets (named b) e = absurd (cc)
pending_is two_brackets (half b) e = absurd (cc)
pending_is two_brackets one_bracket e = absurd (cc)
pending_is two_brackets two_brackets e = refl

pub same_is : (s t : State) → same_state s t ≡ true → s ≡ t
unfolding same_state
same_is s t e =
    let parts = and_parts (same_where s.at t.at) (same_pending s.pending t.pending) e in
    ap₂ state (where_is s.at t.at parts.0) (pending_is s.pending t.pending parts.1)

pub same_self : (s : State) → same_state s s ≡ true
unfolding same_state
same_self s = rw (where_self s.at, pending_self s.pending) refl
