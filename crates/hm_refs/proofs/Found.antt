-- What a table's names say of a prefix, and of the longest name that goes on from it.
use Rattle.std.proofs.Common.{◌≡◌, ℕ, ◌<◌, ◌≤◌, Bool, true, false, cond, ◌&&◌, ◌||◌, ◌==◌, List, [], ◌∷◌, ◌++◌, length, Option, Some, None, refl, sym, ap, ◌∙◌, subst, append_assoc, append-nil, inl, inr, ◌⊎◌, arith, bytes_eq, is_some}
use Rattle.std.proofs.lemmas.Bool.{cases_lt}
use Rattle.std.proofs.lemmas.Slice.Eq.{bytes_eq-Decides}
use Rattle.hm_base.specs.Bytes.{is_letter, is_alnum, is_digit_of, is_null}
use Rattle.hm_refs.specs.Names.{Entry, points_of, is_name, begins, is_front, Found, found_by, or_else, found_here, found, found_longer, longest, is_tail, is_good, last_is}
use Rattle.hm_refs.specs.Tables.{IsIn, first, later, IsTable}
use Rattle.hm_refs.specs.Laws.{IsLongest}
use Rattle.hm_refs.proofs.Bools.{and_left, and_right, no_second, eq_of}

pub or_else_none : (a : Option Found) → or_else a None ≡ a
or_else_none None = refl
or_else_none (Some f) = refl

-- no name, nothing found here
pub here_none : (t : List Entry) (q s : List ℕ) → is_name t q ≡ false → found_here t q s ≡ None
unfolding is_name found_here
here_none t q s e = by_points (points_of t q) e
  where
    by_points : (o : Option (List ℕ)) → is_some o ≡ false → found_by q s o ≡ None
    by_points None h = refl
    by_points (Some ps) h = absurd (cc)

-- a name that is found
pub record IsFound (q s : List ℕ) (f : Option Found) : Type 0 where
  pub points : List ℕ
  pub is : f ≡ Some (record { name = q; points = points; rest = s })

pub here_some : (t : List Entry) (q s : List ℕ) → is_name t q ≡ true → IsFound q s (found_here t q s)
unfolding is_name found_here
here_some t q s e = by_points (points_of t q) e
  where
    by_points : (o : Option (List ℕ)) → is_some o ≡ true → IsFound q s (found_by q s o)
    by_points None h = absurd (cc)
    by_points (Some ps) h = record { points = ps; is = refl }

pub here_found : (t : List Entry) (q ps s : List ℕ) → points_of t q ≡ Some ps → found_here t q s ≡ Some (record { name = q; points = ps; rest = s })
unfolding found_here
here_found t q ps s h = rw h refl

-- ---- prefixes

pub begins_itself : (q : List ℕ) → begins q q ≡ true
begins_itself [] = refl
begins_itself (c ∷ q) = grind (arith, begins_itself q)

pub begins_shorter : (q s n : List ℕ) → begins (q ++ s) n ≡ true → begins q n ≡ true
begins_shorter [] s n h = refl
begins_shorter (c ∷ q) s [] h = absurd (cc)
begins_shorter (c ∷ q) s (d ∷ n) h = grind (arith, begins_shorter q s n)

pub front_longer : (t : List Entry) (q s : List ℕ) → is_front t q ≡ false → is_front t (q ++ s) ≡ false
front_longer [] q s h = refl
front_longer (e ∷ t) q s h = grind (arith, front_longer t q s, begins_shorter q s e.name)

points_step : (e : Entry) (t : List Entry) (q : List ℕ) (b : Bool) → b ≡ bytes_eq e.name q → (is_front t q ≡ false → points_of t q ≡ None) → is_front (e ∷ t) q ≡ false → cond b (Some e.points) (points_of t q) ≡ None
points_step e t q false k more h = more (grind arith)
points_step e t q true k more h =
    let i : e.name ≡ q = (bytes_eq-Decides e.name q).0 (sym k) in
    let j : begins q e.name ≡ true = rw i (begins_itself q) in
    absurd (grind (arith, j))

pub points_front : (t : List Entry) (q : List ℕ) → is_front t q ≡ false → points_of t q ≡ None
points_front [] q h = refl
points_front (e ∷ t) q h = points_step e t q (bytes_eq e.name q) refl (points_front t q) h

-- after what begins no name, nothing is found
pub found_none : (t : List Entry) (q s : List ℕ) → is_front t q ≡ false → found t q s ≡ None
unfolding found_here
found_none t q [] h = rw (points_front t q h) refl
found_none t q (c ∷ s) h = rw (found_none t (q ++ c ∷ []) s (front_longer t q (c ∷ []) h), points_front t q h) refl

-- a name is found, or a longer one
pub found_some : (t : List Entry) (q s : List ℕ) → is_name t q ≡ true → is_some (found t q s) ≡ true
found_some t q [] h = let f = here_some t q [] h in rw f.is refl
found_some t q (c ∷ s) h = let f = here_some t q (c ∷ s) h in by_found (found t (q ++ c ∷ []) s) (found_here t q (c ∷ s)) (rw f.is refl)
  where
    by_found : (a b : Option Found) → is_some b ≡ true → is_some (or_else a b) ≡ true
    by_found None b k = k
    by_found (Some a) b k = refl

-- a name of the table that begins with q
pub record Beginning (t : List Entry) (q : List ℕ) : Type 0 where
  pub entry : Entry
  pub among : IsIn entry t
  pub begins_so : begins q entry.name ≡ true

front_step : (e : Entry) (t : List Entry) (q : List ℕ) (b : Bool) → b ≡ begins q e.name → (is_front t q ≡ true → Beginning t q) → cond b true (is_front t q) ≡ true → Beginning (e ∷ t) q
front_step e t q true k more h = record { entry = e; among = first t; begins_so = sym k }
front_step e t q false k more h = let m = more h in record { entry = m.entry; among = later e t m.among; begins_so = m.begins_so }

pub front_name : (t : List Entry) (q : List ℕ) → is_front t q ≡ true → Beginning t q
front_name [] q h = absurd (cc)
front_name (e ∷ t) q h = front_step e t q (begins q e.name) refl (front_name t q) h

-- the entry that gives a name its points
pub record Entered (t : List Entry) (q ps : List ℕ) : Type 0 where
  pub entry : Entry
  pub among : IsIn entry t
  pub name_is : entry.name ≡ q
  pub points_are : entry.points ≡ ps

entry_step : (e : Entry) (t : List Entry) (q ps : List ℕ) (b : Bool) → b ≡ bytes_eq e.name q → (points_of t q ≡ Some ps → Entered t q ps) → cond b (Some e.points) (points_of t q) ≡ Some ps → Entered (e ∷ t) q ps
entry_step e t q ps true k more h = record { entry = e; among = first t; name_is = (bytes_eq-Decides e.name q).0 (sym k); points_are = cc }
entry_step e t q ps false k more h = let m = more h in record { entry = m.entry; among = later e t m.among; name_is = m.name_is; points_are = m.points_are }

pub entry_of : (t : List Entry) (q ps : List ℕ) → points_of t q ≡ Some ps → Entered t q ps
entry_of [] q ps h = absurd (cc)
entry_of (e ∷ t) q ps h = entry_step e t q ps (bytes_eq e.name q) refl (entry_of t q ps) h

pub entered : (t : List Entry) (q ps : List ℕ) → points_of t q ≡ Some ps → is_name t q ≡ true
unfolding is_name
entered t q ps h = rw h refl

-- ---- children

-- what may be the next byte of a name, after its first
abbrev pub Next : List ℕ → List ℕ → ℕ → Type 0
Next q n c = (is_alnum c ≡ true) ⊎ ((c ≡ 59) × (n ≡ q ++ c ∷ []))

no_more : (q : List ℕ) (c : ℕ) → begins (q ++ c ∷ []) [] ≡ true → ⊥
no_more [] c h = cc
no_more (y ∷ q) c h = cc

more_front : (x d : ℕ) (n q : List ℕ) (c : ℕ) → x ≡ d → Next q n c → Next (x ∷ q) (d ∷ n) c
more_front x d n q c i (inl a) = inl a
more_front x d n q c i (inr (k, m)) = inr (k, rw (i, m) refl)

one_front : (c d : ℕ) (n : List ℕ) → (c == d) ≡ true → (is_alnum d && is_tail n || (d == 59 && is_null n)) ≡ true → Next [] (d ∷ n) c
one_front c d [] b h = elim (is_alnum d) as (λ a. is_alnum d ≡ a → Next [] (d ∷ []) c) [
  | true ↦ λ k. inl (rw (eq_of c d b) k)
  | false ↦ λ k. inr (grind arith, rw (eq_of c d b) refl)
] refl
one_front c d (e ∷ n) b h = inl (rw (eq_of c d b) (grind arith))

tail_front : (q n : List ℕ) (c : ℕ) → begins (q ++ c ∷ []) n ≡ true → is_tail n ≡ true → Next q n c
tail_front [] [] c b h = absurd (cc)
tail_front [] (d ∷ n) c b h = one_front c d n (grind arith) h
tail_front (x ∷ q) [] c b h = absurd (cc)
tail_front (x ∷ q) (d ∷ []) c b h = absurd (no_more q c (grind arith))
tail_front (x ∷ q) (d ∷ e ∷ n) c b h =
    more_front x d (e ∷ n) q c (eq_of x d (and_left (x == d) (begins (q ++ c ∷ []) (e ∷ n)) b))
    (tail_front q (e ∷ n) c (and_right (x == d) (begins (q ++ c ∷ []) (e ∷ n)) b) (no_second (is_alnum d) (is_tail (e ∷ n)) (d == 59) h))

letter_alnum : (c : ℕ) → is_letter c ≡ true → is_alnum c ≡ true
unfolding is_alnum
letter_alnum c h = rw h refl

good_tail : (a b c : ℕ) (s : List ℕ) → is_good (a ∷ b ∷ c ∷ s) ≡ true → is_tail (b ∷ c ∷ s) ≡ true
good_tail a b c s h =
    let h1 = and_right (a == 38) (is_letter b && (is_alnum c && is_tail s)) h in
    let h2 = and_right (is_letter b) (is_alnum c && is_tail s) h1 in
    let l = letter_alnum b (and_left (is_letter b) (is_alnum c && is_tail s) h1) in
    let a' = and_left (is_alnum c) (is_tail s) h2 in
    let t' = and_right (is_alnum c) (is_tail s) h2 in
    rw (l, a', t') refl

good_front : (q n : List ℕ) (c : ℕ) → is_null q ≡ false → begins (q ++ c ∷ []) n ≡ true → is_good n ≡ true → Next q n c
good_front [] n c e b g = absurd (cc)
good_front (x ∷ q) [] c e b g = absurd (cc)
good_front (x ∷ q) (d ∷ []) c e b g = absurd (cc)
good_front (x ∷ q) (d ∷ f ∷ []) c e b g = absurd (cc)
good_front (x ∷ q) (d ∷ f ∷ h ∷ n) c e b g =
    more_front x d (f ∷ h ∷ n) q c (eq_of x d (and_left (x == d) (begins (q ++ c ∷ []) (f ∷ h ∷ n)) b))
    (tail_front q (f ∷ h ∷ n) c (and_right (x == d) (begins (q ++ c ∷ []) (f ∷ h ∷ n)) b) (good_tail d f h n g))

-- the form of a name, without its limit of length
pub good_entry : (t : List Entry) → IsTable t → (e : Entry) → IsIn e t → is_good e.name ≡ true
good_entry t k e i = and_left (is_good e.name) _ (k.good e i)

-- a child of a node is by a letter or digit, or it is a name that ends in ';'
pub child_is : (t : List Entry) → IsTable t → (q : List ℕ) (c : ℕ) → is_null q ≡ false → is_front t (q ++ c ∷ []) ≡ true → (is_alnum c ≡ true) ⊎ ((c ≡ 59) × (is_name t (q ++ c ∷ []) ≡ true))
child_is t k q c e f = let b = front_name t (q ++ c ∷ []) f in by_next b.entry (k.own b.entry b.among) (good_front q b.entry.name c e b.begins_so (good_entry t k b.entry b.among))
  where
    by_next : (e : Entry) → points_of t e.name ≡ Some e.points → Next q e.name c → (is_alnum c ≡ true) ⊎ ((c ≡ 59) × (is_name t (q ++ c ∷ []) ≡ true))
    by_next e o (inl a) = inl a
    by_next e o (inr (i, n)) = inr (i, entered t (q ++ c ∷ []) e.points (subst (λ m. points_of t m ≡ Some e.points) n o))

pub null_append : (q : List ℕ) (c : ℕ) → is_null (q ++ c ∷ []) ≡ false
null_append [] c = refl
null_append (x ∷ q) c = refl

-- ---- the longest

pub found_over : (t : List Entry) (q s : List ℕ) → found t q s ≡ or_else (found_longer t q s) (found_here t q s)
found_over t q [] = refl
found_over t q (c ∷ s) = refl

-- a found name is a name, and after it nothing longer is found
pub record IsLast (t : List Entry) (s : List ℕ) (f : Found) : Type 0 where
  pub cut : f.name ++ f.rest ≡ s
  pub own : points_of t f.name ≡ Some f.points
  pub last : found_longer t f.name f.rest ≡ None

here_last : (t : List Entry) (q s : List ℕ) (f : Found) → found_longer t q s ≡ None → found_here t q s ≡ Some f → IsLast t (q ++ s) f
unfolding found_here
here_last t q s f l h = by_points (points_of t q) refl h
  where
    by_points : (o : Option (List ℕ)) → points_of t q ≡ o → found_by q s o ≡ Some f → IsLast t (q ++ s) f
    by_points None e k = absurd (cc)
    by_points (Some ps) e k =
        let i : record { name = q; points = ps; rest = s } ≡ f = cc in
        subst (λ g. IsLast t (q ++ s) g) i (record { cut = refl; own = e; last = l })

pub found_last : (t : List Entry) (q s : List ℕ) (f : Found) → found t q s ≡ Some f → IsLast t (q ++ s) f
found_last t q [] f h = here_last t q [] f refl h
found_last t q (c ∷ s) f h = by_longer (found t (q ++ c ∷ []) s) refl (λ g e. found_last t (q ++ c ∷ []) s g e) h
  where
    by_longer : (o : Option Found) → found t (q ++ c ∷ []) s ≡ o → ((g : Found) → found t (q ++ c ∷ []) s ≡ Some g → IsLast t ((q ++ c ∷ []) ++ s) g) → or_else o (found_here t q (c ∷ s)) ≡ Some f → IsLast t (q ++ c ∷ s) f
    by_longer None e more k = here_last t q (c ∷ s) f e k
    by_longer (Some g) e more k =
        let i : g ≡ f = cc in
        subst (λ w. IsLast t w f) (append_assoc q (c ∷ []) s) (more f (e ∙ ap Some i))

-- what is found after a prefix is found from its beginning
pub found_front : (t : List Entry) (m q x : List ℕ) (f : Found) → found t (q ++ m) x ≡ Some f → found t q (m ++ x) ≡ Some f
found_front t [] q x f h = subst (λ w. found t w x ≡ Some f) (append-nil q) h
found_front t (c ∷ m) q x f h = rw (found_front t m (q ++ c ∷ []) x f (subst (λ w. found t w x ≡ Some f) (sym (append_assoc q (c ∷ []) m)) h)) refl

-- where nothing is found after a prefix, none of its continuations is a name
pub found_nothing : (t : List Entry) (m q x : List ℕ) → found t q (m ++ x) ≡ None → is_name t (q ++ m) ≡ false
found_nothing t m q x h = by_name (is_name t (q ++ m)) refl
  where
    by_found : (o : Option Found) → found t (q ++ m) x ≡ o → is_some o ≡ true → ⊥
    by_found None e k = cc
    by_found (Some f) e k = let g = found_front t m q x f e in cc

    by_name : (b : Bool) → is_name t (q ++ m) ≡ b → b ≡ false
    by_name false e = refl
    by_name true e = absurd (by_found (found t (q ++ m) x) refl (found_some t (q ++ m) x e))

-- two prefixes of one text: the one with more bytes goes on where the other ends
pub record GoesOn (q n rest : List ℕ) : Type 0 where
  pub head : ℕ
  pub more : List ℕ
  pub after : List ℕ
  pub whole : q ≡ n ++ head ∷ more
  pub left : rest ≡ head ∷ (more ++ after)

goes_after : (c d : ℕ) (q n rest : List ℕ) → c ≡ d → GoesOn q n rest → GoesOn (c ∷ q) (d ∷ n) rest
goes_after c d q n rest i g = record { head = g.head; more = g.more; after = g.after; whole = rw (i, g.whole) refl; left = g.left }

pub goes_on : (q r n rest : List ℕ) → q ++ r ≡ n ++ rest → length n < length q → GoesOn q n rest
goes_on [] r n rest e l = absurd (omega arith)
goes_on (c ∷ q) r [] rest e l = record { head = c; more = q; after = r; whole = refl; left = sym e }
goes_on (c ∷ q) r (d ∷ n) rest e l = goes_after c d q n rest (cc) (goes_on q r n rest (cc) (omega arith))

longer_no : (t : List Entry) (q n rest : List ℕ) → found_longer t n rest ≡ None → GoesOn q n rest → is_name t q ≡ false
longer_no t q n rest l g =
    let e = subst (λ w. found_longer t n w ≡ None) g.left l in
    let f = found_nothing t g.more (n ++ g.head ∷ []) g.after e in
    rw (g.whole, sym (append_assoc n (g.head ∷ []) g.more)) f

-- the plain reading
pub longest_is_longest : (t : List Entry) (s : List ℕ) (f : Found) → longest t s ≡ Some f → IsLongest t s f
longest_is_longest t s f h = let l = found_last t [] s f h in
    record { cut = l.cut; own = l.own; longest = λ q r e n. by_length q r e n l.cut l.last (cases_lt (length f.name) (length q)) }
  where
    by_length : (q r : List ℕ) → q ++ r ≡ s → is_name t q ≡ true → f.name ++ f.rest ≡ s → found_longer t f.name f.rest ≡ None → (length f.name < length q) ⊎ (length q ≤ length f.name) → length q ≤ length f.name
    by_length q r e n cut last (inr le) = le
    by_length q r e n cut last (inl lt) = absurd (let b = longer_no t q f.name f.rest last (goes_on q r f.name f.rest (e ∙ sym cut) lt) in cc)

pub none_is_longest : (t : List Entry) (s : List ℕ) → longest t s ≡ None → (q r : List ℕ) → q ++ r ≡ s → is_name t q ≡ false
none_is_longest t s h q r e = found_nothing t q [] r (rw e h)

-- ---- the form of a table's names

pub good_of : (t : List Entry) → IsTable t → (q ps : List ℕ) → points_of t q ≡ Some ps → is_good q ≡ true
good_of t k q ps h = let e = entry_of t q ps h in subst (λ n. is_good n ≡ true) e.name_is (good_entry t k e.entry e.among)

pub no_empty_name : (t : List Entry) → IsTable t → is_name t [] ≡ false
unfolding is_name
no_empty_name t k = by_points (points_of t []) refl
  where
    by_points : (o : Option (List ℕ)) → points_of t [] ≡ o → is_some o ≡ false
    by_points None e = refl
    by_points (Some ps) e = absurd (let g = good_of t k [] ps e in cc)

-- ---- after a ';'

not_longer : (n : List ℕ) (c : ℕ) → begins (n ++ c ∷ []) n ≡ false
not_longer [] c = refl
not_longer (x ∷ n) c = grind (arith, not_longer n c)

semicolon_no : is_alnum 59 ≡ false
unfolding is_alnum is_letter is_digit_of
semicolon_no = refl

-- nothing goes on after a ';'
pub semicolon_last : (t : List Entry) → IsTable t → (q : List ℕ) (c : ℕ) → is_null q ≡ false → is_front t ((q ++ 59 ∷ []) ++ c ∷ []) ≡ false
semicolon_last t k q c e = by_test (is_front t ((q ++ 59 ∷ []) ++ c ∷ [])) refl
  where
    by_next : (n : List ℕ) → begins ((q ++ 59 ∷ []) ++ c ∷ []) n ≡ true → Next q n 59 → ⊥
    by_next n b (inl a) = let s = semicolon_no in cc
    by_next n b (inr (i, m)) = let s = not_longer n c in let b' = subst (λ x. begins (x ++ c ∷ []) n ≡ true) (sym m) b in cc

    by_test : (b : Bool) → b ≡ is_front t ((q ++ 59 ∷ []) ++ c ∷ []) → b ≡ false
    by_test false h = refl
    by_test true h = let b = front_name t ((q ++ 59 ∷ []) ++ c ∷ []) (sym h) in
        absurd (by_next b.entry.name b.begins_so (good_front q b.entry.name 59 e (begins_shorter (q ++ 59 ∷ []) (c ∷ []) b.entry.name b.begins_so) (good_entry t k b.entry b.among)))

-- what is no name itself begins only longer ones
pub found_not_name : (t : List Entry) (q s : List ℕ) → is_name t q ≡ false → found t q s ≡ found_longer t q s
found_not_name t q [] h = here_none t q [] h
found_not_name t q (c ∷ s) h = rw (here_none t q (c ∷ s) h) (or_else_none (found t (q ++ c ∷ []) s))

-- after a name that ends in ';' nothing longer is found
pub semicolon_longer : (t : List Entry) → IsTable t → (q s : List ℕ) → is_null q ≡ false → found_longer t (q ++ 59 ∷ []) s ≡ None
semicolon_longer t k q [] h = refl
semicolon_longer t k q (c ∷ s) h = found_none t ((q ++ 59 ∷ []) ++ c ∷ []) s (semicolon_last t k q c h)

-- a name that ends in ';' is found as it stands
pub semicolon_found : (t : List Entry) → IsTable t → (q s : List ℕ) → is_null q ≡ false → is_name t (q ++ 59 ∷ []) ≡ true → IsFound (q ++ 59 ∷ []) s (found t (q ++ 59 ∷ []) s)
semicolon_found t k q s h n = let f = here_some t (q ++ 59 ∷ []) s n in
    record { points = f.points; is = rw (found_over t (q ++ 59 ∷ []) s, semicolon_longer t k q s h) f.is }

pub last_append : (q : List ℕ) (c : ℕ) → last_is 59 (q ++ c ∷ []) ≡ (59 == c)
last_append [] c = refl
last_append (x ∷ []) c = refl
last_append (x ∷ y ∷ q) c = last_append (y ∷ q) c
