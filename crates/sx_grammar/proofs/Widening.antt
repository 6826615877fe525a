-- The sorts and productions of a grammar, where sorts and productions stand behind them.
use Rattle.std.proofs.Common.{IsTrue, ◌↔◌, ◌≡◌, ℕ, zero, suc, ◌+◌, ◌<◌, ◌≤◌, Bool, true, false, cond, List, [], ◌∷◌, ◌++◌, length, length-append, map, Some, sym, refl, ap, ◌∙◌, subst, arith, Contains, ◌⊎◌, inl, inr, ⊎_elim}
use Rattle.std.specs.Prelude.{Option, None, is_some, MatchOption, slice_get, option_map, unwrap_or}
use Rattle.std.specs.Prelude.{not, flat_map}
use Rattle.std.specs.Str.{bytes_eq}
use Rattle.std.specs.List.{position_or_len}
use Rattle.std.proofs.lemmas.Option.{slice_get_within, slice_get-map}
use Rattle.std.proofs.lemmas.Bool.{lt-ltb, le-ltb, cases_lt, false≢true}
use Rattle.std.proofs.lemmas.List.{map-append, append-nil}
use Rattle.std.proofs.lemmas.List.Elements.{Contains-append_cases, Contains-append_left, Contains-append_right}
use Rattle.sx_term.specs.Cutting.{AreDistinct}
use Rattle.sx_grammar.specs.declared.symbol.Symbol.{Symbol}
use Rattle.sx_grammar.specs.declared.symbol.Symbol.TheVariants.{Lit, Lex, Part}
use Rattle.sx_grammar.specs.declared.sort_line.SortLine.{SortLine}
use Rattle.sx_grammar.specs.Grammar as plain
use Rattle.sx_grammar.specs.Grammar.{Text}
use Rattle.sx_grammar.specs.Parts.{Line, Parts, names, literals, number_of, symbol_sorts}
use Rattle.sx_grammar.specs.Parts.{bracket_literals, symbol_literals, numbered, numbered_symbol}
use Rattle.sx_grammar.specs.Parts.{numbered_line}
use Rattle.sx_grammar.specs.Standing.{sorts_in}
use Rattle.sx_grammar.specs.Extended.{extended, grown, listed_sort, LacksPair, GrammarGrows}
use Rattle.sx_grammar.specs.Made.{HasNone, HasKnownSorts, IsUnknownSort, IsTyped, MixesSorts}
use Rattle.sx_grammar.proofs.Finding.{named_at, contains_place, at_contains, is_head, past_head, in_flat_map}

module _ {X : Type 0} where
  -- what stands in a list stands there with others behind
  pub got_kept : (xs ys : List X) (i : ℕ) (x : X) → slice_get xs i ≡ Some x → slice_get (xs ++ ys) i ≡ Some x
  got_kept [] ys i x e = let clash : None ≡ Some x = e in cc
  got_kept (z ∷ xs) ys zero x e = e
  got_kept (z ∷ xs) ys (suc i) x e = got_kept xs ys i x e

  -- what stands in two lists, one behind the other, stands in one of them
  pub got_cases : (xs ys : List X) (i : ℕ) (x : X) → slice_get (xs ++ ys) i ≡ Some x → (slice_get xs i ≡ Some x) ⊎ ((j : ℕ) × (slice_get ys j ≡ Some x))
  got_cases [] ys i x e = inr (i, e)
  got_cases (z ∷ xs) ys zero x e = inl e
  got_cases (z ∷ xs) ys (suc i) x e = got_cases xs ys i x e

  pub got_behind : (xs ys : List X) (k n : ℕ) → k ≡ length xs + n → slice_get (xs ++ ys) k ≡ slice_get ys n
  got_behind [] ys k n e = ap (slice_get ys) (omega (arith, e))
  got_behind (x ∷ xs) ys zero n e = absurd (omega (arith, e))
  got_behind (x ∷ xs) ys (suc k) n e = got_behind xs ys k n (omega (arith, e))

-- the first place that passes stays the first
place_stays : (p : Text → Bool) (xs ys : List Text) → position_or_len p xs < length xs → position_or_len p (xs ++ ys) ≡ position_or_len p xs
place_stays p [] ys lt = absurd (omega (arith, lt))
place_stays p (x ∷ xs) ys lt = at_first (not (p x)) refl (place_stays p xs ys)
  where
    at_first : (b : Bool) → not (p x) ≡ b → (position_or_len p xs < length xs → position_or_len p (xs ++ ys) ≡ position_or_len p xs) → position_or_len p (x ∷ (xs ++ ys)) ≡ position_or_len p (x ∷ xs)
    at_first true t rest =
        let within : position_or_len p xs < length xs = let h : 1 + position_or_len p xs < suc (length xs) = rw t at lt in omega (arith, h) in
        rw t (ap (λ n. 1 + n) (rest within))
    at_first false t rest = rw t refl

numbered_within : (xs : List Text) (name : Text) → slice_get xs (number_of xs name) ≡ Some name → position_or_len (λ other. bytes_eq other name) xs < length xs
numbered_within xs name at = by_cases (cases_lt k (length xs))
  where
    k : ℕ
    k = position_or_len (λ other. bytes_eq other name) xs

    by_cases : (k < length xs) ⊎ (length xs ≤ k) → k < length xs
    by_cases (inl lt) = lt
    by_cases (inr le) =
        let past : number_of xs name ≡ length xs = ap (λ b. unwrap_or (cond b (Some k) None) (length xs)) (le-ltb k (length xs) le) in
        absurd (omega (arith, past, slice_get_within xs (number_of xs name) name at))

number_is : (xs : List Text) (name : Text) → position_or_len (λ other. bytes_eq other name) xs < length xs → number_of xs name ≡ position_or_len (λ other. bytes_eq other name) xs
number_is xs name lt = ap (λ b. unwrap_or (cond b (Some (position_or_len (λ other. bytes_eq other name) xs)) None) (length xs)) (lt-ltb (position_or_len (λ other. bytes_eq other name) xs) (length xs) lt)

-- a name that is there keeps its number
pub number_stays : (xs ys : List Text) (name : Text) → ¬ (¬ (Contains xs name)) → number_of (xs ++ ys) name ≡ number_of xs name
number_stays xs ys name known =
    let lt = numbered_within xs name (named_at xs name known) in
    let same = place_stays (λ other. bytes_eq other name) xs ys lt in
    let more : position_or_len (λ other. bytes_eq other name) (xs ++ ys) < length (xs ++ ys) = omega (arith, lt, same, length-append xs ys) in
    number_is (xs ++ ys) name more ∙ same ∙ sym (number_is xs name lt)

-- what is known among the names keeps its numbers
symbols_stay : (ns ms : List Text) (ss : List Symbol) → HasNone (IsUnknownSort ns) (flat_map symbol_sorts ss) → map (numbered_symbol (ns ++ ms)) ss ≡ map (numbered_symbol ns) ss
symbols_stay ns ms [] known = refl
symbols_stay ns ms (Lit text ∷ ss) known = ap (λ l. plain.literal text ∷ l) (symbols_stay ns ms ss known)
symbols_stay ns ms (Lex kind ∷ ss) known = ap (λ l. plain.lexical kind ∷ l) (symbols_stay ns ms ss known)
symbols_stay ns ms (Part name least ∷ ss) known =
    let here = number_stays ns ms name (λ new. known name (is_head name (flat_map symbol_sorts ss)) (inl new)) in
    let rest = symbols_stay ns ms ss (λ x has. known x (past_head name (flat_map symbol_sorts ss) x has)) in
    λ i. plain.part (here i) least ∷ rest i

line_stays : (ns ms : List Text) (r : Line) → HasNone (IsUnknownSort ns) (r.sort ∷ flat_map symbol_sorts r.symbols) → numbered_line (ns ++ ms) r ≡ numbered_line ns r
line_stays ns ms r known =
    let own = number_stays ns ms r.sort (λ new. known r.sort (is_head r.sort (flat_map symbol_sorts r.symbols)) (inl new)) in
    let symbols = symbols_stay ns ms r.symbols (λ x has. known x (past_head r.sort (flat_map symbol_sorts r.symbols) x has)) in
    λ i. record { sort = own i; level = r.level; symbols = symbols i }

lines_stay : (ns ms : List Text) (rs : List Line) → HasNone (IsUnknownSort ns) (sorts_in rs) → map (numbered_line (ns ++ ms)) rs ≡ map (numbered_line ns) rs
lines_stay ns ms [] known = refl
lines_stay ns ms (r ∷ rs) known =
    let own = r.sort ∷ flat_map symbol_sorts r.symbols in
    let first = line_stays ns ms r (λ x has. known x (Contains-append_left own (sorts_in rs) x has)) in
    let rest = lines_stay ns ms rs (λ x has. known x (Contains-append_right own (sorts_in rs) x has)) in
    λ i. first i ∷ rest i

no_name_twice : (xs ys : List Text) (x : Text) → AreDistinct (xs ++ ys) → Contains xs x → Contains ys x → ⊥
no_name_twice xs ys x apart here there =
    let i = contains_place xs x here in
    let j = contains_place ys x there in
    let same : i.0 ≡ length xs + j.0 = apart i.0 (length xs + j.0) x (got_kept xs ys i.0 x i.1) (got_behind xs ys (length xs + j.0) j.0 refl ∙ j.1) in
    omega (arith, same, slice_get_within xs i.0 x i.1)

module _ (p : Parts) (new : List SortLine) (more : List Line) where
  -- the names go on
  pub names_grown : names (grown p new more) ≡ names p ++ map (λ s. s.name) new
  names_grown = map-append (λ s. s.name) p.sorts new

  -- the productions keep the numbers of their sorts
  pub lines_kept : HasKnownSorts p → map (numbered_line (names (grown p new more))) p.productions ≡ map (numbered_line (names p)) p.productions
  lines_kept known = ap (λ ns. map (numbered_line ns) p.productions) names_grown ∙ lines_stay (names p) (map (λ s. s.name) new) p.productions known.1

  pub productions_grown : HasKnownSorts p → (numbered (grown p new more)).productions ≡ (numbered p).productions ++ map (numbered_line (names (grown p new more))) more
  productions_grown known =
      map-append (numbered_line (names (grown p new more))) p.productions more
      ∙ ap (λ l. l ++ map (numbered_line (names (grown p new more))) more) (lines_kept known)

  -- a name that was known is still known
  pub still_known : (xs : List Text) → HasNone (IsUnknownSort (names p)) xs → HasNone (IsUnknownSort (names (grown p new more))) xs
  still_known xs known x has unknown = known x has (⊎_elim
      (λ missing. inl (λ there. missing (subst (λ ns. Contains ns x) (sym names_grown) (Contains-append_left (names p) (map (λ s. s.name) new) x there))))
      (λ lexical. inr lexical)
      unknown)

  -- a sort that was there is typed as before
  typed_before : AreDistinct (names (grown p new more)) → (name : Text) (b : Bool) → ¬ (¬ (Contains (names p) name)) → IsTyped (grown p new more) name b → IsTyped p name b
  typed_before apart name b known typed =
      let s = typed.0 in
      ⊎_elim
      (λ old. (s, old, typed.2, typed.3))
      (λ late.
      let place = contains_place new s late in
      let there : slice_get (map (λ q. q.name) new) place.0 ≡ Some name = slice_get-map (λ q. q.name) new place.0 ∙ ap (option_map (λ q. q.name)) place.1 ∙ ap Some typed.2 in
      absurd (known (λ early. no_name_twice (names p) (map (λ q. q.name) new) name (subst AreDistinct names_grown apart) early (at_contains (map (λ q. q.name) new) place.0 name there))))
      (Contains-append_cases p.sorts new s typed.1)

  -- a production that was there mixes sorts only if it did before
  pub mixed_before : HasKnownSorts p → AreDistinct (names (grown p new more)) → (r : Line) → Contains p.productions r → MixesSorts (grown p new more) r → MixesSorts p r
  mixed_before known apart r has mixed =
      let own = λ (missing : ¬ (Contains (names p) r.sort)).
      known.1 r.sort (in_flat_map (λ q. q.sort ∷ flat_map symbol_sorts q.symbols) p.productions r r.sort has (is_head r.sort (flat_map symbol_sorts r.symbols))) (inl missing) in
      let name = mixed.1.0 in
      let least = mixed.1.1 in
      let part = λ (missing : ¬ (Contains (names p) name)).
      known.1 name (in_flat_map (λ q. q.sort ∷ flat_map symbol_sorts q.symbols) p.productions r name has
      (past_head r.sort (flat_map symbol_sorts r.symbols) name (in_flat_map symbol_sorts r.symbols (Part name least) name mixed.1.2 (is_head name [])))) (inl missing) in
      (typed_before apart r.sort false own mixed.0, (name, least, mixed.1.2, typed_before apart name true part mixed.1.3))

-- a sort without brackets has no literals
literals_listed : (p : Parts) (more : List Line) (sort : Option SortLine) → LacksPair sort → literals (grown p (listed_sort sort) more) ≡ literals (extended p more)
literals_listed p more None lacks = ap (λ ss. literals (record { sorts = ss; productions = p.productions ++ more })) (append-nil p.sorts)
literals_listed p more (Some s) lacks = ap (λ l. l ++ flat_map (λ r. flat_map symbol_literals r.symbols) (p.productions ++ more)) (pairless p.sorts)
  where
    pairless : (ss : List SortLine) → flat_map (λ q. bracket_literals q.brackets) (ss ++ s ∷ []) ≡ flat_map (λ q. bracket_literals q.brackets) ss
    pairless [] = ap (λ b. bracket_literals b ++ []) lacks
    pairless (q ∷ ss) = ap (λ l. bracket_literals q.brackets ++ l) (pairless ss)

pub literals_grown : (p : Parts) (more : List Line) (whole : Parts) → GrammarGrows p more whole → literals whole ≡ literals (extended p more)
literals_grown p more whole grows = ap literals grows.is ∙ literals_listed p more grows.sort grows.plain

pub extended_is : (p : Parts) (more : List Line) → extended p more ≡ grown p [] more
extended_is p more = λ i. record { sorts = sym (append-nil p.sorts) i; productions = p.productions ++ more }

-- what stands behind the sorts of the grammar
pub sort_behind : (ss : List SortLine) (sort : Option SortLine) → slice_get (ss ++ listed_sort sort) (length ss) ≡ sort
sort_behind ss None = got_behind ss [] (length ss) 0 (omega arith)
sort_behind ss (Some s) = got_behind ss (s ∷ []) (length ss) 0 (omega arith)

pub sort_is : (p : Parts) (more : List Line) (whole : Parts) (sort : Option SortLine) (n : ℕ) (s : SortLine) → whole ≡ grown p (listed_sort sort) more → n ≡ length p.sorts → slice_get whole.sorts n ≡ Some s → sort ≡ Some s
sort_is p more whole sort n s is count at =
    sym (sort_behind p.sorts sort) ∙ ap (slice_get (p.sorts ++ listed_sort sort)) (sym count) ∙ ap (λ (w : Parts). slice_get w.sorts n) (sym is) ∙ at

pub sort_is_none : (p : Parts) (more : List Line) (whole : Parts) (sort : Option SortLine) → whole ≡ grown p (listed_sort sort) more → length whole.sorts ≤ length p.sorts → sort ≡ None
sort_is_none p more whole None is few = refl
sort_is_none p more whole (Some s) is few = absurd (omega (arith, few, ap (λ (w : Parts). length w.sorts) is, length-append p.sorts (s ∷ [])))

-- a test that fails
pub no_more : (n m : ℕ) (more : Bool) → (IsTrue more ↔ (n < m)) → more ≡ false → m ≤ n
no_more n m more same is = ⊎_elim (λ lt. absurd (false≢true (sym is ∙ same.1 lt))) (λ le. le) (cases_lt n m)

-- the names of all sorts
pub names_listed : (p : Parts) (more : List Line) (whole : Parts) (sort other : Option SortLine) → whole ≡ grown p (listed_sort sort) more → sort ≡ other → names whole ≡ names p ++ map (λ s. s.name) (listed_sort other)
names_listed p more whole sort other is same =
    ap names is ∙ names_grown p (listed_sort sort) more ∙ ap (λ (o : Option SortLine). names p ++ map (λ s. s.name) (listed_sort o)) same

pub match_weaker : {X : Type 0} (r : Option X) (U : Type 0) (P Q : X → Type 0) → ((x : X) → P x → Q x) → MatchOption r U P → MatchOption r U Q
match_weaker None U P Q on h = h
match_weaker (Some x) U P Q on h = on x h

pub lacks_some : {X : Type 0} (o : Option X) → is_some o ≡ false → o ≡ None
lacks_some None e = refl
lacks_some (Some x) e = absurd (false≢true (sym e))
